use Rattle.std.proofs.Common.{◌≡◌, List, length, Option, refl, sym, ap, ◌∙◌}
use Rattle.llb_applet.specs.Commands.{run, left, status_of}
use Rattle.llb_mount.specs.declared.shown_tree.Shown.{Shown}
use Rattle.llb_model.specs.Program.{filled}
use Rattle.llb_model.proofs.ViewSplitting.{parts_count}
use Rattle.llb_execution.proofs.CommandMountCounts.{ran_as_many, on_err}
use Rattle.llb_execution.proofs.TreeExchanges.{there_and_back, as_many_filled, within_as_many, undone, parted_so}
use Rattle.llb_execution.proofs.MicroStepResults.{command_left}
use Rattle.llb_execution.proofs.commands_on_caches.run_filled.Goals as goal

-- ---- the way back

pub swap_all-spare-requires-2-clause-within : goal.swap_all-spare-requires-2-clause-within
swap_all-spare-requires-2-clause-within c =
    let ran = c.run_command-ran in
    within_as_many c.args.mounts.now ran.new.view c.args.numbers.now c.requires.within
    (ran_as_many ran.result c.args.setting.now c.swap_all-spare.new.mounts ran.new.view c.args.command.now ran.ensures.view ran.ensures.err
    ∙ ap length c.swap_all-spare.ensures.mounts ∙ as_many_filled c.args.mounts.now c.args.numbers.now c.args.trees.now.items)

pub swap_all-spare-requires-2-clause-count : goal.swap_all-spare-requires-2-clause-count
swap_all-spare-requires-2-clause-count c =
    ap length c.swap_all-spare.ensures.trees ∙ parts_count c.args.numbers.now c.args.trees.now.items c.args.mounts.now ∙ c.requires.count

pub returns-in_err-status-clause-err : goal.returns-in_err-status-clause-err
returns-in_err-status-clause-err c =
    let way = there_and_back c.requires.apart c.requires.within c.requires.count c.swap_all-spare.ensures.mounts c.swap_all-spare.ensures.trees
    c.swap_all-spare-2.ensures.mounts c.swap_all-spare-2.ensures.trees in
    on_err c.from_residual-in_err-status.result (undone way c.in_err-status.ensures.err)

-- ---- a command that ends with another status than 0

pub returns-then-status-ne0-clause-left : goal.returns-then-status-ne0-clause-left
returns-then-status-ne0-clause-left c =
    let ran = c.run_command-ran in
    let back = c.swap_all-spare-2.new in
    let way = there_and_back c.requires.apart c.requires.within c.requires.count c.swap_all-spare.ensures.mounts c.swap_all-spare.ensures.trees
    c.swap_all-spare-2.ensures.mounts c.swap_all-spare-2.ensures.trees in
    let started = c.swap_all-spare.new.mounts in
    let numbers = c.args.numbers.now in
    let trees = c.args.trees.now.items in
    let ends : List Shown → Option (List Shown) = λ mounts. run c.args.setting.now mounts c.args.command.now in
    let same : ends started ≡ ends (filled c.args.mounts.now numbers trees) = ap ends c.swap_all-spare.ensures.mounts in
    command_left (ends (filled c.args.mounts.now numbers trees)) c.args.mounts.now started ran.new.view back.mounts c.from-then-status-ne0.result
    numbers trees back.trees.items
    (c.from-then-status-ne0.ensures ∙ c.in_ok-status.ensures.status ∙ ap status_of same)
    (c.in_ok-status.ensures.view ∙ ap (left started) same)
    (λ none. absurd (c.if-status-ne0.true (sym c.from-then-status-ne0.ensures ∙ none)))
    (λ fails. undone way (c.in_ok-status.ensures.kept c.if-status-ne0.true))

-- ---- one that ends with 0

pub swap_all-requires-clause-within : goal.swap_all-requires-clause-within
swap_all-requires-clause-within c =
    let ran = c.run_command-ran in
    within_as_many c.args.mounts.now c.swap_all-spare-2.new.mounts c.args.numbers.now c.requires.within
    (ap length c.swap_all-spare-2.ensures.mounts ∙ as_many_filled ran.new.view c.args.numbers.now c.swap_all-spare.new.trees.items
    ∙ ran_as_many ran.result c.args.setting.now c.swap_all-spare.new.mounts ran.new.view c.args.command.now ran.ensures.view ran.ensures.err
    ∙ ap length c.swap_all-spare.ensures.mounts ∙ as_many_filled c.args.mounts.now c.args.numbers.now c.args.trees.now.items)

pub returns-clause-left : goal.returns-clause-left
returns-clause-left c =
    let ran = c.run_command-ran in
    let back = c.swap_all-spare-2.new in
    let way = there_and_back c.requires.apart c.requires.within c.requires.count c.swap_all-spare.ensures.mounts c.swap_all-spare.ensures.trees
    c.swap_all-spare-2.ensures.mounts c.swap_all-spare-2.ensures.trees in
    let started = c.swap_all-spare.new.mounts in
    let numbers = c.args.numbers.now in
    let trees = c.args.trees.now.items in
    let ends : List Shown → Option (List Shown) = λ mounts. run c.args.setting.now mounts c.args.command.now in
    let same : ends started ≡ ends (filled c.args.mounts.now numbers trees) = ap ends c.swap_all-spare.ensures.mounts in
    command_left (ends (filled c.args.mounts.now numbers trees)) c.args.mounts.now started ran.new.view c.swap_all.new.mounts 0
    numbers trees back.trees.items
    (sym c.if-status-ne0.false ∙ c.in_ok-status.ensures.status ∙ ap status_of same)
    (c.in_ok-status.ensures.view ∙ ap (left started) same)
    (λ done. parted_so way c.in_ok-blanks.blanks.items c.swap_all.new.mounts c.in_ok-blanks.ensures c.swap_all.ensures.mounts)
    (λ fails. absurd (fails refl))
