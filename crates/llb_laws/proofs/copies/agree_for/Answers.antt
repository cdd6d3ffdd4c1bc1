use Rattle.std.proofs.Common.{sym, ap, ◌∙◌}
use Rattle.llb_tree.specs.Path.{path_of}
use Rattle.llb_glob.specs.Pattern.{pattern_of}
use Rattle.llb_fileop.specs.Copying.{OnePath, EachMatch}
use Rattle.llb_laws.specs.CopiedPaths.{AgreeFor, AgreeOn}
use Rattle.llb_laws.proofs.TreesBelow.{agree_by_choice, choice_of_path, choice_of_pattern, with_ok}
use Rattle.llb_laws.proofs.copies.agree_for.Goals as goal

pub returns-in-Ok : goal.returns-in-Ok
returns-in-Ok c =
    let action = c.args.action.now in
    let t = c.args.first.now in
    let u = c.args.second.now in
    let pattern = c.in-Ok.pattern in
    with_ok c.agree_on_matches.result (AgreeOn t u (EachMatch pattern)) (AgreeFor action t u)
    (agree_by_choice action t u (EachMatch pattern)
    (choice_of_pattern action pattern c.if-action.true (ap pattern_of (sym c.as_str.ensures.value) ∙ c.in-Ok.ensures.gives)))
    c.agree_on_matches.ensures

pub returns-in-Ok-read : goal.returns-in-Ok-read
returns-in-Ok-read c =
    let action = c.args.action.now in
    let t = c.args.first.now in
    let u = c.args.second.now in
    let path = c.in-Ok-read.path in
    with_ok c.agree_below.result (AgreeOn t u (OnePath path)) (AgreeFor action t u)
    (agree_by_choice action t u (OnePath path)
    (choice_of_path action path c.if-action.false (ap path_of (sym c.as_str-2.ensures.value) ∙ c.in-Ok-read.ensures.gives)))
    c.agree_below.ensures
