use Rattle.std.proofs.Common.{List, ap, map, option_map, subst, sym, ◌∙◌}
use Rattle.clap.specs.Simple.{is_simple, subcommand_of}
use Rattle.clap.specs.Words.{HasKind, Row, Text, fault_of, found_of, is_simple_and_free, kind_of, rows_of}
use Rattle.llb_commands.proofs.SubcommandEntry.{met_named}
use Rattle.llb_commands.proofs.ArgumentMatches.{by_clap, by_word, own_words}
use Rattle.llb_commands.specs.CommandLine.{llbm_app, named_local_words, RefusesWord}
use Rattle.llb_commands.specs.HelpPages.{page_for}
use Rattle.llb_commands.proofs.command_line.line_or_page.Goals as goal

pub command_named-requires : goal.command_named-requires
command_named-requires g c =
    let words = map g.S.AsStr.text c.args.words.now in
    let app = c.in_ok-command.ensures in
    let met = (c.in-Ok.ensures.matches (ap is_simple app)).1 ∙ ap (λ a. subcommand_of a words) app in
    met_named c.in-Ok.matches words c.in-Some.name.now met c.in-Some.ensures.name

pub returns-clause-refuses : goal.returns-clause-refuses
returns-clause-refuses g c =
    let app = c.in_ok-command.ensures in
    ap (λ a. fault_of a (map g.S.AsStr.text c.args.words.now)) (sym app) ∙ c.in-Ok.ensures.kinds (ap is_simple_and_free app)

pub returns-in-Some-clause-refuses : goal.returns-in-Some-clause-refuses
returns-in-Some-clause-refuses g c =
    let app = c.in_ok-command.ensures in
    ap (λ a. fault_of a (map g.S.AsStr.text c.args.words.now)) (sym app) ∙ c.in-Ok.ensures.kinds (ap is_simple_and_free app)

pub returns-in-Err-clause-refuses : goal.returns-in-Err-clause-refuses
returns-in-Err-clause-refuses g c =
    let words = map g.S.AsStr.text c.args.words.now in
    let app = c.in_ok-command.ensures in
    let kind = kind_of c.in-Err.error in
    by_clap (fault_of llbm_app words) (named_local_words (subcommand_of llbm_app words)) words kind c.refused_by-fault.result c.page_for-page.result.now
    (subst (λ a. HasKind (fault_of a words) c.in-Err.error) app (c.in-Err.ensures.kinds (ap is_simple_and_free app))) c.refused_by-fault.ensures
    (c.page_for-page.ensures ∙ (ap (λ k. page_for k c.named_first.result) c.kind.ensures ∙ ap (page_for kind) c.named_first.ensures))

pub returns-in_err-line_of-in-Some-clause-refuses : goal.returns-in_err-line_of-in-Some-clause-refuses
returns-in_err-line_of-in-Some-clause-refuses g c =
    let words = map g.S.AsStr.text c.args.words.now in
    let app = c.in_ok-command.ensures in
    let met = (c.in-Ok.ensures.matches (ap is_simple app)).1 ∙ ap (λ a. subcommand_of a words) app in
    let rows = c.in-Some.ensures.rows ∙ ap (option_map (λ (p : Text × List Row). p.1)) met in
    let same = own_words (subcommand_of llbm_app words) (rows_of (found_of c.in-Some.own.now)) rows in
    let fault = c.in_err-line_of-in-Some.field-0.0 in
    by_word (fault_of llbm_app words) (named_local_words (subcommand_of llbm_app words)) words fault c.from_residual-in_err-line_of-in-Some.result
    (ap (λ a. fault_of a words) (sym app) ∙ c.in-Ok.ensures.kinds (ap is_simple_and_free app))
    (subst (λ ws. RefusesWord ws fault) same c.in_err-line_of-in-Some.ensures.refuses) c.from_residual-in_err-line_of-in-Some.ensures.1
