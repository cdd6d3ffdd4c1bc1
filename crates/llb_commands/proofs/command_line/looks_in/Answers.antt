use Rattle.std.proofs.Common.{codes, ap, subst, sym, ◌∙◌}
use Rattle.clap.specs.Words.{found_of, rows_of}
use Rattle.clap.proofs.WalkLemmas.{first_value-rows}
use Rattle.llb_commands.specs.CommandLine.{IsLooks, looks_by}
use Rattle.llb_commands.proofs.command_line.looks_in.Goals as goal

pub returns-in-Step : goal.returns-in-Step
returns-in-Step c =
    let found = found_of c.args.matches.now in
    subst (λ k. IsLooks k (rows_of found) c.looks_by.result) (sym c.in-Step.is)
    (c.looks_by.ensures ∙ ap looks_by (c.get_str.ensures ∙ first_value-rows found (codes "looks")))
