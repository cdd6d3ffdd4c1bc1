use Rattle.std.proofs.Common.{codes, ap, subst, sym, ◌∙◌}
use Rattle.clap.specs.Words.{found_of, rows_of}
use Rattle.clap.proofs.WalkLemmas.{first_value-rows}
use Rattle.llb_commands.specs.CommandLine.{IsEnds, is_set}
use Rattle.llb_commands.proofs.command_line.ends_in.Goals as goal

pub returns-in-Step : goal.returns-in-Step
returns-in-Step c =
    let found = found_of c.args.matches.now in
    subst (λ k. IsEnds k (rows_of found) c.is_set.result) (sym c.in-Step.is)
    (c.is_set.ensures ∙ ap is_set (c.get_str.ensures ∙ first_value-rows found (codes "ends")))
