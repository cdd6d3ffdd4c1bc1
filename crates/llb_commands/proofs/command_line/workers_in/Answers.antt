use Rattle.std.proofs.Common.{codes, ap, subst, sym, ◌∙◌}
use Rattle.std.specs.Prelude.{option_and_then, unwrap_or}
use Rattle.clap.specs.Words.{found_of, one_text, rows_of}
use Rattle.clap.proofs.WalkLemmas.{one_text-rows}
use Rattle.llb_commands.specs.CommandLine.{IsWorkers, number_of}
use Rattle.llb_commands.proofs.NumberParsing.{number_read}
use Rattle.llb_commands.proofs.command_line.workers_in.Goals as goal

pub returns-in-Step : goal.returns-in-Step
returns-in-Step c =
    let found = found_of c.args.matches.now in
    let read = number_read (one_text found (codes "workers")) c.get_one-in-Step.result c.get_one-in-Step.ensures.none c.get_one-in-Step.ensures.value in
    subst (λ k. IsWorkers k (rows_of found) c.unwrap_or-in-Step.result) (sym c.in-Step.is)
    (c.unwrap_or-in-Step.ensures ∙ ap (λ o. unwrap_or o 2) (read ∙ ap (option_and_then number_of) (one_text-rows found (codes "workers"))))

pub returns-in-Run : goal.returns-in-Run
returns-in-Run c =
    let found = found_of c.args.matches.now in
    let read = number_read (one_text found (codes "workers")) c.get_one.result c.get_one.ensures.none c.get_one.ensures.value in
    subst (λ k. IsWorkers k (rows_of found) c.unwrap_or.result) (sym c.in-Run.is)
    (c.unwrap_or.ensures ∙ ap (λ o. unwrap_or o 1) (read ∙ ap (option_and_then number_of) (one_text-rows found (codes "workers"))))
