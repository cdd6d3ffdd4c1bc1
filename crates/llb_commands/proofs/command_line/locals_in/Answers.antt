use Rattle.std.proofs.Common.{[], codes, map, ap, sym, subst, ◌∙◌}
use Rattle.std.specs.Prelude.{IfOk, IfErr, unwrap_or}
use Rattle.clap.specs.Words.{found_of}
use Rattle.llb_commands.specs.CommandLine.{AreSplit, RefusesWord, named_file}
use Rattle.llb_commands.proofs.ArgumentMatches.{words_in_rows}
use Rattle.llb_commands.proofs.command_line.locals_in.Goals as goal

pub returns-in-Some-clause-split : goal.returns-in-Some-clause-split
returns-in-Some-clause-split c =
    let words = c.in-Some.ensures ∙ words_in_rows (found_of c.args.matches.now) (codes "local") in
    subst (λ o. IfOk c.split_words.result (AreSplit (unwrap_or o []))) words c.split_words.ensures.split

pub returns-in-Some-clause-refuses : goal.returns-in-Some-clause-refuses
returns-in-Some-clause-refuses c =
    let words = c.in-Some.ensures ∙ words_in_rows (found_of c.args.matches.now) (codes "local") in
    subst (λ o. IfErr c.split_words.result (RefusesWord (unwrap_or o []))) words c.split_words.ensures.refuses

pub returns-in-None-clause-split : goal.returns-in-None-clause-split
returns-in-None-clause-split c =
    subst (λ o. AreSplit (unwrap_or o []) c.new-in-None.result) (c.in-None.ensures ∙ words_in_rows (found_of c.args.matches.now) (codes "local"))
    (ap (map named_file) (sym (c.new-in-None.ensures ∙ c.new.ensures.items)))
