use Rattle.std.proofs.Common.{◌≡◌, Option, codes, subst, sym, ◌∙◌}
use Rattle.clap.specs.Words.{Text, found_of, rows_of}
use Rattle.clap.proofs.WalkLemmas.{first_value-rows}
use Rattle.llb_commands.specs.CommandLine.{IsFile, either}
use Rattle.llb_commands.proofs.command_line.file_in.Goals as goal

same_either : (o o' p p' : Option Text) → o ≡ o' → p ≡ p' → either o p ≡ either o' p'
same_either o o' p p' q r = λ i. either (q i) (r i)

pub returns-in-Step : goal.returns-in-Step
returns-in-Step c =
    let found = found_of c.args.matches.now in
    subst (λ k. IsFile k (rows_of found) c.get_str.result) (sym c.in-Step.is) (c.get_str.ensures ∙ first_value-rows found (codes "file"))

pub returns-in-Show : goal.returns-in-Show
returns-in-Show c =
    let found = found_of c.args.matches.now in
    let older = c.get_str-in-Show.ensures ∙ first_value-rows found (codes "matches") in
    let newer = c.get_str-in-Show-2.ensures ∙ first_value-rows found (codes "agrees") in
    subst (λ k. IsFile k (rows_of found) c.either.result) (sym c.in-Show.is)
    (c.either.ensures ∙ same_either _ _ _ _ older newer)
