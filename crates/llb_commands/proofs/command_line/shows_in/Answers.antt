use Rattle.std.proofs.Common.{◌≡◌, Bool, Option, Some, None, codes, map, option_map, refl, ap, subst, sym, ◌∙◌}
use Rattle.std.specs.Prelude.{is_some}
use Rattle.clap.specs.Words.{all_of, first_of, found_of, rows_of}
use Rattle.clap.proofs.WalkLemmas.{first_value-rows}
use Rattle.llb_commands.specs.CommandLine.{IsShows, is_set, shows_by}
use Rattle.llb_commands.proofs.ArgumentMatches.{words_in_rows}
use Rattle.llb_commands.proofs.command_line.shows_in.Goals as goal

same_some : {A B : Type 0} (f : A → B) (o : Option A) → is_some o ≡ is_some (option_map f o)
same_some f None = refl
same_some f (Some x) = refl

same_six : (a a' b b' d d' e e' f f' g g' : Bool) → a ≡ a' → b ≡ b' → d ≡ d' → e ≡ e' → f ≡ f' → g ≡ g' → shows_by a b d e f g ≡ shows_by a' b' d' e' f' g'
same_six a a' b b' d d' e e' f f' g g' p q r s t u = λ i. shows_by (p i) (q i) (r i) (s i) (t i) (u i)

pub returns-in-Show : goal.returns-in-Show
returns-in-Show c =
    let found = found_of c.args.matches.now in
    let rows = rows_of found in
    let findings = c.is_set.ensures ∙ ap is_set (c.get_str.ensures ∙ first_value-rows found (codes "findings")) in
    let plan = c.is_set-in-Show.ensures ∙ ap is_set (c.get_str-in-Show.ensures ∙ first_value-rows found (codes "plan")) in
    let old = c.is_some.ensures ∙ same_some (λ w. w.now) c.get_str-in-Show-2.result
    ∙ ap is_some (c.get_str-in-Show-2.ensures ∙ first_value-rows found (codes "matches")) in
    let ops = c.is_set-in-Show-2.ensures ∙ ap is_set (c.get_str-in-Show-3.ensures ∙ first_value-rows found (codes "ops")) in
    let newer = c.is_some-in-Show.ensures ∙ same_some (λ w. w.now) c.get_str-in-Show-4.result
    ∙ ap is_some (c.get_str-in-Show-4.ensures ∙ first_value-rows found (codes "agrees")) in
    let named = c.is_some-in-Show-2.ensures ∙ same_some (λ s. map (λ v. v.now) s.now) c.get_strs.result
    ∙ ap is_some (c.get_strs.ensures ∙ words_in_rows found (codes "local")) in
    subst (λ k. IsShows k rows c.shows_by.result) (sym c.in-Show.is)
    (c.shows_by.ensures ∙ same_six _ _ _ _ _ _ _ _ _ _ _ _ findings plan old ops newer named)
