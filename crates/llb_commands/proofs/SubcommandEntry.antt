-- The subcommand that the words enter is one of the program's.
use Rattle.std.proofs.Common.{◌≡◌, Bool, true, false, cond, List, [], ◌∷◌, ◌⊎◌, Option, Some, None, option_map, inl, inr, refl, sym, ap, subst, ◌∙◌}
use Rattle.std.specs.Prelude.{Box, find}
use Rattle.std.specs.Box.{box_value}
use Rattle.clap.specs.Walk.{answers_to, stop_after}
use Rattle.clap.specs.Simple.{Shape, argument_words, built, entered, label_of, names_of, rows_at, subcommand_rows, subcommand_rows_of}
use Rattle.clap.specs.Matches.{subcommand_name_of}
use Rattle.clap.specs.Words.{Row, Text, subcommand_of}
use Rattle.clap.specs.declared.parser.matches.ArgMatches.{ArgMatches}
use Rattle.clap.specs.declared.parser.matches.ArgMatches.TheViews.{out-ArgMatches, out-SubCommand}
use Rattle.clap.specs.declared.parser.matches.SubCommand.{SubCommand}
use Rattle.llb_commands.specs.CommandLine.{llbm_app, IsName}

-- one of the commands has the name
abbrev IsNameIn : List Shape → Text → Type 0
IsNameIn [] n = ⊥
IsNameIn (s ∷ subs) n = (n ≡ s.name) ⊎ IsNameIn subs n

-- the first that passes is one of them
found_named : (test : Shape → Bool) (words : List Text) (subs : List Shape) (p : Text × List Row)
    → option_map (λ s. rows_at s words) (find test subs) ≡ Some p → IsNameIn subs p.0
found_named test words [] p is = absurd cc
found_named test words (s ∷ subs) p is =
    elim (test s) as (λ b. option_map (λ x. rows_at x words) (cond b (Some s) (find test subs)) ≡ Some p → IsNameIn (s ∷ subs) p.0) [
      | true ↦ λ e. let same : rows_at s words ≡ p = cc in inl (ap (λ (q : Text × List Row). q.0) (sym same))
      | false ↦ λ e. inr (found_named test words subs p e)
    ] is

one_of_five : (n : Text) → IsNameIn (built llbm_app).subs n → IsName n
one_of_five n (inl run) = inl run
one_of_five n (inr (inl show)) = inr (inl show)
one_of_five n (inr (inr (inl step))) = inr (inr (inl step))
one_of_five n (inr (inr (inr (inl asm)))) = inr (inr (inr (inl asm)))
one_of_five n (inr (inr (inr (inr (inl dis))))) = inr (inr (inr (inr dis)))
one_of_five n (inr (inr (inr (inr (inr none))))) = absurd none

entered_named : (stop : Option (Text × List Text)) (p : Text × List Row) → entered (built llbm_app) stop ≡ Some p → IsName p.0
entered_named None p is = absurd cc
entered_named (Some q) p is = one_of_five p.0 (found_named (λ s. answers_to q.0 (label_of s)) q.1 (built llbm_app).subs p is)

abbrev first_of : Text × List Row → Text
first_of p = p.0

module _ {Z : Type 0} where
  same_name : (o : Option (Box SubCommand Z)) → option_map (λ b. (out-SubCommand (box_value b)).name.now) o ≡ option_map first_of (subcommand_rows o)
  same_name None = refl
  same_name (Some b) = refl

by_rows : (o : Option (Text × List Row)) (n : Text) → option_map first_of o ≡ Some n → ((p : Text × List Row) → o ≡ Some p → IsName p.0) → IsName n
by_rows None n is named = absurd cc
by_rows (Some p) n is named = let same : p.0 ≡ n = cc in subst IsName same (named p refl)

-- the name of the subcommand that a parse met
pub met_named : (m : ArgMatches) (words : List Text) (n : Text) → subcommand_rows_of m ≡ subcommand_of llbm_app words → Some n ≡ subcommand_name_of m → IsName n
met_named m words n rows name =
    let app = built llbm_app in
    by_rows (subcommand_of llbm_app words) n (ap (option_map first_of) (sym rows) ∙ sym (same_name (out-ArgMatches m).subcommand) ∙ sym name)
    (entered_named (stop_after app.top.rules (names_of app) (argument_words llbm_app words)))
