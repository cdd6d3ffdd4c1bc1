-- What the definitions say of `step` at words that are written out.
use Rattle.std.proofs.Common.{◌≡◌, ◌∙◌, ap, sym, ℕ, false, true≢false, List, [], ◌∷◌, Option, Some, None, codes, option_map, refl}
use Rattle.std.specs.Prelude.{option_and_then, unwrap_or}
use Rattle.std.specs.Borrow.{Bor}
use Rattle.std.specs.Str.{bytes_eq}
use Rattle.clap.specs.Words.{Row, Text, fault_of, first_of, one_of, subcommand_of}
use Rattle.clap.specs.declared.error.kind.ErrorKind.TheVariants as kind
use Rattle.clap.proofs.OnLiterals.{clap_on_literals}
use Rattle.llb_commands.specs.CommandLine.{llbm_app, IsFile, IsWorkers, Says, local_words, matches_named, name_of, named, number_of}
use Rattle.llb_commands.specs.declared.command_line_words.Command.{Command}
use Rattle.llb_commands.specs.declared.command_line_words.Command.TheVariants.{Run, Show, Step, Assemble, Disassemble}
use Rattle.llb_commands.specs.declared.command_line_words.Line.{Line}

abbrev after_step : List Text → List Text
after_step words = codes "step" ∷ words

-- the workers, the file and the words for local sources
abbrev said : List Text → Text × Option ℕ × Option Text × List Text
said words =
    let met = subcommand_of llbm_app (after_step words) in
    let rows = matches_named met in
    (named met, option_and_then number_of (one_of (codes "workers") rows), first_of (codes "file") rows, local_words rows)

-- the looks are refused without the option, and allowed with it, wherever it is
abbrev looks_said : List Text → Option Text
looks_said words = first_of (codes "looks") (matches_named (subcommand_of llbm_app (after_step words)))

no_looks : looks_said (codes "FILE" ∷ []) ≡ Some (codes "false")
unfolding clap_on_literals
no_looks = refl

looks_before : looks_said (codes "--looks" ∷ codes "FILE" ∷ []) ≡ Some (codes "true")
unfolding clap_on_literals
looks_before = refl

looks_behind : looks_said (codes "FILE" ∷ codes "a=b" ∷ codes "--looks" ∷ []) ≡ Some (codes "true")
unfolding clap_on_literals
looks_behind = refl

file_alone : said (codes "FILE" ∷ []) ≡ (codes "step", None, Some (codes "FILE"), [])
unfolding clap_on_literals
file_alone = refl

workers_behind : said (codes "FILE" ∷ codes "a=b" ∷ codes "--workers" ∷ codes "3" ∷ codes "c=d" ∷ [])
    ≡ (codes "step", Some 3, Some (codes "FILE"), codes "a=b" ∷ codes "c=d" ∷ [])
unfolding clap_on_literals
workers_behind = refl

workers_before : said (codes "--workers" ∷ codes "64" ∷ codes "x=y" ∷ []) ≡ (codes "step", Some 64, Some (codes "x=y"), [])
unfolding clap_on_literals
workers_before = refl

other_name : (name : Text) → bytes_eq name (codes "step") ≡ false → name ≡ codes "step" → ⊥
other_name name differs is = true≢false (ap (λ t. bytes_eq t (codes "step")) (sym is) ∙ differs)

-- a line that is named `step` has the workers and the file of its matches
by_name : (k : Command) (rows : List Row) (n : ℕ) (file : Option (Bor Text)) → name_of k ≡ codes "step" → IsWorkers k rows n → IsFile k rows file
    → (n ≡ unwrap_or (option_and_then number_of (one_of (codes "workers") rows)) 2) × (option_map (λ w. w.now) file ≡ first_of (codes "file") rows)
by_name Step rows n file is workers at = (workers, at)
by_name Run rows n file is workers at = absurd (other_name (codes "run") refl is)
by_name Show rows n file is workers at = absurd (other_name (codes "show") refl is)
by_name Assemble rows n file is workers at = absurd (other_name (codes "asm") refl is)
by_name Disassemble rows n file is workers at = absurd (other_name (codes "dis") refl is)

abbrev three_workers : List Text
three_workers = codes "FILE" ∷ codes "--workers" ∷ codes "3" ∷ codes "a=b" ∷ []

abbrev three_met : Option (Text × List Row)
three_met = subcommand_of llbm_app (after_step three_workers)

-- no line says these words but one with 3 workers, whose file is not the last word
says_three : (line : Line) → Says three_met line → (line.workers ≡ 3) × (option_map (λ w. w.now) line.file ≡ Some (codes "FILE"))
unfolding clap_on_literals
says_three line says = by_name line.command (matches_named three_met) line.workers line.file says.command says.workers says.file

is_taken : fault_of llbm_app (after_step three_workers) ≡ []
unfolding clap_on_literals
is_taken = refl

wants_file : fault_of llbm_app (after_step []) ≡ kind.MissingRequiredArgument ∷ []
unfolding clap_on_literals
wants_file = refl

twice : fault_of llbm_app (after_step (codes "f" ∷ codes "--workers" ∷ codes "3" ∷ codes "--workers" ∷ codes "3" ∷ [])) ≡ kind.ArgumentConflict ∷ []
unfolding clap_on_literals
twice = refl

no_number : fault_of llbm_app (after_step (codes "f" ∷ codes "--workers" ∷ [])) ≡ kind.InvalidValue ∷ []
unfolding clap_on_literals
no_number = refl

other_word : fault_of llbm_app (after_step (codes "f" ∷ codes "--workers" ∷ codes "x" ∷ [])) ≡ kind.ValueValidation ∷ []
unfolding clap_on_literals
other_word = refl

too_large : fault_of llbm_app (after_step (codes "f" ∷ codes "--workers" ∷ codes "4294967296" ∷ [])) ≡ kind.ValueValidation ∷ []
unfolding clap_on_literals
too_large = refl
