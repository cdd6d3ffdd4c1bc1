-- What vertices write, and whether they make digests: tests of micro-steps, as tests of the actions and commands that are their micro-steps.
use Rattle.std.proofs.Common.{◌≡◌, ℕ, Bool, true, false, ◌||◌, ◌==◌, List, [], ◌∷◌, map, refl, ap, ◌∙◌}
use Rattle.std.specs.List.{list_any, flat_map}
use Rattle.std.proofs.lemmas.List.Folds.{list_any-append}
use Rattle.llb_ops.specs.declared.file_op.Action.{Action}
use Rattle.llb_ops.specs.declared.merge.MergeInput.{MergeInput}
use Rattle.llb_applet.specs.declared.directory_and_variables.Setting.{Setting}
use Rattle.llb_applet.specs.declared.command.Command.{Command}
use Rattle.llb_applet.specs.declared.command.Command.TheVariants as command
use Rattle.llb_applet.specs.declared.joined_commands.Joined.{Joined}
use Rattle.llb_applet.specs.Commands.{line}
use Rattle.llb_model.specs.Program.{Act, LayInput, runs_of}
use Rattle.llb_laws.specs.ContentLaws.{has_mark, digests, step_digests, writes_mark, body_has_mark, step_writes_mark}
use Rattle.llb_laws.specs.TokenPlans.{at_root}

or_none : (b : Bool) → (b || false) ≡ b
or_none true = refl
or_none false = refl

-- a line end is not the byte 255
pub line_mark : (word : List ℕ) → has_mark (line word) ≡ has_mark word
line_mark word = list_any-append (λ (b : ℕ). b == 255) word (10 ∷ []) ∙ or_none (has_mark word)

pub lines_mark : (words : List (List ℕ)) → has_mark (flat_map line words) ≡ list_any has_mark words
lines_mark [] = refl
lines_mark (word ∷ words) =
    let first = line_mark word in
    let rest = lines_mark words in
    list_any-append (λ (b : ℕ). b == 255) (line word) (flat_map line words) ∙ (λ i. first i || rest i)

-- what a command writes does not depend on the directory
same_writes : (setting : Setting) (c : Command) → writes_mark setting c ≡ writes_mark (at_root setting.env) c
same_writes setting command.True = refl
same_writes setting command.False = refl
same_writes setting (command.Mkdir parents path) = refl
same_writes setting (command.Rm path) = refl
same_writes setting (command.Write path word) = refl
same_writes setting (command.Append path word) = refl
same_writes setting (command.Cp from to) = refl
same_writes setting (command.Concat out parts) = refl
same_writes setting (command.Chmod mode path) = refl
same_writes setting (command.Test kind path) = refl
same_writes setting (command.Listing path out) = refl
same_writes setting (command.Envfile out) = refl
same_writes setting (command.Sha256 path out) = refl

pub runs_write : (setting : Setting) (cs : List Joined)
    → list_any step_writes_mark (runs_of setting cs) ≡ list_any (λ (c : Joined). writes_mark (at_root setting.env) c.command) cs
runs_write setting [] = refl
runs_write setting (c ∷ cs) =
    let first = same_writes setting c.command in
    let rest = runs_write setting cs in
    λ i. first i || rest i

pub acts_write : (actions : List Action) → list_any step_writes_mark (map Act actions) ≡ list_any (λ (a : Action). body_has_mark a.kind) actions
acts_write [] = refl
acts_write (a ∷ actions) = ap (λ b. body_has_mark a.kind || b) (acts_write actions)

pub lays_write : (ms : List MergeInput) → list_any step_writes_mark (map (λ (i : MergeInput). LayInput i.input) ms) ≡ false
lays_write [] = refl
lays_write (m ∷ ms) = lays_write ms

pub runs_digest : (setting : Setting) (cs : List Joined) → list_any step_digests (runs_of setting cs) ≡ list_any (λ (c : Joined). digests c.command) cs
runs_digest setting [] = refl
runs_digest setting (c ∷ cs) = ap (λ b. digests c.command || b) (runs_digest setting cs)

pub acts_digest : (actions : List Action) → list_any step_digests (map Act actions) ≡ false
acts_digest [] = refl
acts_digest (a ∷ actions) = acts_digest actions

pub lays_digest : (ms : List MergeInput) → list_any step_digests (map (λ (i : MergeInput). LayInput i.input) ms) ≡ false
lays_digest [] = refl
lays_digest (m ∷ ms) = lays_digest ms
