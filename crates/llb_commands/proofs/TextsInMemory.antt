-- Texts of numbered lines that are made in memory, and then written.
use Rattle.std.proofs.Common.{◌≡◌, ℕ, ◌+◌, ◌≤◌, List, ◌++◌, length, take, sym, ap, ◌∙◌, inr}
use Rattle.std.proofs.lemmas.List.{append_assoc}
use Rattle.std.specs.Prelude.{Option, Some, Result, Ok, Err, IfSome, IfErr, slice_get}
use Rattle.std.specs.List.{flat_map, enumerate_from}
use Rattle.llb_commands.specs.AssemblyParts.{EndsIn}
use Rattle.llb_commands.specs.Assembly.{IsOut, IsPartOut}
use Rattle.llb_commands.specs.CallStreams.{Stream}
use Rattle.llb_commands.specs.Running.{IsRefusal}
use Rattle.llb_commands.specs.WrittenPrefix.{PrintsOut}
use Rattle.llb_commands.specs.declared.fault.OutputFault.{OutputFault}
use Rattle.llb_commands.specs.declared.fault.ProgramFault.{ProgramFault}
use Rattle.llb_commands.proofs.RunOutput.{some_map}
use Rattle.llb_commands.proofs.TextsOfLines.{all_taken, lines_more, numbered_at}

abbrev pub ok_of : List ℕ → Result (List ℕ) OutputFault
ok_of text = Ok text

pub inside : {a b : List ℕ} → ok_of a ≡ ok_of b → a ≡ b
inside is = cc

module _ {A : Type 0} (line : ℕ × A → List ℕ) where
  -- the line of the item at a place follows those of the items before it
  pub next_line : (xs : List A) (at : ℕ) (x : A) (front before after : List ℕ) → slice_get xs at ≡ Some x
      → before ≡ front ++ flat_map line (take at (enumerate_from 0 xs)) → ok_of (before ++ line (at, x)) ≡ ok_of after
      → after ≡ front ++ flat_map line (take (at + 1) (enumerate_from 0 xs))
  next_line xs at x front before after there so is =
      sym (inside is)
      ∙ ap (λ ys. ys ++ line (at, x)) so
      ∙ append_assoc front (flat_map line (take at (enumerate_from 0 xs))) (line (at, x))
      ∙ ap (λ ys. front ++ ys) (sym (lines_more line (enumerate_from 0 xs) at (at, x) (sym (numbered_at xs at x there))))

  -- past the last item, the lines of all are there
  pub last_line : (xs : List A) (at : ℕ) → length (enumerate_from 0 xs) ≤ at
      → flat_map line (take at (enumerate_from 0 xs)) ≡ flat_map line (enumerate_from 0 xs)
  last_line xs at all = ap (flat_map line) (all_taken (enumerate_from 0 xs) at all)

-- a text that comes from the input is written, or a prefix of it
pub writes_made : (Comes : List ℕ → List ℕ → Type 0) (IsSo : ProgramFault → List ℕ → Type 0) (left : Option (List ℕ)) (text : List ℕ) (output : Stream)
    (r : Result (Unit {0}) ProgramFault) → IfSome left (λ bytes. Comes bytes text) → PrintsOut output.before output.after text r
    → IfErr r (λ e. ¬ IsRefusal e) → EndsIn Comes IsSo left output r
writes_made Comes IsSo left text output (Ok u) comes prints none =
    some_map (λ bytes. Comes bytes text) (IsOut Comes output) left (λ bytes is. (text, is, prints)) comes
writes_made Comes IsSo left text output (Err e) comes prints none =
    inr (none, some_map (λ bytes. Comes bytes text) (IsPartOut Comes output) left (λ bytes is. (text, is, prints)) comes)
