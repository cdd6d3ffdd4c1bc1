-- The rules fail only with a bad pattern.
use Rattle.std.proofs.Common.{◌≡◌, ℕ, ◌==◌, Bool, true, false, cond, List, [], ◌∷◌, Result, Ok, Err, is_ok, refl, ap, sym}
use Rattle.std.proofs.lemmas.Bool.{false≢true}
use Rattle.std.specs.Str.{chars}
use Rattle.llb_wire.specs.CallResults.{◌>>=◌}
use Rattle.llb_tree.specs.declared.fault.TreeFault.{TreeFault}
use Rattle.llb_glob.specs.declared.fault.PatternFault.{PatternFault}
use Rattle.llb_glob.specs.declared.fault.PatternFault.TheVariants.{BadPattern}
use Rattle.llb_glob.specs.declared.part_reading.Stage.{Stage}
use Rattle.llb_glob.specs.declared.part_reading.Stage.TheVariants.{Outside, Opened, Caret, Single, Dash, Range}
use Rattle.llb_glob.specs.declared.part_reading.Cursor.{Cursor}
use Rattle.llb_glob.specs.ClassValue.{ClassValue}
use Rattle.llb_glob.specs.Class.{none_yet}
use Rattle.llb_glob.specs.ItemReading.{start, closed, dashed, inside, plain, quoted, cut, class_by, is_whole, ended, items_from, items_of}
use Rattle.llb_glob.specs.Pattern.{each_cut, cut_path}

-- a value, or a bad pattern
abbrev pub NothingElse : {A : Type 0} → Result A PatternFault → Type 0
NothingElse (Ok x) = Unit {0}
NothingElse (Err e) = e ≡ BadPattern

else-bind : {A B : Type 0} (r : Result A PatternFault) (f : A → Result B PatternFault) → NothingElse r → ((x : A) → NothingElse (f x)) → NothingElse (r >>= f)
else-bind (Ok x) f first then = then x
else-bind (Err e) f first then = first

else-cond : {A : Type 0} (b : Bool) (r s : Result A PatternFault) → NothingElse r → NothingElse s → NothingElse (cond b r s)
else-cond true r s first second = first
else-cond false r s first second = second

else-closed : (stage : Stage) → NothingElse (closed stage)
else-closed Outside = refl
else-closed Opened = refl
else-closed Caret = refl
else-closed Single = tt
else-closed Dash = refl
else-closed Range = tt

else-dashed : (stage : Stage) → NothingElse (dashed stage)
else-dashed Outside = refl
else-dashed Opened = refl
else-dashed Caret = refl
else-dashed Single = tt
else-dashed Dash = refl
else-dashed Range = refl

else-inside : (stage : Stage) (c : ℕ) → NothingElse (inside stage c)
else-inside stage c = else-cond (c == 93) _ _ (else-closed stage) (else-cond (c == 45) _ _ (else-dashed stage) tt)

else-plain : (stage : Stage) (c : ℕ) → NothingElse (plain stage c)
else-plain Outside c = tt
else-plain Opened c = else-cond (c == 94) _ _ tt (else-inside Opened c)
else-plain Caret c = else-inside Caret c
else-plain Single c = else-inside Single c
else-plain Dash c = else-inside Dash c
else-plain Range c = else-inside Range c

else-quoted : (quotes : Bool) (stage : Stage) (c : ℕ) → NothingElse (quoted quotes stage c)
else-quoted true stage c = tt
else-quoted false stage c = else-cond (c == 92) _ _ tt (else-plain stage c)

else-ended : (b : Bool) → NothingElse (ended b)
else-ended true = tt
else-ended false = refl

else-from : (letters : List ℕ) (cursor : Cursor) (class : ClassValue) → NothingElse (items_from letters cursor class)
else-from [] cursor class = else-ended (is_whole cursor)
else-from (c ∷ letters) cursor class =
    else-bind (cut cursor c) _ (else-quoted cursor.quotes cursor.stage c)
    (λ next. else-bind (items_from letters next.0 (class_by next.1 class)) _ (else-from letters next.0 (class_by next.1 class)) (λ _. tt))

else-items : (letters : List ℕ) → NothingElse (items_of letters)
else-items letters = else-from letters start none_yet

else-each : (names : List (List ℕ)) → NothingElse (each_cut names)
else-each [] = tt
else-each (name ∷ names) = else-bind (items_of (chars name)) _ (else-items (chars name)) (λ _. else-bind (each_cut names) _ (else-each names) (λ _. tt))

-- a text reads as a pattern, or is a bad one
pub else-path : (r : Result (List (List ℕ)) TreeFault) → NothingElse (cut_path r)
else-path (Ok names) = else-each names
else-path (Err e) = refl

bad : {A : Type 0} (r : Result A PatternFault) → NothingElse r → is_ok r ≡ false → r ≡ Err BadPattern
bad (Ok x) only e = absurd (false≢true (sym e))
bad (Err e) only _ = ap Err only

-- where a text is no pattern, the fault is a bad pattern, whether its path or one of its parts was refused
pub bad_pattern : (r : Result (List (List ℕ)) TreeFault) → is_ok (cut_path r) ≡ false → cut_path r ≡ Err BadPattern
bad_pattern r = bad (cut_path r) (else-path r)
