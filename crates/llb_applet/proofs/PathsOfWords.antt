-- A word that names a file is a path; and of several words that name files, the first is a path.
use Rattle.std.proofs.Common.{◌≡◌, ℕ, zero, suc, ◌<◌, ◌++◌, List, [], ◌∷◌, Option, Some, None, option_map, refl, subst, get_or, length, arith}
use Rattle.std.specs.Prelude.{IsSome, OnErr, Result, Ok, Err, option_and_then, slice_get, unwrap_or}
use Rattle.llb_tree.specs.ModeAndOwner.{MetaValue}
use Rattle.llb_applet.specs.declared.directory_and_variables.Setting.{Setting}
use Rattle.llb_applet.specs.PathsInMounts.{Mounts, spot_of, entry_at, file_in}
use Rattle.llb_applet.specs.Commands.{◌>>=◌, path_by, file_by, joined}

-- what holds in any case also holds where a result is a refusal; and two facts that hold of a refusal give a third
pub on_err : {T E : Type 0} (r : Result T E) (P : Type 0) → P → OnErr r P
on_err (Ok x) P p = tt
on_err (Err e) P p = p

pub on_err_both : {T E : Type 0} (r : Result T E) (P S Q : Type 0) → (P → S → Q) → OnErr r P → OnErr r S → OnErr r Q
on_err_both (Ok x) P S Q f p s = tt
on_err_both (Err e) P S Q f p s = f p s

-- if the second of two steps that begin with a value succeeds, the value was there
from_first : {A B C : Type 0} (o : Option A) (f : A → Option B) (g : B → Option C) (x : C) → ((o >>= f) >>= g) ≡ Some x → IsSome o
from_first None f g x is = absurd cc
from_first (Some a) f g x is = refl

module _ (setting : Setting) (view : Mounts) where
  pub file_path : (word : List ℕ) (file : MetaValue × List ℕ) → file_by setting view word ≡ Some file → IsSome (path_by setting word)
  file_path word file is = from_first (path_by setting word) (spot_of view) (λ spot. file_in (entry_at view spot)) file is

  -- a word that names a file with some content is a path
  pub content_path : (word part : List ℕ) → option_map (λ (f : MetaValue × List ℕ). f.1) (file_by setting view word) ≡ Some part → IsSome (path_by setting word)
  content_path word part is = by_file (file_by setting view word) refl is
    where
      by_file : (o : Option (MetaValue × List ℕ)) → file_by setting view word ≡ o → option_map (λ (f : MetaValue × List ℕ). f.1) o ≡ Some part
          → IsSome (path_by setting word)
      by_file None same e = absurd cc
      by_file (Some file) same e = file_path word file same

-- the first of these words is a path
abbrev pub BeginsWithPath : Setting → List (List ℕ) → Type 0
BeginsWithPath setting words = IsSome (option_and_then (path_by setting) (slice_get words 0))

-- the first of some words is a path if word i is one, and if, for i above 0, the first one is known to be one
pub begins_with_path : (setting : Setting) (words : List (List ℕ)) (i : ℕ) (word : List ℕ) → i < length words → word ≡ get_or words i word
    → (0 < i → BeginsWithPath setting words) → IsSome (path_by setting word) → BeginsWithPath setting words
begins_with_path setting [] i word inside is before path = absurd (omega (arith, inside))
begins_with_path setting (first ∷ words) zero word inside is before path = subst (λ w. IsSome (path_by setting w)) is path
begins_with_path setting (first ∷ words) (suc i) word inside is before path = before (omega arith)

-- the first word that a command which joins files reads: its first input, or its output where there are no inputs
module _ (setting : Setting) (view : Mounts) (out : List ℕ) where
  pub reads_first : (parts : List (List ℕ)) → BeginsWithPath setting parts → IsSome (path_by setting (unwrap_or (slice_get parts 0) out))
  reads_first [] path = absurd cc
  reads_first (word ∷ parts) path = path

  pub writes_first : (parts : List (List ℕ)) → IsSome (joined setting view parts) → IsSome (path_by setting out)
      → IsSome (path_by setting (unwrap_or (slice_get parts 0) out))
  writes_first [] all path = path
  writes_first (word ∷ parts) all path = by_file (file_by setting view word) refl all
    where
      by_file : (o : Option (MetaValue × List ℕ)) → file_by setting view word ≡ o
          → IsSome (o >>= λ file. joined setting view parts >>= λ more. Some (file.1 ++ more)) → IsSome (path_by setting word)
      by_file None same e = absurd cc
      by_file (Some file) same e = file_path setting view word file same
