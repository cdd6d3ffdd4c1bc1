-- Reading a row, and marks on rows.
use Rattle.std.proofs.Common.{◌≡◌, ℕ, ◌+◌, ◌<◌, Bool, true, false, cond, List, [], ◌∷◌, length, get_or, set, map, replicate, refl, sym, ◌∙◌}
use Rattle.std.proofs.Common.{ap, arith, inl, inr, zero, suc}
use Rattle.std.proofs.lemmas.Bool.{cases_lt}
use Rattle.std.proofs.lemmas.List.{get_or_past, get_or_read}
use Rattle.std.proofs.lemmas.List.Sums.{sum_by-set}
use Rattle.std.proofs.lemmas.List.Folds.{sum_by-replicate}
use Rattle.std.specs.List.{sum_by}
use Rattle.std.specs.Global.{Vec}
use Rattle.llb_loader.specs.ReachedRows.{lists, inputs}

pub get_or-map : {X Y : Type 0} (f : X → Y) (xs : List X) (k : ℕ) (d : X) (e : Y) → k < length xs → get_or (map f xs) k e ≡ f (get_or xs k d)
get_or-map f [] k d e h = absurd (omega arith)
get_or-map f (x ∷ xs) zero d e h = refl
get_or-map f (x ∷ xs) (suc k) d e h = get_or-map f xs k d e (omega arith)

-- what is read as row k is what row k names
pub inputs_at : (rows : List (Vec ℕ)) (k : ℕ) (row : Vec ℕ) → k < length rows → row ≡ get_or rows k row → inputs (lists rows) k ≡ row.items
inputs_at rows k row h e = get_or-map (λ (r : Vec ℕ). r.items) rows k row [] h ∙ ap (λ (r : Vec ℕ). r.items) (sym e)

-- a marked row is one of the rows
pub marked_below : (seen : List Bool) (k : ℕ) → get_or seen k false ≡ true → k < length seen
marked_below seen k e = elim (cases_lt k (length seen)) [ inl h ↦ h | inr h ↦ (let p = get_or_past seen k false h in cc) ]

unfoldable pub weight : Bool → ℕ
weight b = cond b 0 1

-- how many rows are not marked
unfoldable pub unmarked : List Bool → ℕ
unmarked seen = sum_by weight seen

-- a new mark leaves one row fewer without a mark
pub unmarked-mark : (seen : List Bool) (k : ℕ) → k < length seen → get_or seen k false ≡ false → unmarked (set seen k true) + 1 ≡ unmarked seen
unfolding unmarked weight
unmarked-mark seen k h e =
    let s = sum_by-set weight seen k true false h in
    let z : weight (get_or seen k false) ≡ 1 = ap weight e in
    omega (arith, s, z)

-- what is read at place k of some vectors is list k of their lists
pub list_at : {X : Type 0} (rows : List (Vec X)) (k : ℕ) (row : Vec X) → k < length rows → row ≡ get_or rows k row → get_or (lists rows) k [] ≡ row.items
list_at {X} rows k row h e = get_or-map (λ (r : Vec X). r.items) rows k row [] h ∙ ap (λ (r : Vec X). r.items) (sym e)

-- the mark that is read at place k is mark k
pub mark_read : (marks : List Bool) (k : ℕ) (b : Bool) → k < length marks → b ≡ get_or marks k b → get_or marks k false ≡ b
mark_read marks k b h e = sym (get_or_read marks k b h e false)

-- at the start no row is marked, so all rows count as not marked
pub unmarked-none : (n : ℕ) → unmarked (replicate n false) ≡ n
unfolding unmarked weight
unmarked-none n = let e = sum_by-replicate weight n false in omega (arith, e)
