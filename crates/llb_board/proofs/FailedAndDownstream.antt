-- The vertices that have failed or are after one that has.
use Rattle.std.proofs.Common.{◌≡◌, ℕ, zero, suc, ◌+◌, ◌<◌, ◌≤◌, List, [], ◌∷◌, ◌++◌, drop, take, length, get_or, refl, ap, sym, ◌∙◌, drop-cons}
use Rattle.std.proofs.Common.{add-one, add-zero, zero-add, arith}
use Rattle.std.specs.Prelude.{Bool, true, false, ◌||◌, slice_get, slice_set, Some, unwrap_or, replicate}
use Rattle.std.specs.List.{list_any}
use Rattle.std.proofs.Math.ListN.{set, length-set}
use Rattle.std.proofs.lemmas.List.{drop_all, take_all, replicate-append-replicate}
use Rattle.llb_loader.specs.declared.graph.Edge.{Edge}
use Rattle.llb_loader.specs.declared.graph.Vertex.{Vertex}
use Rattle.llb_model.specs.State.{Status, Waiting, next_stopped, is_failed, ending_at, ending_of}
use Rattle.llb_model.specs.ListsFromEarlierItems.{by_number}
use Rattle.llb_execution.proofs.InputTrees.{edge_at}

abbrev pub marked_at : List Bool → Edge → Bool
marked_at before e = unwrap_or (slice_get before e.vertex) false

-- a test for an edge to a marked vertex has the same result on the edges from the i-th on as on all edges
abbrev pub AsBehind : List Bool → List Edge → ℕ → Type 0
AsBehind before es i = list_any (marked_at before) (drop i es) ≡ list_any (marked_at before) es

any_next : (before : List Bool) (es : List Edge) (i : ℕ) → i < length es
    → list_any (marked_at before) (drop i es) ≡ (marked_at before (edge_at es i) || list_any (marked_at before) (drop (i + 1) es))
any_next before es i low =
    ap (list_any (marked_at before)) (drop-cons es i (record { vertex = 0; index = 0 }) low)
    ∙ ap (λ k. marked_at before (edge_at es i) || list_any (marked_at before) (drop k es)) (sym (add-one i))

-- an edge to a marked vertex decides: some edge leads to one
pub behind_marked : (before : List Bool) (es : List Edge) (i : ℕ) → AsBehind before es i → i < length es → marked_at before (edge_at es i) ≡ true
    → true ≡ list_any (marked_at before) es
behind_marked before es i here low is = ap (λ b. b || list_any (marked_at before) (drop (i + 1) es)) (sym is) ∙ sym (any_next before es i low) ∙ here

-- past an edge to a vertex without a mark, the edges that are left decide
pub behind_next : (before : List Bool) (es : List Edge) (i : ℕ) → AsBehind before es i → i < length es → marked_at before (edge_at es i) ≡ false
    → AsBehind before es (i + 1)
behind_next before es i here low is = ap (λ b. b || list_any (marked_at before) (drop (i + 1) es)) (sym is) ∙ sym (any_next before es i low) ∙ here

-- where no edge is left and none has led to a marked vertex, none does
pub behind_end : (before : List Bool) (es : List Edge) (i : ℕ) → AsBehind before es i → length es ≤ i → false ≡ list_any (marked_at before) es
behind_end before es i here past = ap (list_any (marked_at before)) (sym (drop_all i es past)) ∙ here

-- the marks before a place are those of the rule, as a fold that goes on
pub record MarkedSoFar (statuses : List Status) (vs : List Vertex) (k : ℕ) (marks : List Bool) : Type 0 where
  pub marked : by_number (next_stopped statuses) (take k marks) (drop k vs) ≡ by_number (next_stopped statuses) [] vs
  pub lengths : length marks ≡ length vs

take_set : (xs : List Bool) (k : ℕ) (x : Bool) → k < length xs → take (suc k) (set xs k x) ≡ take k xs ++ x ∷ []
take_set [] k x low = absurd (omega arith)
take_set (y ∷ xs) zero x low = refl
take_set (y ∷ xs) (suc k) x low = ap (λ l. y ∷ l) (take_set xs k x (omega arith))

-- one vertex more has the mark of the rule from the marks before
pub marked_more : (statuses : List Status) (vs : List Vertex) (k : ℕ) (marks : List Bool) (v : Vertex) (mark : Bool)
    → MarkedSoFar statuses vs k marks → k < length vs
    → v ≡ get_or vs k v → mark ≡ next_stopped statuses (take k marks) v → MarkedSoFar statuses vs (k + 1) (set marks k mark)
marked_more statuses vs k marks v mark here low is rule =
    let next : drop k vs ≡ v ∷ drop (k + 1) vs = drop-cons vs k v low ∙ (λ i. sym is i ∷ drop (sym (add-one k) i) vs) in
    let fits : k < length marks = omega (arith, here.lengths) in
    record {
      marked = ap (λ n. by_number (next_stopped statuses) (take n (set marks k mark)) (drop (k + 1) vs)) (add-one k)
          ∙ ap (λ l. by_number (next_stopped statuses) l (drop (k + 1) vs)) (take_set marks k mark fits)
          ∙ ap (λ m. by_number (next_stopped statuses) (take k marks ++ m ∷ []) (drop (k + 1) vs)) rule
          ∙ ap (by_number (next_stopped statuses) (take k marks)) (sym next) ∙ here.marked;
      lengths = length-set marks k mark ∙ here.lengths;
    }

-- where each vertex has been looked at, the marks are those of the rule
pub marked_end : (statuses : List Status) (vs : List Vertex) (k : ℕ) (marks : List Bool) → MarkedSoFar statuses vs k marks → length vs ≤ k
    → marks ≡ by_number (next_stopped statuses) [] vs
marked_end statuses vs k marks here past =
    sym (take_all k marks (omega (arith, here.lengths))) ∙ ap (by_number (next_stopped statuses) (take k marks)) (sym (drop_all k vs past)) ∙ here.marked

-- the marks depend on nothing but which vertices have failed
pub same_marks : (S T : List Status) → ((k : ℕ) → is_failed (ending_at S k) ≡ is_failed (ending_at T k)) → (before : List Bool) (vs : List Vertex)
    → by_number (next_stopped S) before vs ≡ by_number (next_stopped T) before vs
same_marks S T same before [] = refl
same_marks S T same before (v ∷ vs) =
    same_marks S T same (before ++ next_stopped S before v ∷ []) vs
    ∙ ap (λ b. by_number (next_stopped T) (before ++ (b || list_any (marked_at before) v.inputs) ∷ []) vs) (same (length before))

failed_set : (S : List Status) (v : ℕ) (old new : Status) → slice_get S v ≡ Some old → is_failed (ending_of (Some old)) ≡ false
    → is_failed (ending_of (Some new)) ≡ false
    → (k : ℕ) → is_failed (ending_at (slice_set S v new) k) ≡ is_failed (ending_at S k)
failed_set [] v old new at a b k = absurd (cc)
failed_set (y ∷ S) zero old new at a b zero = let same : y ≡ old = cc in b ∙ sym (ap (λ z. is_failed (ending_of (Some z))) same ∙ a)
failed_set (y ∷ S) zero old new at a b (suc k) = refl
failed_set (y ∷ S) (suc v) old new at a b zero = refl
failed_set (y ∷ S) (suc v) old new at a b (suc k) = failed_set S v old new at a b k

-- where one vertex gets another status, failed neither before nor after, all marks stay
pub marks_stay : (vs : List Vertex) (S : List Status) (v : ℕ) (old new : Status) → slice_get S v ≡ Some old
    → is_failed (ending_of (Some old)) ≡ false → is_failed (ending_of (Some new)) ≡ false
    → by_number (next_stopped (slice_set S v new)) [] vs ≡ by_number (next_stopped S) [] vs
marks_stay vs S v old new at a b = same_marks (slice_set S v new) S (failed_set S v old new at a b) [] vs

-- nothing has failed where all wait
waits_all : (n k : ℕ) → is_failed (ending_at (replicate n Waiting) k) ≡ false
waits_all zero k = refl
waits_all (suc n) zero = refl
waits_all (suc n) (suc k) = waits_all n k

unmarked_at : (n k : ℕ) → unwrap_or (slice_get (replicate n false) k) false ≡ false
unmarked_at zero k = refl
unmarked_at (suc n) zero = refl
unmarked_at (suc n) (suc k) = unmarked_at n k

none_behind : (n : ℕ) (es : List Edge) → list_any (marked_at (replicate n false)) es ≡ false
none_behind n [] = refl
none_behind n (e ∷ es) = ap (λ b. b || list_any (marked_at (replicate n false)) es) (unmarked_at n e.vertex) ∙ none_behind n es

marks_open : (S : List Status) → ((k : ℕ) → is_failed (ending_at S k) ≡ false) → (n : ℕ) (vs : List Vertex)
    → by_number (next_stopped S) (replicate n false) vs ≡ replicate (n + length vs) false
marks_open S none n [] = ap (λ k. replicate k false) (sym (add-zero n))
marks_open S none n (v ∷ vs) =
    let mark : next_stopped S (replicate n false) v ≡ false
    = ap (λ b. b || list_any (marked_at (replicate n false)) v.inputs) (none (length (replicate n false))) ∙ none_behind n v.inputs in
    let count : (n + 1) + length vs ≡ n + length (v ∷ vs) = omega arith in
    ap (λ b. by_number (next_stopped S) (replicate n false ++ b ∷ []) vs) mark
    ∙ ap (λ l. by_number (next_stopped S) l vs) (replicate-append-replicate n 1 false) ∙ marks_open S none (n + 1) vs ∙ ap (λ k. replicate k false) count

-- while all vertices wait, none is marked
pub unmarked : (vs : List Vertex) → by_number (next_stopped (replicate (length vs) Waiting)) [] vs ≡ replicate (length vs) false
unmarked vs = marks_open (replicate (length vs) Waiting) (waits_all (length vs)) 0 vs ∙ ap (λ k. replicate k false) (zero-add (length vs))
