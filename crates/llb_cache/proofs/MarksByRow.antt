-- Marks by the row of a key: a look at one, one that changes, and the marks of a key that is new.
use Rattle.std.proofs.Common.{◌≡◌, ℕ, zero, suc, ◌<◌, Bool, true, false, cond, ◌&&◌, List, [], ◌∷◌, ◌++◌, length, Some, is_some}
use Rattle.std.proofs.Common.{slice_index_or, slice_set, refl, sym, ap, ◌∙◌, arith, position}
use Rattle.std.specs.Prelude.{◌==◌}
use Rattle.std.specs.Map.{keys_of, lookup}
use Rattle.llb_tree.specs.Tree.{TreeMap}
use Rattle.llb_cache.specs.declared.key.Key.{Key}
use Rattle.llb_cache.specs.declared.lease_needs.Instance.{Instance}
use Rattle.llb_cache.specs.Key.{same_key}
use Rattle.llb_cache.specs.KeyEquality.{same_keys, key_equiv}
use Rattle.llb_cache.specs.Caches.{Row, same_place, with_trees}
use Rattle.llb_cache.specs.FirstRowOfKey.{IsAbsent, IsFirst, set_trees}
use Rattle.llb_cache.proofs.FirstRowOfKey.{first_placed, absent_found}
use Rattle.llb_cache.proofs.InstanceHolders.{same_places}
use Rattle.llb_cache.specs.InstanceMarks.{marked, Remarks}

-- the mark of a number in a list of lists
abbrev pub mark_at : List (List Bool) → ℕ → ℕ → Bool
mark_at marks i n = slice_index_or (slice_index_or marks i []) n false

and_true : (a : Bool) → (a && true) ≡ a
and_true true = refl
and_true false = refl

and_false : (a : Bool) → (a && false) ≡ false
and_false true = refl
and_false false = refl

-- ---- a look

pub keys_stay : (es : List Row) (i : ℕ) (w : List TreeMap) → keys_of (set_trees es i w) ≡ keys_of es
keys_stay [] i w = refl
keys_stay (e ∷ es) zero w = refl
keys_stay (e ∷ es) (suc i) w = ap (λ ks. e.0 ∷ ks) (keys_stay es i w)

pub rows_stay : (es : List Row) (i : ℕ) (w : List TreeMap) → length (set_trees es i w) ≡ length es
rows_stay [] i w = refl
rows_stay (e ∷ es) zero w = refl
rows_stay (e ∷ es) (suc i) w = ap suc (rows_stay es i w)

at_first : (es : List Row) (marks : List (List Bool)) (p : Instance) (i : ℕ) → IsFirst p.key es i → marked (keys_of es) marks p ≡ mark_at marks i p.number
unfolding marked
at_first [] marks p i h = absurd h
at_first (e ∷ es) [] p i h = refl
at_first (e ∷ es) (m ∷ marks) p zero h = ap (λ b. cond b (slice_index_or m p.number false) (marked (keys_of es) marks p)) h
at_first (e ∷ es) (m ∷ marks) p (suc i) h =
    ap (λ b. cond b (slice_index_or m p.number false) (marked (keys_of es) marks p)) h.0 ∙ at_first es marks p i h.1

absent : (es : List Row) (marks : List (List Bool)) (p : Instance) → IsAbsent p.key es → marked (keys_of es) marks p ≡ false
unfolding marked
absent [] marks p h = refl
absent (e ∷ es) [] p h = refl
absent (e ∷ es) (m ∷ marks) p h = ap (λ b. cond b (slice_index_or m p.number false) (marked (keys_of es) marks p)) h.0 ∙ absent es marks p h.1

-- the mark of a key that has a row, and of one that has none
pub mark_there : (es : List Row) (marks : List (List Bool)) (p : Instance) (i : ℕ) → position (same_key p.key) (keys_of es) ≡ Some i
    → marked (keys_of es) marks p ≡ mark_at marks i p.number
mark_there es marks p i e = at_first es marks p i (first_placed p.key es i e)

none_there : (es : List Row) (p : Instance) → false ≡ is_some (lookup (same_key p.key) es) → IsAbsent p.key es
none_there es p e = absent_found p.key es (sym e)

pub no_mark : (es : List Row) (marks : List (List Bool)) (p : Instance) → false ≡ is_some (lookup (same_key p.key) es) → marked (keys_of es) marks p ≡ false
no_mark es marks p e = absent es marks p (none_there es p e)

-- ---- a change

other_key : (p q : Key) (k : Key) → same_key p k ≡ false → same_key q k ≡ true → same_key q p ≡ false
other_key p q k apart same = ap (λ l. same_key l p) (same_keys q k same) ∙ key_equiv.symm k p ∙ apart

-- marks of one key that have another mark at a number
abbrev pub Sets : List Bool → List Bool → ℕ → Bool → Type 0
Sets old new n b = (k : ℕ) → slice_index_or new k false ≡ cond (k == n) b (slice_index_or old k false)

-- behind another key
behind : (keys more : List Key) (marks new : List (List Bool)) (m : List Bool) (p : Instance) (k : Key) (b : Bool) → same_key p.key k ≡ false → (q : Instance)
    → marked more new q ≡ cond (same_place q p) b (marked keys marks q)
    → marked (k ∷ more) (m ∷ new) q ≡ cond (same_place q p) b (marked (k ∷ keys) (m ∷ marks) q)
unfolding marked
behind keys more marks new m p k b differ q rest = go (same_key q.key k) refl
  where
    mine : Bool
    mine = slice_index_or m q.number false

    go : (c : Bool) → same_key q.key k ≡ c → cond (same_key q.key k) mine (marked more new q)
        ≡ cond (same_place q p) b (cond (same_key q.key k) mine (marked keys marks q))
    go true is =
        let apart : same_place q p ≡ false = ap (λ x. (q.number == p.number) && x) (other_key p.key q.key k differ is) ∙ and_false (q.number == p.number) in
        ap (λ x. cond x mine (marked more new q)) is
        ∙ sym (ap (λ x. cond x b (cond (same_key q.key k) mine (marked keys marks q))) apart ∙ ap (λ x. cond x mine (marked keys marks q)) is)
    go false is =
        ap (λ x. cond x mine (marked more new q)) is ∙ rest ∙ sym (ap (λ x. cond (same_place q p) b (cond x mine (marked keys marks q))) is)

-- in front
here : (p q : Instance) (k : Key) (b : Bool) (old new : List Bool) (rest : Bool) → p.key ≡ k → Sets old new p.number b
    → cond (same_key q.key k) (slice_index_or new q.number false) rest
    ≡ cond (same_place q p) b (cond (same_key q.key k) (slice_index_or old q.number false) rest)
here p q k b old new rest same sets = go (same_key q.key k) refl
  where
    at_key : (c : Bool) → same_key q.key k ≡ c → same_place q p ≡ ((q.number == p.number) && c)
    at_key c is = ap (λ x. (q.number == p.number) && x) (ap (same_key q.key) same ∙ is)

    go : (c : Bool) → same_key q.key k ≡ c
        → cond (same_key q.key k) (slice_index_or new q.number false) rest
        ≡ cond (same_place q p) b (cond (same_key q.key k) (slice_index_or old q.number false) rest)
    go true is =
        ap (λ x. cond x (slice_index_or new q.number false) rest) is ∙ sets q.number
        ∙ sym (ap (λ x. cond x b (cond (same_key q.key k) (slice_index_or old q.number false) rest)) (at_key true is ∙ and_true (q.number == p.number))
        ∙ ap (λ x. cond (q.number == p.number) b (cond x (slice_index_or old q.number false) rest)) is)
    go false is =
        ap (λ x. cond x (slice_index_or new q.number false) rest) is
        ∙ sym (ap (λ x. cond x b (cond (same_key q.key k) (slice_index_or old q.number false) rest)) (at_key false is ∙ and_false (q.number == p.number))
        ∙ ap (λ x. cond x (slice_index_or old q.number false) rest) is)

at_row : (es : List Row) (marks : List (List Bool)) (p : Instance) (i : ℕ) (new : List Bool) (b : Bool) → IsFirst p.key es i → i < length marks
    → Sets (slice_index_or marks i []) new p.number b → Remarks (keys_of es) marks (keys_of es) (slice_set marks i new) (λ q. same_place q p) b
unfolding marked
at_row [] marks p i new b h below sets q = absurd h
at_row (e ∷ es) [] p i new b h below sets q = absurd (omega (arith, below))
at_row (e ∷ es) (m ∷ marks) p zero new b h below sets q = here p q e.0 b m new (marked (keys_of es) marks q) (same_keys p.key e.0 h) sets
at_row (e ∷ es) (m ∷ marks) p (suc i) new b h below sets q =
    behind (keys_of es) (keys_of es) marks (slice_set marks i new) m p e.0 b h.0 q (at_row es marks p i new b h.1 (omega (arith, below)) sets q)

-- the mark of a number of a key that has a row
pub remarked : (es : List Row) (marks : List (List Bool)) (p : Instance) (i : ℕ) (new : List Bool) (b : Bool)
    → position (same_key p.key) (keys_of es) ≡ Some i → i < length marks
    → Sets (slice_index_or marks i []) new p.number b → Remarks (keys_of es) marks (keys_of es) (slice_set marks i new) (λ q. same_place q p) b
remarked es marks p i new b e below sets = at_row es marks p i new b (first_placed p.key es i e) below sets

-- a key that has none has no mark left to be taken away
pub unmarked : (es : List Row) (marks : List (List Bool)) (p : Instance) → false ≡ is_some (lookup (same_key p.key) es)
    → Remarks (keys_of es) marks (keys_of es) marks (λ q. same_place q p) false
unmarked es marks p e q = go (same_place q p) refl
  where
    go : (c : Bool) → same_place q p ≡ c → marked (keys_of es) marks q ≡ cond (same_place q p) false (marked (keys_of es) marks q)
    go true is =
        ap (marked (keys_of es) marks) (same_places q p is) ∙ no_mark es marks p e ∙ sym (ap (λ x. cond x false (marked (keys_of es) marks q)) is)
    go false is = sym (ap (λ x. cond x false (marked (keys_of es) marks q)) is)

new_row : (es : List Row) (marks : List (List Bool)) (p : Instance) (ts : List TreeMap) (new : List Bool) → IsAbsent p.key es
    → length marks ≡ length es → Sets [] new p.number true
    → Remarks (keys_of es) marks (keys_of (with_trees es p.key ts)) (marks ++ new ∷ []) (λ q. same_place q p) true
unfolding marked
new_row [] [] p ts new h count sets q = here p q p.key true [] new false refl sets ∙ none (same_key q.key p.key)
  where
    none : (c : Bool) → cond (same_place q p) true (cond c false false) ≡ cond (same_place q p) true false
    none true = refl
    none false = refl
new_row [] (m ∷ marks) p ts new h count sets q = absurd (omega (arith, count))
new_row (e ∷ es) [] p ts new h count sets q = absurd (omega (arith, count))
new_row (e ∷ es) (m ∷ marks) p ts new h count sets q =
    ap (λ (b : Bool). marked (keys_of (cond b ((e.0, ts) ∷ es) (e ∷ with_trees es p.key ts))) (m ∷ (marks ++ new ∷ [])) q) h.0
    ∙ behind (keys_of es) (keys_of (with_trees es p.key ts)) marks (marks ++ new ∷ []) m p e.0 true h.0 q
    (new_row es marks p ts new h.1 (omega (arith, count)) sets q)

-- the marks of a key that is new
pub marked_new : (es : List Row) (marks : List (List Bool)) (p : Instance) (ts : List TreeMap) (new : List Bool) → false ≡ is_some (lookup (same_key p.key) es)
    → length marks ≡ length es → Sets [] new p.number true
    → Remarks (keys_of es) marks (keys_of (with_trees es p.key ts)) (marks ++ new ∷ []) (λ q. same_place q p) true
marked_new es marks p ts new e count sets = new_row es marks p ts new (none_there es p e) count sets
