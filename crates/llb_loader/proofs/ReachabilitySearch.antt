-- The search for the reached rows: what holds of the marks and of the stack.
use Rattle.std.proofs.Common.{◌≡◌, ℕ, zero, suc, ◌+◌, ◌<◌, Bool, true, false, List, [], ◌∷◌, ◌++◌, ◌⊎◌, inl, inr, length, get_or, set}
use Rattle.std.proofs.Common.{replicate, refl, sym, ◌∙◌, ap, subst, below_more, arith}
use Rattle.std.proofs.lemmas.Bool.{cases_eq, cases_lt}
use Rattle.std.proofs.lemmas.List.{get_or-set_same, get_or-set_other, length-set, get_or-replicate, length-replicate, get_or_past, length_push}
use Rattle.std.proofs.lemmas.List.Elements.{Contains-append_left, Contains-push, Contains-push_cases, Contains-get_or, All-get_or, All-contains, All-weaker}
use Rattle.std.specs.List.{All, Contains}
use Rattle.llb_loader.proofs.RowReadsAndMarks.{marked_below, unmarked, unmarked-mark}
use Rattle.llb_loader.specs.WaitingRows.{IsMarked}
use Rattle.llb_loader.specs.ReachedRows.{inputs, InRange, HasEdge, Walk, Reached}

-- the marks and the stack of a search. P holds of the row, if any, that the search has taken off the stack and is still looking at
pub record IsSearching (g : List (List ℕ)) (start : ℕ) (seen : List Bool) (stack : List ℕ) (P : ℕ → Type 0) : Type 0 where
  pub sound : (k : ℕ) → IsMarked seen k → Reached g start k
  pub begun : IsMarked seen start
  pub marked : (k : ℕ) → Contains stack k → IsMarked seen k
  pub closed : (k : ℕ) → IsMarked seen k → Contains stack k ⊎ (P k ⊎ All (IsMarked seen) (inputs g k))

abbrev pub NoRow : ℕ → Type 0
NoRow k = ⊥

-- a marked row is still marked after another mark is set
pub mark_stays : (seen : List Bool) (b k : ℕ) → b < length seen → IsMarked seen k → IsMarked (set seen b true) k
mark_stays seen b k h m = elim (cases_eq k b) [
  | inl e ↦ rw e (get_or-set_same seen b true false h)
  | inr e ↦ get_or-set_other seen b k true false e ∙ m
]

-- after a new mark is set, each marked row was marked before or is the new one
pub mark_cases : (seen : List Bool) (b k : ℕ) → IsMarked (set seen b true) k → IsMarked seen k ⊎ (k ≡ b)
mark_cases seen b k m = elim (cases_eq k b) [
  | inl e ↦ inr e
  | inr e ↦ inl (sym (get_or-set_other seen b k true false e) ∙ m)
]

pub searching_mark : (g : List (List ℕ)) (start : ℕ) (seen : List Bool) (stack : List ℕ) (P : ℕ → Type 0) (b : ℕ) → b < length seen → Reached g start b
    → IsSearching g start seen stack P → IsSearching g start (set seen b true) (stack ++ b ∷ []) P
searching_mark g start seen stack P b h r s = record {
  sound = λ k m. elim (mark_cases seen b k m) [ inl m' ↦ s.sound k m' | inr e ↦ rw e r ];
  begun = mark_stays seen b start h s.begun;
  marked = λ k c. elim (Contains-push_cases stack b k c) [
    | inl c' ↦ mark_stays seen b k h (s.marked k c')
    | inr e ↦ rw (← e) (get_or-set_same seen b true false h)
  ];
  closed = λ k m. elim (mark_cases seen b k m) [
    | inl m' ↦ elim (s.closed k m') [
      | inl c ↦ inl (Contains-append_left stack (b ∷ []) k c)
      | inr o ↦ elim o [
        | inl p ↦ inr (inl p)
        | inr a ↦ inr (inr (All-weaker (IsMarked seen) (IsMarked (set seen b true)) (λ i. mark_stays seen b i h) (inputs g k) a))
      ]
    ]
    | inr e ↦ inl (rw e (Contains-push stack b))
  ];
}

-- the search takes the row on top of the stack
pub searching_take : (g : List (List ℕ)) (start : ℕ) (seen : List Bool) (stack : List ℕ) (row : ℕ)
    → IsSearching g start seen (stack ++ row ∷ []) NoRow → IsSearching g start seen stack (λ k. k ≡ row)
searching_take g start seen stack row s = record {
  sound = s.sound;
  begun = s.begun;
  marked = λ k c. s.marked k (Contains-append_left stack (row ∷ []) k c);
  closed = λ k m. elim (s.closed k m) [
    | inl c ↦ elim (Contains-push_cases stack row k c) [ inl c' ↦ inl c' | inr e ↦ inr (inl (sym e)) ]
    | inr o ↦ elim o [ inl p ↦ absurd p | inr a ↦ inr (inr a) ]
  ];
}

-- the search leaves this row once its inputs are marked
pub searching_leave : (g : List (List ℕ)) (start : ℕ) (seen : List Bool) (stack : List ℕ) (row : ℕ) → All (IsMarked seen) (inputs g row)
    → IsSearching g start seen stack (λ k. k ≡ row) → IsSearching g start seen stack NoRow
searching_leave g start seen stack row all s = record {
  sound = s.sound;
  begun = s.begun;
  marked = s.marked;
  closed = λ k m. elim (s.closed k m) [
    | inl c ↦ inl c
    | inr o ↦ elim o [ inl e ↦ inr (inr (rw e all)) | inr a ↦ inr (inr a) ]
  ];
}

pub searching_walk : (g : List (List ℕ)) (start : ℕ) (seen : List Bool) (k n : ℕ) → IsSearching g start seen [] NoRow → Walk g start k n → IsMarked seen k
searching_walk g start seen k zero s w = subst (IsMarked seen) w s.begun
searching_walk g start seen k (suc n) s (c, w, e) = elim (s.closed c (searching_walk g start seen c n s w)) [
  | inl h ↦ absurd (omega (arith, h.1))
  | inr o ↦ elim o [ inl p ↦ absurd p | inr a ↦ All-contains (IsMarked seen) (inputs g c) k a e ]
]

-- at the end the marked rows are the reached ones
pub searching_whole : (g : List (List ℕ)) (start : ℕ) (seen : List Bool) (k : ℕ) → IsSearching g start seen [] NoRow → Reached g start k → IsMarked seen k
searching_whole g start seen k s r = searching_walk g start seen k r.0 s r.1

-- where no mark is set, no row is marked
pub none_marked : (n k : ℕ) → IsMarked (replicate n false) k → ⊥
none_marked n k m = elim (cases_lt k n) [
  | inl h ↦ (let e = get_or-replicate n k false false h in cc)
  | inr h ↦ (let e = get_or_past (replicate n false) k false (rw length-replicate h) in cc)
]

-- at first the start alone is marked, and it is on the stack
pub searching_start : (g : List (List ℕ)) (start n : ℕ) → start < n → IsSearching g start (set (replicate n false) start true) (start ∷ []) NoRow
searching_start g start n h =
    let only : (k : ℕ) → IsMarked (set (replicate n false) start true) k → k ≡ start =
    λ k m. elim (mark_cases (replicate n false) start k m) [ inl m' ↦ absurd (none_marked n k m') | inr e ↦ e ] in
    let first : start < length (replicate n false) = rw length-replicate h in
    let here : IsMarked (set (replicate n false) start true) start = get_or-set_same (replicate n false) start true false first in
    record {
      sound = λ k m. rw (only k m) (0, refl);
      begun = here;
      marked = λ k c. elim (Contains-push_cases [] start k c) [ inl c' ↦ absurd (omega (arith, c'.1)) | inr e ↦ rw (← e) here ];
      closed = λ k m. inl (rw (only k m) (Contains-push [] start));
    }

-- the search takes the top row off its stack, and `rest` is left
pub searching_pop : (g : List (List ℕ)) (start : ℕ) (seen : List Bool) (stack rest : List ℕ) (row : ℕ) → stack ≡ rest ++ row ∷ []
    → IsSearching g start seen stack NoRow → IsSearching g start seen rest (λ k. k ≡ row)
searching_pop g start seen stack rest row e s =
    searching_take g start seen rest row (subst (λ (xs : List ℕ). IsSearching g start seen xs NoRow) e s)

-- a row that comes off the stack is marked
pub popped_marked : (g : List (List ℕ)) (start : ℕ) (seen : List Bool) (stack rest : List ℕ) (row : ℕ) → stack ≡ rest ++ row ∷ []
    → IsSearching g start seen stack NoRow → IsMarked seen row
popped_marked g start seen stack rest row e s = s.marked row (rw e (Contains-push rest row))

-- a row that a reached row names is reached
pub reached_step : (g : List (List ℕ)) (start row b : ℕ) → Reached g start row → HasEdge g row b → Reached g start b
reached_step g start row b r e = (suc r.0, (row, r.1, e))

-- a row that comes off the stack is one of the rows
pub popped_below : (g : List (List ℕ)) (start : ℕ) (seen : List Bool) (stack rest : List ℕ) (row n : ℕ) → stack ≡ rest ++ row ∷ []
    → IsSearching g start seen stack NoRow → length seen ≡ n → row < n
popped_below g start seen stack rest row n e s l =
    let h = marked_below seen row (popped_marked g start seen stack rest row e s) in omega (arith, h, l)

-- the search at one row, of whose inputs the first i are passed
pub record IsAtRow (g : List (List ℕ)) (start n row : ℕ) (named : List ℕ) (seen : List Bool) (stack : List ℕ) (i work : ℕ) : Type 0 where
  pub len : length seen ≡ n
  pub holds : IsSearching g start seen stack (λ k. k ≡ row)
  pub at_row : Reached g start row
  pub names : named ≡ inputs g row
  pub passed : (j : ℕ) → j < i → IsMarked seen (get_or named j 0)
  pub left : unmarked seen + length stack ≡ work

-- a row that an input names is one of the rows
pub named_below : (g : List (List ℕ)) (n row : ℕ) (named : List ℕ) (i : ℕ) → InRange g n → named ≡ inputs g row → i < length named → get_or named i 0 < n
named_below g n row named i all e h = elim (cases_lt row (length g)) [
  | inl l ↦ (let r : All (λ b. b < n) named = rw e (All-get_or (λ (r : List ℕ). All (λ b. b < n) r) g row [] l all) in r i 0 h)
  | inr l ↦ absurd (let z = get_or_past g row [] l in let y : length named ≡ 0 = ap length (e ∙ z) in omega (arith, y))
]

-- an input that is marked is passed
pub at_row_skip : (g : List (List ℕ)) (start n row : ℕ) (named : List ℕ) (seen : List Bool) (stack : List ℕ) (i work : ℕ)
    → IsMarked seen (get_or named i 0) → IsAtRow g start n row named seen stack i work → IsAtRow g start n row named seen stack (i + 1) work
at_row_skip g start n row named seen stack i work m s = record {
  len = s.len;
  holds = s.holds;
  at_row = s.at_row;
  names = s.names;
  passed = below_more _ _ s.passed m;
  left = s.left;
}

-- an input that is not marked is marked, put on the stack and passed
pub at_row_mark : (g : List (List ℕ)) (start n row : ℕ) (named : List ℕ) (seen : List Bool) (stack : List ℕ) (i work : ℕ)
    → InRange g n → i < length named → get_or seen (get_or named i 0) false ≡ false → IsAtRow g start n row named seen stack i work
    → IsAtRow g start n row named (set seen (get_or named i 0) true) (stack ++ get_or named i 0 ∷ []) (i + 1) work
at_row_mark g start n row named seen stack i work all h fresh s =
    let b = get_or named i 0 in
    let l : get_or named i 0 < n = named_below g n row named i all s.names h in
    let k : get_or named i 0 < length seen = omega (arith, l, s.len) in
    let u = unmarked-mark seen (get_or named i 0) k fresh in
    let edge : HasEdge g row (get_or named i 0) = subst (λ (xs : List ℕ). Contains xs (get_or named i 0)) s.names (Contains-get_or named i 0 h) in
    record {
      len = length-set seen (get_or named i 0) true ∙ s.len;
      holds = searching_mark g start seen stack (λ x. x ≡ row) (get_or named i 0) k (reached_step g start row (get_or named i 0) s.at_row edge) s.holds;
      at_row = s.at_row;
      names = s.names;
      passed = below_more _ _ (λ j q. mark_stays seen (get_or named i 0) (get_or named j 0) k (s.passed j q))
          (get_or-set_same seen (get_or named i 0) true false k);
      left = (let w = s.left in let p = length_push stack (get_or named i 0) in omega (arith, u, w, p));
    }

-- the next input has a place among the marks
pub at_row_below : (g : List (List ℕ)) (start n row : ℕ) (named : List ℕ) (seen : List Bool) (stack : List ℕ) (i work : ℕ)
    → InRange g n → i < length named → IsAtRow g start n row named seen stack i work → get_or named i 0 < length seen
at_row_below g start n row named seen stack i work all h s =
    let l : get_or named i 0 < n = named_below g n row named i all s.names h in omega (arith, l, s.len)
