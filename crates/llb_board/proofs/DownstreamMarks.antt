-- Marks that spread from a vertex to all that are after it.
use Rattle.std.proofs.Common.{◌≡◌, ℕ, zero, suc, ◌+◌, ◌<◌, ◌≤◌, Bool, true, false, List, [], ◌∷◌, ◌++◌, length, map, drop, get_or, set, refl, sym, ap, subst}
use Rattle.std.proofs.Common.{◌∙◌, arith, ◌⊎◌, inl, inr, drop-cons, add-one, append_assoc, length-append}
use Rattle.std.specs.Prelude.{Contains}
use Rattle.std.proofs.lemmas.List.{get_or-set_same, length-set, append-nil, drop-append-le, drop_all}
use Rattle.std.proofs.lemmas.List.Elements.{Contains-get_or, Contains-append_left, Contains-append_right, Contains-append_cases}
use Rattle.llb_board.specs.UsersAndOpenInputs.{is_marked, IsClosed, unmarked, Visits, Spreads}

none : (x : ℕ) → Contains [] x → ⊥
none x h = let lt = h.1 in omega (arith, lt)

only_one : (y x : ℕ) → Contains (y ∷ []) x → y ≡ x
only_one y x (zero, lt, is) = is
only_one y x (suc k, lt, is) = absurd (omega (arith, lt))

one_of : (x : ℕ) → Contains (x ∷ []) x
one_of x = (0, omega arith, refl)

-- the item that is read at a place of a mapped list is the mapped item of the list
pub got_mapped : {A B : Type 0} (f : A → B) (xs : List A) (n : ℕ) (x : A) (d : B) → n < length xs → x ≡ get_or xs n x → get_or (map f xs) n d ≡ f x
got_mapped f [] n x d low is = absurd (omega (arith, low))
got_mapped f (y ∷ ys) zero x d low is = ap f (sym is)
got_mapped f (y ∷ ys) (suc n) x d low is = got_mapped f ys n x d (omega (arith, low)) is

-- ---- one mark more

marked_set : (marks : List Bool) (x y : ℕ) → is_marked marks y ≡ true → is_marked (set marks x true) y ≡ true
marked_set [] x y is = is
marked_set (b ∷ bs) zero zero is = refl
marked_set (b ∷ bs) zero (suc y) is = is
marked_set (b ∷ bs) (suc x) zero is = is
marked_set (b ∷ bs) (suc x) (suc y) is = marked_set bs x y is

marked_only : (marks : List Bool) (x y : ℕ) → is_marked (set marks x true) y ≡ true → (is_marked marks y ≡ true) ⊎ (y ≡ x)
marked_only [] x y is = inl is
marked_only (b ∷ bs) zero zero is = inr refl
marked_only (b ∷ bs) zero (suc y) is = inl is
marked_only (b ∷ bs) (suc x) zero is = inl is
marked_only (b ∷ bs) (suc x) (suc y) is = elim (marked_only bs x y is) [ inl h ↦ inl h | inr h ↦ inr (ap suc h) ]

unmarked_set : (marks : List Bool) (x : ℕ) → x < length marks → is_marked marks x ≡ false → unmarked (set marks x true) + 1 ≡ unmarked marks
unmarked_set [] x low is = absurd (omega (arith, low))
unmarked_set (true ∷ bs) zero low is = absurd cc
unmarked_set (false ∷ bs) zero low is = omega arith
unmarked_set (true ∷ bs) (suc x) low is = let rest = unmarked_set bs x (omega (arith, low)) is in omega (arith, rest)
unmarked_set (false ∷ bs) (suc x) low is = let rest = unmarked_set bs x (omega (arith, low)) is in omega (arith, rest)

-- a vertex without a mark counts among those that are not marked
pub some_unmarked : (marks : List Bool) (x : ℕ) → x < length marks → is_marked marks x ≡ false → 1 ≤ unmarked marks
some_unmarked marks x low is = let less = unmarked_set marks x low is in omega (arith, less)

unmarked_few : (marks : List Bool) → unmarked marks ≤ length marks
unmarked_few [] = omega arith
unmarked_few (true ∷ bs) = omega (arith, unmarked_few bs)
unmarked_few (false ∷ bs) = omega (arith, unmarked_few bs)

unmarked_less : (marks : List Bool) (x : ℕ) → x < length marks → unmarked (set marks x true) + 1 ≤ length marks
unmarked_less [] x low = absurd (omega (arith, low))
unmarked_less (b ∷ bs) zero low = omega (arith, unmarked_few bs)
unmarked_less (true ∷ bs) (suc x) low = omega (arith, unmarked_less bs x (omega (arith, low)))
unmarked_less (false ∷ bs) (suc x) low = omega (arith, unmarked_less bs x (omega (arith, low)))

-- what is marked is within the marks
pub marked_low : (marks : List Bool) (x : ℕ) → is_marked marks x ≡ true → x < length marks
marked_low [] x is = absurd cc
marked_low (b ∷ bs) zero is = omega arith
marked_low (b ∷ bs) (suc x) is = omega (arith, marked_low bs x is)

-- ---- some vertices are visited

pub visits_none : (marks : List Bool) (reached : List ℕ) → Visits [] marks marks reached reached
visits_none marks reached = record {
  same = refl;
  more = [];
  is = sym (append-nil reached);
  from = λ x h. h;
  kept = λ x h. h;
  all = λ x h. absurd (none x h);
  only = λ x h. inl h;
  count = omega arith;
}

-- a vertex that was marked already: a visit changes nothing
pub visits_known : (marks : List Bool) (reached : List ℕ) (x : ℕ) → is_marked marks x ≡ true → Visits (x ∷ []) marks marks reached reached
visits_known marks reached x is = record {
  same = refl;
  more = [];
  is = sym (append-nil reached);
  from = λ y h. absurd (none y h);
  kept = λ y h. h;
  all = λ y h. subst (λ z. is_marked marks z ≡ true) (only_one x y h) is;
  only = λ y h. inl h;
  count = omega arith;
}

-- a vertex that was not marked: a visit marks it, and it counts as reached
pub visits_new : (marks : List Bool) (reached : List ℕ) (x : ℕ) → x < length marks → is_marked marks x ≡ false
    → Visits (x ∷ []) marks (set marks x true) reached (reached ++ x ∷ [])
visits_new marks reached x low is = record {
  same = length-set marks x true;
  more = x ∷ [];
  is = refl;
  from = λ y h. h;
  kept = λ y h. marked_set marks x y h;
  all = λ y h. subst (λ z. is_marked (set marks x true) z ≡ true) (only_one x y h) (get_or-set_same marks x true false low);
  only = λ y h. elim (marked_only marks x y h) [ inl k ↦ inl k | inr k ↦ inr (subst (Contains (x ∷ [])) (sym k) (one_of x)) ];
  count = unmarked_set marks x low is;
}

-- visits of some vertices, and then of one more
pub visits_more : (us : List ℕ) (x : ℕ) (m0 m1 m2 : List Bool) (r0 r1 r2 : List ℕ) → Visits us m0 m1 r0 r1 → Visits (x ∷ []) m1 m2 r1 r2
    → Visits (us ++ x ∷ []) m0 m2 r0 r2
visits_more us x m0 m1 m2 r0 r1 r2 a b = record {
  same = b.same ∙ a.same;
  more = a.more ++ b.more;
  is = b.is ∙ ap (λ l. l ++ b.more) a.is ∙ append_assoc r0 a.more b.more;
  from = λ y h. elim (Contains-append_cases a.more b.more y h) [
    | inl k ↦ Contains-append_left us (x ∷ []) y (a.from y k)
    | inr k ↦ Contains-append_right us (x ∷ []) y (b.from y k)
  ];
  kept = λ y h. b.kept y (a.kept y h);
  all = λ y h. elim (Contains-append_cases us (x ∷ []) y h) [ inl k ↦ b.kept y (a.all y k) | inr k ↦ b.all y k ];
  only = λ y h. elim (b.only y h) [
    | inl k ↦ elim (a.only y k) [ inl was ↦ inl was | inr in_a ↦ inr (Contains-append_left a.more b.more y in_a) ]
    | inr k ↦ inr (Contains-append_right a.more b.more y k)
  ];
  count = let one = a.count in let two = b.count in omega (arith, one, two, length-append a.more b.more);
}

-- ---- the vertices after those that were visited

-- the state of a loop that has visited the users of the first i vertices that were reached
pub record Spreading (users : List (List ℕ)) (v : ℕ) (old now : List Bool) (reached : List ℕ) (i : ℕ) : Type 0 where
  pub same : length now ≡ length old
  pub kept : (x : ℕ) → is_marked old x ≡ true → is_marked now x ≡ true
  pub here : is_marked now v ≡ true
  pub behind : IsClosed users (is_marked old) → (y x : ℕ) → is_marked now y ≡ true → Contains (get_or users y []) x
      → (is_marked now x ≡ true) ⊎ Contains (drop i reached) y
  pub least : (p : ℕ → Bool) → IsClosed users p → ((x : ℕ) → is_marked old x ≡ true → p x ≡ true) → p v ≡ true → (x : ℕ) → is_marked now x ≡ true → p x ≡ true
  pub marked : (x : ℕ) → Contains reached x → is_marked now x ≡ true
  pub room : unmarked now + length reached ≤ length old

-- at first the vertex is marked that the marks spread from, and it alone is reached
pub spreading_start : (users : List (List ℕ)) (v : ℕ) (old : List Bool) → v < length old → Spreading users v old (set old v true) (v ∷ []) 0
spreading_start users v old low = record {
  same = length-set old v true;
  kept = λ x h. marked_set old v x h;
  here = get_or-set_same old v true false low;
  behind = λ closed y x h at. elim (marked_only old v y h) [
    | inl k ↦ inl (marked_set old v x (closed y x k at))
    | inr k ↦ inr (subst (Contains (v ∷ [])) (sym k) (one_of v))
  ];
  least = λ p closed was is x h. elim (marked_only old v x h) [ inl k ↦ was x k | inr k ↦ subst (λ z. p z ≡ true) (sym k) is ];
  marked = λ x h. subst (λ z. is_marked (set old v true) z ≡ true) (only_one v x h) (get_or-set_same old v true false low);
  room = omega (arith, unmarked_less old v low);
}

-- the users of the next vertex that was reached are visited, and those that had no mark are reached in turn
pub spreading_next : (users : List (List ℕ)) (v : ℕ) (old now later : List Bool) (reached more_reached : List ℕ) (i : ℕ) → Spreading users v old now reached i
    → i < length reached → Visits (get_or users (get_or reached i 0) []) now later reached more_reached → Spreading users v old later more_reached (i + 1)
spreading_next users v old now later reached more_reached i s low visits =
    let next = get_or reached i 0 in
    let marked_next : is_marked now next ≡ true = s.marked next (Contains-get_or reached i 0 low) in
    let rest : drop (i + 1) more_reached ≡ drop (i + 1) reached ++ visits.more
    = ap (drop (i + 1)) visits.is ∙ drop-append-le (i + 1) reached visits.more (omega (arith, low)) in
    let split : drop i reached ≡ next ∷ drop (i + 1) reached = drop-cons reached i 0 low ∙ ap (λ k. next ∷ drop k reached) (sym (add-one i)) in
    record {
      same = visits.same ∙ s.same;
      kept = λ x h. visits.kept x (s.kept x h);
      here = visits.kept v s.here;
      behind = λ closed y x h at. elim (visits.only y h) [
        | inl k ↦ elim (s.behind closed y x k at) [
          | inl there ↦ inl (visits.kept x there)
          | inr waits ↦ elim (Contains-append_cases (next ∷ []) (drop (i + 1) reached) y (subst (λ l. Contains l y) split waits)) [
            | inl is ↦ inl (visits.all x (subst (λ z. Contains (get_or users z []) x) (sym (only_one next y is)) at))
            | inr later_one ↦ inr (subst (λ l. Contains l y) (sym rest) (Contains-append_left (drop (i + 1) reached) visits.more y later_one))
          ]
        ]
        | inr k ↦ inr (subst (λ l. Contains l y) (sym rest) (Contains-append_right (drop (i + 1) reached) visits.more y k))
      ];
      least = λ p closed was is x h. elim (visits.only x h) [
        | inl k ↦ s.least p closed was is x k
        | inr k ↦ closed next x (s.least p closed was is next marked_next) (visits.from x k)
      ];
      marked = λ x h. elim (Contains-append_cases reached visits.more x (subst (λ l. Contains l x) visits.is h)) [
        | inl k ↦ visits.kept x (s.marked x k)
        | inr k ↦ visits.all x (visits.from x k)
      ];
      room = let fits = s.room in let count = visits.count in omega (arith, fits, count, ap length visits.is, length-append reached visits.more);
    }

pub spreading_end : (users : List (List ℕ)) (v : ℕ) (old now : List Bool) (reached : List ℕ) (i : ℕ) → Spreading users v old now reached i → length reached ≤ i
    → Spreads users v old now
spreading_end users v old now reached i s past = record {
  same = s.same;
  kept = s.kept;
  here = s.here;
  closed = λ closed y x h at. elim (s.behind closed y x h at) [
    | inl there ↦ there
    | inr waits ↦ absurd (none y (subst (λ l. Contains l y) (drop_all i reached past) waits))
  ];
  least = s.least;
}
