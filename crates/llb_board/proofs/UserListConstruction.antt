-- The lists of users and the counts of open inputs, as far as a loop over vertices, edges or users has come.
use Rattle.std.proofs.Common.{◌≡◌, ◌≢◌, ℕ, zero, suc, ◌+◌, ◌-◌, ◌^◌, ◌<◌, ◌≤◌, Bool, true, false, List, [], ◌∷◌, ◌++◌, length, take, get_or, set, refl, sym}
use Rattle.std.proofs.Common.{ap, subst, ◌∙◌, arith, inl, inr}
use Rattle.std.specs.Prelude.{All, Option, Some, replicate, slice_get, if◌then◌else◌, ◌||◌, ◌&&◌, ◌==◌}
use Rattle.std.proofs.lemmas.List.{get_or-set_same, get_or-set_other, length-set, take_more, take_all, length-take-le, length_push, get_or_push}
use Rattle.std.proofs.lemmas.List.{get_or_append_left, length-replicate, get_or-replicate}
use Rattle.std.proofs.lemmas.Option.{slice_get_within, slice_get_read}
use Rattle.std.proofs.lemmas.Bool.{cases_eq}
use Rattle.llb_loader.specs.declared.graph.Edge.{Edge}
use Rattle.llb_loader.specs.declared.graph.Vertex.{Vertex}
use Rattle.llb_board.specs.UsersAndOpenInputs.{leads, users_from, users_of, count_below, waits_for, open_inputs, IsEntered, IsLinked, times, AreLowered}
use Rattle.llb_board.specs.UsersAndOpenInputs.{AreRaised}
use Rattle.llb_board.proofs.OpenInputs.{if_true, if_false, bit_yes, bit_no, eq_yes, eq_no, count_same, count_one, users_low}

-- ---- how often a number is listed

times_push : (x : ℕ) (ys : List ℕ) (y : ℕ) → times x (ys ++ y ∷ []) ≡ times x ys + (if y == x then 1 else 0)
times_push x [] y = omega arith
times_push x (z ∷ zs) y = let rest = times_push x zs y in omega (arith, rest)

times_few : (x : ℕ) (ys : List ℕ) → times x ys ≤ length ys
times_few x [] = omega arith
times_few x (y ∷ ys) = let rest = times_few x ys in elim (cases_eq y x) [
  | inl same ↦ omega (arith, rest, bit_yes (y == x) (eq_yes y x same))
  | inr apart ↦ omega (arith, rest, bit_no (y == x) (eq_no y x apart))
]

-- with one user more listed, one count more is lowered
pub lowered_more : (us : List ℕ) (x : ℕ) (old now : List ℕ) → x < length now → AreLowered us old now
    → AreLowered (us ++ x ∷ []) old (set now x (get_or now x 0 - 1))
lowered_more us x old now low so = (
  length-set now x (get_or now x 0 - 1) ∙ so.0,
  λ y. elim (cases_eq y x) [
    | inl same ↦
        let here : get_or (set now x (get_or now x 0 - 1)) y 0 ≡ get_or now y 0 - 1
        = subst (λ z. get_or (set now x (get_or now x 0 - 1)) z 0 ≡ get_or now z 0 - 1) (sym same) (get_or-set_same now x (get_or now x 0 - 1) 0 low) in
        omega (arith, here, so.1 y, times_push y us x, bit_yes (x == y) (eq_yes x y (sym same)))
    | inr apart ↦
        let here : get_or (set now x (get_or now x 0 - 1)) y 0 ≡ get_or now y 0 = get_or-set_other now x y (get_or now x 0 - 1) 0 apart in
        omega (arith, here, so.1 y, times_push y us x, bit_no (x == y) (eq_no x y (λ e. apart (sym e))))
  ],
)

-- with one user more listed, one count more is raised
pub raised_more : (us : List ℕ) (x : ℕ) (old now : List ℕ) → x < length now → AreRaised us old now
    → AreRaised (us ++ x ∷ []) old (set now x (get_or now x 0 + 1))
raised_more us x old now low so = (
  length-set now x (get_or now x 0 + 1) ∙ so.0,
  λ y fits. elim (cases_eq y x) [
    | inl same ↦
        let here : get_or (set now x (get_or now x 0 + 1)) y 0 ≡ get_or now y 0 + 1
        = subst (λ z. get_or (set now x (get_or now x 0 + 1)) z 0 ≡ get_or now z 0 + 1) (sym same) (get_or-set_same now x (get_or now x 0 + 1) 0 low) in
        omega (arith, here, so.1 y fits, times_push y us x, bit_yes (x == y) (eq_yes x y (sym same)))
    | inr apart ↦
        let here : get_or (set now x (get_or now x 0 + 1)) y 0 ≡ get_or now y 0 = get_or-set_other now x y (get_or now x 0 + 1) 0 apart in
        omega (arith, here, so.1 y fits, times_push y us x, bit_no (x == y) (eq_no x y (λ e. apart (sym e))))
  ],
)

-- a count that may be raised for `all` users in 32 bits can be raised once more while fewer are done
pub raised_fits : (us : List ℕ) (x : ℕ) (old now : List ℕ) (all : ℕ) → x < length old → AreRaised us old now → get_or old x 0 + all < 2 ^ 32 → length us < all
    → get_or now x 0 + 1 < 2 ^ 32
raised_fits us x old now all low so fits more = omega (arith, so.1 x low, times_few x us, fits, more)

-- ---- edges that are entered one after another

leads_push : (es : List Edge) (e : Edge) (u : ℕ) → leads (es ++ e ∷ []) u ≡ (leads es u || (e.vertex == u))
leads_push [] e u = by_test (e.vertex == u)
  where
    by_test : (b : Bool) → (b || false) ≡ (false || b)
    by_test true = refl
    by_test false = refl
leads_push (d ∷ es) e u = by_test (d.vertex == u) (leads_push es e u)
  where
    by_test : (b : Bool) → leads (es ++ e ∷ []) u ≡ (leads es u || (e.vertex == u)) → (b || leads (es ++ e ∷ []) u) ≡ ((b || leads es u) || (e.vertex == u))
    by_test true rest = refl
    by_test false rest = rest

leads_other : (es : List Edge) (e : Edge) (u : ℕ) → u ≢ e.vertex → leads (es ++ e ∷ []) u ≡ leads es u
leads_other es e u apart = leads_push es e u ∙ ap (λ b. leads es u || b) (eq_no e.vertex u (λ s. apart (sym s))) ∙ by_test (leads es u)
  where
    by_test : (b : Bool) → (b || false) ≡ b
    by_test true = refl
    by_test false = refl

leads_here : (es : List Edge) (e : Edge) → leads (es ++ e ∷ []) e.vertex ≡ true
leads_here es e = leads_push es e e.vertex ∙ ap (λ b. leads es e.vertex || b) (eq_yes e.vertex e.vertex refl) ∙ by_test (leads es e.vertex)
  where
    by_test : (b : Bool) → (b || true) ≡ true
    by_test true = refl
    by_test false = refl

-- for a vertex without edges no list changes, and nothing is counted
pub entered_none : (v : ℕ) (lists : List (List ℕ)) → IsEntered [] v lists lists 0
entered_none v lists = record { same = refl; lists = λ u low. refl; counted = sym (none (length lists)) }
  where
    none : (n : ℕ) → count_below (leads []) n ≡ 0
    none zero = refl
    none (suc n) = omega (arith, none n)

-- one more edge is entered: v is appended to the list of the vertex to which it leads, unless an earlier edge led there
pub entered_more : (es : List Edge) (e : Edge) (v : ℕ) (old now : List (List ℕ)) (count n : ℕ) (list : List ℕ) → e.vertex < length old
    → IsEntered es v old now count
    → (leads es e.vertex ≡ true → (list ≡ get_or now e.vertex []) × (n ≡ 0)) → (leads es e.vertex ≡ false → (list ≡ get_or now e.vertex [] ++ v ∷ []) × (n ≡ 1))
    → IsEntered (es ++ e ∷ []) v old (set now e.vertex list) (count + n)
entered_more es e v old now count n list low so again fresh = by_test (leads es e.vertex) refl
  where
    low_now : e.vertex < length now
    low_now = omega (arith, low, so.same)

    others : (u : ℕ) → u < length old → u ≢ e.vertex → get_or (set now e.vertex list) u []
        ≡ (if leads (es ++ e ∷ []) u then get_or old u [] ++ v ∷ [] else get_or old u [])
    others u fits apart =
        get_or-set_other now e.vertex u list [] apart ∙ so.lists u fits
        ∙ ap (λ b. if b then get_or old u [] ++ v ∷ [] else get_or old u []) (sym (leads_other es e u apart))

    here : list ≡ get_or old e.vertex [] ++ v ∷ [] → get_or (set now e.vertex list) e.vertex []
        ≡ (if leads (es ++ e ∷ []) e.vertex then get_or old e.vertex [] ++ v ∷ [] else get_or old e.vertex [])
    here is =
        get_or-set_same now e.vertex list [] low_now ∙ is
        ∙ sym (if_true (leads (es ++ e ∷ []) e.vertex) (get_or old e.vertex [] ++ v ∷ []) (get_or old e.vertex []) (leads_here es e))

    lists_are : list ≡ get_or old e.vertex [] ++ v ∷ [] → (u : ℕ) → u < length old → get_or (set now e.vertex list) u []
        ≡ (if leads (es ++ e ∷ []) u then get_or old u [] ++ v ∷ [] else get_or old u [])
    lists_are is u fits = elim (cases_eq u e.vertex) [
      | inl same ↦
          subst (λ z. get_or (set now e.vertex list) z [] ≡ (if leads (es ++ e ∷ []) z then get_or old z [] ++ v ∷ [] else get_or old z [])) (sym same) (here
          is)
      | inr apart ↦ others u fits apart
    ]

    by_test : (b : Bool) → leads es e.vertex ≡ b → IsEntered (es ++ e ∷ []) v old (set now e.vertex list) (count + n)
    by_test true is =
        let a = again is in
        let same_count : count_below (leads (es ++ e ∷ [])) (length old) ≡ count_below (leads es) (length old)
        = count_same (leads (es ++ e ∷ [])) (leads es) (length old) (λ u fits. elim (cases_eq u e.vertex) [
          | inl same ↦ subst (λ z. leads (es ++ e ∷ []) z ≡ leads es z) (sym same) (leads_here es e ∙ sym is)
          | inr apart ↦ leads_other es e u apart
        ]) in
        record {
          same = length-set now e.vertex list ∙ so.same;
          lists = lists_are (a.0 ∙ so.lists e.vertex low ∙ if_true (leads es e.vertex) (get_or old e.vertex [] ++ v ∷ []) (get_or old e.vertex []) is);
          counted = omega (arith, a.1, so.counted, same_count);
        }
    by_test false is =
        let a = fresh is in
        let one_more : count_below (leads (es ++ e ∷ [])) (length old) ≡ 1 + count_below (leads es) (length old)
        = count_one (leads es) (leads (es ++ e ∷ [])) (length old) e.vertex low is (leads_here es e) (λ w apart. sym (leads_other es e w apart)) in
        let was : get_or now e.vertex [] ≡ get_or old e.vertex []
        = so.lists e.vertex low ∙ if_false (leads es e.vertex) (get_or old e.vertex [] ++ v ∷ []) (get_or old e.vertex []) is in
        record {
          same = length-set now e.vertex list ∙ so.same;
          lists = lists_are (a.0 ∙ ap (λ l. l ++ v ∷ []) was);
          counted = omega (arith, a.1, so.counted, one_more);
        }

-- ---- the users of a vertex, with one vertex more

users_push : (u k : ℕ) (xs : List Vertex) (x : Vertex) → users_from u k (xs ++ x ∷ []) ≡ (if leads x.inputs u then users_from u k xs ++ (k + length xs) ∷ []
    else users_from u k xs)
users_push u k [] x = ap (λ n. if leads x.inputs u then n ∷ [] else []) (sym (omega arith))
users_push u k (y ∷ ys) x = by_tests (leads y.inputs u) (leads x.inputs u) (users_from u (k + 1) (ys ++ x ∷ [])) (users_push u (k + 1) ys x)
  where
    by_tests : (a b : Bool) (l : List ℕ) → l ≡ (if b then users_from u (k + 1) ys ++ ((k + 1) + length ys) ∷ [] else users_from u (k + 1) ys)
        → (if a then k ∷ l else l)
        ≡ (if b then (if a then k ∷ users_from u (k + 1) ys else users_from u (k + 1) ys) ++ (k + length (y ∷ ys)) ∷ [] else (if a then k ∷ users_from u (k +
        1) ys else users_from u (k + 1) ys))
    by_tests true true l is = ap (λ l. k ∷ l) is ∙ ap (λ n. k ∷ users_from u (k + 1) ys ++ n ∷ []) (omega arith)
    by_tests true false l is = ap (λ l. k ∷ l) is
    by_tests false true l is = is ∙ ap (λ n. users_from u (k + 1) ys ++ n ∷ []) (omega arith)
    by_tests false false l is = is

-- ---- the lists of a graph, as far as a loop has come

pub record Linking (vs : List Vertex) (v : ℕ) (users : List (List ℕ)) (counts : List ℕ) : Type 0 where
  pub same_users : length users ≡ length vs
  pub same_counts : length counts ≡ v
  pub users_are : (u : ℕ) → u < length vs → get_or users u [] ≡ users_of (take v vs) u
  pub counts_are : (k : ℕ) (x : Vertex) → k < v → slice_get vs k ≡ Some x → get_or counts k 0 ≡ open_inputs vs (λ u. false) x

pub linking_start : (vs : List Vertex) → Linking vs 0 (replicate (length vs) []) []
linking_start vs = record {
  same_users = length-replicate (length vs) [];
  same_counts = refl;
  users_are = λ u low. get_or-replicate (length vs) u [] [] low;
  counts_are = λ k x low at. absurd (omega (arith, low));
}

nothing_done : (x : Vertex) (n : ℕ) → count_below (leads x.inputs) n ≡ count_below (waits_for (λ u. false) x) n
nothing_done x n = count_same (leads x.inputs) (waits_for (λ u. false) x) n (λ u low. by_test (leads x.inputs u))
  where
    by_test : (b : Bool) → b ≡ (b && true)
    by_test true = refl
    by_test false = refl

-- the next vertex is entered in the lists of those that its edges lead to, and its count is how many these are
pub linking_next : (vs : List Vertex) (v : ℕ) (x : Vertex) (users later : List (List ℕ)) (counts : List ℕ) (n : ℕ) → v < length vs → x ≡ get_or vs v x
    → Linking vs v users counts → IsEntered x.inputs v users later n → Linking vs (v + 1) later (counts ++ n ∷ [])
linking_next vs v x users later counts n low is so entered = record {
  same_users = entered.same ∙ so.same_users;
  same_counts = omega (arith, length_push counts n, so.same_counts);
  users_are = λ u fits.
      entered.lists u (omega (arith, fits, so.same_users))
      ∙ ap (λ l. if leads x.inputs u then l ++ v ∷ [] else l) (so.users_are u fits)
      ∙ ap (λ k. if leads x.inputs u then users_of (take v vs) u ++ k ∷ [] else users_of (take v vs) u) (sym (omega (
        arith,
        length-take-le v vs (omega
            (arith, low)),
      )))
      ∙ sym (users_push u 0 (take v vs) x) ∙ ap (λ l. users_of l u) (sym (take_more vs v x low ∙ ap (λ y. take v vs ++ y ∷ []) (sym is)));
  counts_are = λ k y below at. elim (cases_eq k v) [
    | inl same ↦
        let here : get_or (counts ++ n ∷ []) k 0 ≡ n = ap (λ j. get_or (counts ++ n ∷ []) j 0) (same ∙ sym so.same_counts)
        ∙ get_or_push counts n 0 (length counts) refl in
        let y_is : y ≡ x = inside (sym at ∙ ap (slice_get vs) same ∙ slice_get_read vs (length vs) v x refl low is) in
        here ∙ entered.counted ∙ ap (count_below (leads x.inputs)) so.same_users ∙ nothing_done x (length vs) ∙ ap (open_inputs vs (λ u. false)) (sym y_is)
    | inr apart ↦
        let fits : k < v = omega (arith, below, apart) in
        get_or_append_left counts (n ∷ []) 0 k (omega (arith, fits, so.same_counts)) ∙ so.counts_are k y fits at
  ];
}
  where
    inside : {A : Type 0} {a b : A} → ◌≡◌ {A = Option A} (Some a) (Some b) → a ≡ b
    inside e = cc

-- where all vertices are entered, the lists and counts are those of the graph with no vertex done
pub linking_end : (vs : List Vertex) (v : ℕ) (users : List (List ℕ)) (counts : List ℕ) → Linking vs v users counts → v ≡ length vs
    → IsLinked vs (λ u. false) (record { users = users; counts = counts })
linking_end vs v users counts so is = record {
  same_users = so.same_users;
  same_counts = so.same_counts ∙ is;
  users_are = λ u low. so.users_are u low ∙ ap (λ l. users_of l u) (take_all v vs (omega (arith, is)));
  counts_are = λ k x at. so.counts_are k x (omega (arith, slice_get_within vs k x at, is)) at;
}

-- all that are listed so far are below the next vertex
pub linking_below : (vs : List Vertex) (v : ℕ) (users : List (List ℕ)) (counts : List ℕ) (u : ℕ) → v < length vs → Linking vs v users counts → u < length vs
    → All (λ y. y < v) (get_or users u [])
linking_below vs v users counts u low so fits =
    subst (All (λ y. y < v)) (sym (so.users_are u fits))
    (subst (λ n. All (λ y. y < n) (users_of (take v vs) u)) (length-take-le v vs (omega (arith, low))) (users_low (take v vs) u))
