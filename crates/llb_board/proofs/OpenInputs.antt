-- Laws of links, for the proofs that use them: who the users of a vertex are, what changes when a vertex is done, and when a count is 0.
use Rattle.std.proofs.Common.{◌≡◌, ◌≢◌, ℕ, zero, suc, ◌+◌, ◌<◌, ◌≤◌, Bool, true, false, List, [], ◌∷◌, length, get_or, refl, sym, ap, subst, ◌∙◌, arith}
use Rattle.std.proofs.Common.{inl, inr}
use Rattle.std.specs.Prelude.{All, Some, slice_get, if◌then◌else◌, ◌||◌, ◌&&◌, ◌==◌, not}
use Rattle.std.specs.List.{list_all}
use Rattle.std.proofs.lemmas.Option.{slice_get_within}
use Rattle.std.proofs.lemmas.List.Elements.{All-nil, All-cons, All-head, All-tail, All-weaker}
use Rattle.std.proofs.lemmas.Bool.{cases_eq, eq-eqb, ne_eqb, and_parts, and_from, and_right, or_right}
use Rattle.llb_loader.specs.declared.graph.Edge.{Edge}
use Rattle.llb_loader.specs.declared.graph.Vertex.{Vertex}
use Rattle.llb_board.specs.UsersAndOpenInputs.{leads, users_from, users_of, count_below, waits_for, open_inputs, Linked, IsLinked, users_at, times}
use Rattle.llb_board.specs.UsersAndOpenInputs.{AreLowered, AreRaised}

-- a choice by a test that holds, or does not
pub if_true : {A : Type 0} (b : Bool) (x y : A) → b ≡ true → (if b then x else y) ≡ x
if_true b x y is = ap (λ c. if c then x else y) is

pub if_false : {A : Type 0} (b : Bool) (x y : A) → b ≡ false → (if b then x else y) ≡ y
if_false b x y is = ap (λ c. if c then x else y) is

-- a test counted as 1 or 0
pub bit_yes : (b : Bool) → b ≡ true → ◌≡◌ {A = ℕ} (if b then 1 else 0) 1
bit_yes b is = ap (λ c. if c then 1 else 0) is

pub bit_no : (b : Bool) → b ≡ false → ◌≡◌ {A = ℕ} (if b then 1 else 0) 0
bit_no b is = ap (λ c. if c then 1 else 0) is

-- numbers that are equal, or are not, by the test
pub eq_yes : (x y : ℕ) → x ≡ y → (x == y) ≡ true
eq_yes x y is = eq-eqb x y is

pub eq_no : (x y : ℕ) → x ≢ y → (x == y) ≡ false
eq_no x y apart = ne_eqb x y apart

-- ---- how many numbers pass a test

-- two tests that agree below a bound pass for as many numbers
pub count_same : (p q : ℕ → Bool) (n : ℕ) → ((u : ℕ) → u < n → p u ≡ q u) → count_below p n ≡ count_below q n
count_same p q zero same = refl
count_same p q (suc n) same = λ i. (if same n (omega arith) i then 1 else 0) + count_same p q n (λ u low. same u (omega (arith, low))) i

-- if the second test passes the number u, which the first does not, and else both pass the same numbers, its count is greater by one
pub count_one : (p q : ℕ → Bool) (n u : ℕ) → u < n → p u ≡ false → q u ≡ true → ((w : ℕ) → w ≢ u → p w ≡ q w) → count_below q n ≡ 1 + count_below p n
count_one p q zero u low out passes same = absurd (omega (arith, low))
count_one p q (suc n) u low out passes same = elim (cases_eq u n) [
  | inl is ↦
      let rest : count_below q n ≡ count_below p n = sym (count_same p q n (λ w below. same w (λ e. omega (arith, below, e, is)))) in
      let here : q n ≡ true = subst (λ z. q z ≡ true) is passes in
      let gone : p n ≡ false = subst (λ z. p z ≡ false) is out in
      omega (arith, rest, bit_yes (q n) here, bit_no (p n) gone)
  | inr apart ↦
      let rest = count_one p q n u (omega (arith, low, apart)) out passes same in
      let here : ◌≡◌ {A = ℕ} (if q n then 1 else 0) (if p n then 1 else 0) = ap (λ b. if b then 1 else 0) (sym (same n (λ e. apart (sym e)))) in
      omega (arith, rest, here)
]

-- no more than n numbers below n pass a test
pub count_few : (p : ℕ → Bool) (n : ℕ) → count_below p n ≤ n
count_few p zero = omega arith
count_few p (suc n) = by_test (p n) refl (count_few p n)
  where
    by_test : (b : Bool) → p n ≡ b → count_below p n ≤ n → count_below p (suc n) ≤ suc n
    by_test true is rest = omega (arith, rest, bit_yes (p n) is)
    by_test false is rest = omega (arith, rest, bit_no (p n) is)

-- ---- the users of a vertex

users_below : (u k : ℕ) (xs : List Vertex) → All (λ y. y < k + length xs) (users_from u k xs)
users_below u k [] = All-nil (λ y. y < k + 0)
users_below u k (x ∷ xs) = by_test (leads x.inputs u) (All-weaker (λ y. y < (k + 1) + length xs) (λ y. y < k + length (x ∷ xs)) (λ y low. omega (arith, low))
    (users_from u (k + 1) xs) (users_below u (k + 1) xs))
  where
    by_test : (b : Bool) → All (λ y. y < k + length (x ∷ xs)) (users_from u (k + 1) xs)
        → All (λ y. y < k + length (x ∷ xs)) (if b then k ∷ users_from u (k + 1) xs else users_from u (k + 1) xs)
    by_test true rest = All-cons (λ y. y < k + length (x ∷ xs)) k (users_from u (k + 1) xs) (omega arith) rest
    by_test false rest = rest

-- the users of a vertex are vertices of the graph
pub users_low : (vs : List Vertex) (u : ℕ) → All (λ y. y < length vs) (users_of vs u)
users_low vs u = All-weaker (λ y. y < 0 + length vs) (λ y. y < length vs) (λ y low. omega (arith, low)) (users_of vs u) (users_below u 0 vs)

times_before : (n u k : ℕ) (xs : List Vertex) → n < k → times n (users_from u k xs) ≡ 0
times_before n u k [] low = refl
times_before n u k (x ∷ xs) low = by_test (leads x.inputs u) (times_before n u (k + 1) xs (omega (arith, low)))
  where
    by_test : (b : Bool) → times n (users_from u (k + 1) xs) ≡ 0 → times n (if b then k ∷ users_from u (k + 1) xs else users_from u (k + 1) xs) ≡ 0
    by_test true rest = omega (arith, rest, bit_no (k == n) (eq_no k n (λ e. omega (arith, low, e))))
    by_test false rest = rest

times_users_from : (u k v : ℕ) (xs : List Vertex) (x : Vertex) → slice_get xs v ≡ Some x
    → times (k + v) (users_from u k xs) ≡ (if leads x.inputs u then 1 else 0)
times_users_from u k v [] x at = absurd cc
times_users_from u k zero (y ∷ ys) x at =
    let same : y ≡ x = cc in
    ap (λ n. times n (users_from u k (y ∷ ys))) (omega arith) ∙ by_test (leads y.inputs u) ∙ ap (λ (z : Vertex). if leads z.inputs u then 1 else 0) same
  where
    by_test : (b : Bool) → times k (if b then k ∷ users_from u (k + 1) ys else users_from u (k + 1) ys) ≡ (if b then 1 else 0)
    by_test true = omega (arith, times_before k u (k + 1) ys (omega arith), bit_yes (k == k) (eq_yes k k refl))
    by_test false = times_before k u (k + 1) ys (omega arith)
times_users_from u k (suc v) (y ∷ ys) x at =
    by_test (leads y.inputs u) (ap (λ n. times n (users_from u (k + 1) ys)) (omega arith) ∙ times_users_from u (k + 1) v ys x at)
  where
    by_test : (b : Bool) → times (k + suc v) (users_from u (k + 1) ys) ≡ (if leads x.inputs u then 1 else 0)
        → times (k + suc v) (if b then k ∷ users_from u (k + 1) ys else users_from u (k + 1) ys) ≡ (if leads x.inputs u then 1 else 0)
    by_test true rest = omega (arith, rest, bit_no (k == k + suc v) (eq_no k (k + suc v) (λ e. omega (arith, e))))
    by_test false rest = rest

-- a vertex is listed once among the users of one to which it has an edge, else never
pub times_users : (vs : List Vertex) (u v : ℕ) (x : Vertex) → slice_get vs v ≡ Some x → times v (users_of vs u) ≡ (if leads x.inputs u then 1 else 0)
times_users vs u v x at = ap (λ n. times n (users_of vs u)) (omega arith) ∙ times_users_from u 0 v vs x at

-- ---- a vertex is done, or not any more

-- the lists depend on nothing but which vertices are done
pub linked_same : (vs : List Vertex) (done later : ℕ → Bool) (l : Linked) → ((u : ℕ) → done u ≡ later u) → IsLinked vs done l → IsLinked vs later l
linked_same vs done later l same so = record {
  same_users = so.same_users;
  same_counts = so.same_counts;
  users_are = so.users_are;
  counts_are = λ v x at. so.counts_are v x at ∙ count_same (waits_for done x) (waits_for later x) (length vs) (λ u low. ap (λ b. leads x.inputs u && not b)
      (same u));
}

-- once vertex u is done too, x has one open input less if one of its inputs leads to u
one_done : (vs : List Vertex) (done later : ℕ → Bool) (u : ℕ) (x : Vertex) → u < length vs → done u ≡ false → later u ≡ true → ((w : ℕ) → w ≢ u
    → done w ≡ later w)
    → open_inputs vs done x ≡ open_inputs vs later x + (if leads x.inputs u then 1 else 0)
one_done vs done later u x low was is same = by_test (leads x.inputs u) refl
  where
    others : (w : ℕ) → w ≢ u → waits_for later x w ≡ waits_for done x w
    others w apart = ap (λ b. leads x.inputs w && not b) (sym (same w apart))

    by_test : (b : Bool) → leads x.inputs u ≡ b → open_inputs vs done x ≡ open_inputs vs later x + (if b then 1 else 0)
    by_test true e =
        let more = count_one (waits_for later x) (waits_for done x) (length vs) u low ((λ i. e i && not (is i))) ((λ i. e i && not (was i))) others in
        omega (arith, more)
    by_test false e =
        let equal = count_same (waits_for done x) (waits_for later x) (length vs) (λ w fits. elim (cases_eq w u) [
          | inl here ↦
              subst (λ z. waits_for done x z ≡ waits_for later x z) (sym here) ((λ i. e i && not (done u)) ∙ sym (λ i. e i && not (later u)))
          | inr apart ↦ sym (others w apart)
        ]) in
        omega (arith, equal)

-- one vertex more is done: with the counts of its users lowered, the lists are right again
pub linked_lowered : (vs : List Vertex) (done later : ℕ → Bool) (l m : Linked) (u : ℕ) → u < length vs → done u ≡ false → later u ≡ true
    → ((w : ℕ) → w ≢ u → done w ≡ later w) → IsLinked vs done l → m.users ≡ l.users → AreLowered (users_at l u) l.counts m.counts → IsLinked vs later m
linked_lowered vs done later l m u low was is same so users counts = record {
  same_users = ap length users ∙ so.same_users;
  same_counts = counts.0 ∙ so.same_counts;
  users_are = λ w fits. ap (λ k. get_or k w []) users ∙ so.users_are w fits;
  counts_are = λ v x at.
      let less = ap (λ k. times v k) (so.users_are u low) ∙ times_users vs u v x at in
      omega (arith, counts.1 v, so.counts_are v x at, one_done vs done later u x low was is same, less);
}

-- one vertex is not done any more: with the counts of its users raised, the lists are right again
pub linked_raised : (vs : List Vertex) (done later : ℕ → Bool) (l m : Linked) (u : ℕ) → u < length vs → done u ≡ true → later u ≡ false
    → ((w : ℕ) → w ≢ u → done w ≡ later w) → IsLinked vs done l → m.users ≡ l.users → AreRaised (users_at l u) l.counts m.counts → IsLinked vs later m
linked_raised vs done later l m u low was is same so users counts = record {
  same_users = ap length users ∙ so.same_users;
  same_counts = counts.0 ∙ so.same_counts;
  users_are = λ w fits. ap (λ k. get_or k w []) users ∙ so.users_are w fits;
  counts_are = λ v x at.
      let more = ap (λ k. times v k) (so.users_are u low) ∙ times_users vs u v x at in
      let raised = counts.1 v (omega (arith, slice_get_within vs v x at, so.same_counts)) in
      omega (arith, raised, so.counts_are v x at, one_done vs later done u x low is was (λ w apart. sym (same w apart)), more);
}

-- ---- no input is open

no_count : (p : ℕ → Bool) (n : ℕ) → ((u : ℕ) → u < n → p u ≡ false) → count_below p n ≡ 0
no_count p zero none = refl
no_count p (suc n) none = omega (arith, no_count p n (λ u low. none u (omega (arith, low))), bit_no (p n) (none n (omega arith)))

some_count : (p : ℕ → Bool) (n u : ℕ) → u < n → p u ≡ true → 1 ≤ count_below p n
some_count p zero u low is = absurd (omega (arith, low))
some_count p (suc n) u low is = elim (cases_eq u n) [
  | inl same ↦ omega (arith, bit_yes (p n) (subst (λ z. p z ≡ true) same is))
  | inr apart ↦ omega (arith, some_count p n u (omega (arith, low, apart)) is)
]

-- whether all inputs are done
abbrev pub all_done : (ℕ → Bool) → List Edge → Bool
all_done done edges = list_all (λ (e : Edge). done e.vertex) edges

waiting : (done : ℕ → Bool) → List Edge → ℕ → Bool
waiting done edges u = leads edges u && not (done u)

-- if all inputs are done, no edge leads to an open one
closed : (done : ℕ → Bool) (edges : List Edge) → all_done done edges ≡ true → (u : ℕ) → (leads edges u && not (done u)) ≡ false
closed done [] all u = refl
closed done (e ∷ es) all u =
    let both = and_parts (done e.vertex) (all_done done es) all in
    elim (cases_eq e.vertex u) [
      | inl same ↦ and_right (leads (e ∷ es) u) (not (done u)) (ap not (subst (λ z. done z ≡ true) same both.0))
      | inr apart ↦ (λ i. (eq_no e.vertex u apart i || leads es u) && not (done u)) ∙ closed done es both.1 u
    ]

-- if an input is not done, an edge leads to an open one
opened : (done : ℕ → Bool) (n : ℕ) (edges : List Edge) → All (λ (e : Edge). e.vertex < n) edges → all_done done edges ≡ false
    → (u : ℕ) × (u < n) × ((leads edges u && not (done u)) ≡ true)
opened done n [] below none = absurd cc
opened done n (e ∷ es) below none = by_test (done e.vertex) refl none (λ rest. opened done n es (All-tail (λ (e : Edge). e.vertex < n) e es below) rest)
  where
    by_test : (b : Bool) → done e.vertex ≡ b → (b && all_done done es) ≡ false → (all_done done es ≡ false
        → (u : ℕ) × (u < n) × ((leads es u && not (done u)) ≡ true))
        → (u : ℕ) × (u < n) × ((leads (e ∷ es) u && not (done u)) ≡ true)
    by_test false is rest go =
        (e.vertex, All-head (λ (e : Edge). e.vertex < n) e es below, λ i. (eq_yes e.vertex e.vertex refl i || leads es e.vertex) && not (is i))
    by_test true is rest go = let found = go rest in
        let parts = and_parts (leads es found.0) (not (done found.0)) found.2 in
        (found.0, found.1, and_from (leads (e ∷ es) found.0) (not (done found.0)) (or_right (e.vertex == found.0) (leads es found.0) parts.0) parts.1)

-- a count is 0 exactly if all edges lead to vertices that are done
pub counted_done : (vs : List Vertex) (done : ℕ → Bool) (x : Vertex) → All (λ (e : Edge). e.vertex < length vs) x.inputs
    → (open_inputs vs done x == 0) ≡ all_done done x.inputs
counted_done vs done x below = by_test (all_done done x.inputs) refl
  where
    by_test : (b : Bool) → all_done done x.inputs ≡ b → (open_inputs vs done x == 0) ≡ b
    by_test true is = eq_yes (open_inputs vs done x) 0 (no_count (waits_for done x) (length vs) (λ u low. closed done x.inputs is u))
    by_test false is =
        let found = opened done (length vs) x.inputs below is in
        let some = some_count (waits_for done x) (length vs) found.0 found.1 found.2 in
        eq_no (open_inputs vs done x) 0 (λ e. omega (arith, some, e))
