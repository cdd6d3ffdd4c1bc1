-- The rows that inputs name, by their places.
use Rattle.std.proofs.Common.{◌≡◌, ◌≢◌, ℕ, zero, suc, ◌<◌, ◌≤◌, Bool, true, false, cond, eqb, List, [], ◌∷◌, ◌⊎◌, inl, inr, Option, Some}
use Rattle.std.proofs.Common.{None, length, get_or, refl, sym, ◌∙◌, ap, subst, arith, ℤ, pos, negsuc, nat_abs}
use Rattle.std.proofs.lemmas.Int.{ints}
use Rattle.std.proofs.lemmas.Bool.{cases_lt, cases_Bool, cases_order, eq-eqb}
use Rattle.std.proofs.lemmas.List.{get_or-map, get_or_past, length-map}
use Rattle.std.proofs.lemmas.List.Elements.{All-nil, All-cons, All-map, All-get_or, All-contains}
use Rattle.std.specs.List.{All, Contains, filter_map, cons_option}
use Rattle.std.specs.Option.{unwrap_or}
use Rattle.llb_ops.specs.declared.op.Op.{Op}
use Rattle.llb_ops.specs.declared.op.Input.{Input}
use Rattle.llb_loader.specs.declared.row.Row.{Row}
use Rattle.llb_loader.specs.ReachedRows.{inputs, InRange, HasEdge, Walk, Reached}
use Rattle.llb_loader.specs.Rules.{IsBelow}
use Rattle.llb_loader.specs.RowLookup.{row_at, first_with, other_than, row_named, rows_named, graph_of}
use Rattle.llb_loader.specs.GraphOfRows.{op_at}
use Rattle.llb_loader.proofs.FirstRowOfDigest.{first_cases}
use Rattle.llb_loader.proofs.OutputNumbers.{below_at}

all_cons_option : {X : Type 0} (h : X → Option ℕ) (P : ℕ → Type 0) → ((x : X) (y : ℕ) → h x ≡ Some y → P y)
    → (x : X) (ys : List ℕ) (o : Option ℕ) → h x ≡ o → All P ys → All P (cons_option o ys)
all_cons_option h P f x ys None e all = all
all_cons_option h P f x ys (Some y) e all = All-cons P y ys (f x y e) all

pub all_filter_map : {X : Type 0} (h : X → Option ℕ) (P : ℕ → Type 0) → ((x : X) (y : ℕ) → h x ≡ Some y → P y) → (xs : List X) → All P (filter_map h xs)
all_filter_map h P f [] = All-nil P
all_filter_map h P f (x ∷ xs) = all_cons_option h P f x (filter_map h xs) (h x) refl (all_filter_map h P f xs)

other_cases : (t : ℕ) (o : Option ℕ) (k : ℕ) → other_than t o ≡ Some k → (o ≡ Some k) × (k ≢ t)
other_cases t None k e = absurd (let x : None ≡ Some k = e in cc)
other_cases t (Some j) k e = elim (cases_Bool (eqb j t)) [
  | inl b ↦ absurd (let x : None ≡ Some k = sym (ap (λ (c : Bool). cond c None (Some j)) b) ∙ e in cc)
  | inr b ↦ (
      let s : Some j ≡ Some k = sym (ap (λ (c : Bool). cond c None (Some j)) b) ∙ e in
      (s, λ q. (let y : eqb j t ≡ true = eq-eqb j t (let z : j ≡ k = cc in z ∙ q) in let w : true ≡ false = sym y ∙ b in cc)))
]

-- a named row is one of the rows, and not the terminal
pub named_below : (rows : List Row) (t : ℕ) (d : List ℕ) (k : ℕ) → row_named rows t d ≡ Some k → k < length rows
named_below rows t d k e = (first_cases rows d (Some k) (other_cases t (first_with rows d) k e).0).0

-- a digest text names the first row that has it
pub named_digest : (rows : List Row) (t : ℕ) (d : List ℕ) (k : ℕ) → row_named rows t d ≡ Some k → (row_at rows k).digest ≡ d
named_digest rows t d k e = (first_cases rows d (Some k) (other_cases t (first_with rows d) k e).0).1

-- no row before this one has its digest
abbrev pub IsFirstRow : List Row → ℕ → Type 0
IsFirstRow rows k = (j : ℕ) → j < k → (row_at rows j).digest ≢ (row_at rows k).digest

-- a row that is named is the first with its digest
pub named_first : (rows : List Row) (t : ℕ) (d : List ℕ) (k : ℕ) → row_named rows t d ≡ Some k → IsFirstRow rows k
named_first rows t d k e j l same =
    let f = first_cases rows d (Some k) (other_cases t (first_with rows d) k e).0 in
    f.2 j l (same ∙ f.1)

-- two rows that are both the first with one digest are the same row
pub same_first : (rows : List Row) (a b : ℕ) → IsFirstRow rows a → IsFirstRow rows b → (row_at rows a).digest ≡ (row_at rows b).digest → a ≡ b
same_first rows a b f g e = elim (cases_order a b) [
  | inl same ↦ same
  | inr o ↦ elim o [ inl l ↦ absurd (g a l e) | inr l ↦ absurd (f b l (sym e)) ]
]

-- whatever inputs name is one of the rows
pub in_range : (rows : List Row) (t : ℕ) (ops : List Op) → InRange (graph_of rows t ops) (length rows)
in_range rows t ops = All-map (λ (r : List ℕ). All (λ b. b < length rows) r) (rows_named rows t) ops
    (λ k d h. all_filter_map (λ (i : Input). row_named rows t i.digest) (λ b. b < length rows) (λ x y e. named_below rows t x.digest y e)
    (get_or ops k d).inputs)

-- what row k names is what the inputs of op k name, nothing where there is no such row
pub graph_at : (rows : List Row) (t : ℕ) (ops : List Op) (k : ℕ) → inputs (graph_of rows t ops) k ≡ rows_named rows t (op_at ops k)
graph_at rows t ops k = elim (cases_lt k (length ops)) [
  | inl l ↦ get_or-map (rows_named rows t) ops k (record { inputs = []; kind = None; extra = [] }) [] l
  | inr g ↦ (
      let m = length-map ops (rows_named rows t) in
      get_or_past (graph_of rows t ops) k [] (omega (arith, g, m))
      ∙ sym (ap (rows_named rows t) (get_or_past ops k (record { inputs = []; kind = None; extra = [] }) g)))
]

-- the row to which an edge leads is below n, if all inputs are in range
edge_below : (g : List (List ℕ)) (n a b : ℕ) → InRange g n → HasEdge g a b → b < n
edge_below g n a b all e = elim (cases_lt a (length g)) [
  | inl l ↦ All-contains (λ x. x < n) (inputs g a) b (All-get_or (λ (r : List ℕ). All (λ x. x < n) r) g a [] l all) e
  | inr l ↦ absurd (let z = get_or_past g a [] l in let y : length (inputs g a) ≡ 0 = ap length z in let h = e.1 in omega (arith, y, h))
]

walk_below : (g : List (List ℕ)) (n s k m : ℕ) → InRange g n → s < n → Walk g s k m → k < n
walk_below g n s k zero all h w = subst (λ (x : ℕ). x < n) w h
walk_below g n s k (suc m) all h (c, w, e) = edge_below g n c k all e

-- what is reached from one of the rows is one of the rows
pub row_below : (g : List (List ℕ)) (n s k : ℕ) → InRange g n → s < n → Reached g s k → k < n
row_below g n s k all h r = walk_below g n s k r.0 all h r.1

walk_first : (rows : List Row) (t : ℕ) (ops : List Op) (s k n : ℕ) → IsFirstRow rows s → Walk (graph_of rows t ops) s k n → IsFirstRow rows k
walk_first rows t ops s k zero f w = subst (λ (x : ℕ). IsFirstRow rows x) w f
walk_first rows t ops s k (suc n) f (c, w, e) =
    let all = all_filter_map (λ (i : Input). row_named rows t i.digest) (IsFirstRow rows) (λ x y q. named_first rows t x.digest y q) (op_at ops c).inputs in
    All-contains (IsFirstRow rows) (rows_named rows t (op_at ops c)) k all (subst (λ (xs : List ℕ). Contains xs k) (graph_at rows t ops c) e)

-- what is reached from a first row is first
pub reached_first : (rows : List Row) (t : ℕ) (ops : List Op) (s k : ℕ) → IsFirstRow rows s → Reached (graph_of rows t ops) s k → IsFirstRow rows k
reached_first rows t ops s k f r = walk_first rows t ops s k r.0 f r.1

-- ---- rows of inputs, where each of the first n inputs names a row

abbrev pub NamedAt : {X : Type 0} → (X → Option ℕ) → List X → X → ℕ → Type 0
NamedAt h xs d n = (n ≤ length (filter_map h xs)) × ((i : ℕ) → i < n → get_or (filter_map h xs) i 0 ≡ unwrap_or (h (get_or xs i d)) 0)

head_or_tail : {X : Type 0} (h : X → Option ℕ) (x : X) (xs : List X) (d : X) (n y : ℕ) → h x ≡ Some y → NamedAt h xs d n → (i : ℕ)
    → i < suc n → get_or (y ∷ filter_map h xs) i 0 ≡ unwrap_or (h (get_or (x ∷ xs) i d)) 0
head_or_tail h x xs d n y e r zero l = sym (ap (λ (o : Option ℕ). unwrap_or o 0) e)
head_or_tail h x xs d n y e r (suc i) l = r.1 i (omega (arith, l))

named_cons : {X : Type 0} (h : X → Option ℕ) (x : X) (xs : List X) (d : X) (n : ℕ) (o : Option ℕ) → h x ≡ o → h x ≢ None → NamedAt h xs d n
    → NamedAt h (x ∷ xs) d (suc n)
named_cons h x xs d n None e f r = absurd (f e)
named_cons h x xs d n (Some y) e f r =
    let same : filter_map h (x ∷ xs) ≡ y ∷ filter_map h xs = ap (λ (o : Option ℕ). cons_option o (filter_map h xs)) e in
    (rw same (let l = r.0 in omega (arith, l)), λ i l. rw same (head_or_tail h x xs d n y e r i l))

-- where each of the first n items has a value, the value of item i is at place i
pub named_at : {X : Type 0} (h : X → Option ℕ) (xs : List X) (d : X) (n : ℕ) → n ≤ length xs → ((i : ℕ) → i < n → h (get_or xs i d) ≢ None) → NamedAt h xs d n
named_at h [] d n l f = (l, λ i m. absurd (omega (arith, l, m)))
named_at h (x ∷ xs) d zero l f = (omega arith, λ i m. absurd (omega (arith, m)))
named_at h (x ∷ xs) d (suc n) l f = named_cons h x xs d n (h x) refl (f 0 (omega arith))
    (named_at h xs d n (omega (arith, l)) (λ i m. f (suc i) (omega (arith, m))))

-- ---- numbers below a bound

-- for any integer it is decided whether it is from 0 to n - 1
pub below_cases : (n : ℕ) (z : ℤ) → IsBelow n z ⊎ (¬ IsBelow n z)
below_cases n (pos m) = elim (cases_lt m n) [ inl l ↦ inl (below_at n (pos m) m refl l) | inr g ↦ inr (λ b. let h = b.high in omega (arith, ints, g, h)) ]
below_cases n (negsuc m) = inr (λ b. let h = b.low in omega (arith, ints, h))

-- an integer below a bound, and at least 0, is below a greater bound too
pub below_wider : (n m : ℕ) (z : ℤ) → n ≤ m → IsBelow n z → IsBelow m z
below_wider n m (pos k) l b = below_at m (pos k) k refl (let h = b.high in omega (arith, ints, l, h))
below_wider n m (negsuc k) l b = absurd (let h = b.low in omega (arith, ints, h))

-- an integer from 0 to n - 1, taken as a natural number, is below n
pub below_abs : (n : ℕ) (z : ℤ) → IsBelow n z → nat_abs z < n
below_abs n (pos k) b = let h = b.high in omega (arith, ints, h)
below_abs n (negsuc k) b = absurd (let h = b.low in omega (arith, ints, h))

-- an integer from 0 to n - 1 is the natural number that it is taken as
pub below_pos : (n : ℕ) (z : ℤ) → IsBelow n z → z ≡ pos (nat_abs z)
below_pos n (pos k) b = refl
below_pos n (negsuc k) b = absurd (let h = b.low in omega (arith, ints, h))

-- ---- a value that is there

-- a value that is not None is Some of the number that `unwrap_or` takes out of it
pub value_there : (o : Option ℕ) → o ≢ None → o ≡ Some (unwrap_or o 0)
value_there None n = absurd (n refl)
value_there (Some k) n = refl
