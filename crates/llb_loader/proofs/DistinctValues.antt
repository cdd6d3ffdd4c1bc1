-- Values at the places of a list, and whether two places share one.
use Rattle.std.proofs.Common.{◌≡◌, ℕ, ◌+◌, ◌<◌, ◌≤◌, List, Option, Some, None, ◌⊎◌, inl, inr, length, get_or, sym, ◌∙◌, ap, subst, arith}
use Rattle.std.proofs.Common.{Bool, true, false, not, cond, refl, []}
use Rattle.std.specs.BTreeSet.{BTreeSet, contains}
use Rattle.std.specs.List.{list_any}
use Rattle.std.specs.Ordering.{is_eq}
use Rattle.std.specs.declared.cmp.Ordering.{Ordering}
use Rattle.std.specs.declared.cmp.Ordering.TheVariants.{Less, Equal, Greater}
use Rattle.std.specs.Cmp.{IsTotalOrder}
use Rattle.std.specs.FinMap.{IsAntisymmetric}
use Rattle.std.proofs.lemmas.Bool.{cases_lt, cases_Bool}
use Rattle.std.proofs.lemmas.Cmp.{tied_itself}
use Rattle.std.proofs.lemmas.List.{get_or-map, get_or_past}
use Rattle.llb_ops.specs.declared.op.Input.{Input}
use Rattle.llb_ops.specs.declared.exec.Mount.{Mount}
use Rattle.llb_loader.specs.Mounts.{value_at, Share, AreApart, key_of, keys_of}
use Rattle.llb_loader.proofs.OutputNumbers.{at_or_below}

-- one of the first n places has the value
pub record IsAmong {X : Type 0} (values : List (Option X)) (n : ℕ) (v : Option X) : Type 0 where
  pub place : ℕ
  pub below : place < n
  pub shared : Share (value_at values place) v

-- no two of the first n places have one value
abbrev pub ApartBelow : {X : Type 0} → List (Option X) → ℕ → Type 0
ApartBelow values n = (a b : ℕ) → a < b → b < n → ¬ Share (value_at values a) (value_at values b)

-- a value that no earlier place has leaves one place more apart from those before it
pub apart_more : {X : Type 0} (values : List (Option X)) (n : ℕ) → ¬ IsAmong values n (value_at values n) → ApartBelow values n → ApartBelow values (n + 1)
apart_more {X} values n fresh s a b l h e = elim (at_or_below b n h) [
  | inl m ↦ s a b l m e
  | inr q ↦ fresh (record {
    place = a;
    below = (let k : a < n = omega (arith, l, q) in k);
    shared = subst (λ (i : ℕ). Share (value_at values a) (value_at values i)) q e;
  })
]

-- where the places up to the last are apart, all are, as there are no values past it
pub apart_end : {X : Type 0} (values : List (Option X)) (n : ℕ) → length values ≤ n → ApartBelow values n → AreApart values
apart_end {X} values n h s = record {
  apart = λ a b l e. elim (cases_lt b n) [
    | inl m ↦ s a b l m e
    | inr g ↦ (let past : value_at values b ≡ None = get_or_past values b None (omega (arith, h, g)) in
        let x : ◌≡◌ {A = Option X} None (Some e.0) = sym past ∙ e.2 in cc)
  ];
}

pub among_not_apart : {X : Type 0} (values : List (Option X)) (n : ℕ) → IsAmong values n (value_at values n) → ¬ AreApart values
among_not_apart values n m s = s.apart m.place n m.below m.shared

-- ---- values in a set

pub among_more : {X : Type 0} (values : List (Option X)) (n : ℕ) (v : Option X) → IsAmong values n v → IsAmong values (n + 1) v
among_more values n v m = record { place = m.place; below = (let l = m.below in let k : m.place < n + 1 = omega (arith, l) in k); shared = m.shared }

pub among_here : {X : Type 0} (values : List (Option X)) (n : ℕ) (v : Option X) → Share (value_at values n) v → IsAmong values (n + 1) v
among_here values n v s = record { place = n; below = omega arith; shared = s }

among_cases : {X : Type 0} (values : List (Option X)) (n : ℕ) (v : Option X) → IsAmong values (n + 1) v → IsAmong values n v ⊎ Share (value_at values n) v
among_cases values n v m = elim (at_or_below m.place n m.below) [
  | inl l ↦ inl (record { place = m.place; below = l; shared = m.shared })
  | inr e ↦ inr (subst (λ (i : ℕ). Share (value_at values i) v) e m.shared)
]

-- a test that holds of exactly those values that the first n places have
pub record IsSeen {X : Type 0} (values : List (Option X)) (n : ℕ) (held : X → Bool) : Type 0 where
  pub among : (x : X) → held x ≡ true → IsAmong values n (Some x)
  pub all : (x : X) → IsAmong values n (Some x) → held x ≡ true

pub seen_none : {X : Type 0} (cmp : X → X → Ordering) (values : List (Option X)) (s : BTreeSet X) → s.keys ≡ [] → IsSeen values 0 (contains cmp s)
seen_none {X} cmp values s e = record {
  among = λ x h. absurd (
      let z : contains cmp s x ≡ false = ap (λ (ks : List X). list_any (λ k. is_eq (cmp x k)) ks) e in
      let y : true ≡ false = sym h ∙ z in cc);
  all = λ x m. absurd (let l = m.below in omega (arith, l));
}

-- a place without a value adds nothing to the values that were seen
pub seen_skip : {X : Type 0} (values : List (Option X)) (n : ℕ) (held : X → Bool) → value_at values n ≡ None → IsSeen values n held → IsSeen values (n + 1) held
seen_skip {X} values n held none s = record {
  among = λ x h. among_more values n (Some x) (s.among x h);
  all = λ x m. elim (among_cases values n (Some x) m) [
    | inl old ↦ s.all x old
    | inr new ↦ absurd (let y : ◌≡◌ {A = Option X} None (Some new.0) = sym none ∙ new.1 in cc)
  ];
}

-- with the value of the next place put in, the set has the values of one place more
pub seen_more : {X : Type 0} (cmp : X → X → Ordering) → IsTotalOrder cmp → IsAntisymmetric cmp
    → (values : List (Option X)) (n : ℕ) (p : X) (held next : X → Bool) → value_at values n ≡ Some p
    → ((q : X) → next q ≡ cond (is_eq (cmp p q)) true (held q)) → IsSeen values n held → IsSeen values (n + 1) next
seen_more {X} cmp total only values n p held next here added s = record {
  among = λ q h. elim (cases_Bool (is_eq (cmp p q))) [
    | inl same ↦ among_here values n (Some q) (q, here ∙ ap (λ (x : X). Some x) (only p q (equal_from (cmp p q) same)), refl)
    | inr other ↦ among_more values n (Some q) (s.among q (sym (added q ∙ ap (λ (b : Bool). cond b true (held q)) other) ∙ h))
  ];
  all = λ q m. added q ∙ elim (cases_Bool (is_eq (cmp p q))) [
    | inl same ↦ ap (λ (b : Bool). cond b true (held q)) same
    | inr other ↦ ap (λ (b : Bool). cond b true (held q)) other ∙ elim (among_cases values n (Some q) m) [
      | inl old ↦ s.all q old
      | inr new ↦ absurd (
          let x : ◌≡◌ {A = Option X} (Some p) (Some q) = sym here ∙ new.1 ∙ sym new.2 in
          let y : p ≡ q = cc in
          let z : is_eq (cmp p q) ≡ true = ap (λ (r : X). is_eq (cmp p r)) (sym y) ∙ ap is_eq (tied_itself total p) in
          let w : true ≡ false = sym z ∙ other in cc)
    ]
  ];
}
  where
    equal_from : (o : Ordering) → is_eq o ≡ true → o ≡ Equal
    equal_from Equal e = refl
    equal_from Less e = absurd (let x : false ≡ true = e in cc)
    equal_from Greater e = absurd (let x : false ≡ true = e in cc)

-- if the negation of a test is false, the test is true
pub when_not_false : (b : Bool) → not b ≡ false → b ≡ true
when_not_false true e = refl
when_not_false false e = absurd (let x : true ≡ false = e in cc)

-- if the negation of a test is true, the test is false
pub when_not_true : (b : Bool) → not b ≡ true → b ≡ false
when_not_true true e = absurd (let x : false ≡ true = e in cc)
when_not_true false e = refl

-- a value that the test does not hold of is at no earlier place
pub not_seen : {X : Type 0} (values : List (Option X)) (n : ℕ) (p : X) (held : X → Bool) → value_at values n ≡ Some p → held p ≡ false
    → IsSeen values n held → ¬ IsAmong values n (value_at values n)
not_seen {X} values n p held here none s m =
    let h = s.all p (subst (λ (o : Option X). IsAmong values n o) here m) in
    let x : true ≡ false = sym h ∙ none in cc

-- a value that the set has is at an earlier place, so that two places share it
pub already_seen : {X : Type 0} (values : List (Option X)) (n : ℕ) (p : X) (held : X → Bool) → value_at values n ≡ Some p → held p ≡ true
    → IsSeen values n held → ¬ AreApart values
already_seen {X} values n p held here some s = among_not_apart values n (subst (λ (o : Option X). IsAmong values n o) (sym here) (s.among p some))

-- a place without a value shares none with an earlier one
pub apart_skip : {X : Type 0} (values : List (Option X)) (n : ℕ) → value_at values n ≡ None → ApartBelow values n → ApartBelow values (n + 1)
apart_skip {X} values n none s = apart_more values n (λ m. let e = m.shared in let x : ◌≡◌ {A = Option X} None (Some e.0) = sym none ∙ e.2 in cc) s

-- ---- keys

-- the key at the place of a mount is that mount's
pub key_read : (inputs : List Input) (mounts : List Mount) (i : ℕ) (x : Mount) → i < length mounts → x ≡ get_or mounts i x
    → value_at (keys_of inputs mounts) i ≡ key_of inputs x
key_read inputs mounts i x h e = get_or-map (key_of inputs) mounts i x None h ∙ ap (key_of inputs) (sym e)
