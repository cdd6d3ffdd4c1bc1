-- Whether the keys of needs differ: one more that is among those before, and one that is not.
use Rattle.std.proofs.Common.{◌≡◌, ◌≢◌, ℕ, ◌+◌, ◌<◌, Bool, true, false, ◌||◌, List, [], ◌∷◌, ◌++◌, length, take, get_or, AllPairs, refl}
use Rattle.std.proofs.Common.{sym, ap, ◌∙◌, subst, arith, inl, inr, true≢false, length-take-le}
use Rattle.std.specs.List.{list_any}
use Rattle.std.proofs.lemmas.List.{take_more, get_or-take, get_or_default}
use Rattle.std.proofs.lemmas.List.Quantifiers.{all_pairs_push}
use Rattle.std.proofs.lemmas.List.Elements.{Contains-get_or}
use Rattle.llb_cache.specs.declared.key.Key.{Key}
use Rattle.llb_cache.specs.declared.lease_needs.Need.{Need}
use Rattle.llb_cache.specs.Key.{same_key}
use Rattle.llb_cache.specs.KeyEquality.{same_keys, key_itself}
use Rattle.llb_cache.proofs.ListMembership.{In, in_contained, contained_in}

abbrev pub Differ : List Need → Type 0
Differ needs = AllPairs (λ n m. n.key ≢ m.key) needs

same_of : (key : Key) (needs : List Need) → list_any (λ (n : Need). same_key key n.key) needs ≡ true → (n : Need) × In needs n × (key ≡ n.key)
same_of key [] e = absurd cc
same_of key (n ∷ needs) e = go (same_key key n.key) refl e (same_of key needs)
  where
    go : (b : Bool) → same_key key n.key ≡ b → (b || list_any (λ (n : Need). same_key key n.key) needs) ≡ true
        → (list_any (λ (n : Need). same_key key n.key) needs ≡ true → (n : Need) × In needs n × (key ≡ n.key)) → (m : Need) × In (n ∷ needs) m × (key ≡ m.key)
    go true is e rest = (n, inl refl, same_keys key n.key is)
    go false is e rest = let m = rest e in (m.0, inr m.1, m.2)

none_of : (key : Key) (needs : List Need) → list_any (λ (n : Need). same_key key n.key) needs ≡ false → (n : Need) → In needs n → n.key ≢ key
none_of key [] e n h = absurd h
none_of key (m ∷ needs) e n h = go (same_key key m.key) refl e (none_of key needs) h
  where
    go : (b : Bool) → same_key key m.key ≡ b → (b || list_any (λ (n : Need). same_key key n.key) needs) ≡ false
        → (list_any (λ (n : Need). same_key key n.key) needs ≡ false → (n : Need) → In needs n → n.key ≢ key) → In (m ∷ needs) n → n.key ≢ key
    go true is e rest h = absurd cc
    go false is e rest (inl same) = λ k. true≢false (sym (key_itself key) ∙ ap (same_key key) (sym k ∙ ap (λ (x : Need). x.key) same) ∙ is)
    go false is e rest (inr later) = rest e n later

-- the key of the need at hand is among those before
pub twice : (needs : List Need) (i : ℕ) (x : Need) → i < length needs → x ≡ get_or needs i x
    → list_any (λ (n : Need). same_key x.key n.key) (take i needs) ≡ true → Differ needs → ⊥
twice needs i x below read e differ =
    let n = same_of x.key (take i needs) e in
    let at = contained_in (take i needs) n.0 n.1 in
    let count = length-take-le i needs (omega (arith, below)) in
    let within = at.1 in
    let before : at.0 < i = omega (arith, count, within) in
    let first : get_or needs at.0 n.0 ≡ n.0 = sym (get_or-take i needs at.0 n.0 before) ∙ at.2 in
    let second : get_or needs i n.0 ≡ x = sym (read ∙ get_or_default needs i x n.0 below) in
    differ at.0 i n.0 before below (ap (λ (m : Need). m.key) first ∙ sym n.2 ∙ ap (λ (m : Need). m.key) (sym second))

-- the key of the current need is not among those before, so the needs up to this one differ too
pub one_more : (needs : List Need) (i : ℕ) (x : Need) → i < length needs → x ≡ get_or needs i x
    → list_any (λ (n : Need). same_key x.key n.key) (take i needs) ≡ false → Differ (take i needs) → Differ (take (i + 1) needs)
one_more needs i x below read e differ =
    let more : take i needs ++ x ∷ [] ≡ take (i + 1) needs = ap (λ (n : Need). take i needs ++ n ∷ []) read ∙ sym (take_more needs i x below) in
    subst Differ more (all_pairs_push (λ n m. n.key ≢ m.key) (take i needs) x differ
    (λ k d within. none_of x.key (take i needs) e (get_or (take i needs) k d)
    (in_contained (take i needs) (get_or (take i needs) k d) (Contains-get_or (take i needs) k d within))))
