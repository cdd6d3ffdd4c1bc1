-- An instance that is made and removed again leaves the rows as they were, and making it changes nothing for other keys.
use Rattle.std.proofs.Common.{◌≡◌, ◌-◌, Bool, true, false, cond, List, [], ◌∷◌, ◌++◌, length, take, Option, Some, None, is_some}
use Rattle.std.proofs.Common.{unwrap_or, nat_lt, refl, sym, ap, ◌∙◌, arith, length-append, le-ltb}
use Rattle.std.specs.Map.{lookup}
use Rattle.std.proofs.Math.Seq.{take-append_seam}
use Rattle.llb_tree.specs.Tree.{TreeMap}
use Rattle.llb_cache.specs.declared.lease_additions.Growth.TheVariants.{Nothing, NewInstance}
use Rattle.llb_cache.specs.declared.key.Key.{Key}
use Rattle.llb_cache.specs.declared.lease_needs.Instance.{Instance}
use Rattle.llb_cache.specs.Key.{same_key}
use Rattle.llb_cache.specs.KeyEquality.{key_itself}
use Rattle.llb_cache.specs.Caches.{Row, trees_of, with_trees, made}
use Rattle.llb_cache.proofs.FirstRowOfKey.{absent_found, written_absent}
use Rattle.llb_cache.specs.LeaseAdditions.{front, growth_by, growth_at, shorter, unmade_one}
use Rattle.llb_cache.proofs.TreesOfKeys.{found_again, found_before}

front_pushed : {A : Type 0} (xs : List A) (x : A) → front (xs ++ x ∷ []) ≡ xs
front_pushed xs x =
    let n : length (xs ++ x ∷ []) - 1 ≡ length xs = omega (arith, length-append xs (x ∷ [])) in
    ap (λ k. take k (xs ++ x ∷ [])) n ∙ take-append_seam xs (x ∷ [])

trees_twice : (rows : List Row) (k : Key) (ts us : List TreeMap) → with_trees (with_trees rows k ts) k us ≡ with_trees rows k us
trees_twice [] k ts us = ap (λ b. cond b ((k, us) ∷ []) ((k, ts) ∷ (k, us) ∷ [])) (key_itself k)
trees_twice (r ∷ rows) k ts us = go (same_key k r.0) refl (trees_twice rows k ts us)
  where
    go : (b : Bool) → same_key k r.0 ≡ b → with_trees (with_trees rows k ts) k us ≡ with_trees rows k us
        → with_trees (cond b ((r.0, ts) ∷ rows) (r ∷ with_trees rows k ts)) k us ≡ cond b ((r.0, us) ∷ rows) (r ∷ with_trees rows k us)
    go true is rest = ap (λ b. cond b ((r.0, us) ∷ rows) ((r.0, ts) ∷ with_trees rows k us)) is
    go false is rest = ap (λ b. cond b ((r.0, us) ∷ with_trees rows k ts) (r ∷ with_trees (with_trees rows k ts) k us)) is ∙ ap (λ rs. r ∷ rs) rest

-- writing to a key the trees that it has changes no row
trees_stay : (rows : List Row) (k : Key) (ts : List TreeMap) → lookup (same_key k) rows ≡ Some ts → with_trees rows k ts ≡ rows
trees_stay [] k ts at = absurd cc
trees_stay (r ∷ rows) k ts at = go (same_key k r.0) at (trees_stay rows k ts)
  where
    go : (b : Bool) → cond b (Some r.1) (lookup (same_key k) rows) ≡ Some ts → (lookup (same_key k) rows ≡ Some ts → with_trees rows k ts ≡ rows)
        → cond b ((r.0, ts) ∷ rows) (r ∷ with_trees rows k ts) ≡ r ∷ rows
    go true at rest = let same : r.1 ≡ ts = ap (λ o. unwrap_or o ts) at in λ i. (r.0, sym same i) ∷ rows
    go false at rest = ap (λ rs. r ∷ rs) (rest at)

-- removing an instance that was made restores the rows
pub unmade_made : (rows : List Row) (p : Instance) (tree : TreeMap) → unmade_one (made rows p tree) p (growth_at rows p) ≡ rows
unmade_made rows p tree = by_look (lookup (same_key p.key) rows) refl
  where
    made_by : (o : Option (List TreeMap)) → lookup (same_key p.key) rows ≡ o
        → made rows p tree ≡ cond (nat_lt p.number (length (unwrap_or o []))) rows (with_trees rows p.key (unwrap_or o [] ++ tree ∷ []))
    made_by o at =
        ap (λ (o : Option (List TreeMap)). cond (nat_lt p.number (length (unwrap_or o []))) rows (with_trees rows p.key (unwrap_or o [] ++ tree ∷ []))) at

    there : (ts : List TreeMap) (b : Bool) → lookup (same_key p.key) rows ≡ Some ts
        → unmade_one (cond b rows (with_trees rows p.key (ts ++ tree ∷ []))) p (cond b Nothing NewInstance) ≡ rows
    there ts true at = refl
    there ts false at =
        let more = ts ++ tree ∷ [] in
        let new = with_trees rows p.key more in
        ap (shorter new p.key) (found_again rows p.key more) ∙ ap (with_trees new p.key) (front_pushed ts tree)
        ∙ trees_twice rows p.key more ts ∙ trees_stay rows p.key ts at

    by_look : (o : Option (List TreeMap)) → lookup (same_key p.key) rows ≡ o → unmade_one (made rows p tree) p (growth_at rows p) ≡ rows
    by_look None at =
        let none = absent_found p.key rows (ap is_some at) in
        (λ i. unmade_one (made_by None at i) p (growth_by (at i) p.number))
        ∙ ap (λ b. front (cond b rows (with_trees rows p.key (tree ∷ [])))) (le-ltb p.number 0 (omega arith))
        ∙ ap front (written_absent p.key rows (tree ∷ []) none) ∙ front_pushed rows (p.key, tree ∷ [])
    by_look (Some ts) at =
        (λ i. unmade_one (made_by (Some ts) at i) p (growth_by (at i) p.number)) ∙ there ts (nat_lt p.number (length ts)) at

-- making an instance of one key does not change what is found for another key
pub look_made : (rows : List Row) (p : Instance) (tree : TreeMap) (k : Key) → same_key k p.key ≡ false
    → lookup (same_key k) (made rows p tree) ≡ lookup (same_key k) rows
look_made rows p tree k apart = go (nat_lt p.number (length (trees_of rows p.key)))
  where
    go : (b : Bool) → lookup (same_key k) (cond b rows (with_trees rows p.key (trees_of rows p.key ++ tree ∷ []))) ≡ lookup (same_key k) rows
    go true = refl
    go false = found_before rows p.key k (trees_of rows p.key ++ tree ∷ []) apart
