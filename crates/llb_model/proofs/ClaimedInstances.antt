-- The instances that a claim takes: which of them nobody has, and that they differ.
use Rattle.std.proofs.Common.{◌≡◌, ℕ, zero, suc, ◌+◌, ◌<◌, ◌≤◌, Bool, true, false, List, [], ◌∷◌, length, map, Some, None, inl, inr, refl}
use Rattle.std.proofs.Common.{sym, ap, subst, ◌∙◌, cond, arith}
use Rattle.std.specs.Prelude.{slice_get}
use Rattle.llb_cache.specs.declared.key.Key.{Key}
use Rattle.llb_cache.specs.declared.key.Mode.{Mode}
use Rattle.llb_cache.specs.declared.key.Mode.TheVariants.{Shared, Private, Locked}
use Rattle.llb_tree.specs.Tree.{TreeMap}
use Rattle.llb_model.specs.Caches.{Instance, place, Store, Has, Distinct, is_in, IsExclusive}
use Rattle.llb_model.specs.Program.{Need, key_of}
use Rattle.llb_model.specs.State.{Execution, WorkerStatus, Idle, Runs, held, IsFree, above, first_free, number_for, place_for, places_for, is_locked_and_held}
use Rattle.llb_model.specs.State.{held_key, first_trees, places_by}
use Rattle.llb_model.proofs.StoreWrites.{has_in, has_left, has_right, has_map}

-- ---- the least free instance

below_above : (ps : List Instance) (p : Instance) → Has ps p → p.number < above ps
below_above [] p h = absurd h
below_above (q ∷ ps) p (inl h) = let e : p.number ≡ q.number = ap (λ (r : Instance). r.number) h in omega arith
below_above (q ∷ ps) p (inr h) = let lt = below_above ps p h in omega (arith, lt)

-- what is found is not held, where the tries reach past all that is held
pub free_found : (ps : List Instance) (k : Key) (n tries : ℕ) → above ps ≤ n + tries → Has ps (place k (first_free ps k n tries)) → ⊥
free_found ps k n zero le h = let lt : n < above ps = below_above ps (place k n) h in omega arith
free_found ps k n (suc tries) le h = go (is_in ps (place k n)) refl (free_found ps k (n + 1) tries (omega (arith, le))) h
  where
    go : (b : Bool) → is_in ps (place k n) ≡ b → (Has ps (place k (first_free ps k (n + 1) tries)) → ⊥)
        → Has ps (place k (cond b (first_free ps k (n + 1) tries) n)) → ⊥
    go true is rest h = rest h
    go false is rest h = let both : true ≡ false = sym (has_in ps (place k n) h) ∙ is in cc

-- ---- the place of a need

-- no key of a need is locked and held
none_locked_and_held : (ps : List Instance) (ns : List Need) (n : Need) → held_key ps ns ≡ None → Has ns n → is_locked_and_held ps n.key n.key.mode ≡ false
none_locked_and_held ps [] n none h = absurd h
none_locked_and_held ps (m ∷ ns) n none h = go (is_locked_and_held ps m.key m.key.mode) refl none h (none_locked_and_held ps ns n)
  where
    go : (b : Bool) → is_locked_and_held ps m.key m.key.mode ≡ b → cond b (Some m.key) (held_key ps ns) ≡ None → Has (m ∷ ns) n
        → (held_key ps ns ≡ None → Has ns n → is_locked_and_held ps n.key n.key.mode ≡ false)
        → is_locked_and_held ps n.key n.key.mode ≡ false
    go true is none h rest = absurd cc
    go false is none (inl h) rest = ap (λ (x : Need). is_locked_and_held ps x.key x.key.mode) h ∙ is
    go false is none (inr h) rest = rest none h

pub free_by_mode : (ps : List Instance) (k : Key) (m : Mode) → IsExclusive m → is_locked_and_held ps k m ≡ false → Has ps (place k (number_for ps k m)) → ⊥
free_by_mode ps k Shared alone shut h = absurd alone
free_by_mode ps k Private alone shut h = free_found ps k 0 (above ps) (omega arith) h
free_by_mode ps k Locked alone shut h = let both : true ≡ false = sym (has_in ps (place k 0) h) ∙ shut in cc

-- an instance that a granted claim holds exclusively was held by nobody
pub places_free : (ps : List Instance) (ns : List Need) → held_key ps ns ≡ None → (p : Instance) → Has (places_for ps ns) p → IsExclusive p.key.mode
    → Has ps p → ⊥
places_free ps ns granted p h alone there =
    let m = has_map (place_for ps) ns p h in
    let shut : is_locked_and_held ps m.0.key m.0.key.mode ≡ false = none_locked_and_held ps ns m.0 granted m.1 in
    let key : p.key ≡ m.0.key = ap (λ (q : Instance). q.key) m.2 in
    free_by_mode ps m.0.key m.0.key.mode (subst (λ (k : Key). IsExclusive k.mode) key alone) shut (subst (Has ps) m.2 there)

-- needs with different keys are given different instances
pub places_distinct : (ps : List Instance) (ns : List Need) → Distinct (map key_of ns) → Distinct (places_for ps ns)
places_distinct ps [] apart = tt
places_distinct ps (n ∷ ns) apart = (λ h. apart.0 (again ns h), places_distinct ps ns apart.1)
  where
    again : (ms : List Need) → Has (places_for ps ms) (place_for ps n) → Has (map key_of ms) n.key
    again [] h = absurd h
    again (m ∷ ms) (inl h) = inl (ap (λ (q : Instance). q.key) h)
    again (m ∷ ms) (inr h) = inr (again ms h)

-- a claim takes one instance for each need
pub places_length : (ps : List Instance) (ns : List Need) → length (places_for ps ns) ≡ length ns
places_length ps [] = refl
places_length ps (n ∷ ns) = ap suc (places_length ps ns)

-- each place has a tree to begin with, where there is a need for each
pub first_length : (s : Store) (inputs : List TreeMap) (ps : List Instance) (ns : List Need) → length ps ≡ length ns
    → length (first_trees s inputs ps ns) ≡ length ps
first_length s inputs [] ns e = refl
first_length s inputs (p ∷ ps) [] e = absurd (omega (arith, e))
first_length s inputs (p ∷ ps) (n ∷ ns) e = ap suc (first_length s inputs ps ns (omega (arith, e)))

-- the places of a claim are those by its numbers
pub places_numbered : (ps : List Instance) (ns : List Need) → places_by ns (map (λ (p : Instance). p.number) (places_for ps ns)) ≡ places_for ps ns
places_numbered ps [] = refl
places_numbered ps (n ∷ ns) = ap (λ qs. place_for ps n ∷ qs) (places_numbered ps ns)

-- ---- holders

-- what a running worker has is among the instances that are held
pub held_has : (ws : List WorkerStatus) (w : ℕ) (x : Execution) (p : Instance) → slice_get ws w ≡ Some (Runs x) → Has x.places p → Has (held ws) p
held_has [] w x p there h = absurd cc
held_has (Idle ∷ ws) zero x p there h = absurd cc
held_has (Idle ∷ ws) (suc w) x p there h = held_has ws w x p there h
held_has (Runs y ∷ ws) zero x p there h =
    let same : y ≡ x = cc in
    has_left y.places (held ws) p (subst (λ (z : Execution). Has z.places p) (sym same) h)
held_has (Runs y ∷ ws) (suc w) x p there h = has_right y.places (held ws) p (held_has ws w x p there h)

-- an instance that is not among those held is free: no running worker has it
pub free_from : (ws : List WorkerStatus) (p : Instance) → (Has (held ws) p → ⊥) → IsFree ws p
free_from ws p none w x there h = none (held_has ws w x p there h)
