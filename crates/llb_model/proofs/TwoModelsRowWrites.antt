-- The rows after an event: what is written there is what a step puts, and what a claim makes.
use Rattle.std.proofs.Common.{◌≡◌, ℕ, zero, suc, ◌<◌, ◌≤◌, Bool, true, false, List, [], ◌∷◌, ◌++◌, length, map, Some, unwrap_or, inl, inr}
use Rattle.std.proofs.Common.{refl, sym, ap, subst, ◌∙◌, cond, arith, lt-ltb}
use Rattle.std.specs.Prelude.{slice_get, slice_set, nat_lt}
use Rattle.std.specs.Map.{lookup}
use Rattle.std.proofs.lemmas.Bool.{ltb-true, ltb-false}
use Rattle.llb_cache.specs.declared.key.Key.{Key}
use Rattle.llb_cache.specs.Key.{same_key}
use Rattle.llb_cache.specs.Caches as cache
use Rattle.llb_cache.specs.Caches.{Row, Leases, Taken, trees_of, with_trees, made, made_all}
use Rattle.llb_cache.proofs.PrivateInstanceNumbers.{number_next}
use Rattle.llb_cache.proofs.TreesOfKeys.{put_counts, makes}
use Rattle.llb_tree.specs.Tree.{TreeMap, empty_tree}
use Rattle.llb_model.specs.Caches.{Instance, Store, content, put, put_all, Hold, Has, Distinct}
use Rattle.llb_model.specs.Program.{Need, key_of, base_in}
use Rattle.llb_model.specs.State.{WorkerStatus, held, places_for, first_trees}
use Rattle.llb_model.specs.TwoCacheModels.{store_of, put_each, showing, written, asked, places_taken, HoldsAs}
use Rattle.llb_model.proofs.Lists.{get_within, get_past}
use Rattle.llb_model.proofs.StoreWrites.{hold_all, has_map}
use Rattle.llb_model.proofs.ClaimedInstances.{places_distinct, places_length, first_length}
use Rattle.llb_model.proofs.TwoModelsContents.{shows_instances, made_stands}
use Rattle.llb_model.proofs.TwoModelsClaims.{takes_alike}
use Rattle.llb_model.proofs.UntouchedExclusiveInstances.{first_same}

-- ---- instances that are there

put_shown : (rows : List Row) (p : Instance) (t : TreeMap) → p.number < length (trees_of rows p.key) → showing rows p t ≡ cache.put rows p t
put_shown rows p t within =
    ap (λ b. with_trees rows p.key (cond b (slice_set (trees_of rows p.key) p.number t) (trees_of rows p.key ++ t ∷ [])))
    (lt-ltb p.number (length (trees_of rows p.key)) within)

each_written : (s : Store) (rows : List Row) (ps : List Instance) (ts : List TreeMap) → Hold s ps ts
    → ((p : Instance) → Has ps p → p.number < length (trees_of rows p.key))
    → written s rows ps ≡ put_each rows ps ts
each_written s rows [] ts hold within = refl
each_written s rows (p ∷ ps) [] hold within = absurd hold
each_written s rows (p ∷ ps) (t ∷ ts) hold within =
    ap (λ r. written s r ps) (ap (λ o. showing rows p (unwrap_or o empty_tree)) hold.0 ∙ put_shown rows p t (within p (inl refl)))
    ∙ each_written s (cache.put rows p t) ps ts hold.1 (λ q h. let same = put_counts rows p t q.key in let low = within q (inr h) in omega (arith, low, same))

-- rows that show a store after writes at their instances are the rows with the same writes
pub written_each : (rows : List Row) (ps : List Instance) (ts : List TreeMap) → Distinct ps → length ts ≡ length ps
    → ((p : Instance) → Has ps p → p.number < length (trees_of rows p.key))
    → written (put_all (store_of rows) ps ts) rows ps ≡ put_each rows ps ts
written_each rows ps ts apart count within = each_written (put_all (store_of rows) ps ts) rows ps ts (hold_all (store_of rows) ps ts apart count) within

-- ---- instances that come next

-- a key that is there keeps its row under the trees that it has
pub same_rows : (rows : List Row) (k : Key) → 0 < length (trees_of rows k) → with_trees rows k (trees_of rows k) ≡ rows
same_rows [] k some = absurd (omega (arith, some))
same_rows (r ∷ rows) k some = go (same_key k r.0) some (same_rows rows k)
  where
    go : (b : Bool) → 0 < length (unwrap_or (cond b (Some r.1) (lookup (same_key k) rows)) [])
        → (0 < length (trees_of rows k) → with_trees rows k (trees_of rows k) ≡ rows)
        → cond b ((r.0, unwrap_or (cond b (Some r.1) (lookup (same_key k) rows)) []) ∷ rows)
        (r ∷ with_trees rows k (unwrap_or (cond b (Some r.1) (lookup (same_key k) rows)) [])) ≡ r ∷ rows
    go true some rest = refl
    go false some rest = ap (λ rs. r ∷ rs) (rest some)

-- a write of what is at a number changes nothing
pub set_got : (ts : List TreeMap) (n : ℕ) (t : TreeMap) → slice_get ts n ≡ Some t → slice_set ts n t ≡ ts
set_got [] n t at = refl
set_got (u ∷ ts) zero t at = let same : t ≡ u = ap (λ o. unwrap_or o u) (sym at) in ap (λ v. v ∷ ts) same
set_got (u ∷ ts) (suc n) t at = ap (λ vs. u ∷ vs) (set_got ts n t at)

-- an instance that shows its tree, or else the one that it begins with
pub made_shown : (rows : List Row) (p : Instance) (t : TreeMap) → showing rows p (unwrap_or (content (store_of rows) p) t) ≡ made rows p t
made_shown rows p t = go (nat_lt p.number (length (trees_of rows p.key))) refl
  where
    go : (b : Bool) → nat_lt p.number (length (trees_of rows p.key)) ≡ b
        → with_trees rows p.key (cond b (slice_set (trees_of rows p.key) p.number (unwrap_or (content (store_of rows) p) t))
        (trees_of rows p.key ++ unwrap_or (content (store_of rows) p) t ∷ []))
        ≡ cond b rows (with_trees rows p.key (trees_of rows p.key ++ t ∷ []))
    go true is =
        let within : p.number < length (trees_of rows p.key) = ltb-true p.number (length (trees_of rows p.key)) is in
        let old = get_within (trees_of rows p.key) p.number within in
        let stays : unwrap_or (content (store_of rows) p) t ≡ old.0 = ap (λ o. unwrap_or o t) (shows_instances rows p ∙ old.1) in
        ap (with_trees rows p.key) (ap (slice_set (trees_of rows p.key) p.number) stays ∙ set_got (trees_of rows p.key) p.number old.0 old.1)
        ∙ same_rows rows p.key (omega (arith, within))
    go false is =
        let past : length (trees_of rows p.key) ≤ p.number = ltb-false p.number (length (trees_of rows p.key)) is in
        let new : unwrap_or (content (store_of rows) p) t ≡ t = ap (λ o. unwrap_or o t)
        (shows_instances rows p ∙ get_past (trees_of rows p.key) p.number past) in
        ap (λ u. with_trees rows p.key (trees_of rows p.key ++ u ∷ [])) new

all_shown : (s : Store) (rows : List Row) (out : Leases) (inputs : List TreeMap) (needs : List Need) → Distinct (places_taken out needs)
    → ((p : Instance) → Has (places_taken out needs) p → p.number ≤ length (trees_of rows p.key))
    → Hold s (places_taken out needs) (first_trees (store_of rows) inputs (places_taken out needs) needs)
    → written s rows (places_taken out needs) ≡ made_all rows (cache.taken out (asked inputs needs))
all_shown s rows out inputs [] apart reached hold = refl
all_shown s rows out inputs (n ∷ needs) apart reached hold =
    let p = cache.place_for out n.key in
    let ps = places_taken out needs in
    let t = base_in n.input inputs in
    let u = unwrap_or (content (store_of rows) p) t in
    let next = made rows p t in
    let one : store_of next ≡ put (store_of rows) p u = made_stands rows p t (reached p (inl refl)) in
    let trees : first_trees (store_of next) inputs ps needs ≡ first_trees (store_of rows) inputs ps needs =
    ap (λ r. first_trees r inputs ps needs) one ∙ first_same (store_of rows) p u inputs ps needs apart.0 in
    ap (λ r. written s r ps) (ap (λ o. showing rows p (unwrap_or o empty_tree)) hold.0 ∙ made_shown rows p t)
    ∙ all_shown s next out inputs needs apart.1 (λ q h. let grows = (makes rows p t).grows q.key in let low =
    reached q (inr h) in omega (arith, low, grows)) (subst (Hold s ps) (sym trees) hold.1)

pub taken_places : (out : Leases) (inputs : List TreeMap) (needs : List Need)
    → places_taken out needs ≡ map (λ (t : Taken). t.0) (cache.taken out (asked inputs needs))
taken_places out inputs [] = refl
taken_places out inputs (n ∷ needs) = ap (λ ps. cache.place_for out n.key ∷ ps) (taken_places out inputs needs)

-- rows that show the store after a claim are the rows with the instances that a lease makes
pub written_made : (rows : List Row) (out : Leases) (workers : List WorkerStatus) (inputs : List TreeMap) (needs : List Need) → HoldsAs out workers
    → cache.AreApart out → cache.AreThere rows out
    → Distinct (map key_of needs)
    → written (put_all (store_of rows) (places_for (held workers) needs)
    (first_trees (store_of rows) inputs (places_for (held workers) needs) needs)) rows (places_for (held workers) needs)
    ≡ made_all rows (cache.taken out (asked inputs needs))
written_made rows out workers inputs needs same apart there differ =
    subst (λ ps. written (put_all (store_of rows) ps (first_trees (store_of rows) inputs ps needs)) rows ps
    ≡ made_all rows (cache.taken out (asked inputs needs))) alike
    (all_shown (put_all (store_of rows) taken (first_trees (store_of rows) inputs taken needs)) rows out inputs needs distinct reached
    (hold_all (store_of rows) taken (first_trees (store_of rows) inputs taken needs) distinct (first_length (store_of rows) inputs taken needs count)))
  where
    taken : List Instance
    taken = places_taken out needs

    alike : places_taken out needs ≡ places_for (held workers) needs
    alike = taken_places out inputs needs ∙ takes_alike out workers inputs needs same apart

    distinct : Distinct (places_taken out needs)
    distinct = subst (λ (ps : List Instance). Distinct ps) (sym alike) (places_distinct (held workers) needs differ)

    reached : (p : Instance) → Has (places_taken out needs) p → p.number ≤ length (trees_of rows p.key)
    reached p h =
        let m = has_map (λ (n : Need). cache.place_for out n.key) needs p h in
        subst (λ (q : Instance). q.number ≤ length (trees_of rows q.key)) (sym m.2) (number_next rows out m.0.key m.0.key.mode there)

    count : length (places_taken out needs) ≡ length needs
    count = ap length alike ∙ places_length (held workers) needs
