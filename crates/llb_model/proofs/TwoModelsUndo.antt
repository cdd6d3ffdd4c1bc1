-- The lists of instances before a claim and before a micro-step come back, and what is known of instances whose keys differ or that are there.
use Rattle.std.proofs.Common.{◌≡◌, ◌≢◌, ◌<◌, List, [], ◌∷◌, length, map, unwrap_or, inl, inr, refl, sym, ap, subst, ◌∙◌, arith}
use Rattle.std.specs.Prelude.{slice_get, Option}
use Rattle.std.specs.List.{AllPairs, AllByRecursion}
use Rattle.std.proofs.lemmas.Option.{slice_get_within}
use Rattle.llb_cache.specs.declared.lease_additions.Growth.{Growth}
use Rattle.llb_cache.specs.declared.key.Key.{Key}
use Rattle.llb_cache.specs.Caches as cache
use Rattle.llb_cache.specs.Caches.{CachesValue, Row, AreApart, trees_of, made}
use Rattle.llb_cache.specs.LeaseAdditions.{growth_by, growth_at, unmade, unmade_one}
use Rattle.llb_cache.proofs.ListMembership.{In, pairs_cons}
use Rattle.llb_cache.proofs.MadeThenRemoved.{unmade_made, look_made}
use Rattle.llb_tree.specs.Tree.{TreeMap, empty_tree}
use Rattle.llb_model.specs.Caches.{Instance, Store, content, put_all, trees_at, Hold, Has, Distinct}
use Rattle.llb_model.specs.Program.{Need, key_of, base_in}
use Rattle.llb_model.specs.State.{WorkerStatus, held, places_for, first_trees}
use Rattle.llb_model.specs.TwoCacheModels.{store_of, HoldsAs, put_each, places_taken, showing, written, growth_for}
use Rattle.llb_model.proofs.TwoModelsContents.{shows_instances, apart_keys}
use Rattle.llb_model.proofs.TwoModelsClaims.{takes_alike}
use Rattle.llb_model.proofs.StoreWrites.{hold_trees, hold_length}
use Rattle.llb_model.proofs.TwoModelsOverwrites.{AreKeysApart, AreWithin, each_again, each_there}
use Rattle.llb_model.proofs.TwoModelsRowWrites.{made_shown, taken_places, written_each}

-- ---- keys that differ

has_key : (ps : List Instance) (q : Instance) → Has ps q → Has (map (λ (p : Instance). p.key) ps) q.key
has_key [] q h = absurd h
has_key (p ∷ ps) q (inl is) = inl (ap (λ (r : Instance). r.key) is)
has_key (p ∷ ps) q (inr h) = inr (has_key ps q h)

-- instances of a list of keys that differ
pub keys_apart : (ps : List Instance) → Distinct (map (λ (p : Instance). p.key) ps) → AreKeysApart ps
keys_apart [] differ = tt
keys_apart (p ∷ ps) differ = (
  λ q has e. differ.0 (subst (Has (map (λ (r : Instance). r.key) ps)) (sym e) (has_key ps q has)),
  keys_apart ps differ.1,
)

-- the instances that a claim takes have the keys of the needs
pub keys_for : (ps : List Instance) (needs : List Need) → map (λ (p : Instance). p.key) (places_for ps needs) ≡ map key_of needs
keys_for ps [] = refl
keys_for ps (n ∷ needs) = ap (λ (ks : List Key). n.key ∷ ks) (keys_for ps needs)

in_has : (ps : List Instance) (q : Instance) → In ps q → Has ps q
in_has [] q h = absurd h
in_has (p ∷ ps) q (inl is) = inl is
in_has (p ∷ ps) q (inr h) = inr (in_has ps q h)

pub pairs_apart : (ps : List Instance) → AreKeysApart ps → AllPairs (λ (p q : Instance). p.key ≢ q.key) ps
pairs_apart [] apart = λ i j d before below. absurd (omega (arith, below))
pairs_apart (p ∷ ps) apart =
    pairs_cons (λ (p q : Instance). p.key ≢ q.key) p ps (λ q h. apart.0 q (in_has ps q h)) (pairs_apart ps apart.1)

-- ---- instances that are there

-- instances that have trees are there
pub within_held : (rows : List Row) (ps : List Instance) (ts : List TreeMap) → Hold (store_of rows) ps ts → AreWithin rows ps
within_held rows [] ts hold q has = absurd has
within_held rows (p ∷ ps) [] hold q has = absurd hold
within_held rows (p ∷ ps) (t ∷ ts) hold q (inl is) =
    subst (λ (r : Instance). r.number < length (trees_of rows r.key)) (sym is)
    (slice_get_within (trees_of rows p.key) p.number t (sym (shows_instances rows p) ∙ hold.0))
within_held rows (p ∷ ps) (t ∷ ts) hold q (inr h) = within_held rows ps ts hold.1 q h

-- what holds of each item of a list, by recursion
pub all_by : {A : Type 0} (P : A → Type 0) (xs : List A) → ((x : A) → Has xs x → P x) → AllByRecursion P xs
all_by P [] each = tt
all_by P (x ∷ xs) each = (each x (inl refl), all_by P xs (λ y h. each y (inr h)))

-- ---- a claim

-- what a lease adds for needs, by the instances that the claim takes
pub growths_are : (c : CachesValue) (workers : List WorkerStatus) (needs : List Need) → HoldsAs c.out workers → AreApart c.out
    → map (growth_for c) needs ≡ map (growth_at c.rows) (places_for (held workers) needs)
growths_are c workers needs same apart =
    by_place needs ∙ ap (map (growth_at c.rows)) (taken_places c.out [] needs ∙ takes_alike c.out workers [] needs same apart)
  where
    by_place : (needs : List Need) → map (growth_for c) needs ≡ map (growth_at c.rows) (places_taken c.out needs)
    by_place [] = refl
    by_place (n ∷ needs) = ap (λ (gs : List Growth). growth_for c n ∷ gs) (by_place needs)

growths_stay : (rows : List Row) (p : Instance) (t : TreeMap) (ps : List Instance) → ((q : Instance) → Has ps q → p.key ≢ q.key)
    → map (growth_at rows) ps ≡ map (growth_at (made rows p t)) ps
growths_stay rows p t [] apart = refl
growths_stay rows p t (q ∷ ps) apart =
    let look = look_made rows p t q.key (apart_keys q.key p.key (λ e. apart q (inl refl) (sym e))) in
    let rest = growths_stay rows p t ps (λ r h. apart r (inr h)) in
    λ i. growth_by (sym look i) q.number ∷ rest i

content_stays : (rows : List Row) (p : Instance) (t : TreeMap) (q : Instance) → p.key ≢ q.key
    → content (store_of (made rows p t)) q ≡ content (store_of rows) q
content_stays rows p t q apart =
    let look = look_made rows p t q.key (apart_keys q.key p.key (λ e. apart (sym e))) in
    shows_instances (made rows p t) q ∙ ap (λ (o : Option (List TreeMap)). slice_get (unwrap_or o []) q.number) look ∙ sym (shows_instances rows q)

firsts_stay : (rows : List Row) (p : Instance) (t : TreeMap) (inputs : List TreeMap) (ps : List Instance) (needs : List Need)
    → ((q : Instance) → Has ps q → p.key ≢ q.key)
    → first_trees (store_of (made rows p t)) inputs ps needs ≡ first_trees (store_of rows) inputs ps needs
firsts_stay rows p t inputs [] needs apart = refl
firsts_stay rows p t inputs (q ∷ ps) [] apart = refl
firsts_stay rows p t inputs (q ∷ ps) (n ∷ needs) apart =
    let here = content_stays rows p t q (apart q (inl refl)) in
    let rest = firsts_stay rows p t inputs ps needs (λ r h. apart r (inr h)) in
    λ i. unwrap_or (here i) (base_in n.input inputs) ∷ rest i

-- what a claim added is removed: the instances show the trees that they began with
pub unwritten : (s : Store) (rows : List Row) (inputs : List TreeMap) (ps : List Instance) (needs : List Need) → AreKeysApart ps
    → length ps ≡ length needs → Hold s ps (first_trees (store_of rows) inputs ps needs)
    → unmade (written s rows ps) ps (map (growth_at rows) ps) ≡ rows
unwritten s rows inputs [] needs apart count hold = refl
unwritten s rows inputs (p ∷ ps) [] apart count hold = absurd (omega (arith, count))
unwritten s rows inputs (p ∷ ps) (n ∷ needs) apart count hold =
    let t = base_in n.input inputs in
    let next = made rows p t in
    let first : showing rows p (unwrap_or (content s p) empty_tree) ≡ next =
    ap (λ o. showing rows p (unwrap_or o empty_tree)) hold.0 ∙ made_shown rows p t in
    let growths : map (growth_at rows) ps ≡ map (growth_at next) ps = growths_stay rows p t ps apart.0 in
    let trees : first_trees (store_of next) inputs ps needs ≡ first_trees (store_of rows) inputs ps needs = firsts_stay rows p t inputs ps needs apart.0 in
    (λ i. unmade_one (unmade (written s (first i) ps) ps (growths i)) p (growth_at rows p))
    ∙ ap (λ r. unmade_one r p (growth_at rows p))
    (unwritten s next inputs ps needs apart.1 (omega (arith, count)) (subst (Hold s ps) (sym trees) hold.1))
    ∙ unmade_made rows p t

-- ---- a micro-step

-- the trees of before are written again to the instances that a micro-step has written
pub unstepped : (rows : List Row) (ps : List Instance) (ts held : List TreeMap) → Distinct ps → AreKeysApart ps → length ts ≡ length ps
    → Hold (store_of rows) ps held
    → put_each (written (put_all (store_of rows) ps ts) rows ps) ps (trees_at (store_of rows) ps) ≡ rows
unstepped rows ps ts held distinct apart count hold =
    let within = within_held rows ps held hold in
    let are = hold_trees (store_of rows) ps held hold in
    let again : length (trees_at (store_of rows) ps) ≡ length ps = ap length are ∙ hold_length (store_of rows) ps held hold in
    ap (λ r. put_each r ps (trees_at (store_of rows) ps)) (written_each rows ps ts distinct count within)
    ∙ each_again rows ps ts (trees_at (store_of rows) ps) apart within count again
    ∙ each_there rows ps (trees_at (store_of rows) ps) within (subst (Hold (store_of rows) ps) (sym are) hold)
