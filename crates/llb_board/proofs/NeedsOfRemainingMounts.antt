-- The mounts of a vertex that are left to look at, and what a claim takes of caches as they were found.
use Rattle.std.proofs.Common.{◌≡◌, ◌<◌, ◌+◌, ℕ, suc, Bool, true, false, cond, ◌&&◌, List, [], ◌∷◌, ◌++◌, length, map, drop, get_or, refl, sym, ap}
use Rattle.std.proofs.Common.{◌∙◌, arith}
use Rattle.std.specs.Prelude.{Option, Some, None, option_map, unwrap_or, slice_get}
use Rattle.std.specs.List.{All}
use Rattle.std.proofs.lemmas.List.{at_drop_more}
use Rattle.llb_cache.specs.declared.key.Key.{Key}
use Rattle.llb_cache.specs.Caches as cache
use Rattle.llb_cache.specs.Caches.{Leases, trees_of, is_held, is_locked}
use Rattle.llb_ops.specs.declared.exec.Mount.{Mount}
use Rattle.llb_loader.specs.declared.graph.Vertex.{Vertex}
use Rattle.llb_loader.specs.Mounts as mounts
use Rattle.llb_loader.specs.Mounts.{CacheKey}
use Rattle.llb_loader.specs.Rules.{kind_mounts}
use Rattle.llb_tree.specs.Tree.{TreeMap}
use Rattle.llb_model.specs.Caches.{Instance, content, place}
use Rattle.llb_model.specs.TwoCacheModels.{store_of, asked, places_taken}
use Rattle.llb_model.specs.Program.{Need, base_in, key_as, key_of, with_need, needs_from}
use Rattle.llb_model.specs.State.{first_trees}
use Rattle.llb_model.proofs.TwoModelsContents.{shows_instances}
use Rattle.llb_board.specs.declared.workers.cache_needs.Wanted.{Wanted}
use Rattle.llb_board.specs.CacheNeeds.{is_locked_and_held, first_held_key, if_locked, IsFound, need_of, number_of, place_found, first_tree}
use Rattle.llb_board.specs.CacheNeeds.{taken_by, taken_with}

-- ---- the mounts that are left

abbrev pub needs_left : Vertex → ℕ → List Need
needs_left v i = needs_from v.op.inputs i (drop i (kind_mounts v.op.kind))

-- the mount at hand, before those that are left behind it
pub needs_next : (v : Vertex) (items : List Mount) (i : ℕ) (m : Mount) → items ≡ kind_mounts v.op.kind → i < length items → m ≡ get_or items i m
    → needs_left v i ≡ with_need i m (mounts.key_of v.op.inputs m) (needs_left v (i + 1))
needs_next v items i m same below read =
    ap (λ (ms : List Mount). needs_from v.op.inputs i (drop i ms)) (sym same)
    ∙ at_drop_more (needs_from v.op.inputs i) items i m below
    ∙ ap (λ x. with_need i x (mounts.key_of v.op.inputs x) (needs_from v.op.inputs (i + 1) (drop (i + 1) items))) (sym read)
    ∙ ap (λ (ms : List Mount). with_need i m (mounts.key_of v.op.inputs m) (needs_from v.op.inputs (i + 1) (drop (i + 1) ms))) same

-- a key that is locked is a key that is shown
locked_shown : (o : Option Key) (k : Key) → if_locked o ≡ Some k → o ≡ Some k
locked_shown None k is = absurd cc
locked_shown (Some l) k is = go (is_locked l.mode) is
  where
    go : (b : Bool) → cond b (Some l) None ≡ Some k → Some l ≡ Some k
    go true is = is
    go false is = absurd cc

by_key : (out : Leases) (i : ℕ) (m : Mount) (o : Option CacheKey) (rest : List Need) (k : Key) → option_map key_as o ≡ Some k
    → first_held_key out (with_need i m o rest) ≡ cond (is_locked_and_held out k) (Some k) (first_held_key out rest)
by_key out i m None rest k is = absurd cc
by_key out i m (Some l) rest k is =
    let same : key_as l ≡ k = ap (λ (o : Option Key). unwrap_or o k) is in
    ap (λ l. cond (is_locked_and_held out l) (Some l) (first_held_key out rest)) same

-- a mount that shows no locked key is passed over
pub none_locked : (out : Leases) (i : ℕ) (m : Mount) (o : Option CacheKey) (rest : List Need) → None ≡ if_locked (option_map key_as o)
    → first_held_key out (with_need i m o rest) ≡ first_held_key out rest
none_locked out i m None rest none = refl
none_locked out i m (Some l) rest none = go (is_locked (key_as l).mode) refl none
  where
    go : (b : Bool) → is_locked (key_as l).mode ≡ b → None ≡ cond b (Some (key_as l)) None
        → cond (is_locked_and_held out (key_as l)) (Some (key_as l)) (first_held_key out rest) ≡ first_held_key out rest
    go true is none = absurd cc
    go false is none = ap (λ b. cond (b && is_held out (place (key_as l) 0)) (Some (key_as l)) (first_held_key out rest)) is

-- a locked key decides whether it is the first that is held
pub one_locked : (out : Leases) (i : ℕ) (m : Mount) (o : Option CacheKey) (rest : List Need) (k : Key) (b : Bool) → Some k ≡ if_locked (option_map key_as o)
    → b ≡ is_locked_and_held out k → first_held_key out (with_need i m o rest) ≡ cond b (Some k) (first_held_key out rest)
one_locked out i m o rest k b is held =
    by_key out i m o rest k (locked_shown (option_map key_as o) k (sym is)) ∙ ap (λ b. cond b (Some k) (first_held_key out rest)) (sym held)

-- a mount that shows no cache needs none
pub none_shown : (i : ℕ) (m : Mount) (o : Option CacheKey) (rest : List Need) → None ≡ option_map key_as o → with_need i m o rest ≡ rest
none_shown i m None rest none = refl
none_shown i m (Some k) rest none = absurd cc

-- a mount that shows a cache needs this cache
pub one_shown : (i : ℕ) (m : Mount) (o : Option CacheKey) (rest : List Need) (k : Key) → Some k ≡ option_map key_as o
    → with_need i m o rest ≡ record { mount = i; key = k; input = m.input } ∷ rest
one_shown i m None rest k is = absurd cc
one_shown i m (Some l) rest k is =
    let same : k ≡ key_as l = ap (λ (o : Option Key). unwrap_or o k) is in
    let shown : Key → List Need = λ l. record { mount = i; key = l; input = m.input } ∷ rest in
    ap shown (sym same)

-- one more wanted cache is appended to the wanted ones, and is no longer among the needs that are left
pub one_more : (ws : List Wanted) (w : Wanted) (rest : List Need) → map need_of (ws ++ w ∷ []) ++ rest ≡ map need_of ws ++ need_of w ∷ rest
one_more [] w rest = refl
one_more (v ∷ ws) w rest = ap (λ ns. need_of v ∷ ns) (one_more ws w rest)

-- ---- what is taken

-- the instances that were found have the keys of the needs
pub keys_found : (ws : List Wanted) → map (λ (p : Instance). p.key) (map place_found ws) ≡ map key_of (map need_of ws)
keys_found [] = refl
keys_found (w ∷ ws) = ap (λ ks. w.key ∷ ks) (keys_found ws)

all_behind : (P : Wanted → Type 0) (w : Wanted) (ws : List Wanted) → All P (w ∷ ws) → All P ws
all_behind P w ws all k d below = all (suc k) d (omega (arith, below))

places_as : (c : cache.CachesValue) (ws : List Wanted) → All (IsFound c) ws → map place_found ws ≡ places_taken c.out (map need_of ws)
places_as c [] found = refl
places_as c (w ∷ ws) found =
    let head : IsFound c w = found 0 w (omega arith) in
    let tail = places_as c ws (all_behind (IsFound c) w ws found) in
    λ i. place w.key (head.number i) ∷ tail i

tree_as : (c : cache.CachesValue) (inputs : List TreeMap) (w : Wanted) → IsFound c w
    → first_tree inputs w ≡ unwrap_or (content (store_of c.rows) (cache.place_for c.out w.key)) (base_in w.input inputs)
tree_as c inputs w is =
    ap (λ (o : Option TreeMap). unwrap_or o (base_in w.input inputs))
    (is.tree ∙ ap (slice_get (trees_of c.rows w.key)) is.number ∙ sym (shows_instances c.rows (cache.place_for c.out w.key)))

trees_as : (c : cache.CachesValue) (inputs : List TreeMap) (ws : List Wanted) → All (IsFound c) ws
    → map (first_tree inputs) ws ≡ first_trees (store_of c.rows) inputs (places_taken c.out (map need_of ws)) (map need_of ws)
trees_as c inputs [] found = refl
trees_as c inputs (w ∷ ws) found =
    let head = tree_as c inputs w (found 0 w (omega arith)) in
    let tail = trees_as c inputs ws (all_behind (IsFound c) w ws found) in
    λ i. head i ∷ tail i

-- what is taken of caches as they were found is what a claim on these caches takes
pub taken_as : (c : cache.CachesValue) (inputs : List TreeMap) (ws : List Wanted) → All (IsFound c) ws
    → taken_by inputs ws ≡ taken_with c inputs (map need_of ws)
taken_as c inputs ws found =
    let places = places_as c ws found in
    let trees = trees_as c inputs ws found in
    λ i. (places i, map number_of (places i), trees i, asked inputs (map need_of ws))
