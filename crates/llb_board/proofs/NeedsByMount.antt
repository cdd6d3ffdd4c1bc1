-- The caches that a vertex shows, one mount after another, and what a claim takes of them.
use Rattle.std.proofs.Common.{◌≡◌, ◌≢◌, ◌<◌, ◌≤◌, ◌+◌, ℕ, zero, suc, Bool, true, false, cond, List, [], ◌∷◌, length, map}
use Rattle.std.proofs.Common.{get_or, refl, sym, ap, subst, arith, pos, inl, inr}
use Rattle.std.specs.Prelude.{Option, Some, None, option_map, slice_get, slice_index_or}
use Rattle.std.specs.List.{find, All, AllPairs}
use Rattle.std.proofs.lemmas.Option.{get_or_from_slice_get}
use Rattle.std.proofs.lemmas.List.Elements.{All-get_or}
use Rattle.llb_cache.specs.declared.lease_needs.Need as cache_need
use Rattle.llb_cache.specs.Caches as cache
use Rattle.llb_cache.specs.Caches.{Leases}
use Rattle.llb_cache.proofs.ListMembership.{In, pairs_cons}
use Rattle.llb_ops.specs.declared.exec.Mount.{Mount}
use Rattle.llb_ops.specs.declared.op.Input.{Input}
use Rattle.llb_loader.specs.declared.graph.Edge.{Edge}
use Rattle.llb_loader.specs.declared.graph.Vertex.{Vertex}
use Rattle.llb_loader.specs.Graph.{Numbered, IsGraph, HasInputs, IsEdgeOfInput}
use Rattle.llb_loader.specs.Mounts as mounts
use Rattle.llb_loader.specs.Mounts.{CacheKey}
use Rattle.llb_loader.specs.Rules.{kind_mounts}
use Rattle.llb_tree.specs.Tree.{TreeMap}
use Rattle.llb_model.specs.Caches.{Has, Distinct}
use Rattle.llb_model.specs.Program.{Need, key_of, mount_of, base_in, with_need, needs_from, needs_of}
use Rattle.llb_model.specs.TwoCacheModels.{asked}
use Rattle.llb_model.proofs.Lists.{get_within, got_within}
use Rattle.llb_board.specs.CacheNeeds.{HasEdges, is_locked_and_held, first_held_key}

-- ---- the edges of a vertex

edges_of : (vertices : List Vertex) (v : Vertex) → HasInputs vertices v → HasEdges v
edges_of vertices v has i input there =
    let within : i < length v.inputs = omega (arith, got_within v.op.inputs i input there, has.len) in
    let e = get_within v.inputs i within in (
      e.0,
      e.1,
      subst (λ (x : Input). x.index ≡ pos e.0.index) (get_or_from_slice_get v.op.inputs i input input there)
          (subst (λ (x : Edge). IsEdgeOfInput vertices (slice_index_or v.op.inputs i input) x) (get_or_from_slice_get v.inputs i e.0 e.0 e.1)
          (has.each i input e.0 within)).index,
    )

-- a vertex of a graph has an edge for each input of its op, with the index that the input names
pub graph_edges : (g : Numbered) (k : ℕ) (v : Vertex) → IsGraph g → slice_get g.vertices k ≡ Some v → HasEdges v
graph_edges g k v graph there =
    edges_of g.vertices v
    (subst (HasInputs g.vertices) (get_or_from_slice_get g.vertices k v v there)
    (All-get_or (HasInputs g.vertices) g.vertices k v (got_within g.vertices k v there) graph.inputs))

-- ---- the needs of a vertex

-- a lease is refused for the first locked key that is held
pub first_refused_held : (out : Leases) (inputs : List TreeMap) (needs : List Need)
    → option_map (λ (n : cache_need.Need). n.key) (find (cache.is_locked_and_held out) (asked inputs needs)) ≡ first_held_key out needs
first_refused_held out inputs [] = refl
first_refused_held out inputs (n ∷ needs) = go (is_locked_and_held out n.key) (first_refused_held out inputs needs)
  where
    need : cache_need.Need
    need = record { key = n.key; tree = base_in n.input inputs }

    go : (b : Bool) → option_map (λ (n : cache_need.Need). n.key) (find (cache.is_locked_and_held out) (asked inputs needs)) ≡ first_held_key out needs
        → option_map (λ (n : cache_need.Need). n.key) (cond b (Some need) (find (cache.is_locked_and_held out) (asked inputs needs)))
        ≡ cond b (Some n.key) (first_held_key out needs)
    go true rest = refl
    go false rest = rest

asked_key : (inputs : List TreeMap) (needs : List Need) (m : cache_need.Need) → In (asked inputs needs) m → Has (map key_of needs) m.key
asked_key inputs [] m h = absurd h
asked_key inputs (n ∷ needs) m (inl is) = inl (ap (λ (m : cache_need.Need). m.key) is)
asked_key inputs (n ∷ needs) m (inr h) = inr (asked_key inputs needs m h)

-- needs of different keys are asked for by different keys
pub asked_differ : (inputs : List TreeMap) (needs : List Need) → Distinct (map key_of needs) → AllPairs (λ n m. n.key ≢ m.key) (asked inputs needs)
asked_differ inputs [] distinct = λ i j d before below. absurd (omega (arith, below))
asked_differ inputs (n ∷ needs) distinct =
    pairs_cons (λ (n m : cache_need.Need). n.key ≢ m.key) (record { key = n.key; tree = base_in n.input inputs }) (asked inputs needs)
    (λ m h same. distinct.0 (subst (Has (map key_of needs)) (sym same) (asked_key inputs needs m h)))
    (asked_differ inputs needs distinct.1)

-- the mounts from a number on that show caches are from that number on, and within the mounts
needs_past : (inputs : List Input) (i n : ℕ) (ms : List Mount) → Has (map mount_of (needs_from inputs i ms)) n → (i ≤ n) × (n < i + length ms)
needs_past inputs i n [] h = absurd h
needs_past inputs i n (m ∷ ms) h = by_key (mounts.key_of inputs m) h (needs_past inputs (i + 1) n ms)
  where
    later : (i + 1 ≤ n) × (n < i + 1 + length ms) → (i ≤ n) × (n < i + suc (length ms))
    later r = let low = r.0 in let high = r.1 in (omega (arith, low), omega (arith, high))

    by_key : (o : Option CacheKey) → Has (map mount_of (with_need i m o (needs_from inputs (i + 1) ms))) n
        → (Has (map mount_of (needs_from inputs (i + 1) ms)) n → (i + 1 ≤ n) × (n < i + 1 + length ms)) → (i ≤ n) × (n < i + suc (length ms))
    by_key None h rest = later (rest h)
    by_key (Some k) (inl is) rest = (omega (arith, is), omega (arith, is))
    by_key (Some k) (inr h) rest = later (rest h)

apart_from : (inputs : List Input) (i : ℕ) (ms : List Mount) → Distinct (map mount_of (needs_from inputs i ms))
apart_from inputs i [] = tt
apart_from inputs i (m ∷ ms) = by_key (mounts.key_of inputs m) (apart_from inputs (i + 1) ms)
  where
    by_key : (o : Option CacheKey) → Distinct (map mount_of (needs_from inputs (i + 1) ms))
        → Distinct (map mount_of (with_need i m o (needs_from inputs (i + 1) ms)))
    by_key None rest = rest
    by_key (Some k) rest = (λ h. let past = (needs_past inputs (i + 1) i ms h).0 in absurd (omega (arith, past)), rest)

-- no mount shows two caches
pub needs_apart : (v : Vertex) → Distinct (map mount_of (needs_of v))
needs_apart v = apart_from v.op.inputs 0 (kind_mounts v.op.kind)

got_has : (ns : List ℕ) (k d : ℕ) → k < length ns → Has ns (get_or ns k d)
got_has [] k d below = absurd (omega (arith, below))
got_has (n ∷ ns) zero d below = inl refl
got_has (n ∷ ns) (suc k) d below = inr (got_has ns k d (omega (arith, below)))

-- the mounts that show caches are mounts of the vertex
pub needs_within : (v : Vertex) → All (λ n. n < length (kind_mounts v.op.kind)) (map mount_of (needs_of v))
needs_within v =
    λ k d below.
    let n = get_or (map mount_of (needs_of v)) k d in
    let high = (needs_past v.op.inputs 0 n (kind_mounts v.op.kind) (got_has (map mount_of (needs_of v)) k d below)).1 in
    omega (arith, high)
