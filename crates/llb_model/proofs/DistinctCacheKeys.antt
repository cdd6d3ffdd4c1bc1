-- The caches that a vertex of a graph shows have different keys: mounts with equal keys are refused, and the loader's numbers name one
-- mode and one index each.
use Rattle.std.proofs.Common.{◌≡◌, ℕ, zero, suc, ◌+◌, ◌<◌, ℤ, pos, negsuc, Bool, true, false, cond, List, [], ◌∷◌, length, map, Option}
use Rattle.std.proofs.Common.{Some, None, option_map, inl, inr, refl, sym, ap, subst, ◌∙◌, arith}
use Rattle.std.specs.Prelude.{slice_get, slice_index_or}
use Rattle.std.specs.List.{All}
use Rattle.std.specs.Cmp.{signed_Decides}
use Rattle.std.proofs.lemmas.List.Elements.{All-head, All-tail, All-get_or}
use Rattle.std.proofs.lemmas.Option.{get_or_from_slice_get}
use Rattle.llb_cache.specs.declared.key.Key.{Key}
use Rattle.llb_cache.specs.declared.key.Seed.{Seed}
use Rattle.llb_cache.specs.declared.key.Mode.{Mode}
use Rattle.llb_cache.specs.declared.key.Mode.TheVariants.{Shared, Private, Locked}
use Rattle.llb_ops.specs.declared.op.Input.{Input}
use Rattle.llb_ops.specs.declared.op.Kind.{Kind}
use Rattle.llb_ops.specs.declared.op.Kind.TheVariants.{Exec, Source, File, Merge, Build, Diff}
use Rattle.llb_ops.specs.declared.exec.Mount.{Mount}
use Rattle.llb_ops.specs.declared.exec.CacheOpt.{CacheOpt}
use Rattle.llb_loader.specs.Graph.{IsGraph, IsVertex, HasInputs, IsEdgeOfInput}
use Rattle.llb_loader.specs.Mounts as mounts
use Rattle.llb_loader.specs.Mounts.{cache, has_type, CacheKey, AreApart, Share, value_at, seed_by, seed_of, key_by, keys_of}
use Rattle.llb_loader.specs.Rules.{IsBelow, IsShared, IsKnownSharing, kind_mounts, MeetsAll, rules_on}
use Rattle.llb_loader.specs.declared.graph.Edge.{Edge}
use Rattle.llb_loader.specs.declared.graph.Vertex.{Vertex}
use Rattle.llb_model.specs.Caches.{Has, Distinct}
use Rattle.llb_model.specs.Program as model
use Rattle.llb_model.specs.Program.{Need, key_of, mode_of, seed_as, key_as, with_need, needs_from}
use Rattle.llb_model.specs.WholeRunLaws.{HasDistinctNeeds}
use Rattle.llb_model.proofs.Lists.{some_of, inside, get_within, got_within}

-- ---- a loader's key back from a key

abbrev number_of : Mode → ℤ
number_of Shared = pos 0
number_of Private = pos 1
number_of Locked = pos 2

mode_back : (m : ℤ) → IsBelow 3 m → number_of (mode_of m) ≡ m
mode_back (pos zero) below = refl
mode_back (pos (suc zero)) below = refl
mode_back (pos (suc (suc zero))) below = refl
mode_back (pos (suc (suc (suc n)))) below = grind (arith, below.high)
mode_back (negsuc n) below = absurd below.low.le

-- an output of a graph has an index from 0 on
abbrev IsIndexed : ℤ → Type 0
IsIndexed i = (n : ℕ) × (i ≡ pos n)

abbrev IsKnownSeed : Option mounts.Seed → Type 0
IsKnownSeed None = Unit {0}
IsKnownSeed (Some s) = IsIndexed s.index

abbrev seed_back : Seed → mounts.Seed
seed_back s = record { digest = s.digest; index = pos s.index }

seed_known : (s : Option mounts.Seed) → IsKnownSeed s → option_map seed_back (option_map seed_as s) ≡ s
seed_known None known = refl
seed_known (Some s) known = ap (λ i. some_of (seed_with s.digest i)) (ap (λ i. pos (model.index_of i)) known.1 ∙ sym known.1)
  where
    seed_with : List ℕ → ℤ → mounts.Seed
    seed_with digest i = record { digest = digest; index = i }

record IsKnown (k : CacheKey) : Type 0 where
  mode : IsBelow 3 k.mode
  seed : IsKnownSeed k.seed

abbrev key_back : Key → CacheKey
key_back k = record { id = k.id; seed = option_map seed_back k.seed; mode = number_of k.mode }

key_known : (k : CacheKey) → IsKnown k → key_back (key_as k) ≡ k
key_known k known = λ i. record { id = k.id; seed = seed_known k.seed known.seed i; mode = mode_back k.mode known.mode i }

key_once : (k l : CacheKey) → IsKnown k → IsKnown l → key_as k ≡ key_as l → k ≡ l
key_once k l known also same = sym (key_known k known) ∙ ap key_back same ∙ key_known l also

-- ---- the keys of mounts

-- each input names an output of a graph
abbrev AreIndexed : List Input → Type 0
AreIndexed inputs = (i : ℕ) (input : Input) → slice_get inputs i ≡ Some input → IsIndexed input.index

by_input : (o : Option Input) → ((input : Input) → o ≡ Some input → IsIndexed input.index) → IsKnownSeed (seed_by o)
by_input None each = tt
by_input (Some input) each = each input refl

input_known : (inputs : List Input) → AreIndexed inputs → (i : ℤ) → IsKnownSeed (seed_of inputs i)
input_known inputs indexed (pos n) = by_input (slice_get inputs n) (indexed n)
input_known inputs indexed (negsuc n) = tt

mount_known : (inputs : List Input) → AreIndexed inputs → (m : Mount) → IsShared m → (k : CacheKey) → mounts.key_of inputs m ≡ Some k → IsKnown k
mount_known inputs indexed m shared k e = by_type (has_type cache m) refl e
  where
    by_options : (o : Option CacheOpt) → IsKnownSharing o → key_by (seed_of inputs m.input) o ≡ Some k → IsKnown k
    by_options None known e = absurd cc
    by_options (Some c) known e = subst IsKnown (inside e) (record { mode = known; seed = input_known inputs indexed m.input })

    by_type : (t : Bool) → has_type cache m ≡ t → key_by (seed_of inputs m.input) (cond t m.cache_opt None) ≡ Some k → IsKnown k
    by_type false is e = absurd cc
    by_type true is e = by_options m.cache_opt (shared ((signed_Decides m.mount_type cache).0 is)) e

-- a key that is needed is that of a mount
record IsOfMount (inputs : List Input) (ms : List Mount) (k : Key) : Type 0 where
  place : ℕ
  key : CacheKey
  there : value_at (keys_of inputs ms) place ≡ Some key
  known : IsKnown key
  is : k ≡ key_as key

module _ (inputs : List Input) (indexed : AreIndexed inputs) where
  needed : (i : ℕ) (ms : List Mount) → All IsShared ms → (k : Key) → Has (map key_of (needs_from inputs i ms)) k → IsOfMount inputs ms k
  needed i [] shared k h = absurd h
  needed i (m ∷ ms) shared k h =
      by_key (mounts.key_of inputs m) refl h (λ h. later (needed (i + 1) ms (All-tail IsShared m ms shared) k h))
    where
      later : IsOfMount inputs ms k → IsOfMount inputs (m ∷ ms) k
      later r = record { place = suc r.place; key = r.key; there = r.there; known = r.known; is = r.is }

      by_key : (o : Option CacheKey) → mounts.key_of inputs m ≡ o → Has (map key_of (with_need i m o (needs_from inputs (i + 1) ms))) k
          → (Has (map key_of (needs_from inputs (i + 1) ms)) k → IsOfMount inputs (m ∷ ms) k) → IsOfMount inputs (m ∷ ms) k
      by_key None is h rest = rest h
      by_key (Some c) is (inl h) rest = record {
        place = 0;
        key = c;
        there = is;
        known = mount_known inputs indexed m (All-head IsShared m ms shared) c is;
        is = h;
      }
      by_key (Some c) is (inr h) rest = rest h

  distinct_needs : (i : ℕ) (ms : List Mount) → All IsShared ms → AreApart (keys_of inputs ms) → Distinct (map key_of (needs_from inputs i ms))
  distinct_needs i [] shared apart = tt
  distinct_needs i (m ∷ ms) shared apart =
      by_key (mounts.key_of inputs m) refl (distinct_needs (i + 1) ms (All-tail IsShared m ms shared)
      (record { apart = λ a c lt. apart.apart (suc a) (suc c) (omega (arith, lt)) }))
    where
      other : (c : CacheKey) → mounts.key_of inputs m ≡ Some c → Has (map key_of (needs_from inputs (i + 1) ms)) (key_as c) → ⊥
      other c is h =
          let r = needed (i + 1) ms (All-tail IsShared m ms shared) (key_as c) h in
          let same : c ≡ r.key = key_once c r.key (mount_known inputs indexed m (All-head IsShared m ms shared) c is) r.known r.is in
          apart.apart 0 (suc r.place) (omega arith) (c, is, r.there ∙ ap (λ k. some_of k) (sym same))

      by_key : (o : Option CacheKey) → mounts.key_of inputs m ≡ o → Distinct (map key_of (needs_from inputs (i + 1) ms))
          → Distinct (map key_of (with_need i m o (needs_from inputs (i + 1) ms)))
      by_key None is rest = rest
      by_key (Some c) is rest = (other c is, rest)

-- ---- graphs

inputs_indexed : (vertices : List Vertex) (v : Vertex) → HasInputs vertices v → AreIndexed v.op.inputs
inputs_indexed vertices v has i input there =
    let within : i < length v.inputs = omega (arith, got_within v.op.inputs i input there, has.len) in
    let e = get_within v.inputs i within in (
      e.0.index,
      subst (λ (x : Input). x.index ≡ pos e.0.index) (get_or_from_slice_get v.op.inputs i input input there)
          (subst (λ (x : Edge). IsEdgeOfInput vertices (slice_index_or v.op.inputs i input) x) (get_or_from_slice_get v.inputs i e.0 e.0 e.1)
          (has.each i input e.0 within)).index,
    )

-- the loader refuses mounts with equal keys, so no vertex of a graph needs one key twice
pub graph_distinct : (b : model.Build) → IsGraph b.graph → HasDistinctNeeds b
graph_distinct b graph k v there =
    by_kind v.op.kind (whole.valid)
  where
    within : k < length b.graph.vertices
    within = got_within b.graph.vertices k v there

    whole : IsVertex v
    whole = subst IsVertex (get_or_from_slice_get b.graph.vertices k v v there) (All-get_or IsVertex b.graph.vertices k v within graph.vertex)

    has : HasInputs b.graph.vertices v
    has = subst (HasInputs b.graph.vertices) (get_or_from_slice_get b.graph.vertices k v v there)
        (All-get_or (HasInputs b.graph.vertices) b.graph.vertices k v within graph.inputs)

    by_kind : (o : Option Kind) → MeetsAll v.op.inputs o (rules_on o) → Distinct (map key_of (needs_from v.op.inputs 0 (kind_mounts o)))
    by_kind None valid = tt
    by_kind (Some (Source x)) valid = tt
    by_kind (Some (File x)) valid = tt
    by_kind (Some (Merge x)) valid = tt
    by_kind (Some (Build x)) valid = tt
    by_kind (Some (Diff x)) valid = tt
    by_kind (Some (Exec x)) valid =
        let rules = valid.1.1.1.1.1.1.1.1.1.1.1.1.1.1.1 in
        distinct_needs v.op.inputs (inputs_indexed b.graph.vertices v has) 0 x.mounts rules.0 rules.1.0
