-- Which vertices read what has to be given by value: marks that spread from each vertex to those before it, and the marks from which they spread.
use Rattle.std.proofs.Common.{◌≡◌, ℕ, zero, suc, ◌+◌, ◌<◌, ◌≤◌, Bool, true, false, ◌||◌, ◌&&◌, ◌⊎◌, ◌↔◌, List, [], ◌∷◌, length, map, get_or, Option, Some, None}
use Rattle.std.proofs.Common.{◌++◌, set, take, inl, inr, refl, sym, ap, subst, ◌∙◌, arith}
use Rattle.std.specs.Prelude.{slice_get, is_some}
use Rattle.std.specs.List.{All, list_any, Contains}
use Rattle.std.proofs.lemmas.Bool.{cases_eq}
use Rattle.std.proofs.lemmas.List.{get_or-map, get_or-set_same, length-map, take_more}
use Rattle.std.proofs.lemmas.List.Elements.{Contains-append_left, Contains-push, Contains-push_cases}
use Rattle.std.proofs.lemmas.Option.{get_or_from_slice_get, slice_get_read}
use Rattle.llb_ops.specs.declared.exec.CacheOpt.{CacheOpt}
use Rattle.llb_ops.specs.declared.exec.Mount.{Mount}
use Rattle.llb_ops.specs.declared.op.Input.{Input}
use Rattle.llb_loader.specs.Mounts.{cache_in, key_by, seed_of}
use Rattle.llb_loader.specs.declared.graph.Edge.{Edge}
use Rattle.llb_loader.specs.declared.graph.Vertex.{Vertex}
use Rattle.llb_loader.specs.Graph.{IsGraph, LeadsBelow, Numbered, links}
use Rattle.llb_loader.specs.WaitingRows.{IsMarked}
use Rattle.llb_loader.specs.ReachedRows.{HasEdge, Walk, Reached}
use Rattle.llb_loader.specs.Rules.{kind_mounts}
use Rattle.llb_loader.proofs.RowReadsAndMarks.{marked_below}
use Rattle.llb_loader.proofs.ReachabilitySearch.{mark_cases, mark_stays, reached_step}
use Rattle.llb_model.specs.Caches.{Has}
use Rattle.llb_model.specs.Program.{Need, key_as, needs_from, with_need, program_of}
use Rattle.llb_model.proofs.Lists.{get_within, got_within}
use Rattle.llb_laws.specs.ContentLaws.{step_digests}
use Rattle.llb_laws.specs.TokenPlans.{Passes, is_cause, mounts_cache}
use Rattle.llb_laws.specs.TokenRuns.{IsByValue, MakesDigest, MakesDigestAt, MountsCacheAt}

-- a test has one result
pub differ : (b : Bool) → b ≡ false → b ≡ true → ⊥
differ b first second = true_not_false (sym second ∙ first)
  where
    true_not_false : true ≡ false → ⊥
    true_not_false e = absurd cc

-- ---- marks that spread

-- marks that have spread from the first ones, at the last i of n vertices
pub record IsSpread (g : List (List ℕ)) (first marks : List Bool) (n i : ℕ) : Type 0 where
  pub count : length marks ≡ n
  pub kept : (k : ℕ) → IsMarked first k → IsMarked marks k
  pub sound : (k : ℕ) → IsMarked marks k → (top : ℕ) × IsMarked first top × Reached g top k
  pub closed : (k : ℕ) → n ≤ k + i → k < n → IsMarked marks k → (b : ℕ) → HasEdge g k b → IsMarked marks b

pub spread_begins : (g : List (List ℕ)) (first : List Bool) (n : ℕ) → length first ≡ n → IsSpread g first first n 0
spread_begins g first n count = record {
  count = count;
  kept = λ k m. m;
  sound = λ k m. (k, m, (0, refl));
  closed = λ k high low m b e. absurd (omega (arith, high, low));
}

-- a vertex that is not marked is passed
pub spread_skips : (g : List (List ℕ)) (first marks : List Bool) (n i v : ℕ) → v + 1 + i ≡ n → get_or marks v false ≡ false
    → IsSpread g first marks n i → IsSpread g first marks n (i + 1)
spread_skips g first marks n i v place none s = record {
  count = s.count;
  kept = s.kept;
  sound = s.sound;
  closed = λ k high low m b e. elim (cases_eq k v) [
    | inl same ↦ absurd (differ (get_or marks v false) none (subst (IsMarked marks) same m))
    | inr other ↦ s.closed k (omega (arith, high, place, other)) low m b e
  ];
}

-- the vertices before one that is marked are marked
pub spread_marks : (g : List (List ℕ)) (first marks more : List Bool) (n i v : ℕ) → v + 1 + i ≡ n → IsMarked marks v
    → ((b : ℕ) → HasEdge g v b → b < v) → length more ≡ length marks
    → ((k : ℕ) → IsMarked more k ↔ (IsMarked marks k ⊎ HasEdge g v k)) → IsSpread g first marks n i → IsSpread g first more n (i + 1)
spread_marks g first marks more n i v place at down count new s = record {
  count = count ∙ s.count;
  kept = λ k m. (new k).1 (inl (s.kept k m));
  sound = λ k m. elim ((new k).0 m) [
    | inl old ↦ s.sound k old
    | inr e ↦ (let from = s.sound v at in (from.0, from.1, reached_step g from.0 v k from.2 e))
  ];
  closed = λ k high low m b e. elim (cases_eq k v) [
    | inl same ↦ (new b).1 (inr (subst (λ j. HasEdge g j b) same e))
    | inr other ↦ elim ((new k).0 m) [
      | inl old ↦ (new b).1 (inl (s.closed k (omega (arith, high, place, other)) low old b e))
      | inr edge ↦ (let under = down k edge in absurd (omega (arith, under, high, place)))
    ]
  ];
}

marked_along : (g : List (List ℕ)) (first marks : List Bool) (n : ℕ) → IsSpread g first marks n n → (top : ℕ) → IsMarked first top
    → (steps k : ℕ) → Walk g top k steps → IsMarked marks k
marked_along g first marks n s top at zero k walk = subst (IsMarked marks) walk (s.kept top at)
marked_along g first marks n s top at (suc steps) k walk =
    let before = marked_along g first marks n s top at steps walk.0 walk.1 in
    let low = marked_below marks walk.0 before in
    s.closed walk.0 (omega arith) (omega (arith, low, s.count)) before k walk.2

-- at the end the marked vertices are those at or before the first ones
pub spread_ends : (g : List (List ℕ)) (first marks : List Bool) (n : ℕ) → IsSpread g first marks n n
    → (k : ℕ) → IsMarked marks k ↔ ((top : ℕ) × IsMarked first top × Reached g top k)
spread_ends g first marks n s k = (s.sound k, λ from. marked_along g first marks n s from.0 from.1 from.2.0 k from.2.1)

-- the vertex of one more edge is marked
pub mark_more : (before marks : List Bool) (es : List Edge) (i : ℕ) (d : Edge) → i < length es → (get_or es i d).vertex < length marks
    → ((k : ℕ) → IsMarked marks k ↔ (IsMarked before k ⊎ Contains (take i (map (λ (e : Edge). e.vertex) es)) k))
    → (k : ℕ) → IsMarked (set marks (get_or es i d).vertex true) k ↔ (IsMarked before k ⊎ Contains (take (i + 1) (map (λ (e : Edge). e.vertex) es)) k)
mark_more before marks es i d low fits known k =
    let n = (get_or es i d).vertex in
    let ns = map (λ (e : Edge). e.vertex) es in
    let count = length-map es (λ (e : Edge). e.vertex) in
    let item : get_or ns i n ≡ n = get_or-map (λ (e : Edge). e.vertex) es i d n low in
    let more : take (i + 1) ns ≡ take i ns ++ n ∷ [] = take_more ns i n (omega (arith, low, count)) ∙ ap (λ m. take i ns ++ m ∷ []) item in (
      λ m. elim (mark_cases marks n k m) [
        | inl old ↦ elim ((known k).0 old) [
          | inl b ↦ inl b
          | inr c ↦ inr (subst (λ (xs : List ℕ). Contains xs k) (sym more) (Contains-append_left (take i ns) (n ∷ []) k c))
        ]
        | inr e ↦ inr (subst (λ (xs : List ℕ). Contains xs k) (sym more) (subst (λ j. Contains (take i ns ++ n ∷ []) j) (sym e) (Contains-push (take i ns) n)))
      ],
      λ h. elim h [
        | inl b ↦ mark_stays marks n k fits ((known k).1 (inl b))
        | inr c ↦ elim (Contains-push_cases (take i ns) n k (subst (λ (xs : List ℕ). Contains xs k) more c)) [
          | inl old ↦ mark_stays marks n k fits ((known k).1 (inr old))
          | inr e ↦ subst (IsMarked (set marks n true)) e (get_or-set_same marks n true false fits)
        ]
      ],
    )

-- before the first edge
pub mark_none : (marks : List Bool) (k : ℕ) → IsMarked marks k ↔ (IsMarked marks k ⊎ Contains [] k)
mark_none marks k = (λ m. inl m, λ h. elim h [ inl m ↦ m | inr c ↦ absurd (omega (arith, c.1)) ])

-- the vertices to which the edges of a vertex lead
pub edges_of : (g : Numbered) (v : ℕ) (x : Vertex) → slice_get g.vertices v ≡ Some x → get_or (links g.vertices) v [] ≡ map (λ (e : Edge). e.vertex) x.inputs
edges_of g v x there =
    get_or-map (λ (z : Vertex). map (λ (n : Edge). n.vertex) z.inputs) g.vertices v x [] (got_within g.vertices v x there)
    ∙ ap (λ (z : Vertex). map (λ (n : Edge). n.vertex) z.inputs) (get_or_from_slice_get g.vertices v x x there)

-- an edge leads to a lower number
edge_down : (g : Numbered) → IsGraph g → (v : ℕ) (x : Vertex) → slice_get g.vertices v ≡ Some x → (b : ℕ)
    → Contains (map (λ (e : Edge). e.vertex) x.inputs) b → b < v
edge_down g graph v x there b (j, low, is) =
    let d : Edge = record { vertex = b; index = 0 } in
    let count = length-map x.inputs (λ (e : Edge). e.vertex) in
    let within : j < length x.inputs = omega (arith, low, count) in
    let to : (get_or x.inputs j d).vertex ≡ b = sym (get_or-map (λ (e : Edge). e.vertex) x.inputs j d b within) ∙ is in
    let row : get_or g.vertices v x ≡ x = get_or_from_slice_get g.vertices v x x there in
    let all : All (LeadsBelow g.vertices v) x.inputs =
    subst (λ (y : Vertex). All (LeadsBelow g.vertices v) y.inputs) row (graph.down v x (got_within g.vertices v x there)) in
    let under = (all j d within).lower in
    omega (arith, under, to)

-- so each edge leads to one of the vertices
pub edges_within : (g : Numbered) → IsGraph g → (v : ℕ) (x : Vertex) (n : ℕ) → slice_get g.vertices v ≡ Some x → n ≡ length g.vertices
    → All (λ (e : Edge). e.vertex < n) x.inputs
edges_within g graph v x n there count j d within =
    let row : get_or g.vertices v x ≡ x = get_or_from_slice_get g.vertices v x x there in
    let all : All (LeadsBelow g.vertices v) x.inputs =
    subst (λ (y : Vertex). All (LeadsBelow g.vertices v) y.inputs) row (graph.down v x (got_within g.vertices v x there)) in
    let under = (all j d within).lower in
    let low = got_within g.vertices v x there in
    omega (arith, under, low, count)

-- a vertex is passed
pub spread_passes : (g : Numbered) → IsGraph g → (first marks more : List Bool) (i v : ℕ) (x : Vertex) → slice_get g.vertices v ≡ Some x
    → v + 1 + i ≡ length g.vertices → Passes marks v (map (λ (e : Edge). e.vertex) x.inputs) more
    → IsSpread (links g.vertices) first marks (length g.vertices) i → IsSpread (links g.vertices) first more (length g.vertices) (i + 1)
spread_passes g graph first marks more i v x there place passes s = by_mark (get_or marks v false) refl
  where
    by_mark : (b : Bool) → get_or marks v false ≡ b → IsSpread (links g.vertices) first more (length g.vertices) (i + 1)
    by_mark false none =
        subst (λ (ms : List Bool). IsSpread (links g.vertices) first ms (length g.vertices) (i + 1)) (sym (passes.same none))
        (spread_skips (links g.vertices) first marks (length g.vertices) i v place none s)
    by_mark true at =
        let row = edges_of g v x there in
        spread_marks (links g.vertices) first marks more (length g.vertices) i v place at
        (λ b e. edge_down g graph v x there b (subst (λ (ns : List ℕ). Contains ns b) row e)) passes.count
        (λ k. subst (λ (ns : List ℕ). IsMarked more k ↔ (IsMarked marks k ⊎ Contains ns k)) (sym row) (passes.marked at k)) s

-- ---- the marks from which they spread

-- an item of a list, as code reads it
pub got_item : (xs vs : List Vertex) (i : ℕ) (x : Vertex) → xs ≡ vs → i < length xs → x ≡ get_or xs i x → slice_get vs i ≡ Some x
got_item xs vs i x same low is = subst (λ (ys : List Vertex). slice_get ys i ≡ Some x) same (slice_get_read xs (length xs) i x refl low is)

-- what holds of the first vertices, and of the next one
pub one_more : (P : ℕ → Vertex → Type 0) (vs : List Vertex) (i : ℕ) (x : Vertex) → slice_get vs i ≡ Some x → P i x
    → ((k : ℕ) (y : Vertex) → k < i → slice_get vs k ≡ Some y → P k y) → (k : ℕ) (y : Vertex) → k < i + 1 → slice_get vs k ≡ Some y → P k y
one_more P vs i x at here earlier k y low there = elim (cases_eq k i) [
  | inl e ↦ (
      let both : slice_get vs i ≡ Some y = subst (λ j. slice_get vs j ≡ Some y) e there in
      let some : Some x ≡ Some y = sym at ∙ both in
      let same : x ≡ y = cc in
      subst (λ j. P j y) (sym e) (subst (P i) same here))
  | inr other ↦ earlier k y (omega (arith, low, other)) there
]

-- the next item of the list of causes
pub map_more : (f : Vertex → Bool) (vs : List Vertex) (n : ℕ) (x : Vertex) (marks longer : List Bool) (b : Bool) → slice_get vs n ≡ Some x
    → marks ≡ take n (map f vs) → b ≡ f x → longer ≡ marks ++ b ∷ [] → longer ≡ take (n + 1) (map f vs)
map_more f vs n x marks longer b there so_far is new =
    let low = got_within vs n x there in
    let count = length-map vs f in
    let item : b ≡ get_or (map f vs) n b = is ∙ ap f (sym (get_or_from_slice_get vs n x x there)) ∙ sym (get_or-map f vs n x b low) in
    new ∙ (λ i. so_far i ++ item i ∷ []) ∙ sym (take_more (map f vs) n b (omega (arith, low, count)))

pub marked_by : (f : Vertex → Bool) (vs : List Vertex) (k : ℕ) → IsMarked (map f vs) k → (x : Vertex) × (slice_get vs k ≡ Some x) × (f x ≡ true)
marked_by f vs k m =
    let low = marked_below (map f vs) k m in
    let long = length-map vs f in
    let at = get_within vs k (omega (arith, low, long)) in (
      at.0,
      at.1,
      ap f (sym (get_or_from_slice_get vs k at.0 at.0 at.1)) ∙ sym (get_or-map f vs k at.0 false (got_within vs k at.0 at.1)) ∙ m,
    )

pub marks_by : (f : Vertex → Bool) (vs : List Vertex) (k : ℕ) (x : Vertex) → slice_get vs k ≡ Some x → f x ≡ true → IsMarked (map f vs) k
marks_by f vs k x there is = get_or-map f vs k x false (got_within vs k x there) ∙ ap f (get_or_from_slice_get vs k x x there) ∙ is

abbrev HasKey : Mount → Bool
HasKey m = is_some (cache_in m)

some_need : (inputs : List Input) (i : ℕ) (ms : List Mount) → list_any HasKey ms ≡ true → (n : Need) × Has (needs_from inputs i ms) n
some_need inputs i [] is = absurd (differ false refl is)
some_need inputs i (m ∷ ms) is = here (cache_in m) is (some_need inputs (i + 1) ms)
  where
    here : (o : Option CacheOpt) → (is_some o || list_any HasKey ms) ≡ true
        → (list_any HasKey ms ≡ true → (n : Need) × Has (needs_from inputs (i + 1) ms) n)
        → (n : Need) × Has (with_need i m (key_by (seed_of inputs m.input) o) (needs_from inputs (i + 1) ms)) n
    here (Some c) h rest = (
      record { mount = i; key = key_as (record { id = c.id; seed = seed_of inputs m.input; mode = c.sharing }); input = m.input },
      inl refl,
    )
    here None h rest = rest h

need_of : (inputs : List Input) (i : ℕ) (ms : List Mount) (n : Need) → Has (needs_from inputs i ms) n → list_any HasKey ms ≡ true
need_of inputs i [] n has = absurd has
need_of inputs i (m ∷ ms) n has = here (cache_in m) has (need_of inputs (i + 1) ms n)
  where
    here : (o : Option CacheOpt) → Has (with_need i m (key_by (seed_of inputs m.input) o) (needs_from inputs (i + 1) ms)) n
        → (Has (needs_from inputs (i + 1) ms) n → list_any HasKey ms ≡ true) → (is_some o || list_any HasKey ms) ≡ true
    here (Some c) h rest = refl
    here None h rest = rest h

module _ (g : Numbered) (some : Bool) (known : (some ≡ true → MakesDigest g) × (MakesDigest g → some ≡ true)) where
  abbrev HasCause : ℕ → Type 0
  HasCause k = MakesDigestAt g k ⊎ (MountsCacheAt g k × MakesDigest g)

  cause_of : (k : ℕ) (x : Vertex) → slice_get g.vertices k ≡ Some x → is_cause some x ≡ true → HasCause k
  cause_of k x there is = by_digest (list_any step_digests (program_of x).steps) refl is
    where
      by_some : (s m : Bool) → some ≡ s → mounts_cache x ≡ m → (s && m) ≡ true → HasCause k
      by_some true true makes mounts h =
          let need = some_need x.op.inputs 0 (kind_mounts x.op.kind) mounts in
          inr (record { vertex = x; there = there; need = need.0; has = need.1 }, known.0 makes)
      by_some true false makes mounts h = absurd (differ false refl h)
      by_some false m makes mounts h = absurd (differ false refl h)

      by_digest : (d : Bool) → list_any step_digests (program_of x).steps ≡ d → (d || (some && mounts_cache x)) ≡ true → HasCause k
      by_digest true makes h = inl (record { vertex = x; there = there; digests = makes })
      by_digest false makes h = by_some some (mounts_cache x) refl refl h

  cause_marks : (k : ℕ) → HasCause k → IsMarked (map (is_cause some) g.vertices) k
  cause_marks k (inl d) =
      marks_by (is_cause some) g.vertices k d.vertex d.there (ap (λ b. b || (some && mounts_cache d.vertex)) d.digests)
  cause_marks k (inr both) =
      let x = both.0.vertex in
      let mounts = need_of x.op.inputs 0 (kind_mounts x.op.kind) both.0.need both.0.has in
      let yes = known.1 both.1 in
      marks_by (is_cause some) g.vertices k x both.0.there
      ((λ i. list_any step_digests (program_of x).steps || (yes i && mounts i)) ∙ or_true (list_any step_digests (program_of x).steps))
    where
      or_true : (b : Bool) → (b || true) ≡ true
      or_true true = refl
      or_true false = refl

  -- marks that have spread from the causes are on the vertices that are given by value
  pub are_by_value : (marks : List Bool)
      → ((k : ℕ) → IsMarked marks k ↔ ((top : ℕ) × IsMarked (map (is_cause some) g.vertices) top × Reached (links g.vertices) top k))
      → (k : ℕ) → IsMarked marks k ↔ IsByValue g k
  are_by_value marks spread k = (
    λ m. let from = (spread k).0 m in let at = marked_by (is_cause some) g.vertices from.0 from.1 in
        record { top = from.0; before = from.2; cause = cause_of from.0 at.0 at.1 at.2 },
    λ value. (spread k).1 (value.top, cause_marks value.top value.cause, value.before),
  )
