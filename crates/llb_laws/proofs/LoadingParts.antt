-- A part of a loaded definition that has what the result reaches is refused for no cause: its reached rows are reached rows of the definition, with the
-- same ops.
use Rattle.std.proofs.Common.{◌≡◌, ◌≢◌, ℕ, zero, suc, ◌<◌, ◌-◌, Bool, cond, List, [], ◌∷◌, length, get_or, Option, Some, None, Result}
use Rattle.std.proofs.Common.{Ok, Err, refl, sym, ap, subst, ◌∙◌, ◌⊎◌, inl, inr, arith, pos}
use Rattle.std.specs.Option.{unwrap_or}
use Rattle.std.specs.List.{Contains}
use Rattle.std.proofs.lemmas.Bool.{eq-eqb, ne_eqb}
use Rattle.std.proofs.lemmas.List.{get_or_default, length-map}
use Rattle.std.proofs.lemmas.List.Elements.{Contains-get_or}
use Rattle.std.proofs.lemmas.List.Sorted.{Contains-permutation, IsPermutation-sym}
use Rattle.llb_wire.specs.Digest.{digest_text}
use Rattle.llb_ops.specs.declared.op.Op.{Op}
use Rattle.llb_ops.specs.declared.op.Input.{Input}
use Rattle.llb_ops.specs.declared.op.Kind.{Kind}
use Rattle.llb_ops.specs.declared.fault.OpFault.{OpFault}
use Rattle.llb_ops.specs.Messages.{op_of}
use Rattle.llb_loader.specs.declared.row.Row.{Row}
use Rattle.llb_loader.specs.declared.graph.Vertex.{Vertex}
use Rattle.llb_loader.specs.declared.fault.LoadFault.{LoadFault}
use Rattle.llb_loader.specs.declared.fault.LoadFault.TheVariants.{Definition, Entry, TooFew, Collision, NoResult, UnknownDigest, Cycle}
use Rattle.llb_loader.specs.declared.fault.LoadFault.TheVariants.{Unsupported, Invalid, BadIndex, Memory}
use Rattle.llb_loader.specs.declared.fault.Feature.{Feature}
use Rattle.llb_loader.specs.declared.fault.Rule.{Rule}
use Rattle.llb_loader.specs.ReachedRows.{Walk, HasEdge}
use Rattle.llb_loader.specs.Numbering.{GoesDown, rank_in}
use Rattle.llb_loader.specs.RowLookup.{row_at, AllSame, Collides, first_with, other_than, row_named, terminal_in}
use Rattle.llb_loader.specs.Features.{feature_of}
use Rattle.llb_loader.specs.Rules.{MeetsAll, MeetsRules, Breaks, BreaksFirst, IsBelow, output_count, rules_on}
use Rattle.llb_loader.specs.Graph.{Numbered, IsGraph}
use Rattle.llb_loader.specs.GraphOfRows.{Plan, plan_of, op_at, input_at, input_row, links_in, ReachedRow, HasInput, IsUnknown, IsBadIndex, IsStarted}
use Rattle.llb_loader.specs.GraphOfRows.{outputs_there, vertex_of, Refuses}
use Rattle.llb_loader.specs.RowReading.{AreOps, RefusesRow}
use Rattle.llb_loader.specs.LoadResult.{IsGraphIn, rows_from}
use Rattle.llb_loader.proofs.FirstRowOfDigest.{first_cases}
use Rattle.llb_loader.proofs.InputRowPlaces.{graph_at, named_below, named_digest, named_first, reached_first, same_first}
use Rattle.llb_loader.proofs.PlanRefusals.{reached_in, input_named}
use Rattle.llb_loader.proofs.ReachabilitySearch.{reached_step}
use Rattle.llb_loader.proofs.UniqueNumbering.{numbering_down}
use Rattle.llb_model.proofs.Lists.{get_within}
use Rattle.llb_laws.specs.Definitions.{last_entry, HasPart}
use Rattle.llb_laws.specs.DefinitionParts.{HasVertices, PartIsNotRefused, OrderIsNotRefused}
use Rattle.llb_laws.proofs.VertexEntries.{row_from, vertex_is, ok_inside}
use Rattle.llb_laws.proofs.CollisionFreeEntries.{row_of, parts_do_not_collide}
use Rattle.llb_laws.proofs.EntryInclusion.{read_once}
use Rattle.llb_laws.proofs.Definitions.{part_of_itself}
use Rattle.llb_laws.proofs.ListLookups as values

-- ---- rows of entries

-- row k of these entries has this entry
record IsRow (zs : List (List ℕ)) (k : ℕ) (entry : List ℕ) : Type 0 where
  low : k < length zs
  among : Contains zs entry
  is : row_at (rows_from zs) k ≡ row_from entry

is_row : (zs : List (List ℕ)) (k : ℕ) → k < length (rows_from zs) → IsRow zs k (get_or zs k [])
unfolding row_from
is_row zs k l =
    let count = length-map zs row_from in
    let low : k < length zs = omega (arith, l, count) in
    record { low = low; among = Contains-get_or zs k [] low; is = row_of zs k (get_or zs k []) low (get_or_default zs k (get_or zs k []) [] low) }

digest_in : (zs : List (List ℕ)) (k : ℕ) (entry : List ℕ) → IsRow zs k entry → (row_at (rows_from zs) k).digest ≡ digest_text entry
unfolding row_from
digest_in zs k entry r = ap (λ (z : Row). z.digest) r.is

read_in : (zs : List (List ℕ)) (ops : List Op) → AreOps (rows_from zs) ops → (k : ℕ) (entry : List ℕ) → IsRow zs k entry → op_of entry ≡ Ok (op_at ops k)
unfolding row_from
read_in zs ops are k entry r =
    let count = length-map zs row_from in
    sym (ap (λ (z : Row). op_of z.bytes) r.is) ∙ are.each k (let l = r.low in omega (arith, l, count))

-- the first row with the digest of one of the entries
first_row : (zs : List (List ℕ)) (entry : List ℕ) → Contains zs entry
    → (k : ℕ) × (first_with (rows_from zs) (digest_text entry) ≡ Some k) × (k < length (rows_from zs))
    × ((row_at (rows_from zs) k).digest ≡ digest_text entry)
unfolding row_from
first_row zs entry c = by_first (first_with (rows_from zs) (digest_text entry)) refl
  where
    by_first : (o : Option ℕ) → first_with (rows_from zs) (digest_text entry) ≡ o
        → (k : ℕ) × (first_with (rows_from zs) (digest_text entry) ≡ Some k) × (k < length (rows_from zs))
        × ((row_at (rows_from zs) k).digest ≡ digest_text entry)
    by_first None e =
        let count = length-map zs row_from in
        let low = c.1 in
        absurd (first_cases (rows_from zs) (digest_text entry) None e c.0 (omega (arith, low, count))
        (ap (λ (z : Row). z.digest) (row_of zs c.0 entry c.1 c.2)))
    by_first (Some k) e = let f = first_cases (rows_from zs) (digest_text entry) (Some k) e in (k, e, f.0, f.1)

-- the terminal is the first row with the digest of the last entry
terminal_row : (zs : List (List ℕ)) → 0 < length zs
    → (first_with (rows_from zs) (digest_text (last_entry zs)) ≡ Some (terminal_in (rows_from zs)))
    × (terminal_in (rows_from zs) < length (rows_from zs))
    × ((row_at (rows_from zs) (terminal_in (rows_from zs))).digest ≡ digest_text (last_entry zs))
unfolding row_from
terminal_row zs some =
    let rows = rows_from zs in
    let count : length rows ≡ length zs = length-map zs row_from in
    let low : length zs - 1 < length zs = omega (arith, some) in
    let last : (row_at rows (length rows - 1)).digest ≡ digest_text (last_entry zs) =
    ap (λ (n : ℕ). (row_at rows (n - 1)).digest) count
    ∙ ap (λ (z : Row). z.digest) (row_of zs (length zs - 1) (last_entry zs) low (get_or_default zs (length zs - 1) (last_entry zs) [] low)) in
    let f = first_row zs (last_entry zs) (Contains-get_or zs (length zs - 1) [] low) in
    let at : terminal_in rows ≡ f.0 = ap (λ (x : List ℕ). unwrap_or (first_with rows x) 0) last ∙ ap (λ (o : Option ℕ). unwrap_or o 0) f.1 in (
      f.1 ∙ ap Some (sym at),
      subst (λ (n : ℕ). n < length rows) (sym at) f.2,
      ap (λ (n : ℕ). (row_at rows n).digest) at ∙ f.3,
    )

-- no input names the terminal
not_last : (zs : List (List ℕ)) → 0 < length zs → (d : List ℕ) (k : ℕ) → row_named (rows_from zs) (terminal_in (rows_from zs)) d ≡ Some k
    → d ≢ digest_text (last_entry zs)
not_last zs some d k named last =
    let t = terminal_in (rows_from zs) in
    let none : row_named (rows_from zs) t d ≡ None =
    ap (λ (x : List ℕ). other_than t (first_with (rows_from zs) x)) last ∙ ap (other_than t) (terminal_row zs some).0
    ∙ ap (λ (b : Bool). cond b None (Some t)) (eq-eqb t t refl) in
    let both : ◌≡◌ {A = Option ℕ} None (Some k) = sym none ∙ named in
    cc

-- what is not the last entry can be named
named_entry : (zs : List (List ℕ)) → 0 < length zs → (entry : List ℕ) → Contains zs entry → digest_text entry ≢ digest_text (last_entry zs)
    → (k : ℕ) × (row_named (rows_from zs) (terminal_in (rows_from zs)) (digest_text entry) ≡ Some k)
named_entry zs some entry c apart =
    let rows = rows_from zs in
    let t = terminal_in rows in
    let f = first_row zs entry c in
    let last = (terminal_row zs some).2 in
    let other : f.0 ≢ t = λ e. apart (sym f.3 ∙ ap (λ (n : ℕ). (row_at rows n).digest) e ∙ last) in
    (f.0, ap (other_than t) f.1 ∙ ap (λ (b : Bool). cond b None (Some f.0)) (ne_eqb f.0 t other))

meets_or_breaks : (is : List Input) (kind : Option Kind) (rs : List Rule) (b : Rule) → Breaks is kind rs b → MeetsAll is kind rs → ⊥
meets_or_breaks is kind [] b h met = h
meets_or_breaks is kind (r ∷ rs) b h met = elim h [ inl here ↦ here.1 met.0 | inr later ↦ meets_or_breaks is kind rs b later.1 met.1 ]

abbrev no_input : Input
no_input = record { digest = []; index = pos 0; extra = [] }

some_inside : (a b : ℕ) → ◌≡◌ {A = Option ℕ} (Some a) (Some b) → a ≡ b
some_inside a b e = cc

-- ---- the part and the whole

module _ (d : List ℕ) (g : Numbered) (graph : IsGraph g) (loaded : IsGraphIn d g) (ys : List (List ℕ)) (part : HasPart loaded.0 ys)
    (has : HasVertices g loaded.0 ys) (others : List Op) (also : AreOps (rows_from ys) others) where
  -- the definition's entries, the plan of the whole, and that of the part
  abbrev xs : List (List ℕ)
  xs = loaded.0

  abbrev p : Plan
  p = plan_of (rows_from loaded.0) loaded.2.0

  abbrev q : Plan
  q = plan_of (rows_from ys) others

  started : IsStarted p
  started = loaded.2.2.whole.valid.supported.ordered.named.started

  one_entry : (a b : List ℕ) → Contains xs a → Contains xs b → digest_text a ≡ digest_text b → a ≡ b
  one_entry a b first second same =
      parts_do_not_collide d g loaded d d (part_of_itself d) (part_of_itself d) loaded.0 loaded.0 loaded.1 loaded.1 a b first second same

  -- row m of the part and row n of the whole have one entry
  record IsPair (m n : ℕ) : Type 0 where
    entry : List ℕ
    first : IsRow xs n entry
    second : IsRow ys m entry

  -- rows with one digest do
  pair_of : (m n : ℕ) → m < length (rows_from ys) → n < length (rows_from xs)
      → (row_at (rows_from ys) m).digest ≡ (row_at (rows_from xs) n).digest → IsPair m n
  pair_of m n low also_low same =
      let y = is_row ys m low in
      let x = is_row xs n also_low in
      let is : get_or xs n [] ≡ get_or ys m [] = one_entry (get_or xs n []) (get_or ys m []) x.among (part.among (get_or ys m []) y.among)
      (sym (digest_in xs n (get_or xs n []) x) ∙ sym same ∙ digest_in ys m (get_or ys m []) y) in
      record { entry = get_or ys m []; first = subst (λ (z : List ℕ). IsRow xs n z) is x; second = y }

  op_same : (m n : ℕ) → IsPair m n → op_at others m ≡ op_at loaded.2.0 n
  op_same m n e =
      ok_inside (op_at others m) (op_at loaded.2.0 n)
      (sym (read_in ys others also m e.entry e.second) ∙ read_in xs loaded.2.0 loaded.2.1 n e.entry e.first)

  -- a vertex is made from each reached row, so the part has its entry
  entry_there : (n : ℕ) (entry : List ℕ) → ReachedRow p n → IsRow xs n entry → Contains ys entry
  entry_there n entry reached r =
      let made = loaded.2.2 in
      let c = made.whole.valid.supported.ordered.numbering.whole n reached in
      let at : get_or made.order c.0 0 ≡ n = get_or_default made.order c.0 0 n c.1 ∙ c.2 in
      let vertices = ap (λ (z : Numbered). length z.vertices) made.graph in
      let count = length-map made.order (vertex_of p made.order) in
      let low = c.1 in
      let x = get_within g.vertices c.0 (omega (arith, low, vertices, count)) in
      let is = vertex_is (rows_from xs) loaded.2.0 g made c.0 x.0 x.1 in
      has c.0 x.0 entry x.1 r.among
      (sym (digest_in xs n entry r) ∙ ap (λ (k : ℕ). (row_at (rows_from xs) k).digest) (sym at) ∙ sym (ap (λ (z : Vertex). z.digest) is))

  some_there : 0 < length (rows_from xs)
  some_there = let l = started.result.terminal.holds.0 in omega (arith, l)

  some_whole : 0 < length xs
  unfolding row_from
  some_whole = let count = length-map xs row_from in let l = some_there in omega (arith, l, count)

  -- input i of row m of the part names the row that is paired with row b of the whole
  abbrev NamesTwin : ℕ → ℕ → ℕ → Type 0
  NamesTwin m i b = (c : ℕ) × (input_row q m i ≡ Some c) × IsPair c b

  -- what an input of a row of the whole names, it names in the part too
  named_too : (m n i b : ℕ) → IsPair m n → input_row p n i ≡ Some b → ReachedRow p b → NamesTwin m i b
  named_too m n i b pair named reached =
      let dg : List ℕ = (input_at (op_at loaded.2.0 n) i).digest in
      let low = named_below (rows_from xs) p.terminal dg b named in
      let digest = named_digest (rows_from xs) p.terminal dg b named in
      let r = is_row xs b low in
      let among = entry_there b (get_or xs b []) reached r in
      let is : digest_text (get_or xs b []) ≡ dg = sym (digest_in xs b (get_or xs b []) r) ∙ digest in
      let some : 0 < length ys = (let l = among.1 in omega (arith, l)) in
      let apart : digest_text (get_or xs b []) ≢ digest_text (last_entry ys) =
      λ e. not_last xs some_whole dg b named (sym is ∙ e ∙ ap digest_text (sym part.last)) in
      let f = named_entry ys some (get_or xs b []) among apart in
      let input : (input_at (op_at others m) i).digest ≡ digest_text (get_or xs b []) =
      ap (λ (o : Op). (input_at o i).digest) (op_same m n pair) ∙ sym is in
      let there : input_row q m i ≡ Some f.0 = ap (row_named (rows_from ys) q.terminal) input ∙ f.1 in (
        f.0,
        there,
        pair_of f.0 b (named_below (rows_from ys) q.terminal (digest_text (get_or xs b [])) f.0 f.1) low
            (named_digest (rows_from ys) q.terminal (digest_text (get_or xs b [])) f.0 f.1 ∙ is ∙ sym digest),
      )

  -- the part has the entry of the result's row, so it is not empty
  some_part : 0 < length ys
  some_part =
      let r = is_row xs p.start (reached_in p started p.start (0, refl)) in
      let l = (entry_there p.start (get_or xs p.start []) (0, refl) r).1 in
      omega (arith, l)

  terminals : IsPair q.terminal p.terminal
  terminals =
      let x = terminal_row xs some_whole in
      let y = terminal_row ys some_part in
      pair_of q.terminal p.terminal y.1 x.1 (y.2 ∙ ap digest_text (sym part.last) ∙ sym x.2)

  -- what the terminals' first inputs name
  starts : NamesTwin q.terminal 0 p.start
  starts = named_too q.terminal p.terminal 0 p.start terminals started.start (0, refl)

  -- ---- reached rows

  abbrev HasTwin : ℕ → Type 0
  HasTwin m = (n : ℕ) × IsPair m n × ReachedRow p n

  -- what an input of a reached row names
  twin_input : (m n : ℕ) → IsPair m n → ReachedRow p n → (i : ℕ) → i < length (op_at others m).inputs
      → (b : ℕ) × (input_row p n i ≡ Some b) × HasEdge (links_in p) n b × ReachedRow p b × NamesTwin m i b
  twin_input m n pair reached i low =
      let op = op_same m n pair in
      let here : i < length (op_at loaded.2.0 n).inputs = subst (λ (o : Op). i < length o.inputs) op low in
      let named = loaded.2.2.whole.valid.supported.ordered.named in
      let b = unwrap_or (input_row p n i) 0 in
      let is : input_row p n i ≡ Some b = values.some_value (input_row p n i) (input_named p named n i (record { reached = reached; here = here })) in
      let edge : HasEdge (links_in p) n b =
      subst (λ (rs : List ℕ). Contains rs b) (sym (graph_at (rows_from xs) p.terminal loaded.2.0 n))
      (values.value_among (λ (j : Input). row_named (rows_from xs) p.terminal j.digest) (op_at loaded.2.0 n).inputs no_input b i here is) in
      let next = reached_step (links_in p) p.start n b reached edge in
      (b, is, edge, next, named_too m n i b pair is next)

  twin_along : IsStarted q → (m n : ℕ) → Walk (links_in q) q.start m n → HasTwin m
  twin_along s m zero same =
      let t = starts in
      let at : t.0 ≡ m = some_inside t.0 m (sym t.1 ∙ s.start ∙ ap Some same) in
      (p.start, subst (λ (k : ℕ). IsPair k p.start) at t.2, (0, refl))
  twin_along s m (suc n) (c, walk, edge) =
      let t = twin_along s c n walk in
      let v = values.value_of (λ (j : Input). row_named (rows_from ys) q.terminal j.digest) (op_at others c).inputs no_input m
      (subst (λ (rs : List ℕ). Contains rs m) (graph_at (rows_from ys) q.terminal others c) edge) in
      let u = twin_input c t.0 t.1 t.2 v.0 v.1 in
      let at : u.4.0 ≡ m = some_inside u.4.0 m (sym u.4.1 ∙ v.2) in
      (u.0, subst (λ (k : ℕ). IsPair k u.0) at u.4.2, u.3)

  twin : IsStarted q → (m : ℕ) → ReachedRow q m → HasTwin m
  twin s m reached = twin_along s m reached.0 reached.1

  -- ---- no refusal applies

  -- entries of the part with one digest are one
  no_collision : (k : ℕ) → Collides (rows_from ys) k → ⊥
  unfolding row_from
  no_collision k c =
      let j = c.earlier.0 in
      let before = c.earlier.1 in
      let here = c.here in
      let y = is_row ys k here in
      let z = is_row ys j (omega (arith, before, here)) in
      let same = sym (digest_in ys j (get_or ys j []) z) ∙ c.earlier.2 ∙ digest_in ys k (get_or ys k []) y in
      let is = one_entry (get_or ys j []) (get_or ys k []) (part.among (get_or ys j []) z.among) (part.among (get_or ys k []) y.among) same in
      c.earlier.3 (ap (λ (r : Row). r.bytes) z.is ∙ is ∙ sym (ap (λ (r : Row). r.bytes) y.is))

  -- the rows of the terminal and of the result differ
  not_all_same : AllSame (rows_from ys) → ⊥
  not_all_same same =
      let y = terminal_row ys some_part in
      let low = named_below (rows_from ys) q.terminal (input_at (op_at others q.terminal) 0).digest starts.0 starts.1 in
      let digest = named_digest (rows_from ys) q.terminal (input_at (op_at others q.terminal) 0).digest starts.0 starts.1 in
      not_last ys some_part (input_at (op_at others q.terminal) 0).digest starts.0 starts.1
      (sym digest ∙ ap (λ (r : Row). r.digest) (same starts.0 low ∙ sym (same q.terminal y.1)) ∙ y.2)

  first_there : input_row q q.terminal 0 ≡ None → ⊥
  first_there none = let both : ◌≡◌ {A = Option ℕ} None (Some starts.0) = sym none ∙ starts.1 in cc

  known : (k i : ℕ) → IsStarted q → IsUnknown q k i → ⊥
  known k i s u =
      let t = twin s k u.input.reached in
      let n = twin_input k t.0 t.1 t.2 i u.input.here in
      let both : ◌≡◌ {A = Option ℕ} None (Some n.4.0) = sym u.unknown ∙ n.4.1 in
      cc

  -- each row of the part has the rank of the first row of the whole with its digest
  abbrev row_in_whole : ℕ → ℕ
  row_in_whole m = unwrap_or (first_with (rows_from xs) (row_at (rows_from ys) m).digest) 0

  -- a reached row is the first one with its digest
  is_whole : (m n : ℕ) → IsPair m n → ReachedRow p n → row_in_whole m ≡ n
  is_whole m n pair reached =
      let rows = rows_from xs in
      let f = first_row xs pair.entry pair.first.among in
      let c = first_cases rows (digest_text pair.entry) (Some f.0) f.1 in
      let start = named_first rows p.terminal (input_at (op_at loaded.2.0 p.terminal) 0).digest p.start started.start in
      let first = reached_first rows p.terminal loaded.2.0 p.start n start reached in
      let at = same_first rows f.0 n (λ j l e. c.2 j l (e ∙ c.1)) first (c.1 ∙ sym (digest_in xs n pair.entry pair.first)) in
      ap (λ (dg : List ℕ). unwrap_or (first_with rows dg) 0) (digest_in ys m pair.entry pair.second) ∙ ap (λ (o : Option ℕ). unwrap_or o 0) f.1 ∙ at

  -- so each edge between reached rows of the part goes down in rank
  goes_down : IsStarted q → GoesDown (links_in q) q.start (λ m. rank_in loaded.2.2.order (row_in_whole m))
  goes_down s m c reached edge =
      let order = loaded.2.2.order in
      let t = twin s m reached in
      let v = values.value_of (λ (j : Input). row_named (rows_from ys) q.terminal j.digest) (op_at others m).inputs no_input c
      (subst (λ (rs : List ℕ). Contains rs c) (graph_at (rows_from ys) q.terminal others m) edge) in
      let u = twin_input m t.0 t.1 t.2 v.0 v.1 in
      let at : u.4.0 ≡ c = some_inside u.4.0 c (sym u.4.1 ∙ v.2) in
      let lower = is_whole c u.0 (subst (λ (k : ℕ). IsPair k u.0) at u.4.2) u.3 in
      let upper = is_whole m t.0 t.1 t.2 in
      let down = numbering_down (links_in p) p.start order loaded.2.2.whole.valid.supported.ordered.numbering t.0 u.0 t.2 u.2 in
      omega (arith, down, ap (rank_in order) lower, ap (rank_in order) upper)

  -- the rows that an input names have as many outputs
  outputs_same : (m n i b : ℕ) → input_row p n i ≡ Some b → NamesTwin m i b → outputs_there q m i ≡ outputs_there p n i
  outputs_same m n i b named twin =
      ap (λ (o : Option ℕ). output_count (op_at others (unwrap_or o 0))) twin.1 ∙ ap output_count (op_same twin.0 b twin.2)
      ∙ ap (λ (o : Option ℕ). output_count (op_at loaded.2.0 (unwrap_or o 0))) (sym named)

  index_there : (m n i b : ℕ) → IsPair m n → input_row p n i ≡ Some b → NamesTwin m i b
      → HasInput p n i ⊎ ((n ≡ p.terminal) × (i ≡ 0)) → (IsBelow (outputs_there q m i) (input_at (op_at others m) i).index → ⊥) → ⊥
  index_there m n i b pair named twin asked bad =
      loaded.2.2.whole.indexes n i (record {
        asked = asked;
        bad = λ below. bad (subst (λ (k : ℕ). IsBelow k (input_at (op_at others m) i).index) (sym (outputs_same m n i b named twin))
            (subst (λ (o : Op). IsBelow (outputs_there p n i) (input_at o i).index) (sym (op_same m n pair)) below));
      })

  no_bad_index : (k i : ℕ) → IsStarted q → IsBadIndex q k i → ⊥
  no_bad_index k i s bad = by_asked bad.asked
    where
      by_asked : HasInput q k i ⊎ ((k ≡ q.terminal) × (i ≡ 0)) → ⊥
      by_asked (inl input) =
          let t = twin s k input.reached in
          let n = twin_input k t.0 t.1 t.2 i input.here in
          let here = subst (λ (o : Op). i < length o.inputs) (op_same k t.0 t.1) input.here in
          index_there k t.0 i n.0 t.1 n.1 n.4 (inl (record { reached = t.2; here = here })) bad.bad
      by_asked (inr at) =
          index_there q.terminal p.terminal 0 p.start terminals started.start starts (inr (refl, refl))
          (subst (λ (j : ℕ). IsBelow (outputs_there q q.terminal j) (input_at (op_at others q.terminal) j).index → ⊥) at.1
          (subst (λ (m : ℕ). IsBelow (outputs_there q m i) (input_at (op_at others m) i).index → ⊥) at.0 bad.bad))

  no_feature : (k : ℕ) (f : Feature) → IsStarted q → ReachedRow q k → feature_of (op_at others k) ≡ Some f → ⊥
  no_feature k f s reached feature =
      let t = twin s k reached in
      let none = loaded.2.2.whole.valid.supported.featureless t.0 t.2 in
      let both : ◌≡◌ {A = Option Feature} None (Some f) = sym none ∙ ap feature_of (sym (op_same k t.0 t.1)) ∙ feature in
      cc

  no_broken_rule : (k : ℕ) (r : Rule) → IsStarted q → ReachedRow q k → BreaksFirst (op_at others k) r → ⊥
  no_broken_rule k r s reached broken =
      let t = twin s k reached in
      let o = op_at others k in
      let met : MeetsRules o = subst MeetsRules (sym (op_same k t.0 t.1)) (loaded.2.2.whole.valid.valid t.0 t.2) in
      meets_or_breaks o.inputs o.kind (rules_on o.kind) r broken met

  has_result : (op_at others q.terminal).inputs ≡ [] → ⊥
  has_result none =
      let some : 0 < length (op_at loaded.2.0 p.terminal).inputs = started.result.input in
      let same = ap (λ (o : Op). length o.inputs) (op_same q.terminal p.terminal terminals) in
      let zero : length (op_at others q.terminal).inputs ≡ 0 = ap length none in
      omega (arith, some, same, zero)

  -- whatever the fault, its cause does not hold
  not_refused : (f : LoadFault) → Refuses q f → ⊥
  not_refused TooFew r = not_all_same r
  not_refused (Collision k) r = no_collision k r.1.holds
  not_refused NoResult r = has_result r.2
  not_refused (UnknownDigest k i) (inl r) = first_there r.unknown
  not_refused (UnknownDigest k i) (inr r) = known k i r.0 r.1.holds
  not_refused Cycle r = r.1 (λ m. rank_in loaded.2.2.order (row_in_whole m)) (goes_down r.0.started)
  not_refused (Unsupported k f) r = no_feature k f r.1.named.started r.2.reached r.2.feature
  not_refused (Invalid k rule) r = no_broken_rule k rule r.1.ordered.named.started r.2.reached r.2.broken
  not_refused (BadIndex k i) r = no_bad_index k i r.1.supported.ordered.named.started r.2.holds
  not_refused (Definition f) r = r
  not_refused (Entry k f) r = r
  not_refused Memory r = r

-- each entry of the part can be read, as the definition's entries can
no_unread : (xs ys : List (List ℕ)) (ops : List Op) → AreOps (rows_from xs) ops → HasPart xs ys → (f : LoadFault) → RefusesRow (rows_from ys) f → ⊥
unfolding row_from
no_unread xs ys ops are part f (k, fault, is, unread) =
    let y = is_row ys k unread.here in
    let c = part.among (get_or ys k []) y.among in
    let x = row_of xs c.0 (get_or ys k []) c.1 c.2 in
    let count = length-map xs row_from in
    let low = c.1 in
    let read : op_of (get_or ys k []) ≡ Ok (op_at ops c.0) =
    sym (ap (λ (r : Row). op_of r.bytes) x) ∙ are.each c.0 (omega (arith, low, count)) in
    let both : ◌≡◌ {A = Result Op OpFault} (Ok (op_at ops c.0)) (Err fault) =
    sym read ∙ sym (ap (λ (r : Row). op_of r.bytes) y.is) ∙ unread.fault in
    cc

pub part_is_not_refused : (d : List ℕ) (g : Numbered) (e : List ℕ) → IsGraph g → PartIsNotRefused d g e
part_is_not_refused d g e graph loaded xs ys dx ey part has f (inl unread) =
    let both : ◌≡◌ {A = Result (List (List ℕ)) OpFault} (Ok ys) (Err unread.0) = sym ey ∙ unread.1 in
    cc
part_is_not_refused d g e graph loaded xs ys dx ey part has f (inr (zs, ez, refusal)) =
    let whole = read_once d xs loaded.0 dx loaded.1 in
    let same = read_once e ys zs ey ez in
    let one : HasPart loaded.0 zs = subst (λ (es : List (List ℕ)). HasPart loaded.0 es) same (subst (λ (es : List (List ℕ)). HasPart es ys) whole part) in
    let all : HasVertices g loaded.0 zs =
    subst (λ (es : List (List ℕ)). HasVertices g loaded.0 es) same (subst (λ (es : List (List ℕ)). HasVertices g es ys) whole has) in
    elim refusal [
      | inl row ↦ no_unread loaded.0 zs loaded.2.0 loaded.2.1 one f row
      | inr r ↦ not_refused d g graph loaded zs one all r.0 r.1 f r.2
    ]

pub order_is_not_refused : (d : List ℕ) (g : Numbered) (e : List ℕ) → IsGraph g → OrderIsNotRefused d g e
order_is_not_refused d g e graph loaded xs ys dx ey order last =
    let all : (x : List ℕ) → Contains xs x → Contains ys x = λ x c. Contains-permutation xs ys x order c in
    part_is_not_refused d g e graph loaded xs ys dx ey
    (record { among = λ y c. Contains-permutation ys xs y (IsPermutation-sym xs ys order) c; last = last })
    (λ v x entry there c same. all entry c)
