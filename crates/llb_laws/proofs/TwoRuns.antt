-- Two runs of one definition on the same local trees: the premises of the laws hold of them, and the laws' conclusions follow.
use Rattle.std.proofs.Common.{◌≡◌, ◌⊎◌, ℕ, zero, suc, ◌<◌, Bool, true, false, if◌then◌else◌, List, [], ◌∷◌, length, map, All, inl, inr}
use Rattle.std.proofs.Common.{Option, Some, None, Result, Ok, Err, option_map, refl, sym, ap, subst, ◌∙◌, arith, unwrap_or}
use Rattle.std.specs.Prelude.{slice_get}
use Rattle.std.specs.List.{Contains}
use Rattle.std.specs.List.Sorted.{IsPermutation}
use Rattle.std.proofs.lemmas.Bool.{cases_lt}
use Rattle.std.proofs.lemmas.Bool.Decides.{nat_tests}
use Rattle.std.proofs.lemmas.List.Sorted.{IsPermutation-refl}
use Rattle.llb_tree.specs.Tree.{TreeMap}
use Rattle.llb_ops.specs.declared.op.Op.{Op}
use Rattle.llb_loader.specs.declared.graph.Edge.{Edge}
use Rattle.llb_loader.specs.declared.graph.Vertex.{Vertex}
use Rattle.llb_loader.specs.Graph.{Numbered}
use Rattle.llb_loader.specs.LoadResult.{IsGraphIn}
use Rattle.llb_loader.specs.UniqueResult.{HasOneAnswerIn}
use Rattle.llb_loader.specs.LocalSources.{Local, local_name, tree_of_local}
use Rattle.llb_events.specs.declared.event.Event.{Event}
use Rattle.llb_events.specs.declared.event.Event.TheVariants as event
use Rattle.llb_model.specs.Program.{Build}
use Rattle.llb_model.specs.Outcome.{Outcome, outcome, output_in, ending_in, is_plain}
use Rattle.llb_model.specs.State.{State, Settled}
use Rattle.llb_model.specs.Table.{Reply, claim_grant, step_grant, settle_grant, cancel_grant}
use Rattle.llb_model.proofs.Lists.{inside, get_within}
use Rattle.llb_board.specs.BoardValue.{BoardValue, opened, recorded}
use Rattle.llb_board.specs.Laws.{SettledArePlain}
use Rattle.llb_board.specs.UndoableEvents.{told_as}
use Rattle.llb_board.specs.declared.fault.WalkFault.{WalkFault}
use Rattle.llb_laws.specs.AlikeTrees.{BothLists}
use Rattle.llb_laws.specs.BoardOutcomes.{KeptOutputsStandIn, MatchedSettleAlike, PartSettlesAlike, RenamedSettleAlike, RewritingSettlesAlike, SettleAlike}
use Rattle.llb_laws.specs.BoardOutcomes.{output_on}
use Rattle.llb_laws.specs.DefinitionParts.{OrderIsNotRefused, PartIsNotRefused}
use Rattle.llb_laws.specs.Definitions.{EndInOneEntry, IsKindRewritten, IsOpRewritten, OrderSharesResult, ShareResults, last_entry}
use Rattle.llb_laws.specs.Digests.{DoNotCollide, LoadWithoutCollision, PartsDoNotCollide, ShareOutcomes}
use Rattle.llb_laws.specs.Jobs.{ShareJobs, WorkedElsewhereLands}
use Rattle.llb_laws.specs.Keys.{AreKept, HaveOneKey, IsKeyOf, IsKept, KeptOutputsServe, KeysShareOutcomes, ResultKey}
use Rattle.llb_laws.specs.Matchings.{By, DoAlike, EdgesMatch, IsMatched, output_at}
use Rattle.llb_laws.specs.RenamedAndKeptSources.{Copied, HaveOrigins, IsEdgeFrom, IsRenamed, KeptStandIn, RenamedEndAlike}
use Rattle.llb_laws.specs.TwoRuns.{AgreeAsBoards, AgreeAsGraphs, AgreeByLaws, IsRunOf, MeetBuilds, MeetGraphs, MeetOutputs}
use Rattle.llb_laws.specs.TwoRuns.{after_each, board_after, board_by, plain_outputs, same_number}
use Rattle.llb_laws.proofs.Definitions.{part_of_itself}
use Rattle.llb_laws.proofs.VertexEntries.{ok_inside}
use Rattle.llb_laws.proofs.EntryInclusion.{read_once}
use Rattle.llb_laws.proofs.Matches.{none_past}
use Rattle.llb_laws.proofs.SettledVertexOutcomes.{output_is}

-- ---- an event keeps the build

recorded_build : {F : Type 0} (b : BoardValue) (e : Event) (fault : F → WalkFault) (r : Result (State × Reply) F)
    → (board_by b (told_as fault (recorded b e r))).build ≡ b.build
recorded_build b e fault (Ok (s, r)) = refl
recorded_build b e fault (Err f) = refl

after_keeps : (b : BoardValue) (e : Event) → (board_after b e).build ≡ b.build
after_keeps b (event.Claim w v) = recorded_build b (event.Claim w v) _ (claim_grant b.build b.state w v)
after_keeps b (event.Step w) = recorded_build b (event.Step w) _ (step_grant b.build b.state w)
after_keeps b (event.Settle w) = recorded_build b (event.Settle w) _ (settle_grant b.build b.state w)
after_keeps b (event.Cancel w) = recorded_build b (event.Cancel w) _ (cancel_grant b.state w)

-- a list of events keeps the build of the board
pub each_keeps : (b : BoardValue) (es : List Event) → (after_each b es).build ≡ b.build
each_keeps b [] = refl
each_keeps b (e ∷ es) = each_keeps (board_after b e) es ∙ after_keeps b e

-- ---- items of lists

-- what holds of all items holds of an item
item_of : {A : Type 0} (P : A → Type 0) (xs : List A) (x : A) → All P xs → Contains xs x → P x
item_of P xs x all c = subst P c.2 (all c.0 x c.1)

-- an item of a list is, mapped, among the mapped items
mapped_among : {A B : Type 0} (f : A → B) (xs : List A) (i : ℕ) (x : A) → slice_get xs i ≡ Some x → Contains (map f xs) (f x)
mapped_among f [] i x e = absurd cc
mapped_among f (y ∷ ys) zero x e = let same : y ≡ x = cc in (zero, omega arith, ap f same)
mapped_among f (y ∷ ys) (suc i) x e = let c = mapped_among f ys i x e in (suc c.0, omega (arith, c.1), c.2)

-- ---- keys

module _ (digest_of : TreeMap → List ℕ) (b : Build) where
  -- a name with the digest of the tree that it has
  abbrev named : List ℕ → List ℕ × Option (List ℕ)
  named name = (name, option_map digest_of (tree_of_local b.locals name))

  abbrev source_of : Vertex → List ℕ × Option (List ℕ)
  source_of x = named (unwrap_or (local_name x.op) [])

  abbrev IsRight : List ℕ × Option (List ℕ) → Type 0
  IsRight p = p.1 ≡ option_map digest_of (tree_of_local b.locals p.0)

  all_right : (xs : List Vertex) → All IsRight (map source_of xs)
  all_right [] k d low = absurd (omega (arith, low))
  all_right (x ∷ xs) zero d low = refl
  all_right (x ∷ xs) (suc k) d low = all_right xs k d (omega (arith, low))

  key_of : (v : ℕ) → v < length b.graph.vertices → (key : ResultKey) × IsKeyOf digest_of b.graph b.locals v key
  key_of v low =
      let x = get_within b.graph.vertices v low in (
        record { digest = x.0.digest; sources = map source_of b.graph.vertices },
        record {
          digest = record { vertex = x.0; there = x.1; same = refl };
          whole = λ name s.
              subst (λ (n : List ℕ × Option (List ℕ)). Contains (map source_of b.graph.vertices) n)
              (ap (λ (o : Option (List ℕ)). named (unwrap_or o [])) s.named)
              (mapped_among source_of b.graph.vertices s.number s.source s.there);
          each = λ name tree c. item_of IsRight (map source_of b.graph.vertices) (name, tree) (all_right b.graph.vertices) c;
        },
      )

  one_key : (v : ℕ) → v < length b.graph.vertices → HaveOneKey digest_of b v b v
  one_key v low = let k = key_of v low in record { key = k.0; first = k.1; second = k.1 }

-- ---- a vertex and itself

self_kind : (p : Op) → IsKindRewritten (λ name. name) p p
self_kind p = by_kind (local_name p) refl
  where
    by_kind : (o : Option (List ℕ)) → local_name p ≡ o → IsKindRewritten (λ name. name) p p
    by_kind None is = inl (is, refl)
    by_kind (Some name) is = inr (name, is, is)

self_renamed : (xs : List Vertex) → BothLists (IsRenamed (λ name. name)) xs xs
self_renamed [] = tt
self_renamed (x ∷ xs) = (record { inputs = refl; op = self_kind x.op }, self_renamed xs)

-- a vertex has its own number
self_number : (v : ℕ) → same_number v v ≡ true
self_number v = grind (arith, nat_tests)

self_match : (b : Build) (es : List Edge) → BothLists (EdgesMatch b b (By same_number)) es es
self_match b [] = tt
self_match b (e ∷ es) = (inr (self_number e.vertex, refl), self_match b es)

self_from : (es : List Edge) → BothLists (λ e f. IsEdgeFrom (Copied f.vertex) e f) es es
self_from [] = tt
self_from (e ∷ es) = ((refl, refl), self_from es)

self_alike : (b : Build) (v : ℕ) → v < length b.graph.vertices → DoAlike b b (By same_number) v v
self_alike b v low =
    let x = get_within b.graph.vertices v low in
    record {
      first = x.0;
      second = x.0;
      first_there = x.1;
      second_there = x.1;
      same = record { program = refl; work = λ trees. refl };
      inputs = self_match b x.0.inputs;
    }

self_matched : (b : Build) → IsMatched b b (By same_number)
self_matched b v w is =
    let same : v ≡ w = grind (arith, nat_tests, is) in
    subst (λ (u : ℕ). (outcome b v ≡ outcome b u) ⊎ DoAlike b b (By same_number) v u) same
    (elim (cases_lt v (length b.graph.vertices)) [ inl low ↦ inr (self_alike b v low) | inr past ↦ inl refl ])

pub self_copied : (outputs : Edge → Option TreeMap) (b : Build) → HaveOrigins outputs b b Copied
self_copied outputs b w y there =
    record { original = y; there = there; kind = refl; tree = λ name named. refl; inputs = self_from y.inputs }

-- ---- the premises

pub meet_graphs : (d : List ℕ) (g : Numbered) → IsGraphIn d g → DoNotCollide d d → MeetGraphs d g g
meet_graphs d g loaded apart = record {
  apart = record { first = loaded; second = loaded; apart = apart };
  ends = record { first = loaded; second = loaded; last = λ xs ys dx dy. ap last_entry (read_once d xs ys dx dy) };
  part = part_of_itself d;
  order = λ xs ys dx dy. subst (λ (zs : List (List ℕ)). IsPermutation xs zs) (read_once d xs ys dx dy) (IsPermutation-refl xs);
  rewritten = λ xs ys dx dy.
      record {
        among = λ x c. subst (λ (zs : List (List ℕ)). Contains zs x) (read_once d xs ys dx dy) c;
        last = ap last_entry (read_once d xs ys dx dy);
        ops = λ x p q c reads also.
            subst (λ (o : Op). IsOpRewritten (λ entry. entry) (λ name. name) xs p o) (ok_inside p q (sym reads ∙ also)) (record {
              op = self_kind p;
              as_many = refl;
              inputs = λ i low. record { index = refl; digest = λ y among same. same };
            });
      };
  renamed = self_renamed g.vertices;
}

pub meet_builds : (b : Build) → MeetBuilds b b
meet_builds b = record {
  digests = λ v low.
      let x = get_within b.graph.vertices v low in
      record { first = x.0; second = x.0; first_there = x.1; second_there = x.1; same = refl };
  sources = λ v name s. refl;
  keys = λ digest_of v low. one_key digest_of b v low;
  trees = λ digest_of name t u at there same. inside (sym at ∙ there);
  matched = self_matched b;
  copies = self_copied (output_at b) b;
  under = λ v x name there named. refl;
}

-- a vertex with an output on a board is there
output_within : (b : BoardValue) → SettledArePlain b → (e : Edge) (tree : TreeMap) → is_plain b.build e.vertex ≡ true → output_on b e ≡ Some tree
    → e.vertex < length b.build.graph.vertices
output_within b settled e tree plain is =
    elim (cases_lt e.vertex (length b.build.graph.vertices)) [
      | inl low ↦ low
      | inr past ↦ absurd (
          let none : output_at b.build e ≡ None = ap (λ (o : Option Outcome). output_in (ending_in o) e.index) (none_past b.build e.vertex past) in
          let some : output_at b.build e ≡ Some tree = output_is b settled e tree plain is in
          cc
          )
    ]

self_kept : (b : BoardValue) → SettledArePlain b → (digest_of : TreeMap → List ℕ) → AreKept digest_of b b.build (plain_outputs b)
self_kept b settled digest_of e tree is = by_plain (is_plain b.build e.vertex) refl is
  where
    by_plain : (k : Bool) → is_plain b.build e.vertex ≡ k → (if k then output_on b e else None) ≡ Some tree → IsKept digest_of b b.build e tree
    by_plain true plain at = record {
      vertex = e.vertex;
      keys = one_key digest_of b.build e.vertex (output_within b settled e tree plain at);
      plain = plain;
      output = at;
    }
    by_plain false plain at = absurd cc

pub meet_outputs : (b : BoardValue) → SettledArePlain b → MeetOutputs b b.build
meet_outputs b settled = record {
  kept = self_kept b settled;
  copies = self_copied (output_on b) b.build;
  plain = λ w place low is. absurd cc;
}

-- ---- the conclusions

-- what the laws of two graphs and a board say of the graphs g and h of one definition
pub record GraphLaws (d : List ℕ) (g h : Numbered) (b o : BoardValue) : Type 0 where
  pub collide : PartsDoNotCollide d g
  pub part : PartIsNotRefused d g d
  pub order : OrderIsNotRefused d g d
  pub outcomes : LoadWithoutCollision d g d h → ShareOutcomes g h
  pub jobs : LoadWithoutCollision d g d h → ShareJobs g h
  pub keys : LoadWithoutCollision d g d h → KeysShareOutcomes g h
  pub last : LoadWithoutCollision d g d h → EndInOneEntry d d → ShareResults g h
  pub ordered : OrderSharesResult d g d h
  pub renamed : RenamedEndAlike g h
  pub stands : KeptStandIn g h
  pub lands : LoadWithoutCollision d g d o.build.graph → WorkedElsewhereLands g o
  pub serve : LoadWithoutCollision d b.build.graph d h → KeptOutputsServe b h h

-- what the laws of two boards say
pub record BoardLaws (d : List ℕ) (b o : BoardValue) : Type 0 where
  pub plain : SettledArePlain b
  pub settle : LoadWithoutCollision d b.build.graph d o.build.graph → SettleAlike b o
  pub matched : MatchedSettleAlike b o
  pub renamed : RenamedSettleAlike b o
  pub kept : KeptOutputsStandIn b o
  pub part : PartSettlesAlike d b d o
  pub rewritten : RewritingSettlesAlike d b d o

module _ (d : List ℕ) (b o : BoardValue) (loaded : IsGraphIn d b.build.graph) (same : b.build ≡ o.build)
    (laws : GraphLaws d b.build.graph o.build.graph b o) (more : BoardLaws d b o) where
  graphs : MeetGraphs d b.build.graph o.build.graph
  graphs =
      subst (λ (k : Build). MeetGraphs d b.build.graph k.graph) same
      (meet_graphs d b.build.graph loaded (laws.collide loaded d d (part_of_itself d) (part_of_itself d)))

  builds : MeetBuilds b.build o.build
  builds = subst (λ (k : Build). MeetBuilds b.build k) same (meet_builds b.build)

  outputs : MeetOutputs b o.build
  outputs = subst (λ (k : Build). MeetOutputs b k) same (meet_outputs b more.plain)

  as_graphs : AgreeAsGraphs d b.build o.build
  as_graphs = record {
    outcomes = λ v low. laws.outcomes graphs.apart b.build.locals o.build.locals v v (builds.digests v low) (builds.sources v);
    works = λ digest_of v low.
        laws.keys graphs.apart digest_of b.build.locals o.build.locals v v (builds.keys digest_of v low) (builds.trees digest_of);
    jobs = λ v a w low. laws.jobs graphs.apart b.build.locals o.build.locals v v a w (builds.digests v low) (builds.sources v);
    by_name = λ v. laws.renamed (λ name. name) b.build.locals o.build.locals graphs.renamed builds.under v;
    by_origin = λ v low.
        laws.stands b.build.locals o.build.locals Copied builds.copies v v (subst (λ (k : Build). v < length k.graph.vertices) same low) refl;
    by_last = laws.last graphs.apart graphs.ends.last b.build.locals o.build.locals (builds.sources b.build.graph.result.vertex);
    by_order = laws.ordered graphs.ends graphs.order b.build.locals o.build.locals (builds.sources b.build.graph.result.vertex);
    loads =
        laws.part loaded loaded.0 loaded.0 loaded.1 loaded.1 (record { among = λ x c. c; last = refl })
        (λ v x entry there among digest. among);
    loads_too = laws.order loaded loaded.0 loaded.0 loaded.1 loaded.1 (IsPermutation-refl loaded.0) refl;
  }

  as_boards : AgreeAsBoards b o
  as_boards = record {
    by_digest = λ v low plain s t at there. more.settle graphs.apart v v (builds.digests v low) (builds.sources v) plain s t at there;
    by_matching = λ v plain s t at there.
        more.matched same_number builds.matched v v (self_number v) plain (subst (λ (k : Build). is_plain k v ≡ true) same plain) s t at there;
    by_name = λ v. more.renamed (λ name. name) graphs.renamed builds.under v;
    by_origin = λ v low.
        more.kept Copied outputs.copies outputs.plain v v (subst (λ (k : Build). v < length k.graph.vertices) same low) refl;
    by_part = λ plain s t at there.
        (more.part graphs.ends graphs.part (builds.sources b.build.graph.result.vertex) plain s t at
        (subst (λ (k : Build). slice_get o.state.statuses k.graph.result.vertex ≡ Some (Settled t)) same there)).0;
    by_entry = (more.rewritten loaded graphs.apart.second (λ entry. entry) (λ name. name) graphs.rewritten builds.under).0;
    lands = laws.lands graphs.apart;
    serve = laws.serve graphs.apart;
  }

  pub agree_by_laws : AgreeByLaws d b o
  agree_by_laws = record { graphs = graphs; builds = builds; outputs = outputs; agree = as_graphs; ends = as_boards }

-- ---- two runs

abbrev on : List Local → Numbered → Build
on ls g = record { graph = g; locals = ls }

-- a run keeps the build with which its board was opened
built : (d : List ℕ) (ls : List Local) (n : ℕ) (es : List Event) (b : BoardValue) (r : IsRunOf d ls n es b) → b.build ≡ on ls r.graph
built d ls n es b r = ap (λ (x : BoardValue). x.build) r.ran ∙ each_keeps (opened (on ls r.graph) n []) es

-- boards after runs of one definition have one build
pub one_build : (d : List ℕ) (ls : List Local) (n : ℕ) (es fs : List Event) (b o : BoardValue) → HasOneAnswerIn d → IsRunOf d ls n es b → IsRunOf d ls n fs o
    → b.build ≡ o.build
one_build d ls n es fs b o one first second =
    built d ls n es b first ∙ ap (on ls) (one.graphs first.graph second.graph first.loaded second.loaded) ∙ sym (built d ls n fs o second)

-- the definition of a run is loaded as its board's graph
pub loaded_by : (d : List ℕ) (ls : List Local) (n : ℕ) (es : List Event) (b : BoardValue) → IsRunOf d ls n es b → IsGraphIn d b.build.graph
loaded_by d ls n es b r =
    subst (λ (k : Build). IsGraphIn d k.graph) (sym (built d ls n es b r)) r.loaded
