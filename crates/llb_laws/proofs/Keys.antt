-- Vertices with one key have one outcome, and outputs that a board has kept under a key are those of the plain outcomes.
use Rattle.std.proofs.Common.{◌≡◌, ℕ, List, Option, Some, None, option_map, refl, sym, ap, ◌∙◌}
use Rattle.llb_tree.specs.Tree.{TreeMap}
use Rattle.llb_loader.specs.declared.graph.Edge.{Edge}
use Rattle.llb_loader.specs.Graph.{Numbered, IsGraph}
use Rattle.llb_loader.specs.LocalSources.{tree_of_local}
use Rattle.llb_model.specs.Program.{Build}
use Rattle.llb_model.specs.Outcome.{Outcome, ending_in, output_in}
use Rattle.llb_model.proofs.ConstructorEqualities.{none_some}
use Rattle.llb_model.proofs.Lists.{inside, some_of}
use Rattle.llb_board.specs.BoardValue.{BoardValue}
use Rattle.llb_board.specs.Laws.{SettledArePlain}
use Rattle.llb_laws.specs.Digests.{LoadWithoutCollision, HaveSameSources, HaveOneDigest}
use Rattle.llb_laws.specs.Matchings.{output_at}
use Rattle.llb_laws.specs.Keys.{HaveOneKey, TreesDoNotCollide, KeysShareOutcomes, IsKept, KeptOutputsServe}
use Rattle.llb_laws.proofs.Digests.{share_outcomes}
use Rattle.llb_laws.proofs.CopyMatchings.{origins_by, copied_alike}
use Rattle.llb_laws.proofs.SettledVertexOutcomes.{output_is}

module _ (digest_of : TreeMap → List ℕ) (b c : Build) (apart : TreesDoNotCollide digest_of b.locals c.locals) (v w : ℕ)
    (one : HaveOneKey digest_of b v c w) where
  same_tree : (name : List ℕ) (o p : Option TreeMap) → tree_of_local b.locals name ≡ o → tree_of_local c.locals name ≡ p
      → option_map digest_of o ≡ option_map digest_of p → o ≡ p
  same_tree name None None at there same = refl
  same_tree name (Some t) (Some u) at there same = ap some_of (apart name t u at there (inside same))
  same_tree name None (Some u) at there same = absurd (none_some same)
  same_tree name (Some t) None at there same = absurd (none_some (sym same))

  one_digest : HaveOneDigest b.graph v c.graph w
  one_digest = record {
    first = one.first.digest.vertex;
    second = one.second.digest.vertex;
    first_there = one.first.digest.there;
    second_there = one.second.digest.there;
    same = one.first.digest.same ∙ sym one.second.digest.same;
  }

  one_list : HaveSameSources b.graph v b.locals c.locals
  one_list name source =
      same_tree name (tree_of_local b.locals name) (tree_of_local c.locals name) refl refl
      (one.second.each name (option_map digest_of (tree_of_local b.locals name)) (one.first.whole name source))

-- the law of keys
pub keys_share_outcomes : (d e : List ℕ) (g h : Numbered) → IsGraph g → IsGraph h → LoadWithoutCollision d g e h → KeysShareOutcomes g h
keys_share_outcomes d e g h graph other loaded digest_of ls ms v w one apart =
    let b : Build = record { graph = g; locals = ls } in
    let c : Build = record { graph = h; locals = ms } in
    let digests = one_digest digest_of b c apart v w one in
    let sources = one_list digest_of b c apart v w one in
    record { digests = digests; sources = sources; outcome = share_outcomes d e g h graph other loaded ls ms v w digests sources }

-- the law of kept outputs
pub kept_outputs_serve : (d e : List ℕ) (b : BoardValue) (h k : Numbered) → IsGraph b.build.graph → IsGraph h → IsGraph k → SettledArePlain b
    → LoadWithoutCollision d b.build.graph e h → KeptOutputsServe b h k
kept_outputs_serve d e b h k graph other last settled loaded digest_of ms ns outputs origin apart kept have v w low is =
    copied_alike c (record { graph = k; locals = ns }) other last origin
    (origins_by outputs (output_at c) c (record { graph = k; locals = ns }) origin (λ u e tree below from at. served e tree (kept e tree at)) have)
    v w low is
  where
    c : Build
    c = record { graph = h; locals = ms }

    served : (f : Edge) (tree : TreeMap) → IsKept digest_of b c f tree → output_at c f ≡ Some tree
    served f tree one =
        let work = keys_share_outcomes d e b.build.graph h graph other loaded digest_of b.build.locals ms one.vertex f.vertex one.keys apart in
        ap (λ (o : Option Outcome). output_in (ending_in o) f.index) (sym work.outcome.same)
        ∙ output_is b settled (record { vertex = one.vertex; index = f.index }) tree one.plain one.output
