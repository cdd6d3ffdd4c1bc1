-- Vertices with one digest, that a matching relates, or that differ by names of sources, ended alike where two boards have settled them; and outputs of a board
-- are those of plain outcomes.
use Rattle.std.proofs.Common.{◌≡◌, ℕ, List, Option, Some, None, true, refl, sym, ap, ◌∙◌}
use Rattle.std.specs.Prelude.{slice_get}
use Rattle.llb_tree.specs.Tree.{TreeMap}
use Rattle.llb_loader.specs.declared.graph.Edge.{Edge}
use Rattle.llb_loader.specs.Graph.{IsGraph}
use Rattle.llb_model.specs.Outcome.{Ending, Ended, Outcome, ending_in, outcome, output_in, is_plain}
use Rattle.llb_model.specs.State.{Status, Waiting, Running, Settled, ending_of}
use Rattle.llb_model.proofs.ConstructorEqualities.{none_some}
use Rattle.llb_model.proofs.Lists.{inside}
use Rattle.llb_board.specs.BoardValue.{BoardValue}
use Rattle.llb_board.specs.Laws.{SettledArePlain}
use Rattle.llb_laws.specs.Digests.{LoadWithoutCollision}
use Rattle.llb_laws.specs.Matchings.{output_at, By}
use Rattle.llb_laws.specs.BoardOutcomes.{SettleAlike, MatchedSettleAlike, output_on, EndAlike, KeptOutputsStandIn, RenamedSettleAlike, RewritingSettlesAlike}
use Rattle.llb_laws.specs.BoardOutcomes.{PartSettlesAlike}
use Rattle.llb_laws.proofs.Matches.{matched_alike}
use Rattle.llb_laws.proofs.CopyMatchings.{origins_by, copied_alike, renamed_end_alike}
use Rattle.llb_laws.proofs.Digests.{share_outcomes}
use Rattle.llb_laws.proofs.Definitions.{part_apart, part_shares_result}
use Rattle.llb_laws.proofs.RewrittenMatchings.{rewriting_shares_result}

same_ending : (s t : Ending) → ◌≡◌ {A = Outcome} (Ended s) (Ended t) → s ≡ t
same_ending s t e = cc

pub settle_alike : (d e : List ℕ) (b c : BoardValue) → IsGraph b.build.graph → IsGraph c.build.graph → SettledArePlain b → SettledArePlain c
    → LoadWithoutCollision d b.build.graph e c.build.graph → SettleAlike b c
settle_alike d e b c graph other settled also loaded v w digests sources plain s t at there =
    let one = share_outcomes d e b.build.graph c.build.graph graph other loaded b.build.locals c.build.locals v w digests sources in
    same_ending s t (inside (sym (settled v s plain at) ∙ one.same ∙ also w t (sym one.plain ∙ plain) there))

pub matched_settle_alike : (b c : BoardValue) → IsGraph b.build.graph → IsGraph c.build.graph → SettledArePlain b → SettledArePlain c → MatchedSettleAlike b c
matched_settle_alike b c graph other settled also test matched v w is plain far s t at there =
    same_ending s t (inside (sym (settled v s plain at) ∙ matched_alike b.build c.build (By test) graph other matched v w is ∙ also w t far there))

-- vertices with the same plain outcome end alike
end_alike : (b c : BoardValue) → SettledArePlain b → SettledArePlain c → (v w : ℕ) → outcome b.build v ≡ outcome c.build w → EndAlike b c v w
end_alike b c settled also v w same =
    record {
      outcomes = same;
      endings = λ first second s t at there. same_ending s t (inside (sym (settled v s first at) ∙ same ∙ also w t second there));
    }

pub renamed_settle_alike : (b c : BoardValue) → IsGraph b.build.graph → IsGraph c.build.graph → SettledArePlain b → SettledArePlain c → RenamedSettleAlike b c
renamed_settle_alike b c graph other settled also rename both trees v =
    end_alike b c settled also v v (renamed_end_alike b.build.graph c.build.graph graph other rename b.build.locals c.build.locals both trees v)

pub rewriting_settles_alike : (d e : List ℕ) (b c : BoardValue) → IsGraph b.build.graph → IsGraph c.build.graph → SettledArePlain b → SettledArePlain c
    → RewritingSettlesAlike d b e c
rewriting_settles_alike d e b c graph other settled also loaded second rewrite rename rewritten trees =
    let r = rewriting_shares_result d e b.build.graph c.build.graph graph other loaded second rewrite rename rewritten b.build.locals c.build.locals trees in
    (end_alike b c settled also b.build.graph.result.vertex c.build.graph.result.vertex r.same.outcome, r.same.index)

-- ---- outputs of a board

module _ (b : BoardValue) (settled : SettledArePlain b) where
  -- an output that the board has is that of the plain outcome
  pub output_is : (e : Edge) (tree : TreeMap) → is_plain b.build e.vertex ≡ true → output_on b e ≡ Some tree → output_at b.build e ≡ Some tree
  output_is e tree plain is = by_status (slice_get b.state.statuses e.vertex) refl is
    where
      by_status : (o : Option Status) → slice_get b.state.statuses e.vertex ≡ o → output_in (ending_of o) e.index ≡ Some tree
          → output_at b.build e ≡ Some tree
      by_status (Some (Settled s)) at h = ap (λ (o : Option Outcome). output_in (ending_in o) e.index) (settled e.vertex s plain at) ∙ h
      by_status (Some (Running w)) at h = absurd (none_some h)
      by_status (Some Waiting) at h = absurd (none_some h)
      by_status None at h = absurd (none_some h)

pub kept_outputs_stand_in : (b c : BoardValue) → IsGraph b.build.graph → IsGraph c.build.graph → SettledArePlain b → SettledArePlain c
    → KeptOutputsStandIn b c
kept_outputs_stand_in b c graph other settled also origin have plain v w low is =
    let origins = origins_by (output_on b) (output_at b.build) b.build c.build origin
    (λ u kept tree below from at. output_is b settled kept tree (plain u kept below from) at) have in
    end_alike b c settled also v w (copied_alike b.build c.build graph other origin origins v w low is)

-- the results of a definition and of a part of it
pub part_settles_alike : (d e : List ℕ) (b c : BoardValue) → IsGraph b.build.graph → IsGraph c.build.graph → SettledArePlain b → SettledArePlain c
    → PartSettlesAlike d b e c
part_settles_alike d e b c graph other settled also to part sources plain s t at there =
    let r = part_shares_result d e b.build.graph c.build.graph graph other to part b.build.locals c.build.locals sources in
    let loaded = part_apart d e b.build.graph c.build.graph to part in (
      settle_alike d e b c graph other settled also loaded b.build.graph.result.vertex c.build.graph.result.vertex r.digests sources plain s t at there,
      r.same.index,
    )
