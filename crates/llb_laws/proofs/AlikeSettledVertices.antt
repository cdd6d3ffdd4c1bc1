-- Vertices that two boards have settled, on alike local trees.
use Rattle.std.proofs.Common.{◌≡◌, ℕ, true, List, Some, sym, ap, ◌∙◌}
use Rattle.llb_loader.specs.Graph.{Numbered, IsGraph}
use Rattle.llb_model.specs.Outcome.{Ending, Ended, outcome, is_plain}
use Rattle.llb_model.specs.PlainVertices.{StandsByOutcomes}
use Rattle.llb_board.specs.BoardValue.{BoardValue}
use Rattle.llb_laws.specs.AlikeTrees.{BothOptions, AreAlikeOutcomes, AreAlikeEndings}
use Rattle.llb_laws.specs.ContentLaws.{By, HasAlikeOutcomes, AreExchanged}
use Rattle.llb_laws.specs.AlikeBoards.{AreSettled, SettleAlike, SettleExchanged}
use Rattle.llb_laws.proofs.AlikeValues.{carry_options}
use Rattle.llb_laws.proofs.ContentRelations.{hands_contents_on}
use Rattle.llb_laws.proofs.AnyNames.{hands_on}

module _ (b c : BoardValue) (graph : IsGraph b.build.graph) (stands : StandsByOutcomes b.build b.state) (also : StandsByOutcomes c.build c.state) where
  -- alike outcomes are the ends of what both have settled
  ended_alike : (R : List ℕ → List ℕ → Type 0) (v : ℕ) (d e : Ending) → AreSettled b c v d e
      → HasAlikeOutcomes R b.build.graph b.build.locals c.build.locals v → AreAlikeEndings R d e
  ended_alike R v d e settled alike =
      let plain : is_plain c.build v ≡ true = ap (λ (g : Numbered). is_plain (record { graph = g; locals = c.build.locals }) v)
      (sym settled.graph) ∙ settled.plain in
      let there : outcome (record { graph = b.build.graph; locals = c.build.locals }) v ≡ Some (Ended e) =
      ap (λ (g : Numbered). outcome (record { graph = g; locals = c.build.locals }) v) settled.graph ∙ also.settled v e plain settled.second in
      let ends : BothOptions (AreAlikeOutcomes R) (Some (Ended d)) (Some (Ended e)) =
      carry_options (AreAlikeOutcomes R) (Some (Ended d)) (outcome b.build v) (Some (Ended e))
      (outcome (record { graph = b.build.graph; locals = c.build.locals }) v)
      (sym (stands.settled v d settled.plain settled.first)) (sym there) alike in
      ends

  pub settle_alike : SettleAlike b c
  settle_alike test kept v d e settled own sources =
      ended_alike (By test) v d e settled (hands_on (By test) kept b.build.graph graph b.build.locals c.build.locals v own sources)

  pub settle_exchanged : SettleExchanged b c
  settle_exchanged pairs v d e settled none sources =
      ended_alike (AreExchanged pairs) v d e settled (hands_contents_on b.build.graph graph pairs b.build.locals c.build.locals v none sources)
