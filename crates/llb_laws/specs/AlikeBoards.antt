-- How vertices ended on two boards over one graph whose local trees differ only in contents.
use Rattle.std.specs.Prelude.{◌≡◌, ℕ, Bool, true, List, Some, slice_get}
use Rattle.llb_model.specs.Outcome.{Ending, is_plain}
use Rattle.llb_model.specs.State.{Settled}
use Rattle.llb_board.specs.BoardValue.{BoardValue}
use Rattle.llb_laws.specs.AlikeTrees.{IsKept, AreAlikeEndings}
use Rattle.llb_laws.specs.ContentLaws.{By, RelatesWritten, HaveAlikeSources, MakesNoDigest, AreExchanged}

-- two boards over one graph have settled vertex v, with the endings d and e, and no cache mount is at or before v
pub record AreSettled (b c : BoardValue) (v : ℕ) (d e : Ending) : Type 0 where
  pub graph : b.build.graph ≡ c.build.graph
  pub plain : is_plain b.build v ≡ true
  pub first : slice_get b.state.statuses v ≡ Some (Settled d)
  pub second : slice_get c.state.statuses v ≡ Some (Settled e)

-- for each relation that appending keeps: if `RelatesWritten` holds and sources at or before a vertex differ only in related contents, so do its two endings
abbrev pub SettleAlike : BoardValue → BoardValue → Type 0
SettleAlike b c = (test : List ℕ → List ℕ → Bool) → IsKept (By test) → (v : ℕ) (d e : Ending) → AreSettled b c v d e
    → RelatesWritten (By test) b.build.graph v → HaveAlikeSources (By test) b.build.graph v b.build.locals c.build.locals → AreAlikeEndings (By test) d e

-- v's endings on the two boards differ only by replaced pieces of contents, if the trees of sources at or before v do, and no digest is made at or before v
abbrev pub SettleExchanged : BoardValue → BoardValue → Type 0
SettleExchanged b c = (pairs : List (List ℕ × List ℕ)) (v : ℕ) (d e : Ending) → AreSettled b c v d e
    → MakesNoDigest b.build.graph v → HaveAlikeSources (AreExchanged pairs) b.build.graph v b.build.locals c.build.locals
    → AreAlikeEndings (AreExchanged pairs) d e
