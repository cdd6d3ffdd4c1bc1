-- Rows, and the bytes of a definition, have at most one result: a graph or a refusal.
use Rattle.std.specs.Prelude.{◌≡◌, ℕ, List}
use Rattle.llb_loader.specs.declared.row.Row.{Row}
use Rattle.llb_loader.specs.declared.fault.LoadFault.{LoadFault}
use Rattle.llb_loader.specs.Graph.{Numbered}
use Rattle.llb_loader.specs.GraphOfRowsResult.{IsGraphOf, IsRefusalOf}
use Rattle.llb_loader.specs.LoadResult.{IsGraphIn, IsRefusalIn}

-- two graphs of these rows are equal, two refusals of these rows are equal, and these rows do not have both a graph and a refusal
pub record HasOneAnswer (rows : List Row) : Type 0 where
  pub graphs : (g h : Numbered) → IsGraphOf rows g → IsGraphOf rows h → g ≡ h
  pub refusals : (e f : LoadFault) → IsRefusalOf rows e → IsRefusalOf rows f → e ≡ f
  pub apart : (g : Numbered) (e : LoadFault) → IsGraphOf rows g → ¬ IsRefusalOf rows e

-- two graphs of these bytes are equal, two refusals of these bytes are equal, and these bytes do not have both a graph and a refusal
pub record HasOneAnswerIn (bytes : List ℕ) : Type 0 where
  pub graphs : (g h : Numbered) → IsGraphIn bytes g → IsGraphIn bytes h → g ≡ h
  pub refusals : (e f : LoadFault) → IsRefusalIn bytes e → IsRefusalIn bytes f → e ≡ f
  pub apart : (g : Numbered) (e : LoadFault) → IsGraphIn bytes g → ¬ IsRefusalIn bytes e
