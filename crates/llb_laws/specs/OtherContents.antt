-- One run on tokens serves each table of contents: what is asked of other contents, so that they may take the place of those for which the tokens stood.
use Rattle.std.specs.Prelude.{ℕ, List}
use Rattle.llb_loader.specs.Graph.{Numbered}
use Rattle.llb_loader.specs.LocalSources.{Local}
use Rattle.llb_model.specs.Caches.{Store}
use Rattle.llb_board.specs.BoardValue.{BoardValue}
use Rattle.llb_laws.specs.ContentLaws.{ExpandsTo, spelled}
use Rattle.llb_laws.specs.AlikeStates.{AreAlikeStores}
use Rattle.llb_laws.specs.TokenRuns.{HaveAlikeLocals, HaveAlikeRuns, HaveTokens, StandsForContents, WritesNoMarkAtAll}
use Rattle.llb_laws.specs.TokenLists.{Extends}

-- the trees of the local sources and the caches on the right are those on the left with each token replaced by the content that the table has for it. Nothing
-- is asked of what has to be given by value: what has no token is the same on both sides.
pub record AreExpanded (table : ℕ → List ℕ) (g : Numbered) (ls ms : List Local) (s t : Store) : Type 0 where
  pub sources : HaveAlikeLocals (ExpandsTo (spelled table)) g ls ms
  pub caches : AreAlikeStores (ExpandsTo (spelled table)) s t

-- local trees and caches that have tokens for contents by one table have them by any other table, for what they are if the tokens are replaced by that table
abbrev pub HaveTokensByEachTable : Numbered → Type 0
HaveTokensByEachTable g = (table other : ℕ → List ℕ) (ls ms ns : List Local) (s t u : Store) → HaveTokens table g ls ms s t → AreExpanded other g ls ns s u
    → HaveTokens other g ls ns s u

-- so each run on them differs, event by event, from the run on what they are by any other table only in that tokens are expanded by that table
abbrev pub RunsServeEachTable : Numbered → Type 0
RunsServeEachTable g = (table other : ℕ → List ℕ) (ls ms ns : List Local) (workers : ℕ) (s t u : Store) → WritesNoMarkAtAll g → HaveTokens table g ls ms s t
    → AreExpanded other g ls ns s u → HaveAlikeRuns (ExpandsTo (spelled other)) g ls ns workers s u

-- a board on local trees and caches that have tokens by one table stands, by any other table, for a board on what they are by that table
abbrev pub ServesEachTable : BoardValue → Type 0
ServesEachTable b = (table other : ℕ → List ℕ) (ms ns : List Local) (t u : Store) → WritesNoMarkAtAll b.build.graph
    → HaveTokens table b.build.graph b.build.locals ms b.opening.store t → AreExpanded other b.build.graph b.build.locals ns b.opening.store u
    → StandsForContents other b ns u

-- the trees of the local sources on the right are those on the left with each token replaced by the content of this list for it
abbrev pub AreSpelled : List (List ℕ) → Numbered → List Local → List Local → Type 0
AreSpelled contents g ls ms = (table : ℕ → List ℕ) → Extends table contents → HaveAlikeLocals (ExpandsTo (spelled table)) g ls ms
