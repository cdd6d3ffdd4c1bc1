-- Tokens by a list of contents: token n stands for content n of the list. A token with a number past the list stands for nothing: what is said here holds
-- whatever content a table has there.
use Rattle.std.specs.Prelude.{◌≡◌, ◌+◌, ◌≤◌, ◌<◌, ℕ, Bool, true, false, List, [], ◌++◌, Option, Some, None, drop, length, slice_get, slice_index_or}
use Rattle.llb_loader.specs.declared.graph.Vertex.{Vertex}
use Rattle.llb_loader.specs.Graph.{Numbered}
use Rattle.llb_loader.specs.LocalSources.{Local, local_name, tree_of_local}
use Rattle.llb_model.specs.TwoCacheModels.{store_of}
use Rattle.llb_model.specs.Caches.{Store}
use Rattle.llb_board.specs.BoardValue.{BoardValue, opened}
use Rattle.llb_laws.specs.declared.token_expansion.Reading.{Reading}
use Rattle.llb_laws.specs.AlikeTrees.{BothOptions, AreAlike}
use Rattle.llb_laws.specs.ContentLaws.{ExpandsTo, spelled, spelled_from, IsLiteral}
use Rattle.llb_laws.specs.TokenRuns.{HaveTokens, HaveAlikeRuns, StandsForContents, WritesNoMarkAtAll, with_locals}

-- the table has the contents of this list, by number
abbrev pub Extends : (ℕ → List ℕ) → List (List ℕ) → Type 0
Extends table contents = (n : ℕ) (content : List ℕ) → slice_get contents n ≡ Some content → table n ≡ content

-- content `b` is content `a` with each token replaced by the content that the list has for its number
abbrev pub IsSpelled : List (List ℕ) → List ℕ → List ℕ → Type 0
IsSpelled contents a b = (table : ℕ → List ℕ) → Extends table contents → spelled table a ≡ Some b

-- what remains of content `b`, from the place that a reading has come to, is what these bytes of the other content expand to; false if there is no reading
abbrev pub ReadsOn : List (List ℕ) → List ℕ → List ℕ → Option Reading → Type 0
ReadsOn contents b bytes None = ⊥
ReadsOn contents b bytes (Some r) = (table : ℕ → List ℕ) → Extends table contents → spelled_from table bytes r.left r.number ≡ Some (drop r.place b)

-- a reading that is possible: a token has four bytes of a number, so `left` is at most 4, and the number so far has the bytes before; the place is within `b`
pub record IsReading (b : List ℕ) (r : Reading) : Type 0 where
  pub left : r.left ≤ 4
  pub three : 1 ≤ r.left → r.number < 16_777_216
  pub two : 2 ≤ r.left → r.number < 65_536
  pub one : 3 ≤ r.left → r.number < 256
  pub none : 4 ≤ r.left → r.number ≡ 0
  pub place : r.place ≤ length b

-- this part is at this place of content `b`
abbrev pub IsAt : List ℕ → ℕ → List ℕ → Type 0
IsAt b place part = drop place b ≡ part ++ drop (place + length part) b

-- how a content stands for another one: by value, both are equal and without the byte 255; else the second is the first with each token replaced
abbrev pub StandsFor : List (List ℕ) → Bool → List ℕ → List ℕ → Type 0
StandsFor contents true = IsLiteral
StandsFor contents false = IsSpelled contents

-- if the vertex is a local source, it has trees in both lists that are equal except for contents, which R relates, or a tree in neither
abbrev pub SourceStands : (List ℕ → List ℕ → Type 0) → List Local → List Local → Vertex → Type 0
SourceStands R ls ms x = (name : List ℕ) → local_name x.op ≡ Some name → BothOptions (AreAlike R) (tree_of_local ls name) (tree_of_local ms name)

-- each local source stands for the one of the other list, by value if the vertex is marked
abbrev pub SourcesStand : List (List ℕ) → List Bool → Numbered → List Local → List Local → Type 0
SourcesStand contents marks g ls ms = (k : ℕ) (x : Vertex) → slice_get g.vertices k ≡ Some x
    → SourceStands (StandsFor contents (slice_index_or marks k false)) ls ms x

-- the local trees and caches on the left stand for those on the right (`HaveTokens`), for each table that has the contents of this list
abbrev pub HaveTokensOf : List (List ℕ) → Numbered → List Local → List Local → Store → Store → Type 0
HaveTokensOf contents g ls ms s t = (table : ℕ → List ℕ) → Extends table contents → HaveTokens table g ls ms s t

-- the board is opened on these local trees with tokens, without caches; and after any events, a run of the graph on them differs from a run on the others,
-- `ms`, only in that tokens are expanded
pub record OpensOnTokens (contents : List (List ℕ)) (g : Numbered) (ls ms : List Local) (workers : ℕ) (b : BoardValue) : Type 0 where
  pub opens : b ≡ opened (with_locals g ls) workers []
  pub tokens : HaveTokensOf contents g ls ms (store_of []) (store_of [])
  pub runs : (table : ℕ → List ℕ) → Extends table contents → HaveAlikeRuns (ExpandsTo (spelled table)) g ls ms workers (store_of []) (store_of [])

-- the graph writes no byte 255, and the first local trees stand for the others, without caches at the opening
abbrev pub MayStand : List (List ℕ) → Numbered → List Local → List Local → Type 0
MayStand contents g ls ms = WritesNoMarkAtAll g × HaveTokensOf contents g ls ms (store_of []) (store_of [])

-- if the board was opened on these local trees, without caches, it stands for a board on the others, `ms`, by each table that has the contents of the list
abbrev pub BoardStandsFor : List (List ℕ) → List Local → List Local → BoardValue → Type 0
BoardStandsFor contents ls ms b = ls ≡ b.build.locals → b.opening.store ≡ store_of [] → (table : ℕ → List ℕ) → Extends table contents
    → StandsForContents table b ms (store_of [])
