-- One run on tokens serves each table: what tokens stand for by one table shows what has none, and that stays by any other table.
use Rattle.std.proofs.Common.{◌≡◌, ℕ, ◌↔◌, List, [], Option, Some, None, sym, subst, ◌∙◌}
use Rattle.std.specs.Prelude.{slice_get}
use Rattle.std.specs.FinMap as finite
use Rattle.llb_tree.specs.Tree.{TreeMap, Entry, Dir, File}
use Rattle.llb_loader.specs.declared.graph.Vertex.{Vertex}
use Rattle.llb_loader.specs.Graph.{Numbered, IsGraph}
use Rattle.llb_loader.specs.LocalSources.{Local, tree_of_local}
use Rattle.llb_model.specs.TwoCacheModels.{store_of}
use Rattle.llb_model.specs.Caches.{Store, content}
use Rattle.llb_board.specs.BoardValue.{BoardValue, Replays}
use Rattle.llb_laws.specs.AlikeTrees.{BothOptions, AreLike, AreAlike}
use Rattle.llb_laws.specs.AlikeStates.{AreAlikeStores}
use Rattle.llb_laws.specs.ContentLaws.{ExpandsTo, spelled, IsLiteral}
use Rattle.llb_laws.specs.TokenRuns.{HaveAlikeLocals, HaveTokens, WritesNoMarkAtAll}
use Rattle.llb_laws.specs.TokenLists.{BoardStandsFor, IsSpelled, MayStand, SourceStands}
use Rattle.llb_laws.specs.OtherContents.{AreSpelled, HaveTokensByEachTable, RunsServeEachTable, ServesEachTable}
use Rattle.llb_laws.proofs.ContentsByValue.{weaker_option, weaker_like}
use Rattle.llb_laws.proofs.Tokens.{unmarked}
use Rattle.llb_laws.proofs.AlikeRuns.{board_stands, hands_run_tokens_on}
use Rattle.llb_laws.proofs.AlikeStateWrites.{none_alike}
use Rattle.llb_laws.proofs.TokenTrees.{spelled_option, table_extends, table_of}

-- ---- what has no token by one table is the same by any other

module _ (other : ℕ → List ℕ) where
  literal_content : (a b c : List ℕ) → IsLiteral a b → ExpandsTo (spelled other) a c → IsLiteral a c
  literal_content a b c is by =
      let same : ◌≡◌ {A = Option (List ℕ)} (Some a) (Some c) = sym (unmarked other a is.plain) ∙ by in
      record { same = cc; plain = is.plain }

  literal_entry : (o p q : Option Entry) → BothOptions (AreLike IsLiteral) o p → BothOptions (AreLike (ExpandsTo (spelled other))) o q
      → BothOptions (AreLike IsLiteral) o q
  literal_entry None None None h k = tt
  literal_entry (Some (Dir m)) (Some (Dir n)) (Some (Dir l)) h k = k
  literal_entry (Some (File m a)) (Some (File n b)) (Some (File l c)) h k = (k.0, literal_content a b c h.1 k.1)
  literal_entry None (Some e) q h k = absurd h
  literal_entry None None (Some e) h k = absurd k
  literal_entry (Some e) None q h k = absurd h
  literal_entry (Some e) (Some f) None h k = absurd k
  literal_entry (Some (Dir m)) (Some (File n b)) (Some e) h k = absurd h
  literal_entry (Some (File m a)) (Some (Dir n)) (Some e) h k = absurd h
  literal_entry (Some (Dir m)) (Some (Dir n)) (Some (File l c)) h k = absurd k
  literal_entry (Some (File m a)) (Some (File n b)) (Some (Dir l)) h k = absurd k

  literal_tree : (o p q : Option TreeMap) → BothOptions (AreAlike IsLiteral) o p → BothOptions (AreAlike (ExpandsTo (spelled other))) o q
      → BothOptions (AreAlike IsLiteral) o q
  literal_tree None None None h k = tt
  literal_tree (Some t) (Some u) (Some w) h k = λ path. literal_entry (finite.get t path) (finite.get u path) (finite.get w path) (h path) (k path)
  literal_tree None (Some u) q h k = absurd h
  literal_tree None None (Some w) h k = absurd k
  literal_tree (Some t) None q h k = absurd h
  literal_tree (Some t) (Some u) None h k = absurd k

-- ---- the laws

pub tokens_by_each_table : (g : Numbered) → HaveTokensByEachTable g
tokens_by_each_table g table other ls ms ns s t u tokens expanded = record {
  sources = expanded.sources;
  values = λ k x name value there named. literal_tree other (tree_of_local ls name) (tree_of_local ms name) (tree_of_local ns name)
      (tokens.values k x name value there named) (expanded.sources k x name there named);
  caches = expanded.caches;
  literal = λ some p. literal_tree other (content s p) (content t p) (content u p) (tokens.literal some p) (expanded.caches p);
  local_names = tokens.local_names;
  cache_names = tokens.cache_names;
}

pub runs_serve : (g : Numbered) → IsGraph g → RunsServeEachTable g
runs_serve g graph table other ls ms ns workers s t u none tokens expanded =
    hands_run_tokens_on g graph other ls ns workers s u none (tokens_by_each_table g table other ls ms ns s t u tokens expanded)

pub board_serves : (b : BoardValue) → IsGraph b.build.graph → Replays b → ServesEachTable b
board_serves b graph replays table other ms ns t u none tokens expanded =
    board_stands b graph replays other ns u none
    (tokens_by_each_table b.build.graph table other b.build.locals ms ns b.opening.store t u tokens expanded)

-- ---- the test of other contents

module _ (contents : List (List ℕ)) (g : Numbered) (ls ms : List Local) where
  abbrev pub EachStands : Type 0
  EachStands = (k : ℕ) (x : Vertex) → slice_get g.vertices k ≡ Some x → SourceStands (IsSpelled contents) ls ms x

  pub spelled_by_sources : EachStands ↔ AreSpelled contents g ls ms
  spelled_by_sources = (
    λ stand table known k x name there named.
        weaker_option (AreAlike (IsSpelled contents)) (AreAlike (ExpandsTo (spelled table)))
        (λ t u h path. weaker_like (IsSpelled contents) (ExpandsTo (spelled table)) (λ a b is. is table known) (finite.get t path) (finite.get u path) (h path))
        (tree_of_local ls name) (tree_of_local ms name) (stand k x there name named),
    λ spelled k x there name named.
        spelled_option contents (tree_of_local ls name) (tree_of_local ms name) (λ table known. spelled table known k x name there named),
  )

-- a board that was opened on these local trees without caches stands for other contents
pub board_stands_for_others : (contents others : List (List ℕ)) (ls ms ns : List Local) (b : BoardValue) (g : Numbered) → g ≡ b.build.graph → ServesEachTable b
    → MayStand contents g ls ms → AreSpelled others g ls ns → BoardStandsFor others ls ns b
board_stands_for_others contents others ls ms ns b g same law given changed locals store table known =
    law (table_of contents) table ms ns (store_of []) (store_of []) (subst WritesNoMarkAtAll same given.0)
    (subst (λ (s : Store). HaveTokens (table_of contents) b.build.graph b.build.locals ms s (store_of [])) (sym store)
    (subst (λ (xs : List Local). HaveTokens (table_of contents) b.build.graph xs ms (store_of []) (store_of [])) locals
    (subst (λ (h : Numbered). HaveTokens (table_of contents) h ls ms (store_of []) (store_of [])) same (given.1 (table_of contents) (table_extends contents)))))
    (record {
      sources = subst (λ (xs : List Local). HaveAlikeLocals (ExpandsTo (spelled table)) b.build.graph xs ns) locals
          (subst (λ (h : Numbered). HaveAlikeLocals (ExpandsTo (spelled table)) h ls ns) same (changed table known));
      caches = subst (λ (s : Store). AreAlikeStores (ExpandsTo (spelled table)) s (store_of [])) (sym store) (none_alike (ExpandsTo (spelled table)));
    })
