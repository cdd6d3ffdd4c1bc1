-- Trees that stand for others, entry by entry; and what local trees with tokens are to the laws.
use Rattle.std.proofs.Common.{◌≡◌, ℕ, Bool, true, false, not, ◌↔◌, List, [], ◌∷◌, drop, get_or, Option, Some, None, refl, sym, ap, subst, ◌∙◌}
use Rattle.std.specs.Prelude.{slice_get, unwrap_or, is_some, option_map}
use Rattle.std.specs.FinMap as finite
use Rattle.llb_tree.specs.Path.{path_cmp}
use Rattle.llb_tree.specs.Tree.{TreeMap, Entry, Dir, File}
use Rattle.llb_fileop.proofs.PathOrderTraversal.{Pair}
use Rattle.llb_loader.specs.declared.graph.Vertex.{Vertex}
use Rattle.llb_loader.specs.Graph.{Numbered}
use Rattle.llb_loader.specs.LocalSources.{Local, local_name, tree_of_local}
use Rattle.llb_loader.specs.WaitingRows.{IsMarked}
use Rattle.llb_loader.proofs.OutputNumbers.{false_when, true_when}
use Rattle.llb_model.specs.TwoCacheModels.{store_of}
use Rattle.llb_model.specs.Caches.{Store}
use Rattle.llb_board.specs.BoardValue.{BoardValue}
use Rattle.llb_model.proofs.ConstructorEqualities.{none_some}
use Rattle.llb_laws.specs.AlikeTrees.{BothOptions, BothLists, AreLike, AreAlike}
use Rattle.llb_laws.specs.ContentLaws.{ExpandsTo, has_mark, spelled, IsLiteral}
use Rattle.llb_laws.specs.TokenRuns.{BoardStandsForContents, HaveTokens, IsByValue, LocalsHaveNames, WritesNoMarkAtAll}
use Rattle.llb_laws.specs.TokenLists.{BoardStandsFor, Extends, IsSpelled, StandsFor, SourceStands, SourcesStand, HaveTokensOf}
use Rattle.llb_laws.proofs.AlikeValues.{carry_options}
use Rattle.llb_laws.proofs.ContentsByValue.{weaker_option, weaker_like}
use Rattle.llb_laws.proofs.TokenPlans.{differ}
use Rattle.llb_laws.proofs.AlikeRuns.{needs_no_caches}
use Rattle.llb_laws.proofs.Tokens.{unmarked}
use Rattle.llb_laws.proofs.AlikeTreeEdits.{ArePairs, both_entries, find_both}

-- ---- entries, one by one

module _ (R : List ℕ → List ℕ → Type 0) where
  pub alike_by_entries : (t u : TreeMap) → AreAlike R t u ↔ BothLists (ArePairs R) (finite.entries t) (finite.entries u)
  alike_by_entries t u = (
    both_entries R t u,
    λ h q. carry_options (AreLike R) (finite.get t q) (finite.find path_cmp q (finite.entries t)) (finite.get u q) (finite.find path_cmp q (finite.entries u))
        (finite.get-entries t q) (finite.get-entries u q) (find_both R (finite.entries t) (finite.entries u) h q),
  )

  -- the first entries, and the others
  pub entries_first : (es fs : List Pair) (e f : Pair) → slice_get es 0 ≡ Some e → slice_get fs 0 ≡ Some f
      → BothLists (ArePairs R) es fs ↔ (ArePairs R e f × BothLists (ArePairs R) (drop 1 es) (drop 1 fs))
  entries_first [] fs e f first second = absurd (none_some first)
  entries_first (x ∷ es) [] e f first second = absurd (none_some second)
  entries_first (x ∷ es) (y ∷ fs) e f first second =
      let one : x ≡ e = cc in
      let other : y ≡ f = cc in
      rw (← one, ← other) (λ h. h, λ h. h)

  pub entries_none : (es fs : List Pair) → slice_get es 0 ≡ None → slice_get fs 0 ≡ None → BothLists (ArePairs R) es fs
  entries_none [] [] first second = tt
  entries_none (x ∷ es) fs first second = absurd cc
  entries_none [] (y ∷ fs) first second = absurd cc

  pub entries_fewer : (es fs : List Pair) (e : Pair) → slice_get es 0 ≡ Some e → slice_get fs 0 ≡ None → BothLists (ArePairs R) es fs → ⊥
  entries_fewer [] fs e first second h = absurd (none_some first)
  entries_fewer (x ∷ es) [] e first second h = absurd h
  entries_fewer (x ∷ es) (y ∷ fs) e first second h = absurd cc

  pub entries_more : (es fs : List Pair) (f : Pair) → slice_get es 0 ≡ None → slice_get fs 0 ≡ Some f → BothLists (ArePairs R) es fs → ⊥
  entries_more es [] f first second h = absurd (none_some second)
  entries_more [] (y ∷ fs) f first second h = absurd h
  entries_more (x ∷ es) (y ∷ fs) f first second h = absurd cc

  -- at the end of the first entries, the trees are alike if there are no others
  pub entries_end : {A : Type 0} (see : A → Pair) (P : Type 0) (es fs : List Pair) (o : Option A) (r : Bool) → slice_get es 0 ≡ None
      → option_map see o ≡ slice_get fs 0 → is_some o ≡ not r → P ↔ BothLists (ArePairs R) es fs → (r ≡ true) ↔ P
  entries_end see P es fs None true first second test exact = true_when (exact.1 (entries_none es fs first (sym second)))
  entries_end see P es fs None false first second test exact = absurd (differ false refl test)
  entries_end see P es fs (Some x) true first second test exact = absurd (differ false refl (sym test))
  entries_end see P es fs (Some x) false first second test exact =
      false_when (λ p. entries_more es fs (see x) first (sym second) (exact.0 p))

-- ---- contents by value

-- equal contents stand for one another by value, if they don't have the byte 255
pub equal_stands : (contents : List (List ℕ)) (v m : Bool) (a b : List ℕ) → v ≡ true → a ≡ b → m ≡ has_mark a
    → ((not m) ≡ true) ↔ StandsFor contents v a b
equal_stands contents v m a b value same mark = rw value (
  λ plain. record { same = same; plain = sym mark ∙ not_true m plain },
  λ literal. ap not (mark ∙ literal.plain),
)
  where
    not_true : (m : Bool) → not m ≡ true → m ≡ false
    not_true false h = refl
    not_true true h = absurd cc

-- other contents don't
pub other_stands : (contents : List (List ℕ)) (v : Bool) (a b : List ℕ) → v ≡ true → (a ≡ b → ⊥) → StandsFor contents v a b → ⊥
other_stands contents v a b value other h =
    let literal : IsLiteral a b = subst (λ w. StandsFor contents w a b) value h in
    other literal.same

-- ---- tables

module _ (contents : List (List ℕ)) where
  -- a table that has the contents of the list
  abbrev pub table_of : ℕ → List ℕ
  table_of n = unwrap_or (slice_get contents n) []

  pub table_extends : Extends table_of contents
  table_extends n c is = ap (λ o. unwrap_or o []) is

  literal_expands : (table : ℕ → List ℕ) (a b : List ℕ) → IsLiteral a b → ExpandsTo (spelled table) a b
  literal_expands table a b is = unmarked table a is.plain ∙ ap some_bytes is.same
    where
      some_bytes : List ℕ → Option (List ℕ)
      some_bytes xs = Some xs

  stands_expands : (v : Bool) (table : ℕ → List ℕ) → Extends table contents → (a b : List ℕ) → StandsFor contents v a b → ExpandsTo (spelled table) a b
  stands_expands true table known a b h = literal_expands table a b h
  stands_expands false table known a b h = h table known

  spelled_like : (o p : Option Entry) → ((table : ℕ → List ℕ) → Extends table contents → BothOptions (AreLike (ExpandsTo (spelled table))) o p)
      → BothOptions (AreLike (IsSpelled contents)) o p
  spelled_like None None h = tt
  spelled_like (Some (Dir m)) (Some (Dir n)) h = h table_of table_extends
  spelled_like (Some (File m a)) (Some (File n b)) h = ((h table_of table_extends).0, λ table known. (h table known).1)
  spelled_like (Some (Dir m)) (Some (File n b)) h = absurd (h table_of table_extends)
  spelled_like (Some (File m a)) (Some (Dir n)) h = absurd (h table_of table_extends)
  spelled_like None (Some f) h = absurd (h table_of table_extends)
  spelled_like (Some e) None h = absurd (h table_of table_extends)

  -- trees that are alike by each table
  pub spelled_option : (o p : Option TreeMap) → ((table : ℕ → List ℕ) → Extends table contents → BothOptions (AreAlike (ExpandsTo (spelled table))) o p)
      → BothOptions (AreAlike (IsSpelled contents)) o p
  spelled_option None None h = tt
  spelled_option (Some t) (Some u) h = λ q. spelled_like (finite.get t q) (finite.get u q) (λ table known. h table known q)
  spelled_option None (Some u) h = absurd (h table_of table_extends)
  spelled_option (Some t) None h = absurd (h table_of table_extends)

  weaker_trees : (v : Bool) (table : ℕ → List ℕ) → Extends table contents → (o p : Option TreeMap) → BothOptions (AreAlike (StandsFor contents v)) o p
      → BothOptions (AreAlike (ExpandsTo (spelled table))) o p
  weaker_trees v table known o p h =
      weaker_option (AreAlike (StandsFor contents v)) (AreAlike (ExpandsTo (spelled table))) (λ t u k q.
      weaker_like (StandsFor contents v) (ExpandsTo (spelled table)) (stands_expands v table known) (finite.get t q) (finite.get u q) (k q)) o p h

  -- ---- local trees

  module _ (g : Numbered) (marks : List Bool) (exact : (k : ℕ) → IsMarked marks k ↔ IsByValue g k) (ls ms : List Local) where
    have_tokens_of : LocalsHaveNames g ls → SourcesStand contents marks g ls ms → HaveTokensOf contents g ls ms (store_of []) (store_of [])
    have_tokens_of names stand table known =
        needs_no_caches g table ls ms
        (λ k x name there named. weaker_trees (get_or marks k false) table known (tree_of_local ls name) (tree_of_local ms name) (stand k x there name named))
        (λ k x name value there named.
        subst (λ v. BothOptions (AreAlike (StandsFor contents v)) (tree_of_local ls name) (tree_of_local ms name)) ((exact k).1 value)
        (stand k x there name named)) names

    sources_stand_by : HaveTokensOf contents g ls ms (store_of []) (store_of []) → SourcesStand contents marks g ls ms
    sources_stand_by tokens k x there name named = by_mark (get_or marks k false) refl
      where
        by_mark : (v : Bool) → get_or marks k false ≡ v → BothOptions (AreAlike (StandsFor contents v)) (tree_of_local ls name) (tree_of_local ms name)
        by_mark true is = (tokens table_of table_extends).values k x name ((exact k).0 is) there named
        by_mark false is =
            spelled_option (tree_of_local ls name) (tree_of_local ms name) (λ table known. (tokens table known).sources k x name there named)

    -- the test of each source is the premise of the laws
    pub tokens_by_sources : LocalsHaveNames g ls → SourcesStand contents marks g ls ms ↔ HaveTokensOf contents g ls ms (store_of []) (store_of [])
    tokens_by_sources names = (have_tokens_of names, sources_stand_by)

-- ---- a source

-- the trees of a source are those of its name
pub source_by_name : (R : List ℕ → List ℕ → Type 0) (ls ms : List Local) (x : Vertex) (name : List ℕ) (o p : Option TreeMap)
    → local_name x.op ≡ Some name → o ≡ tree_of_local ls name → p ≡ tree_of_local ms name → BothOptions (AreAlike R) o p ↔ SourceStands R ls ms x
source_by_name R ls ms x name o p named first second = (
  λ h other is.
      let some : Some name ≡ Some other = sym named ∙ is in
      let same : name ≡ other = cc in
      subst (λ n. BothOptions (AreAlike R) (tree_of_local ls n) (tree_of_local ms n)) same
      (subst (λ q. BothOptions (AreAlike R) (tree_of_local ls name) q) second (subst (λ q. BothOptions (AreAlike R) q p) first h)),
  λ h. carry_options (AreAlike R) o (tree_of_local ls name) p (tree_of_local ms name) first second (h name named),
)

-- another vertex has no trees
pub no_source : (R : List ℕ → List ℕ → Type 0) (ls ms : List Local) (x : Vertex) → local_name x.op ≡ None → SourceStands R ls ms x
no_source R ls ms x none name is = absurd (none_some (sym none ∙ is))

-- ---- boards

-- the law of boards, for one that was opened on these local trees without caches
pub board_stands_for : (contents : List (List ℕ)) (ls ms : List Local) (b : BoardValue) (g : Numbered) → g ≡ b.build.graph → BoardStandsForContents b
    → WritesNoMarkAtAll g × HaveTokensOf contents g ls ms (store_of []) (store_of []) → BoardStandsFor contents ls ms b
board_stands_for contents ls ms b g same law given locals store table known =
    law table ms (store_of []) (subst WritesNoMarkAtAll same given.0)
    (subst (λ (s : Store). HaveTokens table b.build.graph b.build.locals ms s (store_of [])) (sym store)
    (subst (λ (xs : List Local). HaveTokens table b.build.graph xs ms (store_of []) (store_of [])) locals
    (subst (λ (h : Numbered). HaveTokens table h ls ms (store_of []) (store_of [])) same (given.1 table known))))
