-- Vertices that replace outputs, and copies, have origins; and a board over them is opened.
use Rattle.std.proofs.Common.{◌≡◌, ℕ, ◌+◌, ◌<◌, ◌≤◌, Bool, true, false, cond, List, [], ◌∷◌, ◌++◌, length, get_or, Option, Some, None}
use Rattle.std.proofs.Common.{Ok, inl, inr, refl, sym, ap, subst, ◌∙◌, arith}
use Rattle.std.specs.Prelude.{slice_get, unwrap_or}
use Rattle.std.specs.Str.{bytes_eq}
use Rattle.std.proofs.lemmas.Bool.{cases_lt}
use Rattle.std.proofs.lemmas.List.{get_or_default, get_or_append_left, get_or_push}
use Rattle.std.proofs.lemmas.Slice.Eq.{bytes_eq-Decides}
use Rattle.llb_tree.specs.Tree.{TreeMap, empty_tree}
use Rattle.llb_cache.specs.Caches.{CachesValue}
use Rattle.llb_loader.specs.declared.graph.Edge.{Edge}
use Rattle.llb_loader.specs.declared.graph.Vertex.{Vertex}
use Rattle.llb_loader.specs.Graph.{Numbered, IsGraph}
use Rattle.llb_loader.specs.LoadResult.{IsGraphIn}
use Rattle.llb_loader.specs.LocalSources.{Local, local_name, tree_of_local}
use Rattle.llb_model.specs.ListsFromEarlierItems.{by_number}
use Rattle.llb_model.specs.Outcome.{next_plain, is_plain}
use Rattle.llb_model.specs.Program.{Build}
use Rattle.llb_model.proofs.Lists.{get_within, got_within, inside}
use Rattle.llb_model.proofs.ConstructorEqualities.{none_some}
use Rattle.llb_board.specs.BoardValue.{BoardValue, opened}
use Rattle.llb_board.specs.Opening.{open_of}
use Rattle.llb_laws.specs.BoardOutcomes.{output_on, KeepsPlain, KeptOutputsStandIn}
use Rattle.llb_laws.specs.RenamedAndKeptSources.{Origin, Kept, Copied, HasOrigin, HaveOrigins, IsEdgeFrom, IsInPlaceOf, IsCopyOf}
use Rattle.llb_laws.specs.MatchingMarks.{edge_at}
use Rattle.llb_laws.specs.KeptOutputs.{Places, place_of, replaced_by, tree_by, tree_for, HaveTrees, Adds, origin_by, place_in, origin_at}
use Rattle.llb_laws.specs.KeptOutputs.{IsCopyIn, IsPlaced, ArePlaced, StandsIn, AreKeptPlain}
use Rattle.llb_laws.proofs.OpenedBoards.{open_gives}
use Rattle.llb_laws.proofs.Matches.{both_by_place}
use Rattle.llb_laws.proofs.MatchingMarks.{EdgesBelow, edges_below, one_more, one_vertex}

-- ---- the trees of sources

pub no_trees_yet : (b : BoardValue) (ls : List Local) (kept : Places) (others : List Vertex) (made : List Local) → HaveTrees b ls kept others 0 made
no_trees_yet b ls kept others made w y name l = absurd (omega (arith, l))

one_tree : (s t : TreeMap) → ◌≡◌ {A = Option TreeMap} (Some s) (Some t) → s ≡ t
one_tree s t e = cc

tree_kept : (b : BoardValue) (ls : List Local) (kept : Places) (y : Vertex) (old new : List Local) → Adds b ls kept y old new → (name : List ℕ) (tree : TreeMap)
    → tree_for b ls kept name ≡ Some tree → tree_of_local old name ≡ Some tree → tree_of_local new name ≡ Some tree
tree_kept b ls kept y old new adds name tree for has = by_name (local_name y.op) refl
  where
    by_test : (other : List ℕ) (t : TreeMap) → tree_for b ls kept other ≡ Some t
        → tree_of_local new name ≡ cond (bytes_eq other name) (Some t) (tree_of_local old name) → (k : Bool) → bytes_eq other name ≡ k
        → tree_of_local new name ≡ Some tree
    by_test other t given added true e =
        let same : other ≡ name = (bytes_eq-Decides other name).0 e in
        added ∙ ap (λ (k : Bool). cond k (Some t) (tree_of_local old name)) e ∙ sym given ∙ ap (tree_for b ls kept) same ∙ for
    by_test other t given added false e = added ∙ ap (λ (k : Bool). cond k (Some t) (tree_of_local old name)) e ∙ has

    by_name : (o : Option (List ℕ)) → local_name y.op ≡ o → tree_of_local new name ≡ Some tree
    by_name None e = ap (λ (l : List Local). tree_of_local l name) (adds.none e) ∙ has
    by_name (Some other) e =
        let a = adds.source other e in
        by_test other a.0 a.1 (a.2 name) (bytes_eq other name) refl

pub adds_named : (b : BoardValue) (ls : List Local) (kept : Places) (y : Vertex) (old new : List Local) (name : List ℕ) (tree : TreeMap)
    → local_name y.op ≡ Some name → tree_for b ls kept name ≡ Some tree
    → ((other : List ℕ) → tree_of_local new other ≡ cond (bytes_eq name other) (Some tree) (tree_of_local old other)) → Adds b ls kept y old new
adds_named b ls kept y old new name tree named for given =
    record {
      none = λ e. absurd (none_some (sym e ∙ named));
      source = λ other e.
          let same : name ≡ other = inside (sym named ∙ e) in (
            tree,
            ap (tree_for b ls kept) (sym same) ∙ for,
            λ z. given z ∙ ap (λ (n : List ℕ). cond (bytes_eq n z) (Some tree) (tree_of_local old z)) same,
          );
    }

tree_added : (b : BoardValue) (ls : List Local) (kept : Places) (y : Vertex) (old new : List Local) → Adds b ls kept y old new → (name : List ℕ)
    → local_name y.op ≡ Some name → (tree : TreeMap) × (tree_for b ls kept name ≡ Some tree) × (tree_of_local new name ≡ Some tree)
tree_added b ls kept y old new adds name named =
    let a = adds.source name named in (
      a.0,
      a.1,
      a.2 name ∙ ap (λ (k : Bool). cond k (Some a.0) (tree_of_local old name)) ((bytes_eq-Decides name name).1 refl),
    )

pub one_tree_more : (b : BoardValue) (ls : List Local) (kept : Places) (others : List Vertex) (n : ℕ) (y : Vertex) (old new : List Local)
    → HaveTrees b ls kept others n old → slice_get others n ≡ Some y → Adds b ls kept y old new → HaveTrees b ls kept others (n + 1) new
one_tree_more b ls kept others n y old new have there adds w z name l at named = elim (cases_lt w n) [
  | inl low ↦ (let h = have w z name low at named in (h.0, h.1, tree_kept b ls kept y old new adds name h.0 h.1 h.2))
  | inr last ↦ (
      let same : y ≡ z = one_vertex others w n y z (omega (arith, l, last)) there at in
      tree_added b ls kept y old new adds name (ap (λ (u : Vertex). local_name u.op) same ∙ named))
]

-- ---- copies

origin_same : (kept : Places) (others : List Vertex) (copies : List ℕ) (m w : ℕ) → w < length copies
    → origin_at kept others copies w ≡ origin_at kept others (copies ++ m ∷ []) w
origin_same kept others copies m w l = ap (origin_by (place_in kept (slice_get others w))) (sym (get_or_append_left copies (m ∷ []) 0 w l))

copy_more : (kept : Places) (others : List Vertex) (copies : List ℕ) (m : ℕ) (x y : Vertex) → EdgesBelow (length copies) y
    → IsCopyIn kept others copies x y → IsCopyIn kept others (copies ++ m ∷ []) x y
copy_more kept others copies m x y low copy =
    let count = copy.as_many in
    record {
      kind = copy.kind;
      as_many = count;
      each = λ i l. subst (λ (o : Origin). IsEdgeFrom o (edge_at x i) (edge_at y i))
          (origin_same kept others copies m (edge_at y i).vertex (low i (omega (arith, l, count)))) (copy.each i l);
    }

copy_less : (kept : Places) (others : List Vertex) (copies : List ℕ) (m : ℕ) (x y : Vertex) → EdgesBelow (length copies) y
    → IsCopyIn kept others (copies ++ m ∷ []) x y → IsCopyIn kept others copies x y
copy_less kept others copies m x y low copy =
    let count = copy.as_many in
    record {
      kind = copy.kind;
      as_many = count;
      each = λ i l. subst (λ (o : Origin). IsEdgeFrom o (edge_at x i) (edge_at y i))
          (sym (origin_same kept others copies m (edge_at y i).vertex (low i (omega (arith, l, count))))) (copy.each i l);
    }

placed_more : (vertices : List Vertex) (kept : Places) (others : List Vertex) (copies : List ℕ) (m : ℕ) (y : Vertex) → EdgesBelow (length copies) y → (n : ℕ)
    → IsPlaced vertices kept others copies y n → IsPlaced vertices kept others (copies ++ m ∷ []) y n
placed_more vertices kept others copies m y low n is =
    record {
      no_inputs = is.no_inputs;
      copied = λ none.
          let f = is.copied none in
          record {
            before = λ k x l at copy. f.before k x l at (copy_less kept others copies m x y low copy);
            vertex = f.vertex;
            there = f.there;
            copy = copy_more kept others copies m f.vertex y low f.copy;
          };
    }

pub none_placed : (vertices : List Vertex) (kept : Places) (others : List Vertex) → ArePlaced vertices kept others 0 []
none_placed vertices kept others = record { as_many = refl; each = λ w y l. absurd (omega (arith, l)) }

more_placed : (vertices : List Vertex) (kept : Places) (h : Numbered) → IsGraph h → (n : ℕ) (y : Vertex) (copies : List ℕ) (m : ℕ)
    → ArePlaced vertices kept h.vertices n copies → slice_get h.vertices n ≡ Some y → IsPlaced vertices kept h.vertices copies y m
    → ArePlaced vertices kept h.vertices (n + 1) (copies ++ m ∷ [])
more_placed vertices kept h graph n y copies m so there is =
    let count = so.as_many in
    let low : (k : ℕ) (z : Vertex) → k ≤ n → slice_get h.vertices k ≡ Some z → EdgesBelow (length copies) z =
    λ k z l at i e. let b = edges_below h graph k z at i e in omega (arith, b, l, count) in
    record {
      as_many = one_more copies m ∙ ap (λ (k : ℕ). k + 1) count;
      each = λ w z l at. elim (cases_lt w n) [
        | inl lower ↦ subst (λ (p : ℕ). IsPlaced vertices kept h.vertices (copies ++ m ∷ []) z p)
            (sym (get_or_append_left copies (m ∷ []) 0 w (omega (arith, lower, count))))
            (placed_more vertices kept h.vertices copies m z (low w z (omega (arith, lower)) at) (get_or copies w 0) (so.each w z lower at))
        | inr last ↦ (
            let last_is : w ≡ n = omega (arith, l, last) in
            let moved = placed_more vertices kept h.vertices copies m y (low n y (omega arith) there) m is in
            let put = subst (λ (p : ℕ). IsPlaced vertices kept h.vertices (copies ++ m ∷ []) y p)
            (sym (get_or_push copies m 0 w (count ∙ sym last_is))) moved in
            subst (λ (u : Vertex). IsPlaced vertices kept h.vertices (copies ++ m ∷ []) u (get_or (copies ++ m ∷ []) w 0))
            (one_vertex h.vertices w n y z last_is there at) put)
      ];
    }

-- one more copy is placed, given lists that are equal to those of `IsPlaced`
pub placed_step : (vertices : List Vertex) (kept : Places) (h : Numbered) → IsGraph h → (others : List Vertex) → others ≡ h.vertices → (n : ℕ) (y : Vertex)
    (copies so_far : List ℕ) (m : ℕ) (longer : List ℕ) → so_far ≡ copies → longer ≡ copies ++ m ∷ [] → ArePlaced vertices kept others n copies
    → slice_get others n ≡ Some y → IsPlaced vertices kept others so_far y m → ArePlaced vertices kept others (n + 1) longer
placed_step vertices kept h graph others all n y copies so_far m longer a z so there is =
    subst (λ (us : List Vertex). ArePlaced vertices kept us (n + 1) longer) (sym all)
    (subst (λ (ws : List ℕ). ArePlaced vertices kept h.vertices (n + 1) ws) (sym z)
    (more_placed vertices kept h graph n y copies m (subst (λ (us : List Vertex). ArePlaced vertices kept us n copies) all so)
    (ap (λ (us : List Vertex). slice_get us n) (sym all) ∙ there)
    (subst (λ (us : List Vertex). IsPlaced vertices kept us copies y m) all
    (subst (λ (ws : List ℕ). IsPlaced vertices kept others ws y m) a is))))

-- ---- origins

module _ (b c : BoardValue) (ls : List Local) (kept : Places) (copies : List ℕ) (given : ls ≡ b.build.locals)
    (have : HaveTrees b ls kept c.build.graph.vertices (length c.build.graph.vertices) c.build.locals)
    (placed : ArePlaced b.build.graph.vertices kept c.build.graph.vertices (length c.build.graph.vertices) copies) where
  abbrev origin : ℕ → Origin
  origin w = origin_at kept c.build.graph.vertices copies w

  origin_is : (w : ℕ) (y : Vertex) → slice_get c.build.graph.vertices w ≡ Some y → (o : Option Edge) → replaced_by kept y ≡ o
      → origin w ≡ origin_by o (get_or copies w 0)
  origin_is w y there o is = ap (λ (e : Option Edge). origin_by e (get_or copies w 0)) (ap (place_in kept) there ∙ is)

  in_place : (w : ℕ) (y : Vertex) → slice_get c.build.graph.vertices w ≡ Some y → (e : Edge) → replaced_by kept y ≡ Some e
      → IsInPlaceOf (output_on b e) c.build y
  in_place w y there e is = by_name (local_name y.op) refl
    where
      by_name : (o : Option (List ℕ)) → local_name y.op ≡ o → IsInPlaceOf (output_on b e) c.build y
      by_name None named = absurd (none_some (sym (ap (place_of kept) named) ∙ is))
      by_name (Some name) named =
          let low = got_within c.build.graph.vertices w y there in
          let t = have w y name low there named in
          let place : place_of kept (Some name) ≡ Some e = sym (ap (place_of kept) named) ∙ is in
          record {
            name = name;
            named = named;
            no_inputs = (placed.each w y low there).no_inputs e is;
            tree = sym (ap (λ (o : Option Edge). tree_by b ls o name) place) ∙ t.1
                ∙ sym (ap (λ (o : Option (List ℕ)). Some (unwrap_or (tree_of_local c.build.locals (unwrap_or o [])) empty_tree)) named
                ∙ ap (λ (o : Option TreeMap). Some (unwrap_or o empty_tree)) t.2);
          }

  is_copy : (w : ℕ) (y : Vertex) → slice_get c.build.graph.vertices w ≡ Some y → replaced_by kept y ≡ None
      → IsCopyOf b.build c.build origin (get_or copies w 0) y
  is_copy w y there is =
      let low = got_within c.build.graph.vertices w y there in
      let f = (placed.each w y low there).copied is in
      let x = f.vertex in
      let count = f.copy.as_many in
      let no_edge : Edge = record { vertex = 0; index = 0 } in
      record {
        original = x;
        there = f.there;
        kind = f.copy.kind;
        tree = λ name named.
            let t = have w y name low there named in
            let place : place_of kept (Some name) ≡ None = sym (ap (place_of kept) named) ∙ is in
            ap (λ (l : List Local). tree_of_local l name) (sym given) ∙ sym (ap (λ (o : Option Edge). tree_by b ls o name) place) ∙ t.1 ∙ sym t.2;
        inputs = both_by_place (λ e f. IsEdgeFrom (origin f.vertex) e f) x.inputs y.inputs count (λ i d l.
            let first = get_or_default x.inputs i d no_edge l in
            let second = get_or_default y.inputs i d no_edge (omega (arith, l, count)) in
            subst (λ (h : Edge). IsEdgeFrom (origin h.vertex) (get_or x.inputs i d) h) (sym second)
            (subst (λ (h : Edge). IsEdgeFrom (origin (edge_at y i).vertex) h (edge_at y i)) (sym first) (f.copy.each i l)));
      }

  pub have_origins : HaveOrigins (output_on b) b.build c.build origin
  have_origins w y there = by_place (replaced_by kept y) refl
    where
      by_place : (o : Option Edge) → replaced_by kept y ≡ o → HasOrigin (output_on b) b.build c.build origin (origin w) y
      by_place (Some e) is =
          subst (λ (o : Origin). HasOrigin (output_on b) b.build c.build origin o y) (sym (origin_is w y there (Some e) is)) (in_place w y there e is)
      by_place None is =
          subst (λ (o : Origin). HasOrigin (output_on b) b.build c.build origin o y) (sym (origin_is w y there None is)) (is_copy w y there is)

  keeps_plain : AreKeptPlain (by_number next_plain [] b.build.graph.vertices) kept c.build.graph.vertices → KeepsPlain b c.build.graph origin
  keeps_plain plain w place low from =
      let y = get_within c.build.graph.vertices w low in
      by_place y.0 y.1 (replaced_by kept y.0) refl
    where
      by_place : (y : Vertex) → slice_get c.build.graph.vertices w ≡ Some y → (o : Option Edge) → replaced_by kept y ≡ o → is_plain b.build place.vertex ≡ true
      by_place y there (Some e) is =
          let same : Kept e ≡ Kept place = sym (origin_is w y there (Some e) is) ∙ from in
          let edge : e ≡ place = cc in
          ap (λ (f : Edge). is_plain b.build f.vertex) (sym edge) ∙ plain w y there e is
      by_place y there None is =
          let same : Copied (get_or copies w 0) ≡ Kept place = sym (origin_is w y there None is) ∙ from in
          absurd cc

  pub stands_in : AreKeptPlain (by_number next_plain [] b.build.graph.vertices) kept c.build.graph.vertices → (d : List ℕ) (workers : ℕ)
      → IsGraphIn d c.build.graph → c ≡ opened c.build workers [] → KeptOutputsStandIn b c → StandsIn b kept d workers c
  stands_in plain d workers loaded begins law = record {
    loaded = loaded;
    begins = begins;
    origin = origin;
    replaced = λ w y e there is. origin_is w y there (Some e) is;
    copied = λ w y there is. (get_or copies w 0, origin_is w y there None is);
    origins = have_origins;
    plain = keeps_plain plain;
    ends = law origin have_origins (keeps_plain plain);
  }

-- ---- the board that is opened

pub opened_stands_in : (b c : BoardValue) (ls : List Local) (kept : Places) (copies : List ℕ) (d : List ℕ) (n : ℕ) (g first : Numbered) (trees : List Local)
    (cs : CachesValue) → first ≡ b.build.graph → cs ≡ record { rows = []; out = [] } → open_of (record { graph = g; locals = trees }) cs n ≡ Ok c
    → ls ≡ b.build.locals → HaveTrees b ls kept g.vertices (length g.vertices) trees
    → ArePlaced first.vertices kept g.vertices (length g.vertices) copies → AreKeptPlain (by_number next_plain [] first.vertices) kept g.vertices
    → IsGraphIn d g → KeptOutputsStandIn b c → StandsIn b kept d n c
opened_stands_in b c ls kept copies d n g first trees cs board empty gives given have placed plain loaded law =
    let build : Build = record { graph = g; locals = trees } in
    let is : c ≡ opened build n cs.rows = open_gives build cs n c gives in
    let same : c.build ≡ build = ap (λ (x : BoardValue). x.build) is in
    stands_in b c ls kept copies given
    (subst (λ (u : Build). HaveTrees b ls kept u.graph.vertices (length u.graph.vertices) u.locals) (sym same) have)
    (subst (λ (u : Build). ArePlaced b.build.graph.vertices kept u.graph.vertices (length u.graph.vertices) copies) (sym same)
    (subst (λ (u : Numbered). ArePlaced u.vertices kept g.vertices (length g.vertices) copies) board placed))
    (subst (λ (u : Build). AreKeptPlain (by_number next_plain [] b.build.graph.vertices) kept u.graph.vertices) (sym same)
    (subst (λ (u : Numbered). AreKeptPlain (by_number next_plain [] u.vertices) kept g.vertices) board plain))
    d n (subst (λ (u : Build). IsGraphIn d u.graph) (sym same) loaded)
    (is ∙ ap (λ (u : Build). opened u n cs.rows) (sym same) ∙ ap (λ (x : CachesValue). opened c.build n x.rows) empty) law
