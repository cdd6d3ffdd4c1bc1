-- Vertices with one mark are alike, and no test relates more vertices that are alike.
use Rattle.std.proofs.Common.{◌≡◌, ℕ, zero, suc, ◌+◌, ◌<◌, ◌≤◌, true, List, [], ◌∷◌, ◌++◌, length, get_or, Option, Some, None, inl, inr}
use Rattle.std.proofs.Common.{Bool, ◌⊎◌, refl, sym, ap, subst, ◌∙◌, arith, eqb-true, eq-eqb}
use Rattle.std.specs.Prelude.{slice_get}
use Rattle.std.proofs.lemmas.Bool.{cases_lt}
use Rattle.std.proofs.lemmas.List.{get_or_default, get_or_append_left, get_or_push}
use Rattle.std.proofs.lemmas.Option.{get_or_from_slice_get, slice_get-get_or}
use Rattle.llb_ops.specs.declared.op.Op.{Op}
use Rattle.llb_loader.specs.declared.graph.Edge.{Edge}
use Rattle.llb_loader.specs.declared.graph.Vertex.{Vertex}
use Rattle.llb_loader.specs.Graph.{Numbered, LeadsBelow, IsVertex, IsVertexOf, IsGraph}
use Rattle.llb_loader.specs.LoadResult.{IsGraphIn}
use Rattle.llb_loader.specs.LocalSources.{Local, local_name, name_by_kind}
use Rattle.llb_model.specs.Program.{Build}
use Rattle.llb_model.specs.Outcome.{outcome}
use Rattle.llb_model.proofs.Lists.{get_within, got_within, inside}
use Rattle.llb_laws.specs.Digests.{DependOnSources, HaveSameSources}
use Rattle.llb_laws.specs.Definitions.{IsKindRewritten}
use Rattle.llb_laws.specs.Matchings.{EdgesMatch, IsMatched, By, MatchedEndAlike}
use Rattle.llb_laws.specs.MatchingMarks.{edge_at, IsLike, HaveOneMark, IsFirstLike, AreMarks, ArePartnersBy}
use Rattle.llb_laws.specs.MatchingMarks.{same_mark, share_mark, AreLike, LoadMatched}
use Rattle.llb_laws.proofs.VerticesByNumber.{at_number}
use Rattle.llb_laws.proofs.Matches.{both_by_place}
use Rattle.llb_laws.proofs.OpsOfOneKind.{same_by_kind, same_sources}

-- ---- marks of the first vertices

-- the marks of the first n vertices
pub record MarkedTo (vertices : List Vertex) (n : ℕ) (marks : List ℕ) : Type 0 where
  pub as_many : length marks ≡ n
  pub each : (k : ℕ) (x : Vertex) → k < n → slice_get vertices k ≡ Some x → IsFirstLike vertices k marks marks x (get_or marks k 0)

-- the partners of the first n vertices of a second graph
pub record PartneredTo (vertices : List Vertex) (marks : List ℕ) (others : List Vertex) (n : ℕ) (partners : List ℕ) : Type 0 where
  pub as_many : length partners ≡ n
  pub each : (k : ℕ) (y : Vertex) → k < n → slice_get others k ≡ Some y → IsFirstLike vertices (length vertices) marks partners y (get_or partners k 0)

abbrev SameBelow : ℕ → List ℕ → List ℕ → Type 0
SameBelow k xs ys = (j : ℕ) → j < k → slice_get xs j ≡ slice_get ys j

abbrev pub EdgesBelow : ℕ → Vertex → Type 0
EdgesBelow k x = (i : ℕ) → i < length x.inputs → (edge_at x i).vertex < k

pub edges_below : (g : Numbered) → IsGraph g → (v : ℕ) (x : Vertex) → slice_get g.vertices v ≡ Some x → EdgesBelow v x
edges_below g graph v x there i l =
    let leads = subst (λ (z : Vertex). (j : ℕ) (d : Edge) → j < length z.inputs → LeadsBelow g.vertices v (get_or z.inputs j d))
    (get_or_from_slice_get g.vertices v x x there) (graph.down v x (got_within g.vertices v x there)) in
    (leads i (record { vertex = 0; index = 0 }) l).lower

like_same : (xs zs ys ws : List ℕ) (k n : ℕ) → SameBelow k xs zs → SameBelow n ys ws → (x y : Vertex) → EdgesBelow k x → EdgesBelow n y
    → IsLike (HaveOneMark xs ys) x y → IsLike (HaveOneMark zs ws) x y
like_same xs zs ys ws k n first second x y low under like =
    let count = like.as_many in
    record {
      kind = like.kind;
      as_many = count;
      each = λ i l.
          let one = like.each i l in
          record {
            index = one.index;
            mark = sym (first (edge_at x i).vertex (low i l)) ∙ one.mark ∙ second (edge_at y i).vertex (under i (omega (arith, l, count)));
          };
    }

first_same : (g : Numbered) → IsGraph g → (xs zs ys ws : List ℕ) (k n count : ℕ) → count ≤ k → SameBelow k xs zs → SameBelow n ys ws
    → (y : Vertex) → EdgesBelow n y → (m : ℕ) → IsFirstLike g.vertices count xs ys y m → IsFirstLike g.vertices count zs ws y m
first_same g graph xs zs ys ws k n count few first second y under m is =
    let upto = is.upto in
    let low : (j : ℕ) (x : Vertex) → j < count → slice_get g.vertices j ≡ Some x → EdgesBelow k x =
    λ j x l there i e. let b = edges_below g graph j x there i e in omega (arith, b, l, few) in
    record {
      upto = upto;
      before = λ j x l there like. is.before j x l there
          (like_same zs xs ws ys k n (λ i e. sym (first i e)) (λ i e. sym (second i e)) x y (low j x (omega (arith, l, upto)) there) under like);
      like = λ x l there. like_same xs zs ys ws k n first second x y (low m x l there) under (is.like x l there);
    }

same_pushed : (xs : List ℕ) (m : ℕ) → SameBelow (length xs) xs (xs ++ m ∷ [])
same_pushed [] m j l = absurd (omega (arith, l))
same_pushed (x ∷ xs) m zero l = refl
same_pushed (x ∷ xs) m (suc j) l = same_pushed xs m j (omega (arith, l))

pub one_more : (xs : List ℕ) (m : ℕ) → length (xs ++ m ∷ []) ≡ length xs + 1
one_more [] m = refl
one_more (x ∷ xs) m = omega (arith, one_more xs m)

pub one_vertex : (vs : List Vertex) (k n : ℕ) (x y : Vertex) → k ≡ n → slice_get vs n ≡ Some x → slice_get vs k ≡ Some y → x ≡ y
one_vertex vs k n x y same first second = inside (sym first ∙ ap (slice_get vs) (sym same) ∙ second)

pub no_marks : (vs : List Vertex) → MarkedTo vs 0 []
no_marks vs = record { as_many = refl; each = λ k x l. absurd (omega (arith, l)) }

pub no_partners : (vs : List Vertex) (marks : List ℕ) (others : List Vertex) → PartneredTo vs marks others 0 []
no_partners vs marks others = record { as_many = refl; each = λ k y l. absurd (omega (arith, l)) }

pub marked_more : (g : Numbered) → IsGraph g → (n : ℕ) (x : Vertex) (marks : List ℕ) (m : ℕ) → MarkedTo g.vertices n marks
    → slice_get g.vertices n ≡ Some x → IsFirstLike g.vertices n marks marks x m → MarkedTo g.vertices (n + 1) (marks ++ m ∷ [])
marked_more g graph n x marks m so there is =
    let count = so.as_many in
    let same : SameBelow n marks (marks ++ m ∷ []) = λ j l. same_pushed marks m j (omega (arith, l, count)) in
    record {
      as_many = one_more marks m ∙ ap (λ (k : ℕ). k + 1) count;
      each = λ k y l at. elim (cases_lt k n) [
        | inl low ↦ subst (λ (p : ℕ). IsFirstLike g.vertices k (marks ++ m ∷ []) (marks ++ m ∷ []) y p)
            (sym (get_or_append_left marks (m ∷ []) 0 k (omega (arith, low, count))))
            (first_same g graph marks (marks ++ m ∷ []) marks (marks ++ m ∷ []) n n k (omega (arith, low)) same same y
            (λ i e. let b = edges_below g graph k y at i e in omega (arith, b, low)) (get_or marks k 0) (so.each k y low at))
        | inr last ↦ (
            let last_is : k ≡ n = omega (arith, l, last) in
            let moved = first_same g graph marks (marks ++ m ∷ []) marks (marks ++ m ∷ []) n n n (omega arith) same same x
            (edges_below g graph n x there) m is in
            let placed = subst (λ (p : ℕ). IsFirstLike g.vertices n (marks ++ m ∷ []) (marks ++ m ∷ []) x p)
            (sym (get_or_push marks m 0 k (count ∙ sym last_is))) moved in
            subst (λ (z : Vertex). IsFirstLike g.vertices k (marks ++ m ∷ []) (marks ++ m ∷ []) z (get_or (marks ++ m ∷ []) k 0))
            (one_vertex g.vertices k n x y last_is there at)
            (subst (λ (p : ℕ). IsFirstLike g.vertices p (marks ++ m ∷ []) (marks ++ m ∷ []) x (get_or (marks ++ m ∷ []) k 0)) (sym last_is) placed))
      ];
    }

pub partnered_more : (g h : Numbered) → IsGraph g → IsGraph h → (marks : List ℕ) (n : ℕ) (y : Vertex) (partners : List ℕ) (m : ℕ)
    → PartneredTo g.vertices marks h.vertices n partners → slice_get h.vertices n ≡ Some y
    → IsFirstLike g.vertices (length g.vertices) marks partners y m → PartneredTo g.vertices marks h.vertices (n + 1) (partners ++ m ∷ [])
partnered_more g h graph other marks n y partners m so there is =
    let count = so.as_many in
    let same : SameBelow n partners (partners ++ m ∷ []) = λ j l. same_pushed partners m j (omega (arith, l, count)) in
    let all = length g.vertices in
    record {
      as_many = one_more partners m ∙ ap (λ (k : ℕ). k + 1) count;
      each = λ k z l at. elim (cases_lt k n) [
        | inl low ↦ subst (λ (p : ℕ). IsFirstLike g.vertices all marks (partners ++ m ∷ []) z p)
            (sym (get_or_append_left partners (m ∷ []) 0 k (omega (arith, low, count))))
            (first_same g graph marks marks partners (partners ++ m ∷ []) all n all (omega arith) (λ j e. refl) same z
            (λ i e. let b = edges_below h other k z at i e in omega (arith, b, low)) (get_or partners k 0) (so.each k z low at))
        | inr last ↦ (
            let last_is : k ≡ n = omega (arith, l, last) in
            let moved = first_same g graph marks marks partners (partners ++ m ∷ []) all n all (omega arith) (λ j e. refl) same y
            (edges_below h other n y there) m is in
            let placed = subst (λ (p : ℕ). IsFirstLike g.vertices all marks (partners ++ m ∷ []) y p)
            (sym (get_or_push partners m 0 k (count ∙ sym last_is))) moved in
            subst (λ (u : Vertex). IsFirstLike g.vertices all marks (partners ++ m ∷ []) u (get_or (partners ++ m ∷ []) k 0))
            (one_vertex h.vertices k n y z last_is there at) placed)
      ];
    }

-- one more mark is made, given lists that are equal to the list of marks
pub marked_step : (g : Numbered) → IsGraph g → (vs : List Vertex) → vs ≡ g.vertices → (n : ℕ) (x : Vertex) (marks firsts seconds : List ℕ) (m : ℕ)
    → (longer : List ℕ) → firsts ≡ marks → seconds ≡ marks → longer ≡ marks ++ m ∷ [] → MarkedTo vs n marks → slice_get vs n ≡ Some x
    → IsFirstLike vs n firsts seconds x m → MarkedTo vs (n + 1) longer
marked_step g graph vs all n x marks firsts seconds m longer a b z so there is =
    subst (λ (us : List Vertex). MarkedTo us (n + 1) longer) (sym all)
    (subst (λ (ws : List ℕ). MarkedTo g.vertices (n + 1) ws) (sym z)
    (marked_more g graph n x marks m (subst (λ (us : List Vertex). MarkedTo us n marks) all so)
    (ap (λ (us : List Vertex). slice_get us n) (sym all) ∙ there)
    (subst (λ (us : List Vertex). IsFirstLike us n marks marks x m) all
    (subst (λ (ws : List ℕ). IsFirstLike vs n ws marks x m) a (subst (λ (ws : List ℕ). IsFirstLike vs n firsts ws x m) b is)))))

pub partnered_step : (g h : Numbered) → IsGraph g → IsGraph h → (vs os : List Vertex) → vs ≡ g.vertices → os ≡ h.vertices → (marks : List ℕ) (n : ℕ)
    (y : Vertex) (partners so_far : List ℕ) (m : ℕ) (longer : List ℕ) → so_far ≡ partners → longer ≡ partners ++ m ∷ []
    → PartneredTo vs marks os n partners → slice_get os n ≡ Some y → IsFirstLike vs (length vs) marks so_far y m
    → PartneredTo vs marks os (n + 1) longer
partnered_step g h graph other vs os all others marks n y partners so_far m longer a z so there is =
    subst (λ (us : List Vertex). PartneredTo us marks os (n + 1) longer) (sym all)
    (subst (λ (us : List Vertex). PartneredTo g.vertices marks us (n + 1) longer) (sym others)
    (subst (λ (ws : List ℕ). PartneredTo g.vertices marks h.vertices (n + 1) ws) (sym z)
    (partnered_more g h graph other marks n y partners m
    (subst (λ (us : List Vertex). PartneredTo g.vertices marks us n partners) others (subst (λ (us : List Vertex). PartneredTo us marks os n partners) all so))
    (ap (λ (us : List Vertex). slice_get us n) (sym others) ∙ there)
    (subst (λ (us : List Vertex). IsFirstLike us (length us) marks partners y m) all
    (subst (λ (ws : List ℕ). IsFirstLike vs (length vs) marks ws y m) a is)))))

pub all_marked : (vs : List Vertex) (n : ℕ) (marks : List ℕ) → n ≡ length vs → MarkedTo vs n marks → AreMarks vs marks
all_marked vs n marks all so = record {
  as_many = so.as_many ∙ all;
  each = λ v x there. so.each v x (let low = got_within vs v x there in omega (arith, low, all)) there;
}

pub all_partnered : (vs : List Vertex) (marks : List ℕ) (others : List Vertex) (n : ℕ) (partners : List ℕ) → n ≡ length others
    → PartneredTo vs marks others n partners → ArePartnersBy vs marks others partners
all_partnered vs marks others n partners all so = record {
  as_many = so.as_many ∙ all;
  each = λ w y there. so.each w y (let low = got_within others w y there in omega (arith, low, all)) there;
}

-- ---- being alike by marks

name_again : (p q : Op) → local_name p ≡ None → p.kind ≡ q.kind → local_name q ≡ None
name_again p q none same = sym (ap name_by_kind same) ∙ none

kind_flip : (p q : Op) → IsKindRewritten (λ n. n) p q → IsKindRewritten (λ n. n) q p
kind_flip p q (inl k) = inl (name_again p q k.0 k.1, sym k.1)
kind_flip p q (inr s) = inr (s.0, s.2, s.1)

no_name : (p : Op) (name : List ℕ) → local_name p ≡ None → local_name p ≡ Some name → ⊥
no_name p name none named = let e : ◌≡◌ {A = Option (List ℕ)} None (Some name) = sym none ∙ named in cc

kind_chain : (p q r : Op) → IsKindRewritten (λ n. n) p q → IsKindRewritten (λ n. n) q r → IsKindRewritten (λ n. n) p r
kind_chain p q r (inl k) (inl l) = inl (k.0, k.1 ∙ l.1)
kind_chain p q r (inl k) (inr t) = absurd (no_name q t.0 (name_again p q k.0 k.1) t.1)
kind_chain p q r (inr s) (inl l) = absurd (no_name q s.0 l.0 s.2)
kind_chain p q r (inr s) (inr t) = let same : s.0 ≡ t.0 = inside (sym s.2 ∙ t.1) in inr (s.0, s.1, t.2 ∙ ap Some (sym same))

like_flip : (xs ys : List ℕ) (x y : Vertex) → IsLike (HaveOneMark xs ys) x y → IsLike (HaveOneMark ys xs) y x
like_flip xs ys x y like =
    let count = like.as_many in
    record {
      kind = kind_flip x.op y.op like.kind;
      as_many = sym count;
      each = λ i l. let one = like.each i (omega (arith, l, count)) in record { index = sym one.index; mark = sym one.mark };
    }

like_chain : (xs ys zs : List ℕ) (x y z : Vertex) → IsLike (HaveOneMark xs ys) x y → IsLike (HaveOneMark ys zs) y z → IsLike (HaveOneMark xs zs) x z
like_chain xs ys zs x y z first second =
    let count = first.as_many in
    record {
      kind = kind_chain x.op y.op z.op first.kind second.kind;
      as_many = count ∙ second.as_many;
      each = λ i l.
          let one = first.each i l in
          let two = second.each i (omega (arith, l, count)) in
          record { index = one.index ∙ two.index; mark = one.mark ∙ two.mark };
    }

-- ---- the relation that is made of marks

abbrev OneMark : Option ℕ → Option ℕ → Type 0
OneMark o p = (n : ℕ) × (o ≡ Some n) × (p ≡ Some n)

one_mark : (o p : Option ℕ) → same_mark o p ≡ true → OneMark o p
one_mark (Some a) (Some b) e = (a, refl, ap Some (sym (eqb-true a b e)))
one_mark (Some a) None e = absurd cc
one_mark None (Some b) e = absurd cc
one_mark None None e = absurd cc

is_one_mark : (o p : Option ℕ) (n : ℕ) → o ≡ Some n → p ≡ Some n → same_mark o p ≡ true
is_one_mark o p n first second = (λ i. same_mark (first i) (second i)) ∙ eq-eqb n n refl

-- vertices that are alike are matched, for any local trees
pub like_is_matched : (g h : Numbered) → IsGraph g → IsGraph h → (test : ℕ → ℕ → Bool) → ((v w : ℕ) → test v w ≡ true → AreLike g h (By test) v w)
    → (ls : List Local) → IsMatched (record { graph = g; locals = ls }) (record { graph = h; locals = ls }) (By test)
like_is_matched g h graph other test have ls v w related =
    let b : Build = record { graph = g; locals = ls } in
    let c : Build = record { graph = h; locals = ls } in
    let a = have v w related in
    let x = a.first in
    let y = a.second in
    let count = a.like.as_many in
    let no_edge : Edge = record { vertex = 0; index = 0 } in
    let is = at_number IsVertex g.vertices graph.vertex v x a.first_there in
    let also = at_number IsVertex h.vertices other.vertex w y a.second_there in
    let of = at_number (λ (z : Vertex). IsVertexOf z z.op.kind) g.vertices graph.kind v x a.first_there in
    inr (record {
      first = x;
      second = y;
      first_there = a.first_there;
      second_there = a.second_there;
      same = elim a.like.kind [
        | inl k ↦ same_by_kind b c x y is also of k.1 (λ name named. refl)
        | inr s ↦ same_sources b c x y is also s.0 s.0 s.1 s.2 refl
      ];
      inputs = both_by_place (EdgesMatch b c (By test)) x.inputs y.inputs count (λ i d l.
          let one = a.like.each i l in
          let first = get_or_default x.inputs i d no_edge l in
          let second = get_or_default y.inputs i d no_edge (omega (arith, l, count)) in
          subst (λ (f : Edge). EdgesMatch b c (By test) (get_or x.inputs i d) f) (sym second)
          (subst (λ (e : Edge). EdgesMatch b c (By test) e (edge_at y i)) (sym first) (inr (one.vertices, one.index))));
    })

module _ (g h : Numbered) (graph : IsGraph g) (other : IsGraph h) (marks partners : List ℕ)
    (marked : AreMarks g.vertices marks) (partnered : ArePartnersBy g.vertices marks h.vertices partners) where
  mark_at : (v : ℕ) → v < length g.vertices → slice_get marks v ≡ Some (get_or marks v 0)
  mark_at v low = let count = marked.as_many in slice_get-get_or marks v 0 (omega (arith, low, count))

  partner_at : (w : ℕ) → w < length h.vertices → slice_get partners w ≡ Some (get_or partners w 0)
  partner_at w low = let count = partnered.as_many in slice_get-get_or partners w 0 (omega (arith, low, count))

  -- the lowest vertex with the mark of this one
  lowest_like : (v : ℕ) (x : Vertex) → slice_get g.vertices v ≡ Some x → (u : Vertex) → slice_get g.vertices (get_or marks v 0) ≡ Some u → (ys : List ℕ)
      (y : Vertex) → IsLike (HaveOneMark marks ys) x y → IsLike (HaveOneMark marks ys) u y
  lowest_like v x there u at ys y like =
      let is = marked.each v x there in
      let upto = is.upto in
      elim (cases_lt (get_or marks v 0) v) [
        | inl low ↦ like_chain marks marks ys u x y (is.like u low at) like
        | inr same ↦ (
            let own : get_or marks v 0 ≡ v = omega (arith, same, upto) in
            subst (λ (z : Vertex). IsLike (HaveOneMark marks ys) z y) (one_vertex g.vertices (get_or marks v 0) v x u own there at) like)
      ]

  like_lowest : (v : ℕ) (x : Vertex) → slice_get g.vertices v ≡ Some x → (u : Vertex) → slice_get g.vertices (get_or marks v 0) ≡ Some u → (ys : List ℕ)
      (y : Vertex) → IsLike (HaveOneMark marks ys) u y → IsLike (HaveOneMark marks ys) x y
  like_lowest v x there u at ys y like =
      let is = marked.each v x there in
      let upto = is.upto in
      elim (cases_lt (get_or marks v 0) v) [
        | inl low ↦ like_chain marks marks ys x u y (like_flip marks marks u x (is.like u low at)) like
        | inr same ↦ (
            let own : get_or marks v 0 ≡ v = omega (arith, same, upto) in
            subst (λ (z : Vertex). IsLike (HaveOneMark marks ys) z y) (sym (one_vertex g.vertices (get_or marks v 0) v x u own there at)) like)
      ]

  -- vertices that are alike by marks have one mark
  meet : (v w : ℕ) (x y : Vertex) → slice_get g.vertices v ≡ Some x → slice_get h.vertices w ≡ Some y → IsLike (HaveOneMark marks partners) x y
      → share_mark marks partners v w ≡ true
  meet v w x y first second like =
      let n = get_or marks v 0 in
      let m = get_or partners w 0 in
      let low = got_within g.vertices v x first in
      let under = got_within h.vertices w y second in
      let is = marked.each v x first in
      let also = partnered.each w y second in
      let upto = is.upto in
      let u = get_within g.vertices n (omega (arith, low, upto)) in
      let not_less : m < n → ⊥ = λ less.
      let z = get_within g.vertices m (omega (arith, low, upto, less)) in
      is.before m z.0 less z.1
      (like_chain marks partners marks z.0 y x (also.like z.0 (omega (arith, low, upto, less)) z.1) (like_flip marks partners x y like)) in
      let not_more : n < m → ⊥ = λ more. also.before n u.0 more u.1 (lowest_like v x first u.0 u.1 partners y like) in
      let same : m ≡ n = elim (cases_lt m n) [
        | inl less ↦ absurd (not_less less)
        | inr rest ↦ elim (cases_lt n m) [ inl more ↦ absurd (not_more more) | inr rest_too ↦ omega (arith, rest, rest_too) ]
      ] in
      is_one_mark (slice_get marks v) (slice_get partners w) n (mark_at v low) (partner_at w under ∙ ap Some same)

  -- the vertices with one mark, and that they are alike by marks
  record IsPair (v w : ℕ) : Type 0 where
    first : Vertex
    second : Vertex
    first_there : slice_get g.vertices v ≡ Some first
    second_there : slice_get h.vertices w ≡ Some second
    like : IsLike (HaveOneMark marks partners) first second
    mark : slice_get marks v ≡ slice_get partners w
    reach : get_or partners w 0 ≤ v

  pair : (v w : ℕ) → share_mark marks partners v w ≡ true → IsPair v w
  pair v w related =
      let o = one_mark (slice_get marks v) (slice_get partners w) related in
      let count = marked.as_many in
      let other_count = partnered.as_many in
      let in_marks = got_within marks v o.0 o.1 in
      let in_partners = got_within partners w o.0 o.2 in
      let low : v < length g.vertices = omega (arith, in_marks, count) in
      let x = get_within g.vertices v low in
      let y = get_within h.vertices w (omega (arith, in_partners, other_count)) in
      let is = marked.each v x.0 x.1 in
      let also = partnered.each w y.0 y.1 in
      let upto = is.upto in
      let mark_is : get_or marks v 0 ≡ o.0 = get_or_from_slice_get marks v o.0 0 o.1 in
      let partner_is : get_or partners w 0 ≡ o.0 = get_or_from_slice_get partners w o.0 0 o.2 in
      let same : get_or partners w 0 ≡ get_or marks v 0 = partner_is ∙ sym mark_is in
      let u = get_within g.vertices (get_or marks v 0) (omega (arith, low, upto)) in
      let like = also.like u.0 (omega (arith, low, upto, same)) (ap (slice_get g.vertices) same ∙ u.1) in
      record {
        first = x.0;
        second = y.0;
        first_there = x.1;
        second_there = y.1;
        like = like_lowest v x.0 x.1 u.0 u.1 partners y.0 like;
        mark = o.1 ∙ sym o.2;
        reach = omega (arith, same, upto);
      }

  are_like : (v w : ℕ) → share_mark marks partners v w ≡ true → AreLike g h (By (share_mark marks partners)) v w
  are_like v w related =
      let p = pair v w related in
      let low = got_within g.vertices v p.first p.first_there in
      record {
        first = p.first;
        second = p.second;
        first_there = p.first_there;
        second_there = p.second_there;
        like = record {
          kind = p.like.kind;
          as_many = p.like.as_many;
          each = λ i l.
              let one = p.like.each i l in
              let e = edge_at p.first i in
              let lower = edges_below g graph v p.first p.first_there i l in
              let has = mark_at e.vertex (omega (arith, lower, low)) in
              record {
                index = one.index;
                vertices = is_one_mark (slice_get marks e.vertex) (slice_get partners (edge_at p.second i).vertex) (get_or marks e.vertex 0) has
                    (sym one.mark ∙ has);
              };
        };
      }

  module _ (test : ℕ → ℕ → Bool) (have : (v w : ℕ) → test v w ≡ true → AreLike g h (By test) v w) where
    most_below : (n v w : ℕ) → v < n → test v w ≡ true → share_mark marks partners v w ≡ true
    most_below zero v w lt related = absurd (omega (arith, lt))
    most_below (suc n) v w lt related =
        let a = have v w related in
        meet v w a.first a.second a.first_there a.second_there (record {
          kind = a.like.kind;
          as_many = a.like.as_many;
          each = λ i l.
              let one = a.like.each i l in
              let lower = edges_below g graph v a.first a.first_there i l in
              let p = pair (edge_at a.first i).vertex (edge_at a.second i).vertex
              (most_below n (edge_at a.first i).vertex (edge_at a.second i).vertex (omega (arith, lt, lower)) one.vertices) in
              record { index = one.index; mark = p.mark };
        })

  on_one_list : MatchedEndAlike g h → (ls : List Local) (v w : ℕ) → share_mark marks partners v w ≡ true
      → outcome (record { graph = g; locals = ls }) v ≡ outcome (record { graph = h; locals = ls }) w
  on_one_list law ls v w related = law ls ls (share_mark marks partners) (like_is_matched g h graph other (share_mark marks partners) are_like ls) v w related

  -- vertices with one mark have one outcome on the same sources
  share_outcome : MatchedEndAlike g h → DependOnSources g → DependOnSources h → (ls ms : List Local) (v w : ℕ) → share_mark marks partners v w ≡ true
      → HaveSameSources g v ls ms ⊎ HaveSameSources h w ls ms
      → outcome (record { graph = g; locals = ls }) v ≡ outcome (record { graph = h; locals = ms }) w
  share_outcome law one two ls ms v w related (inl same) = one ls ms v same ∙ on_one_list law ms v w related
  share_outcome law one two ls ms v w related (inr same) = on_one_list law ls v w related ∙ two ls ms w same

  -- the lemma of this file
  pub loaded_matched : (d e : List ℕ) → IsGraphIn d g → IsGraphIn e h → MatchedEndAlike g h → DependOnSources g → DependOnSources h
      → LoadMatched d g e h partners
  loaded_matched d e first second law one two = record {
    first = first;
    second = second;
    test = share_mark marks partners;
    like = are_like;
    most = λ test have v w related. most_below test have (suc v) v w (omega arith) related;
    as_many = partnered.as_many;
    partner = λ v w is low.
        let count = partnered.as_many in
        let under = got_within partners w v is in
        let x = get_within g.vertices v low in
        let y = get_within h.vertices w (omega (arith, under, count)) in
        let found : get_or partners w 0 ≡ v = get_or_from_slice_get partners w v 0 is in
        meet v w x.0 y.0 x.1 y.1 ((partnered.each w y.0 y.1).like x.0 (omega (arith, low, found)) (ap (slice_get g.vertices) found ∙ x.1));
    lowest = λ v w n is related.
        let reach = (pair v w related).reach in
        let found : get_or partners w 0 ≡ n = get_or_from_slice_get partners w n 0 is in
        omega (arith, reach, found);
    upto = λ w n is.
        let count = partnered.as_many in
        let under = got_within partners w n is in
        let y = get_within h.vertices w (omega (arith, under, count)) in
        let found : get_or partners w 0 ≡ n = get_or_from_slice_get partners w n 0 is in
        let most = (partnered.each w y.0 y.1).upto in
        omega (arith, most, found);
    matched = λ ls ms some have v w is. let p = have v w is in inl (share_outcome law one two ls ms v w p.0 p.1);
    outcomes = share_outcome law one two;
  }
