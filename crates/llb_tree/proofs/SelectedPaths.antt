-- The paths at and below a node that pass tests of their names, by its children.
use Rattle.std.proofs.Common.{◌≡◌, ℕ, ◌+◌, ◌<◌, ◌≤◌, Bool, true, false, cond, ◌&&◌, List, [], ◌∷◌, ◌++◌, map, take, length, get_or, refl, sym, ap, ◌∙◌}
use Rattle.std.proofs.Common.{append_assoc, arith, nat_lt, Result, Ok, Err}
use Rattle.std.proofs.lemmas.Bool.{lt-ltb}
use Rattle.llb_tree.specs.Path as path
use Rattle.llb_tree.specs.declared.fault.TreeFault.{TreeFault}
use Rattle.llb_tree.specs.declared.fault.TreeFault.TheVariants.{BadName}
use Rattle.std.proofs.lemmas.List.{map-append, take_all, append-nil}
use Rattle.std.proofs.lemmas.List.Elements.{filter-append}
use Rattle.std.specs.List.{filter}
use Rattle.std.specs.FinMap as finite
use Rattle.llb_tree.specs.Tree.{TreeMap}
use Rattle.llb_tree.specs.Nodes.{Pair, name_of, below, flat, kids_of, map_of, AreSorted}
use Rattle.llb_tree.specs.PathTests.{passes_all}
use Rattle.llb_tree.specs.declared.node.Kind.{Kind}
use Rattle.llb_tree.specs.declared.node.Child.{Child}
use Rattle.llb_tree.proofs.Entries.{entries-map_of}
use Rattle.llb_tree.proofs.FilteredNodes.{keys_of, split_next}

abbrev pub Paths : Type 0
Paths = List (List (List ℕ))

-- paths below another
abbrev pub under : List (List ℕ) → Paths → Paths
under p = map (λ (q : List (List ℕ)). p ++ q)

-- below the root they are the same
pub under_root : (qs : Paths) → under [] qs ≡ qs
under_root [] = refl
under_root (q ∷ qs) = ap (λ xs. q ∷ xs) (under_root qs)

-- a path that is short takes one more name
pub below_is : (p q : List (List ℕ)) (n : List ℕ) → length p < 128 → path.below p n ≡ Ok q → q ≡ p ++ n ∷ []
below_is p q n short is = go (nat_lt (length p) 128) (lt-ltb (length p) 128 short) is
  where
    go : (b : Bool) → b ≡ true → cond {A = Result (List (List ℕ)) TreeFault} b (Ok (p ++ n ∷ [])) (Err BadName) ≡ Ok q → q ≡ p ++ n ∷ []
    go true at is = let same : p ++ n ∷ [] ≡ q = cc in sym same
    go false at is = absurd cc

under_more : (p : List (List ℕ)) (n : List ℕ) (qs : Paths) → under p (map (λ (q : List (List ℕ)). n ∷ q) qs) ≡ under (p ++ n ∷ []) qs
under_more p n [] = refl
under_more p n (q ∷ qs) = λ i. sym (append_assoc p (n ∷ []) q) i ∷ under_more p n qs i

flat_more : (ks : List Child) (k : Child) → keys_of (flat (ks ++ k ∷ [])) ≡ keys_of (flat ks) ++ keys_of (below k)
flat_more [] k = ap keys_of (append-nil (below k))
flat_more (j ∷ ks) k =
    map-append (λ (e : Pair). e.0) (below j) (flat (ks ++ k ∷ [])) ∙ ap (λ qs. keys_of (below j) ++ qs) (flat_more ks k)
    ∙ sym (append_assoc (keys_of (below j)) (keys_of (flat ks)) (keys_of (below k)))
    ∙ ap (λ qs. qs ++ keys_of (below k)) (sym (map-append (λ (e : Pair). e.0) (below j) (flat ks)))

module _ {X : Type 0} (passes : X → List ℕ → Bool) where
  -- the paths that pass all tests
  abbrev pub hits : List X → Paths → Paths
  hits ts qs = filter (passes_all passes ts) qs

  hits_below : (t : X) (ts : List X) (n : List ℕ) (es : List Pair)
      → hits (t ∷ ts) (keys_of (map (λ (e : Pair). (n ∷ e.0, e.1)) es)) ≡ cond (passes t n) (map (λ (q : List (List ℕ)). n ∷ q) (hits ts (keys_of es))) []
  hits_below t ts n [] = both (passes t n)
    where
      both : (b : Bool) → ◌≡◌ {A = Paths} [] (cond b [] [])
      both true = refl
      both false = refl
  hits_below t ts n (e ∷ es) = by_test (passes t n) (passes_all passes ts e.0) (hits_below t ts n es)
    where
      by_test : (b c : Bool)
          → hits (t ∷ ts) (keys_of (map (λ (x : Pair). (n ∷ x.0, x.1)) es)) ≡ cond b (map (λ (q : List (List ℕ)). n ∷ q) (hits ts (keys_of es))) []
          → cond (b && c) ((n ∷ e.0) ∷ hits (t ∷ ts) (keys_of (map (λ (x : Pair). (n ∷ x.0, x.1)) es)))
          (hits (t ∷ ts) (keys_of (map (λ (x : Pair). (n ∷ x.0, x.1)) es)))
          ≡ cond b (map (λ (q : List (List ℕ)). n ∷ q) (cond c (e.0 ∷ hits ts (keys_of es)) (hits ts (keys_of es)))) []
      by_test true true rest = ap (λ qs. (n ∷ e.0) ∷ qs) rest
      by_test true false rest = rest
      by_test false c rest = rest

  none_flat : (ks : List Child) → hits [] (keys_of (flat ks)) ≡ []
  none_flat [] = refl
  none_flat (k ∷ ks) = ap (hits []) (map-append (λ (e : Pair). e.0) (below k) (flat ks))
      ∙ filter-append (passes_all passes []) (keys_of (below k)) (keys_of (flat ks))
      ∙ ap (λ qs. qs ++ hits [] (keys_of (flat ks))) (none (finite.entries k.node)) ∙ none_flat ks
    where
      none : (es : List Pair) → hits [] (keys_of (map (λ (e : Pair). (name_of k ∷ e.0, e.1)) es)) ≡ []
      none [] = refl
      none (e ∷ es) = none es

  -- a child whose name does not pass has none
  pub none_in : (t : X) (ts : List X) (kid : Child) (p : List (List ℕ)) (found : Paths) → passes t (name_of kid) ≡ false
      → found ≡ found ++ under p (hits (t ∷ ts) (keys_of (below kid)))
  none_in t ts kid p found fails = sym (ap (λ qs. found ++ under p qs) (hits_below t ts (name_of kid) (finite.entries kid.node)
      ∙ ap (λ b. cond b (map (λ (q : List (List ℕ)). name_of kid ∷ q) (hits ts (finite.keys kid.node))) []) fails) ∙ append-nil found)

  -- the paths that pass in a child are found below its name
  pub all_in : (t : X) (ts : List X) (kid : Child) (p : List (List ℕ)) (n : List ℕ) (old new : Paths) → passes t (name_of kid) ≡ true → n ≡ name_of kid
      → new ≡ old ++ under (p ++ n ∷ []) (hits ts (finite.keys kid.node)) → new ≡ old ++ under p (hits (t ∷ ts) (keys_of (below kid)))
  all_in t ts kid p n old new hit named is = is ∙ ap (λ qs. old ++ qs) (ap (λ m. under (p ++ m ∷ []) (hits ts (finite.keys kid.node))) named
      ∙ sym (under_more p (name_of kid) (hits ts (finite.keys kid.node)))
      ∙ ap (under p) (sym (hits_below t ts (name_of kid) (finite.entries kid.node)
      ∙ ap (λ b. cond b (map (λ (q : List (List ℕ)). name_of kid ∷ q) (hits ts (finite.keys kid.node))) []) hit)))

  -- the paths that pass in one more child are found
  pub found_next : (ts : List X) (ks : List Child) (i : ℕ) (kid : Child) (p : List (List ℕ)) (first old new : Paths) → i < length ks → kid ≡ get_or ks i kid
      → old ≡ first ++ under p (hits ts (keys_of (flat (take i ks)))) → new ≡ old ++ under p (hits ts (keys_of (below kid)))
      → new ≡ first ++ under p (hits ts (keys_of (flat (take (i + 1) ks))))
  found_next ts ks i kid p first old new lt at so_far is =
      is ∙ ap (λ qs. qs ++ under p (hits ts (keys_of (below kid)))) so_far
      ∙ append_assoc first (under p (hits ts (keys_of (flat (take i ks))))) (under p (hits ts (keys_of (below kid))))
      ∙ ap (λ qs. first ++ qs) (sym (ap (λ xs. under p (hits ts (keys_of (flat xs)))) (split_next ks i kid lt at)
      ∙ ap (λ qs. under p (hits ts qs)) (flat_more (take i ks) kid)
      ∙ ap (under p) (filter-append (passes_all passes ts) (keys_of (flat (take i ks))) (keys_of (below kid)))
      ∙ map-append (λ (q : List (List ℕ)). p ++ q) (hits ts (keys_of (flat (take i ks)))) (hits ts (keys_of (below kid)))))

  module _ (k : Kind) (v : TreeMap) (view : map_of k ≡ v) (sorted : AreSorted (kids_of k)) where
    keys_are : finite.keys v ≡ [] ∷ keys_of (flat (kids_of k))
    keys_are = ap finite.keys (sym view) ∙ ap keys_of (entries-map_of k sorted)

    -- without tests the node itself passes
    pub found_here : (p : List (List ℕ)) (old new : Paths) → new ≡ old ++ p ∷ [] → new ≡ old ++ under p (hits [] (finite.keys v))
    found_here p old new is = is ∙ ap (λ qs. old ++ qs) (sym (ap (λ qs. under p (hits [] qs)) keys_are
        ∙ ap (λ qs. under p ([] ∷ qs)) (none_flat (kids_of k)) ∙ ap (λ q. q ∷ []) (append-nil p)))

    -- the paths that pass in all children of a node are those that pass in the node
    pub found_all : (t : X) (ts : List X) (ks : List Child) (i : ℕ) (p : List (List ℕ)) (old new : Paths) → kids_of k ≡ ks → length ks ≤ i
        → new ≡ old ++ under p (hits (t ∷ ts) (keys_of (flat (take i ks)))) → new ≡ old ++ under p (hits (t ∷ ts) (finite.keys v))
    found_all t ts ks i p old new kids past is = is ∙ ap (λ qs. old ++ under p qs) (ap (λ xs. hits (t ∷ ts) (keys_of (flat xs))) (take_all i ks past ∙ sym kids)
        ∙ sym (ap (hits (t ∷ ts)) keys_are))

    -- without children there are none
    pub found_none : (t : X) (ts : List X) (p : List (List ℕ)) (old : Paths) → kids_of k ≡ [] → old ≡ old ++ under p (hits (t ∷ ts) (finite.keys v))
    found_none t ts p old kids = found_all t ts [] 0 p old old kids (omega arith) (sym (append-nil old))
