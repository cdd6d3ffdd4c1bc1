-- States that are alike by a stronger relation are alike by a weaker one; and what a write in a list or in a store leaves alike.
use Rattle.std.proofs.Common.{◌≡◌, ℕ, zero, suc, List, [], ◌∷◌, Some, None, inl, inr, sym, subst}
use Rattle.std.specs.Prelude.{slice_get, slice_set, replicate}
use Rattle.std.specs.FinMap as finite
use Rattle.llb_tree.specs.Tree.{TreeMap}
use Rattle.llb_mount.specs.declared.shown_tree.Shown.{Shown}
use Rattle.llb_model.specs.TwoCacheModels.{store_of}
use Rattle.llb_model.specs.Caches.{Instance, place_cmp, Store, content, put, put_all}
use Rattle.llb_model.specs.Program.{Workspace, LocalTree, Files, Layers, Mounted, Work}
use Rattle.llb_model.proofs.StoreWrites.{place_or, content_same, content_other}
use Rattle.llb_laws.specs.AlikeTrees.{BothOptions, BothLists, AreAlike, AreAlikeMounts, AreAlikeViews, AreAlikeWorkspaces, AreAlikeWorks}
use Rattle.llb_laws.specs.AlikeStates.{AreAlikeStores}
use Rattle.llb_laws.proofs.AlikeValues.{carry_options}
use Rattle.llb_laws.proofs.ContentsByValue.{weaker_like, weaker_trees}
use Rattle.llb_laws.proofs.AlikeTreesWithNames.{Alike, AlikeMounts, AlikeViews, AlikeWorkspaces, AlikeWorks, AlikeStores}

-- ---- lists

-- of two lists whose items are related place by place, each by the relation of its place
pub both_by_place : {A : Type 0} (P : ℕ → A → A → Type 0) (T : A → A → Type 0) → ((v : ℕ) (x y : A) → P v x y → T x y) → (xs ys : List A)
    → ((v : ℕ) → BothOptions (P v) (slice_get xs v) (slice_get ys v)) → BothLists T xs ys
both_by_place P T wide [] [] h = tt
both_by_place P T wide (x ∷ xs) (y ∷ ys) h =
    (wide 0 x y (h 0), both_by_place (λ v. P (suc v)) T (λ v. wide (suc v)) xs ys (λ v. h (suc v)))
both_by_place P T wide [] (y ∷ ys) h = absurd (h 0)
both_by_place P T wide (x ∷ xs) [] h = absurd (h 0)

pub both_weaker : {A : Type 0} (P T : A → A → Type 0) → ((x y : A) → P x y → T x y) → (xs ys : List A) → BothLists P xs ys → BothLists T xs ys
both_weaker P T wide [] [] h = tt
both_weaker P T wide (x ∷ xs) (y ∷ ys) h = (wide x y h.0, both_weaker P T wide xs ys h.1)
both_weaker P T wide [] (y ∷ ys) h = absurd h
both_weaker P T wide (x ∷ xs) [] h = absurd h

-- a write of related items
pub each_set : {A : Type 0} (P : ℕ → A → A → Type 0) (xs ys : List A) (v : ℕ) (x y : A) → P v x y
    → ((u : ℕ) → BothOptions (P u) (slice_get xs u) (slice_get ys u)) → (u : ℕ)
    → BothOptions (P u) (slice_get (slice_set xs v x) u) (slice_get (slice_set ys v y) u)
each_set P [] [] v x y new h u = h u
each_set P (a ∷ xs) (b ∷ ys) zero x y new h zero = new
each_set P (a ∷ xs) (b ∷ ys) zero x y new h (suc u) = h (suc u)
each_set P (a ∷ xs) (b ∷ ys) (suc v) x y new h zero = h zero
each_set P (a ∷ xs) (b ∷ ys) (suc v) x y new h (suc u) = each_set (λ k. P (suc k)) xs ys v x y new (λ k. h (suc k)) u
each_set P [] (b ∷ ys) v x y new h u = absurd (h zero)
each_set P (a ∷ xs) [] v x y new h u = absurd (h zero)

pub each_replicate : {A : Type 0} (P : A → A → Type 0) (x : A) → P x x → (n u : ℕ) → BothOptions P (slice_get (replicate n x) u) (slice_get (replicate n x) u)
each_replicate P x itself zero u = tt
each_replicate P x itself (suc n) zero = itself
each_replicate P x itself (suc n) (suc u) = each_replicate P x itself n u

pub both_replicate : {A : Type 0} (P : A → A → Type 0) (x : A) → P x x → (n : ℕ) → BothLists P (replicate n x) (replicate n x)
both_replicate P x itself zero = tt
both_replicate P x itself (suc n) = (itself, both_replicate P x itself n)

-- ---- stores

module _ (N : List ℕ → Type 0) (S : List ℕ → List ℕ → Type 0) where
  pub put_alike : (s r : Store) → AlikeStores N S s r → (p : Instance) (t u : TreeMap) → Alike N S t u → AlikeStores N S (put s p t) (put r p u)
  put_alike s r h p t u like q = elim (place_or q p) [
    | inl same ↦ subst (λ (x : Instance). BothOptions (Alike N S) (content (put s p t) x) (content (put r p u) x)) (sym same)
        (carry_options (Alike N S) (content (put s p t) p) (Some t) (content (put r p u) p) (Some u) (content_same s p t) (content_same r p u) like)
    | inr apart ↦ carry_options (Alike N S) (content (put s p t) q) (content s q) (content (put r p u) q) (content r q) (content_other s p t q apart)
        (content_other r p u q apart) (h q)
  ]

-- caches without instances
pub nothing_in : (p : Instance) → content (store_of []) p ≡ None
unfolding content store_of
nothing_in p = finite.get-empty place_cmp p

pub none_alike : (S : List ℕ → List ℕ → Type 0) → AreAlikeStores S (store_of []) (store_of [])
none_alike S p =
    carry_options (AreAlike S) (content (store_of []) p) None (content (store_of []) p) None (nothing_in p) (nothing_in p) tt

-- ---- a weaker relation

module _ (N : List ℕ → Type 0) (R S : List ℕ → List ℕ → Type 0) (weaker : (a b : List ℕ) → R a b → S a b) where
  pub plain_tree : (t u : TreeMap) → Alike N R t u → AreAlike S t u
  plain_tree t u h p = weaker_like R S weaker (finite.get t p) (finite.get u p) (h.like p)

  pub weaker_tree : (t u : TreeMap) → Alike N R t u → Alike N S t u
  weaker_tree t u h = record { like = plain_tree t u h; named = h.named }

  plain_mount : (m n : Shown) → AlikeMounts N R m n → AreAlikeMounts S m n
  plain_mount m n h = record { dest = h.dest; selector = h.selector; readonly = h.readonly; tree = plain_tree m.tree n.tree h.tree }

  plain_trees : (ts us : List TreeMap) → BothLists (Alike N R) ts us → BothLists (AreAlike S) ts us
  plain_trees = weaker_trees (Alike N R) (AreAlike S) plain_tree

  pub plain_views : (v w : List Shown) → AlikeViews N R v w → AreAlikeViews S v w
  plain_views = both_weaker (AlikeMounts N R) (AreAlikeMounts S) plain_mount

  pub plain_workspace : (x y : Workspace) → AlikeWorkspaces N R x y → AreAlikeWorkspaces S x y
  plain_workspace (LocalTree t) (LocalTree u) h = plain_tree t u h
  plain_workspace (Files is rs) (Files js ss) h = (plain_trees is js h.0, plain_trees rs ss h.1)
  plain_workspace (Layers is t) (Layers js u) h = (plain_trees is js h.0, plain_tree t u h.1)
  plain_workspace (Mounted v cs l) (Mounted w ds m) h = (plain_views v w h.0, h.1, h.2)
  plain_workspace _ _ h = absurd h

  pub plain_works : (x y : Work) → AlikeWorks N R x y → AreAlikeWorks S x y
  plain_works x y h = record { own = plain_workspace x.own y.own h.own; trees = plain_trees x.trees y.trees h.trees }

  -- trees that are alike by the stronger relation, written into stores that are alike by the weaker one
  pub put_all_alike : (ps : List Instance) (ts us : List TreeMap) → BothLists (Alike N R) ts us → (s r : Store) → AlikeStores N S s r
      → AlikeStores N S (put_all s ps ts) (put_all r ps us)
  put_all_alike [] ts us k s r h = h
  put_all_alike (p ∷ ps) [] [] k s r h = h
  put_all_alike (p ∷ ps) (t ∷ ts) (u ∷ us) k s r h =
      put_all_alike ps ts us k.1 (put s p t) (put r p u) (put_alike N S s r h p t u (weaker_tree t u k.0))
  put_all_alike (p ∷ ps) [] (u ∷ us) k s r h = absurd k
  put_all_alike (p ∷ ps) (t ∷ ts) [] k s r h = absurd k
