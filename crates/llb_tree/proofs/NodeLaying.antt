-- One node over another, and none over children.
use Rattle.std.proofs.Common.{◌≡◌, ℕ, List, [], ◌∷◌, map, get_or, set, option_map, Option, Some, None, Result, Ok, Err, OnOk, Global}
use Rattle.std.proofs.Common.{Bool, true, false, ◌||◌, refl, sym, ap, ◌∙◌}
use Rattle.std.specs.List.{list_any}
use Rattle.std.specs.FinMap as finite
use Rattle.std.specs.FinMap.Entries.{put}
use Rattle.llb_tree.specs.ModeAndOwner.{MetaValue}
use Rattle.llb_tree.specs.Path.{name_cmp}
use Rattle.llb_tree.specs.Tree.{TreeMap, Entry, Dir, File, Look, parents}
use Rattle.llb_tree.specs.Nodes.{name_of, own_entry, kids_of, map_of, pair_of, place, AreSorted, child, look_in}
use Rattle.llb_tree.specs.Overlay.{is_file, below_file, SettingsValue, laid_meta, over, laid_over, over_at}
use Rattle.llb_tree.specs.Laying.{Lays}
use Rattle.llb_tree.specs.EntryLookup.{look_kids, get-below, get-root}
use Rattle.std.specs.Arc.{arc_value}
use Rattle.std.specs.declared.sync.Arc.{Arc}
use Rattle.llb_wire.specs.declared.bytes.Bytes.{Bytes}
use Rattle.llb_tree.specs.declared.node.Kind.{Kind}
use Rattle.llb_tree.specs.declared.node.Kind.TheVariants as kind
use Rattle.llb_tree.specs.declared.node.Child.{Child}
use Rattle.llb_tree.proofs.ChildPlaces.{is_found}
use Rattle.llb_tree.proofs.OverlayTrees.{below_file-cons}
use Rattle.llb_tree.proofs.ChildLookup.{get-child}

below_none : (g : Look) (ps : List (List (List ℕ))) → ((r : List (List ℕ)) → g r ≡ None) → list_any is_file (map g ps) ≡ false
below_none g [] none = refl
below_none g (p ∷ ps) none = (λ i. is_file (none p i) || below_none g ps none i)

-- a tree over which nothing is laid stays as it is
pub none_over : (w : SettingsValue) (f g : Look) (q : List (List ℕ)) → ((r : List (List ℕ)) → g r ≡ None) → over_at w f g q ≡ f q
none_over w f g q none = λ i. laid_over w (f q) (none q i) (below_none g (parents q) none i)

-- a tree over nothing
pub over_none : (w : SettingsValue) (o : Option Entry) (b : Bool) → laid_over w None o b ≡ option_map (over w None) o
over_none w (Some e) b = refl
over_none w None true = refl
over_none w None false = refl

-- ---- a node over a node

-- a file has nothing below it
pub record IsLone (f : Look) : Type 0 where
  pub at : (m : MetaValue) × (b : List ℕ) × (f [] ≡ Some (File m b))
  pub below : (n : List ℕ) (q : List (List ℕ)) → f (n ∷ q) ≡ None

-- all that is left of a lone file over any tree is the file, in the mode and the owner that are given
pub over_file : (w : SettingsValue) (f g : Look) (q : List (List ℕ)) → IsLone g → over_at w f g q ≡ option_map (over w None) (g q)
over_file w f g [] lone = let at = lone.at in ap (λ o. laid_over w (f []) o false) at.2 ∙ go (f []) at.0 at.1 ∙ ap (option_map (over w None)) (sym at.2)
  where
    go : (o : Option Entry) (m : MetaValue) (b : List ℕ) → ◌≡◌ {A = Option Entry} (Some (over w o (File m b))) (Some (File (laid_meta w m) b))
    go None m b = refl
    go (Some (Dir k)) m b = refl
    go (Some (File k c)) m b = refl
over_file w f g (n ∷ q) lone =
    let at = lone.at in
    (λ i. laid_over w (f (n ∷ q)) (lone.below n q i) (below_file-cons g n q i))
    ∙ ap (λ o. laid_over w (f (n ∷ q)) None (is_file o || below_file (λ r. g (n ∷ r)) q)) at.2
    ∙ ap (option_map (over w None)) (sym (lone.below n q))

-- all that is left of a tree over a lone file is the tree, in the mode and the owner that are given
pub under_file : (w : SettingsValue) (f g : Look) (q : List (List ℕ)) (e : Entry) → IsLone f → g [] ≡ Some e → over_at w f g q ≡ option_map (over w None) (g q)
under_file w f g [] e lone is = (λ i. laid_over w (lone.at.2 i) (is i) false) ∙ go lone.at.0 lone.at.1 e ∙ ap (option_map (over w None)) (sym is)
  where
    go : (m : MetaValue) (b : List ℕ) (e : Entry) → ◌≡◌ {A = Option Entry} (Some (over w (Some (File m b)) e)) (Some (over w None e))
    go m b (Dir k) = refl
    go m b (File k c) = refl
under_file w f g (n ∷ q) e lone is =
    ap (λ o. laid_over w o (g (n ∷ q)) (below_file g (n ∷ q))) (lone.below n q)
    ∙ over_none w (g (n ∷ q)) (below_file g (n ∷ q))

-- the map of a file's node has a file at the root and nothing below it
pub lone_file : (k : Kind) (m : MetaValue) (c : Arc Bytes Global) (t : TreeMap) → map_of k ≡ t → k ≡ kind.File m c → IsLone (finite.get t)
lone_file k m c t view is = record {
  at = (m, arc_value c, ap (λ x. finite.get x []) (sym view) ∙ get-root k ∙ ap (λ x. Some (own_entry x)) is);
  below = λ n q. ap (λ x. finite.get x (n ∷ q)) (sym view) ∙ get-below k n q ∙ ap (λ x. look_kids (kids_of x) n q) is;
}

-- the map of a node has the node's own entry at the root
pub root_there : (k : Kind) (t : TreeMap) → map_of k ≡ t → finite.get t [] ≡ Some (own_entry k)
root_there k t view = ap (λ x. finite.get x []) (sym view) ∙ get-root k

-- a directory with its entry over another's and its children laid over the other's represents one tree over the other
pub node_laid : (w : SettingsValue) (k u j : Kind) (m l : MetaValue) → AreSorted (kids_of k) → AreSorted (kids_of u) → own_entry k ≡ Dir m → own_entry u ≡ Dir l
    → own_entry j ≡ over w (Some (Dir m)) (Dir l) → Lays w (kids_of u) (kids_of k) (kids_of j)
    → (q : List (List ℕ)) → finite.get (map_of j) q ≡ over_at w (finite.get (map_of k)) (finite.get (map_of u)) q
node_laid w k u j m l sk su ek eu ej lays [] =
    get-root j ∙ ap (λ e. Some e) ej
    ∙ sym (λ i. laid_over w ((get-root k ∙ ap (λ e. Some e) ek) i) ((get-root u ∙ ap (λ e. Some e) eu) i) false)
node_laid w k u j m l sk su ek eu ej lays (n ∷ q) =
    let below : below_file (finite.get (map_of u)) (n ∷ q) ≡ below_file (look_in (child n (kids_of u))) q =
    below_file-cons (finite.get (map_of u)) n q
    ∙ ap (λ o. is_file o || below_file (λ r. finite.get (map_of u) (n ∷ r)) q) (get-root u ∙ ap (λ e. Some e) eu)
    ∙ ap (λ h. below_file h q) (λ i r. get-child u n r su i) in
    get-child j n q lays.sorted ∙ lays.children n q
    ∙ sym (λ i. laid_over w (get-child k n q sk i) (get-child u n q su i) (below i))

-- ---- children over children

-- over the child of the name
module _ (kid : Child) (ks : List Child) (i : ℕ) (there new : Child) (h : AreSorted ks) (at : Ok i ≡ place (name_of kid) ks) (is : there ≡ get_or ks i there)
    (same : name_of new ≡ name_of there) where
  -- to write over the child of that name is to put the new node under the name
  pub put_found : map pair_of (set ks i new) ≡ put name_cmp (name_of kid) new.node (map pair_of ks)
  put_found = (is_found (name_of kid) ks i (sym at)).written there new (same ∙ ap name_of is)

-- a fact that holds where a call succeeds yields there what follows from it
pub on_ok : {A E P Q : Type 0} (r : Result A E) → (P → Q) → OnOk r P → OnOk r Q
on_ok (Ok x) f h = f h
on_ok (Err e) f h = tt
