-- Nodes and children in the mode and the owner of a way.
use Rattle.std.proofs.Common.{◌≡◌, ℕ, zero, suc, arith, add-one, ◌+◌, ◌≤◌, Result, Ok, Err, IfOk, ◌<◌, List, [], ◌∷◌, ◌++◌, length, map, take, get_or}
use Rattle.std.proofs.Common.{option_map, Option, Some, None, Bool, true, false, cond, ◌&&◌, T, refl, sym, ap, subst, ◌∙◌}
use Rattle.std.proofs.lemmas.List.{map-append, take_all}
use Rattle.std.specs.declared.cmp.Ordering.{Ordering}
use Rattle.std.specs.Ordering.{eq_by_cmp, is_lt}
use Rattle.std.specs.FinMap as finite
use Rattle.std.specs.FinMap.Entries.{find, below_all, is_sorted}
use Rattle.llb_tree.specs.ModeAndOwner.{MetaValue}
use Rattle.llb_tree.specs.Path.{name_cmp, path_cmp}
use Rattle.llb_tree.specs.PathOrder.{path_cmp-IsTotalOrder, path_cmp-IsAntisymmetric}
use Rattle.llb_tree.specs.Tree.{TreeMap, Entry, Dir, File}
use Rattle.llb_tree.specs.Nodes.{own_entry, kids_of, map_of, pair_of, AreSorted, child, look_in}
use Rattle.llb_tree.specs.Overlay.{SettingsValue, laid_meta, over}
use Rattle.llb_tree.specs.Laying.{dress, dress_pair}
use Rattle.llb_tree.specs.EntryLookup.{get-root}
use Rattle.llb_tree.specs.declared.node.Kind.{Kind}
use Rattle.llb_tree.specs.declared.node.Child.{Child}
use Rattle.llb_tree.proofs.ChildLookup.{get-child, node_is}

abbrev Pair : Type 0
Pair = List (List ℕ) × Entry

abbrev worn : SettingsValue → Entry → Entry
worn w = over w None

-- a value for each of a list's, found by the same keys
find_mapped : {K X : Type 0} (R : K → K → Ordering) (f : X → X) (q : K) (es : List (K × X))
    → find R q (map (λ (e : K × X). (e.0, f e.1)) es) ≡ option_map f (find R q es)
find_mapped R f q [] = refl
find_mapped {X = X} R f q (e ∷ es) = ap (cond (eq_by_cmp R q e.0) (Some (f e.1))) (find_mapped R f q es) ∙ moved (eq_by_cmp R q e.0) (find R q es)
  where
    moved : (b : Bool) (rest : Option X) → cond b (Some (f e.1)) (option_map f rest) ≡ option_map f (cond b (Some e.1) rest)
    moved true rest = refl
    moved false rest = refl

-- a dressed tree has at each path the entry that was there, in the mode and the owner that are given
pub get-dress : (w : SettingsValue) (t : TreeMap) (q : List (List ℕ)) → finite.get (dress w t) q ≡ option_map (worn w) (finite.get t q)
get-dress w t q =
    finite.get-from_entries path_cmp-IsTotalOrder (map (λ (e : Pair). (e.0, worn w e.1)) (finite.entries t)) q
    ∙ find_mapped path_cmp (worn w) q (finite.entries t) ∙ ap (option_map (worn w)) (sym (finite.get-entries t q))

-- settings without modes and owners change nothing of an entry
worn_same : (w : SettingsValue) (e : Entry) → ((m : MetaValue) → laid_meta w m ≡ m) → worn w e ≡ e
worn_same w (Dir m) same = ap Dir (same m)
worn_same w (File m b) same = ap (λ x. File x b) (same m)

-- settings without modes and owners change nothing of an entry, if there is one
pub worn_all : (w : SettingsValue) (o : Option Entry) → ((m : MetaValue) → laid_meta w m ≡ m) → option_map (worn w) o ≡ o
worn_all w None same = refl
worn_all w (Some e) same = ap (λ x. Some x) (worn_same w e same)

-- where each mode and owner would be given as it is, dressing changes nothing
pub dress_same : (w : SettingsValue) (t : TreeMap) → ((m : MetaValue) → laid_meta w m ≡ m) → dress w t ≡ t
dress_same w t same = finite.same_map path_cmp-IsTotalOrder path_cmp-IsAntisymmetric (dress w t) t (λ q. get-dress w t q ∙ worn_all w (finite.get t q) same)

-- ---- children

below_dressed : (w : SettingsValue) (n : List ℕ) (es : List (List ℕ × TreeMap)) → below_all name_cmp n (map (dress_pair w) es) ≡ below_all name_cmp n es
below_dressed w n [] = refl
below_dressed w n (e ∷ es) = ap (λ b. is_lt (name_cmp n e.0) && b) (below_dressed w n es)

sorted_dressed : (w : SettingsValue) (es : List (List ℕ × TreeMap)) → is_sorted name_cmp (map (dress_pair w) es) ≡ is_sorted name_cmp es
sorted_dressed w [] = refl
sorted_dressed w (e ∷ es) = λ i. below_dressed w e.0 es i && sorted_dressed w es i

look_dressed : (w : SettingsValue) (o : Option TreeMap) (q : List (List ℕ)) → look_in (option_map (dress w) o) q ≡ option_map (worn w) (look_in o q)
look_dressed w None q = refl
look_dressed w (Some t) q = get-dress w t q

-- dressed children keep their names, so they stay in order
pub AreSorted-dressed : (w : SettingsValue) (old new : List Child) → map pair_of new ≡ map (dress_pair w) (map pair_of old) → AreSorted old → AreSorted new
AreSorted-dressed w old new is h = subst T (sym (ap (is_sorted name_cmp) is ∙ sorted_dressed w (map pair_of old))) h

-- ---- a node

-- a node whose own entry and whose children are dressed represents the dressed tree
pub node_dressed : (w : SettingsValue) (k j : Kind) → AreSorted (kids_of k) → own_entry j ≡ worn w (own_entry k)
    → map pair_of (kids_of j) ≡ map (dress_pair w) (map pair_of (kids_of k)) → map_of j ≡ dress w (map_of k)
node_dressed w k j h own kids = node_is j (dress w (map_of k)) (AreSorted-dressed w (kids_of k) (kids_of j) kids h)
    (get-dress w (map_of k) [] ∙ ap (option_map (worn w)) (get-root k) ∙ ap (λ e. Some e) (sym own))
    (λ n q. get-dress w (map_of k) (n ∷ q) ∙ ap (option_map (worn w)) (get-child k n q h)
    ∙ sym (ap (λ es. look_in (find name_cmp n es) q) kids ∙ ap (λ o. look_in o q) (find_mapped name_cmp (dress w) n (map pair_of (kids_of k)))
    ∙ look_dressed w (child n (kids_of k)) q))

-- ---- one child after another

module _ (w : SettingsValue) where
  abbrev worn_pairs : List Child → List (List ℕ × TreeMap)
  worn_pairs ks = map (dress_pair w) (map pair_of ks)

  take_more : (ks : List Child) (i : ℕ) (d : Child) → i < length ks
      → take i (worn_pairs ks) ++ dress_pair w (pair_of (get_or ks i d)) ∷ [] ≡ take (suc i) (worn_pairs ks)
  take_more [] i d h = absurd (omega arith)
  take_more (k ∷ ks) zero d h = refl
  take_more (k ∷ ks) (suc i) d h = ap (λ es. dress_pair w (pair_of k) ∷ es) (take_more ks i d (omega arith))

  -- one more child is dressed and pushed, and those so far are the dressed ones of one child more
  pub dressed_pushed : (ks old new : List Child) (i : ℕ) (made kid : Child) → map pair_of old ≡ take i (worn_pairs ks) → new ≡ old ++ made ∷ []
      → kid ≡ get_or ks i kid → pair_of made ≡ dress_pair w (pair_of kid) → i < length ks → map pair_of new ≡ take (i + 1) (worn_pairs ks)
  dressed_pushed ks old new i made kid so_far pushed is same h =
      ap (map pair_of) pushed ∙ map-append pair_of old (made ∷ []) ∙ ap (λ es. es ++ pair_of made ∷ []) so_far
      ∙ ap (λ e. take i (worn_pairs ks) ++ e ∷ []) (same ∙ ap (λ k. dress_pair w (pair_of k)) is) ∙ take_more ks i kid h
      ∙ ap (λ j. take j (worn_pairs ks)) (sym (add-one i))

  lengths : (ks : List Child) → length (worn_pairs ks) ≡ length ks
  lengths [] = refl
  lengths (k ∷ ks) = ap suc (lengths ks)

  -- when no child is left, all are dressed
  pub pairs_taken : (ks new : List Child) (i : ℕ) → length ks ≤ i → map pair_of new ≡ take i (worn_pairs ks) → map pair_of new ≡ worn_pairs ks
  pairs_taken ks new i h is = is ∙ take_all i (worn_pairs ks) (omega (arith, h, lengths ks))

-- a fact of the value that a call returns, if it returns one, yields what follows from it
pub if_ok : {A E : Type 0} {P Q : A → Type 0} (r : Result A E) → ((x : A) → P x → Q x) → IfOk r P → IfOk r Q
if_ok (Ok x) f h = f x h
if_ok (Err e) f h = tt
