-- Two nodes have equal maps where both have the same entry and the same is found below them; and what the first children in
-- order say of that.
use Rattle.std.proofs.Common.{◌≡◌, ◌↔◌, ℕ, List, [], ◌∷◌, map, Option, Some, None, is_some}
use Rattle.std.proofs.Common.{cond, Bool, true, false, not, nat_eq, IsTrue, T, refl, sym, ap, subst, ◌∙◌, true≢false}
use Rattle.std.specs.declared.cmp.Ordering.{Ordering}
use Rattle.std.specs.declared.cmp.Ordering.TheVariants.{Less, Equal, Greater}
use Rattle.std.specs.Option.{option_or}
use Rattle.std.specs.Ordering.{is_eq, ordering_reverse}
use Rattle.std.specs.Cmp.{tied_itself}
use Rattle.std.specs.Cmp.Lexicographic.{pointwise, bytes_decides, nat_list_cmp_total}
use Rattle.std.specs.FinMap as finite
use Rattle.std.specs.FinMap.Entries.{below_all}
use Rattle.llb_tree.specs.Path.{name_cmp}
use Rattle.llb_tree.specs.PathOrder.{path_cmp-IsTotalOrder, path_cmp-IsAntisymmetric, name_cmp-IsAntisymmetric}
use Rattle.llb_tree.specs.ModeAndOwner.{MetaValue}
use Rattle.llb_tree.specs.Tree.{TreeMap, Entry, Dir, File}
use Rattle.llb_tree.specs.Nodes.{name_of, pair_of, kids_of, own_entry, map_of, AreSorted}
use Rattle.llb_tree.specs.EntryLookup.{look_kids, get-below, get-root}
use Rattle.llb_tree.specs.declared.node.Kind.{Kind}
use Rattle.llb_tree.specs.declared.node.Child.{Child}
use Rattle.llb_tree.proofs.EntryOrder.{is_less, less_is, below_first, and_first, and_second, and_both}
use Rattle.llb_tree.proofs.ChildLookup.{or_None}

-- below two lists of children the same entries are found
abbrev pub Alike : List Child → List Child → Type 0
Alike ks ls = (n : List ℕ) (q : List (List ℕ)) → look_kids ks n q ≡ look_kids ls n q

some_same : (a b : Entry) → Some a ≡ Some b → a ≡ b
some_same a b is = cc

nodes_same : (a b : Kind) → (map_of a ≡ map_of b) ↔ ((own_entry a ≡ own_entry b) × Alike (kids_of a) (kids_of b))
nodes_same a b = (
  λ same. (
    some_same _ _ (sym (get-root a) ∙ ap (λ m. finite.get m []) same ∙ get-root b),
    λ n q. sym (get-below a n q) ∙ ap (λ m. finite.get m (n ∷ q)) same ∙ get-below b n q,
  ),
  λ parts. finite.same_map path_cmp-IsTotalOrder path_cmp-IsAntisymmetric (map_of a) (map_of b) (by_path parts.0 parts.1),
)
  where
    by_path : own_entry a ≡ own_entry b → Alike (kids_of a) (kids_of b) → (q : List (List ℕ)) → finite.get (map_of a) q ≡ finite.get (map_of b) q
    by_path own alike [] = get-root a ∙ ap (λ e. Some e) own ∙ sym (get-root b)
    by_path own alike (n ∷ q) = get-below a n q ∙ alike n q ∙ sym (get-below b n q)

or_some : (a b : Option Entry) → is_some a ≡ true → is_some (option_or a b) ≡ true
or_some None b there = absurd (true≢false (sym there))
or_some (Some x) b there = refl

-- what is found, by the order of the name and the first one
look_by : (k : Child) (ks : List Child) (n : List ℕ) (q : List (List ℕ)) (o : Ordering) → name_cmp n (name_of k) ≡ o →
    look_kids (k ∷ ks) n q ≡ option_or (cond (is_eq o) (finite.get k.node q) None) (look_kids ks n q)
look_by k ks n q o is = ap (λ o. option_or (cond (is_eq o) (finite.get k.node q) None) (look_kids ks n q)) is

-- nothing is found under a name that is below all
none_below : (n : List ℕ) (q : List (List ℕ)) (ks : List Child) → T (below_all name_cmp n (map pair_of ks)) → look_kids ks n q ≡ None
none_below n q [] h = refl
none_below n q (k ∷ ks) h = look_by k ks n q Less (is_less _ (and_first _ _ h)) ∙ none_below n q ks (and_second _ _ h)

first_here : (k : Child) (ks : List Child) (q : List (List ℕ)) →
    look_kids (k ∷ ks) (name_of k) q ≡ option_or (finite.get k.node q) (look_kids ks (name_of k) q)
first_here k ks q = look_by k ks (name_of k) q Equal (tied_itself nat_list_cmp_total (name_of k))

-- what is found in the first child
look_first : (k : Child) (ks : List Child) (q : List (List ℕ)) → AreSorted (k ∷ ks) → look_kids (k ∷ ks) (name_of k) q ≡ finite.get k.node q
look_first k ks q h =
    first_here k ks q
    ∙ ap (option_or (finite.get k.node q)) (none_below (name_of k) q ks (and_first _ _ h)) ∙ or_None (finite.get k.node q)

module _ (k l : Child) (ks ls : List Child) (sorted : AreSorted (k ∷ ks)) (sorted2 : AreSorted (l ∷ ls)) where
  module _ (names : name_of k ≡ name_of l) where
    -- if the first children are equal, the children after them decide
    alike_rest : k.node ≡ l.node → Alike (k ∷ ks) (l ∷ ls) ↔ Alike ks ls
    alike_rest nodes = (
      λ alike n q. by_name n q (name_cmp n (name_of k)) refl (alike n q),
      λ alike n q.
          (λ i. option_or (cond (is_eq (name_cmp n (names i))) (finite.get (nodes i) q) None) (alike n q i)),
    )
      where
        by_name : (n : List ℕ) (q : List (List ℕ)) (o : Ordering) → name_cmp n (name_of k) ≡ o →
            look_kids (k ∷ ks) n q ≡ look_kids (l ∷ ls) n q → look_kids ks n q ≡ look_kids ls n q
        by_name n q Less is alike = sym (look_by k ks n q Less is) ∙ alike ∙ look_by l ls n q Less (ap (name_cmp n) (sym names) ∙ is)
        by_name n q Equal is alike =
            let same : n ≡ name_of k = name_cmp-IsAntisymmetric n (name_of k) is in
            none_below n q ks (subst (λ m. T (below_all name_cmp m (map pair_of ks))) (sym same) (and_first _ _ sorted))
            ∙ sym (none_below n q ls (subst (λ m. T (below_all name_cmp m (map pair_of ls))) (sym (same ∙ names)) (and_first _ _ sorted2)))
        by_name n q Greater is alike = sym (look_by k ks n q Greater is) ∙ alike ∙ look_by l ls n q Greater (ap (name_cmp n) (sym names) ∙ is)

    alike_nodes : Alike (k ∷ ks) (l ∷ ls) → k.node ≡ l.node
    alike_nodes alike = finite.same_map path_cmp-IsTotalOrder path_cmp-IsAntisymmetric k.node l.node
        (λ q. sym (look_first k ks q sorted) ∙ alike (name_of k) q ∙ ap (λ n. look_kids (l ∷ ls) n q) names ∙ look_first l ls q sorted2)

  -- a name below that of the first child is not found
  no_earlier : is_some (finite.get k.node []) ≡ true → name_cmp (name_of k) (name_of l) ≡ Less → Alike (k ∷ ks) (l ∷ ls) → ⊥
  no_earlier there is alike =
      let all = and_both _ _ (less_is _ is) (below_first nat_list_cmp_total (name_of k) (name_of l) (map pair_of ls) is (and_first _ _ sorted2)) in
      true≢false (sym there ∙ ap is_some (sym (look_first k ks [] sorted) ∙ alike (name_of k) [] ∙ none_below (name_of k) [] (l ∷ ls) all))

-- if two lists of children are alike, their first children have the same name
alike_names : (k l : Child) (ks ls : List Child) → AreSorted (k ∷ ks) → AreSorted (l ∷ ls) →
    is_some (finite.get k.node []) ≡ true → is_some (finite.get l.node []) ≡ true → Alike (k ∷ ks) (l ∷ ls) → name_of k ≡ name_of l
alike_names k l ks ls sorted sorted2 there there2 alike = go (name_cmp (name_of k) (name_of l)) refl
  where
    go : (o : Ordering) → name_cmp (name_of k) (name_of l) ≡ o → name_of k ≡ name_of l
    go Less is = absurd (no_earlier k l ks ls sorted sorted2 there is alike)
    go Equal is = name_cmp-IsAntisymmetric (name_of k) (name_of l) is
    go Greater is =
        let turned = nat_list_cmp_total.antisymm (name_of l) (name_of k) ∙ ap ordering_reverse is in
        absurd (no_earlier l k ls ks sorted2 sorted there2 turned (λ n q. sym (alike n q)))

-- a list with a child is not alike to an empty list
alike_none : (k : Child) (ks : List Child) → is_some (finite.get k.node []) ≡ true → Alike (k ∷ ks) [] → ⊥
alike_none k ks there alike =
    true≢false (sym (or_some (finite.get k.node []) (look_kids ks (name_of k) []) there) ∙ ap is_some (sym (first_here k ks []) ∙ alike (name_of k) []))

-- ---- what the kinds of two nodes say

module _ (a b : Kind) (v w : TreeMap) (view : map_of a ≡ v) (view2 : map_of b ≡ w) where
  pub maps_same : (v ≡ w) ↔ ((own_entry a ≡ own_entry b) × Alike (kids_of a) (kids_of b))
  maps_same = (λ same. (nodes_same a b).0 (view ∙ same ∙ sym view2), λ parts. sym view ∙ (nodes_same a b).1 parts ∙ view2)

  module _ (m n : MetaValue) where
    -- two directories are the same just where their metadata is and their children are alike
    pub dirs_same : (ks ls : List Child) → own_entry a ≡ Dir m → own_entry b ≡ Dir n → kids_of a ≡ ks → kids_of b ≡ ls →
        (v ≡ w) ↔ ((m ≡ n) × Alike ks ls)
    dirs_same ks ls own own2 kids kids2 = (
      λ same.
          let parts = maps_same.0 same in
          (dir_same m n (sym own ∙ parts.0 ∙ own2), subst (λ x. Alike x ls) kids (subst (Alike (kids_of a)) kids2 parts.1)),
      λ parts.
          let alike = subst (λ x. Alike x (kids_of b)) (sym kids) (subst (Alike ks) (sym kids2) parts.1) in
          maps_same.1 (own ∙ ap (λ x. Dir x) parts.0 ∙ sym own2, alike),
    )
      where
        dir_same : (m n : MetaValue) → Dir m ≡ Dir n → m ≡ n
        dir_same m n is = cc

    -- two files are the same just where their metadata and their bytes are
    pub files_same : (xs ys : List ℕ) → own_entry a ≡ File m xs → own_entry b ≡ File n ys → kids_of a ≡ [] → kids_of b ≡ [] →
        (v ≡ w) ↔ ((m ≡ n) × (xs ≡ ys))
    files_same xs ys own own2 kids kids2 = (
      λ same. file_same m n xs ys (sym own ∙ (maps_same.0 same).0 ∙ own2),
      λ parts. maps_same.1 (own ∙ (λ i. File (parts.0 i) (parts.1 i)) ∙ sym own2, subst (Alike (kids_of a)) (kids ∙ sym kids2) (λ n q. refl)),
    )
      where
        file_same : (m n : MetaValue) (xs ys : List ℕ) → File m xs ≡ File n ys → (m ≡ n) × (xs ≡ ys)
        file_same m n xs ys is = (cc, cc)

    -- a file is never the same as a directory
    pub file_no_dir : (xs : List ℕ) → own_entry a ≡ File m xs → own_entry b ≡ Dir n → v ≡ w → ⊥
    file_no_dir xs own own2 same = apart m n xs (sym own ∙ (maps_same.0 same).0 ∙ own2)
      where
        apart : (m n : MetaValue) (xs : List ℕ) → File m xs ≡ Dir n → ⊥
        apart m n xs is = cc

-- ---- what the children so far say

-- those before the ones that are left are the same on both sides, and what is left decides
pub record SoFar (ks ls xs ys : List Child) : Type 0 where
  pub rest : Alike ks ls ↔ Alike xs ys
  pub sorted : AreSorted xs
  pub sorted2 : AreSorted ys

pub none_yet : (ks ls : List Child) → AreSorted ks → AreSorted ls → SoFar ks ls ks ls
none_yet ks ls sorted sorted2 = record { rest = (λ h. h, λ h. h); sorted = sorted; sorted2 = sorted2 }

module _ (ks ls xs ys : List Child) (so : SoFar ks ls xs ys) where
  -- no child is left on either side, so all are alike
  pub all_alike : xs ≡ [] → ys ≡ [] → Alike ks ls
  all_alike none none2 = so.rest.1 (subst (Alike xs) (none ∙ sym none2) (λ n q. refl))

  -- a child is left on the first side alone, so they are not alike
  pub one_more : (k : Child) (rest : List Child) → xs ≡ k ∷ rest → ys ≡ [] → is_some (finite.get k.node []) ≡ true → Alike ks ls → ⊥
  one_more k rest first none there alike =
      alike_none k rest there (subst (λ x. Alike x []) first (subst (Alike xs) none (so.rest.0 alike)))

  -- a child is left on the second side alone, so they are not alike
  pub one_less : (l : Child) (rest : List Child) → ys ≡ l ∷ rest → xs ≡ [] → is_some (finite.get l.node []) ≡ true → Alike ks ls → ⊥
  one_less l rest first none there alike =
      alike_none l rest there (subst (λ x. Alike x []) first (subst (Alike ys) none (λ n q. sym (so.rest.0 alike n q))))

  module _ (k l : Child) (ks2 ls2 : List Child) (first : xs ≡ k ∷ ks2) (first2 : ys ≡ l ∷ ls2) where
    sorted_here : AreSorted (k ∷ ks2)
    sorted_here = subst AreSorted first so.sorted

    sorted_here2 : AreSorted (l ∷ ls2)
    sorted_here2 = subst AreSorted first2 so.sorted2

    alike_here : Alike ks ls ↔ Alike (k ∷ ks2) (l ∷ ls2)
    alike_here = (
      λ alike. subst (λ x. Alike x (l ∷ ls2)) first (subst (Alike xs) first2 (so.rest.0 alike)),
      λ alike. so.rest.1 (subst (λ x. Alike x ys) (sym first) (subst (Alike (k ∷ ks2)) (sym first2) alike)),
    )

    -- where all are alike, the next children of both sides have one name
    pub same_name : is_some (finite.get k.node []) ≡ true → is_some (finite.get l.node []) ≡ true → Alike ks ls → name_of k ≡ name_of l
    same_name there there2 alike = alike_names k l ks2 ls2 sorted_here sorted_here2 there there2 (alike_here.0 alike)

    -- if two lists of children are alike, the first children, which have one name, have the same node
    pub same_node : name_of k ≡ name_of l → Alike ks ls → k.node ≡ l.node
    same_node names alike = alike_nodes k l ks2 ls2 sorted_here sorted_here2 names (alike_here.0 alike)

    -- where name and node are the same, the children after them decide
    pub one_further : name_of k ≡ name_of l → k.node ≡ l.node → SoFar ks ls ks2 ls2
    one_further names nodes =
        let rest = alike_rest k l ks2 ls2 sorted_here sorted_here2 names nodes in
        record {
          rest = (λ alike. rest.0 (alike_here.0 alike), λ alike. alike_here.1 (rest.1 alike));
          sorted = and_second _ _ sorted_here;
          sorted2 = and_second _ _ sorted_here2;
        }

-- a test that is false shows that a fact can't hold
pub differ : {A : Type 0} → (A → ⊥) → (IsTrue false → A) × (A → IsTrue false)
differ never = (λ h. absurd (true≢false (sym h)), λ a. absurd (never a))

-- a test that is true shows that a fact holds
pub agree : {A : Type 0} → A → (IsTrue true → A) × (A → IsTrue true)
agree always = (λ _. always, λ _. refl)

-- where the test for a difference says true, two texts are not the same
pub unequal : (xs ys : List ℕ) → true ≡ not (pointwise nat_eq xs ys) → xs ≡ ys → ⊥
unequal xs ys test same = true≢false (test ∙ ap not ((bytes_decides xs ys).1 same))

-- where the test for a difference says false, two texts are the same
pub equal : (xs ys : List ℕ) → false ≡ not (pointwise nat_eq xs ys) → xs ≡ ys
equal xs ys test = (bytes_decides xs ys).0 (go (pointwise nat_eq xs ys) test)
  where
    go : (b : Bool) → false ≡ not b → b ≡ true
    go true test = refl
    go false test = absurd (true≢false (sym test))
