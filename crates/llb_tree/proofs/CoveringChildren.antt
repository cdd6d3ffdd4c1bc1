-- Children that have every name of those that they are laid over.
use Rattle.std.proofs.Common.{◌≡◌, ℕ, zero, suc, ◌+◌, ◌<◌, ◌≤◌, true, false, cond, List, [], ◌∷◌, length, map, take, get_or, set}
use Rattle.std.proofs.Common.{Option, Some, None, is_some, T, refl, sym, ap, subst, ◌∙◌, arith, add-one}
use Rattle.std.specs.declared.cmp.Ordering.TheVariants.{Less, Equal, Greater}
use Rattle.std.specs.Option.{option_or}
use Rattle.std.specs.Ordering.{is_eq, eq_by_cmp}
use Rattle.std.specs.Cmp.{tied_itself}
use Rattle.std.specs.Cmp.Lexicographic.{nat_list_cmp_total}
use Rattle.std.specs.FinMap as finite
use Rattle.llb_tree.specs.Path.{name_cmp}
use Rattle.llb_tree.specs.PathOrder.{name_cmp-IsAntisymmetric}
use Rattle.llb_tree.specs.Tree.{TreeMap, Dir}
use Rattle.llb_tree.specs.ModeAndOwner.{MetaValue}
use Rattle.llb_tree.specs.Nodes.{Pairs, name_of, pair_of, AreSorted, child, look_in}
use Rattle.llb_tree.specs.Overlay.{SettingsValue, below_file, over, over_at}
use Rattle.llb_tree.specs.Laying.{Lays, IsOver, AreLaid, TakesWhole, Covers, HasLater, written}
use Rattle.llb_tree.specs.declared.node.Child.{Child}
use Rattle.llb_tree.proofs.ModeAndOwnerSetting.{worn_all}
use Rattle.llb_tree.proofs.LaidChildInsertion.{found_made, sorted_made}
use Rattle.llb_tree.proofs.NodeLaying.{IsLone, over_file, over_none}

-- ---- names that are there

-- the first child has its own name
here : (k : Child) (ks : List Child) → is_some (child (name_of k) (k ∷ ks)) ≡ true
here k ks = ap (λ o. is_some (cond (is_eq o) (Some k.node) (child (name_of k) ks))) (tied_itself nat_list_cmp_total (name_of k))

-- what is found after the first child is found with it
pub covers_rest : (k : Child) (ks : List Child) → Covers (k ∷ ks) ks
covers_rest k ks n is = elim (eq_by_cmp name_cmp n (name_of k)) as (λ b. is_some (cond b (Some k.node) (child n ks)) ≡ true) [ true ↦ refl | false ↦ is ]

covers_cons : (upper : List Child) (k : Child) (ks : List Child) → is_some (child (name_of k) upper) ≡ true → Covers upper ks → Covers upper (k ∷ ks)
covers_cons upper k ks there rest n is =
    elim (name_cmp n (name_of k)) as (λ o. name_cmp n (name_of k) ≡ o → is_some (cond (is_eq o) (Some k.node) (child n ks)) ≡ true
    → is_some (child n upper) ≡ true) [
      | Less ↦ λ _ is. rest n is
      | Equal ↦ λ e _. ap (λ m. is_some (child m upper)) (name_cmp-IsAntisymmetric n (name_of k) e) ∙ there
      | Greater ↦ λ _ is. rest n is
    ] refl is

-- with the first i names each being there, and the next one, the first i + 1 are there
pub covers_more : (upper lower : List Child) (i : ℕ) (kid : Child) → i < length lower → kid ≡ get_or lower i kid → Covers upper (take i lower)
    → is_some (child (name_of kid) upper) ≡ true → Covers upper (take (i + 1) lower)
covers_more upper lower i kid lt is so_far there = subst (λ j. Covers upper (take j lower)) (sym (add-one i)) (go lower i lt is so_far)
  where
    go : (lower : List Child) (i : ℕ) → i < length lower → kid ≡ get_or lower i kid → Covers upper (take i lower) → Covers upper (take (suc i) lower)
    go [] i lt is so_far = absurd (omega arith)
    go (k ∷ ks) zero lt is so_far = covers_cons upper k [] (ap (λ (x : Child). is_some (child (name_of x) upper)) (sym is) ∙ there) so_far
    go (k ∷ ks) (suc i) lt is so_far = covers_cons upper k (take (suc i) ks) (so_far (name_of k) (here k (take i ks)))
        (go ks i (omega arith) is (λ n t. so_far n (covers_rest k (take i ks) n t)))

-- the child of the name is the first, and its name is among those of more children
pub found_here : (n : List ℕ) (kids rest more : List Child) (kid : Child) → rest ≡ kid ∷ more → name_cmp (name_of kid) n ≡ Equal → Covers kids rest
    → HasLater n kids more
found_here n kids rest more kid is same so_far =
    let all : Covers kids (kid ∷ more) = subst (Covers kids) is so_far in
    record {
      here = ap (λ m. is_some (child m kids)) (sym (name_cmp-IsAntisymmetric (name_of kid) n same)) ∙ all (name_of kid) (here kid more);
      later = λ m t. all m (covers_rest kid more m t);
    }

-- ---- upper children that stay as they are, or are written anew

-- the first i children are laid over others, and those after them are the upper ones
abbrev pub HasLaid : SettingsValue → List Child → ℕ → List Child → Pairs → Type 0
HasLaid w old i [] [] = Unit {0}
HasLaid w old i [] (e ∷ es) = ⊥
HasLaid w old i (u ∷ us) [] = ⊥
HasLaid w old zero (u ∷ us) (e ∷ es) = (e ≡ pair_of u) × HasLaid w old zero us es
HasLaid w old (suc i) (u ∷ us) (e ∷ es) = ((e.0 ≡ name_of u) × IsOver w old u e.1) × HasLaid w old i us es

pub none_yet : (w : SettingsValue) (old us : List Child) → HasLaid w old 0 us (map pair_of us)
none_yet w old [] = tt
none_yet w old (u ∷ us) = (refl, none_yet w old us)

-- there are as many as upper ones
pub same_length : (w : SettingsValue) (old : List Child) (i : ℕ) (us ks : List Child) → HasLaid w old i us (map pair_of ks) → length ks ≡ length us
same_length w old i [] [] h = refl
same_length w old i [] (k ∷ ks) h = absurd h
same_length w old i (u ∷ us) [] h = absurd h
same_length w old zero (u ∷ us) (k ∷ ks) h = ap suc (same_length w old zero us ks h.1)
same_length w old (suc i) (u ∷ us) (k ∷ ks) h = ap suc (same_length w old i us ks h.1)

module _ (w : SettingsValue) (old : List Child) where
  stays : (i : ℕ) (us : List Child) (es : Pairs) (d : Child) → i < length us → HasLaid w old i us es → IsOver w old (get_or us i d) (get_or us i d).node
      → HasLaid w old (suc i) us es
  stays i [] es d lt h over = absurd (omega arith)
  stays i (u ∷ us) [] d lt h over = absurd h
  stays zero (u ∷ us) (e ∷ es) d lt h over = ((ap (λ x. x.0) h.0, λ q. ap (λ x. finite.get x.1 q) h.0 ∙ over q), h.1)
  stays (suc i) (u ∷ us) (e ∷ es) d lt h over = (h.0, stays i us es d (omega arith) h.1 over)

  writes : (i : ℕ) (us : List Child) (es : Pairs) (d : Child) (t : TreeMap) → i < length us → HasLaid w old i us es → IsOver w old (get_or us i d) t
      → HasLaid w old (suc i) us (written i t es)
  writes i [] es d t lt h over = absurd (omega arith)
  writes i (u ∷ us) [] d t lt h over = absurd h
  writes zero (u ∷ us) (e ∷ es) d t lt h over = ((ap (λ x. x.0) h.0, over), h.1)
  writes (suc i) (u ∷ us) (e ∷ es) d t lt h over = (h.0, writes i us es d t (omega arith) h.1 over)

  module _ (i : ℕ) (us : List Child) (es : Pairs) (kid : Child) (lt : i < length us) (is : kid ≡ get_or us i kid) (so_far : HasLaid w old i us es) where
    -- the next upper child stays as it is
    pub one_stays : IsOver w old kid kid.node → HasLaid w old (i + 1) us es
    one_stays over = subst (λ j. HasLaid w old j us es) (sym (add-one i)) (stays i us es kid lt so_far (subst (λ (k : Child). IsOver w old k k.node) is over))

    -- the next upper child is written anew
    pub one_written : (t : TreeMap) (new : Pairs) → IsOver w old kid t → new ≡ written i t es → HasLaid w old (i + 1) us new
    one_written t new over wrote = subst (λ xs. HasLaid w old (i + 1) us xs) (sym wrote) (subst (λ j. HasLaid w old j us (written i t es)) (sym (add-one i))
        (writes i us es kid t lt so_far (subst (λ (k : Child). IsOver w old k t) is over)))

  -- when no child is left, all are laid
  pub all_laid : (i : ℕ) (us ks : List Child) → length us ≤ i → HasLaid w old i us (map pair_of ks) → AreLaid w old us ks
  all_laid i [] [] le h = tt
  all_laid i [] (k ∷ ks) le h = absurd h
  all_laid i (u ∷ us) [] le h = absurd h
  all_laid zero (u ∷ us) (k ∷ ks) le h = absurd (omega arith)
  all_laid (suc i) (u ∷ us) (k ∷ ks) le h = (record { named = h.0.0; laid = h.0.1 }, all_laid i us ks (omega arith) h.1)

-- a node written into children is the tree written under its name
pub node_written : (ks : List Child) (i : ℕ) (there new : Child) → there ≡ get_or ks i there → name_of new ≡ name_of there
    → map pair_of (set ks i new) ≡ written i new.node (map pair_of ks)
node_written [] i there new is same = refl
node_written (k ∷ ks) zero there new is same = ap (λ n. (n, new.node) ∷ map pair_of ks) (same ∙ ap name_of is)
node_written (k ∷ ks) (suc i) there new is same = ap (λ es. pair_of k ∷ es) (node_written ks i there new is same)

-- ---- one upper child

module _ (w : SettingsValue) (takes : TakesWhole w) where
  -- a file stays as it is over anything
  pub file_stays : (old : List Child) (kid : Child) → IsLone (finite.get kid.node) → IsOver w old kid kid.node
  file_stays old kid lone q = sym (over_file w (look_in (child (name_of kid) old)) (finite.get kid.node) q lone
      ∙ worn_all w (finite.get kid.node q) takes.own)

  -- a child that is laid over nothing stays as it is
  pub new_stays : (old : List Child) (kid : Child) → child (name_of kid) old ≡ None → IsOver w old kid kid.node
  new_stays old kid none q = sym (ap (λ o. over_at w (look_in o) (finite.get kid.node) q) none
      ∙ over_none w (finite.get kid.node q) (below_file (finite.get kid.node) q) ∙ worn_all w (finite.get kid.node q) takes.own)

  -- a directory that both have is the upper one's
  pub dir_stays : (m l : MetaValue) → over w (Some (Dir m)) (Dir l) ≡ Dir l
  dir_stays m l = λ i. Dir (cond (takes.upper i) m (takes.own l i))

-- ---- all upper children

none_made : (w : SettingsValue) (old upper made : List Child) (m : List ℕ) → AreLaid w old upper made → is_some (child m made) ≡ is_some (child m upper)
none_made w old [] [] m laid = refl
none_made w old [] (k ∷ made) m laid = absurd laid
none_made w old (u ∷ upper) [] m laid = absurd laid
none_made w old (u ∷ upper) (k ∷ made) m laid =
    ap (λ n. is_some (cond (eq_by_cmp name_cmp m n) (Some k.node) (child m made))) laid.0.named
    ∙ elim (eq_by_cmp name_cmp m (name_of u)) as (λ b. is_some (cond b (Some k.node) (child m made)) ≡ is_some (cond b (Some u.node) (child m upper))) [
      | true ↦ refl
      | false ↦ none_made w old upper made m laid.1
    ]

-- laid children that have every name of the lower ones are all that is left of both
pub lays_all : (w : SettingsValue) (old upper made : List Child) → AreSorted upper → Covers upper old → AreLaid w old upper made → Lays w upper old made
lays_all w old upper made above covers laid = record {
  sorted = subst T (sym (sorted_made w old upper made laid)) above;
  children = λ m q. ap (λ o. look_in o q) (sym (alone (child m made) (child m old) (λ is. none_made w old upper made m laid ∙ covers m is)))
      ∙ found_made w old upper made m q laid;
}
  where
    alone : (a b : Option TreeMap) → (is_some b ≡ true → is_some a ≡ true) → option_or a b ≡ a
    alone (Some x) b h = refl
    alone None None h = refl
    alone None (Some y) h = absurd (let e = h refl in cc)
