-- Children that are laid first and put in after.
use Rattle.std.proofs.Common.{◌≡◌, ℕ, zero, suc, ◌+◌, ◌<◌, List, [], ◌∷◌, ◌++◌, length, map, take, get_or}
use Rattle.std.proofs.Common.{Some, None, Result, Ok, Err, OnErr, cond, ◌&&◌, T, refl, sym, ap, subst, ◌∙◌, arith, add-one}
use Rattle.std.specs.declared.cmp.Ordering.TheVariants.{Less, Equal, Greater}
use Rattle.std.specs.Option.{option_or}
use Rattle.std.specs.Ordering.{is_eq, is_lt}
use Rattle.std.specs.Cmp.Lexicographic.{nat_list_cmp_total}
use Rattle.std.specs.FinMap as finite
use Rattle.std.specs.FinMap.Entries.{find, put, find-put, is_sorted, is_sorted-put, below_all}
use Rattle.llb_tree.specs.Path.{name_cmp}
use Rattle.llb_tree.specs.PathOrder.{name_cmp-IsAntisymmetric}
use Rattle.llb_tree.specs.Nodes.{Pairs, name_of, pair_of, AreSorted, child, look_in}
use Rattle.llb_tree.specs.Overlay.{SettingsValue, over_at}
use Rattle.llb_tree.specs.Laying.{Lays, IsLaid, AreLaid, puts}
use Rattle.llb_tree.specs.declared.node.Child.{Child}
use Rattle.llb_tree.proofs.EntryOrder.{find_below, and_first, and_second}
use Rattle.llb_tree.proofs.NodeLaying.{none_over}

-- ---- one made child after another

pub laid_more : (w : SettingsValue) (old upper made : List Child) (i : ℕ) (d k : Child) → i < length upper → AreLaid w old (take i upper) made
    → IsLaid w old (get_or upper i d) k → AreLaid w old (take (suc i) upper) (made ++ k ∷ [])
laid_more w old [] made i d k lt so_far laid = absurd (omega arith)
laid_more w old (u ∷ upper) [] zero d k lt so_far laid = (laid, tt)
laid_more w old (u ∷ upper) (m ∷ made) zero d k lt so_far laid = absurd so_far
laid_more w old (u ∷ upper) [] (suc i) d k lt so_far laid = absurd so_far
laid_more w old (u ∷ upper) (m ∷ made) (suc i) d k lt so_far laid = (so_far.0, laid_more w old upper made i d k (omega arith) so_far.1 laid)

-- pushing the next upper child, laid, after the first i of them makes the first i + 1 laid
pub laid_pushed : (w : SettingsValue) (old upper made new : List Child) (i : ℕ) (kid k : Child) → i < length upper
    → kid ≡ get_or upper i kid → new ≡ made ++ k ∷ []
    → AreLaid w old (take i upper) made → IsLaid w old kid k → AreLaid w old (take (i + 1) upper) new
laid_pushed w old upper made new i kid k lt is pushed so_far laid =
    subst (λ ks. AreLaid w old (take (i + 1) upper) ks) (sym pushed)
    (subst (λ j. AreLaid w old (take j upper) (made ++ k ∷ [])) (sym (add-one i))
    (laid_more w old upper made i kid k lt so_far (subst (λ u. IsLaid w old u k) is laid)))

-- the names of what is made are the upper ones
below_made : (w : SettingsValue) (old upper made : List Child) (n : List ℕ) → AreLaid w old upper made
    → below_all name_cmp n (map pair_of made) ≡ below_all name_cmp n (map pair_of upper)
below_made w old [] [] n laid = refl
below_made w old [] (k ∷ made) n laid = absurd laid
below_made w old (u ∷ upper) [] n laid = absurd laid
below_made w old (u ∷ upper) (k ∷ made) n laid = λ i. is_lt (name_cmp n (laid.0.named i)) && below_made w old upper made n laid.1 i

-- laid children have the names of the upper ones, so they are in order where those are
pub sorted_made : (w : SettingsValue) (old upper made : List Child) → AreLaid w old upper made
    → is_sorted name_cmp (map pair_of made) ≡ is_sorted name_cmp (map pair_of upper)
sorted_made w old [] [] laid = refl
sorted_made w old [] (k ∷ made) laid = absurd laid
sorted_made w old (u ∷ upper) [] laid = absurd laid
sorted_made w old (u ∷ upper) (k ∷ made) laid =
    (λ i. below_all name_cmp (laid.0.named i) (map pair_of made) && is_sorted name_cmp (map pair_of made))
    ∙ (λ i. below_made w old upper made (name_of u) laid.1 i && sorted_made w old upper made laid.1 i)

-- ---- children put in

sorted_puts : (ks es : Pairs) → T (is_sorted name_cmp es) → T (is_sorted name_cmp (puts ks es))
sorted_puts [] es h = h
sorted_puts (k ∷ ks) es h = sorted_puts ks (put name_cmp k.0 k.1 es) (is_sorted-put name_cmp nat_list_cmp_total k.0 k.1 es h)

find_puts : (m : List ℕ) (ks es : Pairs) → T (is_sorted name_cmp ks)
    → find name_cmp m (puts ks es) ≡ option_or (find name_cmp m ks) (find name_cmp m es)
find_puts m [] es h = refl
find_puts m (k ∷ ks) es h =
    find_puts m ks (put name_cmp k.0 k.1 es) (and_second _ _ h)
    ∙ ap (option_or (find name_cmp m ks)) (find-put name_cmp nat_list_cmp_total m k.0 k.1 es)
    ∙ elim (name_cmp m k.0) as (λ o. name_cmp m k.0 ≡ o
    → option_or (find name_cmp m ks) (cond (is_eq o) (Some k.1) (find name_cmp m es))
    ≡ option_or (cond (is_eq o) (Some k.1) (find name_cmp m ks)) (find name_cmp m es)) [
      | Less ↦ λ _. refl
      | Equal ↦ λ e. let same : m ≡ k.0 = name_cmp-IsAntisymmetric m k.0 e in
          ap (λ o. option_or o (Some k.1)) (find_below name_cmp m ks (subst (λ n. T (below_all name_cmp n ks)) (sym same) (and_first _ _ h)))
      | Greater ↦ λ _. refl
    ] refl

-- what is found after the made ones are put in
pub found_made : (w : SettingsValue) (old upper made : List Child) (m : List ℕ) (q : List (List ℕ)) → AreLaid w old upper made
    → look_in (option_or (child m made) (child m old)) q ≡ over_at w (look_in (child m old)) (look_in (child m upper)) q
found_made w old [] [] m q laid = sym (none_over w (look_in (child m old)) (look_in None) q (λ r. refl))
found_made w old [] (k ∷ made) m q laid = absurd laid
found_made w old (u ∷ upper) [] m q laid = absurd laid
found_made w old (u ∷ upper) (k ∷ made) m q laid =
    ap (λ n. look_in (option_or (cond (is_eq (name_cmp m n)) (Some k.node) (child m made)) (child m old)) q) laid.0.named
    ∙ elim (name_cmp m (name_of u)) as (λ o. name_cmp m (name_of u) ≡ o
    → look_in (option_or (cond (is_eq o) (Some k.node) (child m made)) (child m old)) q
    ≡ over_at w (look_in (child m old)) (look_in (cond (is_eq o) (Some u.node) (child m upper))) q) [
      | Less ↦ λ _. found_made w old upper made m q laid.1
      | Equal ↦ λ e. laid.0.laid q ∙ ap (λ n. over_at w (look_in (child n old)) (finite.get u.node) q) (sym (name_cmp-IsAntisymmetric m (name_of u) e))
      | Greater ↦ λ _. found_made w old upper made m q laid.1
    ] refl

-- putting the laid children among the old ones lays all upper children over them
pub lays_puts : (w : SettingsValue) (old upper made new : List Child) → AreSorted old → AreSorted upper → AreLaid w old upper made
    → map pair_of new ≡ puts (map pair_of made) (map pair_of old) → Lays w upper old new
lays_puts w old upper made new h above laid is = record {
  sorted = subst (λ es. T (is_sorted name_cmp es)) (sym is) (sorted_puts (map pair_of made) (map pair_of old) h);
  children = λ m q.
      ap (λ es. look_in (find name_cmp m es) q) is
      ∙ ap (λ o. look_in o q) (find_puts m (map pair_of made) (map pair_of old) (subst T (sym (sorted_made w old upper made laid)) above))
      ∙ found_made w old upper made m q laid;
}

-- what holds in any case holds where a call fails
pub err_holds : {A E P : Type 0} (r : Result A E) → P → OnErr r P
err_holds (Ok x) p = tt
err_holds (Err e) p = p
