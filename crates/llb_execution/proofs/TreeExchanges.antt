-- Trees that are exchanged with those of mounts, there and back, and a command in between.
use Rattle.std.proofs.Common.{◌≡◌, ◌≢◌, ℕ, zero, suc, ◌+◌, ◌<◌, ◌≤◌, List, [], ◌∷◌, ◌++◌, length, map, take, drop, set, get_or, replicate}
use Rattle.std.proofs.Common.{inl, inr, refl, sym, ap, subst, ◌∙◌, append_assoc, append-nil, arith}
use Rattle.std.specs.List.{All}
use Rattle.std.proofs.lemmas.List.{length-set, length-map, get_or-set_same, get_or-set_other, set-set}
use Rattle.std.proofs.lemmas.List.{drop_more, drop-set-lt, take_more_set, drop_all, take_all}
use Rattle.std.proofs.lemmas.List.Elements.{All-head, All-tail}
use Rattle.llb_tree.specs.Tree.{TreeMap, empty_tree}
use Rattle.llb_mount.specs.declared.shown_tree.Shown.{Shown}
use Rattle.llb_mount.specs.View.{mount_at, with_tree_of, no_mount}
use Rattle.llb_model.specs.Caches.{Has, Distinct}
use Rattle.llb_model.specs.Program.{filled, taken, blanked}
use Rattle.llb_model.proofs.ViewSplitting.{parts_meet, parts_count, again, past}

-- ---- one mount

as_many : (mounts : List Shown) (m : ℕ) (t : TreeMap) → length (with_tree_of mounts m t) ≡ length mounts
as_many mounts m t = length-set mounts m (record (mount_at mounts m) { tree = t })

shown_there : (mounts : List Shown) (m : ℕ) (t : TreeMap) → m < length mounts → (mount_at (with_tree_of mounts m t) m).tree ≡ t
shown_there mounts m t inside = ap (λ (s : Shown). s.tree) (get_or-set_same mounts m (record (mount_at mounts m) { tree = t }) no_mount inside)

shown_elsewhere : (mounts : List Shown) (m n : ℕ) (t : TreeMap) → n ≢ m → (mount_at (with_tree_of mounts m t) n).tree ≡ (mount_at mounts n).tree
shown_elsewhere mounts m n t apart = ap (λ (s : Shown). s.tree) (get_or-set_other mounts m n (record (mount_at mounts m) { tree = t }) no_mount apart)

-- ---- mounts of different numbers

-- trees that are filled in leave as many mounts
pub as_many_filled : (mounts : List Shown) (ms : List ℕ) (ts : List TreeMap) → length (filled mounts ms ts) ≡ length mounts
as_many_filled mounts [] ts = refl
as_many_filled mounts (m ∷ ms) [] = refl
as_many_filled mounts (m ∷ ms) (t ∷ ts) = as_many_filled (with_tree_of mounts m t) ms ts ∙ as_many mounts m t

-- what is filled in twice is there as the second time
refilled : (mounts : List Shown) (ms : List ℕ) (ts us : List TreeMap) → Distinct ms → length us ≡ length ts
    → filled (filled mounts ms ts) ms us ≡ filled mounts ms us
refilled mounts [] ts us apart count = refl
refilled mounts (m ∷ ms) [] us apart count = refl
refilled mounts (m ∷ ms) (t ∷ ts) [] apart count = absurd (omega (arith, count))
refilled mounts (m ∷ ms) (t ∷ ts) (u ∷ us) apart count =
    ap (λ xs. filled xs ms us) (past (with_tree_of mounts m t) m u ms ts apart.0 ∙ ap (λ xs. filled xs ms ts) (again mounts m t u))
    ∙ refilled (with_tree_of mounts m u) ms ts us apart.1 (omega (arith, count))

-- the trees that mounts show are taken whatever those are that come for them
taken_for : (mounts : List Shown) (ms : List ℕ) (ts us : List TreeMap) → length ts ≡ length ms → length us ≡ length ms → taken mounts ms ts ≡ taken mounts ms us
taken_for mounts [] [] [] _ _ = refl
taken_for mounts [] (t ∷ ts) us count counts = absurd (omega (arith, count))
taken_for mounts [] [] (u ∷ us) count counts = absurd (omega (arith, counts))
taken_for mounts (m ∷ ms) [] us count counts = absurd (omega (arith, count))
taken_for mounts (m ∷ ms) (t ∷ ts) [] count counts = absurd (omega (arith, counts))
taken_for mounts (m ∷ ms) (t ∷ ts) (u ∷ us) count counts =
    ap (λ xs. (mount_at mounts m).tree ∷ xs) (taken_for mounts ms ts us (omega (arith, count)) (omega (arith, counts)))

-- the trees that are taken of some mounts do not change if another mount's tree is changed
taken_elsewhere : (mounts : List Shown) (m : ℕ) (t : TreeMap) (ms : List ℕ) (ts : List TreeMap) → (Has ms m → ⊥)
    → taken (with_tree_of mounts m t) ms ts ≡ taken mounts ms ts
taken_elsewhere mounts m t [] [] apart = refl
taken_elsewhere mounts m t (n ∷ ms) [] apart = refl
taken_elsewhere mounts m t [] (u ∷ ts) apart = refl
taken_elsewhere mounts m t (n ∷ ms) (u ∷ ts) apart =
    ap (λ x. x ∷ taken (with_tree_of mounts m t) ms ts) (shown_elsewhere mounts m n t (λ e. apart (inl (sym e))))
    ∙ ap (λ xs. (mount_at mounts n).tree ∷ xs) (taken_elsewhere mounts m t ms ts (λ h. apart (inr h)))

-- trees that are filled in are those that are taken then
taken_back : (mounts : List Shown) (ms : List ℕ) (ts : List TreeMap) → Distinct ms → All (λ n. n < length mounts) ms → length ts ≡ length ms
    → taken (filled mounts ms ts) ms ts ≡ ts
taken_back mounts [] [] apart within count = refl
taken_back mounts [] (t ∷ ts) apart within count = absurd (omega (arith, count))
taken_back mounts (m ∷ ms) [] apart within count = refl
taken_back mounts (m ∷ ms) (t ∷ ts) apart within count =
    let inside : m < length (filled mounts ms ts) = omega (arith, All-head (λ n. n < length mounts) m ms within, as_many_filled mounts ms ts) in
    let rest : All (λ n. n < length (with_tree_of mounts m t)) ms
    = subst (λ (k : ℕ). All (λ n. n < k) ms) (sym (as_many mounts m t)) (All-tail (λ n. n < length mounts) m ms within) in
    ap (λ (xs : List Shown). (mount_at xs m).tree ∷ taken (filled (with_tree_of mounts m t) ms ts) ms ts) (sym (past mounts m t ms ts apart.0))
    ∙ ap (λ x. x ∷ taken (filled (with_tree_of mounts m t) ms ts) ms ts) (shown_there (filled mounts ms ts) m t inside)
    ∙ ap (λ xs. t ∷ xs) (taken_back (with_tree_of mounts m t) ms ts apart.1 rest (omega (arith, count)))

blanks_of : (ts : List TreeMap) → map (λ t. empty_tree) ts ≡ replicate (length ts) empty_tree
blanks_of [] = refl
blanks_of (t ∷ ts) = ap (λ xs. empty_tree ∷ xs) (blanks_of ts)

-- ---- an exchange, and the same again

module _ (mounts : List Shown) (ms : List ℕ) (ts : List TreeMap) (apart : Distinct ms) (count : length ts ≡ length ms) where
  mounts_again : filled (filled mounts ms ts) ms (taken mounts ms ts) ≡ mounts
  mounts_again =
      refilled mounts ms ts (taken mounts ms ts) apart (parts_count ms ts mounts)
      ∙ sym (refilled mounts ms (map (λ t. empty_tree) ts) (taken mounts ms ts) apart (parts_count ms ts mounts ∙ sym (length-map ts (λ t. empty_tree))))
      ∙ parts_meet ms ts mounts apart count

  trees_again : All (λ n. n < length mounts) ms → taken (filled mounts ms ts) ms (taken mounts ms ts) ≡ ts
  trees_again within =
      taken_for (filled mounts ms ts) ms (taken mounts ms ts) ts (parts_count ms ts mounts ∙ count) count
      ∙ taken_back mounts ms ts apart within count

-- ---- before and after a command

-- numbers of mounts are numbers of other mounts too, where there are as many of these
pub within_as_many : (before after : List Shown) (ms : List ℕ) → All (λ n. n < length before) ms → length after ≡ length before → All (λ n. n < length after) ms
within_as_many before after ms within same = subst (λ (k : ℕ). All (λ n. n < k) ms) (sym same) within

-- trees that are exchanged with those of mounts, before a command and after it
pub record ThereAndBack (mounts : List Shown) (ms : List ℕ) (ts : List TreeMap) (next : List Shown) (left : List TreeMap)
    (view last : List Shown) (back : List TreeMap) : Type 0 where
  apart : Distinct ms
  within : All (λ n. n < length mounts) ms
  count : length ts ≡ length ms
  filled_in : next ≡ filled mounts ms ts
  taken_out : left ≡ taken mounts ms ts
  filled_back : last ≡ filled view ms left
  taken_then : back ≡ taken view ms left

-- trees are exchanged before a command and exchanged again after it: the facts of both, put together
pub there_and_back : {mounts : List Shown} {ms : List ℕ} {ts : List TreeMap} {next : List Shown} {left : List TreeMap} {view last : List Shown}
    {back : List TreeMap}
    → Distinct ms → All (λ n. n < length mounts) ms → length ts ≡ length ms → next ≡ filled mounts ms ts → left ≡ taken mounts ms ts
    → last ≡ filled view ms left → back ≡ taken view ms left → ThereAndBack mounts ms ts next left view last back
there_and_back apart within count filled_in taken_out filled_back taken_then = record {
  apart = apart;
  within = within;
  count = count;
  filled_in = filled_in;
  taken_out = taken_out;
  filled_back = filled_back;
  taken_then = taken_then;
}

module _ {mounts : List Shown} {ms : List ℕ} {ts : List TreeMap} {next view last : List Shown} {left back : List TreeMap}
    (way : ThereAndBack mounts ms ts next left view last back) where
  -- a command that changes nothing leaves all as it was
  pub undone : view ≡ next → (last ≡ mounts) × (back ≡ ts)
  undone stays =
      let view_is : view ≡ filled mounts ms ts = stays ∙ way.filled_in in (
        way.filled_back
            ∙ ap (λ xs. filled xs ms left) view_is
            ∙ ap (λ us. filled (filled mounts ms ts) ms us) way.taken_out
            ∙ mounts_again mounts ms ts way.apart way.count,
        way.taken_then
            ∙ ap (λ xs. taken xs ms left) view_is
            ∙ ap (λ us. taken (filled mounts ms ts) ms us) way.taken_out
            ∙ trees_again mounts ms ts way.apart way.count way.within,
      )

  left_count : length left ≡ length ts
  left_count = ap length way.taken_out ∙ parts_count ms ts mounts

  -- what it leaves is parted into the mounts without the caches' trees and those trees
  pub parted_so : (blanks : List TreeMap) (end : List Shown) → blanks ≡ replicate (length ms) empty_tree → end ≡ filled last ms blanks
      → (end ≡ blanked view ms ts) × (back ≡ taken view ms ts)
  parted_so blanks end empty after =
      let blank : blanks ≡ map (λ t. empty_tree) ts = empty ∙ ap (λ n. replicate n empty_tree) (sym way.count) ∙ sym (blanks_of ts) in (
        after
            ∙ ap (λ us. filled last ms us) blank
            ∙ ap (λ xs. filled xs ms (map (λ t. empty_tree) ts)) way.filled_back
            ∙ refilled view ms left (map (λ t. empty_tree) ts) way.apart (length-map ts (λ t. empty_tree) ∙ sym left_count),
        way.taken_then ∙ taken_for view ms left ts (left_count ∙ way.count) way.count,
      )

-- ---- the exchange of the trees up to a number

distinct_rest : (ms : List ℕ) (i : ℕ) → Distinct ms → Distinct (drop i ms)
distinct_rest [] zero apart = apart
distinct_rest [] (suc i) apart = apart
distinct_rest (m ∷ ms) zero apart = apart
distinct_rest (m ∷ ms) (suc i) apart = distinct_rest ms i apart.1

pub record Exchanging (before : List Shown) (ms : List ℕ) (came : List TreeMap) (i : ℕ) (mounts : List Shown) (trees : List TreeMap) : Type 0 where
  pub mounts_to_come : filled mounts (drop i ms) (drop i trees) ≡ filled before ms came
  pub trees_to_come : take i trees ++ taken mounts (drop i ms) (drop i trees) ≡ taken before ms came
  pub trees_count : length trees ≡ length ms
  pub mounts_count : length mounts ≡ length before

module _ {before : List Shown} {ms : List ℕ} {came : List TreeMap} {i : ℕ} {mounts : List Shown} {trees : List TreeMap}
    (so_far : Exchanging before ms came i mounts trees) (apart : Distinct ms) (more : i < length ms) (m : ℕ) (t : TreeMap)
    (number : m ≡ get_or ms i 0) (tree : t ≡ get_or trees i t) where
  ahead : drop i ms ≡ m ∷ drop (i + 1) ms
  ahead = drop_more ms i 0 more ∙ ap (λ k. k ∷ drop (i + 1) ms) (sym number)

  trees_ahead : drop i trees ≡ t ∷ drop (i + 1) trees
  trees_ahead = drop_more trees i t (omega (arith, so_far.trees_count, more)) ∙ ap (λ x. x ∷ drop (i + 1) trees) (sym tree)

  other : Has (drop (i + 1) ms) m → ⊥
  other = (subst (λ xs. Distinct xs) ahead (distinct_rest ms i apart)).0

  abbrev shown : TreeMap
  shown = (mount_at mounts m).tree

  rest_stays : drop (i + 1) (set trees i shown) ≡ drop (i + 1) trees
  rest_stays = drop-set-lt (i + 1) trees i shown (omega arith)

  both_ahead : {A : Type 0} → (f : List ℕ → List TreeMap → A) → f (drop i ms) (drop i trees) ≡ f (m ∷ drop (i + 1) ms) (t ∷ drop (i + 1) trees)
  both_ahead f = ap (λ ks. f ks (drop i trees)) ahead ∙ ap (λ us. f (m ∷ drop (i + 1) ms) us) trees_ahead

  exchanged : Exchanging before ms came (i + 1) (with_tree_of mounts m t) (set trees i shown)
  exchanged = record {
    mounts_to_come = ap (λ us. filled (with_tree_of mounts m t) (drop (i + 1) ms) us) rest_stays ∙ sym (both_ahead (filled mounts)) ∙ so_far.mounts_to_come;
    trees_to_come =
        ap (λ us. us ++ taken (with_tree_of mounts m t) (drop (i + 1) ms) (drop (i + 1) (set trees i shown)))
        (take_more_set trees i shown (omega (arith, so_far.trees_count, more)))
        ∙ ap (λ us. take i trees ++ shown ∷ [] ++ taken (with_tree_of mounts m t) (drop (i + 1) ms) us) rest_stays
        ∙ ap (λ us. take i trees ++ shown ∷ [] ++ us) (taken_elsewhere mounts m t (drop (i + 1) ms) (drop (i + 1) trees) other)
        ∙ append_assoc (take i trees) (shown ∷ []) (taken mounts (drop (i + 1) ms) (drop (i + 1) trees))
        ∙ sym (ap (λ us. take i trees ++ us) (both_ahead (taken mounts)))
        ∙ so_far.trees_to_come;
    trees_count = length-set trees i shown ∙ so_far.trees_count;
    mounts_count = as_many mounts m t ∙ so_far.mounts_count;
  }

  -- in the order in which it is written: a spare tree first, and then the one that the mount showed
  pub exchanged_by : (next : List Shown) (spare left : TreeMap) → next ≡ with_tree_of mounts m t → left ≡ shown
      → Exchanging before ms came (i + 1) next (set (set trees i spare) i left)
  exchanged_by next spare left after old =
      subst
      (λ us. Exchanging before ms came (i + 1) next us)
      (ap (λ x. set trees i x) (sym old) ∙ sym (set-set trees i spare left))
      (subst (λ xs. Exchanging before ms came (i + 1) xs (set trees i shown)) (sym after) exchanged)

module _ {before : List Shown} {ms : List ℕ} {came : List TreeMap} {i : ℕ} {mounts : List Shown} {trees : List TreeMap}
    (so_far : Exchanging before ms came i mounts trees) (past_all : length ms ≤ i) where
  pub all_taken : trees ≡ taken before ms came
  all_taken =
      sym (append-nil trees)
      ∙ ap (λ us. us ++ []) (sym (take_all i trees (omega (arith, so_far.trees_count, past_all))))
      ∙ ap (λ us. take i trees ++ taken mounts (drop i ms) us) (sym (drop_all i trees (omega (arith, so_far.trees_count, past_all))))
      ∙ so_far.trees_to_come
