-- Names with a slash before each: their order as bytes is path order, and what is before the last slash, or before
-- both of two, are names again.
use Rattle.std.proofs.Common.{◌≡◌, ◌≢◌, ℕ, zero, suc, ◌<◌, ◌≤◌, ◌==◌, nat_lt, Bool, true, false, cond, List, [], ◌∷◌, ◌++◌, length, take}
use Rattle.std.proofs.Common.{drop, nat_eq, Some, None, take-append-drop, refl, sym, ap, subst, ◌∙◌, true≢false, arith, append_assoc}
use Rattle.std.proofs.Common.{drop-cons, ◌⊎◌, inl, inr}
use Rattle.std.specs.Prelude.{slice_get}
use Rattle.std.specs.List.{All}
use Rattle.std.specs.Cmp.Lexicographic.{pointwise, bytes_decides}
use Rattle.std.proofs.lemmas.Bool.{cases_lt, lt-ltb, le-ltb, eqb-true, eq-eqb, ne_eqb}
use Rattle.std.proofs.lemmas.Grind.{flat_map-append}
use Rattle.std.proofs.lemmas.List.{append-nil, take_at}
use Rattle.std.proofs.lemmas.List.Elements.{All-head, All-tail, All-weaker}
use Rattle.std.proofs.lemmas.List.Sums.{AllPass-from_list_all}
use Rattle.std.specs.declared.cmp.Ordering.{Ordering}
use Rattle.std.specs.declared.cmp.Ordering.TheVariants.{Less, Equal, Greater}
use Rattle.std.specs.Ordering.{is_lt, nat_cmp, ordering_then}
use Rattle.std.specs.Cmp.{nat_cmp_is}
use Rattle.llb_tree.specs.Path.{is_name, is_name_byte, IsPath, name_cmp, path_cmp}
use Rattle.llb_treetext.specs.TreeText.{names_text, path_text}
use Rattle.llb_treetext.specs.LineFields.{trail}
use Rattle.llb_treetext.specs.TreeAfterNextLine.{rank, trail_cmp, opens}
use Rattle.llb_tree.proofs.NameTests.{passes_tests, no_slash, from_space}
use Rattle.llb_treetext.proofs.EntryLineRoundTrip.{long_path}

abbrev pub Named : List (List ℕ) → Type 0
Named p = All (λ name. is_name name ≡ true) p

abbrev pub NoSlash : List ℕ → Type 0
NoSlash text = All (λ b. b ≢ 47) text

-- nothing, or a slash and more
abbrev pub IsTail : List ℕ → Type 0
IsTail s = (s ≡ []) ⊎ ((more : List ℕ) × (s ≡ 47 ∷ more))

name_bytes : (name : List ℕ) → is_name name ≡ true → All (λ b. is_name_byte b ≡ true) name
name_bytes name is = AllPass-from_list_all is_name_byte name (passes_tests name is).plain

not_slash : (b : ℕ) → (b == 47) ≡ false → b ≢ 47
not_slash b is same = true≢false (sym (eq-eqb b 47 same) ∙ is)

-- no byte of a name is a slash
pub slashless : (name : List ℕ) → is_name name ≡ true → NoSlash name
slashless name is = All-weaker (λ b. is_name_byte b ≡ true) (λ b. b ≢ 47) (λ b ok. not_slash b (no_slash b ok)) name (name_bytes name is)

pub names_tail : (p : List (List ℕ)) → IsTail (names_text p)
names_tail [] = inl refl
names_tail (n ∷ p) = inr (n ++ names_text p, refl)

-- one name more is a slash and the name at the end of the text
pub names_more : (d : List (List ℕ)) (n : List ℕ) → names_text (d ++ n ∷ []) ≡ names_text d ++ 47 ∷ n
names_more d n = flat_map-append (λ name. 47 ∷ name) d (n ∷ []) ∙ ap (λ t. names_text d ++ 47 ∷ t) (append-nil n)

-- names after names have the text of the first and then that of the others
pub names_split : (d r : List (List ℕ)) → names_text (d ++ r) ≡ names_text d ++ names_text r
names_split d r = flat_map-append (λ name. 47 ∷ name) d r

-- the names of a path's text
pub trail_is : (p : List (List ℕ)) → IsPath p → trail (path_text p) ≡ names_text p
trail_is [] path = refl
trail_is (n ∷ p) path = ap (λ t. cond t [] (names_text (n ∷ p)))
    (ne_eqb (length (names_text (n ∷ p))) 1 (λ e. omega (arith, e, long_path (n ∷ p) path (λ at. absurd cc))))

-- where the text of names has no byte, there are no names
pub no_names_left : (p : List (List ℕ)) → length (names_text p) ≡ 0 → p ≡ []
no_names_left [] is = refl
no_names_left (n ∷ p) is = absurd (omega (arith, is))

-- ---- the last slash

slash_inside : (a x : List ℕ) → NoSlash (a ++ 47 ∷ x) → ⊥
slash_inside [] x none = All-head (λ b. b ≢ 47) 47 x none refl
slash_inside (c ∷ a) x none = slash_inside a x (All-tail (λ b. b ≢ 47) c (a ++ 47 ∷ x) none)

-- a text without a slash is not made of two texts with a slash between them
pub none_inside : (a x whole : List ℕ) → NoSlash whole → whole ≡ a ++ 47 ∷ x → ⊥
none_inside a x whole none same = slash_inside a x (subst NoSlash same none)

-- the last slash of a text is at one place: what is before it is the same however it is found
pub last_slash : (a b x y : List ℕ) → NoSlash x → NoSlash y → a ++ 47 ∷ x ≡ b ++ 47 ∷ y → a ≡ b
last_slash [] [] x y nx ny same = refl
last_slash [] (c ∷ b) x y nx ny same = absurd (none_inside b y x nx cc)
last_slash (c ∷ a) [] x y nx ny same = let rest : y ≡ a ++ 47 ∷ x = cc in absurd (none_inside a x y ny rest)
last_slash (c ∷ a) (d ∷ b) x y nx ny same = let one : c ≡ d = cc in let rest = last_slash a b x y nx ny cc in λ i. one i ∷ rest i

-- ---- names at the beginning of other names

head_not : (b : ℕ) (m s t : List ℕ) → NoSlash (b ∷ m) → IsTail s → s ≡ b ∷ t → ⊥
head_not b m s t none (inl nil) same = let e : ◌≡◌ {A = List ℕ} [] (b ∷ t) = sym nil ∙ same in absurd cc
head_not b m s t none (inr (more, slash)) same = let e : ◌≡◌ {A = List ℕ} (47 ∷ more) (b ∷ t) = sym slash
    ∙ same in let h : 47 ≡ b = cc in All-head (λ b. b ≢ 47) b m none (sym h)

same_name : (n m s t : List ℕ) → NoSlash n → NoSlash m → IsTail s → IsTail t → n ++ s ≡ m ++ t → (n ≡ m) × (s ≡ t)
same_name [] [] s t nn nm ts tt' same = (refl, same)
same_name [] (b ∷ m) s t nn nm ts tt' same = absurd (head_not b m s (m ++ t) nm ts same)
same_name (a ∷ n) [] s t nn nm ts tt' same = absurd (head_not a n t (n ++ s) nn tt' (sym same))
same_name (a ∷ n) (b ∷ m) s t nn nm ts tt' same =
    let one : a ≡ b = cc in
    let rest = same_name n m s t (All-tail (λ b. b ≢ 47) a n nn) (All-tail (λ b. b ≢ 47) b m nm) ts tt' cc in
    ((λ i. one i ∷ rest.0 i), rest.1)

tail_more : (d : List (List ℕ)) (s : List ℕ) → IsTail s → IsTail (names_text d ++ s)
tail_more [] s tail = tail
tail_more (n ∷ d) s tail = inr ((n ++ names_text d) ++ s, refl)

-- what may follow the names of the last directory, or of one above it, is nothing or begins with a slash
pub opens_tail : (s : List ℕ) (dir : Bool) → opens s dir ≡ true → IsTail s
opens_tail [] dir is = inl refl
opens_tail (b ∷ s) dir is = inr (s, ap (λ c. c ∷ s) (eqb-true b 47 is))

-- names whose text is that of others and then ends, or goes on with a slash, begin with these others
pub names_front : (q d : List (List ℕ)) (s : List ℕ) → Named q → Named d → IsTail s → names_text q ≡ names_text d ++ s → (r : List (List ℕ)) × (q ≡ d ++ r)
names_front q [] s nq nd tail same = (q, refl)
names_front [] (m ∷ d) s nq nd tail same = absurd cc
names_front (n ∷ q) (m ∷ d) s nq nd tail same =
    let bytes : n ++ names_text q ≡ m ++ (names_text d ++ s) =
    (let e : n ++ names_text q ≡ (m ++ names_text d) ++ s = cc in e) ∙ append_assoc m (names_text d) s in
    let one = same_name n m (names_text q) (names_text d ++ s) (slashless n (All-head (λ name. is_name name ≡ true) n q nq))
    (slashless m (All-head (λ name. is_name name ≡ true) m d nd)) (names_tail q) (tail_more d s tail) bytes in
    let (r, rest) = names_front q d s (All-tail (λ name. is_name name ≡ true) n q nq) (All-tail (λ name. is_name name ≡ true) m d nd) tail one.1 in
    (r, λ i. one.0 i ∷ rest i)

-- ---- the order

-- a byte that ranks as itself, above a slash
abbrev Ranks : ℕ → Type 0
Ranks b = (rank b ≡ b) × (0 < b)

name_ranks : (name : List ℕ) → is_name name ≡ true → All Ranks name
name_ranks name is = All-weaker (λ b. is_name_byte b ≡ true) Ranks
    (λ b ok. (ap (λ t. cond t 0 b) (no_slash b ok), let low = from_space b ok in omega (arith, low))) name (name_bytes name is)

then_assoc : (o p q : Ordering) → ordering_then o (ordering_then p q) ≡ ordering_then (ordering_then o p) q
then_assoc Less p q = refl
then_assoc Equal p q = refl
then_assoc Greater p q = refl

below : (s : List ℕ) (b : ℕ) (m : List ℕ) → IsTail s → Ranks b → trail_cmp s (b ∷ m) ≡ Less
below s b m (inl nil) is = ap (λ x. trail_cmp x (b ∷ m)) nil
below s b m (inr (more, slash)) is = ap (λ x. trail_cmp x (b ∷ m)) slash
    ∙ ap (λ o. ordering_then o (trail_cmp more m)) (sym (nat_cmp_is 0 (rank b) Less (subst (λ c. 0 < c) (sym is.0) is.1)))

above : (s : List ℕ) (b : ℕ) (m : List ℕ) → IsTail s → Ranks b → trail_cmp (b ∷ m) s ≡ Greater
above s b m (inl nil) is = ap (trail_cmp (b ∷ m)) nil
above s b m (inr (more, slash)) is = ap (trail_cmp (b ∷ m)) slash
    ∙ ap (λ o. ordering_then o (trail_cmp m more)) (sym (nat_cmp_is (rank b) 0 Greater (subst (λ c. 0 < c) (sym is.0) is.1)))

name_order : (n m s t : List ℕ) → All Ranks n → All Ranks m → IsTail s → IsTail t → trail_cmp (n ++ s) (m ++ t) ≡ ordering_then (name_cmp n m) (trail_cmp s t)
name_order [] [] s t rn rm ts tt' = refl
name_order [] (b ∷ m) s t rn rm ts tt' = below s b (m ++ t) ts (All-head Ranks b m rm)
name_order (a ∷ n) [] s t rn rm ts tt' = above t a (n ++ s) tt' (All-head Ranks a n rn)
name_order (a ∷ n) (b ∷ m) s t rn rm ts tt' =
    (λ i. ordering_then (nat_cmp ((All-head Ranks a n rn).0 i) ((All-head Ranks b m rm).0 i))
    (name_order n m s t (All-tail Ranks a n rn) (All-tail Ranks b m rm) ts tt' i))
    ∙ then_assoc (nat_cmp a b) (name_cmp n m) (trail_cmp s t)

-- the texts of names, with a slash below all bytes of names, are in the order of the paths
pub trail_order : (q p : List (List ℕ)) → Named q → Named p → trail_cmp (names_text q) (names_text p) ≡ path_cmp q p
trail_order [] [] nq np = refl
trail_order [] (m ∷ p) nq np = refl
trail_order (n ∷ q) [] nq np = refl
trail_order (n ∷ q) (m ∷ p) nq np =
    ap (λ o. ordering_then o (trail_cmp (n ++ names_text q) (m ++ names_text p))) (sym (nat_cmp_is 0 0 Equal refl))
    ∙ name_order n m (names_text q) (names_text p) (name_ranks n (All-head (λ name. is_name name ≡ true) n q nq))
    (name_ranks m (All-head (λ name. is_name name ≡ true) m p np)) (names_tail q) (names_tail p)
    ∙ ap (ordering_then (name_cmp n m)) (trail_order q p (All-tail (λ name. is_name name ≡ true) n q nq) (All-tail (λ name. is_name name ≡ true) m p np))

-- ---- comparing two texts of names, where one of them ends

drop_past : (xs : List ℕ) (k : ℕ) → length xs ≤ k → drop k xs ≡ []
drop_past [] zero le = refl
drop_past [] (suc k) le = refl
drop_past (x ∷ xs) zero le = absurd (omega (arith, le))
drop_past (x ∷ xs) (suc k) le = drop_past xs k (omega (arith, le))

module _ (first second : List ℕ) (k : ℕ) (so_far : trail_cmp first second ≡ trail_cmp (drop k first) (drop k second)) where
  -- the second text has ended, and the first goes on: the first is not before the second
  pub longer : k < length first → length second ≤ k → false ≡ is_lt (trail_cmp first second)
  longer one le = sym (ap is_lt (so_far ∙ (λ i. trail_cmp (drop-cons first k 0 one i) (drop_past second k le i))))

  -- the first text has ended: it is before the second exactly if it is shorter
  pub ended : k ≡ length first → (b : Bool) → b ≡ nat_lt (length first) (length second) → b ≡ is_lt (trail_cmp first second)
  ended end b is = is ∙ sym (ap is_lt (so_far ∙ ap (λ x. trail_cmp x (drop k second)) (drop_past first k (omega (arith, end)))) ∙ by_left second k end)
    where
      by_left : (second : List ℕ) (k : ℕ) → k ≡ length first → is_lt (trail_cmp [] (drop k second)) ≡ nat_lt (length first) (length second)
      by_left second k end = elim (cases_lt k (length second)) [
        | inl below ↦ ap (λ x. is_lt (trail_cmp [] x)) (drop-cons second k 0 below) ∙ sym (lt-ltb (length first) (length second) (omega (arith, end, below)))
        | inr past ↦ ap (λ x. is_lt (trail_cmp [] x)) (drop_past second k past) ∙ sym (le-ltb (length first) (length second) (omega (arith, end, past)))
      ]

-- an empty list before other bytes leaves these bytes as they are
pub no_bytes : (rest back : List ℕ) → length rest ≡ 0 → rest ++ back ≡ back
no_bytes [] back is = refl
no_bytes (x ∷ rest) back is = absurd (omega (arith, is))

-- ---- what is after a prefix

-- where the first bytes of names are a directory's, the names are the directory's and then what is left
pub stripped : (names dir later : List ℕ) → pointwise nat_eq (take (length dir) names) dir ≡ true → later ≡ drop (length dir) names → names ≡ dir ++ later
stripped names dir later same rest = sym (take-append-drop (length dir) names) ∙ (λ i. (bytes_decides (take (length dir) names) dir).0 same i ++ sym rest i)

-- where the first bytes of names are not a directory's, the names are not the directory's and then more
pub not_stripped : {A : Type 0} (names dir later : List ℕ) → pointwise nat_eq (take (length dir) names) dir ≡ false → names ≡ dir ++ later → A
not_stripped names dir later other same =
    absurd (true≢false (sym ((bytes_decides (take (length dir) names) dir).1 (ap (take (length dir)) same ∙ take_at dir later (length dir) refl)) ∙ other))

-- where nothing follows a directory's names in the last path, that is the directory itself, and it may hold more
pub opens_nothing : (later : List ℕ) (dir : Bool) → None ≡ slice_get later 0 → dir ≡ true → opens later dir ≡ true
opens_nothing [] dir is shows = shows
opens_nothing (b ∷ later) dir is shows = absurd cc

-- where a slash follows a directory's names in the last path, the directory is above that path, so it may hold more
pub opens_byte : (later : List ℕ) (b : ℕ) (dir : Bool) → Some b ≡ slice_get later 0 → nat_eq b 47 ≡ true → opens later dir ≡ true
opens_byte [] b dir is shows = absurd cc
opens_byte (c ∷ later) b dir is shows = let same : b ≡ c = cc in ap (λ x. x == 47) (sym same) ∙ shows
