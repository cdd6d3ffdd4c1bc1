-- Paths whose names have a property N that each name by `is_name` has: what a text is read as is such a path, and so is a part of one.
use Rattle.std.proofs.Common.{◌≡◌, ℕ, zero, suc, ◌-◌, Bool, true, false, ◌||◌, ◌==◌, nat_eq, nat_lt, cond, List, [], ◌∷◌, ◌++◌, length, map, take}
use Rattle.std.specs.Prelude.{Result, Ok, Err, slice_get, unwrap_or}
use Rattle.std.specs.List.{All, filter, starts_with}
use Rattle.std.specs.Result.{result_ok}
use Rattle.std.proofs.lemmas.List.Elements.{All-nil, All-cons, All-head, All-tail, All-push, All-take, All-map, All-weaker}
use Rattle.llb_wire.specs.CallResults.{◌>>=◌}
use Rattle.llb_tree.specs.Path.{is_dot, is_dots, is_name, name_of, below, enter, follow, parts_of, path_of, path_from}
use Rattle.llb_tree.specs.Tree.{parents}
use Rattle.llb_tree.specs.declared.fault.TreeFault.{TreeFault}
use Rattle.llb_tree.specs.declared.fault.TreeFault.TheVariants.{BadName}
use Rattle.llb_loader.specs.Mounts.{value_of}
use Rattle.llb_model.specs.Program.{path_in}
use Rattle.llb_laws.proofs.AlikeValues.{InOption, InResult, in_choice, in_after}

-- ---- items

pub in_get : {A : Type 0} (P : A → Type 0) (xs : List A) → All P xs → (i : ℕ) → InOption P (slice_get xs i)
in_get P [] all i = tt
in_get P (x ∷ xs) all zero = All-head P x xs all
in_get P (x ∷ xs) all (suc i) = in_get P xs (All-tail P x xs all) i

pub all_filter : {A : Type 0} (P : A → Type 0) (test : A → Bool) (xs : List A) → All P xs → All P (filter test xs)
all_filter P test [] all = all
all_filter P test (x ∷ xs) all = by_test (test x) (all_filter P test xs (All-tail P x xs all))
  where
    by_test : (b : Bool) → All P (filter test xs) → All P (cond b (x ∷ filter test xs) (filter test xs))
    by_test true rest = All-cons P x (filter test xs) (All-head P x xs all) rest
    by_test false rest = rest

-- ---- paths

module _ (N : List ℕ → Type 0) where
  pub parents_named : (p : List (List ℕ)) → All N p → All (All N) (parents p)
  parents_named [] all = All-nil (All N)
  parents_named (n ∷ p) all =
      All-cons (All N) [] (map (λ q. n ∷ q) (parents p)) (All-nil N)
      (All-map (All N) (λ q. n ∷ q) (parents p)
      (All-weaker (All N) (λ q. All N (n ∷ q)) (λ q h. All-cons N n q (All-head N n p all) h) (parents p) (parents_named p (All-tail N n p all))))

  pub below_named : (p : List (List ℕ)) (n : List ℕ) → All N p → N n → InResult (All N) (below p n)
  below_named p n all is = in_choice (All N) (nat_lt (length p) 128) (Ok (p ++ n ∷ [])) (Err BadName) (λ _. All-push N p n all is) tt

  module _ (names : (n : List ℕ) → is_name n ≡ true → N n) where
    entered : (p : List (List ℕ)) (part : List ℕ) → All N p → InResult (All N) (enter p part)
    entered p part all =
        in_choice (All N) (length part == 0 || is_dot part) (Ok p) (cond (is_dots part) (Ok (take (length p - 1) p)) (name_of part >>= below p)) (λ _. all)
        (in_choice (All N) (is_dots part) (Ok (take (length p - 1) p)) (name_of part >>= below p) (λ _. All-take N (length p - 1) p all)
        (in_after N (All N) (name_of part) (below p) (in_choice N (is_name part) (Ok part) (Err BadName) (names part) tt) (λ n is. below_named p n all is)))

    followed : (p : List (List ℕ)) → All N p → (parts : List (List ℕ)) → InResult (All N) (follow p parts)
    followed p all [] = all
    followed p all (part ∷ parts) =
        in_after (All N) (All N) (enter p part) (λ next. follow next parts) (entered p part all) (λ next is. followed next is parts)

    pub read_named : (text : List ℕ) → InResult (All N) (path_of text)
    read_named text = followed [] (All-nil N) (parts_of text)

    pub read_from_named : (start : List (List ℕ)) → All N start → (text : List ℕ) → InOption (All N) (result_ok (path_from start text))
    read_from_named start all text =
        by_result (path_from start text)
        (in_choice (All N) (starts_with nat_eq text (47 ∷ [])) (path_of text) (follow start (parts_of text)) (λ _. read_named text)
        (followed start all (parts_of text)))
      where
        by_result : (r : Result (List (List ℕ)) TreeFault) → InResult (All N) r → InOption (All N) (result_ok r)
        by_result (Ok p) is = is
        by_result (Err e) is = tt

    pub inside_named : (text : List ℕ) → All N (path_in text)
    inside_named text = by_result (path_of text) (read_named text)
      where
        by_result : (r : Result (List (List ℕ)) TreeFault) → InResult (All N) r → All N (unwrap_or (value_of r) [])
        by_result (Ok p) is = is
        by_result (Err e) is = All-nil N
