-- The parents of a path, one after another.
use Rattle.std.proofs.Common.{◌≡◌, ℕ, ◌+◌, ◌<◌, ◌≤◌, List, [], ◌∷◌, ◌++◌, map, drop, length, get_or, refl, ap, sym, ◌∙◌, append_assoc, drop-cons}
use Rattle.std.proofs.Common.{add-one, arith}
use Rattle.std.specs.Prelude.{Result, Ok, Err, Bool, true, false, cond, nat_lt}
use Rattle.std.proofs.lemmas.Bool.{lt-ltb}
use Rattle.llb_tree.specs.Path.{below}
use Rattle.llb_tree.specs.declared.fault.TreeFault.TheVariants.{BadName}
use Rattle.std.specs.FinMap as finite
use Rattle.llb_wire.specs.CallResults.{◌>>=◌}
use Rattle.std.proofs.lemmas.List.{append-nil, drop_all, length-append}
use Rattle.llb_tree.specs.Tree.{TreeMap, parents}
use Rattle.llb_tree.specs.ModeAndOwner.{MetaValue}
use Rattle.llb_tree.specs.declared.fault.TreeFault.{TreeFault}
use Rattle.llb_fileop.specs.Making.{make_all, kept_or_made, parents_from}

map_map : (p : List (List ℕ)) (n : List ℕ) (qs : List (List (List ℕ)))
    → map (λ (q : List (List ℕ)). p ++ q) (map (λ (q : List (List ℕ)). n ∷ q) qs) ≡ map (λ (q : List (List ℕ)). (p ++ n ∷ []) ++ q) qs
map_map p n [] = refl
map_map p n (q ∷ qs) = λ i. (sym (append_assoc p (n ∷ []) q)) i ∷ map_map p n qs i

parents_behind : (p ns : List (List ℕ)) → parents_from p ns ≡ map (λ (q : List (List ℕ)). p ++ q) (parents ns)
parents_behind p [] = refl
parents_behind p (n ∷ ns) = λ i. (sym (append-nil p)) i ∷ (parents_behind (p ++ n ∷ []) ns ∙ sym (map_map p n (parents ns))) i

map_same : (qs : List (List (List ℕ))) → map (λ (q : List (List ℕ)). [] ++ q) qs ≡ qs
map_same [] = refl
map_same (q ∷ qs) = ap (λ l. q ∷ l) (map_same qs)

pub parents_are : (ns : List (List ℕ)) → parents_from [] ns ≡ parents ns
parents_are ns = parents_behind [] ns ∙ map_same (parents ns)

-- the parents so far are made, and those that are left are this one and those below it
pub record MadeSoFar (m : MetaValue) (ns : List (List ℕ)) (old : TreeMap) (i : ℕ) (p : List (List ℕ)) (t : TreeMap) : Type 0 where
  pub left : make_all m (parents_from p (drop i ns)) t ≡ make_all m (parents ns) old
  pub names : length p ≡ i

-- before the first step, what is left to make is all the parents
pub made_start : (m : MetaValue) (ns : List (List ℕ)) (t : TreeMap) → make_all m (parents_from [] (drop 0 ns)) t ≡ make_all m (parents ns) t
made_start m ns t = ap (λ ps. make_all m ps t) (parents_are ns)

-- making the parents that are left is making the next one, and then the others below it
pub made_next : (m : MetaValue) (ns : List (List ℕ)) (i : ℕ) (p : List (List ℕ)) (t : TreeMap) → i < length ns
    → make_all m (parents_from p (drop i ns)) t ≡
    (kept_or_made m p (finite.get t p) t >>= make_all m (parents_from (p ++ get_or ns i [] ∷ []) (drop (i + 1) ns)))
made_next m ns i p t low =
    ap (λ l. make_all m (parents_from p l) t) (drop-cons ns i [] low)
    ∙ ap (λ k. kept_or_made m p (finite.get t p) t >>= make_all m (parents_from (p ++ get_or ns i [] ∷ []) (drop k ns))) (sym (add-one i))

-- if the next parent can't be made, its fault is that of making all the parents
pub made_fault : (m : MetaValue) (ns : List (List ℕ)) (old : TreeMap) (i : ℕ) (p : List (List ℕ)) (t : TreeMap) (e : TreeFault)
    → MadeSoFar m ns old i p t → i < length ns
    → kept_or_made m p (finite.get t p) t ≡ Err e → make_all m (parents ns) old ≡ Err e
made_fault m ns old i p t e here low is =
    sym here.left ∙ made_next m ns i p t low ∙ ap (λ r. r >>= make_all m (parents_from (p ++ get_or ns i [] ∷ []) (drop (i + 1) ns))) is

-- if the next parent is there or is made, one more is made so far, and the one after it is one name further down
pub made_more : (m : MetaValue) (ns : List (List ℕ)) (old : TreeMap) (i : ℕ) (p : List (List ℕ)) (t u : TreeMap) (n : List ℕ)
    → MadeSoFar m ns old i p t → i < length ns
    → kept_or_made m p (finite.get t p) t ≡ Ok u → n ≡ get_or ns i [] → MadeSoFar m ns old (i + 1) (p ++ n ∷ []) u
made_more m ns old i p t u n here low is same =
    record {
      left = ap (λ k. make_all m (parents_from (p ++ k ∷ []) (drop (i + 1) ns)) u) same
          ∙ ap (λ r. r >>= make_all m (parents_from (p ++ get_or ns i [] ∷ []) (drop (i + 1) ns))) (sym is) ∙ sym (made_next m ns i p t low) ∙ here.left;
      names = omega (arith, length-append p (n ∷ []), here.names);
    }

-- with no name left, the tree so far is the result of making all the parents
pub made_end : (m : MetaValue) (ns : List (List ℕ)) (old : TreeMap) (i : ℕ) (p : List (List ℕ)) (t : TreeMap) → MadeSoFar m ns old i p t
    → length ns ≤ i → make_all m (parents ns) old ≡ Ok t
made_end m ns old i p t here past = sym here.left ∙ ap (λ l. make_all m (parents_from p l) t) (drop_all i ns past)

-- a path of fewer than 128 names takes one more name
pub below_fits : (p q : List (List ℕ)) (n : List ℕ) → length p < 128 → below p n ≡ Ok q → q ≡ p ++ n ∷ []
below_fits p q n short e = go (nat_lt (length p) 128) (lt-ltb (length p) 128 short) e
  where
    go : (b : Bool) → b ≡ true → cond {A = Result (List (List ℕ)) TreeFault} b (Ok (p ++ n ∷ [])) (Err BadName) ≡ Ok q → q ≡ p ++ n ∷ []
    go true is e = let same : p ++ n ∷ [] ≡ q = cc in sym same
    go false is e = absurd cc

-- a path of fewer than 128 names is never refused one more
pub below_grants : {C : Type 0} (p : List (List ℕ)) (n : List ℕ) (f : TreeFault) → length p < 128 → below p n ≡ Err f → C
below_grants {C} p n f short e = go (nat_lt (length p) 128) (lt-ltb (length p) 128 short) e
  where
    go : (b : Bool) → b ≡ true → cond {A = Result (List (List ℕ)) TreeFault} b (Ok (p ++ n ∷ [])) (Err BadName) ≡ Err f → C
    go true is e = absurd cc
    go false is e = absurd cc
