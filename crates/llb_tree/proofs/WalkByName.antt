-- A walk, a name at a time.
use Rattle.std.proofs.Common.{◌≡◌, ◌≢◌, ℕ, zero, suc, ◌+◌, ◌<◌, List, [], ◌∷◌, ◌++◌, length, take, drop, map, Option, Some, Result, Ok}
use Rattle.std.proofs.Common.{refl, sym, ap, ◌∙◌, arith, add-one}
use Rattle.llb_tree.specs.declared.fault.TreeFault.{TreeFault}
use Rattle.llb_tree.specs.ModeAndOwner.{MetaValue}
use Rattle.llb_tree.specs.Tree.{Entry, Dir, File, Look, TreeMap, parents, all_dirs, walk, file_fits, dir_fits, put_file, put_dir}
use Rattle.llb_tree.proofs.SubtreeEntries.{walk-cons}
use Rattle.llb_wire.specs.CallResults.{◌>>=◌}
use Rattle.std.specs.FinMap as finite

-- from the i-th name on
abbrev pub walk_from : Look → List (List ℕ) → ℕ → Result (Unit {0}) TreeFault
walk_from look p i = walk (λ q. look (take i p ++ q)) (drop i p)

pub walk_split : (look : Look) (p : List (List ℕ)) (i : ℕ) → i < length p
    → walk_from look p i ≡ all_dirs (look (take i p) ∷ map (λ q. look (take (suc i) p ++ q)) (parents (drop (suc i) p)))
walk_split look [] i lt = absurd (omega arith)
walk_split look (n ∷ p) zero lt = walk-cons look n p
walk_split look (n ∷ p) (suc i) lt = walk_split (λ q. look (n ∷ q)) p i (omega arith)

module _ (look : Look) (p : List (List ℕ)) (i : ℕ) (lt : i < length p) (so_far : walk_from look p i ≡ walk look p) where
  after : (e : Option Entry) → look (take i p) ≡ e → walk look p ≡ all_dirs (e ∷ map (λ q. look (take (suc i) p ++ q)) (parents (drop (suc i) p)))
  after e is = sym so_far ∙ walk_split look p i lt ∙ ap (λ x. all_dirs (x ∷ map (λ q. look (take (suc i) p ++ q)) (parents (drop (suc i) p)))) is

  -- a directory is there, so the names after it decide
  pub walk_dir : (m : MetaValue) → look (take i p) ≡ Some (Dir m) → walk_from look p (i + 1) ≡ walk look p
  walk_dir m is = ap (walk_from look p) (add-one i) ∙ sym (after (Some (Dir m)) is)

-- an edit that is not refused
pub put_dir-Ok : (t : TreeMap) (p : List (List ℕ)) (m : MetaValue) → walk (finite.get t) p ≡ Ok tt → dir_fits (finite.get t p) ≡ Ok tt
    → put_dir t p m ≡ Ok (finite.insert t p (Dir m))
put_dir-Ok t p m walks fits = ap (λ r. r >>= λ _. dir_fits (finite.get t p) >>= λ _. Ok (finite.insert t p (Dir m))) walks
    ∙ ap (λ r. r >>= λ _. Ok (finite.insert t p (Dir m))) fits

-- a file that may be put at a path that is not the root, with directories all the way to it, is inserted there
pub put_file-Ok : (t : TreeMap) (p : List (List ℕ)) (m : MetaValue) (b : List ℕ) → (p ≢ []) → walk (finite.get t) p ≡ Ok tt
    → file_fits (finite.get t p) ≡ Ok tt → put_file t p m b ≡ Ok (finite.insert t p (File m b))
put_file-Ok t [] m b named walks fits = absurd (named refl)
put_file-Ok t (n ∷ p) m b named walks fits = ap (λ r. r >>= λ _. file_fits (finite.get t (n ∷ p))
    >>= λ _. Ok (finite.insert t (n ∷ p) (File m b))) walks ∙ ap (λ r. r >>= λ _. Ok (finite.insert t (n ∷ p) (File m b))) fits
