-- Why entries can't be put at their paths, and sources can't be copied, one after another.
use Rattle.std.proofs.Common.{◌≡◌, ℕ, ◌+◌, ◌<◌, ◌≤◌, Bool, false, cond, List, [], ◌∷◌, ◌++◌, map, length, drop, get_or, Some, None, Option, refl, sym, ap}
use Rattle.std.proofs.Common.{◌∙◌, arith, length-append, drop-cons, add-one, IsSome}
use Rattle.std.proofs.lemmas.Bool.{lt-ltb, le-ltb}
use Rattle.std.specs.Prelude.{slice_get}
use Rattle.std.specs.FinMap as finite
use Rattle.llb_ops.specs.declared.actions.CopyFile.{CopyFile}
use Rattle.llb_tree.specs.Tree.{TreeMap, Entry, Dir, File, moved, IsTree, is_dir}
use Rattle.llb_fileop.specs.declared.refusal.Obstacle.TheVariants.{TooLong, DirReplaced}
use Rattle.llb_fileop.specs.declared.refusal.Refusal.{Refusal}
use Rattle.llb_fileop.specs.declared.refusal.Refusal.TheVariants.{At}
use Rattle.llb_fileop.specs.Copying.{copy_one, at_target}
use Rattle.llb_fileop.specs.Refusals.{Names, first_some, first_of, no_meeting, no_landing, no_landings, no_copy, refused_or, no_copies, no_match_copy}
use Rattle.llb_fileop.proofs.PathOrderTraversal.{Pair, walk_first}
use Rattle.llb_fileop.proofs.EntryRelocation.{target_file}
use Rattle.llb_fileop.proofs.Grafting.{has_file}

-- ---- entries

first_is : (r : Option Refusal) (rs : List (Option Refusal)) → first_some (r ∷ rs) ≡ first_of r (first_some rs)
first_is None rs = refl
first_is (Some r) rs = refl

module _ (s : Names) (t : TreeMap) (goal : Names) (es : List Pair) (k : Names) (e : Entry) (is : slice_get es 0 ≡ Some (k, e)) where
  abbrev rest : List (Option Refusal)
  rest = map (no_landing s t) (map (moved 0 goal) (drop 1 es))

  abbrev by_length : Bool → Option Refusal
  by_length b = first_some (cond b (Some (At TooLong s)) (no_meeting (goal ++ k) (finite.get t (goal ++ k)) e) ∷ rest)

  -- the first entry would be copied to a path of more than 128 names
  pub landing_deep : 128 < length goal + length k → no_landings s t (map (moved 0 goal) es) ≡ Some (At TooLong s)
  landing_deep deep =
      ap (λ l. no_landings s t (map (moved 0 goal) l)) (walk_first es k e is)
      ∙ ap by_length (lt-ltb 128 (length (goal ++ k)) (omega (arith, deep, length-append goal k)))

  -- if its path is short enough, what is there decides, and then the others
  pub landing_next : length goal + length k ≤ 128 → no_landings s t (map (moved 0 goal) es)
      ≡ first_of (no_meeting (goal ++ k) (finite.get t (goal ++ k)) e) (no_landings s t (map (moved 0 goal) (drop 1 es)))
  landing_next short =
      ap (λ l. no_landings s t (map (moved 0 goal) l)) (walk_first es k e is)
      ∙ ap by_length (le-ltb 128 (length (goal ++ k)) (omega (arith, short, length-append goal k)))
      ∙ first_is (no_meeting (goal ++ k) (finite.get t (goal ++ k)) e) rest

-- a source that is a file is one entry at the target, which only a directory there refuses
pub file_landing : (second t : TreeMap) (s goal : Names) → IsTree second → IsSome (finite.get second s) → is_dir (finite.get second s) ≡ false
    → length goal ≤ 128 → no_landings s t (at_target second s goal) ≡ cond (is_dir (finite.get t goal)) (Some (At DirReplaced goal)) None
file_landing second t s goal tree there not_dir short =
    let file = has_file (finite.get second s) there not_dir in
    ap (no_landings s t) (target_file second s goal file.meta file.content tree file.is)
    ∙ ap (λ b. first_some (cond b (Some (At TooLong s)) (no_meeting goal (finite.get t goal) (File file.meta file.content)) ∷ []))
    (le-ltb 128 (length goal) short)
    ∙ by_entry file.meta file.content (finite.get t goal)
  where
    by_entry : (m : _) (b : List ℕ) (o : Option Entry) → first_some (no_meeting goal o (File m b) ∷ []) ≡ cond (is_dir o) (Some (At DirReplaced goal)) None
    by_entry m b None = refl
    by_entry m b (Some (Dir n)) = refl
    by_entry m b (Some (File n c)) = refl

-- ---- sources

-- of the sources that are left the next one decides, and then the others on the tree after it
pub copies_next : (c : CopyFile) (dest : Names × Bool) (second t : TreeMap) (ps : List Names) (i : ℕ) (p : Names) → i < length ps → p ≡ get_or ps i p
    → no_copies c dest second (drop i ps) t
    ≡ refused_or (copy_one c dest second p t) (no_copy c dest second p t) (no_copies c dest second (drop (i + 1) ps))
copies_next c dest second t ps i p lt is =
    ap (λ xs. no_copies c dest second xs t) (drop-cons ps i p lt)
    ∙ (λ j. refused_or (copy_one c dest second (sym is j) t) (no_copy c dest second (sym is j) t) (no_copies c dest second (drop (sym (add-one i) j) ps)))

-- if some paths match, the sources decide
pub match_some : (c : CopyFile) (dest : Names × Bool) (second t : TreeMap) (ps : List Names) → (length ps ≡ 0 → ⊥)
    → no_match_copy c dest second ps t ≡ no_copies c dest second ps t
match_some c dest second t [] some = absurd (some refl)
match_some c dest second t (p ∷ ps) some = refl
