-- What the tree has at each path after a copy of one source that does not fail.
use Rattle.std.specs.Prelude.{◌≡◌, ℕ, zero, negsuc, Bool, true, false, List, ◌++◌, Some, None, Ok, ◌⊎◌}
use Rattle.std.specs.FinMap as finite
use Rattle.llb_ops.specs.declared.actions.CopyFile.{CopyFile}
use Rattle.llb_tree.specs.Path.{is_within}
use Rattle.llb_tree.specs.ModeAndOwner.{MetaValue, new_dir_meta}
use Rattle.llb_tree.specs.Tree.{TreeMap, Dir, File}
use Rattle.llb_fileop.specs.Owners.{copied}
use Rattle.llb_fileop.specs.Copying.{target, copy_one}

-- q is at or above the target `goal`; before the copy nothing was at q, and after the copy a directory 0755 0:0 is there
pub record IsMadeParent (t u : TreeMap) (goal q : List (List ℕ)) : Type 0 where
  pub above : is_within q goal ≡ true
  pub was : finite.get t q ≡ None
  pub is : finite.get u q ≡ Some (Dir new_dir_meta)

-- After the copy each entry at or below the source is at its new path (the target, and then the names that its path has after the source), with the mode and
-- the owner that the action sets or keeps (`copied`). But a directory that was there stays as it was. Nothing else changes, but missing parents may be made.
pub record IsCopied (c : CopyFile) (second t u : TreeMap) (s goal : List (List ℕ)) : Type 0 where
  pub files : (q : List (List ℕ)) (m : MetaValue) (bytes : List ℕ)
      → finite.get second (s ++ q) ≡ Some (File m bytes) → finite.get u (goal ++ q) ≡ Some (File (copied c.mode c.owner m) bytes)
  pub own : c.mode ≡ negsuc zero → c.owner ≡ None → (q : List (List ℕ)) (m : MetaValue) (bytes : List ℕ)
      → finite.get second (s ++ q) ≡ Some (File m bytes) → finite.get u (goal ++ q) ≡ Some (File m bytes)
  pub kept : (q : List (List ℕ)) (m n : MetaValue)
      → finite.get second (s ++ q) ≡ Some (Dir n) → finite.get t (goal ++ q) ≡ Some (Dir m) → finite.get u (goal ++ q) ≡ Some (Dir m)
  pub made : (q : List (List ℕ)) (n : MetaValue)
      → finite.get second (s ++ q) ≡ Some (Dir n) → finite.get t (goal ++ q) ≡ None → finite.get u (goal ++ q) ≡ Some (Dir (copied c.mode c.owner n))
  pub beside : (q : List (List ℕ)) → finite.get second (s ++ q) ≡ None → finite.get u (goal ++ q) ≡ finite.get t (goal ++ q)
  pub outside : (q : List (List ℕ)) → is_within goal q ≡ false → (finite.get u q ≡ finite.get t q) ⊎ IsMadeParent t u goal q

-- if the copy of one source does not fail, `IsCopied` says what the tree after the copy has at each path
abbrev pub CopiesOne : CopyFile → List (List ℕ) × Bool → TreeMap → TreeMap → List (List ℕ) → Type 0
CopiesOne c dest t second s = (u : TreeMap) → copy_one c dest second s t ≡ Ok u → IsCopied c second t u s (target c dest second s t)
