-- The mounts of an exec get the trees that a worker works on now, one mount after another.
use Rattle.std.proofs.Common.{◌≡◌, ◌∙◌, ℕ, ◌+◌, List, length, refl, sym, ap, add-one}
use Rattle.std.specs.Prelude.{Option, Some, None}
use Rattle.std.proofs.lemmas.List.{length-set}
use Rattle.llb_tree.specs.Tree.{TreeMap}
use Rattle.llb_mount.specs.declared.shown_tree.Shown.{Shown}
use Rattle.llb_mount.specs.View.{mount_at}
use Rattle.llb_model.specs.State.{State}
use Rattle.llb_board.specs.WorkedOnAndCachedTrees.{worked_on}
use Rattle.llb_session.specs.Reasons.{shown_now, with_tree_at}

length_with : (mounts : List Shown) (i : ℕ) (tree : Option TreeMap) → length (with_tree_at mounts i tree) ≡ length mounts
length_with mounts i None = refl
length_with mounts i (Some t) = length-set mounts i (record (mount_at mounts i) { tree = t })

-- none has its tree of now yet
pub none_yet : (s : State) (w : ℕ) (mounts view : List Shown) → view ≡ mounts → (view ≡ shown_now s w mounts 0) × (length view ≡ length mounts)
unfolding shown_now
none_yet s w mounts view same = (same, ap length same)

-- mount i gets its tree of now too
pub one_more : (s : State) (w : ℕ) (mounts view next : List Shown) (i : ℕ) → (view ≡ shown_now s w mounts i) × (length view ≡ length mounts)
    → next ≡ with_tree_at view i (worked_on s w i) → (next ≡ shown_now s w mounts (i + 1)) × (length next ≡ length mounts)
unfolding shown_now
one_more s w mounts view next i so_far put = (
  put ∙ ap (λ v. with_tree_at v i (worked_on s w i)) so_far.0 ∙ ap (shown_now s w mounts) (sym (add-one i)),
  ap length put ∙ length_with view i (worked_on s w i) ∙ so_far.1,
)
