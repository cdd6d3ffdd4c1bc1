-- A mount's tree is put aside, changed and put back: what that leaves of a view.
use Rattle.std.proofs.Common.{◌≡◌, ℕ, ◌<◌, Bool, false, cond, length, set, Some, None, Result, Ok, Err, refl, sym, ap, subst, ◌∙◌}
use Rattle.std.specs.Result.{OnErr}
use Rattle.std.proofs.lemmas.List.{set-set, set-get_or, get_or-set_same}
use Rattle.llb_tree.specs.declared.fault.TreeFault.{TreeFault}
use Rattle.llb_tree.specs.declared.fault.TreeFault.TheVariants as tree
use Rattle.llb_tree.specs.Tree.{TreeMap, Gives}
use Rattle.llb_mount.specs.declared.shown_tree.Shown.{Shown}
use Rattle.llb_mount.specs.View.{mount_at, no_mount, with_tree_of}
use Rattle.llb_wire.specs.declared.fault.Memory.{Memory}
use Rattle.llb_applet.specs.PathsInMounts.{Mounts, with_change}
use Rattle.llb_applet.specs.ViewChanges.{Does, settled}

module _ (view : Mounts) (mount : ℕ) where
  exchanged : mount < length view → (aside new : TreeMap) → with_tree_of (with_tree_of view mount aside) mount new ≡ with_tree_of view mount new
  exchanged inside aside new =
      let put : Shown = record (mount_at view mount) { tree = aside } in
      ap (λ (m : Shown). set (set view mount put) mount (record m { tree = new })) (get_or-set_same view mount put no_mount inside)
      ∙ set-set view mount put (record (mount_at view mount) { tree = new })

  unchanged : with_tree_of view mount (mount_at view mount).tree ≡ view
  unchanged = set-get_or view mount no_mount

  module _ (inside : mount < length view) (writable : (mount_at view mount).readonly ≡ false) (aside new : TreeMap) (rule : Result TreeMap TreeFault) where
    back : new ≡ (mount_at view mount).tree → with_tree_of (with_tree_of view mount aside) mount new ≡ view
    back same = exchanged inside aside new ∙ ap (with_tree_of view mount) same ∙ unchanged

    refused : (e : TreeFault) → rule ≡ Err e → new ≡ (mount_at view mount).tree → (with_change view mount rule ≡ None)
        × (with_tree_of (with_tree_of view mount aside) mount new ≡ view)
    refused e is same = (ap (with_change view mount) is, back same)

    does : (change : Result (Unit {0}) TreeFault) → Gives (λ _. new) change rule → OnErr change (new ≡ (mount_at view mount).tree)
        → Does (settled change) (with_change view mount rule) view (with_tree_of (with_tree_of view mount aside) mount new)
    does (Ok _) gives same =
        ap (with_change view mount) gives
        ∙ ap (λ b. cond b None (Some (with_tree_of view mount new))) writable
        ∙ ap Some (sym (exchanged inside aside new))
    does (Err tree.Memory) gives same = back same
    does (Err tree.NotFound) gives same = refused _ (gives refl) same
    does (Err tree.NotDir) gives same = refused _ (gives refl) same
    does (Err tree.IsDir) gives same = refused _ (gives refl) same
    does (Err tree.Conflict) gives same = refused _ (gives refl) same
    does (Err tree.Root) gives same = refused _ (gives refl) same
    does (Err tree.BadName) gives same = refused _ (gives refl) same

    -- a change of the tree that was put aside is the change of the view
    pub does_change :
        (change : Result (Unit {0}) TreeFault) → Gives (λ _. new) change rule → OnErr change (new ≡ (mount_at view mount).tree)
        → (between left : Mounts) → between ≡ with_tree_of view mount aside → left ≡ with_tree_of between mount new
        → (done : Result Bool Memory) → done ≡ settled change
        → Does done (with_change view mount rule) view left
    does_change change gives same between left first last done is =
        subst (λ d. Does d (with_change view mount rule) view left) (sym is)
        (subst (Does (settled change) (with_change view mount rule) view) (sym (last ∙ ap (λ v. with_tree_of v mount new) first)) (does change gives same))
