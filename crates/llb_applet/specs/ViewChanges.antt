-- What a change of a view may return, and the view after it. A change is done, is refused, or fails for want of memory.
use Rattle.std.specs.Prelude.{◌≡◌, ℕ, Bool, true, false, Option, Some, None, Result, Ok, Err}
use Rattle.llb_tree.specs.declared.fault.TreeFault.{TreeFault}
use Rattle.llb_tree.specs.declared.fault.TreeFault.TheVariants as tree
use Rattle.llb_tree.specs.Tree.{TreeMap, empty_tree}
use Rattle.llb_mount.specs.View.{mount_at, with_tree_of}
use Rattle.llb_wire.specs.declared.fault.Memory.{Memory}
use Rattle.llb_applet.specs.PathsInMounts.{Mounts}

-- a mount's tree is taken out and replaced by an empty one; or the mount is read-only, or it is not and memory is refused, and nothing changes
abbrev pub PutsAside : Result (Option TreeMap) Memory → Mounts → ℕ → Mounts → Type 0
PutsAside (Ok (Some t)) old mount new = ((mount_at old mount).readonly ≡ false) × (t ≡ (mount_at old mount).tree) × (new ≡ with_tree_of old mount empty_tree)
PutsAside (Ok None) old mount new = ((mount_at old mount).readonly ≡ true) × (new ≡ old)
PutsAside (Err e) old mount new = ((mount_at old mount).readonly ≡ false) × (new ≡ old)

-- the result of a change of a tree as a truth value: true if it is done, false if it fails with any fault but `Memory`; `Memory` stays a fault
abbrev pub settled : Result (Unit {0}) TreeFault → Result Bool Memory
settled (Ok _) = Ok true
settled (Err tree.Memory) = Err (record {})
settled (Err tree.NotFound) = Ok false
settled (Err tree.NotDir) = Ok false
settled (Err tree.IsDir) = Ok false
settled (Err tree.Conflict) = Ok false
settled (Err tree.Root) = Ok false
settled (Err tree.BadName) = Ok false

-- the change is done, and `outcome` is the new view; or the change is refused (`outcome` is nothing) or fails for want of memory, and the view is unchanged
abbrev pub Does : Result Bool Memory → Option Mounts → Mounts → Mounts → Type 0
Does (Ok true) outcome old new = outcome ≡ Some new
Does (Ok false) outcome old new = (outcome ≡ None) × (new ≡ old)
Does (Err e) outcome old new = new ≡ old
