-- A command leaves as many mounts as there were, whatever it does and however it ends.
use Rattle.std.proofs.Common.{◌≡◌, ℕ, Bool, true, false, ◌||◌, ◌&&◌, not, cond, List, length, drop, Option, Some, None, is_some, Result, Ok, Err}
use Rattle.std.proofs.Common.{refl, ap, ◌∙◌, length-set}
use Rattle.std.specs.Prelude.{option_and_then, OnOk, OnErr}
use Rattle.std.specs.List.{flat_map}
use Rattle.llb_wire.specs.Digest.{digits_of}
use Rattle.llb_tree.specs.Tree as tree
use Rattle.llb_tree.specs.Tree.{Entry, TreeMap, MetaValue, new_dir_meta, put_file, put_dir, remove, is_dir}
use Rattle.llb_tree.specs.declared.fault.TreeFault.{TreeFault}
use Rattle.llb_mount.specs.View.{mount_at, with_tree_of}
use Rattle.llb_applet.specs.declared.directory_and_variables.Setting.{Setting}
use Rattle.llb_applet.specs.declared.path_in_mount.Spot.{Spot}
use Rattle.llb_applet.specs.declared.command.Command.{Command}
use Rattle.llb_applet.specs.declared.command.Command.TheVariants as command
use Rattle.llb_applet.specs.PathsInMounts.{Mounts, spot_of, file_in, tree_at, entry_at, dirs_below, is_dest}
use Rattle.llb_applet.specs.PathsInMounts.{with_change, with_file, without_spot, with_new_dir, with_dirs}
use Rattle.llb_applet.specs.Commands.{path_by, spot_by, file_by, meta_there, writes, line, target_of, copied, joined, with_mode, is_kind, listing_by, run, left}

-- the view after a command, if there is one, has as many mounts as the view before
record Keeps (view : Mounts) (o : Option Mounts) : Type 0 where
  count : (after : Mounts) → o ≡ Some after → length after ≡ length view

nothing : {view : Mounts} → Keeps view None
nothing = record { count = λ after e. absurd (cc) }

with_as_many : {view : Mounts} (after : Mounts) → length after ≡ length view → Keeps view (Some after)
with_as_many after same = record { count = λ other e. let eq : other ≡ after = cc in ap length eq ∙ same }

either : {view : Mounts} {a b : Option Mounts} (test : Bool) → Keeps view a → Keeps view b → Keeps view (cond test a b)
either true first second = first
either false first second = second

behind : {A : Type 0} {view : Mounts} (o : Option A) (next : A → Option Mounts) → ((x : A) → Keeps view (next x)) → Keeps view (option_and_then next o)
behind None next keeps = nothing
behind (Some x) next keeps = keeps x

-- ---- changes

change_keeps : (view : Mounts) (mount : ℕ) (r : Result TreeMap TreeFault) → Keeps view (with_change view mount r)
change_keeps view mount (Ok t) =
    either (mount_at view mount).readonly nothing (with_as_many (with_tree_of view mount t) (length-set view mount (record (mount_at view mount) { tree = t })))
change_keeps view mount (Err e) = nothing

file_keeps : (view : Mounts) (spot : Spot) (meta : MetaValue) (content : List ℕ) → Keeps view (with_file view spot meta content)
file_keeps view spot meta content =
    either (is_dest spot && not (is_some (entry_at view spot))) nothing (change_keeps view spot.mount (put_file (tree_at view spot) spot.place meta content))

gone_keeps : (view : Mounts) (spot : Spot) → Keeps view (without_spot view spot)
gone_keeps view spot = either (is_dest spot) nothing (change_keeps view spot.mount (remove (tree_at view spot) spot.place))

new_dir_keeps : (view : Mounts) (spot : Spot) → Keeps view (with_new_dir view spot)
new_dir_keeps view spot =
    either (is_dest spot || is_some (entry_at view spot)) nothing (change_keeps view spot.mount (put_dir (tree_at view spot) spot.place new_dir_meta))

dirs_keep : (view : Mounts) (spot : Spot) → Keeps view (with_dirs view spot)
dirs_keep view spot =
    either
    (is_dir (entry_at view spot))
    (with_as_many view refl)
    (either (is_dest spot) nothing
    (change_keeps view spot.mount (dirs_below (tree_at view spot) (mount_at view spot.mount).selector (drop spot.base spot.place))))

mode_keeps : (view : Mounts) (spot : Spot) (mode : ℕ) (e : Option Entry) → Keeps view (with_mode view spot mode e)
mode_keeps view spot mode None = nothing
mode_keeps view spot mode (Some (tree.Dir m)) = change_keeps view spot.mount (put_dir (tree_at view spot) spot.place (record m { mode = mode }))
mode_keeps view spot mode (Some (tree.File m content)) = file_keeps view spot (record m { mode = mode }) content

-- ---- commands

module _ (setting : Setting) (view : Mounts) where
  writes_keep : (word content : List ℕ) → Keeps view (writes setting view word content)
  writes_keep word content = behind (spot_by setting view word) _ (λ spot. file_keeps view spot (meta_there (entry_at view spot)) content)

  copied_keeps : (from to : List ℕ) → Keeps view (copied setting view from to)
  copied_keeps from to =
      behind (path_by setting from) _ (λ source. behind (spot_of view source) _ (λ spot. behind (file_in (entry_at view spot)) _ (λ file.
      behind (path_by setting to) _ (λ path. behind (target_of view source path) _ (λ target. file_keeps view target file.0 file.1)))))

  run_keeps : (command : Command) → Keeps view (run setting view command)
  run_keeps command.True = with_as_many view refl
  run_keeps command.False = nothing
  run_keeps (command.Mkdir false path) = behind (spot_by setting view path) (with_new_dir view) (new_dir_keeps view)
  run_keeps (command.Mkdir true path) = behind (spot_by setting view path) (with_dirs view) (dirs_keep view)
  run_keeps (command.Rm path) = behind (spot_by setting view path) (without_spot view) (gone_keeps view)
  run_keeps (command.Write path word) = writes_keep path (line word)
  run_keeps (command.Append path word) = behind (spot_by setting view path) _ (λ spot. file_keeps view spot _ _)
  run_keeps (command.Cp from to) = copied_keeps from to
  run_keeps (command.Concat out parts) = behind (joined setting view parts) (writes setting view out) (writes_keep out)
  run_keeps (command.Chmod mode path) = behind (spot_by setting view path) _ (λ spot. mode_keeps view spot mode (entry_at view spot))
  run_keeps (command.Test kind path) =
      behind (spot_by setting view path) _ (λ spot. either (is_kind kind (entry_at view spot)) (with_as_many view refl) nothing)
  run_keeps (command.Listing path out) = behind (listing_by setting view path) (writes setting view out) (writes_keep out)
  run_keeps (command.Envfile out) = writes_keep out (flat_map line setting.env)
  run_keeps (command.Sha256 path out) = behind (file_by setting view path) _ (λ file. writes_keep out (line (digits_of file.1)))

-- the mounts that it leaves
pub left_as_many : (setting : Setting) (view : Mounts) (command : Command) → length (left view (run setting view command)) ≡ length view
left_as_many setting view command = left_of (run setting view command) (run_keeps setting view command) where
  left_of : (o : Option Mounts) → Keeps view o → length (left view o) ≡ length view
  left_of None keeps = refl
  left_of (Some after) keeps = keeps.count after refl

-- with its result still to be looked at
pub ran_as_many : {E : Type 0} (r : Result ℕ E) (setting : Setting) (view after : Mounts) (command : Command)
    → OnOk r (after ≡ left view (run setting view command)) → OnErr r (after ≡ view) → length after ≡ length view
ran_as_many (Ok status) setting view after command leaves stays = ap length leaves ∙ left_as_many setting view command
ran_as_many (Err e) setting view after command leaves stays = ap length stays

-- what holds anyway holds where a call is refused
pub on_err : {A E P : Type 0} (r : Result A E) → P → OnErr r P
on_err (Ok x) p = tt
on_err (Err e) p = p
