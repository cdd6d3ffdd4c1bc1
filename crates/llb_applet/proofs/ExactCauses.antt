-- A command has a cause exactly if its status is 1.
use Rattle.std.proofs.Common.{◌≡◌, ◌∙◌, ℕ, ◌+◌, ◌==◌, Bool, true, false, cond, List, [], ◌∷◌, ◌++◌, drop, refl, ap, Option, Some, None}
use Rattle.std.specs.Prelude.{is_some, not, ◌||◌, ◌&&◌, Result, Ok, Err}
use Rattle.std.specs.List.{flat_map}
use Rattle.std.specs.Result.{result_ok}
use Rattle.std.specs.FinMap as finite
use Rattle.llb_wire.specs.CallResults as answer
use Rattle.llb_wire.specs.Digest.{digits_of}
use Rattle.llb_tree.specs.declared.fault.TreeFault.{TreeFault}
use Rattle.llb_tree.specs.Path.{below}
use Rattle.llb_tree.specs.Tree as tree
use Rattle.llb_tree.specs.Tree.{Entry, TreeMap, MetaValue, all_dirs, list, is_dir, put_dir, remove, new_dir_meta}
use Rattle.llb_mount.specs.View.{mount_at, with_tree_of}
use Rattle.llb_applet.specs.declared.directory_and_variables.Setting.{Setting}
use Rattle.llb_applet.specs.declared.path_in_mount.Spot.{Spot}
use Rattle.llb_applet.specs.declared.command.Kind.{Kind}
use Rattle.llb_applet.specs.declared.command.Kind.TheVariants.{Something, File, Dir}
use Rattle.llb_applet.specs.declared.command.Command.{Command}
use Rattle.llb_applet.specs.declared.command.Command.TheVariants as command
use Rattle.llb_applet.specs.declared.cause.Cause.{Cause}
use Rattle.llb_applet.specs.declared.cause.Cause.TheVariants.{NoPath, At}
use Rattle.llb_applet.specs.declared.cause.What.TheVariants as what
use Rattle.llb_applet.specs.PathsInMounts.{Mounts, spot_of, tree_at, entry_at, is_dest, file_in, with_change, with_file, with_dir, without_spot, with_new_dir}
use Rattle.llb_applet.specs.PathsInMounts.{with_dirs, dirs_below}
use Rattle.llb_applet.specs.Commands.{path_by, spot_by, file_by, last_name, target_of, joined, listed, listing_by, with_mode, is_kind, run, status_of}
use Rattle.llb_applet.specs.Commands.{new_meta, line}
use Rattle.llb_applet.specs.Commands.{◌>>=◌, writes, written}
use Rattle.llb_applet.specs.Causes.{Names, first_of, or_cause, at_path, at_spot, at_word, no_file, no_dir, no_kind, no_change, fault_in, no_edit}
use Rattle.llb_applet.specs.Causes.{file_fault, dir_fault, no_file_put, no_mode, no_new_dir, not_removed, no_removal, no_dirs_by, no_dest_dir, no_dirs}
use Rattle.llb_applet.specs.Causes.{not_written, not_read, none_read, not_into, not_copied_to, not_copied, cause_of}

-- there is a cause exactly if there is no value
abbrev Exact : {A : Type 0} → Option Cause → Option A → Type 0
Exact c o = is_some c ≡ not (is_some o)

module _ {A B : Type 0} where
  exact_bind : (o : Option A) (c : Cause) (k : A → Option Cause) (f : A → Option B) → ((a : A) → Exact (k a) (f a)) → Exact (or_cause o c k) (o >>= f)
  exact_bind None c k f each = refl
  exact_bind (Some a) c k f each = each a

  exact_then : (c d : Option Cause) (o : Option A) (f : A → Option B) → Exact c o → ((a : A) → Exact d (f a)) → Exact (first_of c d) (o >>= f)
  exact_then (Some c) d None f is each = refl
  exact_then (Some c) d (Some a) f is each = absurd cc
  exact_then None d None f is each = absurd cc
  exact_then None d (Some a) f is each = each a

  exact_map : (c : Option Cause) (o : Option A) (g : A → B) → Exact c o → Exact c (o >>= λ a. Some (g a))
  exact_map c None g is = is
  exact_map c (Some a) g is = is

module _ {A : Type 0} where
  exact_if : (b : Bool) (c : Cause) (d : Option Cause) (o : Option A) → Exact d o → Exact (cond b (Some c) d) (cond b None o)
  exact_if true c d o is = refl
  exact_if false c d o is = is

  exact_or : (a b : Bool) (c e : Cause) (d : Option Cause) (o : Option A) → Exact d o → Exact (cond b (Some c) (cond a (Some e) d)) (cond (a || b) None o)
  exact_or true true c e d o is = refl
  exact_or true false c e d o is = refl
  exact_or false true c e d o is = refl
  exact_or false false c e d o is = is

-- ---- what is at a path

file_exact : (path : Names) (e : Option Entry) → Exact (no_file path e) (file_in e)
file_exact path None = refl
file_exact path (Some (tree.Dir m)) = refl
file_exact path (Some (tree.File m bytes)) = refl

kind_exact : (kind : Kind) (path : Names) (e : Option Entry) (view : Mounts) → Exact (no_kind kind path e) (cond (is_kind kind e) (Some view) None)
kind_exact Something path None view = refl
kind_exact Something path (Some e) view = refl
kind_exact File path None view = refl
kind_exact File path (Some (tree.Dir m)) view = refl
kind_exact File path (Some (tree.File m bytes)) view = refl
kind_exact Dir path None view = refl
kind_exact Dir path (Some (tree.Dir m)) view = refl
kind_exact Dir path (Some (tree.File m bytes)) view = refl

list_exact : {A : Type 0} (path : Names) (e : Option Entry) (names : List (List ℕ)) (g : List (List ℕ) → A)
    → Exact (no_dir path e) (result_ok (answer.◌>>=◌ (all_dirs (e ∷ [])) (λ _. Ok names)) >>= λ x. Some (g x))
list_exact path None names g = refl
list_exact path (Some (tree.Dir m)) names g = refl
list_exact path (Some (tree.File m bytes)) names g = refl

-- ---- changes

change_exact : (view : Mounts) (mount : ℕ) (t : TreeMap) → Exact (no_change view mount) (with_change view mount (Ok t))
change_exact view mount t = by_flag (mount_at view mount).readonly
  where
    by_flag : (b : Bool) → Exact (cond b (Some (At what.ReadOnly (mount_at view mount).dest)) None) (cond b None (Some (with_tree_of view mount t)))
    by_flag true = refl
    by_flag false = refl

edit_exact : (view : Mounts) (path : Names) (spot : Spot) (r : Result TreeMap TreeFault)
    → Exact (no_edit view path spot (fault_in r)) (with_change view spot.mount r)
edit_exact view path spot (Ok t) = change_exact view spot.mount t
edit_exact view path spot (Err f) = refl

-- the cause that the fault of one edit gives is exact for any other edit with this fault, so what is put does not matter
alike_edit : (view : Mounts) (path : Names) (spot : Spot) (r s : Result TreeMap TreeFault) → fault_in r ≡ fault_in s
    → Exact (no_edit view path spot (fault_in r)) (with_change view spot.mount s)
alike_edit view path spot r s same = ap (λ f. is_some (no_edit view path spot f)) same ∙ edit_exact view path spot s

two_alike : (a b : Result (Unit {0}) TreeFault) (x y : TreeMap)
    → fault_in (answer.◌>>=◌ a (λ _. answer.◌>>=◌ b (λ _. Ok x))) ≡ fault_in (answer.◌>>=◌ a (λ _. answer.◌>>=◌ b (λ _. Ok y)))
two_alike (Err f) b x y = refl
two_alike (Ok u) (Err f) x y = refl
two_alike (Ok u) (Ok v) x y = refl

three_alike : (a b c : Result (Unit {0}) TreeFault) (x y : TreeMap)
    → fault_in (answer.◌>>=◌ a (λ _. answer.◌>>=◌ b (λ _. answer.◌>>=◌ c (λ _. Ok x))))
    ≡ fault_in (answer.◌>>=◌ a (λ _. answer.◌>>=◌ b (λ _. answer.◌>>=◌ c (λ _. Ok y))))
three_alike (Err f) b c x y = refl
three_alike (Ok u) (Err f) c x y = refl
three_alike (Ok u) (Ok v) (Err f) x y = refl
three_alike (Ok u) (Ok v) (Ok w) x y = refl

file_put_exact : (view : Mounts) (path : Names) (spot : Spot) (m : MetaValue) (bytes : List ℕ)
    → Exact (no_file_put view path spot) (with_file view spot m bytes)
file_put_exact view path spot m bytes =
    let t = tree_at view spot in
    exact_if (is_dest spot && not (is_some (entry_at view spot))) (At what.NoSelector path) (no_edit view path spot (file_fault t spot.place))
    (with_change view spot.mount (tree.put_file t spot.place m bytes))
    (alike_edit view path spot (tree.put_file t spot.place new_meta []) (tree.put_file t spot.place m bytes)
    (three_alike (tree.not_root spot.place) (tree.walk (finite.get t) spot.place) (tree.file_fits (finite.get t spot.place))
    (finite.insert t spot.place (tree.File new_meta [])) (finite.insert t spot.place (tree.File m bytes))))

dir_put_exact : (view : Mounts) (path : Names) (spot : Spot) (m : MetaValue)
    → Exact (no_edit view path spot (dir_fault (tree_at view spot) spot.place)) (with_dir view spot m)
dir_put_exact view path spot m =
    let t = tree_at view spot in
    alike_edit view path spot (put_dir t spot.place new_dir_meta) (put_dir t spot.place m)
    (two_alike (tree.walk (finite.get t) spot.place) (tree.dir_fits (finite.get t spot.place))
    (finite.insert t spot.place (tree.Dir new_dir_meta)) (finite.insert t spot.place (tree.Dir m)))

mode_exact : (view : Mounts) (path : Names) (spot : Spot) (mode : ℕ) (e : Option Entry) → Exact (no_mode view path spot e) (with_mode view spot mode e)
mode_exact view path spot mode None = refl
mode_exact view path spot mode (Some (tree.Dir m)) = dir_put_exact view path spot (record m { mode = mode })
mode_exact view path spot mode (Some (tree.File m bytes)) = file_put_exact view path spot (record m { mode = mode }) bytes

new_dir_exact : (view : Mounts) (path : Names) (spot : Spot) → Exact (no_new_dir view path spot) (with_new_dir view spot)
new_dir_exact view path spot =
    exact_or (is_dest spot) (is_some (entry_at view spot)) (At what.IsThere path) (At what.NoSelector path)
    (no_edit view path spot (dir_fault (tree_at view spot) spot.place)) (with_dir view spot new_dir_meta) (dir_put_exact view path spot new_dir_meta)

dest_dir_exact : (A : Type 0) (path : Names) (e : Option Entry) → Exact {A = A} (no_dest_dir path e) None
dest_dir_exact A path None = refl
dest_dir_exact A path (Some e) = refl

dirs_by_exact : (view : Mounts) (path : Names) (spot : Spot) (r : Result TreeMap TreeFault)
    → Exact (no_dirs_by view path spot (fault_in r)) (with_change view spot.mount r)
dirs_by_exact view path spot (Ok t) = change_exact view spot.mount t
dirs_by_exact view path spot (Err f) = refl

dirs_exact : (view : Mounts) (path : Names) (spot : Spot) → Exact (no_dirs view path spot) (with_dirs view spot)
dirs_exact view path spot = by_flags (is_dir (entry_at view spot)) (is_dest spot)
  where
    made : Result TreeMap TreeFault
    made = dirs_below (tree_at view spot) (mount_at view spot.mount).selector (drop spot.base spot.place)

    by_flags : (dir dest : Bool)
        → Exact (cond dir None (cond dest (no_dest_dir path (entry_at view spot)) (no_dirs_by view path spot (fault_in made))))
        (cond dir (Some view) (cond dest None (with_change view spot.mount made)))
    by_flags true dest = refl
    by_flags false true = dest_dir_exact Mounts path (entry_at view spot)
    by_flags false false = dirs_by_exact view path spot made

removed_exact : (view : Mounts) (path : Names) (spot : Spot) (r : Result TreeMap TreeFault)
    → Exact (not_removed view path spot (fault_in r)) (with_change view spot.mount r)
removed_exact view path spot (Ok t) = change_exact view spot.mount t
removed_exact view path spot (Err f) = refl

removal_exact : (view : Mounts) (path : Names) (spot : Spot) → Exact (no_removal view path spot) (without_spot view spot)
removal_exact view path spot =
    let gone = remove (tree_at view spot) spot.place in
    exact_if (is_dest spot) (At what.IsDest path) (not_removed view path spot (fault_in gone)) (with_change view spot.mount gone)
    (removed_exact view path spot gone)

-- ---- words

module _ {B : Type 0} (setting : Setting) (view : Mounts) where
  word_exact : (n : ℕ) (word : List ℕ) (k : Names → Spot → Option Cause) (f : Spot → Option B)
      → ((path : Names) (spot : Spot) → Exact (k path spot) (f spot)) → Exact (at_word setting view n word k) (spot_by setting view word >>= f)
  word_exact n word k f each = by_path (path_by setting word)
    where
      by_path : (o : Option Names) → Exact (or_cause o (NoPath n) (λ path. at_spot view path (k path))) ((o >>= spot_of view) >>= f)
      by_path None = refl
      by_path (Some path) = exact_bind (spot_of view path) (At what.TooLong path) (k path) f (each path)

written_exact : (setting : Setting) (view : Mounts) (n : ℕ) (word content : List ℕ) → Exact (not_written setting view n word) (writes setting view word content)
written_exact setting view n word content =
    word_exact setting view n word (no_file_put view) (λ spot. written view spot content)
    (λ path spot. file_put_exact view path spot _ content)

read_exact : (setting : Setting) (view : Mounts) (n : ℕ) (word : List ℕ) → Exact (not_read setting view n word) (file_by setting view word)
read_exact setting view n word =
    word_exact setting view n word (λ path spot. no_file path (entry_at view spot)) (λ spot. file_in (entry_at view spot))
    (λ path spot. file_exact path (entry_at view spot))

joined_exact : (setting : Setting) (view : Mounts) (n : ℕ) (words : List (List ℕ)) → Exact (none_read setting view n words) (joined setting view words)
joined_exact setting view n [] = refl
joined_exact setting view n (word ∷ words) =
    exact_then (not_read setting view n word) (none_read setting view (n + 1) words) (file_by setting view word)
    (λ file. joined setting view words >>= λ more. Some (file.1 ++ more)) (read_exact setting view n word)
    (λ file. exact_map (none_read setting view (n + 1) words) (joined setting view words) (λ more. file.1 ++ more)
    (joined_exact setting view (n + 1) words))

listing_exact : (setting : Setting) (view : Mounts) (word : List ℕ)
    → Exact (at_word setting view 1 word (λ names spot. no_dir names (entry_at view spot))) (listing_by setting view word)
listing_exact setting view word =
    word_exact setting view 1 word (λ names spot. no_dir names (entry_at view spot))
    (λ spot. result_ok (list (tree_at view spot) spot.place) >>= λ names. Some (listed (tree_at view spot) spot.place names))
    (λ path spot. list_exact path (entry_at view spot) (flat_map (tree.name_below spot.place) (finite.keys (tree_at view spot)))
    (listed (tree_at view spot) spot.place))

-- ---- the target of a copy

module _ (view : Mounts) (source : Names) (m : MetaValue) (bytes : List ℕ) where
  abbrev puts : Spot → Option Mounts
  puts target = with_file view target m bytes

  into_exact : (path : Names)
      → Exact (not_into view source path) ((last_name source >>= λ name. result_ok (below path name) >>= spot_of view) >>= puts)
  into_exact path = by_name (last_name source)
    where
      by_place : (o : Option Names)
          → Exact (or_cause o (At what.TooLong path) (λ longer. at_spot view longer (no_file_put view longer))) ((o >>= spot_of view) >>= puts)
      by_place None = refl
      by_place (Some longer) =
          exact_bind (spot_of view longer) (At what.TooLong longer) (no_file_put view longer) puts (λ spot. file_put_exact view longer spot m bytes)

      by_name : (o : Option (List ℕ))
          → Exact (or_cause o (At what.IsDir path)
          (λ name. or_cause (result_ok (below path name)) (At what.TooLong path) (λ longer. at_spot view longer (no_file_put view longer))))
          ((o >>= λ name. result_ok (below path name) >>= spot_of view) >>= puts)
      by_name None = refl
      by_name (Some name) = by_place (result_ok (below path name))

  target_exact : (path : Names) → Exact (not_copied_to view source path) (target_of view source path >>= puts)
  target_exact path = by_spot (spot_of view path)
    where
      into : Option Spot
      into = last_name source >>= λ name. result_ok (below path name) >>= spot_of view

      by_flag : (spot : Spot) (b : Bool)
          → Exact (cond b (not_into view source path) (no_file_put view path spot)) (cond b into (Some spot) >>= puts)
      by_flag spot true = into_exact path
      by_flag spot false = file_put_exact view path spot m bytes

      by_spot : (o : Option Spot)
          → Exact (or_cause o (At what.TooLong path)
          (λ spot. cond (is_dir (entry_at view spot)) (not_into view source path) (no_file_put view path spot)))
          ((o >>= λ spot. cond (is_dir (entry_at view spot)) into (Some spot)) >>= puts)
      by_spot None = refl
      by_spot (Some spot) = by_flag spot (is_dir (entry_at view spot))

copied_exact : (setting : Setting) (view : Mounts) (from to : List ℕ)
    → Exact (not_copied setting view from to) (run setting view (command.Cp from to))
copied_exact setting view from to =
    exact_bind (path_by setting from) (NoPath 1) (λ source. at_spot view source (after source)) _
    (λ source. exact_bind (spot_of view source) (At what.TooLong source) (after source) _
    (λ spot. exact_then (no_file source (entry_at view spot)) (at_path setting 2 to (not_copied_to view source)) (file_in (entry_at view spot)) _
    (file_exact source (entry_at view spot))
    (λ file. exact_bind (path_by setting to) (NoPath 2) (not_copied_to view source) _
    (λ path. target_exact view source file.0 file.1 path))))
  where
    after : Names → Spot → Option Cause
    after source spot = first_of (no_file source (entry_at view spot)) (at_path setting 2 to (not_copied_to view source))

-- ---- commands

by_command : (setting : Setting) (view : Mounts) (c : Command) → Exact (cause_of setting view c) (run setting view c)
by_command setting view command.True = refl
by_command setting view command.False = refl
by_command setting view (command.Mkdir false path) =
    word_exact setting view 1 path (no_new_dir view) (with_new_dir view) (new_dir_exact view)
by_command setting view (command.Mkdir true path) = word_exact setting view 2 path (no_dirs view) (with_dirs view) (dirs_exact view)
by_command setting view (command.Rm path) = word_exact setting view 1 path (no_removal view) (without_spot view) (removal_exact view)
by_command setting view (command.Write path word) = written_exact setting view 1 path (line word)
by_command setting view (command.Append path word) =
    word_exact setting view 1 path (no_file_put view) _ (λ names spot. file_put_exact view names spot _ _)
by_command setting view (command.Cp from to) = copied_exact setting view from to
by_command setting view (command.Concat out parts) =
    exact_then (none_read setting view 2 parts) (not_written setting view 1 out) (joined setting view parts) (writes setting view out)
    (joined_exact setting view 2 parts) (written_exact setting view 1 out)
by_command setting view (command.Chmod mode path) =
    word_exact setting view 2 path (λ names spot. no_mode view names spot (entry_at view spot)) (λ spot. with_mode view spot mode (entry_at view spot))
    (λ names spot. mode_exact view names spot mode (entry_at view spot))
by_command setting view (command.Test kind path) =
    word_exact setting view 2 path (λ names spot. no_kind kind names (entry_at view spot)) _
    (λ names spot. kind_exact kind names (entry_at view spot) view)
by_command setting view (command.Listing path out) =
    exact_then (at_word setting view 1 path (λ names spot. no_dir names (entry_at view spot))) (not_written setting view 2 out)
    (listing_by setting view path) (writes setting view out) (listing_exact setting view path) (written_exact setting view 2 out)
by_command setting view (command.Envfile out) = written_exact setting view 1 out (flat_map line setting.env)
by_command setting view (command.Sha256 path out) =
    exact_then (not_read setting view 1 path) (not_written setting view 2 out) (file_by setting view path)
    (λ file. writes setting view out (line (digits_of file.1))) (read_exact setting view 1 path)
    (λ file. written_exact setting view 2 out (line (digits_of file.1)))

by_status : (c : Option Cause) (o : Option Mounts) → Exact c o → is_some c ≡ (status_of o == 1)
by_status c None is = is
by_status c (Some view) is = is

-- a command has a cause exactly if its status is 1
pub exact : (setting : Setting) (view : Mounts) (c : Command) → is_some (cause_of setting view c) ≡ (status_of (run setting view c) == 1)
exact setting view c = by_status (cause_of setting view c) (run setting view c) (by_command setting view c)
