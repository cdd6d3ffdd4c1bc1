-- The result of each command, applet by applet. If a command succeeds, with status 0, the result is the view after the command. If it fails,
-- with status 1, the result is nothing, and the view is unchanged.
use Rattle.std.specs.Prelude.{ℕ, Bool, true, false, if◌then◌else◌, List, [], ◌∷◌, ◌++◌, length, ◌-◌, slice_get, Option, Some, None, is_some}
use Rattle.std.specs.Prelude.{option_map, option_and_then, unwrap_or, codes, IsSome}
use Rattle.std.specs.List.{flat_map}
use Rattle.std.specs.Result.{result_ok}
use Rattle.std.specs.FinMap as finite
use Rattle.llb_wire.specs.Digest.{digits_of}
use Rattle.llb_tree.specs.Path.{path_from, below}
use Rattle.llb_tree.specs.Tree as tree
use Rattle.llb_tree.specs.Tree.{Entry, TreeMap, MetaValue, list, is_dir}
use Rattle.llb_applet.specs.declared.directory_and_variables.Setting.{Setting}
use Rattle.llb_applet.specs.declared.path_in_mount.Spot.{Spot}
use Rattle.llb_applet.specs.declared.command.Kind.{Kind}
use Rattle.llb_applet.specs.declared.command.Kind.TheVariants.{Something, File, Dir}
use Rattle.llb_applet.specs.declared.command.Command.{Command}
use Rattle.llb_applet.specs.declared.command.Command.TheVariants as command
use Rattle.llb_applet.specs.PathsInMounts.{Mounts, spot_of, tree_at, entry_at, file_in, with_file, with_dir, without_spot, with_new_dir, with_dirs}

infixl 10 ◌>>=◌
-- f applied to a value, if there is one; else nothing
abbrev pub ◌>>=◌ : {A B : Type 0} → Option A → (A → Option B) → Option B
o >>= f = option_and_then f o

-- the path that a word is read as, relative to the setting's cwd; nothing if the word is no path
abbrev pub path_by : Setting → List ℕ → Option (List (List ℕ))
path_by setting word = result_ok (path_from setting.cwd word)

-- the spot that a word names: a mount, and a path in its tree
abbrev pub spot_by : Setting → Mounts → List ℕ → Option Spot
spot_by setting view word = path_by setting word >>= spot_of view

-- the mode and owner of a new file: 0644 0:0
abbrev pub new_meta : MetaValue
new_meta = record { mode = 420; uid = 0; gid = 0 }

-- the mode and owner of the entry at a spot, or those of a new file if there is none
abbrev pub meta_there : Option Entry → MetaValue
meta_there (Some e) = tree.meta_in e
meta_there None = new_meta

-- the mode, the owner and the content of the file that a word names; nothing if it names no file
abbrev pub file_by : Setting → Mounts → List ℕ → Option (MetaValue × List ℕ)
file_by setting view word = spot_by setting view word >>= λ spot. file_in (entry_at view spot)

-- the view after content is written at a spot: a file that is there gets the content and keeps its mode and owner; else a new file is made
abbrev pub written : Mounts → Spot → List ℕ → Option Mounts
written view spot content = with_file view spot (meta_there (entry_at view spot)) content

-- the view after content is written at the path that a word names
abbrev pub writes : Setting → Mounts → List ℕ → List ℕ → Option Mounts
writes setting view word content = spot_by setting view word >>= λ spot. written view spot content

-- a word, followed by a line end
abbrev pub line : List ℕ → List ℕ
line word = word ++ 10 ∷ []

-- the view after a line (a word and a line end) is appended to the file at a spot; if there is no file, the line is written to a new one
abbrev pub appended : Mounts → Spot → List ℕ → Option Mounts
appended view spot word = written view spot (unwrap_or (option_map (λ f. f.1) (file_in (entry_at view spot))) [] ++ line word)

-- the last name of a path, if it has one
abbrev pub last_name : List (List ℕ) → Option (List ℕ)
last_name path = slice_get path (length path - 1)

-- the spot to which a file is copied: the spot of the path; or, if a directory is there, the spot of the source's last name in that directory
abbrev pub target_of : Mounts → List (List ℕ) → List (List ℕ) → Option Spot
target_of view source path =
    spot_of view path >>= λ spot.
    if is_dir (entry_at view spot) then (last_name source >>= λ name. result_ok (below path name) >>= spot_of view) else Some spot

-- the view after the file that the first word names is copied, with its mode and owner, to the path that the second word names; nothing if the copy fails
abbrev pub copied : Setting → Mounts → List ℕ → List ℕ → Option Mounts
copied setting view from to =
    path_by setting from >>= λ source.
    spot_of view source >>= λ spot.
    file_in (entry_at view spot) >>= λ file.
    path_by setting to >>= λ path.
    target_of view source path >>= λ target.
    with_file view target file.0 file.1

-- the joined contents of the files that these words name; nothing if one of the words names no file
abbrev pub joined : Setting → Mounts → List (List ℕ) → Option (List ℕ)
joined setting view [] = Some []
joined setting view (word ∷ words) = file_by setting view word >>= λ file. joined setting view words >>= λ more. Some (file.1 ++ more)

-- the view after the entry at a spot, if there is one, gets this mode and keeps its owner and content; nothing if there is no entry or the change is refused
abbrev pub with_mode : Mounts → Spot → ℕ → Option Entry → Option Mounts
with_mode view spot mode None = None
with_mode view spot mode (Some (tree.Dir m)) = with_dir view spot (record m { mode = mode })
with_mode view spot mode (Some (tree.File m content)) = with_file view spot (record m { mode = mode }) content

-- whether the entry at a spot is of the kind for which `test` asks
abbrev pub is_kind : Kind → Option Entry → Bool
is_kind Something e = is_some e
is_kind File e = is_some (file_in e)
is_kind Dir e = is_dir e

-- the line for a name in the directory at path p: the name, then `/` if the entry with this name is a directory, and a line end
abbrev pub line_of : TreeMap → List (List ℕ) → List ℕ → List ℕ
line_of t p name = name ++ (if is_dir (finite.get t (p ++ name ∷ [])) then codes "/" else []) ++ 10 ∷ []

-- the lines for these names in the directory at path p: each has the name, `/` if the name leads to a directory, and a line end
abbrev pub listed : TreeMap → List (List ℕ) → List (List ℕ) → List ℕ
listed t p names = flat_map (line_of t p) names

-- the listing of the directory that a word names: a line for each name in the directory; nothing if the word names no directory
abbrev pub listing_by : Setting → Mounts → List ℕ → Option (List ℕ)
listing_by setting view word =
    spot_by setting view word >>= λ spot.
    result_ok (list (tree_at view spot) spot.place) >>= λ names.
    Some (listed (tree_at view spot) spot.place names)

-- the view after a command with status 0; nothing if the command fails
abbrev pub run : Setting → Mounts → Command → Option Mounts
run setting view command.True = Some view
run setting view command.False = None
run setting view (command.Mkdir false path) = spot_by setting view path >>= with_new_dir view
run setting view (command.Mkdir true path) = spot_by setting view path >>= with_dirs view
run setting view (command.Rm path) = spot_by setting view path >>= without_spot view
run setting view (command.Write path word) = writes setting view path (line word)
run setting view (command.Append path word) = spot_by setting view path >>= λ spot. appended view spot word
run setting view (command.Cp from to) = copied setting view from to
run setting view (command.Concat out parts) = joined setting view parts >>= writes setting view out
run setting view (command.Chmod mode path) = spot_by setting view path >>= λ spot. with_mode view spot mode (entry_at view spot)
run setting view (command.Test kind path) = spot_by setting view path >>= λ spot. if is_kind kind (entry_at view spot) then Some view else None
run setting view (command.Listing path out) = listing_by setting view path >>= writes setting view out
run setting view (command.Envfile out) = writes setting view out (flat_map line setting.env)
run setting view (command.Sha256 path out) = file_by setting view path >>= λ file. writes setting view out (line (digits_of file.1))

-- a command may be refused memory: not `true` and `false`, nor one whose first word that has to be a path is none; `concat` reads its inputs first
abbrev pub MayWant : Setting → Command → Type 0
MayWant setting command.True = ⊥
MayWant setting command.False = ⊥
MayWant setting (command.Mkdir parents path) = IsSome (path_by setting path)
MayWant setting (command.Rm path) = IsSome (path_by setting path)
MayWant setting (command.Write path word) = IsSome (path_by setting path)
MayWant setting (command.Append path word) = IsSome (path_by setting path)
MayWant setting (command.Cp from to) = IsSome (path_by setting from)
MayWant setting (command.Concat out parts) = IsSome (path_by setting (unwrap_or (slice_get parts 0) out))
MayWant setting (command.Chmod mode path) = IsSome (path_by setting path)
MayWant setting (command.Test kind path) = IsSome (path_by setting path)
MayWant setting (command.Listing path out) = IsSome (path_by setting path)
MayWant setting (command.Envfile out) = IsSome (path_by setting out)
MayWant setting (command.Sha256 path out) = IsSome (path_by setting path)

-- the status of a command with this result: 0 if the result is a view, 1 if it is nothing
abbrev pub status_of : Option Mounts → ℕ
status_of (Some view) = 0
status_of None = 1

-- the view after a command with this result: the result itself, or the unchanged view if the result is nothing
abbrev pub left : Mounts → Option Mounts → Mounts
left view outcome = unwrap_or outcome view
