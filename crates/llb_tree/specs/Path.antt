-- Names and paths: which byte strings are names, the order of paths, and how a text is read as a path. A path is the
-- list of its names from the root down, so the root is the empty list.
use Rattle.std.specs.Prelude.{◌≡◌, ℕ, ◌-◌, ◌≤◌, ◌==◌, nat_eq, nat_le, nat_lt, Bool, ◌&&◌, ◌||◌, not, IsTrue, if◌then◌else◌, List, [], ◌∷◌}
use Rattle.std.specs.Prelude.{◌++◌, length, take, Result, Ok, Err}
use Rattle.std.specs.List.{All, list_all, slice_split, join_with_byte, starts_with}
use Rattle.std.specs.Str.{is_utf8}
use Rattle.std.specs.declared.cmp.Ordering.{Ordering}
use Rattle.std.specs.Ordering.{nat_cmp}
use Rattle.std.specs.Cmp.Lexicographic.{slice_cmp, pointwise}
use Rattle.llb_wire.specs.CallResults.{◌>>=◌}
use Rattle.llb_tree.specs.declared.fault.TreeFault.{TreeFault}
use Rattle.llb_tree.specs.declared.fault.TreeFault.TheVariants.{BadName}

-- the order of names, by their bytes
abbrev pub name_cmp : List ℕ → List ℕ → Ordering
name_cmp = slice_cmp nat_cmp

-- the order of paths, as lists of names
abbrev pub path_cmp : List (List ℕ) → List (List ℕ) → Ordering
path_cmp = slice_cmp name_cmp

-- whether a part is `.`
abbrev pub is_dot : List ℕ → Bool
is_dot part = pointwise nat_eq part (46 ∷ [])

-- whether a part is `..`
abbrev pub is_dots : List ℕ → Bool
is_dots part = pointwise nat_eq part (46 ∷ 46 ∷ [])

-- whether a byte can be in a name: it is no control byte, not 0x7F and not `/`
abbrev pub is_name_byte : ℕ → Bool
is_name_byte b = nat_le 32 b && not (b == 127) && not (b == 47)

-- whether a part is a name: 1 to 255 bytes for which `is_name_byte` is true, in UTF-8, and neither `.` nor `..`
abbrev pub is_name : List ℕ → Bool
is_name part = not (length part == 0) && nat_le (length part) 255 && not (is_dot part) && not (is_dots part) && list_all is_name_byte part && is_utf8 part

-- a path has at most 128 names, and each of them is a name by `is_name`
pub record IsPath (path : List (List ℕ)) : Type 0 where
  pub short : length path ≤ 128
  pub named : All (λ name. IsTrue (is_name name)) path

-- the part, if it is a name; else the fault `BadName`
abbrev pub name_of : List ℕ → Result (List ℕ) TreeFault
name_of part = if is_name part then Ok part else Err BadName

-- the path with this name appended; the fault `BadName` if it would be the 129th name
abbrev pub below : List (List ℕ) → List ℕ → Result (List (List ℕ)) TreeFault
below path name = if nat_lt (length path) 128 then Ok (path ++ name ∷ []) else Err BadName

-- the path, changed by one part of a text: an empty part and `.` change nothing, `..` removes the last name, any other part is added as a name or refused
abbrev pub enter : List (List ℕ) → List ℕ → Result (List (List ℕ)) TreeFault
enter path part =
    if length part == 0 || is_dot part then Ok path
    else (if is_dots part then Ok (take (length path - 1) path) else (name_of part >>= below path))

-- the path after the parts of a text are applied to it one after another, each as `enter` says; or the first fault
abbrev pub follow : List (List ℕ) → List (List ℕ) → Result (List (List ℕ)) TreeFault
follow path [] = Ok path
follow path (part ∷ parts) = enter path part >>= λ next. follow next parts

-- the parts of a text, which is split at each `/`
abbrev pub parts_of : List ℕ → List (List ℕ)
parts_of = slice_split (λ b. b == 47)

-- the path that a text is read as, from the root; or the fault of the first part that `enter` refuses
abbrev pub path_of : List ℕ → Result (List (List ℕ)) TreeFault
path_of text = follow [] (parts_of text)

-- the path that a text is read as, from the path `start`; but a text that begins with `/` is read from the root
abbrev pub path_from : List (List ℕ) → List ℕ → Result (List (List ℕ)) TreeFault
path_from start text = if starts_with nat_eq text (47 ∷ []) then path_of text else follow start (parts_of text)

-- the number of names of the path in a result; if the result is a fault, that fault
abbrev pub depth : Result (List (List ℕ)) TreeFault → Result ℕ TreeFault
depth (Ok path) = Ok (length path)
depth (Err e) = Err e

-- a path as a text: its names with `/` between them
abbrev pub joined : List (List ℕ) → List ℕ
joined = join_with_byte 47

-- the names of a path, joined by `/`, are a text that is read as that path; the same text with a `/` before it is read as that path too
pub record ReadsBack (path : List (List ℕ)) : Type 0 where
  pub relative : path_of (joined path) ≡ Ok path
  pub absolute : path_of (47 ∷ joined path) ≡ Ok path

-- whether a path is at or below the path p
abbrev pub is_within : List (List ℕ) → List (List ℕ) → Bool
is_within p path = starts_with (pointwise nat_eq) path p
