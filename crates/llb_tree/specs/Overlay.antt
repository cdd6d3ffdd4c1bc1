-- One tree laid over another, path by path. The result has all entries of the upper tree, with the mode and owner that the settings set; a directory
-- of both trees may keep the lower tree's mode and owner. A lower entry stays if the upper tree has nothing at its path and no file above it.
use Rattle.std.specs.Prelude.{ℕ, Bool, true, false, List, map, Option, Some, None, unwrap_or, nat_lt, if◌then◌else◌}
use Rattle.std.specs.List.{list_any}
use Rattle.llb_tree.specs.ModeAndOwner.{MetaValue}
use Rattle.llb_tree.specs.Tree.{Entry, Dir, File, Look, parents}

-- whether there is an entry and the entry is a file
abbrev pub is_file : Option Entry → Bool
is_file None = false
is_file (Some (Dir m)) = false
is_file (Some (File m b)) = true

-- whether there is a file at a proper prefix of the path
abbrev pub below_file : Look → List (List ℕ) → Bool
below_file look p = list_any is_file (map look (parents p))

-- how one tree is laid over another: the mode and owners to be set, if any, and whether a directory of both trees keeps the lower tree's mode and owner
pub record SettingsValue : Type 0 where
  pub mode : Option ℕ
  pub uid : Option ℕ
  pub gid : Option ℕ
  pub keeps : Bool

-- whether a mode, if one is given, is at most 4095; true if none is given
abbrev pub is_mode : Option ℕ → Bool
is_mode None = true
is_mode (Some mode) = if nat_lt 4095 mode then false else true

-- a `SettingsValue` with this mode, user and group, each of them optional, and this `keeps`; nothing if the mode is above 4095
abbrev pub settings_of : Option ℕ → Option ℕ → Option ℕ → Bool → Option SettingsValue
settings_of mode uid gid keeps = if is_mode mode then Some (record { mode = mode; uid = uid; gid = gid; keeps = keeps }) else None

-- the mode and the owner that an upper entry has in the result: what the settings `w` set, else what the entry had
abbrev pub laid_meta : SettingsValue → MetaValue → MetaValue
laid_meta w m = record { mode = unwrap_or w.mode m.mode; uid = unwrap_or w.uid m.uid; gid = unwrap_or w.gid m.gid }

-- an entry of the upper tree after it is laid over what the lower tree has at the same path
abbrev pub over : SettingsValue → Option Entry → Entry → Entry
over w (Some (Dir m)) (Dir k) = Dir (if w.keeps then m else laid_meta w k)
over w (Some (File m b)) (Dir k) = Dir (laid_meta w k)
over w None (Dir k) = Dir (laid_meta w k)
over w there (File k c) = File (laid_meta w k) c

-- the entry of the result at a path, given what each tree has at the path, and whether a file of the upper tree is above the path
abbrev pub laid_over : SettingsValue → Option Entry → Option Entry → Bool → Option Entry
laid_over w there (Some e) hidden = Some (over w there e)
laid_over w there None hidden = if hidden then None else there

-- the entry of the result at a path; `lower` and `upper` return the entries of the two trees at each path
abbrev pub over_at : SettingsValue → Look → Look → Look
over_at w lower upper p = laid_over w (lower p) (upper p) (below_file upper p)
