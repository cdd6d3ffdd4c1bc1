-- The mode and the owner of an entry, as numbers. A mode is at most 4095 (twelve bits), and owners are below 2^32;
-- the type `Meta` of the code ensures these bounds.
use Rattle.std.specs.Prelude.{ℕ, ◌≤◌, ◌<◌, ◌^◌, Option, Some, None, nat_lt, if◌then◌else◌}

-- the mode of an entry, and the user and the group that own it; the numbers are not bounded here
pub record MetaValue : Type 0 where
  pub mode : ℕ
  pub uid : ℕ
  pub gid : ℕ

-- the mode is at most 4095, and the user and the group are below 2^32
pub record IsMeta (m : MetaValue) : Type 0 where
  pub mode : m.mode ≤ 4095
  pub uid : m.uid < 2 ^ 32
  pub gid : m.gid < 2 ^ 32

-- the mode and the owner with these numbers; nothing if the mode is above 4095
abbrev pub meta_of : ℕ → ℕ → ℕ → Option MetaValue
meta_of mode uid gid = if nat_lt 4095 mode then None else Some (record { mode = mode; uid = uid; gid = gid })

-- the mode and the owner of a new directory for which none are given: 0755 0:0
abbrev pub new_dir_meta : MetaValue
new_dir_meta = record { mode = 493; uid = 0; gid = 0 }
