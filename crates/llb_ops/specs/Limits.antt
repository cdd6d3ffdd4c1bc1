-- The limits of a definition.
use Rattle.std.specs.Prelude.{ℕ}

-- the most bytes that a definition may have
abbrev pub definition_limit : ℕ
definition_limit = 67_108_864

-- the most entries that a definition may have
abbrev pub entries_limit : ℕ
entries_limit = 65_536

-- the most bytes that an entry may have
abbrev pub entry_limit : ℕ
entry_limit = 16_777_216

-- the most records that a repeated field of an op, or of a message in it, may have
abbrev pub field_limit : ℕ
field_limit = 1_024
