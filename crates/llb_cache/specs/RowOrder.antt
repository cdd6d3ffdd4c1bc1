-- The numbers of the rows, sorted by the keys of the rows, and the position of a key in this order.
use Rattle.std.specs.Prelude.{◌≡◌, ℕ, ◌+◌, ◌<◌, ◌≤◌, ◌&&◌, nat_lt, Bool, true, false, List, [], length, slice_index_or, None, vec_len, vec_capacity}
use Rattle.std.specs.List.{IsDistinct}
use Rattle.std.specs.Map.{keys_of}
use Rattle.std.specs.Ordering.{is_lt}
use Rattle.llb_cache.specs.declared.key.Key.{Key}
use Rattle.llb_cache.specs.declared.key.Mode.TheVariants.{Shared}
use Rattle.llb_cache.specs.declared.rows.Rows.{Rows}
use Rattle.llb_cache.specs.Caches.{Row}
use Rattle.llb_cache.specs.Key.{same_key}
use Rattle.llb_cache.specs.KeyOrder.{key_cmp}

-- the key that `key_at` returns if there is no row: no ID, no seed, shared
abbrev pub no_key : Key
no_key = record { id = []; seed = None; mode = Shared }

-- the key of row i; `no_key` past the last row
abbrev pub key_at : List Row → ℕ → Key
key_at rows i = slice_index_or (keys_of rows) i no_key

-- whether row i exists and has this key
abbrev pub has_key : List Row → ℕ → Key → Bool
has_key rows i key = nat_lt i (length rows) && same_key key (key_at rows i)

-- whether the key of row i comes before this key in the order of keys
abbrev pub is_before : List Row → ℕ → Key → Bool
is_before rows i key = is_lt (key_cmp (key_at rows i) key)

-- the row number at position j of `order`, the list of the rows' numbers in the order of their keys
abbrev pub row_at : List ℕ → ℕ → ℕ
row_at order j = slice_index_or order j 0

-- the keys of the rows are distinct, and the order has the number of each row once, ascending by the rows' keys
pub record IsOrdered (rows : List Row) (order : List ℕ) : Type 0 where
  pub distinct : IsDistinct same_key (keys_of rows)
  pub within : (j : ℕ) → j < length order → row_at order j < length rows
  pub each : (i : ℕ) → i < length rows → (j : ℕ) × (j < length order) × (row_at order j ≡ i)
  pub rising : (j k : ℕ) → j < k → k < length order → is_before rows (row_at order j) (key_at rows (row_at order k)) ≡ true

-- `place` is the position of a key in the order: exactly the rows before this position have keys that come before the key
pub record IsPlace (rows : List Row) (order : List ℕ) (key : Key) (place : ℕ) : Type 0 where
  pub within : place ≤ length order
  pub before : (j : ℕ) → j < place → is_before rows (row_at order j) key ≡ true
  pub behind : (j : ℕ) → place ≤ j → j < length order → is_before rows (row_at order j) key ≡ false

-- the list `order` of these rows has the number of each row once, ascending by the rows' keys
abbrev pub AreOrdered : Rows → Type 0
AreOrdered rows = IsOrdered rows.entries.items rows.order.items

-- both lists of these rows have room for `more` further rows
abbrev pub HasRoom : Rows → ℕ → Type 0
HasRoom rows more = (vec_len rows.entries + more ≤ vec_capacity rows.entries) × (vec_len rows.order + more ≤ vec_capacity rows.order)
