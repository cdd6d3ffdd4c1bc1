-- What is looked up in rows: which rows are distinct, which row is the terminal, and which row a digest text names.
use Rattle.std.specs.Prelude.{◌≡◌, ◌≢◌, ℕ, ◌-◌, ◌<◌, ◌==◌, cond, List, [], length, map, slice_index_or, position, Option, Some, None}
use Rattle.std.specs.List.{filter_map}
use Rattle.std.specs.Option.{unwrap_or}
use Rattle.std.specs.Str.{bytes_eq}
use Rattle.llb_ops.specs.declared.op.Op.{Op}
use Rattle.llb_loader.specs.declared.row.Row.{Row}
use Rattle.llb_loader.specs.declared.fault.LoadFault.{LoadFault}
use Rattle.llb_loader.specs.declared.fault.LoadFault.TheVariants.{Collision}
use Rattle.std.specs.Borrow.{Bor}
use Rattle.std.specs.BTreeMap.{BTreeMap, get_by}
use Rattle.std.specs.Cmp.Lexicographic.{slice_cmp}
use Rattle.std.specs.Ordering.{nat_cmp}

-- row k; an empty row past the end
abbrev pub row_at : List Row → ℕ → Row
row_at rows k = slice_index_or rows k (record { digest = []; bytes = [] })

-- all rows are equal (true also if there are no rows), so fewer than two rows are distinct
abbrev pub AllSame : List Row → Type 0
AllSame rows = (k : ℕ) → k < length rows → row_at rows k ≡ row_at rows 0

-- row k has the digest text of an earlier row, and other bytes
pub record Collides (rows : List Row) (k : ℕ) : Type 0 where
  pub here : k < length rows
  pub earlier : (j : ℕ) × (j < k) × ((row_at rows j).digest ≡ (row_at rows k).digest) × ((row_at rows j).bytes ≢ (row_at rows k).bytes)

-- k is the least number with the property P
pub record Least (P : ℕ → Type 0) (k : ℕ) : Type 0 where
  pub holds : P k
  pub least : (j : ℕ) → j < k → ¬ P j

-- Row t is the terminal: the first row that equals the last one.
abbrev pub IsTerminal : List Row → ℕ → Type 0
IsTerminal rows t = Least (λ k. (k < length rows) × (row_at rows k ≡ row_at rows (length rows - 1))) t

-- the first row with this digest text, if there is one
abbrev pub first_with : List Row → List ℕ → Option ℕ
first_with rows d = position (λ r. bytes_eq d r.digest) rows

-- the first row with the last row's digest text; 0 if there are no rows
abbrev pub terminal_in : List Row → ℕ
terminal_in rows = unwrap_or (first_with rows (row_at rows (length rows - 1)).digest) 0

-- the row number k, if there is one and k is not t; else none
abbrev pub other_than : ℕ → Option ℕ → Option ℕ
other_than t (Some k) = cond (k == t) None (Some k)
other_than t None = None

-- the row that a digest text names: the first row with this digest text; none if there is no such row, or if it is the terminal t, which no input can name
abbrev pub row_named : List Row → ℕ → List ℕ → Option ℕ
row_named rows t d = other_than t (first_with rows d)

-- the rows that an op's inputs name; inputs that name no row are left out
abbrev pub rows_named : List Row → ℕ → Op → List ℕ
rows_named rows t op = filter_map (λ i. row_named rows t i.digest) op.inputs

-- for each row, the rows that its inputs name
abbrev pub graph_of : List Row → ℕ → List Op → List (List ℕ)
graph_of rows t ops = map (rows_named rows t) ops

-- the code's index maps each digest text to the first row with this text, and has no other texts
abbrev pub IsIndex : List Row → BTreeMap (Bor (List ℕ)) ℕ → Type 0
IsIndex rows index = (d : List ℕ) → get_by (λ q. slice_cmp nat_cmp d q.now) index ≡ first_with rows d

-- `firsts` has for each row the first row with the same digest text
pub record AreFirsts (rows : List Row) (firsts : List ℕ) : Type 0 where
  pub len : length firsts ≡ length rows
  pub each : (k : ℕ) → k < length rows → first_with rows (row_at rows k).digest ≡ Some (slice_index_or firsts k 0)

-- e is `Collision` (84) with the number of the first row that has the digest text of an earlier row and other bytes
abbrev pub RefusesCollision : List Row → LoadFault → Type 0
RefusesCollision rows e = (k : ℕ) × (e ≡ Collision k) × Least (Collides rows) k
