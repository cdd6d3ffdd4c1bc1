-- A row without a number is ready to be numbered, or waits for a row that one of its inputs names. A `Waiter`: a row, and how many of its inputs were checked.
use Rattle.std.specs.Prelude.{◌≡◌, ℕ, ◌<◌, ◌≤◌, Bool, true, false, cond, List, [], ◌∷◌, ◌++◌, ◌⊎◌, length, slice_index, slice_index_or, slice_set, ◌==◌}
use Rattle.std.specs.List.{All}
use Rattle.llb_loader.specs.declared.numbering.Waiter.{Waiter}
use Rattle.llb_loader.specs.ReachedRows.{inputs, HasEdge}

-- `marks` has true for row k
abbrev pub IsMarked : List Bool → ℕ → Type 0
IsMarked marks k = slice_index_or marks k false ≡ true

-- `done` marks the rows that have numbers. The row of w has at least `w.checked` inputs, and the first `w.checked` of them name rows that have numbers.
pub record IsChecked (g : List (List ℕ)) (done : List Bool) (w : Waiter) : Type 0 where
  pub within : w.checked ≤ length (inputs g w.row)
  pub passed : (i : ℕ) → i < w.checked → IsMarked done (slice_index (inputs g w.row) i)

-- `done` marks all rows that the inputs of row `w.row` name, and this row joins the ready rows (a `Waiter` is a row, and how many of its inputs were checked)
pub record GoesToReady (g : List (List ℕ)) (done : List Bool) (w : Waiter) (ready next_ready : ℕ → Bool)
    (waiting next_waiting : List (List Waiter)) : Type 0 where
  pub all : All (IsMarked done) (inputs g w.row)
  pub added : (q : ℕ) → next_ready q ≡ cond (w.row == q) true (ready q)
  pub same : next_waiting ≡ waiting

-- an input of the row of w names row b, which has no number yet (`done` does not mark b), and the row of w now waits for row b
pub record GoesToWaiting (g : List (List ℕ)) (done : List Bool) (w : Waiter) (ready next_ready : ℕ → Bool)
    (waiting next_waiting : List (List Waiter)) (b : ℕ) (next : Waiter) : Type 0 where
  pub edge : HasEdge g w.row b
  pub open_input : slice_index_or done b false ≡ false
  pub row : next.row ≡ w.row
  pub checked : IsChecked g done next
  pub same : (q : ℕ) → next_ready q ≡ ready q
  pub below : b < length waiting
  pub pushed : next_waiting ≡ slice_set waiting b (slice_index_or waiting b [] ++ next ∷ [])

-- the row of `w`, which has no number yet, joins the ready rows, or waits for a row that has no number yet and that one of its inputs names
abbrev pub IsPlacing : List (List ℕ) → List Bool → Waiter → (ℕ → Bool) → (ℕ → Bool) → List (List Waiter) → List (List Waiter) → Type 0
IsPlacing g done w ready next_ready waiting next_waiting =
    GoesToReady g done w ready next_ready waiting next_waiting
    ⊎ ((b : ℕ) × (next : Waiter) × GoesToWaiting g done w ready next_ready waiting next_waiting b next)
