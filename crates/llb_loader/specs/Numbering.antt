-- How the rows that are reached from `start`, the row of the result, get their vertex numbers. `g` has for each row the rows that its inputs name.
use Rattle.std.specs.Prelude.{ℕ, suc, ◌<◌, ◌≤◌, ◌==◌, cond, List, [], ◌∷◌, length, take, slice_index}
use Rattle.std.specs.List.{All, Contains}
use Rattle.llb_loader.specs.ReachedRows.{inputs, HasEdge, Reached}

-- row k is reached from the row `start`, is not one of the rows `done`, which have numbers, and all rows that its inputs name are in `done`
pub record IsReady (g : List (List ℕ)) (start : ℕ) (done : List ℕ) (k : ℕ) : Type 0 where
  pub reached : Reached g start k
  pub fresh : ¬ Contains done k
  pub inputs_done : All (Contains done) (inputs g k)

-- row k gets the next vertex number: of the rows for which `IsReady` holds (reached rows without a number, whose inputs all have one), row k is the first
pub record IsNext (g : List (List ℕ)) (start : ℕ) (done : List ℕ) (k : ℕ) : Type 0 where
  pub ready : IsReady g start done k
  pub least : (j : ℕ) → IsReady g start done j → k ≤ j

-- `order` has the rows that are reached from `start`, by vertex number: at each position is the row that gets the next number after the rows before it.
pub record IsNumbering (g : List (List ℕ)) (start : ℕ) (order : List ℕ) : Type 0 where
  pub each : (i : ℕ) → i < length order → IsNext g start (take i order) (slice_index order i)
  pub whole : (k : ℕ) → Reached g start k → Contains order k

-- `rank` maps each row to a rank such that every edge from a row that is reached from row `start` leads to a row of lower rank
abbrev pub GoesDown : List (List ℕ) → ℕ → (ℕ → ℕ) → Type 0
GoesDown g start rank = (a b : ℕ) → Reached g start a → HasEdge g a b → rank b < rank a

-- the rows that are reached from row `start` have a cycle: there are no ranks by which every edge from such a row leads to a row of lower rank
abbrev pub HasCycle : List (List ℕ) → ℕ → Type 0
HasCycle g start = (rank : ℕ → ℕ) → ¬ GoesDown g start rank

-- the first position of row k in the list, or the list's length if k is not in it; if `IsNumbering` holds of the list, this is k's vertex number
abbrev pub rank_in : List ℕ → ℕ → ℕ
rank_in [] k = 0
rank_in (x ∷ xs) k = cond (x == k) 0 (suc (rank_in xs k))
