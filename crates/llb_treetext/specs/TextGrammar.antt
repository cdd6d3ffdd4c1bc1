-- Which texts are texts of trees, and the first fault of any other text. These definitions do not depend on how the code reads a text.
use Rattle.std.specs.Prelude.{◌≡◌, ◌≢◌, ℕ, ◌+◌, Bool, true, false, List, [], ◌∷◌, ◌++◌, length, Result, Ok, Err, MatchResult, ◌⊎◌}
use Rattle.std.specs.Ordering.{is_lt}
use Rattle.std.specs.FinMap as finite
use Rattle.llb_tree.specs.Path.{path_cmp}
use Rattle.llb_tree.specs.ModeAndOwner.{MetaValue}
use Rattle.llb_tree.specs.Tree.{Entry, Dir, TreeMap, IsAllowedAt, IsTree, walk}
use Rattle.llb_treetext.specs.TreeText.{line_of, lines_of, tree_text}
use Rattle.llb_treetext.specs.CallResults.{is_memory}
use Rattle.llb_treetext.specs.declared.fault.TextFault.{TextFault}
use Rattle.llb_treetext.specs.declared.fault.TextFault.TheVariants.{BadLine, Order, NoParent, Memory}

-- an entry that can be on a line: it is valid at its path, and at the root it is a directory
pub record IsRow (row : List (List ℕ) × Entry) : Type 0 where
  pub allowed : IsAllowedAt row.0 row.1
  pub root : row.0 ≡ [] → (m : MetaValue) × (row.1 ≡ Dir m)

-- the bytes are the text of a tree
pub record IsText (bytes : List ℕ) (t : TreeMap) : Type 0 where
  pub tree : IsTree t
  pub text : bytes ≡ tree_text t

-- the list is empty, or has all entries of a tree in path order
abbrev pub AreBefore : List (List (List ℕ) × Entry) → Type 0
AreBefore rows = (rows ≡ []) ⊎ ((t : TreeMap) × IsTree t × (rows ≡ finite.entries t))

-- whether a path may be on the line after the lines of some entries: the root if there are no entries; else a path that comes after the last entry's path
abbrev pub comes_next : List (List (List ℕ) × Entry) → List (List ℕ) → Bool
comes_next [] [] = true
comes_next [] (n ∷ p) = false
comes_next (r ∷ []) p = is_lt (path_cmp r.0 p)
comes_next (r ∷ s ∷ rows) p = comes_next (s ∷ rows) p

-- a text begins with the line of this entry
abbrev pub Begins : List ℕ → List (List ℕ) × Entry → Type 0
Begins text row = IsRow row × ((later : List ℕ) × (text ≡ line_of row ++ later))

-- the first fault of the line after the lines of some entries: the line is not the line of an entry; or its path does not come after the path of the
-- last entry; or one of the parents of its path is no directory
abbrev pub IsFault : List (List (List ℕ) × Entry) → List ℕ → TextFault → Type 0
IsFault rows rest (BadLine n) = (n ≡ length rows + 1) × ((row : List (List ℕ) × Entry) → ¬ Begins rest row)
IsFault rows rest (Order n) = (n ≡ length rows + 1) × ((row : List (List ℕ) × Entry) × Begins rest row × (comes_next rows row.0 ≡ false))
IsFault rows rest (NoParent n) = (n ≡ length rows + 1)
    × ((row : List (List ℕ) × Entry) × Begins rest row × (comes_next rows row.0 ≡ true) × (walk (λ q. finite.find path_cmp q rows) row.0 ≢ Ok tt))
IsFault rows rest Memory = ⊥

-- `rows` is empty or the entries of a tree; the text begins with the lines of `rows`, and the next line (in an empty text, line 1) has this fault
pub record Stops (bytes : List ℕ) (e : TextFault) : Type 0 where
  pub rows : List (List (List ℕ) × Entry)
  pub rest : List ℕ
  pub before : AreBefore rows
  pub split : bytes ≡ lines_of rows ++ rest
  pub more : rest ≡ [] → rows ≡ []
  pub fault : IsFault rows rest e

-- the result of reading a text: the tree, or the first fault of the text; the fault `Memory` is possible for any text
abbrev pub Answers : List ℕ → Result TreeMap TextFault → Type 0
Answers bytes (Ok t) = IsText bytes t
Answers bytes (Err e) = is_memory e ≡ false → Stops bytes e

-- a reading fails with `Memory` only if the text is the text of a tree, so `Memory` is reported last
abbrev pub MemoryIsLast : List ℕ → Result TreeMap TextFault → Type 0
MemoryIsLast bytes (Ok t) = Unit {0}
MemoryIsLast bytes (Err e) = is_memory e ≡ true → (t : TreeMap) × IsText bytes t

-- a text is the text of at most one tree, and has at most one first fault; the text of a tree has no first fault
pub record HasOneAnswer (bytes : List ℕ) : Type 0 where
  pub trees : (t u : TreeMap) → IsText bytes t → IsText bytes u → t ≡ u
  pub apart : (t : TreeMap) (e : TextFault) → IsText bytes t → ¬ Stops bytes e
  pub faults : (e d : TextFault) → Stops bytes e → Stops bytes d → e ≡ d

-- the text of a tree is read as the tree; the only other result is the fault `Memory`
abbrev pub ReadsBack : TreeMap → Type 0
ReadsBack t = (r : Result TreeMap TextFault) → Answers (tree_text t) r → MatchResult r (λ u. u ≡ t) (λ e. is_memory e ≡ true)
