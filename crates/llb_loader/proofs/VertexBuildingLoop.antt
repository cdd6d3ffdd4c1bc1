-- Vertices that are built one after another, while the ops are moved out of their list.
use Rattle.std.proofs.Common.{◌≡◌, ◌≢◌, ℕ, ◌+◌, ◌<◌, ◌≤◌, List, [], ◌∷◌, ◌++◌, None, length, get_or, set, sym, ◌∙◌, subst, arith}
use Rattle.std.proofs.lemmas.List.{get_or_append_left, get_or_push, get_or-set_other}
use Rattle.llb_ops.specs.declared.op.Op.{Op}
use Rattle.llb_loader.specs.declared.row.Row.{Row}
use Rattle.llb_loader.specs.declared.graph.Vertex.{Vertex}
use Rattle.llb_loader.specs.ReachedRows.{inputs}
use Rattle.llb_loader.specs.RowLookup.{row_at}
use Rattle.llb_loader.specs.GraphOfRows.{op_at}
use Rattle.llb_loader.specs.VertexBuilding.{IsBuilt, AreBuilt, vertex_at}
use Rattle.llb_loader.proofs.FirstRowOfDigest.{below_step}

no_vertex : Vertex
no_vertex = record { digest = []; op = record { inputs = []; kind = None; extra = [] }; script = None; inputs = []; steps = 0; outputs = 0 }

-- with the vertex of the next row of the order, one vertex more is built
pub built_push : (rows : List Row) (ops : List Op) (links : List (List ℕ)) (ranks order : List ℕ) (vs : List Vertex) (v : Vertex) (n : ℕ) → length vs ≡ n
    → AreBuilt rows ops links ranks order vs n
    → IsBuilt (row_at rows (get_or order n 0)).digest (op_at ops (get_or order n 0)) (inputs links (get_or order n 0)) ranks v
    → AreBuilt rows ops links ranks order (vs ++ v ∷ []) (n + 1)
unfolding no_vertex
built_push rows ops links ranks order vs v n len old new =
    below_step (λ j. IsBuilt (row_at rows (get_or order j 0)).digest (op_at ops (get_or order j 0)) (inputs links (get_or order j 0)) ranks
    (vertex_at (vs ++ v ∷ []) j)) n
    (λ j l. subst (λ (x : Vertex). IsBuilt (row_at rows (get_or order j 0)).digest (op_at ops (get_or order j 0)) (inputs links (get_or order j 0)) ranks x)
    (sym (get_or_append_left vs (v ∷ []) no_vertex j (omega (arith, l, len)))) (old j l))
    (subst (λ (x : Vertex). IsBuilt (row_at rows (get_or order n 0)).digest (op_at ops (get_or order n 0)) (inputs links (get_or order n 0)) ranks x)
    (sym (get_or_push vs v no_vertex n len)) new)

-- a row is moved out of its list, and later rows stay, as no row is twice in the order
pub rows_kept_step : (first rows : List Row) (order : List ℕ) (n : ℕ) (moved : Row)
    → ((i j : ℕ) → i < length order → j < i → get_or order j 0 ≢ get_or order i 0)
    → ((i : ℕ) → n ≤ i → i < length order → row_at rows (get_or order i 0) ≡ row_at first (get_or order i 0))
    → (i : ℕ) → n + 1 ≤ i → i < length order → row_at (set rows (get_or order n 0) moved) (get_or order i 0) ≡ row_at first (get_or order i 0)
rows_kept_step first rows order n moved once kept i l h =
    get_or-set_other rows (get_or order n 0) (get_or order i 0) moved (record { digest = []; bytes = [] })
    (λ e. once i n h (omega (arith, l)) (sym e))
    ∙ kept i (omega (arith, l)) h

-- an op is moved out of its list, and the ops of later rows stay, as no row is twice in the order
pub kept_step : (first ops : List Op) (order : List ℕ) (n : ℕ) (moved : Op) → ((i j : ℕ) → i < length order → j < i → get_or order j 0 ≢ get_or order i 0)
    → ((i : ℕ) → n ≤ i → i < length order → op_at ops (get_or order i 0) ≡ op_at first (get_or order i 0))
    → (i : ℕ) → n + 1 ≤ i → i < length order → op_at (set ops (get_or order n 0) moved) (get_or order i 0) ≡ op_at first (get_or order i 0)
kept_step first ops order n moved once kept i l h =
    get_or-set_other ops (get_or order n 0) (get_or order i 0) moved (record { inputs = []; kind = None; extra = [] })
    (λ e. once i n h (omega (arith, l)) (sym e))
    ∙ kept i (omega (arith, l)) h
