-- A vertex of a loaded graph has the digest text and the op of an entry, so vertices with one digest have one op.
use Rattle.std.proofs.Common.{◌≡◌, ℕ, ◌<◌, List, [], length, get_or, Some, Result, Ok, sym, ap, ◌∙◌, arith}
use Rattle.std.specs.Prelude.{slice_get}
use Rattle.std.specs.List.{Contains}
use Rattle.std.proofs.lemmas.List.{get_or-map, length-map}
use Rattle.std.proofs.lemmas.List.Elements.{Contains-get_or}
use Rattle.std.proofs.lemmas.Option.{get_or_from_slice_get}
use Rattle.llb_wire.specs.Digest.{digest_text}
use Rattle.llb_ops.specs.declared.op.Op.{Op}
use Rattle.llb_ops.specs.declared.fault.OpFault.{OpFault}
use Rattle.llb_ops.specs.Messages.{op_of}
use Rattle.llb_loader.specs.declared.row.Row.{Row}
use Rattle.llb_loader.specs.declared.graph.Vertex.{Vertex}
use Rattle.llb_loader.specs.RowLookup.{row_at}
use Rattle.llb_loader.specs.Graph.{Numbered, IsGraph}
use Rattle.llb_loader.specs.GraphOfRows.{plan_of, vertex_of, GraphOf}
use Rattle.llb_loader.specs.GraphOfRowsResult.{IsGraphOf}
use Rattle.llb_loader.specs.LoadResult.{rows_from}
use Rattle.llb_loader.proofs.PlanRefusals.{reached_in}
use Rattle.llb_laws.specs.Digests.{LoadWithoutCollision}
use Rattle.llb_model.proofs.Lists.{some_of, got_within}

-- a vertex has the digest text of one of the entries, and the op that the entry spells
pub record IsEntryOf (entries : List (List ℕ)) (v : Vertex) : Type 0 where
  pub bytes : List ℕ
  pub among : Contains entries bytes
  pub digest : v.digest ≡ digest_text bytes
  pub op : op_of bytes ≡ Ok v.op

-- the row of an entry
unfoldable pub row_from : List ℕ → Row
row_from bytes = record { digest = digest_text bytes; bytes = bytes }

-- a vertex has a place in the order
low_of : (rows : List Row) (ops : List Op) (g : Numbered) (made : GraphOf rows ops g) (k : ℕ) (v : Vertex) → slice_get g.vertices k ≡ Some v
    → k < length made.order
low_of rows ops g made k v there =
    let count = ap (λ (n : Numbered). length n.vertices) made.graph in
    let mapped = length-map made.order (vertex_of (plan_of rows ops) made.order) in
    let inside = got_within g.vertices k v there in
    omega (arith, inside, count, mapped)

-- a vertex is made from the row at its place in the order
pub vertex_is : (rows : List Row) (ops : List Op) (g : Numbered) (made : GraphOf rows ops g) (k : ℕ) (v : Vertex) → slice_get g.vertices k ≡ Some v
    → v ≡ vertex_of (plan_of rows ops) made.order (get_or made.order k 0)
vertex_is rows ops g made k v there =
    let p = plan_of rows ops in
    let vertices = ap (λ (n : Numbered). n.vertices) made.graph in
    let low = low_of rows ops g made k v there in
    sym (get_or_from_slice_get g.vertices k v v there) ∙ ap (λ (vs : List Vertex). get_or vs k v) vertices
    ∙ get_or-map (vertex_of p made.order) made.order k 0 v low

pub entry_of : (entries : List (List ℕ)) (g : Numbered) → IsGraphOf (rows_from entries) g → (k : ℕ) (v : Vertex) → slice_get g.vertices k ≡ Some v
    → IsEntryOf entries v
unfolding row_from
entry_of entries g (ops, are, made) k v there =
    let p = plan_of (rows_from entries) ops in
    let r = get_or made.order k 0 in
    let low = low_of (rows_from entries) ops g made k v there in
    let is : v ≡ vertex_of p made.order r = vertex_is (rows_from entries) ops g made k v there in
    let reached = (made.whole.valid.supported.ordered.numbering.each k low).ready.reached in
    let row = reached_in p made.whole.valid.supported.ordered.named.started r reached in
    let rows = length-map entries row_from in
    let entry : r < length entries = omega (arith, row, rows) in
    let at : row_at (rows_from entries) r ≡ row_from (get_or entries r []) = get_or-map row_from entries r [] (record { digest = []; bytes = [] }) entry in
    record {
      bytes = get_or entries r [];
      among = Contains-get_or entries r [] entry;
      digest = ap (λ (x : Vertex). x.digest) is ∙ ap (λ (x : Row). x.digest) at;
      op = sym (ap (λ (x : Row). op_of x.bytes) at) ∙ are.each r row ∙ ap (λ (x : Vertex). Ok x.op) (sym is);
    }

-- vertices with one digest have one op
abbrev pub HaveOneOpEach : Numbered → Numbered → Type 0
HaveOneOpEach g h = (v w : ℕ) (x y : Vertex) → slice_get g.vertices v ≡ Some x → slice_get h.vertices w ≡ Some y → x.digest ≡ y.digest → x.op ≡ y.op

pub ok_inside : (x y : Op) → ◌≡◌ {A = Result Op OpFault} (Ok x) (Ok y) → x ≡ y
ok_inside x y e = cc

-- where definitions do not collide, this holds of their graphs
pub one_op_each : (d e : List ℕ) (g h : Numbered) → LoadWithoutCollision d g e h → HaveOneOpEach g h
one_op_each d e g h loaded v w x y first second same =
    let a = entry_of loaded.first.0 g loaded.first.2 v x first in
    let b = entry_of loaded.second.0 h loaded.second.2 w y second in
    let bytes = loaded.apart loaded.first.0 loaded.second.0 loaded.first.1 loaded.second.1 a.bytes b.bytes a.among b.among (sym a.digest ∙ same ∙ b.digest) in
    ok_inside x.op y.op (sym a.op ∙ ap op_of bytes ∙ b.op)

-- a graph and itself have one op each (`HaveOneOpEach`)
pub one_op_alone : (g : Numbered) → IsGraph g → HaveOneOpEach g g
one_op_alone g graph v w x y first second same =
    let at : v ≡ w = graph.distinct v w x (got_within g.vertices v x first) (got_within g.vertices w y second)
    (ap (λ (z : Vertex). z.digest) (get_or_from_slice_get g.vertices v x x first) ∙ same
    ∙ sym (ap (λ (z : Vertex). z.digest) (get_or_from_slice_get g.vertices w y x second))) in
    let found : some_of x ≡ some_of y = sym first ∙ ap (slice_get g.vertices) at ∙ second in
    let is : x ≡ y = cc in
    ap (λ (z : Vertex). z.op) is
