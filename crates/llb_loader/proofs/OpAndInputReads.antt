-- What the code reads of ops and of their inputs.
use Rattle.std.proofs.Common.{◌≡◌, ℕ, ◌<◌, List, [], pos, None, length, get_or, sym, ◌∙◌, ap}
use Rattle.std.proofs.lemmas.List.{get_or_read}
use Rattle.llb_ops.specs.declared.op.Op.{Op}
use Rattle.llb_ops.specs.declared.op.Input.{Input}
use Rattle.llb_loader.specs.GraphOfRows.{op_at, input_at}

-- what is read at place k of the ops is op k
pub op_read : (ops : List Op) (k : ℕ) (x : Op) → k < length ops → x ≡ get_or ops k x → op_at ops k ≡ x
op_read ops k x h e = sym (get_or_read ops k x h e (record { inputs = []; kind = None; extra = [] }))

-- what is read at place i of an op's inputs is its input i
pub input_read : (op : Op) (xs : List Input) (i : ℕ) (x : Input) → xs ≡ op.inputs → i < length xs → x ≡ get_or xs i x → input_at op i ≡ x
input_read op xs i x same h e =
    ap (λ (ys : List Input). get_or ys i (record { digest = []; index = pos 0; extra = [] })) (sym same)
    ∙ sym (get_or_read xs i x h e (record { digest = []; index = pos 0; extra = [] }))
