use Rattle.std.proofs.Common.{◌≡◌, ℕ, ◌+◌, ◌<◌, List, [], ◌∷◌, Result, Ok, is_ok, length, get_or, sym, ◌∙◌, ap, subst, arith, false}
use Rattle.std.proofs.lemmas.List.{get_or_read, length-set, length_push}
use Rattle.std.proofs.lemmas.List.Elements.{All-append, All-cons, All-nil}
use Rattle.std.specs.List.{All}
use Rattle.llb_ops.specs.declared.op.Op.{Op}
use Rattle.llb_ops.specs.declared.fault.OpFault.{OpFault}
use Rattle.llb_ops.specs.Messages.{op_of}
use Rattle.llb_ops.specs.OpsWithinLimits.{IsWithinLimits}
use Rattle.llb_loader.specs.declared.fault.LoadFault.{LoadFault}
use Rattle.llb_loader.specs.Faults.{is_memory}
use Rattle.llb_loader.specs.GraphOfRows.{op_at}
use Rattle.llb_loader.proofs.BytesOfRows.{read_push, taken_step, entry_fault}
use Rattle.llb_loader.proofs.op_reading.ops_of.Goals as goal

pub returns-in-Err-clause-refused : goal.returns-in-Err-clause-refused
returns-in-Err-clause-refused c = λ m.
    let h = c.loop-k-test.true in
    let n = c.loop-k.invariant.count in
    let here : c.loop-k.k < length c.loop-k.entries.items = omega (arith, h, n) in
    let entry : get_or c.args.entries.items c.loop-k.k [] ≡ c.as_slice.result.now =
    sym (c.loop-k.invariant.kept c.loop-k.k (omega arith))
    ∙ sym (get_or_read c.loop-k.entries.items c.loop-k.k c.index_mut.result.now here c.index_mut.ensures.value [])
    ∙ sym c.replace-bytes.ensures.value ∙ sym c.as_slice.ensures in
    let f = entry_fault c.loop-k.k c.in-Err.fault (subst (λ (e : LoadFault). is_memory e ≡ false) c.at_row.ensures m) in (
      c.loop-k.k,
      c.in-Err.fault,
      c.at_row.ensures ∙ f.0,
      record {
        here = (let e = c.len-k-end.ensures in omega (arith, h, e));
        fault = ap op_of entry ∙ c.in-Err.ensures.gives f.1;
        before = λ j l. ap (λ (r : Result Op OpFault). is_ok r) (c.loop-k.invariant.each j l);
      },
    )

pub loop-k-preserved : goal.loop-k-preserved
loop-k-preserved c =
    let h = c.loop-k-test.true in
    let n = c.loop-k.invariant.count in
    let here : c.loop-k.k < length c.loop-k.entries.items = omega (arith, h, n) in
    let entry : get_or c.args.entries.items c.loop-k.k [] ≡ c.as_slice.result.now =
    sym (c.loop-k.invariant.kept c.loop-k.k (omega arith))
    ∙ sym (get_or_read c.loop-k.entries.items c.loop-k.k c.index_mut.result.now here c.index_mut.ensures.value [])
    ∙ sym c.replace-bytes.ensures.value ∙ sym c.as_slice.ensures in
    record {
      count = length-set c.loop-k.entries.items c.loop-k.k c.replace-bytes.new.dest ∙ c.loop-k.invariant.count;
      len = ap (λ (xs : List Op). length xs) c.in_ok-push-in-Ok.ensures.items
          ∙ (let p = length_push c.loop-k.ops.items c.in-Ok.op in let l = c.loop-k.invariant.len in omega (arith, p, l));
      each = subst (λ (xs : List Op). (j : ℕ) → j < c.loop-k.k + 1 → op_of (get_or c.args.entries.items j []) ≡ Ok (op_at xs j))
          (sym c.in_ok-push-in-Ok.ensures.items)
          (read_push c.args.entries.items c.loop-k.ops.items c.in-Ok.op c.loop-k.k c.loop-k.invariant.len c.loop-k.invariant.each
          (ap op_of entry ∙ c.in-Ok.ensures.gives));
      within = subst (λ (xs : List Op). All IsWithinLimits xs) (sym c.in_ok-push-in-Ok.ensures.items)
          (All-append IsWithinLimits c.loop-k.ops.items (c.in-Ok.op ∷ []) c.loop-k.invariant.within
          (All-cons IsWithinLimits c.in-Ok.op [] c.in-Ok.ensures.within (All-nil IsWithinLimits)));
      kept = taken_step c.args.entries.items c.loop-k.entries.items c.loop-k.k c.replace-bytes.new.dest c.loop-k.invariant.kept;
    }
