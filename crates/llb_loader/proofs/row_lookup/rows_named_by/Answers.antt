use Rattle.std.proofs.Common.{ℕ, ◌++◌, List, [], ◌∷◌, sym, ◌∙◌, ap}
use Rattle.llb_ops.specs.declared.op.Input.{Input}
use Rattle.std.specs.List.{filter_map}
use Rattle.std.proofs.lemmas.List.{take_all}
use Rattle.llb_loader.specs.RowLookup.{row_named}
use Rattle.llb_loader.proofs.InputRowCollection.{filter_map_some, filter_map_none}
use Rattle.llb_loader.proofs.row_lookup.rows_named_by.Goals as goal
use Rattle.llb_loader.proofs.row_lookup.rows_named_by.Goals.{in-Some+in_ok-push, in_default}

pub loop-input-preserved : goal.loop-input-preserved
loop-input-preserved c =
    let h = λ (i : Input). row_named c.args.rows.now c.args.terminal i.digest in
    elim c.match-row_near.branch [
      | in-Some+in_ok-push w ↦ rw w.named-is (w.in_ok-push.ensures.items ∙ ap (λ (xs : List ℕ). xs ++ w.in-Some.row ∷ []) c.loop-input.invariant
          ∙ sym (filter_map_some h c.as_slice-input-items.result.now c.loop-input.input-index c.input-item.result w.in-Some.row
          c.loop-input-test.true c.input-item.is (sym c.row_near.ensures ∙ w.in-Some.is)))
      | in_default w ↦ rw w.named-is (c.loop-input.invariant
          ∙ sym (filter_map_none h c.as_slice-input-items.result.now c.loop-input.input-index c.input-item.result c.loop-input-test.true
          c.input-item.is (sym c.row_near.ensures ∙ w.in_default.is)))
    ]

pub returns : goal.returns
returns c =
    let h = λ (i : Input). row_named c.args.rows.now c.args.terminal i.digest in
    c.loop-input.invariant ∙ ap (λ (xs : List Input). filter_map h xs)
    (take_all c.loop-input.input-index c.as_slice-input-items.result.now c.loop-input-test.false)
    ∙ ap (λ (xs : List Input). filter_map h xs) c.as_slice-input-items.ensures
