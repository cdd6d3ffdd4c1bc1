-- Record by record: each field's text, and at last the extra bytes.
use Rattle.std.proofs.Common.{◌≡◌, ◌<◌, ◌^◌, sym, ◌∙◌, ap, subst, Some, None, length, arith}
use Rattle.std.specs.Prelude.{OnOk, option_map}
use Rattle.llb_ops.specs.Table.{row_seen, row_numbered}
use Rattle.llb_asm.proofs.PrintingInvariant.{left_extra, left_none, goes_on, number_arm, held_arm, message_arm, numeric_kind, held_kind}
use Rattle.llb_asm.proofs.print.+push_fields.Goals as goal
use Rattle.llb_asm.proofs.print.+push_fields.Goals.{in-Message+in_ok-push_opening-in-Message+in_ok-push_fields-in-Message+in_ok-push_closing-in-Message}
use Rattle.llb_asm.proofs.print.+push_fields.Goals.{in-String+in_ok-push_held_line-in-String, in-Int64+in_ok-push_number_line-in-Int64}

pub returns : goal.returns
returns t c =
    left_none c.args.labels.now c.args.depth c.args.message c.args.bytes.now c.loop-front.rest.now c.loop-front.out.items c.args.out.now.items
    c.loop-front.invariant
    (let b = c.requires in omega (arith, b)) c.in_default.ensures.found

pub returns-in_default-field_numbered : goal.returns-in_default-field_numbered
returns-in_default-field_numbered t c = λ last set fs are is.
    let small : length c.args.bytes.now < 2 ^ 64 = (let b = c.requires in omega (arith, b)) in
    let none : row_numbered c.args.message c.in-Some.front.number ≡ None =
    sym c.field_numbered.ensures ∙ ap (λ o. option_map row_seen o) c.in_default-field_numbered.is in
    subst (λ x. OnOk c.push_extra.result (c.push_extra.new.out.items ≡ x))
    (left_extra c.args.labels.now c.args.depth c.args.message c.args.bytes.now c.loop-front.rest.now c.loop-front.out.items c.args.out.now.items
    (Some c.in-Some.front)
    c.loop-front.invariant small (c.in-Some.ensures.found, none) last set fs are is)
    c.push_extra.ensures

pub loop-front-preserved : goal.loop-front-preserved
loop-front-preserved t c =
    let row = c.in-Some-field_numbered.row in
    let small : length c.args.bytes.now < 2 ^ 64 = (let b = c.requires in omega (arith, b)) in
    let named : row_numbered c.args.message c.in-Some.front.number ≡ Some (row_seen row) =
    sym c.field_numbered.ensures ∙ ap (λ o. option_map row_seen o) c.in-Some-field_numbered.is in
    goes_on c.args.labels.now c.args.depth c.args.message c.args.bytes.now c.loop-front.rest.now c.loop-front.out.items c.args.out.now.items
    c.match-row.out.items
    c.in-Some.front (row_seen row) c.loop-front.invariant small c.in-Some.ensures.found named c.in-Some.ensures.shorter
    (λ text later. elim c.match-row.branch [
      | in-Message+in_ok-push_opening-in-Message+in_ok-push_fields-in-Message+in_ok-push_closing-in-Message w ↦
          message_arm c.args.labels.now c.args.depth w.in-Message.inner (row_seen row) c.in-Some.front.value c.in-Some.front.payload.now c.loop-front.out.items
          w.push_opening.new.out.items w.push_fields.new.out.items c.match-row.out.items text later w.in-Message.is
          w.in_ok-push_opening-in-Message.ensures w.in_ok-push_fields-in-Message.ensures (ap (λ v. v.items) w.out-is ∙ w.in_ok-push_closing-in-Message.ensures)
      | in-String+in_ok-push_held_line-in-String w ↦
          held_arm c.args.labels.now c.args.depth (row_seen row) c.in-Some.front.value c.in-Some.front.payload.now c.loop-front.out.items
          c.match-row.out.items text later
          (held_kind row.field.kind w.in-String.is) (λ fits. ap (λ v. v.items) w.out-is ∙ w.in_ok-push_held_line-in-String.ensures fits)
      | in-Int64+in_ok-push_number_line-in-Int64 w ↦
          number_arm c.args.labels.now c.args.depth (row_seen row) c.in-Some.front.value c.in-Some.front.payload.now c.loop-front.out.items
          c.match-row.out.items text later
          (numeric_kind row.field.kind w.in-Int64.is) (ap (λ v. v.items) w.out-is ∙ w.in_ok-push_number_line-in-Int64.ensures)
    ])
