use Rattle.std.proofs.Common.{◌<◌, ℕ, List, length, sym, ◌∙◌, ap, arith}
use Rattle.std.proofs.lemmas.List.{length-map}
use Rattle.std.specs.Global.{Vec}
use Rattle.llb_loader.specs.ReachedRows.{inputs}
use Rattle.llb_loader.specs.RowLookup.{rows_named}
use Rattle.llb_loader.proofs.OpAndInputReads.{op_read}
use Rattle.llb_loader.proofs.InputRowPlaces.{graph_at}
use Rattle.llb_loader.proofs.RowReadsAndMarks.{inputs_at}
use Rattle.llb_loader.proofs.reached_row_checks.check_names.Goals as goal

pub unnamed_in-requires-clause-named : goal.unnamed_in-requires-clause-named
unnamed_in-requires-clause-named c =
    let a = length-map c.args.links.now (λ (r : Vec ℕ). r.items) in
    let b = length-map c.args.ops.now (rows_named c.args.rows.now c.args.terminal) in
    let d = ap (λ (xs : List (List ℕ)). length xs) c.requires.links in
    let h = c.loop-k-test.true in
    let here : c.loop-k.k < length c.args.links.now = omega (arith, a, b, d, h) in
    c.as_slice.ensures.value
    ∙ sym (inputs_at c.args.links.now c.loop-k.k c.index-links-k.result here c.index-links-k.is)
    ∙ ap (λ (g : List (List ℕ)). inputs g c.loop-k.k) c.requires.links
    ∙ graph_at c.args.rows.now c.args.terminal c.args.ops.now c.loop-k.k
    ∙ ap (rows_named c.args.rows.now c.args.terminal) (op_read c.args.ops.now c.loop-k.k c.index-ops-k.result c.loop-k-test.true c.index-ops-k.is)
