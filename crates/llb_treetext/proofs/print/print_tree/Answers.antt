-- A line more is written, or the writing stops in it or after it.
use Rattle.std.proofs.Common.{ℕ, List, sym, subst, ap, ◌∙◌, ◌++◌, drop, refl}
use Rattle.std.specs.Io.KnownBytes.{Appends}
use Rattle.std.proofs.KnownBytes.{Appends-trans}
use Rattle.llb_tree.specs.Tree.{Entry}
use Rattle.llb_tree.specs.PathEntries.{seen}
use Rattle.llb_treetext.specs.TreeText.{line_of, lines_of, tree_text}
use Rattle.llb_treetext.specs.CallResults.{is_refused_memory}
use Rattle.llb_treetext.specs.declared.fault.PrintFault.TheVariants.{Memory}
use Rattle.llb_treetext.proofs.TextsOfLines.{advanced, line_done, all_done, stops_inside, stops_between}
use Rattle.llb_treetext.proofs.print.print_tree.Goals as goal

pub returns-in_err-print_line-clause-prints : goal.returns-in_err-print_line-clause-prints
returns-in_err-print_line-clause-prints g c =
    let (done, before, parts, same) = c.loop-path.invariant in
    let row : List (List ℕ) × Entry = (c.in-Some.path.now, seen c.in-Some.entry) in
    let failed = g.W.Sink.failed c.print_line.new.out in
    let first = g.W.Sink.taken c.args.out.now in
    let taken = g.W.Sink.taken c.loop-path.out in
    let stopped = g.W.Sink.taken c.print_line.new.out in
    stops_inside line_of (tree_text c.args.tree.now) done c.loop-path.walk parts is_refused_memory first taken before failed
    c.in_err-print_line.field-0.0 stopped row c.in-Some.ensures c.in_err-print_line.ensures.prints c.from_residual.result c.from_residual.ensures.1

pub returns-then-is_err-clause-prints : goal.returns-then-is_err-clause-prints
returns-then-is_err-clause-prints g c =
    let (done, before, parts, same) = c.loop-path.invariant in
    let row : List (List ℕ) × Entry = (c.in-Some.path.now, seen c.in-Some.entry) in
    let first = g.W.Sink.taken c.args.out.now in
    let later = g.W.Sink.taken c.print_line.new.out in
    let out = Appends-trans first (g.W.Sink.taken c.loop-path.out) later done (line_of row) before c.in_ok-print_line.ensures.prints in
    let more = line_done line_of (tree_text c.args.tree.now) done c.loop-path.walk parts row c.in-Some.ensures in
    stops_between line_of (tree_text c.args.tree.now) (done ++ line_of row) (drop 1 c.loop-path.walk) more is_refused_memory first later out
    (g.W.Sink.failed c.print_line.new.out) Memory refl

pub loop-path-preserved : goal.loop-path-preserved
loop-path-preserved g c =
    let (done, before, parts, same) = c.loop-path.invariant in
    let row : List (List ℕ) × Entry = (c.in-Some.path.now, seen c.in-Some.entry) in
    let first = g.W.Sink.taken c.args.out.now in
    let later = g.W.Sink.taken c.print_line.new.out in
    let out = Appends-trans first (g.W.Sink.taken c.loop-path.out) later done (line_of row) before c.in_ok-print_line.ensures.prints in
    let more = line_done line_of (tree_text c.args.tree.now) done c.loop-path.walk parts row c.in-Some.ensures in
    let fine = sym c.is_err.ensures.value ∙ c.if-is_err.false in
    let next = advanced c.advance.result (drop 1 c.loop-path.walk) c.advance.new.self c.advance.ensures.gives fine in
    (done ++ line_of row, out, more ∙ ap (λ es. (done ++ line_of row) ++ lines_of es) (sym next), c.in_ok-print_line.ensures.same ∙ same)

pub returns-clause-prints : goal.returns-clause-prints
returns-clause-prints g c =
    let (done, before, parts, same) = c.loop-path.invariant in
    let whole = all_done line_of (tree_text c.args.tree.now) done c.loop-path.walk parts c.in_default.ensures in
    subst (Appends (g.W.Sink.taken c.args.out.now) (g.W.Sink.taken c.loop-path.out)) (sym whole) before
