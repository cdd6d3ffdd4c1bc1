use Rattle.std.proofs.Common.{◌≡◌, cond, Some, sym, ◌∙◌}
use Rattle.std.specs.Str.{bytes_eq}
use Rattle.llb_loader.specs.LocalSources.{tree_of_local}
use Rattle.llb_laws.proofs.CopyOrigins.{adds_named}
use Rattle.llb_laws.proofs.kept_outputs.add_tree.Goals as goal

pub returns-clause-yes : goal.returns-clause-yes
returns-clause-yes c =
    let name = c.in-Some.name.now in
    let tree = c.in-Some-tree_for.tree.now in
    let old = c.args.made.now in
    let copied : c.in_ok-copy.field-0 ≡ tree = let e = c.in_ok-copy.ensures in cc in
    let named : c.in_ok-from_str.field-0 ≡ name = c.in_ok-from_str.ensures in
    λ yes. adds_named c.args.board.now c.args.locals.now c.args.kept.now c.args.vertex.now old c.add.new.self name tree
    (sym c.in-Some.ensures) (sym c.in-Some-tree_for.ensures)
    (λ other. c.in_ok-add.ensures.last other ∙ (λ i. cond (bytes_eq (named i) other) (Some (copied i)) (tree_of_local old other)))
