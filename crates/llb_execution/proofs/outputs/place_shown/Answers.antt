use Rattle.std.proofs.Common.{◌≡◌, ◌++◌, ◌∷◌, length, ap, sym, ◌∙◌, rules, [], vec_len}
use Rattle.std.specs.Prelude.{slice_get}
use Rattle.std.proofs.lemmas.List.{map-append}
use Rattle.llb_mount.specs.declared.shown_tree.Shown.{Shown}
use Rattle.llb_loader.specs.Rules.{mount_outputs}
use Rattle.llb_execution.specs.Outputs.{placed_by}
use Rattle.std.proofs.lemmas.List.{length-map}
use Rattle.llb_execution.proofs.OutputPlaces.{trees_of, placed_start, placed_next, placed_end, no_items, shown_end}
use Rattle.llb_execution.proofs.outputs.place_shown.Goals as goal

pub loop-shown-init : goal.loop-shown-init
loop-shown-init c = placed_start (mount_outputs c.args.given.now) (trees_of c.args.mounts.items) c.args.outputs.items c.requires

pub loop-shown-preserved : goal.loop-shown-preserved
loop-shown-preserved c =
    let given = mount_outputs c.args.given.now in
    let rest = c.pop.new.self.items in
    let front : trees_of c.loop-shown.mounts.items ≡ trees_of rest ++ c.in-Some.shown.tree ∷ []
    = ap trees_of c.in-Some.ensures.items ∙ map-append (λ (m : Shown). m.tree) rest (c.in-Some.shown ∷ []) in
    let here = rw front at c.loop-shown.invariant in
    let k : c.len.result ≡ length rest = search rules in
    let next : c.place.new.outputs.items ≡ placed_by (slice_get given (length (trees_of rest))) c.in-Some.shown.tree c.loop-shown.outputs.items
    = c.place.ensures ∙ ap (λ t. placed_by c.mount_output.result t c.loop-shown.outputs.items) c.into_tree.ensures
    ∙ ap (λ o. placed_by o c.in-Some.shown.tree c.loop-shown.outputs.items)
    (c.mount_output.ensures ∙ ap (slice_get given) (k ∙ sym (length-map rest (λ (m : Shown). m.tree)))) in
    rw next (placed_next given (trees_of c.args.mounts.items) (length c.args.outputs.items) (trees_of rest) c.in-Some.shown.tree
    c.loop-shown.outputs.items here)

pub returns : goal.returns
returns c =
    let given = mount_outputs c.args.given.now in
    let len : vec_len c.loop-shown.mounts ≡ length c.loop-shown.mounts.items = search rules in
    let empty : c.loop-shown.mounts.items ≡ [] = no_items c.loop-shown.mounts.items (sym len ∙ c.in_default.ensures.cases.0) in
    shown_end given c.args.mounts.items (length c.args.outputs.items) c.loop-shown.outputs.items
    (placed_end given (trees_of c.args.mounts.items) (length c.args.outputs.items) (trees_of c.loop-shown.mounts.items) c.loop-shown.outputs.items
    c.loop-shown.invariant (ap trees_of empty))
