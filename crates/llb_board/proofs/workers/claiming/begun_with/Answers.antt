use Rattle.std.proofs.Common.{◌≡◌, List, map, sym, ap, ◌∙◌}
use Rattle.std.specs.Prelude.{Ok}
use Rattle.llb_tree.specs.Tree.{TreeMap}
use Rattle.llb_model.specs.TwoCacheModels.{asked}
use Rattle.llb_model.specs.Outcome.{inputs_from}
use Rattle.llb_model.specs.Program.{workspace_on}
use Rattle.llb_model.specs.State.{ending_at}
use Rattle.llb_model.specs.Table.{Job, Claimed}
use Rattle.llb_board.specs.CacheNeeds.{first_tree, need_of, number_of, place_found}
use Rattle.llb_board.specs.ClaimPreparation.{outfit_as}
use Rattle.llb_board.proofs.ClaimParts.{Parts, AreParts, put_together, begun_of, supplied, workable}
use Rattle.llb_board.proofs.workers.claiming.begun_with.Goals as goal
use Rattle.llb_board.proofs.workers.claiming.begun_with.Goals.{After-new-instances}

parts : goal.After-new-instances → Parts
parts c =
    record {
      view = c.in_ok-view.view;
      own = c.in_ok-own.own;
      places = c.in_ok-places.places.items;
      instances = c.new-instances.result;
      trees = c.new-trees.result;
      needs = c.in_ok-needs.needs.items;
      outfit = outfit_as c.in_ok-outfit.outfit;
    }

are_parts : (c : goal.After-new-instances) → AreParts c.args.vertices.now.build c.args.vertex.now c.args.wanted.now c.in_ok-inputs.inputs.items (parts c)
unfolding parts
are_parts c =
    let x = c.args.vertex.now in
    let view : workspace_on c.args.vertices.now.build.locals x x.op.kind c.in_ok-inputs.inputs.items ≡ c.in_ok-view.view
    = ap (λ locals. workspace_on locals x x.op.kind c.in_ok-inputs.inputs.items) (sym c.locals.ensures) ∙ sym c.in_ok-view.ensures in
    let ws = c.args.wanted.now in
    let trees = c.in_ok-inputs.inputs.items in
    let placed : c.in_ok-places.places.items ≡ map place_found ws = c.in_ok-places.ensures in
    let numbered : c.new-instances.result ≡ map number_of (map place_found ws)
    = c.new-instances.ensures ∙ c.in_ok-instances.ensures ∙ ap (map number_of) (c.deref.ensures.value ∙ placed) in
    let first : c.new-trees.result ≡ map (first_tree trees) ws
    = c.new-trees.ensures ∙ c.in_ok-trees.ensures ∙ ap (λ (ts : List TreeMap). map (first_tree ts) ws) c.deref-2.ensures.value in
    let asks : c.in_ok-needs.needs.items ≡ asked trees (map need_of ws)
    = c.in_ok-needs.ensures ∙ ap (λ (ts : List TreeMap). asked ts (map need_of ws)) c.deref-3.ensures.value in
    record {
      view = view;
      own = view ∙ sym c.in_ok-own.ensures;
      taking = λ i. (sym placed i, sym numbered i, sym first i, sym asks i);
      outfit = sym c.in_ok-outfit.ensures;
    }

pub returns-clause-gives : goal.returns-clause-gives
unfolding parts
returns-clause-gives c caches found =
    let p = (goal.at.returns-clause-gives c).After-new-instances in
    begun_of c.args.vertices.now.build caches c.args.at.0 c.args.at.1 c.args.vertex.now
    (inputs_from (ending_at c.args.vertices.now.statuses) c.args.vertex.now.inputs) c.in_ok-inputs.inputs.items c.args.wanted.now (parts p) found
    c.requires.wanted c.in_ok-inputs.ensures (are_parts p)
    ∙ ap (λ (j : Job). Ok (record (put_together c.args.at.0 c.args.at.1 (parts p)) { reply = Claimed j })) (sym c.new-job.ensures)

pub returns-clause-supplies : goal.returns-clause-supplies
unfolding parts
returns-clause-supplies c =
    let p = (goal.at.returns-clause-supplies c).After-new-instances in
    supplied c.args.vertices.now.build c.args.vertex.now c.args.wanted.now c.in_ok-inputs.inputs.items (parts p) c.requires.wanted (are_parts p)

pub new-job-requires : goal.new-job-requires
unfolding parts
new-job-requires c =
    workable c.args.vertices.now.build c.args.vertex.now c.args.wanted.now c.in_ok-inputs.inputs.items (parts c) c.requires.wanted (are_parts c)
    c.requires.few
