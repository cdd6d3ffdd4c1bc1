use Rattle.std.proofs.Common.{arith}
use Rattle.llb_model.specs.EventBounds.{still_to_come}
use Rattle.llb_board.proofs.RecordedRunStates.{consistent}
use Rattle.llb_progress.specs.Progress.{all_events}
use Rattle.llb_progress.proofs.BoundedRuns.{comes_nearer, few_to_come, ends_within, longest_are_complete}
use Rattle.llb_progress.proofs.laws.ends_whatever_comes.Goals as goal

pub returns : goal.returns
returns c =
    let b = c.args.board.now in
    let graph = c.is_graph.ensures in
    let here = consistent b c.replays.ensures.run in
    let some = c.has_workers.ensures.some in
    let few = few_to_come b.build b.state here in
    record {
      nearer = comes_nearer b.build b.state;
      few = few;
      ends = ends_within b.build graph (still_to_come b.build b.state) b.state here some (omega arith);
      within = ends_within b.build graph (all_events b.build) b.state here some few.most;
      longest = longest_are_complete b.build graph b.state here some;
    }
