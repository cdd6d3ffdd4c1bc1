use Rattle.std.proofs.Common.{subst}
use Rattle.llb_loader.specs.UniqueResult.{HasOneAnswerIn}
use Rattle.llb_board.specs.BoardValue.{Replays}
use Rattle.llb_commands.proofs.SameEntriesSameOutput.{loads_as_one}
use Rattle.llb_commands.proofs.ReachedStates as always
use Rattle.llb_commands.proofs.laws.aim.Goals as goal

pub returns : goal.returns
returns c accepted = record {
  some_workers = c.has_workers.ensures.some;
  few_workers = c.has_workers.ensures.few;
  replays = c.replays.ensures.run;
  replies = c.replies_are_recorded.ensures;
  locked_once = always.locked_once c.args.graph.now;
  plain = always.plain c.args.graph.now c.is_graph.ensures;
  one_graph = loads_as_one c.args.text.now c.args.definition.now c.args.entries.now c.args.graph.now c.one_answer.ensures
      (subst HasOneAnswerIn c.as_slice.ensures c.one_answer_in.ensures) c.definition_is_read_again.ensures c.is_bytes.ensures accepted.loaded;
  stepper_state = subst Replays c.board-stepped.ensures c.replays-2.ensures.run;
  stepper_past = c.past_is_the_records.ensures;
  stepper_lines = c.record_is_the_run.ensures;
  session_lines = c.go_prints_the_run.ensures;
  record_replays = c.replay_is_the_run.ensures.leads;
  stepper_replays = c.replay_is_the_run.ensures.lines;
}
