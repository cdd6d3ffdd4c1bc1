-- The lines that a `go` prints are those of the run of the record.
use Rattle.std.proofs.Common.{◌≡◌, ◌∙◌, ◌+◌, ◌≤◌, List, length, take, option_map, Some, ap, arith, length-append, length-drop}
use Rattle.std.proofs.lemmas.List.{length-take}
use Rattle.llb_events.specs.declared.event.Event.{Event}
use Rattle.llb_board.specs.BoardValue.{Replays}
use Rattle.llb_stepper.specs.Records.{record_at, record_text}
use Rattle.llb_stepper.specs.Stepping.{Stepping, timeline}
use Rattle.llb_stepper.proofs.RecordReplies.{reached, ran_on, is_the_run}
use Rattle.llb_session.specs.PrintedTexts.{with_line_end}
use Rattle.llb_session.specs.GoOutput.{GoPrintsTheRun, LinesOfTheRun}

pub go_prints : (s : Stepping) → Replays s.board → GoPrintsTheRun s
go_prints s here text t granted =
    let stop = granted.goes.stop in
    let n = granted.stop.events in
    let es : List Event = take n granted.goes.events in
    let ran = ran_on s.board t.board es here.replies here.leads stop.leads in
    let added : length t.board.events ≡ length s.board.events + length es =
    ap length (reached es s.board t.board stop.leads).events ∙ length-append s.board.events es in
    let few : length es ≤ n = omega (arith, length-take n granted.goes.events) in
    let back = ap length stop.past in
    let dropped = length-drop n (timeline t) in
    let lines : LinesOfTheRun s t = record {
      replies = ran.0;
      runs = ran.1;
      each = λ i e r low at there.
          let told : record_at t i ≡ Some (e, r) =
          (is_the_run t stop.records).complete i e r t.board.state ran.0 ran.1 (omega (arith, low)) (omega (arith, low, added, few, back, dropped)) at there in
          ap (λ o. with_line_end (option_map (record_text t.board.build.graph.vertices i) o)) told;
    } in
    record { lines = lines; printed = granted.lines }
