use Rattle.std.proofs.Common.{inl, inr}
use Rattle.std.proofs.KnownBytes.{Keeps-refl}
use Rattle.std.proofs.lemmas.Result.{err_from_is_err_and}
use Rattle.llb_commands.proofs.RunOutput.{stream}
use Rattle.llb_commands.specs.AssemblyParts.{AreBy}
use Rattle.llb_commands.proofs.EntryTextOutput.{part, whole, unflushed}
use Rattle.llb_commands.proofs.disassembling.disassembled.Goals as goal

pub returns-in-Err : goal.returns-in-Err
returns-in-Err g c =
    let text = c.in-Err.ensures in
    let left = g.R.Read.remaining c.args.input.now in
    inr (
      λ h. h,
      part (AreBy c.args.written) left c.in_ok-entries.entries c.in_ok-entries.ensures text.0 text.1
          (stream (g.W.Write.contents c.args.out.now) (g.W.Write.contents c.text_over.new.out)) text.2,
    )

pub returns-in-Ok-flush : goal.returns-in-Ok-flush
returns-in-Ok-flush g c =
    let text = c.in-Ok.ensures in
    let left = g.R.Read.remaining c.args.input.now in
    whole (AreBy c.args.written) left c.in_ok-entries.entries c.in_ok-entries.ensures text.0 text.1 (g.W.Write.contents c.args.out.now)
    (g.W.Write.contents c.text_over.new.out) (g.W.Write.contents c.flush.new.self) text.2 c.flush.ensures.bytes

pub returns : goal.returns
returns g c =
    let text = c.in-Ok.ensures in
    let left = g.R.Read.remaining c.args.input.now in
    inr (
      λ h. h,
      unflushed (AreBy c.args.written) left c.in_ok-entries.entries c.in_ok-entries.ensures text.0 text.1
          (g.W.Write.contents c.args.out.now) (g.W.Write.contents c.text_over.new.out)
          (g.W.Write.contents c.flush.new.self) text.2 c.flush.ensures.bytes,
    )

pub returns-in_err-entries : goal.returns-in_err-entries
returns-in_err-entries g c =
    let p = err_from_is_err_and c.from_residual.result c.from_residual.ensures.1 in
    rw (p.1, p.2) (inl (Keeps-refl (g.W.Write.contents c.args.out.now), c.in_err-entries.ensures))
