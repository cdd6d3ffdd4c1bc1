use Rattle.std.proofs.Common.{◌++◌, take, sym, ap, ◌∙◌, append_assoc, take-append-drop}
use Rattle.std.proofs.KnownBytes.{Appends-trans}
use Rattle.llb_wire.proofs.sink.write_all.Goals as goal

pub loop-rest-preserved : goal.loop-rest-preserved
loop-rest-preserved g c =
    let (done, split, out, same) = c.loop-rest.invariant in
    let rest = c.loop-rest.rest.now in
    let n = c.in-Ok.n in (
      done ++ take n rest,
      split ∙ ap (λ l. done ++ l) (sym (take-append-drop n rest) ∙ ap (λ l. take n rest ++ l) (sym c.split_at.ensures.back))
          ∙ sym (append_assoc done (take n rest) c.split_at.result.1.now),
      Appends-trans _ _ _ _ _ out c.in-Ok.ensures.takes.4,
      c.in-Ok.ensures.same ∙ same,
    )
