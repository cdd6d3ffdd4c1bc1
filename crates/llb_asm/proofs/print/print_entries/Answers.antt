-- An entry more is written, or the writing stops in it.
use Rattle.std.proofs.Common.{◌++◌, ◌∷◌, [], ◌+◌, ℕ, List, drop, sym, ap, ◌∙◌, append_assoc}
use Rattle.std.proofs.KnownBytes.{Appends-trans}
use Rattle.llb_wire.specs.Digest.{digest_text}
use Rattle.llb_asm.specs.DisassembledText.{entry_lines, plain_lines, text_of_lines}
use Rattle.llb_asm.specs.PrintedPrefix.{HasBy}
use Rattle.llb_asm.proofs.EntryForms.{Next, next_form, entry_done, stops_inside}
use Rattle.llb_asm.proofs.print.print_entries.Goals as goal

pub returns-in_err-print_entry-clause-prints : goal.returns-in_err-print_entry-clause-prints
returns-in_err-print_entry-clause-prints g c = λ xs are.
    let (done, before, split) = c.loop-entry.invariant.prints xs are in
    let entry : List ℕ = c.entry-item.result in
    let k = c.loop-entry.entry-index in
    let labels = c.loop-entry.labels in
    let text = text_of_lines (plain_lines c.args.labels.now xs) in
    let has = HasBy c.args.wording in
    let next : Next has xs k entry = next_form has c.args.entries.now xs k entry are c.loop-entry-test.true c.entry-item.is in
    stops_inside (g.W.Sink.taken c.args.out.now) (g.W.Sink.taken c.loop-entry.out) (g.W.Sink.taken c.print_entry.new.out)
    (g.W.Sink.failed c.print_entry.new.out) text done (text_of_lines (entry_lines labels entry next.form))
    (text_of_lines (plain_lines (labels ++ digest_text entry ∷ []) (drop (k + 1) xs))) before (entry_done text done labels xs k split has entry next)
    c.in_err-print_entry.field-0.0
    (c.in_err-print_entry.ensures.prints next.form next.has) c.from_residual.result c.from_residual.ensures.1

pub loop-entry-preserved : goal.loop-entry-preserved
loop-entry-preserved g c = record {
  prints = λ xs are.
      let (done, before, split) = c.loop-entry.invariant.prints xs are in
      let entry : List ℕ = c.entry-item.result in
      let k = c.loop-entry.entry-index in
      let labels = c.loop-entry.labels in
      let has = HasBy c.args.wording in
      let next : Next has xs k entry = next_form has c.args.entries.now xs k entry are c.loop-entry-test.true c.entry-item.is in
      let same_labels = sym c.in_ok-print_entry.ensures.labels in
      let line = text_of_lines (entry_lines labels entry next.form) in
      let rest = text_of_lines (plain_lines (labels ++ digest_text entry ∷ []) (drop (k + 1) xs)) in (
        done ++ line,
        Appends-trans (g.W.Sink.taken c.args.out.now) (g.W.Sink.taken c.loop-entry.out) (g.W.Sink.taken c.print_entry.new.out) done line before
            (c.in_ok-print_entry.ensures.prints next.form next.has),
        entry_done (text_of_lines (plain_lines c.args.labels.now xs)) done labels xs k split has entry next ∙ sym (append_assoc done line rest)
            ∙ ap (λ ls. (done ++ line) ++ text_of_lines (plain_lines ls (drop (k + 1) xs))) same_labels,
      );
  same = c.in_ok-print_entry.ensures.same ∙ c.loop-entry.invariant.same;
}
