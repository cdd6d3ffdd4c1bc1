use Rattle.std.proofs.Common.{◌≡◌, ◌<◌, [], List, Bool, Some, cond, false, length, position, slice_index_or, sym, ap, ◌∙◌, arith}
use Rattle.std.specs.Prelude.{◌==◌, is_some}
use Rattle.std.specs.Map.{keys_of, lookup}
use Rattle.std.proofs.lemmas.List.{get_or_default}
use Rattle.llb_cache.specs.declared.key.Key.{Key}
use Rattle.llb_cache.specs.Key.{same_key}
use Rattle.llb_cache.proofs.MarksByRow.{remarked, unmarked}
use Rattle.llb_cache.proofs.taken_instances.unmark.Goals as goal

pub returns-in-Some-clause-marks : goal.returns-in-Some-clause-marks
returns-in-Some-clause-marks c =
    let es = c.args.rows.now.entries.items in
    let marks = c.args.marks.now.items in
    let at : position (same_key c.args.place.now.key) (keys_of es) ≡ Some c.in-Some.i =
    ap (λ (k : Key). position (same_key k) (keys_of es)) (sym c.by_ref.ensures) ∙ sym c.row_of.ensures.at ∙ c.in-Some.is in
    let within = c.in-Some.ensures.within in
    let count = c.requires.each in
    let below : c.in-Some.i < length marks = omega (arith, within, count) in
    let old = c.index_mut.ensures.value ∙ get_or_default marks c.in-Some.i c.index_mut.result.now [] below in
    remarked es marks c.args.place.now c.in-Some.i c.clear.new.self false at below
    (λ k. c.clear.ensures k ∙ ap (λ (m : List Bool). cond (k == c.args.place.now.number) false (slice_index_or m k false)) old)

pub returns-in_default-clause-marks : goal.returns-in_default-clause-marks
returns-in_default-clause-marks c =
    let es = c.args.rows.now.entries.items in
    unmarked es c.args.marks.now.items c.args.place.now
    (c.in_default.ensures.found ∙ ap (λ (k : Key). is_some (lookup (same_key k) es)) c.by_ref.ensures)
