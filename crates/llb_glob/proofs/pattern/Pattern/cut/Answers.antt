use Rattle.std.proofs.Common.{◌+◌, ◌≤◌, length, Ok, ap, sym, ◌∙◌, subst, drop, append-nil}
use Rattle.std.specs.Str.{chars}
use Rattle.std.proofs.lemmas.Result.{err_from_is_err_and}
use Rattle.std.proofs.lemmas.List.{drop_all}
use Rattle.llb_glob.specs.ItemReading.{behind, items_of}
use Rattle.llb_glob.specs.Pattern.{each_cut}
use Rattle.llb_glob.proofs.ItemsAndPartsSplitting.{behind_none, part_more, part_stops}
use Rattle.llb_glob.proofs.Names.{short_name}
use Rattle.llb_glob.proofs.pattern.Pattern.cut.Goals as goal

pub loop-name-init : goal.loop-name-init
loop-name-init c = ap (λ parts. behind parts (each_cut c.names-name-items.result.now)) c.new-parts.ensures.items ∙ behind_none _

pub read-requires : goal.read-requires
read-requires c = subst (λ name. length name ≤ 255) (sym c.as_str.ensures.value) (short_name _ c.as_str.ensures.name)

pub loop-name-preserved : goal.loop-name-preserved
loop-name-preserved c =
    let names = c.names-name-items.result.now in
    let says = ap (λ name. items_of (chars name)) (sym c.as_str.ensures.value) ∙ c.in_ok-part.ensures in
    let more =
    part_more names c.loop-name.name-index c.name-item.result c.loop-name-test.true c.name-item.is
    c.in_ok-part.part says c.loop-name.parts.items (each_cut names) c.loop-name.invariant in
    ap (λ parts. behind parts (each_cut (drop (c.loop-name.name-index + 1) names))) c.in_ok-push.ensures.items ∙ more

pub returns-in_err-part : goal.returns-in_err-part
returns-in_err-part c =
    let names = c.names-name-items.result.now in
    let p = err_from_is_err_and c.from_residual.result c.from_residual.ensures.1 in
    rw (p.1, p.2) (λ known.
    let says = ap (λ name. items_of (chars name)) (sym c.as_str.ensures.value) ∙ c.in_err-part.ensures known in
    ap each_cut (sym c.names-name-items.ensures.all)
    ∙ part_stops names c.loop-name.name-index c.name-item.result c.loop-name-test.true c.name-item.is
    c.in_err-part.field-0.0 says c.loop-name.parts.items (each_cut names) c.loop-name.invariant)

pub returns : goal.returns
returns c =
    ap each_cut (sym c.names-name-items.ensures.all)
    ∙ sym c.loop-name.invariant
    ∙ ap (λ names. behind c.loop-name.parts.items (each_cut names)) (drop_all c.loop-name.name-index c.names-name-items.result.now c.loop-name-test.false)
    ∙ ap Ok (append-nil c.loop-name.parts.items)
