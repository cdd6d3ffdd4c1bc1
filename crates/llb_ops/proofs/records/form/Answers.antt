use Rattle.std.proofs.Common.{Some, sym, ap, ◌∙◌, option_map}
use Rattle.llb_ops.specs.Table.{form_of_kind}
use Rattle.llb_ops.proofs.FieldReadingForms.{form_found}
use Rattle.llb_ops.proofs.records.form.Goals as goal

pub returns-in-Some : goal.returns-in-Some
returns-in-Some c = ap (λ x. Some x) c.form.ensures ∙ ap (option_map (λ r. form_of_kind r.field.kind)) (sym c.in-Some.is)
    ∙ form_found c.args.message c.args.number c.field_numbered.result c.field_numbered.ensures

pub returns-in-None : goal.returns-in-None
returns-in-None c = ap (option_map (λ r. form_of_kind r.field.kind)) (sym c.in-None.is)
    ∙ form_found c.args.message c.args.number c.field_numbered.result c.field_numbered.ensures
