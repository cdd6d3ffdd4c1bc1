use Rattle.std.proofs.Common.{◌∙◌, ap, refl, inl}
use Rattle.llb_loader.specs.LocalSources.{with_local}
use Rattle.llb_embed.proofs.handle_calls.local.Goals as goal

pub returns-in-Ok-add_local : goal.returns-in-Ok-add_local
returns-in-Ok-add_local c =
    let rest = c.clear.ensures.rest in
    let (tree, reads, is) = c.in-Ok-add_local.ensures in
    let before = ap (λ h. with_local h.locals c.in-Ok.name.now tree) rest in
    let named = ap (λ n. with_local c.args.held.now.locals n tree) c.in-Ok.ensures.cases.0 in
    (ap (λ h. h.session) rest, ap (λ h. h.lines) rest, c.clear.ensures.output, inl (refl, c.clear.ensures.messages, (tree, reads, is ∙ before ∙ named)))
