use Rattle.std.proofs.Common.{◌∙◌, ℕ, List, [], Some, subst, ap}
use Rattle.llb_loader.specs.LocalSources.{Local}
use Rattle.llb_commands.specs.ProgramOutput.{Runs}
use Rattle.llb_embed.proofs.handle_calls.run.Goals as goal

pub returns : goal.returns
returns c =
    let call = c.run_over in
    let Does : List Local → List ℕ → List ℕ → Type 0 = λ locals out err. Runs 1 locals (record {
      input = record { before = Some c.args.definition.now; after = Some call.new.input.now };
      output = record { before = Some out; after = Some call.new.out.items };
      errors = record { before = Some err; after = Some call.new.err.items };
    }) call.result in
    let held = c.clear.new.held in
    let rest = c.clear.ensures.rest in
    let same = c.in-Ok.ensures ∙ ap (λ h. h.locals) rest in
    let ran = subst (λ ls. Does ls held.output.items held.messages.items) same call.ensures in
    let locals = c.args.held.now.locals in
    let written = subst (λ out. Does locals out []) c.clear.ensures.output (subst (Does locals held.output.items) c.clear.ensures.messages ran) in
    ((ap (λ h. h.locals) rest, ap (λ h. h.session) rest, ap (λ h. h.lines) rest), (Some call.new.input.now, written))
