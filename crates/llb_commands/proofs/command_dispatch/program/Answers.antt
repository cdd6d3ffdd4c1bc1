use Rattle.std.proofs.Common.{List, [], Ok, Err, inl, inr, subst}
use Rattle.std.proofs.KnownBytes.{Keeps-refl}
use Rattle.llb_commands.specs.Sources.{Gathers}
use Rattle.llb_commands.specs.declared.command_line_words.Local.{Local}
use Rattle.llb_commands.proofs.command_dispatch.program.Goals as goal

pub returns-in-Err : goal.returns-in-Err
returns-in-Err g c =
    inl (record {
      fault = c.in-Err.refusal.fault;
      page = c.in-Err.refusal.page.now;
      refused = c.in-Err.ensures.refuses.0;
      asked = c.in-Err.ensures.refuses.1;
      none = Keeps-refl (g.W.Write.contents c.args.streams.now.out);
      told = c.tell_refusal.ensures;
    })

pub returns-in-Ok-locals_of : goal.returns-in-Ok-locals_of
returns-in-Ok-locals_of g c =
    let locals = c.in-Ok-locals_of.locals in
    inr (record {
      line = c.in-Ok.line;
      taken = c.in-Ok.ensures.refuses;
      says = c.in-Ok.ensures.says;
      does = inr (record {
        locals = locals;
        gathered =
            subst (λ (ls : List Local). Gathers (g.S.Sources.bytes c.args.sources.now) ls [] (Ok locals)) c.as_slice.ensures c.in-Ok-locals_of.ensures;
        done = c.perform.ensures;
      });
    })

pub returns : goal.returns
returns g c =
    let fault = c.in-Err-locals_of.fault in
    inr (record {
      line = c.in-Ok.line;
      taken = c.in-Ok.ensures.refuses;
      says = c.in-Ok.ensures.says;
      does = inl (record {
        fault = fault;
        gathered =
            subst (λ (ls : List Local). Gathers (g.S.Sources.bytes c.args.sources.now) ls [] (Err fault)) c.as_slice.ensures c.in-Err-locals_of.ensures;
        none = Keeps-refl (g.W.Write.contents c.args.streams.now.out);
        told = c.source_refusal.ensures;
      });
    })
