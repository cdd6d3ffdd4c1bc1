-- What a call leaves in its handle.
use Rattle.std.proofs.Common.{◌≡◌, sym, subst, ap, ℕ, List, [], Option, Some}
use Rattle.std.specs.Prelude.{Vec}
use Rattle.std.specs.Global.{Global}
use Rattle.llb_commands.specs.CallStreams.{Io}
use Rattle.llb_embed.specs.Handle.{StartsWith, Calls}
use Rattle.llb_embed.specs.HandleCalls.{EndsBy}
use Rattle.llb_embed.specs.declared.handle_value.Held.{Held}

-- a call takes out the value that it starts with, works on it, and puts it back
pub calls : (Leads : Held → Held → ℕ → Type 0) (old out : Option Held) (start lent new : Held) (status : ℕ)
    → StartsWith old start → lent ≡ start → Leads lent new status → out ≡ Some new → Calls Leads old out status
calls Leads old out start lent new status starts same leads is =
    subst (λ h. Calls Leads old h status) (sym is) (lent, subst (StartsWith old) (sym same) starts, leads)

-- a command that writes to a cleared output and to cleared messages leaves the rest as it was
pub ends_cleared : (Ends : Io → ℕ → Type 0) (bytes rest : List ℕ) (old cleared : Held) (output messages : Vec ℕ Global) (status : ℕ)
    → cleared ≡ record old { output = cleared.output; messages = cleared.messages } → cleared.output.items ≡ [] → cleared.messages.items ≡ []
    → Ends (record {
      input = record { before = Some bytes; after = Some rest };
      output = record { before = Some cleared.output.items; after = Some output.items };
      errors = record { before = Some cleared.messages.items; after = Some messages.items };
    }) status
    → EndsBy Ends bytes old (record cleared { output = output; messages = messages }) status
ends_cleared Ends bytes rest old cleared output messages status same no_output no_messages ends =
    let Does : List ℕ → List ℕ → Type 0 = λ out err. Ends (record {
      input = record { before = Some bytes; after = Some rest };
      output = record { before = Some out; after = Some output.items };
      errors = record { before = Some err; after = Some messages.items };
    }) status in
    let written = subst (λ out. Does out []) no_output (subst (Does cleared.output.items) no_messages ends) in
    ((ap (λ h. h.locals) same, ap (λ h. h.session) same, ap (λ h. h.lines) same), (Some rest, written))
