-- What a handle holds, and how a call changes what the handle holds.
use Rattle.std.specs.Prelude.{◌≡◌, ℕ, true, if◌then◌else◌, List, [], Option, None, Some}
use Rattle.llb_embed.specs.declared.handle_value.Held.{Held}
use Rattle.llb_embed.specs.declared.handle.Llb.{Llb}
use Rattle.llb_embed.specs.KeptPointer.{IsKept}

-- the value that a handle holds, if there is one
abbrev pub held_in : Llb → Option Held
held_in h = if h.is_set then h.kept.value else None

-- if the flag `is_set` of the handle is true, the handle's pointer has a value
abbrev pub IsSound : Llb → Type 0
IsSound h = h.is_set ≡ true → IsKept h.kept.value

-- a value without local trees, session, output and messages
pub record IsEmpty (h : Held) : Type 0 where
  pub locals : h.locals ≡ []
  pub session : h.session ≡ None
  pub lines : h.lines ≡ 0
  pub output : h.output.items ≡ []
  pub messages : h.messages.items ≡ []

-- a call starts with the value that the handle holds, or with an empty value if the handle holds no value
abbrev pub StartsWith : Option Held → Held → Type 0
StartsWith None start = IsEmpty start
StartsWith (Some h) start = start ≡ h

-- A call changes the value that the handle holds as the relation `Leads` says. Or the handle held no value, and memory for an empty value was refused: then
-- the status is 3, and the handle still holds no value.
abbrev pub Calls : (Held → Held → ℕ → Type 0) → Option Held → Option Held → ℕ → Type 0
Calls Leads old None status = (status ≡ 3) × (old ≡ None)
Calls Leads old (Some new) status = (start : Held) × StartsWith old start × Leads start new status

-- the output of the last call (`output_in`) and its messages (`messages_in`); both are empty if the handle holds nothing
abbrev pub output_in : Option Held → List ℕ
output_in None = []
output_in (Some h) = h.output.items

abbrev pub messages_in : Option Held → List ℕ
messages_in None = []
messages_in (Some h) = h.messages.items
