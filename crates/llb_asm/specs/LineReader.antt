-- How the code reads lines, one after another, with the messages that are open. Only the code and its proofs use this file.
use Rattle.std.specs.Prelude.{◌≡◌, ℕ, ◌+◌, Bool, List, [], ◌∷◌, ◌++◌, length, Option, Some, None, Result, Ok, Err, option_map, reverse, if◌then◌else◌}
use Rattle.llb_wire.specs.CallResults.{◌>>=◌}
use Rattle.llb_ops.specs.declared.table.MessageName.TheVariants as named
use Rattle.llb_ops.specs.Writing.{set_bytes}
use Rattle.llb_asm.specs.declared.fault.AsmFault.{AsmFault}
use Rattle.llb_asm.specs.declared.fault.AsmFault.TheVariants as fault
use Rattle.llb_asm.specs.declared.fault.Rule.TheVariants.{Unclosed}
use Rattle.llb_asm.specs.declared.line.Refusal.{Refusal}
use Rattle.llb_asm.specs.declared.line.Refusal.TheVariants.{Breaks, UnknownLabel}
use Rattle.llb_asm.specs.declared.line.Here.{Here}
use Rattle.llb_asm.specs.declared.line.Held.{Held}
use Rattle.llb_asm.specs.declared.line.Held.TheVariants.{Record, Opens}
use Rattle.llb_asm.specs.declared.line.Item.{Item}
use Rattle.llb_asm.specs.declared.entry.Begun.{Begun}
use Rattle.llb_asm.specs.declared.entry.Begun.TheVariants.{Raw, Structured}
use Rattle.llb_asm.specs.declared.open_op.Frame.{Frame}
use Rattle.llb_asm.specs.declared.open_op.Open.{Open}
use Rattle.llb_asm.specs.declared.open_op.Closed.{Closed}
use Rattle.llb_asm.specs.declared.open_op.Closed.TheVariants.{Whole, Still}
use Rattle.llb_wire.specs.TextComparison.{is_text}
use Rattle.llb_asm.specs.ItemLines.{Line}
use Rattle.llb_asm.specs.EntryLine.{inside}
use Rattle.llb_asm.specs.TextGrammar.{Hand, closing, record_length, is_within, item_at, begun_in, entry_in, labels_of}

-- ---- an op that is open

-- an op that is open: the context (`Here`) of the next line in the current (innermost) message, this message's bytes so far, messages around it, from inside
pub record OpenOp : Type 0 where
  pub here : Here
  pub bytes : List ℕ
  pub below : List Frame

-- the value of an op that is open (the code's `Open`): of the messages around the current one, the code has the innermost last, this value has it first
abbrev pub open_op_of : Open → OpenOp
open_op_of s = record { here = s.here; bytes = s.bytes; below = reverse s.below }

-- an op at its start: the message `Op` is current, has no bytes yet, and is in no other message
abbrev pub at_front : OpenOp
at_front = record { here = inside named.Op; bytes = []; below = [] }

-- whether the entry's size passes the test `room` (it is within the limits), if the message inside these open messages has `size` bytes and all are then closed
abbrev pub room_in : (ℕ → Bool) → List Frame → ℕ → Bool
room_in room [] size = room size
room_in room (f ∷ below) size = room_in room below (length f.bytes + record_length f.number size)

-- what is known of the current message of an op that is not closed yet (`Hand`); `room` says whether an entry of a given size is within the limits
abbrev pub hand_of : (ℕ → Bool) → OpenOp → Hand
hand_of room s = record { here = s.here; bytes = s.bytes; room = room_in room s.below }

-- the open op after a line that adds `held`; `next` is the context of the next line of the same message (what came before it there: `Here`)
abbrev pub with_held : OpenOp → Here → Held → OpenOp
with_held s next (Record bytes) = record { here = next; bytes = s.bytes ++ bytes; below = s.below }
with_held s next (Opens number sub) = record { here = inside sub; bytes = []; below = record { here = next; number = number; bytes = s.bytes } ∷ s.below }

-- the open op after this item: the item's record is added to the current message, or the message that the item opens becomes the current one
abbrev pub with_item : OpenOp → Item → OpenOp
with_item s i = with_held s i.next i.held

-- the state after the current message ends: the op is complete, with the bytes of its records; or it is still open, and the next message outward is current
pub data Ending : Type 0 where
  whole : List ℕ → Ending
  still : OpenOp → Ending

-- the state after the current message ends, given the bytes of this message and the messages around it
abbrev pub closing_on : List ℕ → List Frame → Ending
closing_on bytes [] = whole bytes
closing_on bytes (f ∷ below) = still (record { here = f.here; bytes = f.bytes ++ set_bytes f.number bytes; below = below })

-- the state after the current message of an open op ends
abbrev pub closing_of : OpenOp → Ending
closing_of s = closing_on s.bytes s.below

-- the state after a closing line, given as the `Closed` that the code returns
abbrev pub ended : Closed → Ending
ended (Whole bytes) = whole bytes
ended (Still s) = still (open_op_of s)

-- ---- the text

-- how far the text was read: the entries that are complete, and the open op, if an op is open
pub record Progress : Type 0 where
  pub earlier : List (List ℕ)
  pub current : Option OpenOp

-- the progress between two entries: the earlier entries are complete, and no op is open
abbrev pub between : List (List ℕ) → Progress
between earlier = record { earlier = earlier; current = None }

-- the progress inside an op: the earlier entries are complete, and this op is open
abbrev pub amid : List (List ℕ) → OpenOp → Progress
amid earlier s = record { earlier = earlier; current = Some s }

-- the progress after the line that begins an entry: a raw entry is complete after this line; an op is open after this line, and has no items yet
abbrev pub with_begun : List (List ℕ) → Begun → Progress
with_begun earlier (Raw bytes) = between (earlier ++ bytes ∷ [])
with_begun earlier Structured = amid earlier at_front

-- the progress that the code keeps as two values: the entries that are complete, and the open op, if one is open
abbrev pub progress_of : List (List ℕ) → Option Open → Progress
progress_of earlier current = record { earlier = earlier; current = option_map open_op_of current }

-- the progress after a line, made from the result of the code's call for this line; or the refusal of the line
abbrev pub progresses : List (List ℕ) → Result (Option Open) Refusal → Result Progress Refusal
progresses earlier (Ok current) = Ok (progress_of earlier current)
progresses earlier (Err e) = Err e

-- the progress after a message with these bytes ends; but if this message is the op itself, and the op's entry is refused, this refusal
abbrev pub closed_on : List (List ℕ) → List ℕ → List Frame → Result Progress Refusal
closed_on earlier bytes [] = entry_in earlier bytes >>= λ entry. Ok (between (earlier ++ entry ∷ []))
closed_on earlier bytes (f ∷ below) = Ok (amid earlier (record { here = f.here; bytes = f.bytes ++ set_bytes f.number bytes; below = below }))

-- the progress after a line inside an op, or why the line is refused: `}` ends the current message, and any other line adds an item to that message
abbrev pub step_in : List (List ℕ) → OpenOp → List ℕ → Result Progress Refusal
step_in earlier s line =
    if is_text line closing then closed_on earlier s.bytes s.below
    else (item_at (labels_of earlier) (hand_of (is_within earlier) s) line >>= λ i. Ok (amid earlier (with_item s i)))

-- the progress after a line, or why the line is refused; if no op is open, the line begins an entry; else it is a line inside the open op
abbrev pub step_on : List (List ℕ) → Option OpenOp → List ℕ → Result Progress Refusal
step_on earlier None line = begun_in earlier line >>= λ b. Ok (with_begun earlier b)
step_on earlier (Some s) line = step_in earlier s line

-- the progress after one more line, or why that line is refused
abbrev pub step_of : Progress → List ℕ → Result Progress Refusal
step_of p line = step_on p.earlier p.current line

-- the result after the last line, number n: the entries, or `Unclosed` if an op is open
abbrev pub finish : ℕ → List (List ℕ) → Option OpenOp → Result (List (List ℕ)) (ℕ × Refusal)
finish n earlier None = Ok earlier
finish n earlier (Some s) = Err (n, Breaks Unclosed)

-- the final result, given the progress after line n or that line's refusal: what `go`, which reads the later lines, makes of the progress; or n and the refusal
abbrev pub next : ℕ → (Progress → Result (List (List ℕ)) (ℕ × Refusal)) → Result Progress Refusal → Result (List (List ℕ)) (ℕ × Refusal)
next n go (Ok p) = go p
next n go (Err e) = Err (n, e)

-- the result of reading these lines after this progress: all entries, or the first refusal with the number of its line. `last` is the number of the line
-- before these lines, or 0 if there is none. An op that is open after all lines is refused with the number of the last line.
unfoldable pub run_from : ℕ → Progress → List Line → Result (List (List ℕ)) (ℕ × Refusal)
run_from last p [] = finish last p.earlier p.current
run_from last p (l ∷ lines) = next l.0 (λ q. run_from l.0 q lines) (step_of p l.1)

-- a call returns this result, or it fails for want of memory
abbrev pub GivesEntries : Result (List (List ℕ)) AsmFault → Result (List (List ℕ)) (ℕ × Refusal) → Type 0
GivesEntries (Ok entries) r = r ≡ Ok entries
GivesEntries (Err (fault.Line n rule)) r = r ≡ Err (n, Breaks rule)
GivesEntries (Err (fault.UnknownLabel n)) r = r ≡ Err (n, UnknownLabel)
GivesEntries (Err fault.Memory) r = Unit {0}
GivesEntries (Err fault.Write) r = ⊥

-- these entries if the call succeeded; else the fault of the call
abbrev pub reached : List (List ℕ) → Result (Unit {0}) AsmFault → Result (List (List ℕ)) AsmFault
reached entries (Ok u) = Ok entries
reached entries (Err f) = Err f

-- the fault that the code returns if line n is refused with this refusal
abbrev pub fault_at : ℕ → Refusal → AsmFault
fault_at n (Breaks rule) = fault.Line n rule
fault_at n UnknownLabel = fault.UnknownLabel n
