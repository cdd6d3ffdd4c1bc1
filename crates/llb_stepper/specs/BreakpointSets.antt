-- The breakpoints of a stepper as two sets of vertices (those with a breakpoint at their claims, and those with a breakpoint at their settles) and a flag
-- (whether there is a breakpoint at failures). The vertex of an event is looked up in these sets, so breakpoints are not tried one by one.
use Rattle.std.specs.Prelude.{◌≡◌, ℕ, ◌==◌, ◌||◌, Bool, true, false, List}
use Rattle.std.specs.List.{list_any}
use Rattle.std.specs.Ordering.{nat_cmp}
use Rattle.std.specs.BTreeSet.{contains}
use Rattle.llb_events.specs.declared.event.Event.{Event}
use Rattle.llb_events.specs.declared.event.Event.TheVariants.{Claim, Step, Settle, Cancel}
use Rattle.llb_events.specs.declared.event.Settled.TheVariants as settled
use Rattle.llb_board.specs.declared.board.undoable_event.Reply.{Reply}
use Rattle.llb_board.specs.declared.board.undoable_event.Reply.TheVariants as reply
use Rattle.llb_stepper.specs.declared.breakpoints.Kinds.{Kinds}
use Rattle.llb_stepper.specs.declared.stop.Break.{Break}
use Rattle.llb_stepper.specs.declared.stop.Break.TheVariants as stop

-- whether this is a breakpoint at claims of vertex v
abbrev pub is_at_claims : ℕ → Break → Bool
is_at_claims v (stop.Claims u) = v == u
is_at_claims v (stop.Settles u) = false
is_at_claims v stop.Fails = false

-- whether this is a breakpoint at settles of vertex v
abbrev pub is_at_settles : ℕ → Break → Bool
is_at_settles v (stop.Claims u) = false
is_at_settles v (stop.Settles u) = v == u
is_at_settles v stop.Fails = false

-- whether this is the breakpoint at failures
abbrev pub is_at_failures : Break → Bool
is_at_failures (stop.Claims u) = false
is_at_failures (stop.Settles u) = false
is_at_failures stop.Fails = true

-- the sets have exactly the breakpoints of a list
pub record AreKinds (breaks : List Break) (kinds : Kinds) : Type 0 where
  pub claims : (v : ℕ) → contains nat_cmp kinds.claims v ≡ list_any (is_at_claims v) breaks
  pub settles : (v : ℕ) → contains nat_cmp kinds.settles v ≡ list_any (is_at_settles v) breaks
  pub failures : kinds.failures ≡ list_any is_at_failures breaks

-- the new sets have the breakpoints of the old sets, and also breakpoint b
pub record AreKindsOfOneMore (old : Kinds) (b : Break) (new : Kinds) : Type 0 where
  pub claims : (v : ℕ) → contains nat_cmp new.claims v ≡ (contains nat_cmp old.claims v || is_at_claims v b)
  pub settles : (v : ℕ) → contains nat_cmp new.settles v ≡ (contains nat_cmp old.settles v || is_at_settles v b)
  pub failures : new.failures ≡ (old.failures || is_at_failures b)

-- the new sets have the same breakpoints as the old ones
pub record AreUnchanged (old new : Kinds) : Type 0 where
  pub claims : (v : ℕ) → contains nat_cmp new.claims v ≡ contains nat_cmp old.claims v
  pub settles : (v : ℕ) → contains nat_cmp new.settles v ≡ contains nat_cmp old.settles v
  pub failures : new.failures ≡ old.failures

-- whether an event meets a breakpoint of the sets, whatever the reply to the event is: the event is a claim of a vertex in the set `claims`
abbrev pub is_met_by_event : Kinds → Event → Bool
is_met_by_event kinds (Claim w v) = contains nat_cmp kinds.claims v
is_met_by_event kinds (Step w) = false
is_met_by_event kinds (Settle w) = false
is_met_by_event kinds (Cancel w) = false

-- whether a reply meets a breakpoint of the sets: it is the reply to a settle of a vertex in the set `settles`, or of a failed vertex if `failures` is true
abbrev pub is_met_by_reply : Kinds → Reply → Bool
is_met_by_reply kinds (reply.Settled (settled.Done v)) = contains nat_cmp kinds.settles v
is_met_by_reply kinds (reply.Settled (settled.Failed v)) = kinds.failures || contains nat_cmp kinds.settles v
is_met_by_reply kinds reply.Claimed = false
is_met_by_reply kinds (reply.Stepped s) = false
is_met_by_reply kinds (reply.Cancelled c) = false
