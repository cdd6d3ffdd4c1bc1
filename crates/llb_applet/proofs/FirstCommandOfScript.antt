-- The first command of a script always runs.
use Rattle.std.proofs.Common.{◌≡◌, ℕ, ◌+◌, List, [], ◌∷◌, ◌++◌, Option, Some, None, Result, Ok, Err, refl, map, slice_index_or}
use Rattle.std.specs.Prelude.{Bool, true, false, if◌then◌else◌}
use Rattle.llb_wire.specs.CallResults.{◌>>=◌}
use Rattle.llb_applet.specs.declared.fault.ScriptFault.{ScriptFault}
use Rattle.llb_applet.specs.declared.command.Command.{Command}
use Rattle.llb_applet.specs.declared.joined_commands.Join.{Join}
use Rattle.llb_applet.specs.declared.joined_commands.Join.TheVariants.{Then}
use Rattle.llb_applet.specs.declared.joined_commands.Joined.{Joined}
use Rattle.llb_applet.specs.Words.{Call, join_of, first_call, at_word, calls_from, calls_of, bad_place_of, words_of}
use Rattle.llb_applet.specs.Calls.{command_of}
use Rattle.llb_applet.specs.Scripts.{joined, commands_of, commands_unless, commands_in, is_shell, script_of, BeginsWithThen}

-- the first of these calls has this join
abbrev BeginsWith : Join → List Call → Type 0
BeginsWith join [] = ⊥
BeginsWith join (call ∷ calls) = call.join ≡ join

-- a result's commands, if it has any, begin with one that always runs
abbrev pub BothBegin : Result (List Joined) ScriptFault → Type 0
BothBegin (Ok commands) = BeginsWithThen commands
BothBegin (Err e) = Unit {0}

-- the first call of words has the join of the call that has begun
begins_from : (words : List (List ℕ)) (join : Join) (call : List (List ℕ)) → BeginsWith join (calls_from words join call)
begins_from [] join call = refl
begins_from (word ∷ words) join call = by_join (join_of word) (begins_from words join (call ++ word ∷ []))
  where
    by_join : (next : Option Join) → BeginsWith join (calls_from words join (call ++ word ∷ []))
        → BeginsWith join (at_word join call word next (λ next begun. calls_from words next begun))
    by_join (Some next) rest = refl
    by_join None rest = rest

-- the commands of calls begin as the calls do
begins_commands : (number : ℕ) (calls : List Call) → BeginsWith Then calls → BothBegin (commands_of number calls)
begins_commands number [] begins = absurd begins
begins_commands number (call ∷ calls) begins = by_command (command_of number call.words)
  where
    by_rest : (c : Command) (rest : Result (List Joined) ScriptFault) → BothBegin (rest >>= λ cs. Ok (joined call.join c ∷ cs))
    by_rest c (Ok cs) = begins
    by_rest c (Err e) = tt

    by_command : (made : Result Command ScriptFault)
        → BothBegin (made >>= λ c. commands_of (number + 1) calls >>= λ cs. Ok (joined call.join c ∷ cs))
    by_command (Ok c) = by_rest c (commands_of (number + 1) calls)
    by_command (Err e) = tt

-- the commands of a text begin with one that always runs
begins_unless : (place : Option ℕ) (text : List ℕ) → BothBegin (commands_unless place text)
begins_unless (Some place) text = tt
begins_unless None text = begins_commands 0 (calls_of text) (begins_from (map (λ w. w.bytes) (words_of text)) Then [])

-- the commands of arguments begin with one that always runs
pub begins_script : (args : List (List ℕ)) → BothBegin (script_of args)
begins_script args = by_shell (is_shell args)
  where
    by_shell : (b : Bool)
        → BothBegin (if b then commands_in (slice_index_or args 2 []) else commands_of 0 (first_call args ∷ []))
    by_shell true = begins_unless (bad_place_of (slice_index_or args 2 [])) (slice_index_or args 2 [])
    by_shell false = begins_commands 0 (first_call args ∷ []) refl
