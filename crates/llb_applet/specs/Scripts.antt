-- The script that arguments are read as: the commands of the text after `/bin/sh -c`, or else the command of one call.
use Rattle.std.specs.Prelude.{◌≡◌, ℕ, ◌+◌, ◌==◌, Bool, ◌&&◌, if◌then◌else◌, List, [], ◌∷◌, length, slice_index_or, Option, Some, None, Result, Ok, Err, codes}
use Rattle.llb_wire.specs.CallResults.{◌>>=◌}
use Rattle.llb_applet.specs.declared.fault.ScriptFault.{ScriptFault}
use Rattle.llb_applet.specs.declared.fault.ScriptFault.TheVariants.{ShellSyntax}
use Rattle.llb_applet.specs.declared.command.Command.{Command}
use Rattle.llb_applet.specs.declared.joined_commands.Join.{Join}
use Rattle.llb_applet.specs.declared.joined_commands.Join.TheVariants.{Then}
use Rattle.llb_applet.specs.declared.joined_commands.Joined.{Joined}
use Rattle.llb_applet.specs.Applets.{spells}
use Rattle.llb_applet.specs.Words.{Call, first_call, bad_place_of, calls_of}
use Rattle.llb_applet.specs.Calls.{command_of}

-- a command with its join, which says by the last status whether the command runs
abbrev pub joined : Join → Command → Joined
joined join command = record { join = join; command = command }

-- the commands of calls, the first of which has number `number`, or the fault of the first call that makes no command
abbrev pub commands_of : ℕ → List Call → Result (List Joined) ScriptFault
commands_of number [] = Ok []
commands_of number (call ∷ calls) =
    command_of number call.words >>= λ c. commands_of (number + 1) calls >>= λ cs. Ok (joined call.join c ∷ cs)

-- the commands of a text, given its first bad position, if any: `ShellSyntax` with this position; else the commands of the text's calls, or their first fault
abbrev pub commands_unless : Option ℕ → List ℕ → Result (List Joined) ScriptFault
commands_unless (Some place) text = Err (ShellSyntax place)
commands_unless None text = commands_of 0 (calls_of text)

-- the commands of a text, or its first fault
abbrev pub commands_in : List ℕ → Result (List Joined) ScriptFault
commands_in text = commands_unless (bad_place_of text) text

-- whether arguments are `/bin/sh`, `-c` and one text
abbrev pub is_shell : List (List ℕ) → Bool
is_shell args = (length args == 3) && spells (codes "/bin/sh") (slice_index_or args 0 []) && spells (codes "-c") (slice_index_or args 1 [])

-- the commands that arguments are read as: the commands of the text after `/bin/sh -c`; for other arguments, the command of the call with these words
abbrev pub script_of : List (List ℕ) → Result (List Joined) ScriptFault
script_of args = if is_shell args then commands_in (slice_index_or args 2 []) else commands_of 0 (first_call args ∷ [])

-- the list has a first command, and that command always runs
abbrev pub BeginsWithThen : List Joined → Type 0
BeginsWithThen [] = ⊥
BeginsWithThen (first ∷ commands) = first.join ≡ Then
