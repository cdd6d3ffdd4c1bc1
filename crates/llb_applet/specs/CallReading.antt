-- The state while calls are read from a text: what is known of the current call, and the result that follows from this state and the remaining words.
use Rattle.std.specs.Prelude.{◌≡◌, ℕ, ◌==◌, true, false, if◌then◌else◌, List, [], ◌∷◌, ◌++◌, length, Result, Ok, Err, slice_index_or}
use Rattle.llb_wire.specs.CallResults.{◌>>=◌}
use Rattle.llb_applet.specs.declared.fault.ScriptFault.{ScriptFault}
use Rattle.llb_applet.specs.declared.joined_commands.Join.TheVariants.{Then}
use Rattle.llb_applet.specs.declared.joined_commands.Joined.{Joined}
use Rattle.llb_applet.specs.declared.script.Reading.{Reading}
use Rattle.llb_applet.specs.declared.call.Begun.{Begun}
use Rattle.llb_applet.specs.CallResults.{is_memory, names_word}
use Rattle.llb_applet.specs.Words.{calls_from}
use Rattle.llb_applet.specs.Calls.{command_of}
use Rattle.llb_applet.specs.Scripts.{joined, commands_of}

-- a list of one word, the text between two spaces; or the empty list if this text is empty
abbrev pub some_word : List ℕ → List (List ℕ)
some_word part = if length part == 0 then [] else part ∷ []

-- these commands, followed by the commands of a result; or the fault of that result
abbrev pub behind : List Joined → Result (List Joined) ScriptFault → Result (List Joined) ScriptFault
behind commands rest = rest >>= λ more. Ok (commands ++ more)

-- the commands, or the fault, of a whole text, given the state after some of its words are read, and the words that remain
abbrev pub ahead : Reading → List (List ℕ) → Result (List Joined) ScriptFault
ahead reading words = behind reading.commands.items (commands_of (length reading.commands.items) (calls_from words reading.join reading.words.items))

-- the commands so far, followed by the command of the current call; or the fault of this call
abbrev pub with_call : Reading → Result (List Joined) ScriptFault
with_call reading = command_of (length reading.commands.items) reading.words.items >>= λ c. Ok (reading.commands.items ++ joined reading.join c ∷ [])

-- a step that succeeds does not change what the reading will return in the end; a step that fails has the fault that the reading would return, or `Memory`
abbrev pub Reads : Result (Unit {0}) ScriptFault → Result (List Joined) ScriptFault → Result (List Joined) ScriptFault → Type 0
Reads (Ok _) before after = before ≡ after
Reads (Err e) before after = is_memory e ≡ false → before ≡ Err e

-- a result without its value: success, or the fault
abbrev pub verdict : {A : Type 0} → Result A ScriptFault → Result (Unit {0}) ScriptFault
verdict (Ok x) = Ok tt
verdict (Err e) = Err e

-- `begun` has what is needed to check a call: how many words the call has, and its first two words (an empty word for one that is missing)
pub record IsBegun (call : List (List ℕ)) (begun : Begun) : Type 0 where
  pub counted : begun.count ≡ length call
  pub named : begun.name.now ≡ slice_index_or call 0 []
  pub option : begun.first.now ≡ slice_index_or call 1 []

-- success, or the first fault among the current call and the later calls, given the current call's number and words and the words that remain of the text
abbrev pub judged : ℕ → List (List ℕ) → List (List ℕ) → Result (Unit {0}) ScriptFault
judged number call words = verdict (commands_of number (calls_from words Then call))

-- the fault `e` is the rule's fault; or `e` is `Memory`, and the rule's fault is `NoApplet`, whose word needs memory
pub record Refuses (e : ScriptFault) (rule : Result (Unit {0}) ScriptFault) : Type 0 where
  pub known : is_memory e ≡ false → rule ≡ Err e
  pub last : is_memory e ≡ true → names_word rule ≡ true

-- `part`, what is between two spaces, is checked; this succeeds, and the text's first fault stays the same, or fails with this fault or `Memory` (`Refuses`)
abbrev pub Judges : Result (Unit {0}) ScriptFault → List ℕ → List (List ℕ) → Begun → Begun → Type 0
Judges (Ok _) part call old new = (next : List (List ℕ)) × IsBegun next new
    × ((rest : List (List ℕ)) → judged old.number call (some_word part ++ rest) ≡ judged new.number next rest)
Judges (Err e) part call old new = (rest : List (List ℕ)) → Refuses e (judged old.number call (some_word part ++ rest))

-- the check of a whole call succeeds, and the call makes a command; or the check fails with the call's fault, or with `Memory` (see `Refuses`)
abbrev pub JudgesCall : Result (Unit {0}) ScriptFault → ℕ → List (List ℕ) → Type 0
JudgesCall (Ok _) number call = verdict (command_of number call) ≡ Ok tt
JudgesCall (Err e) number call = Refuses e (verdict (command_of number call))
