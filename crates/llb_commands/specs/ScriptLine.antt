-- What is written for a script that is in no definition yet: the line of its fault, if it has one.
use Rattle.std.specs.Prelude.{◌≡◌, ◌⊎◌, ℕ, List, [], ◌∷◌, Option, Some, None, Result, Ok, Err, IsOk, codes}
use Rattle.llb_applet.specs.CallResults.{script_text}
use Rattle.llb_applet.specs.Scripts.{script_of}
use Rattle.llb_applet.specs.declared.fault.ScriptFault.{ScriptFault}
use Rattle.llb_commands.specs.CallStreams.{Stream, IsKept, IsPartWritten, IsWritten}
use Rattle.llb_commands.specs.Faults.{fault_line}
use Rattle.llb_commands.specs.Running.{IsRefusal}
use Rattle.llb_commands.specs.declared.fault.ProgramFault.{ProgramFault}

-- the arguments of an exec that runs a text
abbrev pub shell_words : List ℕ → List (List ℕ)
shell_words text = codes "/bin/sh" ∷ codes "-c" ∷ text ∷ []

-- the text is a script if there is no fault; else it is refused with this fault
abbrev pub IsFaultOfScript : List ℕ → Option ScriptFault → Type 0
IsFaultOfScript text None = IsOk (script_of (shell_words text))
IsFaultOfScript text (Some f) = script_of (shell_words text) ≡ Err f

-- the line of the fault of a script
abbrev pub script_line : ScriptFault → List ℕ
script_line f = fault_line (script_text f)

-- the text is refused with a fault, and its line is written, and nothing else
abbrev pub WritesFault : List ℕ → Stream → Type 0
WritesFault text output = (f : ScriptFault) × IsFaultOfScript text (Some f) × IsWritten output (script_line f)

-- the text is refused with a fault; a prefix of its line is written, and no more
abbrev pub WritesPart : List ℕ → Stream → Type 0
WritesPart text output = (f : ScriptFault) × IsFaultOfScript text (Some f) × IsPartWritten output (script_line f)

-- the line of this fault is written; or there is a fault, which is no refusal, and at most a prefix of the line is written
abbrev pub PrintsFault : ScriptFault → Stream → Result (Unit {0}) ProgramFault → Type 0
PrintsFault f output (Ok u) = IsWritten output (script_line f)
PrintsFault f output (Err e) = (¬ IsRefusal e) × (IsKept output ⊎ IsPartWritten output (script_line f))

-- How the call for a script ends. Status 0: the text is a script, and nothing is written. 2: the line of its fault is written to the output, and nothing else.
-- 3: a write or memory failed; nothing is written, or a prefix of the line.
abbrev pub Judges : List ℕ → Stream → Stream → ℕ → Type 0
Judges text output errors status =
    ((status ≡ 0) × IsKept errors × IsKept output × IsFaultOfScript text None)
    ⊎ (((status ≡ 2) × IsKept errors × WritesFault text output)
    ⊎ ((status ≡ 3) × (IsKept output ⊎ WritesPart text output)))
