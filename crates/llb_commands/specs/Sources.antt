-- What is read from the files of local sources.
use Rattle.std.specs.Prelude.{◌≡◌, ◌<◌, ◌≤◌, ◌⊎◌, ℕ, List, [], ◌∷◌, length, if◌then◌else◌, Option, Result, Ok, Err, IfSome}
use Rattle.llb_tree.specs.Tree.{TreeMap}
use Rattle.llb_treetext.specs.declared.fault.TextFault.{TextFault}
use Rattle.llb_treetext.specs.CallResults.{is_memory}
use Rattle.llb_treetext.specs.TextGrammar.{Answers, MemoryIsLast}
use Rattle.llb_loader.specs.LocalSources as given
use Rattle.llb_loader.specs.LocalSources.{with_local}
use Rattle.llb_commands.specs.declared.command_line_words.Local.{Local}
use Rattle.llb_commands.specs.Faults.{TellsLine, source_text}
use Rattle.llb_commands.specs.declared.sources.SourceFault.{SourceFault}
use Rattle.llb_commands.specs.declared.sources.SourceFault.TheVariants.{Read, TooLong, Text, Reading, Adding}

-- the most bytes that an input may have, whether it is the text of a tree, a definition, a text of entries, or the commands of a session
abbrev pub limit : ℕ
limit = 67108864

-- the most reads that may be made of an input; the read that meets the end counts too
abbrev pub most_reads : ℕ
most_reads = 134217728

-- The result of reading bytes: the tree whose text the bytes are, or why there is no tree. `Read` (a device failed) and `Reading` (no memory for the bytes)
-- may be the fault for any bytes; `Adding` (no memory to add the tree) only if the bytes are the text of a tree.
abbrev pub ReadsTree : List ℕ → Result TreeMap SourceFault → Type 0
ReadsTree bytes (Ok t) = (length bytes ≤ limit) × Answers bytes (Ok t)
ReadsTree bytes (Err TooLong) = limit < length bytes
ReadsTree bytes (Err (Text e)) = (length bytes ≤ limit) × Answers bytes (Err e) × MemoryIsLast bytes (Err e)
ReadsTree bytes (Err Read) = Unit {0}
ReadsTree bytes (Err Reading) = Unit {0}
ReadsTree bytes (Err Adding) = (length bytes ≤ limit) × ((t : TreeMap) × Answers bytes (Ok t))

-- the result of reading a tree's text, turned into the result of reading a local source
abbrev pub told : Result TreeMap TextFault → Result TreeMap SourceFault
told (Ok t) = Ok t
told (Err e) = Err (Text e)

-- the result of reading a file as a tree: if the bytes of the file are known, `ReadsTree` holds for them
abbrev pub Reads : Option (List ℕ) → Result TreeMap SourceFault → Type 0
Reads known r = IfSome known (λ bytes. ReadsTree bytes r)

-- the bytes are read as a tree, which is added under the name; or there is a fault, and nothing is added
abbrev pub Adds : List ℕ → Option (List ℕ) → List given.Local → List given.Local → Result (Unit {0}) SourceFault → Type 0
Adds name known old new (Ok u) = (t : TreeMap) × Reads known (Ok t) × (new ≡ with_local old name t)
Adds name known old new (Err e) = Reads known (Err e) × (new ≡ old)

-- the result of reading the trees of local sources from their files, one after another: the first fault, or the given trees with all these trees added
abbrev pub Gathers : (List ℕ → Option (List ℕ)) → List Local → List given.Local → Result (List given.Local) SourceFault → Type 0
Gathers files [] trees r = r ≡ Ok trees
Gathers files (l ∷ ls) trees r = ((e : SourceFault) × Reads (files l.file.now) (Err e) × (r ≡ Err e))
    ⊎ ((t : TreeMap) × Reads (files l.file.now) (Ok t) × Gathers files ls (with_local trees l.name.now t) r)

-- the exit status for a fault of a local source: 2 if the text of its file is refused, else 3
abbrev pub source_status : SourceFault → ℕ
source_status Read = 3
source_status TooLong = 2
source_status (Text e) = if is_memory e then 3 else 2
source_status Reading = 3
source_status Adding = 3

-- the line of the fault is written, and the status is the fault's; or the line could not be written, and the status is 3
abbrev pub TellsSource : Option (List ℕ) → Option (List ℕ) → SourceFault → ℕ → Type 0
TellsSource err err' e = TellsLine err err' (source_text e) (source_status e)
