-- The file of one more source is read, or is not.
use Rattle.std.proofs.Common.{◌≡◌, ◌<◌, ◌≤◌, ◌+◌, ℕ, List, length, drop, get_or, sym, subst, inl, inr, Option, Some, None}
use Rattle.std.specs.Prelude.{Result, Ok, Err, IfSome}
use Rattle.std.proofs.lemmas.List.{drop_more}
use Rattle.llb_tree.specs.Tree.{TreeMap}
use Rattle.llb_loader.specs.LocalSources as given
use Rattle.llb_loader.specs.LocalSources.{with_local}
use Rattle.llb_commands.specs.declared.command_line_words.Local.{Local}
use Rattle.llb_commands.specs.declared.sources.SourceFault.{SourceFault}
use Rattle.llb_commands.specs.declared.sources.SourceFault.TheVariants.{Adding}
use Rattle.llb_treetext.specs.declared.fault.TextFault.{TextFault}
use Rattle.llb_treetext.specs.TextGrammar.{Answers, MemoryIsLast}
use Rattle.llb_commands.specs.Sources.{limit, told, Reads, Gathers}

-- the result of reading a text, stated of the bytes where they are known
pub reads_told : (known : Option (List ℕ)) (bytes : List ℕ) (r : Result TreeMap TextFault) → IfSome known (λ xs. bytes ≡ xs)
    → length bytes ≤ limit → Answers bytes r
    → MemoryIsLast bytes r → Reads known (told r)
reads_told None bytes r same few answers last = tt
reads_told (Some xs) bytes (Ok t) same few answers last = (subst (λ ys. length ys ≤ limit) same few, subst (λ ys. Answers ys (Ok t)) same answers)
reads_told (Some xs) bytes (Err e) same few answers last =
    (subst (λ ys. length ys ≤ limit) same few, subst (λ ys. Answers ys (Err e)) same answers, subst (λ ys. MemoryIsLast ys (Err e)) same last)

-- memory may be refused for a tree that was read
pub reads_adding : (known : Option (List ℕ)) (t : TreeMap) → Reads known (Ok t) → Reads known (Err Adding)
reads_adding None t reads = tt
reads_adding (Some xs) t (few, answers) = (few, (t, answers))

-- the next source's file is read, and the other files are read over the trees with its own
pub gathers_more : (files : List ℕ → Option (List ℕ)) (ls : List Local) (i : ℕ) (d : Local) (trees : List given.Local) (t : TreeMap)
    (r : Result (List given.Local) SourceFault)
    → i < length ls → Reads (files (get_or ls i d).file.now) (Ok t)
    → Gathers files (drop (i + 1) ls) (with_local trees (get_or ls i d).name.now t) r → Gathers files (drop i ls) trees r
gathers_more files ls i d trees t r lt reads rest = subst (λ xs. Gathers files xs trees r) (sym (drop_more ls i d lt)) (inr (t, reads, rest))

-- the next source's file does not read as a tree, and its fault is the result for all
pub gathers_none : (files : List ℕ → Option (List ℕ)) (ls : List Local) (i : ℕ) (d : Local) (trees : List given.Local) (e : SourceFault)
    (r : Result (List given.Local) SourceFault)
    → i < length ls → Reads (files (get_or ls i d).file.now) (Err e) → r ≡ Err e → Gathers files (drop i ls) trees r
gathers_none files ls i d trees e r lt reads is = subst (λ xs. Gathers files xs trees r) (sym (drop_more ls i d lt)) (inl (e, reads, is))
