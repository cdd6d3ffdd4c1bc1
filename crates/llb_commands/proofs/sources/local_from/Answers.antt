use Rattle.std.proofs.Common.{sym, subst}
use Rattle.llb_treetext.specs.TextGrammar.{Answers, MemoryIsLast}
use Rattle.llb_commands.specs.BoundedReading.{ReadsAll}
use Rattle.llb_commands.specs.Sources.{Reads}
use Rattle.llb_commands.proofs.RunOutput.{all_read}
use Rattle.llb_commands.proofs.SourceFileReading.{reads_told}
use Rattle.llb_commands.proofs.sources.local_from.Goals as goal

pub returns-in-Ok : goal.returns-in-Ok
returns-in-Ok g c =
    let left = g.R.Read.remaining c.args.input.now in
    let after = g.R.Read.remaining c.read_bounded.new.input in
    let bytes = c.in-Ok.bytes in
    let same = all_read left after c.read_bounded.result bytes c.in-Ok.is c.read_bounded.ensures.reads in
    let few = subst (ReadsAll 67108864 134217728 left after) c.in-Ok.is c.read_bounded.ensures.reads in
    let answers : Answers bytes.items c.read_tree.result = subst (λ xs. Answers xs c.read_tree.result) c.as_slice.ensures.value c.read_tree.ensures.answers in
    let last : MemoryIsLast bytes.items c.read_tree.result =
    subst (λ xs. MemoryIsLast xs c.read_tree.result) c.as_slice.ensures.value c.read_tree.ensures.last in
    subst (Reads left) (sym c.told.ensures) (reads_told left bytes.items c.read_tree.result same few.0 answers last)
