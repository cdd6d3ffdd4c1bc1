-- The words so far are split, and the first that is not split is after them.
use Rattle.std.proofs.Common.{◌≡◌, map, take, drop}
use Rattle.std.specs.Prelude.{find}
use Rattle.llb_commands.specs.CommandLine.{AreSplit, is_unsplit}
use Rattle.llb_commands.proofs.command_line.split_words.Given as goal

abbrev pub invariant-loop-word : goal.invariant-loop-word
invariant-loop-word l =
    AreSplit (map (λ w. w.now) (take l.word-index l.words)) l.locals.items
    × (find is_unsplit (map (λ w. w.now) (drop l.word-index l.words)) ≡ find is_unsplit (map (λ w. w.now) l.words))
