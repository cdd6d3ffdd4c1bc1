use Rattle.std.proofs.Common.{◌≡◌, ◌<◌, ◌++◌, drop, option_map}
use Rattle.llb_applet.specs.Commands.{joined}
use Rattle.llb_applet.proofs.PathsOfWords.{BeginsWithPath}
use Rattle.llb_applet.proofs.written_contents.joined.Given as goal

abbrev pub invariant-loop-word : goal.invariant-loop-word
invariant-loop-word l = (option_map (λ more. l.content.items ++ more) (joined l.setting l.view (drop l.word-index l.words)) ≡ joined l.setting l.view l.words)
    × (0 < l.word-index → BeginsWithPath l.setting l.words)
