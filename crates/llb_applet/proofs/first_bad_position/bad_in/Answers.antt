use Rattle.std.proofs.Common.{◌≡◌, not, sym, ◌∙◌, rules, tests}
use Rattle.std.specs.List.{position}
use Rattle.std.proofs.lemmas.Iterator.{YieldsList-from_slice}
use Rattle.std.proofs.lemmas.Iterator.Search.{position_from_yields_List}
use Rattle.llb_applet.specs.Words.{is_word_byte}
use Rattle.llb_applet.proofs.FirstBadPosition.{bad_in-word}
use Rattle.llb_applet.proofs.first_bad_position.bad_in.Goals as goal

pub returns-clause-value : goal.returns-clause-value
returns-clause-value c =
    let found : c.position.result ≡ position (λ b. not (is_word_byte b)) c.args.word.now =
    position_from_yields_List (λ b. not (is_word_byte b)) _ _ c.position.result c.position.ensures.ran
    (YieldsList-from_slice c.args.word.now cc) (λ x b q k. search (rules, tests)) in
    found ∙ sym (bad_in-word c.args.called c.args.word.now (sym c.is_separator.ensures ∙ c.if-is_separator.false))
