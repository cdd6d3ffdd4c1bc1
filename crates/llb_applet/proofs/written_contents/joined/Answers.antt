use Rattle.std.proofs.Common.{◌≡◌, ℕ, ◌+◌, ◌++◌, List, drop, Option, Some, None, option_map, refl, sym, ap, ◌∙◌, append_assoc}
use Rattle.llb_tree.specs.ModeAndOwner.{MetaValue}
use Rattle.llb_applet.specs.Commands.{◌>>=◌, file_by, joined}
use Rattle.llb_applet.proofs.FirstBadPosition.{at_drop}
use Rattle.llb_applet.proofs.PathsOfWords.{BeginsWithPath, begins_with_path, content_path, on_err}
use Rattle.llb_applet.proofs.written_contents.joined.Goals as goal

-- the contents with one more file
one_more :
    (content part : List ℕ) (file : Option (MetaValue × List ℕ)) → option_map (λ f. f.1) file ≡ Some part
    → (rest : Option (List ℕ))
    → option_map (λ more. content ++ more) (file >>= λ f. rest >>= λ more. Some (f.1 ++ more)) ≡ option_map (λ more. (content ++ part) ++ more) rest
one_more content part None is rest = absurd cc
one_more content part (Some f) is None = refl
one_more content part (Some f) is (Some more) = let same : f.1 ≡ part = cc in ap (λ p. Some (content ++ (p ++ more))) same
    ∙ ap Some (sym (append_assoc content part more))

pub loop-word-preserved : goal.loop-word-preserved
loop-word-preserved c =
    let setting = c.args.setting.now in
    let view = c.args.view.now in
    let words = c.args.words.now in
    let i = c.loop-word.word-index in
    let here = at_drop words i c.word-item.result c.loop-word-test.true c.word-item.is in
    let rest = joined setting view (drop (i + 1) words) in
    let given : option_map (λ f. f.1) (file_by setting view c.word-item.result) ≡ Some c.in-Some.part.now = sym c.in_ok-content_by.ensures.content
    ∙ ap (option_map (λ b. b.now)) c.in-Some.is in
    let longer : c.extend_from_slice.new.self.items ≡ c.loop-word.content.items ++ c.in-Some.part.now =
    c.in_ok-extend_from_slice-in-Some.ensures.items ∙ ap (λ p. c.loop-word.content.items ++ p) c.as_slice.ensures in (
      ap (λ front. option_map (λ more. front ++ more) rest) longer
          ∙ sym (one_more c.loop-word.content.items c.in-Some.part.now (file_by setting view c.word-item.result) given rest)
          ∙ ap (λ ws. option_map (λ more. c.loop-word.content.items ++ more) (joined setting view ws)) (sym here)
          ∙ c.loop-word.invariant.0,
      λ _. begins_with_path setting words i c.word-item.result c.loop-word-test.true c.word-item.is c.loop-word.invariant.1
          (content_path setting view c.word-item.result c.in-Some.part.now given),
    )

pub returns-in_err-content_by-clause-last : goal.returns-in_err-content_by-clause-last
returns-in_err-content_by-clause-last c =
    on_err c.from_residual.result (BeginsWithPath c.args.setting.now c.args.words.now)
    (begins_with_path c.args.setting.now c.args.words.now c.loop-word.word-index c.word-item.result c.loop-word-test.true c.word-item.is
    c.loop-word.invariant.1 c.in_err-content_by.ensures.last)

pub returns-in_err-extend_from_slice-in-Some-clause-last : goal.returns-in_err-extend_from_slice-in-Some-clause-last
returns-in_err-extend_from_slice-in-Some-clause-last c =
    let word = c.word-item.result in
    let given : option_map (λ f. f.1) (file_by c.args.setting.now c.args.view.now word) ≡ Some c.in-Some.part.now = sym c.in_ok-content_by.ensures.content
    ∙ ap (option_map (λ b. b.now)) c.in-Some.is in
    on_err c.from_residual-in_err-extend_from_slice-in-Some.result (BeginsWithPath c.args.setting.now c.args.words.now)
    (begins_with_path c.args.setting.now c.args.words.now c.loop-word.word-index word c.loop-word-test.true c.word-item.is
    c.loop-word.invariant.1 (content_path c.args.setting.now c.args.view.now word c.in-Some.part.now given))
