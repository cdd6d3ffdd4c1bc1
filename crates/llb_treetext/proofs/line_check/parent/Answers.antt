-- The last slash is found, and there is no other.
use Rattle.std.proofs.Common.{◌∷◌, ◌++◌, [], sym, ap, ◌∙◌, append_assoc}
use Rattle.llb_treetext.proofs.SlashedNames.{last_slash, none_inside, no_bytes}
use Rattle.llb_treetext.proofs.line_check.parent.Goals as goal

pub returns-then-byte-eq47 : goal.returns-then-byte-eq47
returns-then-byte-eq47 c = λ front last none same.
    let (back, split, plain) = c.loop-byte.invariant in
    let here = split ∙ ap (λ r. r ++ back) (c.in-Some.ensures.cases.0 ∙ ap (λ b. c.in-Some.before.now ++ b ∷ []) c.if-byte-eq47.true)
    ∙ append_assoc c.in-Some.before.now (47 ∷ []) back in
    last_slash c.in-Some.before.now front back last plain none (sym here ∙ same)

pub returns : goal.returns
returns c = λ front last none same.
    let (back, split, plain) = c.loop-byte.invariant in
    absurd (none_inside front last back plain (sym (no_bytes c.loop-byte.rest.now back c.in_default.ensures.cases) ∙ sym split ∙ same))
