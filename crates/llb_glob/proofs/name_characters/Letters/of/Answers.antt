use Rattle.std.proofs.Common.{◌≡◌, ◌+◌, ◌<◌, ◌≤◌, ℕ, List, length, take, set, get_or, sym, ap, ◌∙◌, subst, arith, [], ◌∷◌, ◌++◌}
use Rattle.std.proofs.lemmas.Iterator.{YieldsList-from_chars}
use Rattle.std.proofs.lemmas.Iterator.Consumers.{YieldsList-turn, YieldsList-end}
use Rattle.std.proofs.lemmas.List.{length_push, length-set, take_more, take_more_set, take_all}
use Rattle.std.proofs.lemmas.Str.{length-le-encodes, encodes-chars}
use Rattle.std.specs.Str.{chars, IsUtf8}
use Rattle.llb_glob.proofs.name_characters.Letters.of.Goals as goal
use Rattle.llb_glob.proofs.name_characters.Letters.of.Goals.{In-Some, In-None}

-- a text has at least as many bytes as characters
few_chars : (text : List ℕ) → IsUtf8 text → length (chars text) ≤ length text
few_chars text utf8 = subst (λ bytes. length (chars text) ≤ length bytes) (encodes-chars text utf8) (length-le-encodes (chars text))

-- one more character
one_more :
    (room letters : List ℕ) (n c : ℕ)
    → n < length room
    → n < length letters
    → c ≡ get_or letters n c
    → take n room ≡ take n letters
    → take (n + 1) (set room n c) ≡ take (n + 1) letters
one_more room letters n c fits inside is so_far =
    take_more_set room n c fits
    ∙ ap (λ front. front ++ c ∷ []) so_far
    ∙ ap (λ x. take n letters ++ x ∷ []) is
    ∙ sym (take_more letters n c inside)

-- the place of the character at hand
turn :
    (c : In-Some)
    → (length c.loop-letter.yielded < length (chars c.args.text.now))
    × (c.in-Some.letter ≡ get_or (chars c.args.text.now) (length c.loop-letter.yielded) c.in-Some.letter)
turn c =
    let characters = YieldsList-from_chars c.args.text.now c.utf8.text cc in
    YieldsList-turn characters c.loop-letter.yielded _ c.loop-letter.yielded_by _ _ c.in-Some.letter c.in-Some.is c.next.ensures.steps

within : (c : In-Some) → c.loop-letter.count < 255
within c = omega (arith, (turn c).0, few_chars c.args.text.now c.utf8.text)

pub offset_bounds-room-count : goal.offset_bounds-room-count
offset_bounds-room-count c = omega (arith, within (goal.at.offset_bounds-room-count c).In-Some)

pub loop-letter-preserved : goal.loop-letter-preserved
loop-letter-preserved c =
    let letters = chars c.args.text.now in
    let here = (goal.at.loop-letter-preserved c).In-Some in
    let t = turn here in
    let inv = c.loop-letter.invariant in
    let is = subst (λ n. c.in-Some.letter ≡ get_or letters n c.in-Some.letter) (sym inv.1) t.1 in (
      length-set c.loop-letter.room c.loop-letter.count c.in-Some.letter ∙ inv.0,
      ap (λ n. n + 1) inv.1 ∙ sym (length_push c.loop-letter.yielded c.in-Some.letter),
      one_more c.loop-letter.room letters c.loop-letter.count c.in-Some.letter (omega (arith, within here)) (omega (arith, t.0)) is inv.2,
    )

all : (c : In-None) → c.loop-letter.count ≡ length (chars c.args.text.now)
all c =
    let characters = YieldsList-from_chars c.args.text.now c.utf8.text cc in
    c.loop-letter.invariant.1 ∙ (YieldsList-end characters c.loop-letter.yielded _ c.loop-letter.yielded_by _ _ c.in-None.is c.next.ensures.steps).1

pub returns : goal.returns
returns c = c.loop-letter.invariant.2 ∙ take_all c.loop-letter.count (chars c.args.text.now) (omega (arith, all c))
