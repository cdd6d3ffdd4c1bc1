-- Texts that are written to a sink one after the other.
use Rattle.std.proofs.Common.{◌≡◌, ◌∙◌, ◌++◌, ℕ, Bool, true, false, List, Option, Result, Ok, Err, ap, sym, subst, append_assoc}
use Rattle.std.specs.Io.KnownBytes.{Appends}
use Rattle.std.proofs.KnownBytes.{Appends-trans}
use Rattle.llb_wire.specs.declared.sink.Failed.{Failed}
use Rattle.llb_wire.specs.Sink.{PartOut, TakesAll}
use Rattle.llb_session.specs.LineReplies.{IsReplyWritten}
use Rattle.llb_session.proofs.Streams.{between}

-- a text is written, and then a prefix of what follows it
part_after : (a b c : Option (List ℕ)) (x y : List ℕ) → Appends a b x → PartOut b c y → PartOut a c (x ++ y)
part_after a b c x y whole (front, rest, split, out) =
    (x ++ front, rest, ap (λ t. x ++ t) split ∙ sym (append_assoc x front rest), Appends-trans a b c x front whole out)

-- a text is written, and then what follows it, or a prefix of that
pub takes_both : (a b c : Option (List ℕ)) (failed : Bool) (x y : List ℕ) (r : Result (Unit {0}) Failed) → Appends a b x → TakesAll b c failed y r
    → TakesAll a c failed (x ++ y) r
takes_both a b c failed x y (Ok u) whole rest = Appends-trans a b c x y whole rest
takes_both a b c failed x y (Err e) whole (fails, part) = (fails, part_after a b c x y whole part)

-- a prefix of a text is a prefix of more, and a call fails where the sink does
pub takes_part : (a b : Option (List ℕ)) (failed : Bool) (x y : List ℕ) (e f : Failed) (r : Result (Unit {0}) Failed) → r ≡ Err f
    → TakesAll a b failed x (Err e) → TakesAll a b failed (x ++ y) r
takes_part a b failed x y e f r is (fails, (front, rest, split, out)) =
    subst (λ (s : Result (Unit {0}) Failed). TakesAll a b failed (x ++ y) s) (sym is)
    (fails, (front, rest ++ y, ap (λ t. t ++ y) split ∙ append_assoc front rest y, out))

-- a text is written, and then the end of the reply, or a prefix of it
pub ends_after : (a b c : Option (List ℕ)) (text more : List ℕ) (r : Result Bool Failed) → Appends a b text → IsReplyWritten more (between b c) r
    → IsReplyWritten (text ++ more) (between a c) r
ends_after a b c text more (Ok true) whole rest = Appends-trans a b c text more whole rest
ends_after a b c text more (Ok false) whole rest = absurd rest
ends_after a b c text more (Err e) whole part = part_after a b c text more whole part

-- a prefix of a text is a prefix of more
pub cut_before : (a b : Option (List ℕ)) (text more : List ℕ) → PartOut a b text → PartOut a b (text ++ more)
cut_before a b text more (front, rest, split, out) = (front, rest ++ more, ap (λ t. t ++ more) split ∙ append_assoc front rest more, out)
