-- Bytes that are heard, one piece after the other.
use Rattle.std.proofs.Common.{◌≡◌, ◌≢◌, ◌<◌, ℕ, ◌+◌, length, take, drop, get_or, take-append-drop, Bool, true, false, List, []}
use Rattle.std.proofs.Common.{◌∷◌, ◌++◌, Option, Result, Ok, Err, refl, sym, ap, ◌∙◌, subst, append_assoc, append-nil, arith}
use Rattle.std.proofs.lemmas.List.{take_more}
use Rattle.std.specs.Io.KnownBytes.{Appends}
use Rattle.std.proofs.KnownBytes.{Appends-nil, Appends-trans, Appends-kept}
use Rattle.llb_session.specs.declared.session.Session.{Session}
use Rattle.llb_session.specs.declared.fault.SessionFault.{SessionFault}
use Rattle.llb_session.specs.declared.fault.SessionFault.TheVariants.{Failed, Unending, Write, Memory, TooLong}
use Rattle.llb_session.specs.LineReplies.{Replies}
use Rattle.llb_session.specs.Conversation.{IsLine, Spelled, Standing, Talked, Answered, Quit, CutShort, AtLineEnd}
use Rattle.llb_session.specs.ConversationStates.{IsSaid, Went, IsHeard, Hears}
use Rattle.llb_session.proofs.Streams.{between}
use Rattle.llb_session.proofs.LinesOfBytes.{Spelled-byte, Spelled-end}
use Rattle.llb_session.proofs.RepliesByPieces.{Talks-one, Talked-none, Talked-more}

-- ---- no bytes were heard yet

pub answered_none : (p : Standing) (o : Option (List ℕ)) → IsLine p.line → Answered p [] p.session (between o o)
answered_none p o is = record { text = []; at = p; talked = Talked-none p is; same = refl; printed = Appends-nil o }

-- the line that is begun ends the session
pub quit_none : (p : Standing) (t : Session) (o o' : Option (List ℕ)) → IsLine p.line → IsSaid p t (between o o') (Ok false) → Quit p [] t (between o o')
quit_none p t o o' is (quits, same, keeps) = record {
  before = record { text = []; at = p; talked = Talked-none p is; same = same; printed = Appends-kept o o o' [] (Appends-nil o) keeps };
  quits = quits;
}

-- the reply is cut short before any byte is heard
pub cut_none : (p : Standing) (t : Session) (o o' : Option (List ℕ)) → IsLine p.line → IsSaid p t (between o o') (Err Write) → CutShort p [] t (between o o')
cut_none p t o o' is (said, answers, (front, rest, split, printed)) = record {
  text = [];
  at = p;
  talked = Talked-none p is;
  said = said;
  answers = answers;
  front = front;
  rest = rest;
  split = split;
  printed = printed;
}

-- ---- after bytes that were heard

-- the text of the lines that ended is written
pub went_none : (p : Standing) (o : Option (List ℕ)) → IsLine p.line → Went p [] p (between o o)
went_none p o is = record { text = []; talked = Talked-none p is; printed = Appends-nil o }

-- bytes that were heard, and more that were heard after them, were heard together
pub went_more : (p q r : Standing) (bytes more : List ℕ) (o o1 o2 : Option (List ℕ)) → Went p bytes q (between o o1) → Went q more r (between o1 o2)
    → Went p (bytes ++ more) r (between o o2)
went_more p q r bytes more o o1 o2 a b = record {
  text = a.text ++ b.text;
  talked = Talked-more p q r bytes more a.text b.text a.talked b.talked;
  printed = Appends-trans o o1 o2 a.text b.text a.printed b.printed;
}

abbrev pub answered_after : (p q : Standing) (bytes more text : List ℕ) (t : Session) (o o1 o2 : Option (List ℕ))
    → Talked p bytes text q → Appends o o1 text → Answered q more t (between o1 o2) → Answered p (bytes ++ more) t (between o o2)
answered_after p q bytes more text t o o1 o2 talked out a = record {
  text = text ++ a.text;
  at = a.at;
  talked = Talked-more p q a.at bytes more text a.text talked a.talked;
  same = a.same;
  printed = Appends-trans o o1 o2 text a.text out a.printed;
}

pub quit_after : (p q : Standing) (bytes more text : List ℕ) (t : Session) (o o1 o2 : Option (List ℕ))
    → Talked p bytes text q → Appends o o1 text → Quit q more t (between o1 o2) → Quit p (bytes ++ more) t (between o o2)
quit_after p q bytes more text t o o1 o2 talked out a = record {
  before = answered_after p q bytes more text t o o1 o2 talked out a.before;
  quits = a.quits;
}

pub cut_after : (p q : Standing) (bytes more text : List ℕ) (t : Session) (o o1 o2 : Option (List ℕ))
    → Talked p bytes text q → Appends o o1 text → CutShort q more t (between o1 o2) → CutShort p (bytes ++ more) t (between o o2)
cut_after p q bytes more text t o o1 o2 talked out a = record {
  text = text ++ a.text;
  at = a.at;
  talked = Talked-more p q a.at bytes more text a.text talked a.talked;
  said = a.said;
  answers = a.answers;
  front = a.front;
  rest = a.rest;
  split = a.split;
  printed =
      let P : List ℕ → Type 0 = Appends o o2 in
      subst P (sym (append_assoc text a.text a.front)) (Appends-trans o o1 o2 text (a.text ++ a.front) out a.printed);
}

line_end_after : (P Q : List ℕ → Type 0) (bytes heard : List ℕ)
    → ((more : List ℕ) → P more → Q (bytes ++ more)) → AtLineEnd heard P → AtLineEnd (bytes ++ heard) Q
line_end_after P Q bytes heard f (before, is, so) = (bytes ++ before, ap (λ x. bytes ++ x) is ∙ sym (append_assoc bytes before (10 ∷ [])), f before so)

comes_after : (p q r : Standing) (bytes heard unheard text : List ℕ) (o o1 o2 : Option (List ℕ)) (result : Result Bool SessionFault)
    → Talked p bytes text q → Appends o o1 text → IsHeard q heard unheard r (between o1 o2) result → IsHeard p (bytes ++ heard) unheard r (between o o2) result
comes_after p q r bytes heard unheard text o o1 o2 (Ok true) talked out (none, more) =
    (none, went_more p q r bytes heard o o1 o2 (record { text = text; talked = talked; printed = out }) more)
comes_after p q r bytes heard unheard text o o1 o2 (Ok false) talked out c =
    line_end_after (λ x. Quit q x r.session (between o1 o2)) (λ x. Quit p x r.session (between o o2)) bytes heard
    (λ more so. quit_after p q bytes more text r.session o o1 o2 talked out so) c
comes_after p q r bytes heard unheard text o o1 o2 (Err Write) talked out c =
    line_end_after (λ x. CutShort q x r.session (between o1 o2)) (λ x. CutShort p x r.session (between o o2)) bytes heard
    (λ more so. cut_after p q bytes more text r.session o o1 o2 talked out so) c
comes_after p q r bytes heard unheard text o o1 o2 (Err Memory) talked out c = answered_after p q bytes heard text r.session o o1 o2 talked out c
comes_after p q r bytes heard unheard text o o1 o2 (Err (Failed kind)) talked out c = c
comes_after p q r bytes heard unheard text o o1 o2 (Err (Unending interrupted)) talked out c = c
comes_after p q r bytes heard unheard text o o1 o2 (Err TooLong) talked out c = c

-- what comes of bytes after others that were heard comes of both together
pub hears_after : (p q r : Standing) (bytes more text : List ℕ) (o o1 o2 : Option (List ℕ)) (result : Result Bool SessionFault)
    → Talked p bytes text q → Appends o o1 text → Hears q more r (between o1 o2) result → Hears p (bytes ++ more) r (between o o2) result
hears_after p q r bytes more text o o1 o2 result talked out h = record {
  heard = bytes ++ h.heard;
  unheard = h.unheard;
  split = ap (λ x. bytes ++ x) h.split ∙ sym (append_assoc bytes h.heard h.unheard);
  comes = comes_after p q r bytes h.heard h.unheard text o o1 o2 result talked out h.comes;
}

-- ---- bytes after those that were heard

over : (p q : Standing) (heard unheard more : List ℕ) (o o' : Option (List ℕ)) (e : SessionFault)
    → IsHeard p heard unheard q (between o o') (Err e) → IsHeard p heard (unheard ++ more) q (between o o') (Err e)
over p q heard unheard more o o' Write c = c
over p q heard unheard more o o' Memory c = c
over p q heard unheard more o o' (Failed kind) c = c
over p q heard unheard more o o' (Unending interrupted) c = c
over p q heard unheard more o o' TooLong c = c

pub hears_over_err : (p q : Standing) (bytes more : List ℕ) (o o' : Option (List ℕ)) (e : SessionFault)
    → Hears p bytes q (between o o') (Err e) → Hears p (bytes ++ more) q (between o o') (Err e)
hears_over_err p q bytes more o o' e h = record {
  heard = h.heard;
  unheard = h.unheard ++ more;
  split = ap (λ x. x ++ more) h.split ∙ append_assoc h.heard h.unheard more;
  comes = over p q h.heard h.unheard more o o' e h.comes;
}

pub hears_over_quit : (p q : Standing) (bytes more : List ℕ) (o o' : Option (List ℕ))
    → Hears p bytes q (between o o') (Ok false) → Hears p (bytes ++ more) q (between o o') (Ok false)
hears_over_quit p q bytes more o o' h = record {
  heard = h.heard;
  unheard = h.unheard ++ more;
  split = ap (λ x. x ++ more) h.split ∙ append_assoc h.heard h.unheard more;
  comes = h.comes;
}

-- ---- all bytes were heard

-- where the session goes on, all the bytes were heard
pub went_all : (p q : Standing) (bytes : List ℕ) (o o' : Option (List ℕ)) → Hears p bytes q (between o o') (Ok true) → Went p bytes q (between o o')
went_all p q bytes o o' h =
    let P : List ℕ → Type 0 = λ x. Went p x q (between o o') in
    subst P (sym (h.split ∙ ap (λ x. h.heard ++ x) h.comes.0 ∙ append-nil h.heard)) h.comes.1

pub all_went : (p q : Standing) (bytes : List ℕ) (o o' : Option (List ℕ)) → Went p bytes q (between o o') → Hears p bytes q (between o o') (Ok true)
all_went p q bytes o o' w = record { heard = bytes; unheard = []; split = sym (append-nil bytes); comes = (refl, w) }

-- ---- one byte

-- a byte that is no line end is added to the line that is begun
pub byte_on_line : (p : Standing) (b : ℕ) (line : List ℕ) (o : Option (List ℕ)) → IsLine p.line → b ≢ 10 → line ≡ p.line ++ b ∷ []
    → Hears p (b ∷ []) (record p { line = line }) (between o o) (Ok true)
byte_on_line p b line o is other e =
    let P : List ℕ → Type 0 = λ x. Spelled [] x (p.line ++ b ∷ []) in
    all_went p (record p { line = line }) (b ∷ []) o o (
    record {
      text = [];
      talked = record { lines = []; spelled = subst P (sym e) (Spelled-byte p.line b is other); talks = (refl, refl); count = omega arith };
      printed = Appends-nil o;
    }
    )

-- memory for it was refused
pub byte_refused : (p : Standing) (b : ℕ) (line : List ℕ) (o : Option (List ℕ)) → IsLine p.line
    → Hears p (b ∷ []) (record p { line = line }) (between o o) (Err Memory)
byte_refused p b line o is = record { heard = []; unheard = b ∷ []; split = refl; comes = answered_none p o is }

-- the line that it ends got its reply
line_went : (p q : Standing) (text : List ℕ) → IsLine p.line → q.number ≡ p.number + 1 → q.line ≡ []
    → Replies p.session p.number p.line text q.session → Talked p (10 ∷ []) text q
line_went p q text is next new a =
    let P : List ℕ → Type 0 = λ x. Spelled (p.line ∷ []) x (p.line ++ 10 ∷ []) in
    record {
      lines = p.line ∷ [];
      spelled = subst P (sym new) (Spelled-end p.line is);
      talks = Talks-one p.session q.session p.number p.line text a;
      count = next;
    }

said_ok : (p q : Standing) (o o' : Option (List ℕ)) (goes_on : Bool) → IsLine p.line → q.number ≡ p.number + 1 → q.line ≡ []
    → IsSaid p q.session (between o o') (Ok goes_on) → Hears p (10 ∷ []) q (between o o') (Ok goes_on)
said_ok p q o o' true is next new (text, answers, printed) =
    all_went p q (10 ∷ []) o o' (record { text = text; talked = line_went p q text is next new answers; printed = printed })
said_ok p q o o' false is next new said = record {
  heard = 10 ∷ [];
  unheard = [];
  split = refl;
  comes = ([], refl, quit_none p q.session o o' is said);
}

said_err : (p q : Standing) (o o' : Option (List ℕ)) (e : SessionFault) → IsLine p.line → IsSaid p q.session (between o o') (Err e)
    → Hears p (10 ∷ []) q (between o o') (Err e)
said_err p q o o' Write is said = record { heard = 10 ∷ []; unheard = []; split = refl; comes = ([], refl, cut_none p q.session o o' is said) }
said_err p q o o' (Failed kind) is said = absurd said
said_err p q o o' (Unending interrupted) is said = absurd said
said_err p q o o' Memory is said = absurd said
said_err p q o o' TooLong is said = absurd said

-- a line end is heard: its line gets its reply and a new one is begun, or it ends the session
pub byte_ends : (p q : Standing) (b : ℕ) (o o' : Option (List ℕ)) (goes_on : Bool) → IsLine p.line → b ≡ 10 → q.number ≡ p.number + 1 → q.line ≡ []
    → IsSaid p q.session (between o o') (Ok goes_on) → Hears p (b ∷ []) q (between o o') (Ok goes_on)
byte_ends p q b o o' goes_on is end next new said =
    let P : ℕ → Type 0 = λ x. Hears p (x ∷ []) q (between o o') (Ok goes_on) in subst P (sym end) (said_ok p q o o' goes_on is next new said)

-- a line end is heard, and the reply to its line is not written whole
pub byte_fails : (p q : Standing) (b : ℕ) (o o' : Option (List ℕ)) (e : SessionFault) → IsLine p.line → b ≡ 10
    → IsSaid p q.session (between o o') (Err e) → Hears p (b ∷ []) q (between o o') (Err e)
byte_fails p q b o o' e is end said = let P : ℕ → Type 0 = λ x. Hears p (x ∷ []) q (between o o') (Err e) in subst P (sym end) (said_err p q o o' e is said)

-- ---- the byte at an index

around : (xs : List ℕ) (i : ℕ) → i < length xs → (take i xs ++ get_or xs i 0 ∷ []) ++ drop (i + 1) xs ≡ xs
around xs i h = ap (λ x. x ++ drop (i + 1) xs) (sym (take_more xs i 0 h)) ∙ take-append-drop (i + 1) xs

-- the next byte is heard, and so all up to it are
pub went_on : (p q r : Standing) (xs : List ℕ) (i : ℕ) (o o1 o2 : Option (List ℕ)) → i < length xs
    → Went p (take i xs) q (between o o1) → Hears q (get_or xs i 0 ∷ []) r (between o1 o2) (Ok true) → Went p (take (i + 1) xs) r (between o o2)
went_on p q r xs i o o1 o2 in' w h =
    let P : List ℕ → Type 0 = λ x. Went p x r (between o o2) in
    subst P (sym (take_more xs i 0 in')) (went_more p q r (take i xs) (get_or xs i 0 ∷ []) o o1 o2 w (went_all q r (get_or xs i 0 ∷ []) o1 o2 h))

-- a byte ends the session, and those after it are not heard
pub quit_at : (p q r : Standing) (xs : List ℕ) (i : ℕ) (o o1 o2 : Option (List ℕ)) → i < length xs
    → Went p (take i xs) q (between o o1) → Hears q (get_or xs i 0 ∷ []) r (between o1 o2) (Ok false) → Hears p xs r (between o o2) (Ok false)
quit_at p q r xs i o o1 o2 in' w h =
    let P : List ℕ → Type 0 = λ x. Hears p x r (between o o2) (Ok false) in
    subst P (around xs i in')
    (hears_over_quit p r (take i xs ++ get_or xs i 0 ∷ []) (drop (i + 1) xs) o o2
    (hears_after p q r (take i xs) (get_or xs i 0 ∷ []) w.text o o1 o2 (Ok false) w.talked w.printed h))

-- a byte is heard with a fault, and those after it are not heard
pub fails_at : (p q r : Standing) (xs : List ℕ) (i : ℕ) (o o1 o2 : Option (List ℕ)) (e : SessionFault) → i < length xs
    → Went p (take i xs) q (between o o1) → Hears q (get_or xs i 0 ∷ []) r (between o1 o2) (Err e) → Hears p xs r (between o o2) (Err e)
fails_at p q r xs i o o1 o2 e in' w h =
    let P : List ℕ → Type 0 = λ x. Hears p x r (between o o2) (Err e) in
    subst P (around xs i in')
    (hears_over_err p r (take i xs ++ get_or xs i 0 ∷ []) (drop (i + 1) xs) o o2 e
    (hears_after p q r (take i xs) (get_or xs i 0 ∷ []) w.text o o1 o2 (Err e) w.talked w.printed h))
