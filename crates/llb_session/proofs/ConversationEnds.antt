-- How a conversation ends, by how the bytes that were read last were heard.
use Rattle.std.proofs.Common.{◌≡◌, ◌≢◌, ◌≤◌, ◌<◌, ℕ, ◌+◌, Bool, true, false, take, drop, take-append-drop, List, [], ◌∷◌, ◌==◌, ◌++◌, length}
use Rattle.std.proofs.Common.{Option, Result, Ok, Err, refl, sym, ap, ◌∙◌, subst, inl, inr, append_assoc, append-nil, length-append, eqb-true, arith}
use Rattle.std.proofs.lemmas.List.{nil_from_length}
use Rattle.std.specs.Io.KnownBytes.{Appends, Consumes, Keeps, IsAtEnd}
use Rattle.std.specs.declared.io.ErrorKind.{ErrorKind}
use Rattle.std.specs.declared.io.ErrorKind.TheVariants.{Interrupted}
use Rattle.std.proofs.KnownBytes.{Appends-trans, Appends-kept, Consumes-nil, Consumes-trans, Consumes-kept}
use Rattle.llb_session.specs.declared.session.Session.{Session}
use Rattle.llb_session.specs.declared.fault.SessionFault.{SessionFault}
use Rattle.llb_session.specs.declared.fault.SessionFault.TheVariants.{Failed, Unending, Write, Memory, TooLong}
use Rattle.llb_session.specs.Streams.{Stream}
use Rattle.llb_session.specs.Conversation.{Standing, opening, Answered, last_line, Conversation, Converses}
use Rattle.llb_session.specs.LineReplies.{Replies}
use Rattle.llb_session.specs.ConversationStates.{IsLast, IsSaid, Went, IsHeard, Hears}
use Rattle.llb_session.proofs.Streams.{between}
use Rattle.llb_session.proofs.RepliesByPieces.{Talks-more, Talks-one, few_said}
use Rattle.llb_session.proofs.ConversationByPieces.{went_none, went_more, went_all, hears_after}

-- a conversation from session s to session t
abbrev leads_to : (limit reads : ℕ) (s t : Session) (commands replies : Stream) → Conversation
leads_to limit reads s t commands replies = record { limit = limit; reads = reads; before = s; after = t; commands = commands; replies = replies }

-- all that was taken was heard, and the session goes on
pub record Listened (limit room : ℕ) (s : Session) (q : Standing) (commands out : Stream) : Type 0 where
  pub heard : List ℕ
  pub taken : Consumes commands.before commands.after heard
  pub went : Went (opening s) heard q out
  pub rest : length heard + room ≡ limit

-- before the first read
pub listened_none : (limit : ℕ) (s : Session) (line : List ℕ) (left o : Option (List ℕ)) → line ≡ []
    → Listened limit limit s (record { session = s; number = 1; line = line }) (between left left) (between o o)
listened_none limit s line left o none = record {
  heard = [];
  taken = Consumes-nil left;
  went =
      let P : List ℕ → Type 0 = λ x. Went (opening s) [] (record { session = s; number = 1; line = x }) (between o o) in
      subst P (sym none) (went_none (opening s) o (λ k d h. absurd (omega arith)));
  rest = omega arith;
}

-- no more lines than bytes
pub few_listened : (limit room : ℕ) (s : Session) (q : Standing) (a b o o' : Option (List ℕ)) → Listened limit room s q (between a b) (between o o')
    → q.number + length q.line + room ≤ limit + 1
few_listened limit room s q a b o o' l = omega (arith, l.rest, few_said (opening s) q l.heard l.went.text l.went.talked)

-- a piece of what was read, cut in two
pub both_taken : (a b : Option (List ℕ)) (buffer piece fits over : List ℕ) (n k : ℕ) → Consumes a b (take n buffer)
    → piece ≡ take n buffer → fits ≡ take k piece → over ≡ drop k piece → Consumes a b (fits ++ over)
both_taken a b buffer piece fits over n k taken is front back =
    let P : List ℕ → Type 0 = Consumes a b in
    subst P (sym (ap (λ x. x ++ over) front ∙ ap (λ x. take k piece ++ x) back ∙ take-append-drop k piece ∙ is)) taken

-- a read that gave nothing
pub listened_still : (limit room : ℕ) (s : Session) (q : Standing) (a b c o o' : Option (List ℕ)) → Listened limit room s q (between a b) (between o o')
    → Keeps b c
    → Listened limit room s q (between a c) (between o o')
listened_still limit room s q a b c o o' l keeps = record {
  heard = l.heard;
  taken = Consumes-kept a b c l.heard l.taken keeps;
  went = l.went;
  rest = l.rest;
}

-- a piece within the limit
pub listened_on : (limit room left n : ℕ) (s : Session) (q r : Standing) (a b c o o1 o2 : Option (List ℕ)) (fits over : List ℕ)
    → Listened limit room s q (between a b) (between o o1) → Consumes b c (fits ++ over) → over ≡ [] → length fits ≡ n → left + n ≡ room
    → Hears q fits r (between o1 o2) (Ok true)
    → Listened limit left s r (between a c) (between o o2)
listened_on limit room left n s q r a b c o o1 o2 fits over l taken none long less h = record {
  heard = l.heard ++ fits;
  taken =
      let P : List ℕ → Type 0 = Consumes b c in
      Consumes-trans a b c l.heard fits l.taken (subst P (ap (λ x. fits ++ x) none ∙ append-nil fits) taken);
  went = went_more (opening s) q r l.heard fits o o1 o2 l.went (went_all q r fits o1 o2 h);
  rest = omega (arith, l.rest, long, less, length-append l.heard fits);
}

-- what is left of a piece
pub some_left : (over : List ℕ) → false ≡ (length over == 0) → 0 < length over
some_left [] e = absurd cc
some_left (b ∷ over) e = omega arith

-- nothing is left of a piece where the rest is tested to have no bytes
pub none_left : (over : List ℕ) → true ≡ (length over == 0) → over ≡ []
none_left over e = nil_from_length over (eqb-true (length over) 0 (sym e))

-- a read that returns nothing takes nothing
pub none_taken : (a b : Option (List ℕ)) (buffer : List ℕ) (n : ℕ) → n ≡ 0 → Consumes a b (take n buffer) → Consumes a b []
none_taken a b buffer n none taken = let P : ℕ → Type 0 = λ k. Consumes a b (take k buffer) in subst P none taken

-- ---- the bound on reads, and a read that failed

-- what is written where reading ends: all that was taken before was heard and has its reply
answered : (limit room : ℕ) (s : Session) (q : Standing) (a b o o' : Option (List ℕ)) (l : Listened limit room s q (between a b) (between o o'))
    → Answered (opening s) l.heard q.session (between o o')
answered limit room s q a b o o' l = record { text = l.went.text; at = q; talked = l.went.talked; same = refl; printed = l.went.printed }

all_taken : (limit room : ℕ) (s : Session) (q : Standing) (a b o o' : Option (List ℕ)) (l : Listened limit room s q (between a b) (between o o'))
    → Consumes a b (l.heard ++ [])
all_taken limit room s q a b o o' l = let P : List ℕ → Type 0 = Consumes a b in subst P (sym (append-nil l.heard)) l.taken

-- a read fails
pub ends_failed : (reads limit room : ℕ) (s : Session) (q : Standing) (a b o o' : Option (List ℕ)) (kind : ErrorKind) → kind ≢ Interrupted
    → Listened limit room s q (between a b) (between o o') → Converses (leads_to limit reads s q.session (between a b) (between o o')) (Err (Failed kind))
ends_failed reads limit room s q a b o o' kind other l = record {
  heard = l.heard;
  unheard = [];
  taken = all_taken limit room s q a b o o' l;
  few = omega (arith, l.rest);
  ends = (other, refl, answered limit room s q a b o o' l);
}

-- the bound on reads is met
pub ends_unending : (reads limit room interrupted : ℕ) (s : Session) (q : Standing) (a b o o' : Option (List ℕ)) → reads + room ≤ limit + interrupted
    → interrupted ≤ reads → Listened limit room s q (between a b) (between o o')
    → Converses (leads_to limit reads s q.session (between a b) (between o o')) (Err (Unending interrupted))
ends_unending reads limit room interrupted s q a b o o' met some l = record {
  heard = l.heard;
  unheard = [];
  taken = all_taken limit room s q a b o o' l;
  few = omega (arith, l.rest);
  ends = (omega (arith, l.rest, met), some, refl, answered limit room s q a b o o' l);
}

-- ---- the end of the input

ends_so : (reads limit : ℕ) (s t : Session) (q : Standing) (heard : List ℕ) (a b o o1 o2 : Option (List ℕ)) (r : Result (Unit {0}) SessionFault)
    → Consumes a b (heard ++ []) → IsAtEnd b → length heard ≤ limit → Went (opening s) heard q (between o o1) → IsLast q t (between o1 o2) r
    → Converses (leads_to limit reads s t (between a b) (between o o2)) r
ends_so reads limit s t q heard a b o o1 o2 (Ok u) taken end few w (inl (text, talks, printed)) = record {
  heard = heard;
  unheard = [];
  taken = taken;
  few = few;
  ends = inl (
    (refl, end),
    record {
      lines = w.talked.lines;
      rest = q.line;
      spelled = w.talked.spelled;
      text = w.text ++ text;
      talks = Talks-more w.talked.lines (last_line q.line) s q.session t 1 q.number w.text text w.talked.count w.talked.talks talks;
      printed = Appends-trans o o1 o2 w.text text w.printed printed;
    },
  );
}
ends_so reads limit s t q heard a b o o1 o2 (Ok u) taken end few w (inr (some, quits, same, keeps)) = record {
  heard = heard;
  unheard = [];
  taken = taken;
  few = few;
  ends =
      let before : Answered (opening s) heard t (between o o2) =
      record { text = w.text; at = q; talked = w.talked; same = same; printed = Appends-kept o o1 o2 w.text w.printed keeps } in
      inr (inl ((refl, end), (record { before = before; quits = quits }, some)));
}
ends_so reads limit s t q heard a b o o1 o2 (Err Write) taken end few w (some, (said, answers, (front, rest, split, printed))) = record {
  heard = heard;
  unheard = [];
  taken = taken;
  few = few;
  ends = inl (
    (refl, end),
    (
      record {
        text = w.text;
        at = q;
        talked = w.talked;
        said = said;
        answers = answers;
        front = front;
        rest = rest;
        split = split;
        printed = Appends-trans o o1 o2 w.text front w.printed printed;
      },
      some,
    ),
  );
}
ends_so reads limit s t q heard a b o o1 o2 (Err (Failed kind)) taken end few w last = absurd last
ends_so reads limit s t q heard a b o o1 o2 (Err (Unending interrupted)) taken end few w last = absurd last
ends_so reads limit s t q heard a b o o1 o2 (Err Memory) taken end few w last = absurd last
ends_so reads limit s t q heard a b o o1 o2 (Err TooLong) taken end few w last = absurd last

-- the input ends: the conversation ends as is said to its last line
pub ends_last : (reads limit room : ℕ) (s t : Session) (q : Standing) (a b c o o1 o2 : Option (List ℕ)) (r : Result (Unit {0}) SessionFault)
    → Listened limit room s q (between a b) (between o o1) → Consumes b c [] → IsAtEnd c → IsLast q t (between o1 o2) r
    → Converses (leads_to limit reads s t (between a c) (between o o2)) r
ends_last reads limit room s t q a b c o o1 o2 r l none end last =
    ends_so reads limit s t q l.heard a c o o1 o2 r (Consumes-trans a b c l.heard [] l.taken none) end (omega (arith, l.rest)) l.went last

-- ---- a piece that is not heard to its end

-- what of it was heard, after all before
record Piece (limit : ℕ) (s : Session) (r : Standing) (commands out : Stream) (result : Result Bool SessionFault) : Type 0 where
  heard : List ℕ
  behind : List ℕ
  unheard : List ℕ
  taken : Consumes commands.before commands.after (heard ++ unheard)
  few : length heard ≤ limit
  comes : IsHeard (opening s) heard behind r out result

piece_of : (limit room : ℕ) (s : Session) (q r : Standing) (a b c o o1 o2 : Option (List ℕ)) (fits over : List ℕ) (result : Result Bool SessionFault)
    → Listened limit room s q (between a b) (between o o1) → Consumes b c (fits ++ over) → length fits ≤ room → Hears q fits r (between o1 o2) result
    → Piece limit s r (between a c) (between o o2) result
piece_of limit room s q r a b c o o1 o2 fits over result l taken few h =
    let all = hears_after (opening s) q r l.heard fits l.went.text o o1 o2 result l.went.talked l.went.printed h in
    let P : List ℕ → Type 0 = Consumes a c in
    let is = sym (append_assoc l.heard fits over) ∙ ap (λ x. x ++ over) all.split ∙ append_assoc all.heard all.unheard over in
    record {
      heard = all.heard;
      behind = all.unheard;
      unheard = all.unheard ++ over;
      taken = subst P is (Consumes-trans a b c l.heard (fits ++ over) l.taken taken);
      few = omega (arith, l.rest, few, ap length all.split, length-append l.heard fits, length-append all.heard all.unheard);
      comes = all.comes;
    }

-- a line of a piece ends the session: the conversation ends there without a fault
pub ends_quit : (reads limit room : ℕ) (s : Session) (q r : Standing) (a b c o o1 o2 : Option (List ℕ)) (fits over : List ℕ)
    → Listened limit room s q (between a b) (between o o1) → Consumes b c (fits ++ over) → length fits ≤ room → Hears q fits r (between o1 o2) (Ok false)
    → Converses (leads_to limit reads s r.session (between a c) (between o o2)) (Ok tt)
ends_quit reads limit room s q r a b c o o1 o2 fits over l taken few h =
    let p = piece_of limit room s q r a b c o o1 o2 fits over (Ok false) l taken few h in
    record { heard = p.heard; unheard = p.unheard; taken = p.taken; few = p.few; ends = inr (inr p.comes) }

fault_of : (reads limit : ℕ) (s : Session) (r : Standing) (a c o o2 : Option (List ℕ)) (e : SessionFault)
    → Piece limit s r (between a c) (between o o2) (Err e)
    → Converses (leads_to limit reads s r.session (between a c) (between o o2)) (Err e)
fault_of reads limit s r a c o o2 Write p = record { heard = p.heard; unheard = p.unheard; taken = p.taken; few = p.few; ends = inr p.comes }
fault_of reads limit s r a c o o2 Memory p = record { heard = p.heard; unheard = p.unheard; taken = p.taken; few = p.few; ends = p.comes }
fault_of reads limit s r a c o o2 (Failed kind) p = absurd p.comes
fault_of reads limit s r a c o o2 (Unending interrupted) p = absurd p.comes
fault_of reads limit s r a c o o2 TooLong p = absurd p.comes

-- a piece is heard up to a fault: the conversation ends with it
pub ends_fault : (reads limit room : ℕ) (s : Session) (q r : Standing) (a b c o o1 o2 : Option (List ℕ)) (fits over : List ℕ) (e : SessionFault)
    → Listened limit room s q (between a b) (between o o1) → Consumes b c (fits ++ over) → length fits ≤ room → Hears q fits r (between o1 o2) (Err e)
    → Converses (leads_to limit reads s r.session (between a c) (between o o2)) (Err e)
ends_fault reads limit room s q r a b c o o1 o2 fits over e l taken few h =
    fault_of reads limit s r a c o o2 e (piece_of limit room s q r a b c o o1 o2 fits over (Err e) l taken few h)

-- bytes after the limit are left
pub ends_long : (reads limit room : ℕ) (s : Session) (q r : Standing) (a b c o o1 o2 : Option (List ℕ)) (fits over : List ℕ)
    → Listened limit room s q (between a b) (between o o1) → Consumes b c (fits ++ over) → length fits ≡ room → 0 < length over
    → Hears q fits r (between o1 o2) (Ok true)
    → Converses (leads_to limit reads s r.session (between a c) (between o o2)) (Err TooLong)
ends_long reads limit room s q r a b c o o1 o2 fits over l taken full more h =
    let w = went_more (opening s) q r l.heard fits o o1 o2 l.went (went_all q r fits o1 o2 h) in
    let all : length (l.heard ++ fits) ≡ limit = omega (arith, l.rest, full, length-append l.heard fits) in
    let P : List ℕ → Type 0 = Consumes a c in
    record {
      heard = l.heard ++ fits;
      unheard = over;
      taken = subst P (sym (append_assoc l.heard fits over)) (Consumes-trans a b c l.heard (fits ++ over) l.taken taken);
      few = omega (arith, all);
      ends = (all, more, record { text = w.text; at = r; talked = w.talked; same = refl; printed = w.printed });
    }

-- ---- what is said to a last line without its end

said_last : (s t : Session) (n : ℕ) (line : List ℕ) (o o' : Option (List ℕ)) (text : List ℕ) → 0 < length line → Replies s n line text t → Appends o o' text
    → IsLast (record { session = s; number = n; line = line }) t (between o o') (Ok tt)
said_last s t n [] o o' text more answers printed = absurd (omega (arith, more))
said_last s t n (b ∷ line) o o' text more answers printed = inl (text, Talks-one s t n (b ∷ line) text answers, printed)

-- what is said to a line at its end is said to a last one without an end, where it is not empty
pub last_said : (p : Standing) (t : Session) (o o' : Option (List ℕ)) (goes_on : Bool) → 0 < length p.line → IsSaid p t (between o o') (Ok goes_on)
    → IsLast p t (between o o') (Ok tt)
last_said p t o o' true more (text, answers, printed) = said_last p.session t p.number p.line o o' text more answers printed
last_said p t o o' false more (quits, same, keeps) = inr (more, quits, same, keeps)
