-- The replies to lines, and to the bytes that spell them, one piece after the other.
use Rattle.std.proofs.Common.{◌≡◌, ℕ, ◌+◌, ◌≤◌, List, [], ◌∷◌, ◌++◌, length, refl, sym, ap, ◌∙◌, subst, append_assoc, append-nil, length-append, arith}
use Rattle.llb_session.specs.declared.session.Session.{Session}
use Rattle.llb_session.specs.LineReplies.{Replies}
use Rattle.llb_session.specs.Conversation.{IsLine, Spelled, Talks, Standing, Talked}
use Rattle.llb_session.proofs.LinesOfBytes.{Spelled-more, Spelled-none, few_lines}

-- more lines after some
pub Talks-more : (ls ms : List (List ℕ)) (s t u : Session) (n m : ℕ) (text more : List ℕ) → m ≡ n + length ls
    → Talks s n ls text t → Talks t m ms more u → Talks s n (ls ++ ms) (text ++ more) u
Talks-more [] ms s t u n m text more at (none, same) b =
    let P : Session → ℕ → List ℕ → Type 0 = λ v k x. Talks v k ms x u in
    let here : m ≡ n = omega arith in
    subst (λ x. P s n x) (ap (λ x. x ++ more) (sym none)) (subst (λ k. P s k more) here (subst (λ v. P v m more) same b))
Talks-more (l ∷ ls) ms s t u n m text more at (said, later, v, first, behind, split) b =
    let rest = Talks-more ls ms v t u (n + 1) m later more (omega arith) behind b in
    (said, later ++ more, v, first, rest, ap (λ x. x ++ more) split ∙ append_assoc said later more)

-- one line
pub Talks-one : (s t : Session) (n : ℕ) (line text : List ℕ) → Replies s n line text t → Talks s n (line ∷ []) text t
Talks-one s t n line text a = (text, [], t, a, (refl, refl), sym (append-nil text))

-- more bytes after some
pub Talked-more : (p q r : Standing) (bytes more text said : List ℕ) → Talked p bytes text q → Talked q more said r → Talked p (bytes ++ more) (text ++ said) r
Talked-more p q r bytes more text said a b = record {
  lines = a.lines ++ b.lines;
  spelled =
      let P : List ℕ → Type 0 = Spelled (a.lines ++ b.lines) r.line in
      subst P (append_assoc p.line bytes more) (Spelled-more a.lines b.lines q.line r.line (p.line ++ bytes) more a.spelled b.spelled);
  talks = Talks-more a.lines b.lines p.session q.session r.session p.number q.number text said a.count a.talks b.talks;
  count = omega (arith, a.count, b.count, length-append a.lines b.lines);
}

-- where no bytes are heard, no line is, and there is no reply
pub Talked-none : (p : Standing) → IsLine p.line → Talked p [] [] p
Talked-none p is = record { lines = []; spelled = Spelled-none p.line is; talks = (refl, refl); count = omega arith }

-- no more lines than bytes
pub few_said : (p q : Standing) (bytes text : List ℕ) → Talked p bytes text q → q.number + length q.line ≤ p.number + (length p.line + length bytes)
few_said p q bytes text a = omega (arith, a.count, few_lines a.lines q.line (p.line ++ bytes) a.spelled, length-append p.line bytes)
