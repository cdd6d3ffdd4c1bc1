use Rattle.std.proofs.Common.{◌≡◌, ℕ, zero, suc, ◌-◌, List, [], ◌∷◌, length, set, get_or, refl, ap, sym, ◌∙◌, arith}
use Rattle.llb_glob.specs.declared.class.Span.{Span}
use Rattle.llb_glob.specs.ClassValue.{ClassValue}
use Rattle.llb_glob.specs.contracts.class.Class.{the_view}
use Rattle.llb_glob.specs.Class.{extended}
use Rattle.llb_glob.proofs.class.Class.extend.Goals as goal
use Rattle.llb_glob.proofs.class.Class.extend.Goals.{in-Some, in_default}

-- the last item is at the last place
extended-last :
    (spans : List Span) (k high : ℕ) (last : Span)
    → length spans ≡ suc k
    → last ≡ get_or spans k last
    → extended spans high ≡ set spans k (record last { high = high })
extended-last [] k high last long is = absurd (omega arith)
extended-last (span ∷ []) zero high last long is = ap (λ (s : Span). let t : Span = record s { high = high } in t ∷ []) (sym is)
extended-last (span ∷ []) (suc k) high last long is = absurd (omega arith)
extended-last (span ∷ next ∷ spans) zero high last long is = absurd (omega arith)
extended-last (span ∷ next ∷ spans) (suc k) high last long is =
    ap (λ rest. span ∷ rest) (extended-last (next ∷ spans) k high last (omega arith) is)

-- where there is no item, nothing changes
extended-none : (spans : List Span) (high : ℕ) → length spans ≡ 0 → extended spans high ≡ spans
extended-none [] high none = refl
extended-none (span ∷ spans) high none = absurd (omega arith)

pub returns : goal.returns
returns c =
    let items = c.self.inside.spans.items in
    let seen = λ (spans : List Span). let class : ClassValue = record { excludes = c.self.inside.excludes; spans = spans } in class in
    let before = ap (λ (class : ClassValue). let new : ClassValue = record class { spans = extended class.spans c.args.high } in new) c.self.view_is in
    elim c.match-last_mut.branch [
      | in-Some w ↦
          let n = c.self.inside.spans.len in
          let long : length items ≡ suc (n - 1) = let some = w.in-Some.ensures.item.3.0 in let fits = c.self.inside.spans.ok.0 in omega arith in
          let here = extended-last items (n - 1) c.args.high w.in-Some.last.now long w.in-Some.ensures.value in
          ap the_view w.self-inside-is ∙ ap seen (sym here) ∙ before
      | in_default w ↦
          let none : length items ≡ 0 = let short = w.in_default.ensures.item.3 in omega arith in
          ap the_view w.self-inside-is ∙ ap seen (sym (extended-none items c.args.high none)) ∙ before
    ]
