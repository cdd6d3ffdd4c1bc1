use Rattle.std.proofs.Common.{◌≡◌, ◌<◌, ◌&&◌, true, false, List, length, get_or, nat_lt, sym, ap, ◌∙◌, subst}
use Rattle.llb_cache.specs.Caches.{Row}
use Rattle.llb_cache.specs.Key.{same_key}
use Rattle.llb_cache.specs.RowOrder.{key_at}
use Rattle.llb_cache.proofs.RowInsertion.{key_read}
use Rattle.llb_cache.proofs.rows.has_key.Goals as goal

pub returns-in-Some : goal.returns-in-Some
returns-in-Some c =
    let es = c.args.rows.now.entries.items in
    let i = c.args.row in
    let e = c.in-Some.entry.now in
    let found = c.in-Some.ensures.lookup in
    let low = found.3 in
    let there : nat_lt i (length es) ≡ true = ap (λ (es : List Row). nat_lt i (length es)) (sym c.deref.ensures.value) ∙ sym found.0 in
    let below : i < length es = subst (λ (es : List Row). i < length es) c.deref.ensures.value low.0 in
    let read : e ≡ get_or es i e = found.1 ∙ ap (λ (es : List Row). get_or es i e) c.deref.ensures.value in
    c.is.ensures ∙ ap (same_key c.args.key.now) (c.by_ref.ensures ∙ key_read es i e below read)
    ∙ ap (λ b. b && same_key c.args.key.now (key_at es i)) (sym there)

pub returns-in-None : goal.returns-in-None
returns-in-None c =
    let es = c.args.rows.now.entries.items in
    let i = c.args.row in
    let none : nat_lt i (length es) ≡ false = ap (λ (es : List Row). nat_lt i (length es)) (sym c.deref.ensures.value) ∙ sym c.in-None.ensures.lookup.0 in
    ap (λ b. b && same_key c.args.key.now (key_at es i)) (sym none)
