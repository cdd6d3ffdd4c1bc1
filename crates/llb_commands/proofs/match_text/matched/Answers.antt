use Rattle.std.proofs.Common.{◌≡◌, ℕ, List, inl, string_bytes, subst}
use Rattle.std.proofs.KnownBytes.{Keeps-refl}
use Rattle.std.proofs.lemmas.Result.{err_from_is_err_and}
use Rattle.llb_commands.specs.MatchText.{IsMatchText, IsRefusedOfTwo}
use Rattle.llb_commands.specs.Running.{IsRefusal}
use Rattle.llb_commands.specs.WrittenPrefix.{PrintsOut}
use Rattle.llb_commands.proofs.MatchedDefinitions.{tells_two}
use Rattle.llb_commands.proofs.RunOutput.{some_map, stream}
use Rattle.llb_commands.proofs.TextsInMemory.{writes_made}
use Rattle.llb_commands.proofs.match_text.matched.Goals as goal

pub returns : goal.returns
returns g c =
    let old = c.args.old.now in
    let bytes = c.in_ok-bytes.bytes.items in
    let left = g.R.Read.remaining c.args.input.now in
    let text = string_bytes c.in_ok-text.text in
    let made = subst (λ (xs : List ℕ). IsMatchText old xs text) c.as_slice.ensures.value c.in_ok-text.ensures.made in
    writes_made (IsMatchText old) (IsRefusedOfTwo old) left text (stream (g.W.Write.contents c.args.out.now) (g.W.Write.contents c.text_over.new.out))
    c.text_over.result (some_map (λ xs. bytes ≡ xs) (λ xs. IsMatchText old xs text) left (λ xs same. subst (λ ys. IsMatchText old ys text) same made)
    c.in_ok-bytes.ensures.read)
    (subst (λ t. PrintsOut (g.W.Write.contents c.args.out.now) (g.W.Write.contents c.text_over.new.out) t c.text_over.result) c.as_str.ensures.value
    c.text_over.ensures.written)
    c.text_over.ensures.no_refusal

pub returns-in_err-text : goal.returns-in_err-text
returns-in_err-text g c =
    let p = err_from_is_err_and c.from_residual-in_err-text.result c.from_residual-in_err-text.ensures.1 in
    let e = c.in_err-text.field-0.0 in
    rw (p.1, p.2) (inl (
      Keeps-refl (g.W.Write.contents c.args.out.now),
      tells_two c.args.old.now c.in_ok-bytes.bytes.items (g.R.Read.remaining c.args.input.now) e c.in_ok-bytes.ensures.read
          (subst (λ xs. IsRefusal e → IsRefusedOfTwo c.args.old.now e xs) c.as_slice.ensures.value c.in_err-text.ensures.refused),
    ))
