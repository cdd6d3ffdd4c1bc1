use Rattle.std.proofs.Common.{◌≡◌, sym, ap, ◌∙◌, false, length, ◌==◌, ◌≤◌, nat_eq, arith}
use Rattle.std.specs.Cmp.Lexicographic.{pointwise}
use Rattle.std.specs.List.{list_all}
use Rattle.llb_tree.specs.Path.{is_dot, is_dots, is_name_byte}
use Rattle.llb_tree.proofs.NameTests.{name_by_bytes}
use Rattle.llb_tree.proofs.name.Name.is_name.Goals as goal

pub returns : goal.returns
returns c =
    let whole = c.as_bytes-bytes.ensures.value in
    let some : (length c.args.text.now == 0) ≡ false = sym (ap (λ t. length t == 0) whole) ∙ sym c.is_empty.ensures ∙ c.if-is_empty.false in
    let short : length c.args.text.now ≤ 255 = omega (arith, ap length whole) in
    let dot : is_dot c.args.text.now ≡ false = ap is_dot (sym whole)
    ∙ ap (λ x. pointwise nat_eq c.as_bytes-bytes.result.now x) (sym c.as_slice.ensures) ∙ sym c.eq.ensures ∙ c.if-eq.false in
    let dots : is_dots c.args.text.now ≡ false = ap is_dots (sym whole)
    ∙ ap (λ x. pointwise nat_eq c.as_bytes-bytes.result.now x) (sym c.as_slice-2.ensures) ∙ sym c.eq-2.ensures ∙ c.if-eq-2.false in
    name_by_bytes c.args.text.now c.is_plain.result some short dot dots (c.is_plain.ensures ∙ ap (list_all is_name_byte) whole) c.utf8.text
