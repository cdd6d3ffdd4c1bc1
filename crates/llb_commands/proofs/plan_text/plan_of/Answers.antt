use Rattle.std.proofs.Common.{◌≡◌, ◌++◌, Bool, List, sym, ap, subst, string_bytes, ◌∙◌}
use Rattle.llb_commands.specs.PlanText.{planned_lines, whole_line}
use Rattle.llb_commands.proofs.TextsInMemory.{inside, ok_of}
use Rattle.llb_commands.proofs.plan_text.plan_of.Goals as goal

pub returns : goal.returns
returns c =
    let some = c.some_makes_digest-some.result in
    let none = c.writes_no_mark.result in
    let marks = c.in-Ok.marks.items in
    let text = string_bytes c.in_ok-text.text in
    let by_marks = subst (λ (bs : List Bool). ok_of (planned_lines c.vertices.result.now bs some) ≡ ok_of text) c.as_slice.ensures.value c.in_ok-text.ensures in
    let lines = subst (λ vs. ok_of (planned_lines vs marks some) ≡ ok_of text) c.vertices.ensures.all by_marks in
    record {
      marks = marks;
      as_many = c.in-Ok.ensures.count;
      exact = c.in-Ok.ensures.exact;
      some = some;
      digests = c.some_makes_digest-some.ensures;
      none = none;
      unmarked = c.writes_no_mark.ensures;
      same = c.in_ok-push_str.ensures.bytes ∙ ap (λ end. text ++ end) c.whole_line.ensures ∙ ap (λ front. front ++ whole_line none) (sym (inside lines));
    }
