use Rattle.std.proofs.Common.{◌≡◌, length, arith, rules, ap, ◌∙◌}
use Rattle.std.proofs.lemmas.Grind.{common_steps}
use Rattle.llb_work.proofs.ThreadLists.{keeps_pushed}
use Rattle.llb_work.proofs.PassFractions.{twice}
use Rattle.llb_work.proofs.thread_scope.Crew.all_serve.Goals as goal

pub loop-news-preserved : goal.loop-news-preserved
loop-news-preserved g c =
    let was = c.loop-news.invariant in
    let w = c.loop-news.w in
    let threads = c.loop-news.threads.items in
    let more = c.push_reserved.new.self.items in
    let len : length threads ≡ w = search rules in
    record {
      place = grind (arith, common_steps);
      parts = search rules;
      amount = search rules;
      len = search rules;
      room = search rules;
      of = c.split-kept.ensures.passes.0;
      num = ap (λ v. v.num) c.split-kept.ensures.hands.0 ∙ was.num;
      den = omega (arith, twice w, ap (λ v. v.den) c.split-kept.ensures.hands.0, was.den);
      threads = keeps_pushed c.args.self.queue.now w more threads c.start.result c.push_reserved.ensures.items len was.threads c.start.ensures;
    }
