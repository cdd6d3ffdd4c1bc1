use Rattle.std.proofs.Common.{◌≡◌, ◌<◌, length, refl, ◌∙◌, arith, rules, length-set}
use Rattle.std.proofs.lemmas.Grind.{common_steps}
use Rattle.std.specs.Vec.Iter.{into_iter_items}
use Rattle.llb_ready.specs.QueuePasses.{hand_of}
use Rattle.llb_work.proofs.WorkerTallies.{zeros, sum_more, rest_more}
use Rattle.llb_work.proofs.ThreadLists.{keeps_next, keeps_same}
use Rattle.llb_work.proofs.PassFractions.{pow_pos, joined_none, joined_more, joined_all, den_more}
use Rattle.llb_work.proofs.thread_scope.Crew.gathered.Goals as goal

pub loop-thread-init : goal.loop-thread-init
loop-thread-init g c = record {
  place = search rules;
  parts = c.requires.empty.0;
  amount = c.requires.empty.1;
  len = refl;
  none = λ k _. zeros 64 k;
  of = c.requires.rest.0;
  some = omega (arith, c.requires.rest.2, pow_pos c.args.n);
  joined = joined_none c.args.n (hand_of c.args.rest) c.requires.rest.1 c.requires.rest.2;
  threads = keeps_same c.args.self.queue.now 0 _ c.args.threads.items (search rules) c.requires.threads;
}

pub join-tally-requires : goal.join-tally-requires
join-tally-requires g c =
    let ahead = into_iter_items c.loop-thread.thread-iterator in
    let behind = into_iter_items c.next.new.self in
    (keeps_next c.args.self.queue.now c.loop-thread.at c.in-Some.thread ahead behind c.in-Some.ensures.steps.0 c.loop-thread.invariant.threads).0

pub loop-thread-preserved : goal.loop-thread-preserved
loop-thread-preserved g c =
    let was = c.loop-thread.invariant in
    let made = c.loop-thread.made in
    let at = c.loop-thread.at in
    let before = hand_of c.loop-thread.rest in
    let part = hand_of c.join-tally.result.pass in
    let after = hand_of c.join-rest.result in
    let ahead = into_iter_items c.loop-thread.thread-iterator in
    let behind = into_iter_items c.next.new.self in
    let low : at < length made = grind (arith, common_steps) in
    record {
      place = grind (arith, common_steps);
      parts = search rules;
      amount = omega (arith, sum_more made at c.join-tally.result.tally.made low was.none);
      len = length-set made at _ ∙ was.len;
      none = rest_more made at c.join-tally.result.tally.made was.none;
      of = c.join-rest.ensures.pass;
      some = den_more at before part after c.join-rest.ensures.hand c.join-tally.ensures.2 was.some;
      joined = joined_more c.args.n at before part after c.join-rest.ensures.hand c.join-tally.ensures.1 c.join-tally.ensures.2 was.joined;
      threads = (keeps_next c.args.self.queue.now at c.in-Some.thread ahead behind c.in-Some.ensures.steps.0 was.threads).1;
    }

pub returns : goal.returns
returns g c =
    let was = c.loop-thread.invariant in
    let all : c.loop-thread.at ≡ c.args.n = grind (arith, common_steps) in
    record {
      parts = was.parts ∙ all;
      amount = was.amount;
      of = was.of;
      whole = joined_all c.args.n c.loop-thread.at (hand_of c.loop-thread.rest) all was.joined;
    }
