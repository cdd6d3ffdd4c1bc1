use Rattle.std.proofs.Common.{◌≡◌, ◌∙◌, Some, length, refl, ap, slice_get, arith}
use Rattle.std.proofs.lemmas.List.{length_push}
use Rattle.std.proofs.lemmas.Option.{slice_get_read}
use Rattle.llb_model.proofs.Lists.{got_within}
use Rattle.llb_laws.specs.AgreedSources.{VertexAgrees}
use Rattle.llb_laws.proofs.AgreedSources.{next_mark}
use Rattle.llb_laws.proofs.agreed_sources.agreements.Goals as goal

pub loop-vertex-preserved : goal.loop-vertex-preserved
loop-vertex-preserved c =
    let xs = c.args.vertices.now in
    let i = c.loop-vertex.vertex-index in
    let x = c.vertex-item.result in
    let b = c.in_ok-vertex_agrees.field-0 in
    let marks = c.loop-vertex.marks.items in
    let there : slice_get xs i ≡ Some x = slice_get_read xs (length xs) i x refl c.loop-vertex-test.true c.vertex-item.is in
    let longer = ap length c.in_ok-push.ensures.items ∙ length_push marks b in
    let before = c.loop-vertex.invariant.as_many in
    record {
      as_many = omega (arith, longer, before);
      within = let low = c.loop-vertex-test.true in omega (arith, low);
      exact = next_mark (VertexAgrees xs c.args.locals.now c.args.newer.now) xs i x marks c.push.new.self.items b there before c.in_ok-push.ensures.items
          c.in_ok-vertex_agrees.ensures c.loop-vertex.invariant.exact;
    }

pub returns : goal.returns
returns c = record {
  as_many = omega (arith, c.loop-vertex.invariant.as_many, c.loop-vertex.invariant.within, c.loop-vertex-test.false);
  exact = λ k x at. c.loop-vertex.invariant.exact k x (omega (arith, got_within c.args.vertices.now k x at, c.loop-vertex-test.false)) at;
}
