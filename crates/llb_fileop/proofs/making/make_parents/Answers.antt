use Rattle.std.proofs.Common.{◌≡◌, ◌<◌, length, rules, arith, ap, ◌∙◌, [], get_or, Err, false}
use Rattle.std.proofs.lemmas.List.{get_or_read}
use Rattle.llb_tree.specs.Tree.{is_memory, parents}
use Rattle.llb_fileop.specs.Making.{make_all}
use Rattle.llb_fileop.proofs.Parents.{made_start, made_fault, made_more, made_end, below_fits, below_grants}
use Rattle.llb_fileop.proofs.making.make_parents.Goals as goal

pub loop-name-init : goal.loop-name-init
loop-name-init c =
    record {
      left = rw c.root-parent.ensures (made_start c.args.meta c.args.path.now c.args.tree.now);
      names = ap length c.root-parent.ensures;
    }

pub returns-in_err-keep_or_make : goal.returns-in_err-keep_or_make
returns-in_err-keep_or_make c =
    let low : c.loop-name.name-index < length c.args.path.now = rw c.names-name-items.ensures.all at c.loop-name-test.true in
    let f : is_memory c.in_err-keep_or_make.field-0.0 ≡ false → make_all c.args.meta (parents c.args.path.now) c.args.tree.now ≡ Err
    c.in_err-keep_or_make.field-0.0
    = λ m. made_fault c.args.meta c.args.path.now c.args.tree.now c.loop-name.name-index c.loop-name.parent c.loop-name.tree _ c.loop-name.invariant
    low (c.in_err-keep_or_make.ensures.gives m) in
    search rules

pub returns-in_err-push : goal.returns-in_err-push
returns-in_err-push c =
    let low : c.loop-name.name-index < length c.args.path.now = rw c.names-name-items.ensures.all at c.loop-name-test.true in
    let short : length c.loop-name.parent < 128 = omega (arith, c.loop-name.invariant.names, c.names-name-items.ensures.short) in
    let f : is_memory c.in_err-push.field-0.0 ≡ false → make_all c.args.meta (parents c.args.path.now) c.args.tree.now ≡ Err c.in_err-push.field-0.0
    = λ m. below_grants c.loop-name.parent c.in_ok-copy.field-0 c.in_err-push.field-0.0 short (c.in_err-push.ensures.gives m) in
    search rules

pub loop-name-preserved : goal.loop-name-preserved
loop-name-preserved c =
    let low : c.loop-name.name-index < length c.args.path.now = rw c.names-name-items.ensures.all at c.loop-name-test.true in
    let at : c.name-item.result ≡ get_or c.args.path.now c.loop-name.name-index []
    = get_or_read c.args.path.now _ _ low (rw c.names-name-items.ensures.all at c.name-item.is) [] in
    let same : c.in_ok-copy.field-0 ≡ c.name-item.result = search rules in
    let low2 : length c.loop-name.parent < 128 = omega (arith, c.loop-name.invariant.names, c.names-name-items.ensures.short) in
    let pushed = below_fits c.loop-name.parent c.push.new.self c.in_ok-copy.field-0 low2 c.in_ok-push.ensures.gives in
    rw pushed (made_more c.args.meta c.args.path.now c.args.tree.now c.loop-name.name-index c.loop-name.parent c.loop-name.tree
    c.keep_or_make.new.tree c.in_ok-copy.field-0 c.loop-name.invariant low (search rules) (same ∙ at))

pub returns : goal.returns
returns c =
    made_end c.args.meta c.args.path.now c.args.tree.now c.loop-name.name-index c.loop-name.parent c.loop-name.tree c.loop-name.invariant
    (rw c.names-name-items.ensures.all at c.loop-name-test.false)
