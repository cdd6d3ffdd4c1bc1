use Rattle.std.proofs.Common.{◌≡◌, ◌<◌, [], length, sym, ◌∙◌, ap, arith, true, false, refl}
use Rattle.std.proofs.lemmas.List.{get_or_read}
use Rattle.llb_loader.specs.declared.row.Row.{Row}
use Rattle.llb_loader.specs.RowLookup.{row_at}
use Rattle.llb_loader.specs.RowsWithoutBytes.{with_bytes}
use Rattle.llb_loader.proofs.FirstRowOfDigest.{row_read, below_step}
use Rattle.llb_loader.proofs.BytesOfRows.{with_len, same_with, digest_with, entry_with}
use Rattle.llb_loader.proofs.row_lookup.all_same.Goals as goal

pub returns-then-not-same : goal.returns-then-not-same
returns-then-not-same c = (
  λ t. (let x : false ≡ true = t in cc),
  λ all. (
      let h = c.loop-k-test.true in
      let n = c.requires in
      let l = with_len c.args.rows.now c.args.entries.now c.requires in
      let k : c.loop-k.k < length c.args.entries.now = omega (arith, h, n) in
      let z : 0 < length c.args.entries.now = omega (arith, h, n) in
      let o : 0 < length c.args.rows.now = omega (arith, h) in
      let same = all c.loop-k.k (omega (arith, h, l)) in
      c.if-not-same.ensures.1 (
        ap (λ (r : Row). r.digest) (sym (row_read c.args.rows.now c.loop-k.k c.index-rows-k.result c.loop-k-test.true c.index-rows-k.is ∙ c.index-rows-k.is))
            ∙ digest_with c.args.rows.now c.args.entries.now c.requires c.loop-k.k same
            ∙ ap (λ (r : Row). r.digest) (row_read c.args.rows.now 0 c.index-rows-0.result o c.index-rows-0.is ∙ c.index-rows-0.is),
        get_or_read c.args.entries.now c.loop-k.k c.index-entries-k.result k c.index-entries-k.is []
            ∙ entry_with c.args.rows.now c.args.entries.now c.requires c.loop-k.k same
            ∙ sym (get_or_read c.args.entries.now 0 c.index-entries-0.result z c.index-entries-0.is []),
      )),
)

pub loop-k-preserved : goal.loop-k-preserved
loop-k-preserved c =
    let h = c.loop-k-test.true in
    let n = c.requires in
    let k : c.loop-k.k < length c.args.entries.now = omega (arith, h, n) in
    let z : 0 < length c.args.entries.now = omega (arith, h, n) in
    let o : 0 < length c.args.rows.now = omega (arith, h) in
    let s = c.if-not-same.ensures.0 refl in
    below_step (λ j. row_at (with_bytes c.args.rows.now c.args.entries.now) j ≡ row_at (with_bytes c.args.rows.now c.args.entries.now) 0)
    c.loop-k.k c.loop-k.invariant
    (same_with c.args.rows.now c.args.entries.now c.requires c.loop-k.k
    (ap (λ (r : Row). r.digest) (row_read c.args.rows.now c.loop-k.k c.index-rows-k.result c.loop-k-test.true c.index-rows-k.is ∙ c.index-rows-k.is)
    ∙ s.0 ∙ sym (ap (λ (r : Row). r.digest) (row_read c.args.rows.now 0 c.index-rows-0.result o c.index-rows-0.is ∙ c.index-rows-0.is)))
    (sym (get_or_read c.args.entries.now c.loop-k.k c.index-entries-k.result k c.index-entries-k.is [])
    ∙ s.1 ∙ get_or_read c.args.entries.now 0 c.index-entries-0.result z c.index-entries-0.is []))

pub returns : goal.returns
returns c = (
  λ _ k h. c.loop-k.invariant k
      (let f = c.loop-k-test.false in let n = with_len c.args.rows.now c.args.entries.now c.requires in omega (arith, h, n, f)),
  λ _. refl,
)
