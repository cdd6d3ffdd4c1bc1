use Rattle.std.proofs.Common.{◌≡◌, ℕ, List, true, false, IsTrue, inl, inr, refl, sym, subst, arith}
use Rattle.std.proofs.lemmas.Result.{err_from_is_err_and}
use Rattle.llb_ops.specs.declared.op.Op.{Op}
use Rattle.llb_loader.specs.declared.row.Row.{Row}
use Rattle.llb_loader.specs.declared.fault.LoadFault.{LoadFault}
use Rattle.llb_loader.specs.RowLookup.{AllSame, Collides, RefusesCollision}
use Rattle.llb_loader.specs.GraphOfRows.{IsApart, Refused}
use Rattle.llb_loader.specs.GraphOfRowsStages.{AreNames}
use Rattle.llb_loader.specs.RowsWithoutBytes.{with_bytes}
use Rattle.llb_loader.proofs.BytesOfRows.{ops_with, refuses_with, both_apart, with_len, with_digest}
use Rattle.llb_loader.proofs.RefusalsWithoutBytes.{refused_rows}
use Rattle.llb_loader.proofs.graph_of_rows.Linked.of.Goals as goal

pub returns-in_err-ops-clause-refused : goal.returns-in_err-ops-clause-refused
returns-in_err-ops-clause-refused c =
    let p = err_from_is_err_and c.from_residual.result c.from_residual.ensures.1 in
    rw (p.1, p.2) (λ m. inl (refuses_with c.args.rows.items c.args.entries.items c.in_err-ops.field-0.0 c.requires.len (c.in_err-ops.ensures.refused m)))

pub returns-then-few-clause-refused : goal.returns-then-few-clause-refused
returns-then-few-clause-refused c = λ _. inr (
  c.in_ok-ops.ops.items,
  ops_with c.args.rows.items c.args.entries.items c.in_ok-ops.ops.items c.requires.len c.in_ok-ops.ensures.read,
  subst (λ (xs : List Row). AllSame (with_bytes xs c.args.entries.items)) c.as_slice-titles.ensures.value
      (subst (λ (bs : List (List ℕ)). AllSame (with_bytes c.as_slice-titles.result.now bs)) c.as_slice.ensures.value (c.if-few.ensures.0 refl)),
)

pub returns-in_err-index-clause-refused : goal.returns-in_err-index-clause-refused
returns-in_err-index-clause-refused c =
    let p = err_from_is_err_and c.from_residual-in_err-index.result c.from_residual-in_err-index.ensures.1 in
    let rows = c.args.rows.items in
    let es = c.args.entries.items in
    let ops = c.in_ok-ops.ops.items in
    let with_ops = ops_with rows es ops c.requires.len c.in_ok-ops.ensures.read in
    let several : ¬ AllSame (with_bytes c.args.rows.items c.args.entries.items) = λ a. (let t : IsTrue false = c.if-few.ensures.1
    (subst (λ (xs : List Row). AllSame (with_bytes xs c.as_slice.result.now)) (sym c.as_slice-titles.ensures.value)
    (subst (λ (bs : List (List ℕ)). AllSame (with_bytes c.args.rows.items bs)) (sym c.as_slice.ensures.value) a)) in let x : false ≡ true = t in cc) in
    rw (p.1, p.2) (λ m.
    let r = subst (λ (xs : List Row). RefusesCollision (with_bytes xs c.args.entries.items) c.in_err-index.field-0.0) c.as_slice-titles.ensures.value
    (subst (λ (bs : List (List ℕ)). RefusesCollision (with_bytes c.as_slice-titles.result.now bs) c.in_err-index.field-0.0) c.as_slice-2.ensures.value
    (c.in_err-index.ensures.refused m)) in
    inr (
      ops,
      with_ops,
      subst (λ (e : LoadFault). Refused (with_bytes c.args.rows.items c.args.entries.items) c.in_ok-ops.ops.items e) (sym r.1)
          (several, r.2),
    ))

pub of-requires-clause-apart : goal.of-requires-clause-apart
of-requires-clause-apart c =
    let rows = c.args.rows.items in
    let es = c.args.entries.items in
    let ops = c.in_ok-ops.ops.items in
    let with_ops = ops_with rows es ops c.requires.len c.in_ok-ops.ensures.read in
    let several : ¬ AllSame (with_bytes c.args.rows.items c.args.entries.items) = λ a. (let t : IsTrue false = c.if-few.ensures.1
    (subst (λ (xs : List Row). AllSame (with_bytes xs c.as_slice.result.now)) (sym c.as_slice-titles.ensures.value)
    (subst (λ (bs : List (List ℕ)). AllSame (with_bytes c.args.rows.items bs)) (sym c.as_slice.ensures.value) a)) in let x : false ≡ true = t in cc) in
    let apart : (k : ℕ) → ¬ Collides (with_bytes c.args.rows.items c.args.entries.items) k =
    subst (λ (xs : List Row). (k : ℕ) → ¬ Collides (with_bytes xs c.args.entries.items) k) c.as_slice-titles.ensures.value
    (subst (λ (bs : List (List ℕ)). (k : ℕ) → ¬ Collides (with_bytes c.as_slice-titles.result.now bs) k) c.as_slice-2.ensures.value
    c.in_ok-index.ensures.apart) in
    let both = both_apart rows es c.requires.len c.requires.bare several apart in
    subst (λ (xs : List Row). IsApart xs) (sym c.as_slice-titles.ensures.value) both.1

pub returns-in_err-names-clause-refused : goal.returns-in_err-names-clause-refused
returns-in_err-names-clause-refused c =
    let p = err_from_is_err_and c.from_residual-in_err-names.result c.from_residual-in_err-names.ensures.1 in
    let rows = c.args.rows.items in
    let es = c.args.entries.items in
    let ops = c.in_ok-ops.ops.items in
    let with_ops = ops_with rows es ops c.requires.len c.in_ok-ops.ensures.read in
    let several : ¬ AllSame (with_bytes c.args.rows.items c.args.entries.items) = λ a. (let t : IsTrue false = c.if-few.ensures.1
    (subst (λ (xs : List Row). AllSame (with_bytes xs c.as_slice.result.now)) (sym c.as_slice-titles.ensures.value)
    (subst (λ (bs : List (List ℕ)). AllSame (with_bytes c.args.rows.items bs)) (sym c.as_slice.ensures.value) a)) in let x : false ≡ true = t in cc) in
    let apart : (k : ℕ) → ¬ Collides (with_bytes c.args.rows.items c.args.entries.items) k =
    subst (λ (xs : List Row). (k : ℕ) → ¬ Collides (with_bytes xs c.args.entries.items) k) c.as_slice-titles.ensures.value
    (subst (λ (bs : List (List ℕ)). (k : ℕ) → ¬ Collides (with_bytes c.as_slice-titles.result.now bs) k) c.as_slice-2.ensures.value
    c.in_ok-index.ensures.apart) in
    let both = both_apart rows es c.requires.len c.requires.bare several apart in
    rw (p.1, p.2) (λ m. inr (
      ops,
      with_ops,
      refused_rows rows (with_bytes rows es) ops (sym (with_len rows es c.requires.len))
          (λ k. with_digest rows es k c.requires.len) both.1 both.0 c.in_err-names.field-0.0
          (subst (λ (xs : List Row). Refused xs c.in_ok-ops.ops.items c.in_err-names.field-0.0) c.as_slice-titles.ensures.value
          (subst (λ (os : List Op). Refused c.as_slice-titles.result.now os c.in_err-names.field-0.0) c.as_slice-4.ensures.value
          (c.in_err-names.ensures.refused m))),
    ))

pub returns-clause-linked : goal.returns-clause-linked
returns-clause-linked c =
    let rows = c.args.rows.items in
    let es = c.args.entries.items in
    let ops = c.in_ok-ops.ops.items in
    let with_ops = ops_with rows es ops c.requires.len c.in_ok-ops.ensures.read in
    let several : ¬ AllSame (with_bytes c.args.rows.items c.args.entries.items) = λ a. (let t : IsTrue false = c.if-few.ensures.1
    (subst (λ (xs : List Row). AllSame (with_bytes xs c.as_slice.result.now)) (sym c.as_slice-titles.ensures.value)
    (subst (λ (bs : List (List ℕ)). AllSame (with_bytes c.args.rows.items bs)) (sym c.as_slice.ensures.value) a)) in let x : false ≡ true = t in cc) in
    let apart : (k : ℕ) → ¬ Collides (with_bytes c.args.rows.items c.args.entries.items) k =
    subst (λ (xs : List Row). (k : ℕ) → ¬ Collides (with_bytes xs c.args.entries.items) k) c.as_slice-titles.ensures.value
    (subst (λ (bs : List (List ℕ)). (k : ℕ) → ¬ Collides (with_bytes c.as_slice-titles.result.now bs) k) c.as_slice-2.ensures.value
    c.in_ok-index.ensures.apart) in
    let both = both_apart rows es c.requires.len c.requires.bare several apart in
    let names = subst (λ (xs : List Row). AreNames xs c.in_ok-ops.ops.items c.in_ok-names.names) c.as_slice-titles.ensures.value
    (subst (λ (os : List Op). AreNames c.as_slice-titles.result.now os c.in_ok-names.names) c.as_slice-4.ensures.value c.in_ok-names.ensures.names) in
    record {
      ops = with_ops;
      len = sym (with_len rows es c.requires.len);
      digests = λ k. with_digest rows es k c.requires.len;
      apart = both.0;
      linked = record {
        few = c.requires.few;
        len = (let a = c.in_ok-ops.ensures.read.len in let b = c.requires.len in omega (arith, a, b));
        within = c.in_ok-ops.ensures.within;
        planned = names.planned;
        named = names.named;
        links = names.links;
        seen = names.seen;
        exact = names.exact;
      };
    }
