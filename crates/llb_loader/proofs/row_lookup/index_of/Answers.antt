use Rattle.std.proofs.Common.{rules, ◌≡◌, ℕ, ◌+◌, ◌<◌, List, [], Option, Some, None, length, get_or, refl, sym, ◌∙◌, ap, subst, arith, ◌≢◌, true, false, IsTrue}
use Rattle.std.proofs.lemmas.List.{get_or_read, length_push}
use Rattle.std.proofs.lemmas.Map.Text.{btree_map_updates_str}
use Rattle.std.specs.Borrow.{Bor}
use Rattle.std.specs.Str.{bytes_eq}
use Rattle.std.specs.Map.{update}
use Rattle.std.specs.BTreeMap.{get_by}
use Rattle.std.specs.Cmp.Lexicographic.{slice_cmp}
use Rattle.std.specs.Ordering.{nat_cmp}
use Rattle.llb_loader.specs.declared.row.Row.{Row}
use Rattle.llb_loader.specs.RowLookup.{row_at, Collides}
use Rattle.llb_loader.specs.RowsWithoutBytes.{with_bytes}
use Rattle.llb_loader.proofs.FirstRowOfDigest.{IsFirst, row_read, first_update, first_again, first_is, first_below, below_step}
use Rattle.llb_loader.proofs.BytesOfRows.{first_of_all, firsts_push, are_firsts, with_len, fresh_with, collides_beside, equal_with, put_back}
use Rattle.llb_loader.proofs.row_lookup.index_of.Goals as goal

pub loop-k-preserved-in_default : goal.loop-k-preserved-in_default
loop-k-preserved-in_default c =
    let look : List ℕ → Option ℕ = λ d. get_by {K = Bor (List ℕ)} (λ q. slice_cmp nat_cmp d q.now) c.loop-k.index in
    let dig : (row_at c.args.rows.now c.loop-k.k).digest ≡ c.as_str-digest.result.now =
    ap (λ (r : Row). r.digest) (row_read c.args.rows.now c.loop-k.k c.index-rows-k.result c.loop-k-test.true c.index-rows-k.is ∙ c.index-rows-k.is)
    ∙ sym c.as_str-digest.ensures.value in
    let none : look (row_at c.args.rows.now c.loop-k.k).digest ≡ None = ap look dig ∙ sym c.in_ok-first.ensures.old ∙ c.in_default.is in
    record {
      found = λ d.
          subst (λ (o : Option ℕ). IsFirst c.args.rows.now (c.loop-k.k + 1) d o)
          (sym (btree_map_updates_str c.as_str-digest.result.now c.loop-k.index c.insert.new.self _ c.in_ok-first.ensures.updates d))
          (subst (λ (b : List ℕ). IsFirst c.args.rows.now (c.loop-k.k + 1) d (update bytes_eq look b (Some c.loop-k.k) d)) dig
          (first_update c.args.rows.now c.loop-k.k d look none c.loop-k.invariant.found));
      len = ap (λ (xs : List ℕ). length xs) c.in_ok-push.ensures.items
          ∙ (let p = length_push c.loop-k.firsts.items c.loop-k.k in let l = c.loop-k.invariant.len in omega (arith, p, l));
      firsts = subst (λ (xs : List ℕ). (j : ℕ) → j < c.loop-k.k + 1 → IsFirst c.args.rows.now (length c.args.rows.now) (row_at c.args.rows.now j).digest
          (Some (get_or xs j 0))) (sym c.in_ok-push.ensures.items)
          (firsts_push c.args.rows.now c.loop-k.firsts.items c.loop-k.k c.loop-k.k c.loop-k.invariant.len c.loop-k.invariant.firsts (
            c.loop-k-test.true,
            refl,
            subst (λ (o : Option ℕ). IsFirst c.args.rows.now c.loop-k.k (row_at c.args.rows.now c.loop-k.k).digest o) none
                (c.loop-k.invariant.found (row_at c.args.rows.now c.loop-k.k).digest),
          ));
      apart = below_step (λ j. ¬ Collides (with_bytes c.args.rows.now c.args.entries.now) j) c.loop-k.k c.loop-k.invariant.apart
          (fresh_with c.args.rows.now c.args.entries.now c.requires.len c.loop-k.k
          (subst (λ (o : Option ℕ). IsFirst c.args.rows.now c.loop-k.k (row_at c.args.rows.now c.loop-k.k).digest o) none
          (c.loop-k.invariant.found (row_at c.args.rows.now c.loop-k.k).digest)));
    }

pub bounds-entries-first : goal.bounds-entries-first
bounds-entries-first c =
    let f = first_below c.args.rows.now c.loop-k.k c.in-Some.first c.as_str-digest.result.now _ (sym c.in_ok-first.ensures.old ∙ c.in-Some.is)
    (c.loop-k.invariant.found c.as_str-digest.result.now) in
    let l = f.0 in
    let h = c.loop-k-test.true in
    let n = c.requires.len in
    omega (arith, l, h, n)

pub offset_bounds-entries-first : goal.offset_bounds-entries-first
offset_bounds-entries-first c =
    let k : c.in-Some.first < length c.args.entries.now =
    (let f = first_below c.args.rows.now c.loop-k.k c.in-Some.first c.as_str-digest.result.now _ (sym c.in_ok-first.ensures.old ∙ c.in-Some.is)
    (c.loop-k.invariant.found c.as_str-digest.result.now) in
    let l = f.0 in let h = c.loop-k-test.true in let n = c.requires.len in omega (arith, l, h, n)) in
    search rules

pub returns-then-not-same-clause-refused : goal.returns-then-not-same-clause-refused
returns-then-not-same-clause-refused c = λ _.
    let look : List ℕ → Option ℕ = λ d. get_by {K = Bor (List ℕ)} (λ q. slice_cmp nat_cmp d q.now) c.loop-k.index in
    let dig : (row_at c.args.rows.now c.loop-k.k).digest ≡ c.as_str-digest.result.now =
    ap (λ (r : Row). r.digest) (row_read c.args.rows.now c.loop-k.k c.index-rows-k.result c.loop-k-test.true c.index-rows-k.is ∙ c.index-rows-k.is)
    ∙ sym c.as_str-digest.ensures.value in
    let some : look (row_at c.args.rows.now c.loop-k.k).digest ≡ Some c.in-Some.first = ap look dig ∙ sym c.in_ok-first.ensures.old ∙ c.in-Some.is in
    let f = first_below c.args.rows.now c.loop-k.k c.in-Some.first (row_at c.args.rows.now c.loop-k.k).digest _ some
    (c.loop-k.invariant.found (row_at c.args.rows.now c.loop-k.k).digest) in
    let low : c.in-Some.first < length c.args.entries.now =
    (let l = f.0 in let h = c.loop-k-test.true in let n = c.requires.len in omega (arith, l, h, n)) in
    let high : c.loop-k.k < length c.args.entries.now = (let h = c.loop-k-test.true in let n = c.requires.len in omega (arith, h, n)) in
    let other : get_or c.args.entries.now c.in-Some.first [] ≢ get_or c.args.entries.now c.loop-k.k [] =
    λ e. (let t : IsTrue false = c.if-not-same.ensures.1
    (get_or_read c.args.entries.now c.in-Some.first c.index-entries-first.result low c.index-entries-first.is [] ∙ e
    ∙ sym (get_or_read c.args.entries.now c.loop-k.k c.index-entries-k.result high c.index-entries-k.is []))
    in let x : false ≡ true = t in cc) in (
      c.loop-k.k,
      refl,
      record {
        holds = collides_beside c.args.rows.now c.args.entries.now c.requires.len c.in-Some.first c.loop-k.k c.loop-k-test.true f other;
        least = c.loop-k.invariant.apart;
      },
    )

pub loop-k-preserved : goal.loop-k-preserved
loop-k-preserved c =
    let look : List ℕ → Option ℕ = λ d. get_by {K = Bor (List ℕ)} (λ q. slice_cmp nat_cmp d q.now) c.loop-k.index in
    let second : List ℕ → Option ℕ = λ d. get_by {K = Bor (List ℕ)} (λ q. slice_cmp nat_cmp d q.now) c.insert.new.self in
    let third : List ℕ → Option ℕ = λ d. get_by {K = Bor (List ℕ)} (λ q. slice_cmp nat_cmp d q.now) c.insert-in-loop-k.new.self in
    let dig : (row_at c.args.rows.now c.loop-k.k).digest ≡ c.as_str-digest.result.now =
    ap (λ (r : Row). r.digest) (row_read c.args.rows.now c.loop-k.k c.index-rows-k.result c.loop-k-test.true c.index-rows-k.is ∙ c.index-rows-k.is)
    ∙ sym c.as_str-digest.ensures.value in
    let some : look (row_at c.args.rows.now c.loop-k.k).digest ≡ Some c.in-Some.first = ap look dig ∙ sym c.in_ok-first.ensures.old ∙ c.in-Some.is in
    let f = first_below c.args.rows.now c.loop-k.k c.in-Some.first (row_at c.args.rows.now c.loop-k.k).digest _ some
    (c.loop-k.invariant.found (row_at c.args.rows.now c.loop-k.k).digest) in
    let low : c.in-Some.first < length c.args.entries.now =
    (let l = f.0 in let h = c.loop-k-test.true in let n = c.requires.len in omega (arith, l, h, n)) in
    let high : c.loop-k.k < length c.args.entries.now = (let h = c.loop-k-test.true in let n = c.requires.len in omega (arith, h, n)) in
    let same : get_or c.args.entries.now c.in-Some.first [] ≡ get_or c.args.entries.now c.loop-k.k [] =
    sym (get_or_read c.args.entries.now c.in-Some.first c.index-entries-first.result low c.index-entries-first.is [])
    ∙ c.if-not-same.ensures.0 refl
    ∙ get_or_read c.args.entries.now c.loop-k.k c.index-entries-k.result high c.index-entries-k.is [] in
    record {
      found = λ d. subst (λ (o : Option ℕ). IsFirst c.args.rows.now (c.loop-k.k + 1) d o)
          (sym (put_back look second third c.as_str-digest.result.now c.loop-k.k c.in-Some.first (sym c.in_ok-first.ensures.old ∙ c.in-Some.is)
          (btree_map_updates_str c.as_str-digest.result.now c.loop-k.index c.insert.new.self _ c.in_ok-first.ensures.updates)
          (btree_map_updates_str c.as_str-digest.result.now c.insert.new.self c.insert-in-loop-k.new.self _ c.in_ok-insert.ensures.updates) d))
          (first_again c.args.rows.now c.loop-k.k c.in-Some.first d look some c.loop-k.invariant.found);
      len = ap (λ (xs : List ℕ). length xs) c.in_ok-push-2.ensures.items
          ∙ (let p = length_push c.loop-k.firsts.items c.in-Some.first in let l = c.loop-k.invariant.len in omega (arith, p, l));
      firsts = subst (λ (xs : List ℕ). (j : ℕ) → j < c.loop-k.k + 1 → IsFirst c.args.rows.now (length c.args.rows.now) (row_at c.args.rows.now j).digest
          (Some (get_or xs j 0))) (sym c.in_ok-push-2.ensures.items)
          (firsts_push c.args.rows.now c.loop-k.firsts.items c.loop-k.k c.in-Some.first c.loop-k.invariant.len c.loop-k.invariant.firsts
          (first_of_all c.args.rows.now c.loop-k.k c.in-Some.first (row_at c.args.rows.now c.loop-k.k).digest
          (let h = c.loop-k-test.true in omega (arith, h)) f));
      apart = below_step (λ j. ¬ Collides (with_bytes c.args.rows.now c.args.entries.now) j) c.loop-k.k c.loop-k.invariant.apart
          (equal_with c.args.rows.now c.args.entries.now c.requires.len c.in-Some.first c.loop-k.k f same c.loop-k.invariant.apart);
    }

pub returns-clause-index : goal.returns-clause-index
returns-clause-index c d = first_is c.args.rows.now d _
    (subst (λ (n : ℕ). IsFirst c.args.rows.now n d (get_by {K = Bor (List ℕ)} (λ q. slice_cmp nat_cmp d q.now) c.loop-k.index))
    (let e : c.loop-k.k ≡ length c.args.rows.now = omega arith in e) (c.loop-k.invariant.found d))

pub returns-clause-apart : goal.returns-clause-apart
returns-clause-apart c k x = c.loop-k.invariant.apart k
    (let h = x.here in let n = with_len c.args.rows.now c.args.entries.now c.requires.len in omega (arith, h, n)) x

pub returns-clause-firsts : goal.returns-clause-firsts
returns-clause-firsts c = are_firsts c.args.rows.now c.loop-k.firsts.items c.loop-k.k (let e : c.loop-k.k ≡ length c.args.rows.now = omega arith in e)
    c.loop-k.invariant.len c.loop-k.invariant.firsts
