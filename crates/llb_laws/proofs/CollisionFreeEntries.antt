-- Definitions whose entries are all entries of one loaded definition do not collide.
use Rattle.std.proofs.Common.{◌≡◌, ◌≢◌, ℕ, ◌<◌, List, [], length, get_or, inl, inr, sym, ap, ◌∙◌, arith}
use Rattle.std.proofs.lemmas.Bool.{cases_order}
use Rattle.std.proofs.lemmas.List.{get_or-map, get_or_default, length-map}
use Rattle.llb_wire.specs.Digest.{digest_text}
use Rattle.llb_loader.specs.declared.row.Row.{Row}
use Rattle.llb_loader.specs.RowLookup.{row_at, Collides}
use Rattle.llb_loader.specs.Graph.{Numbered}
use Rattle.llb_loader.specs.LoadResult.{rows_from}
use Rattle.llb_loader.proofs.FirstRowOfDigest.{cases_bytes}
use Rattle.llb_laws.specs.Digests.{PartsDoNotCollide}
use Rattle.llb_laws.proofs.VertexEntries.{row_from}

-- a place of an entry has its row
pub row_of : (zs : List (List ℕ)) (i : ℕ) (x : List ℕ) → i < length zs → get_or zs i x ≡ x → row_at (rows_from zs) i ≡ row_from x
unfolding row_from
row_of zs i x low e = get_or-map row_from zs i x (record { digest = []; bytes = [] }) low ∙ ap row_from e

-- two unequal entries of a definition with one digest are a collision
clash : (zs : List (List ℕ)) (x y : List ℕ) (i j : ℕ) → i < j → j < length zs → row_at (rows_from zs) i ≡ row_from x → row_at (rows_from zs) j ≡ row_from y
    → digest_text x ≡ digest_text y → x ≢ y → Collides (rows_from zs) j
unfolding row_from
clash zs x y i j before low first second same apart =
    let rows = length-map zs row_from in
    record {
      here = omega (arith, low, rows);
      earlier = (
        i,
        before,
        ap (λ (r : Row). r.digest) first ∙ same ∙ sym (ap (λ (r : Row). r.digest) second),
        λ e. apart (sym (ap (λ (r : Row). r.bytes) first) ∙ e ∙ ap (λ (r : Row). r.bytes) second),
      );
    }

-- the law
pub parts_do_not_collide : (f : List ℕ) (g : Numbered) → PartsDoNotCollide f g
parts_do_not_collide f g (zs, fz, (ops, are, made)) d e part also xs ys dx ey x y cx cy same =
    let i = part xs zs dx fz x cx in
    let j = also ys zs ey fz y cy in
    let first = row_of zs i.0 x i.1 i.2 in
    let second = row_of zs j.0 y j.1 j.2 in
    let none = made.whole.valid.supported.ordered.named.started.result.apart.apart in
    elim (cases_bytes x y) [
      | inl is ↦ is
      | inr n ↦ elim (cases_order i.0 j.0) [
        | inl at ↦ absurd (n (sym i.2 ∙ get_or_default zs i.0 x y i.1 ∙ ap (λ (k : ℕ). get_or zs k y) at ∙ j.2))
        | inr o ↦ elim o [
          | inl l ↦ absurd (none j.0 (clash zs x y i.0 j.0 l j.1 first second same n))
          | inr l ↦ absurd (none i.0 (clash zs y x j.0 i.0 l i.1 second first (sym same) (λ s. n (sym s))))
        ]
      ]
    ]
