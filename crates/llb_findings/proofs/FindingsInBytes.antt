-- What is found in the bytes of a definition, from what is found in its rows.
use Rattle.std.proofs.Common.{◌≡◌, ℕ, true, false, List, [], ◌∷◌, Result, Ok, Err, inl, inr, length, refl, sym, ◌∙◌, ap, subst, arith}
use Rattle.llb_ops.specs.declared.fault.OpFault.{OpFault}
use Rattle.llb_ops.specs.declared.fault.OpFault.TheVariants as op
use Rattle.llb_ops.specs.Faults as ops
use Rattle.llb_ops.specs.Definition.{definition_of}
use Rattle.llb_loader.specs.declared.row.Row.{Row}
use Rattle.llb_loader.specs.declared.fault.LoadFault.{LoadFault}
use Rattle.llb_loader.specs.declared.fault.LoadFault.TheVariants.{Definition}
use Rattle.llb_loader.specs.Faults.{definition_fault}
use Rattle.llb_loader.specs.GraphOfRowsResult.{IsGraphOf}
use Rattle.llb_loader.specs.LoadResult.{rows_from}
use Rattle.llb_findings.specs.Findings.{AreFindings, BeginsAsLink, AreFindingsIn, BeginsAsLoad}

other_fault : (f : OpFault) → ops.is_memory f ≡ false → definition_fault f ≡ Definition f
other_fault (op.Wire w) m = refl
other_fault op.WrongWireType m = refl
other_fault op.NotUtf8 m = refl
other_fault op.OverLimit m = refl
other_fault op.Memory m = absurd (let x : true ≡ false = m in cc)

-- bytes that are no definition
pub alone_found : (bytes : List ℕ) (f : OpFault) (found : List LoadFault) → ops.is_memory f ≡ false → definition_of bytes ≡ Err f
    → found ≡ definition_fault f ∷ [] → AreFindingsIn bytes found
alone_found bytes f found m e same = inl (f, e, same ∙ ap (λ (x : LoadFault). x ∷ []) (other_fault f m))

pub alone_begins : (bytes : List ℕ) (f : OpFault) (found : List LoadFault) → ops.is_memory f ≡ false → definition_of bytes ≡ Err f
    → found ≡ definition_fault f ∷ [] → BeginsAsLoad bytes found
alone_begins bytes f found m e same =
    let is = same ∙ ap (λ (x : LoadFault). x ∷ []) (other_fault f m) in
    record {
      none = (
        λ none. absurd (let l = ap (λ (xs : List LoadFault). length xs) (sym none ∙ is) in omega (arith, l)),
        λ g. absurd (let x : ◌≡◌ {A = Result (List (List ℕ)) OpFault} (Ok g.1.0) (Err f) = sym g.1.1 ∙ e in cc),
      );
      first = λ x rest begins.
          let both : ◌≡◌ {A = List LoadFault} (Definition f ∷ []) (x ∷ rest) = sym is ∙ begins in
          let heads : Definition f ≡ x = cc in
          inl (f, e, sym heads);
    }

-- bytes that are a definition
pub rows_found : (bytes : List ℕ) (entries : List (List ℕ)) (rows : List Row) (found : List LoadFault) → definition_of bytes ≡ Ok entries
    → rows ≡ rows_from entries → AreFindings rows found → AreFindingsIn bytes found
rows_found bytes entries rows found e same are = inr (entries, e, subst (λ (rs : List Row). AreFindings rs found) same are)

same_entries : (bytes : List ℕ) (xs ys : List (List ℕ)) → definition_of bytes ≡ Ok xs → definition_of bytes ≡ Ok ys → xs ≡ ys
same_entries bytes xs ys a b = let ok : ◌≡◌ {A = Result (List (List ℕ)) OpFault} (Ok xs) (Ok ys) = sym a ∙ b in cc

pub rows_begin : (bytes : List ℕ) (entries : List (List ℕ)) (rows : List Row) (found : List LoadFault) → definition_of bytes ≡ Ok entries
    → rows ≡ rows_from entries → BeginsAsLink rows found → BeginsAsLoad bytes found
rows_begin bytes entries rows found e same begins =
    let here = subst (λ (rs : List Row). BeginsAsLink rs found) same begins in
    record {
      none = (
        λ none. (let g = here.none.0 none in (g.0, (entries, e, g.1))),
        λ g. here.none.1 (g.0, subst (λ (es : List (List ℕ)). IsGraphOf (rows_from es) g.0) (same_entries bytes g.1.0 entries g.1.1 e) g.1.2),
      );
      first = λ x rest is. inr (entries, e, here.first x rest is);
    }
