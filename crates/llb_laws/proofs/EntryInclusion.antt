-- Entries of a definition among those of another.
use Rattle.std.proofs.Common.{◌≡◌, ℕ, ◌<◌, List, [], length, get_or, Result, Ok, sym, ap, subst, ◌∙◌}
use Rattle.std.specs.List.{Contains}
use Rattle.std.proofs.lemmas.List.{get_or_default}
use Rattle.llb_ops.specs.declared.fault.OpFault.{OpFault}
use Rattle.llb_ops.specs.Definition.{definition_of}
use Rattle.llb_laws.specs.Digests.{IsPartOf}
use Rattle.llb_laws.specs.Definitions.{HasPart, EndInOneEntry, last_entry}

-- what each place of a list has is in another list, so each item is
pub each_contained : (entries part : List (List ℕ)) → ((k : ℕ) → k < length part → Contains entries (get_or part k [])) → (x : List ℕ) → Contains part x
    → Contains entries x
each_contained entries part each x c =
    subst (λ (y : List ℕ). Contains entries y) (get_or_default part c.0 [] x c.1 ∙ c.2) (each c.0 c.1)

-- bytes are read as one list of entries
pub read_once : (d : List ℕ) (xs zs : List (List ℕ)) → definition_of d ≡ Ok xs → definition_of d ≡ Ok zs → xs ≡ zs
read_once d xs zs dx dz = let ok : ◌≡◌ {A = Result (List (List ℕ)) OpFault} (Ok xs) (Ok zs) = sym dx ∙ dz in cc

pub end_of_part : (d e : List ℕ) (xs ys : List (List ℕ)) → definition_of d ≡ Ok xs → definition_of e ≡ Ok ys → HasPart xs ys → EndInOneEntry d e
end_of_part d e xs ys dx ey has zs ws dz ew =
    ap last_entry (sym (read_once d xs zs dx dz)) ∙ has.last ∙ ap last_entry (read_once e ys ws ey ew)

pub part_of : (d e : List ℕ) (xs ys : List (List ℕ)) → definition_of d ≡ Ok xs → definition_of e ≡ Ok ys → HasPart xs ys → IsPartOf e d
part_of d e xs ys dx ey has ws zs ew dz x c =
    subst (λ (es : List (List ℕ)). Contains es x) (read_once d xs zs dx dz)
    (has.among x (subst (λ (es : List (List ℕ)). Contains es x) (sym (read_once e ys ws ey ew)) c))
