-- What loading a definition returns.
use Rattle.std.specs.Prelude.{◌≡◌, ℕ, List, map, Ok, Err, ◌⊎◌}
use Rattle.llb_ops.specs.declared.fault.OpFault.{OpFault}
use Rattle.llb_ops.specs.Definition.{definition_of}
use Rattle.llb_loader.specs.declared.row.Row.{Row}
use Rattle.llb_loader.specs.declared.fault.LoadFault.{LoadFault}
use Rattle.llb_loader.specs.declared.fault.LoadFault.TheVariants.{Definition}
use Rattle.llb_wire.specs.Digest.{digest_text}
use Rattle.llb_loader.specs.Graph.{Numbered}
use Rattle.llb_loader.specs.GraphOfRowsResult.{IsGraphOf, IsRefusalOf}

-- the rows of entries: for each entry its digest text and its bytes
abbrev pub rows_from : List (List ℕ) → List Row
rows_from entries = map (λ bytes. record { digest = digest_text bytes; bytes = bytes }) entries

-- The bytes are a definition, and the rows of its entries make this graph.
abbrev pub IsGraphIn : List ℕ → Numbered → Type 0
IsGraphIn bytes g = (entries : List (List ℕ)) × (definition_of bytes ≡ Ok entries) × IsGraphOf (rows_from entries) g

-- e is the refusal of the bytes: they can't be read as a definition, or the rows of the definition's entries are refused
abbrev pub IsRefusalIn : List ℕ → LoadFault → Type 0
IsRefusalIn bytes e = ((f : OpFault) × (definition_of bytes ≡ Err f) × (e ≡ Definition f))
    ⊎ ((entries : List (List ℕ)) × (definition_of bytes ≡ Ok entries) × IsRefusalOf (rows_from entries) e)
