-- How a reader takes a field, by its row of the table.
use Rattle.std.proofs.Common.{◌≡◌, ℕ, Bool, true, false, List, [], ◌∷◌, map, Option, Some, None, refl, sym, ap, ◌∙◌}
use Rattle.std.specs.Prelude.{option_map, ◌==◌}
use Rattle.llb_ops.specs.declared.table.MessageName.{MessageName}
use Rattle.llb_ops.specs.declared.table.FieldRow.{FieldRow}
use Rattle.llb_ops.specs.Table.{Row, rows_of, row_seen, by_number, row_numbered, form_of_kind, shape_of}
use Rattle.llb_ops.specs.Records.{form_of}

form_by : (rows : List Row) (n : ℕ)
    → option_map (λ r. form_of_kind r.1.kind) (by_number n rows) ≡ form_of (map (λ r. (r.1.number, form_of_kind r.1.kind)) rows) n
form_by [] n = refl
form_by (r ∷ rows) n = go (r.1.number == n) refl (form_by rows n) where
  go : (b : Bool) → r.1.number == n ≡ b
      → option_map (λ x. form_of_kind x.1.kind) (by_number n rows) ≡ form_of (map (λ x. (x.1.number, form_of_kind x.1.kind)) rows) n
      → option_map (λ x. form_of_kind x.1.kind) (by_number n (r ∷ rows)) ≡ form_of (map (λ x. (x.1.number, form_of_kind x.1.kind)) (r ∷ rows)) n
  go true e rest = rw e refl
  go false e rest = rw e rest

-- the form of a field by the row that was found for it, or by no row
pub form_found : (m : MessageName) (n : ℕ) (o : Option FieldRow) → option_map row_seen o ≡ row_numbered m n
    → option_map (λ r. form_of_kind r.field.kind) o ≡ form_of (shape_of m) n
unfolding row_numbered
form_found m n o e = seen o ∙ ap (option_map (λ r. form_of_kind r.1.kind)) e ∙ form_by (rows_of m) n where
  seen : (o : Option FieldRow) → option_map (λ r. form_of_kind r.field.kind) o ≡ option_map (λ r. form_of_kind r.1.kind) (option_map row_seen o)
  seen None = refl
  seen (Some r) = refl
