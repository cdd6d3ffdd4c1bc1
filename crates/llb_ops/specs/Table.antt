-- The table of messages: the fields of each message (`ops.proto` of BuildKit) that are read, by name, number and kind, in ascending order of
-- their numbers. A field of the kind `Bytes` is bytes, or a message whose fields are not read. An entry of the map `attrs` is a message with rows of its own.
use Rattle.std.specs.Prelude.{◌≡◌, ℕ, List, [], ◌∷◌, map, find, filter, codes, Option, Some, true, false, nat_eq, ◌==◌}
use Rattle.std.specs.List.{AllByRecursion}
use Rattle.std.specs.Cmp.Lexicographic.{pointwise}
use Rattle.llb_ops.specs.declared.payloads_and_limits.Form.{Form}
use Rattle.llb_ops.specs.declared.payloads_and_limits.Form.TheVariants as form
use Rattle.llb_ops.specs.declared.table.MessageName.{MessageName}
use Rattle.llb_ops.specs.declared.table.MessageName.TheVariants as message
use Rattle.llb_ops.specs.declared.table.FieldKind.{FieldKind}
use Rattle.llb_ops.specs.declared.table.FieldKind.TheVariants.{Int64, Int32, Uint32, Enum, Bool, String, Bytes, Message}
use Rattle.llb_ops.specs.declared.table.NamedField.{NamedField}
use Rattle.llb_ops.specs.declared.table.FieldRow.{FieldRow}

-- a row of the table of messages: the name of a field, and the field itself (its number, its kind and so on)
abbrev pub Row : Type 0
Row = List ℕ × NamedField

-- a row of the code's table, with the name as a list of bytes
abbrev pub row_seen : FieldRow → Row
row_seen r = (r.name.now, r.field)

-- the row of a singular field
abbrev pub once : List ℕ → ℕ → FieldKind → Row
once name n kind = (name, record { number = n; kind = kind; repeated = false; member = false; of_entry = false })

-- the row of a repeated field
abbrev pub each : List ℕ → ℕ → FieldKind → Row
each name n kind = (name, record { number = n; kind = kind; repeated = true; member = false; of_entry = false })

-- the row of a field that is a member of the message's oneof
abbrev pub member : List ℕ → ℕ → FieldKind → Row
member name n kind = (name, record { number = n; kind = kind; repeated = false; member = true; of_entry = false })

-- the row of the key or the value in an entry of a map
abbrev pub of_entry : List ℕ → ℕ → FieldKind → Row
of_entry name n kind = (name, record { number = n; kind = kind; repeated = false; member = false; of_entry = true })

-- the rows of a message: its fields that are read, in ascending order of their numbers; records of other fields are kept as extra bytes
abbrev pub rows_of : MessageName → List Row
rows_of message.Definition =
    each (codes "def") 1 Bytes ∷
    each (codes "metadata") 2 Bytes ∷
    once (codes "Source") 3 Bytes ∷
    []
rows_of message.Op =
    each (codes "inputs") 1 (Message message.Input) ∷
    member (codes "exec") 2 (Message message.ExecOp) ∷
    member (codes "source") 3 (Message message.SourceOp) ∷
    member (codes "file") 4 (Message message.FileOp) ∷
    member (codes "build") 5 Bytes ∷
    member (codes "merge") 6 (Message message.MergeOp) ∷
    member (codes "diff") 7 Bytes ∷
    []
rows_of message.Input =
    once (codes "digest") 1 String ∷
    once (codes "index") 2 Int64 ∷
    []
rows_of message.SourceOp =
    once (codes "identifier") 1 String ∷
    each (codes "attrs") 2 (Message message.AttributeEntry) ∷
    []
rows_of message.AttributeEntry =
    of_entry (codes "key") 1 String ∷
    of_entry (codes "value") 2 String ∷
    []
rows_of message.FileOp =
    each (codes "actions") 2 (Message message.FileAction) ∷
    []
rows_of message.FileAction =
    once (codes "input") 1 Int64 ∷
    once (codes "secondaryInput") 2 Int64 ∷
    once (codes "output") 3 Int64 ∷
    member (codes "copy") 4 (Message message.FileActionCopy) ∷
    member (codes "mkfile") 5 (Message message.FileActionMkFile) ∷
    member (codes "mkdir") 6 (Message message.FileActionMkDir) ∷
    member (codes "rm") 7 (Message message.FileActionRm) ∷
    []
rows_of message.FileActionCopy =
    once (codes "src") 1 String ∷
    once (codes "dest") 2 String ∷
    once (codes "owner") 3 (Message message.ChownOpt) ∷
    once (codes "mode") 4 Int32 ∷
    once (codes "followSymlink") 5 Bool ∷
    once (codes "dirCopyContents") 6 Bool ∷
    once (codes "attemptUnpackDockerCompatibility") 7 Bool ∷
    once (codes "createDestPath") 8 Bool ∷
    once (codes "allowWildcard") 9 Bool ∷
    once (codes "allowEmptyWildcard") 10 Bool ∷
    once (codes "timestamp") 11 Int64 ∷
    each (codes "include_patterns") 12 String ∷
    each (codes "exclude_patterns") 13 String ∷
    []
rows_of message.FileActionMkFile =
    once (codes "path") 1 String ∷
    once (codes "mode") 2 Int32 ∷
    once (codes "data") 3 Bytes ∷
    once (codes "owner") 4 (Message message.ChownOpt) ∷
    once (codes "timestamp") 5 Int64 ∷
    []
rows_of message.FileActionMkDir =
    once (codes "path") 1 String ∷
    once (codes "mode") 2 Int32 ∷
    once (codes "makeParents") 3 Bool ∷
    once (codes "owner") 4 (Message message.ChownOpt) ∷
    once (codes "timestamp") 5 Int64 ∷
    []
rows_of message.FileActionRm =
    once (codes "path") 1 String ∷
    once (codes "allowNotFound") 2 Bool ∷
    once (codes "allowWildcard") 3 Bool ∷
    []
rows_of message.ChownOpt =
    once (codes "user") 1 (Message message.UserOpt) ∷
    once (codes "group") 2 (Message message.UserOpt) ∷
    []
rows_of message.UserOpt =
    member (codes "byName") 1 Bytes ∷
    member (codes "byID") 2 Uint32 ∷
    []
rows_of message.ExecOp =
    once (codes "meta") 1 (Message message.Meta) ∷
    each (codes "mounts") 2 (Message message.Mount) ∷
    once (codes "network") 3 Enum ∷
    once (codes "security") 4 Enum ∷
    each (codes "secretenv") 5 Bytes ∷
    []
rows_of message.Meta =
    each (codes "args") 1 String ∷
    each (codes "env") 2 String ∷
    once (codes "cwd") 3 String ∷
    once (codes "user") 4 String ∷
    []
rows_of message.Mount =
    once (codes "input") 1 Int64 ∷
    once (codes "selector") 2 String ∷
    once (codes "dest") 3 String ∷
    once (codes "output") 4 Int64 ∷
    once (codes "readonly") 5 Bool ∷
    once (codes "mountType") 6 Enum ∷
    once (codes "TmpfsOpt") 19 (Message message.TmpfsOpt) ∷
    once (codes "cacheOpt") 20 (Message message.CacheOpt) ∷
    []
rows_of message.TmpfsOpt =
    once (codes "size") 1 Int64 ∷
    []
rows_of message.CacheOpt =
    once (codes "ID") 1 String ∷
    once (codes "sharing") 2 Enum ∷
    []
rows_of message.MergeOp =
    each (codes "inputs") 1 (Message message.MergeInput) ∷
    []
rows_of message.MergeInput =
    once (codes "input") 1 Int64 ∷
    []

-- the first of these rows whose field has the number n; none if there is no such row
abbrev pub by_number : ℕ → List Row → Option Row
by_number n rows = find (λ r. r.1.number == n) rows

-- the first of these rows that has this name; none if there is no such row
abbrev pub by_name : List ℕ → List Row → Option Row
by_name name rows = find (λ r. pointwise nat_eq r.0 name) rows

-- the row of message m for the field number n; none if the table has no such row
unfoldable pub row_numbered : MessageName → ℕ → Option Row
row_numbered m n = by_number n (rows_of m)

-- the row of message m for this field name; none if the table has no such row
unfoldable pub row_named : MessageName → List ℕ → Option Row
row_named m name = by_name name (rows_of m)

-- a row of a message is found both by its number and by its name
pub record IsApart (m : MessageName) (row : Row) : Type 0 where
  pub number : row_numbered m row.1.number ≡ Some row
  pub name : row_named m row.0 ≡ Some row

-- every row of a message is found both by its number and by its name, so no two rows have the same number or name
abbrev pub AreRowsApart : MessageName → Type 0
AreRowsApart m = AllByRecursion (IsApart m) (rows_of m)

-- the form of a field of this kind, which says how the field's payload is read: as a number, as bytes, or as a text
abbrev pub form_of_kind : FieldKind → Form
form_of_kind Int64 = form.Number
form_of_kind Int32 = form.Number
form_of_kind Uint32 = form.Number
form_of_kind Enum = form.Number
form_of_kind Bool = form.Number
form_of_kind String = form.Text
form_of_kind Bytes = form.Bytes
form_of_kind (Message m) = form.Bytes

-- the shape of a message: for each field its number and its form (whether the field's payload is read as a number, as bytes, or as a text)
abbrev pub shape_of : MessageName → List (ℕ × Form)
shape_of m = map (λ r. (r.1.number, form_of_kind r.1.kind)) (rows_of m)

-- the numbers of the fields that are members of a message's oneof
abbrev pub members_of : MessageName → List ℕ
members_of m = map (λ r. r.1.number) (filter (λ r. r.1.member) (rows_of m))

-- the numbers of a message's repeated fields
abbrev pub repeated_of : MessageName → List ℕ
repeated_of m = map (λ r. r.1.number) (filter (λ r. r.1.repeated) (rows_of m))
