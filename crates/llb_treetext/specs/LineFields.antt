-- How a line is split into its fields, and how each field is read. Only this crate uses these definitions.
use Rattle.std.specs.Prelude.{ℕ, ◌+◌, ◌-◌, ◌*◌, ◌^◌, ◌==◌, ◌&&◌, ◌||◌, not, nat_lt, nat_le, nat_eq, Bool, false, if◌then◌else◌, List}
use Rattle.std.specs.Prelude.{[], ◌∷◌, length, codes, Option, Some, None}
use Rattle.std.specs.List.{list_all, position_or_len, before_first, after_first}
use Rattle.std.specs.Option.{option_map}
use Rattle.std.specs.Fmt.{decimal}
use Rattle.std.specs.Cmp.Lexicographic.{pointwise}
use Rattle.std.specs.Result.{result_ok}
use Rattle.llb_tree.specs.Path.{is_name, parts_of, path_of}
use Rattle.llb_wire.specs.Hexadecimal.{hex_text, is_hex, bytes_in}
use Rattle.llb_tree.specs.ModeAndOwner.{MetaValue, meta_of}
use Rattle.llb_tree.specs.ModeTexts.{mode_of}
use Rattle.llb_tree.specs.Tree.{Entry, Dir, File}
use Rattle.llb_treetext.specs.TreeText.{path_text}
use Rattle.llb_treetext.specs.declared.line_fields.Parts.{Parts}
use Rattle.llb_treetext.specs.declared.path_and_entry.Row.{Row}

-- f applied to a value, if there is one; else nothing
abbrev pub on : {A B : Type 0} → Option A → (A → Option B) → Option B
on None f = None
on (Some x) f = f x

-- the bytes of a text before the first byte that is c, and the bytes after that byte; nothing if no byte of the text is c
abbrev pub cut_at : ℕ → List ℕ → Option (List ℕ × List ℕ)
cut_at c text = if nat_lt (position_or_len (λ b. nat_eq b c) text) (length text) then
    Some (before_first (λ b. nat_eq b c) text, after_first (λ b. nat_eq b c) text) else None

-- the mode that four octal digits spell; nothing for any other text
abbrev pub mode_in : List ℕ → Option ℕ
mode_in text = if length text == 4 then mode_of text else None

-- the number that the digits of n, followed by these decimal digits, spell; nothing if the number has more than 32 bits
unfoldable pub number_from : ℕ → List ℕ → Option ℕ
number_from n [] = Some n
number_from n (b ∷ text) = if nat_lt (n * 10 + (b - 48)) (2 ^ 32) then number_from (n * 10 + (b - 48)) text else None

-- the number whose decimal spelling is exactly this text; nothing if no number of at most 32 bits has this spelling
abbrev pub decimal_in : List ℕ → Option ℕ
decimal_in text = on (number_from 0 text) (λ n. if pointwise nat_eq text (decimal n) then Some n else None)

-- the mode, the user and the group at the start of a text, a space after each, and the rest of the text; nothing if these three are not at the start
abbrev pub meta_in : List ℕ → Option (MetaValue × List ℕ)
meta_in text = on (cut_at 32 text) (λ m. on (cut_at 32 m.1) (λ u. on (cut_at 32 u.1) (λ g.
    on (mode_in m.0) (λ mode. on (decimal_in u.0) (λ uid. on (decimal_in g.0) (λ gid. on (meta_of mode uid gid) (λ meta. Some (meta, g.1))))))))

-- whether a text is at most 128 names with slashes between them
abbrev pub are_names : List ℕ → Bool
are_names text = list_all is_name (parts_of text) && nat_le (length (parts_of text)) 128

-- whether a text is one slash, or is a slash and then at most 128 names with slashes between them
abbrev pub is_path : List ℕ → Bool
is_path [] = false
is_path (b ∷ names) = (b == 47) && ((length names == 0) || are_names names)

-- the fields of a line: the mode with the user and the group, the digits of a file's content (none for a directory), and the text of the path
abbrev pub Fields : Type 0
Fields = MetaValue × Option (List ℕ) × List ℕ

-- the fields of a line, made from a value of the code's type `Parts`
abbrev pub parts_seen : Parts → Fields
parts_seen x = (x.meta, option_map (λ digits. digits.now) x.digits, x.path.now)

-- the fields of a directory's line; nothing if the path is not spelled as in the text of a tree
abbrev pub dir_parts : MetaValue → List ℕ → Option Fields
dir_parts m path = if is_path path then Some (m, None, path) else None

-- the fields of a file's line; nothing if the content or the path is not spelled as in the text of a tree, or if the path is the root
abbrev pub file_parts : MetaValue → List ℕ → List ℕ → Option Fields
file_parts m digits path = if is_hex digits && is_path path && not (nat_lt (length path) 2) then Some (m, Some digits, path) else None

-- the fields of a line; nothing if the line does not have the form of an entry's line
abbrev pub parts_in : List ℕ → Option Fields
parts_in line = on (cut_at 32 line) (λ k. on (meta_in k.1) (λ m.
    if pointwise nat_eq k.0 (codes "d") then dir_parts m.0 m.1
    else if pointwise nat_eq k.0 (codes "f") then on (cut_at 32 m.1) (λ c. file_parts m.0 c.0 c.1)
    else None))

-- the fields of the line that is written for an entry
abbrev pub parts_from : List (List ℕ) × Entry → Fields
parts_from (p, Dir m) = (m, None, path_text p)
parts_from (p, File m content) = (m, Some (hex_text content), path_text p)

-- the text of a path, but empty for the root: the names of the path, with a slash before each
abbrev pub trail : List ℕ → List ℕ
trail path = if length path == 1 then [] else path

-- the entry with this mode, owner and content: a directory if there is no content
abbrev pub entry_of : MetaValue → Option (List ℕ) → Entry
entry_of m None = Dir m
entry_of m (Some content) = File m content

-- the path and the entry of a line, made from a value of the code's type `Row`
abbrev pub pair_of : Row → List (List ℕ) × Entry
pair_of r = (r.path, entry_of r.meta r.content)

-- a directory at the path that the text is read as; nothing if the text is read as no path
abbrev pub dir_in : MetaValue → List ℕ → Option (List (List ℕ) × Entry)
dir_in m path = on (result_ok (path_of path)) (λ p. Some (p, Dir m))

-- a file at the path that the text is read as, with the bytes that the digits spell; nothing if the text is no path, or if `bytes_in` returns nothing
abbrev pub file_in : MetaValue → List ℕ → List ℕ → Option (List (List ℕ) × Entry)
file_in m digits path = on (bytes_in digits) (λ content. on (result_ok (path_of path)) (λ p. Some (p, File m content)))

-- the path and the entry that these fields spell; nothing if the fields spell no entry
abbrev pub row_from : Fields → Option (List (List ℕ) × Entry)
row_from (m, None, path) = dir_in m path
row_from (m, Some digits, path) = file_in m digits path

-- the path and the entry that a line spells; nothing if the line spells no entry
abbrev pub row_in : List ℕ → Option (List (List ℕ) × Entry)
row_in line = on (parts_in line) row_from
