-- The attributes of a source (the encoding guide of Protocol Buffers, "Maps": of several entries with one key, the last counts).
use Rattle.std.specs.Prelude.{ℕ, List, [], fold, nat_eq}
use Rattle.std.specs.Cmp.Lexicographic.{pointwise}
use Rattle.indexmap.specs.IndexMap.{insert_entry}
use Rattle.llb_ops.specs.declared.source.Attribute.{Attribute}
use Rattle.llb_ops.specs.declared.source.AttributeEntry.{AttributeEntry}

-- a key and its attribute; the attribute is the value and the extra bytes of the map's entry for this key
abbrev pub Held : Type 0
Held = List ℕ × Attribute

-- the entry of the map, as a message, that has this key and this attribute
abbrev pub entry_of : Held → AttributeEntry
entry_of p = record { key = p.0; value = p.1.value; extra = p.1.extra }

-- the attributes after one more entry: if the key is there already, the entry's attribute takes the place of the old one; a new key is appended at the end
abbrev pub put : List Held → AttributeEntry → List Held
put held e = insert_entry (pointwise nat_eq) held e.key (record { value = e.value; extra = e.extra })

-- the attributes that the entries of a map make: for each key the attribute of its last entry, at the position of its first entry
unfoldable pub settled : List AttributeEntry → List Held
settled entries = fold put [] entries
