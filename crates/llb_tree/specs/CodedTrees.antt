-- Entries and trees as plain values (pairs, numbers, lists). The prover needs plain values to compare values that contain trees; no contract cites this file.
use Rattle.std.specs.Prelude.{◌≡◌, ℕ, List, Option, Some, None, refl}
use Rattle.std.specs.FinMap as finite
use Rattle.std.specs.Coded.{Coded, code_by, coded×, coded_ℕ, coded_list, coded_option}
use Rattle.llb_tree.specs.Tree.{Entry, Dir, File, TreeMap}

-- an entry as plain values: its mode, its user and its group, and its content if the entry is a file
abbrev pub packed : Entry → (ℕ × (ℕ × ℕ)) × Option (List ℕ)
packed (Dir m) = ((m.mode, (m.uid, m.gid)), None)
packed (File m bytes) = ((m.mode, (m.uid, m.gid)), Some bytes)

-- the entry from which `packed` makes this pair: a directory if the pair has no content, else a file
abbrev pub unpacked : (ℕ × (ℕ × ℕ)) × Option (List ℕ) → Entry
unpacked (m, None) = Dir (record { mode = m.0; uid = m.1.0; gid = m.1.1 })
unpacked (m, Some bytes) = File (record { mode = m.0; uid = m.1.0; gid = m.1.1 }) bytes

pub unpacked-packed : (e : Entry) → unpacked (packed e) ≡ e
unpacked-packed (Dir m) = refl
unpacked-packed (File m bytes) = refl

-- entries can be turned into plain values and back
abbrev pub coded_entry : Coded Entry
coded_entry = code_by ((ℕ × (ℕ × ℕ)) × Option (List ℕ))
    (coded× (coded× coded_ℕ (coded× coded_ℕ coded_ℕ)) (coded_option (coded_list coded_ℕ))) packed unpacked unpacked-packed

-- trees can be turned into plain values and back
abbrev pub coded_tree : Coded TreeMap
coded_tree = finite.code (coded_list (coded_list coded_ℕ)) coded_entry
