-- All parts are names where those that are left are.
use Rattle.std.proofs.Common.{◌≡◌, ◌≤◌, length, drop}
use Rattle.std.specs.List.{list_all}
use Rattle.llb_tree.specs.Path.{is_name, parts_of}
use Rattle.llb_treetext.proofs.line_fields.are_names.Given as goal

abbrev pub invariant-loop-part : goal.invariant-loop-part
invariant-loop-part l = (l.count ≡ length l.yielded) × (l.count ≤ 128)
    × (list_all is_name (drop (length l.yielded) (parts_of l.text)) ≡ list_all is_name (parts_of l.text))
