-- The tree after a file action, or the first fault.
use Rattle.std.specs.Prelude.{Option, Some, None, Result, Ok}
use Rattle.llb_ops.specs.declared.file_op.ActionKind.{ActionKind}
use Rattle.llb_ops.specs.declared.file_op.ActionKind.TheVariants as kind
use Rattle.llb_tree.specs.Tree.{TreeMap}
use Rattle.llb_fileop.specs.declared.fault.ActFault.{ActFault}
use Rattle.llb_fileop.specs.CallResults.{on_tree}
use Rattle.llb_fileop.specs.Making.{mkfile, mkdir}
use Rattle.llb_fileop.specs.Removing.{rm}
use Rattle.llb_fileop.specs.Copying.{copy}

-- the tree after an action on the tree t, or the fault; a copy reads the tree `second`, and an action without a kind changes nothing
abbrev pub act : Option ActionKind → TreeMap → TreeMap → Result TreeMap ActFault
act (Some (kind.MkFile m)) t second = on_tree (mkfile m t)
act (Some (kind.MkDir m)) t second = on_tree (mkdir m t)
act (Some (kind.Copy c)) t second = copy c t second
act (Some (kind.Rm r)) t second = rm r t
act None t second = Ok t
