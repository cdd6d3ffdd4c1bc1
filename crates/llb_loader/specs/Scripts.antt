-- The script of an exec: the commands that the words of the exec are read as.
use Rattle.std.specs.Prelude.{List, Option, Some, None, Ok, Err, Result}
use Rattle.std.specs.Result.{result_ok}
use Rattle.llb_ops.specs.declared.op.Op.{Op}
use Rattle.llb_ops.specs.declared.op.Kind.{Kind}
use Rattle.llb_ops.specs.declared.op.Kind.TheVariants.{Exec}
use Rattle.llb_ops.specs.declared.exec.Meta.{Meta}
use Rattle.llb_applet.specs.declared.joined_commands.Joined.{Joined}
use Rattle.llb_applet.specs.declared.fault.ScriptFault.{ScriptFault}
use Rattle.llb_applet.specs.declared.fault.ScriptFault.TheVariants.{ShellSyntax}
use Rattle.llb_applet.specs.Scripts.{script_of}

-- the commands that the words of a `Meta` are read as, if the words are a script
abbrev pub commands_in : Option Meta → Option (List Joined)
commands_in (Some m) = result_ok (script_of m.args)
commands_in None = None

-- the fault in a result; if the result is no fault, a fault that is not used
abbrev pub fault_or_none : Result (List Joined) ScriptFault → ScriptFault
fault_or_none (Err f) = f
fault_or_none (Ok cs) = ShellSyntax 0

-- the fault of reading the words of a `Meta` as a script; if they are a script, or if there is no `Meta`, a fault that is not used
abbrev pub script_fault : Option Meta → ScriptFault
script_fault (Some m) = fault_or_none (script_of m.args)
script_fault None = ShellSyntax 0

-- the commands of an exec, if the words of the exec are a script; none for another kind
abbrev pub kind_script : Option Kind → Option (List Joined)
kind_script (Some (Exec x)) = commands_in x.meta
kind_script _ = None

-- the commands of an op, if it is an exec whose words are a script
abbrev pub script_in : Op → Option (List Joined)
script_in op = kind_script op.kind
