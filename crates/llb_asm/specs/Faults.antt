-- How a fault of this crate is printed: its number, and then, if the fault has them, the number of the line and the name of the rule.
use Rattle.std.specs.Prelude.{ℕ, List, ◌++◌, codes}
use Rattle.std.specs.Fmt.{decimal}
use Rattle.llb_asm.specs.declared.fault.Rule.{Rule}
use Rattle.llb_asm.specs.declared.fault.Rule.TheVariants as rule
use Rattle.llb_asm.specs.declared.fault.AsmFault.{AsmFault}
use Rattle.llb_asm.specs.declared.fault.AsmFault.TheVariants as fault

-- the name of a rule, as a fault prints it (docs/FORMATS.md, "The text of entries")
abbrev pub rule_text : Rule → List ℕ
rule_text rule.Syntax = codes "Syntax"
rule_text rule.UnknownField = codes "UnknownField"
rule_text rule.Order = codes "Order"
rule_text rule.BadValue = codes "BadValue"
rule_text rule.OverLimit = codes "OverLimit"
rule_text rule.Unclosed = codes "Unclosed"

-- the text of a fault (docs/FAULTS.md): 161 with the number of a line and the rule that this line breaks, 162 with the number of a line whose label
-- names no earlier entry, 163 for refused memory, and 164 for a writer that failed
abbrev pub asm_text : AsmFault → List ℕ
asm_text (fault.Line line r) = codes "161 " ++ (decimal line ++ (codes " " ++ rule_text r))
asm_text (fault.UnknownLabel line) = codes "162 " ++ decimal line
asm_text fault.Memory = codes "163"
asm_text fault.Write = codes "164"
