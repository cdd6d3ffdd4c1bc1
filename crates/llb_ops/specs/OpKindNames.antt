-- The name of an op's kind.
use Rattle.std.specs.Prelude.{ℕ, List, codes, Option, Some, None}
use Rattle.llb_ops.specs.declared.op.Kind.{Kind}
use Rattle.llb_ops.specs.declared.op.Kind.TheVariants.{Exec, Source, File, Build, Merge, Diff}

-- the name of an op's kind, `none` if the op has no kind; no loaded graph has an op of the kind `build` or `diff`, or an op without a kind
abbrev pub kind_text : Option Kind → List ℕ
kind_text (Some (Source s)) = codes "source"
kind_text (Some (File f)) = codes "file"
kind_text (Some (Merge m)) = codes "merge"
kind_text (Some (Exec e)) = codes "exec"
kind_text (Some (Build b)) = codes "build"
kind_text (Some (Diff d)) = codes "diff"
kind_text None = codes "none"
