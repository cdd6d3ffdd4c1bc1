-- Equality of contents meets the premises of the laws of contents.
use Rattle.std.proofs.Common.{◌≡◌, ℕ, List, [], ◌∷◌, ◌++◌, All, get_or, Option, Some, None, refl, subst}
use Rattle.std.specs.FinMap as finite
use Rattle.std.specs.List.{flat_map}
use Rattle.std.specs.Str.{bytes_eq}
use Rattle.std.proofs.lemmas.Slice.Eq.{bytes_eq-Decides}
use Rattle.llb_wire.specs.Digest.{digits_of}
use Rattle.llb_ops.specs.declared.file_op.ActionKind.{ActionKind}
use Rattle.llb_ops.specs.declared.file_op.ActionKind.TheVariants as kind
use Rattle.llb_tree.specs.Tree.{TreeMap, Entry, Dir, File}
use Rattle.llb_applet.specs.declared.directory_and_variables.Setting.{Setting}
use Rattle.llb_applet.specs.declared.command.Command.{Command}
use Rattle.llb_applet.specs.declared.command.Command.TheVariants as command
use Rattle.llb_applet.specs.Commands.{line, listed}
use Rattle.llb_loader.specs.Graph.{Numbered}
use Rattle.llb_loader.specs.LocalSources.{Local, tree_of_local}
use Rattle.llb_model.specs.Program.{Build, MicroStep, ReadLocal, Act, LayInput, Run, program_of}
use Rattle.llb_board.specs.BoardValue.{BoardValue}
use Rattle.llb_laws.specs.AlikeBoards.{SettleAlike}
use Rattle.llb_laws.specs.AlikeTrees.{AreAlike, AreLike, BothOptions, IsKept, RelatesBody, RelatesStep, RelatesTexts}
use Rattle.llb_laws.specs.ContentLaws.{By, HandsRelationsOn, HaveAlikeSources, RelatesWritten}
use Rattle.llb_laws.specs.EqualContents.{AgreeOnContents}

abbrev Equal : List ℕ → List ℕ → Type 0
Equal = By bytes_eq

equal : (a : List ℕ) → Equal a a
equal a = (bytes_eq-Decides a a).1 refl

same : (a b : List ℕ) → Equal a b → a ≡ b
same a b is = (bytes_eq-Decides a b).0 is

kept : IsKept Equal
kept = record {
  empty = equal [];
  appended = λ a b c d first second.
      subst (λ (x : List ℕ). Equal (a ++ c) (x ++ d)) (same a b first)
      (subst (λ (x : List ℕ). Equal (a ++ c) (a ++ x)) (same c d second) (equal (a ++ c)));
}

-- ---- what ops write

body : (o : Option ActionKind) → RelatesBody Equal o
body (Some (kind.MkFile m)) = equal m.body
body (Some (kind.MkDir m)) = tt
body (Some (kind.Copy c)) = tt
body (Some (kind.Rm r)) = tt
body None = tt

texts : (s : Setting) (c : Command) → RelatesTexts Equal s c
texts s (command.Write path word) = equal (line word)
texts s (command.Append path word) = equal (line word)
texts s (command.Listing path out) = λ t p names. equal (listed t p names)
texts s (command.Envfile out) = equal (flat_map line s.env)
texts s (command.Sha256 path out) =
    λ a b is. subst (λ (x : List ℕ). Equal (line (digits_of a)) (line (digits_of x))) (same a b is) (equal (line (digits_of a)))
texts s command.True = tt
texts s command.False = tt
texts s (command.Mkdir parents path) = tt
texts s (command.Rm path) = tt
texts s (command.Cp from to) = tt
texts s (command.Concat out parts) = tt
texts s (command.Chmod mode path) = tt
texts s (command.Test kind path) = tt

step : (s : MicroStep) → RelatesStep Equal s
step (Act action) = body action.kind
step (Run setting joined ends) = texts setting joined.command
step ReadLocal = tt
step (LayInput i) = tt

steps : (ss : List MicroStep) → All (RelatesStep Equal) ss
steps ss k d low = step (get_or ss k d)

-- ---- trees

entry_itself : (o : Option Entry) → BothOptions (AreLike Equal) o o
entry_itself None = tt
entry_itself (Some (Dir m)) = refl
entry_itself (Some (File m a)) = (refl, equal a)

tree_itself : (t : TreeMap) → AreAlike Equal t t
tree_itself t p = entry_itself (finite.get t p)

trees_itself : (o : Option TreeMap) → BothOptions (AreAlike Equal) o o
trees_itself None = tt
trees_itself (Some t) = tree_itself t

sources : (g : Numbered) (v : ℕ) (ls : List Local) → HaveAlikeSources Equal g v ls ls
sources g v ls name s = trees_itself (tree_of_local ls name)

-- ---- two boards

pub agree_on_contents : (b c : BoardValue) → b.build ≡ c.build → HandsRelationsOn b.build.graph → SettleAlike b c → AgreeOnContents b c
agree_on_contents b c one hands settle =
    let written : (v : ℕ) → RelatesWritten Equal b.build.graph v = λ v k x before there. steps (program_of x).steps in
    let alike : (v : ℕ) → HaveAlikeSources Equal b.build.graph v b.build.locals c.build.locals
    = λ v. subst (λ (k : Build). HaveAlikeSources Equal b.build.graph v b.build.locals k.locals) one (sources b.build.graph v b.build.locals) in
    record {
      premises = record { kept = kept; written = written; sources = alike };
      outcomes = λ v. hands bytes_eq kept b.build.locals c.build.locals v (written v) (alike v);
      endings = λ v d e settled. settle bytes_eq kept v d e settled (written v) (alike v);
    }
