-- What a copy reads of the tree that it copies from: what is at and below the paths that it copies. Elsewhere that tree may differ. So a vertex that is a file
-- op may have the same outcome in two builds though trees of its inputs differ.
use Rattle.std.specs.Prelude.{◌≡◌, ◌⊎◌, ℕ, suc, Bool, true, pos, List, [], ◌∷◌, Some, Ok, slice_get}
use Rattle.std.specs.List.{Contains}
use Rattle.std.specs.FinMap as finite
use Rattle.llb_ops.specs.declared.actions.CopyFile.{CopyFile}
use Rattle.llb_ops.specs.declared.file_op.Action.{Action}
use Rattle.llb_ops.specs.declared.file_op.ActionKind.TheVariants as action
use Rattle.llb_ops.specs.declared.file_op.FileOp.{FileOp}
use Rattle.llb_ops.specs.declared.op.Kind.TheVariants as kind
use Rattle.llb_tree.specs.Path.{is_within}
use Rattle.llb_tree.specs.Tree.{TreeMap}
use Rattle.llb_glob.specs.Matching.{path_matches}
use Rattle.llb_fileop.specs.Copying.{Chosen, OnePath, EachMatch, chosen_by, copy}
use Rattle.llb_loader.specs.declared.graph.Edge.{Edge}
use Rattle.llb_loader.specs.declared.graph.Vertex.{Vertex}
use Rattle.llb_loader.specs.Graph.{Numbered}
use Rattle.llb_loader.specs.LocalSources.{Local}
use Rattle.llb_model.specs.Program.{Build}
use Rattle.llb_model.specs.Outcome.{outcome}
use Rattle.llb_laws.specs.Matchings.{output_at, EdgesMatch, DoAlike, By}

-- ---- one copy

-- two trees have the same entry, or none, at each path that is at or below path p
abbrev pub AgreeBelow : TreeMap → TreeMap → List (List ℕ) → Type 0
AgreeBelow t u p = (q : List (List ℕ)) → is_within p q ≡ true → finite.get t q ≡ finite.get u q

-- two trees agree at and below each of these paths
abbrev pub AgreeBelowEach : TreeMap → TreeMap → List (List (List ℕ)) → Type 0
AgreeBelowEach t u ps = (p : List (List ℕ)) → Contains ps p → AgreeBelow t u p

-- two trees agree at and below what a copy has chosen: its one path, or each path that matches its pattern
abbrev pub AgreeOn : TreeMap → TreeMap → Chosen → Type 0
AgreeOn t u (OnePath p) = AgreeBelow t u p
AgreeOn t u (EachMatch pattern) = (p : List (List ℕ)) → path_matches pattern p ≡ true → AgreeBelow t u p

-- two trees agree at and below what a copy action chooses (`AgreeOn`); any two trees do if its text can't be read
abbrev pub AgreeFor : CopyFile → TreeMap → TreeMap → Type 0
AgreeFor c t u = (chosen : Chosen) → chosen_by c ≡ Ok chosen → AgreeOn t u chosen

-- a copy from either of two trees that agree at and below what it chooses has the same result, or fails with the same fault
abbrev pub CopiesAlike : CopyFile → TreeMap → TreeMap → TreeMap → Type 0
CopiesAlike c base t u = AgreeFor c t u → copy c base t ≡ copy c base u

-- ---- a file op

-- an action reads the same of input number i, whether the input's tree is t or u: it begins with that tree only if the two are equal, and if it copies from
-- that tree, the two agree at and below what it chooses
pub record ReadsAlike (i : ℕ) (t u : TreeMap) (a : Action) : Type 0 where
  pub base : a.input ≡ pos i → t ≡ u
  pub copied : (c : CopyFile) → a.kind ≡ Some (action.Copy c) → a.secondary_input ≡ pos i → AgreeFor c t u

-- all of these actions read the same of input number i, whether the input's tree is t or u
abbrev pub AllReadAlike : List Action → ℕ → TreeMap → TreeMap → Type 0
AllReadAlike actions i t u = (k : ℕ) (a : Action) → slice_get actions k ≡ Some a → ReadsAlike i t u a

-- two edges lead to trees of which these actions read the same, as input number i
pub record LeadAlike (b c : Build) (actions : List Action) (i : ℕ) (e f : Edge) : Type 0 where
  pub first : TreeMap
  pub second : TreeMap
  pub first_there : output_at b e ≡ Some first
  pub second_there : output_at c f ≡ Some second
  pub read : AllReadAlike actions i first second

-- these inputs, of which the first has number i, match pairwise (`EdgesMatch`), or lead to trees of which the actions read the same (`LeadAlike`)
abbrev pub InputsAgree : Build → Build → (ℕ → ℕ → Type 0) → List Action → ℕ → List Edge → List Edge → Type 0
InputsAgree b c M actions i [] [] = Unit {0}
InputsAgree b c M actions i (e ∷ es) (f ∷ fs) = (EdgesMatch b c M e f ⊎ LeadAlike b c actions i e f) × InputsAgree b c M actions (suc i) es fs
InputsAgree b c M actions i [] (f ∷ fs) = ⊥
InputsAgree b c M actions i (e ∷ es) [] = ⊥

-- vertex v of build b and vertex w of build c are the same file op with as many outputs, on inputs that match or of which the op reads the same
pub record ReadAlike (b c : Build) (M : ℕ → ℕ → Type 0) (v w : ℕ) : Type 0 where
  pub first : Vertex
  pub second : Vertex
  pub first_there : slice_get b.graph.vertices v ≡ Some first
  pub second_there : slice_get c.graph.vertices w ≡ Some second
  pub file : FileOp
  pub first_kind : first.op.kind ≡ Some (kind.File file)
  pub second_kind : second.op.kind ≡ Some (kind.File file)
  pub outputs : first.outputs ≡ second.outputs
  pub inputs : InputsAgree b c M file.actions 0 first.inputs second.inputs

-- M is a matching by what is read: vertices that it relates have the same plain outcome already, do the same on inputs that match, or are one file op that
-- reads the same
abbrev pub IsMatchedByReads : Build → Build → (ℕ → ℕ → Type 0) → Type 0
IsMatchedByReads b c M = (v w : ℕ) → M v w → (outcome b v ≡ outcome c w) ⊎ (DoAlike b c M v w ⊎ ReadAlike b c M v w)

-- vertices that a matching by what is read relates have the same plain outcome, for any such matching that a test decides, and any local trees
abbrev pub ReadsEndAlike : Numbered → Numbered → Type 0
ReadsEndAlike g h = (ls ms : List Local) (test : ℕ → ℕ → Bool)
    → IsMatchedByReads (record { graph = g; locals = ls }) (record { graph = h; locals = ms }) (By test)
    → (v w : ℕ) → test v w ≡ true → outcome (record { graph = g; locals = ls }) v ≡ outcome (record { graph = h; locals = ms }) w
