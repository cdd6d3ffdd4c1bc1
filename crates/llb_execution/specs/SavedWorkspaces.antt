-- A saved copy of what a micro-step can change in a workspace. It is made before the micro-step, and put back to undo the micro-step.
use Rattle.std.specs.Prelude.{◌≡◌, ℕ, List, length, take, Option}
use Rattle.llb_mount.specs.declared.shown_tree.Shown.{Shown}
use Rattle.llb_tree.specs.Tree.{TreeMap}
use Rattle.llb_model.specs.Program.{MicroStep, Workspace, LocalTree, Files, Layers, Mounted, step_on}
use Rattle.llb_execution.specs.ModelValues.{work_with}
use Rattle.llb_execution.specs.declared.saved_workspace.StateBefore.{StateBefore}
use Rattle.llb_execution.specs.declared.saved_workspace.StateBefore.TheVariants as was

-- a saved copy: for a source nothing, for a file op how many results there are, for a merge what is laid, for an exec its mounts and the last status
pub data Saved : Type 0 where
  Nothing : Saved
  Results : ℕ → Saved
  Laid : TreeMap → Saved
  Mounts : List Shown → ℕ → Saved

-- the saved copy that a value of the code's type `StateBefore` represents
abbrev pub saved_in : StateBefore → Saved
saved_in was.Nothing = Nothing
saved_in (was.Results count) = Results count
saved_in (was.Laid t) = Laid t
saved_in (was.Mounts mounts last) = Mounts mounts last

-- what is saved of a workspace: all that a micro-step can change in it
abbrev pub saved_of : Workspace → Saved
saved_of (LocalTree t) = Nothing
saved_of (Files inputs results) = Results (length results)
saved_of (Layers inputs t) = Laid t
saved_of (Mounted mounts caches last) = Mounts mounts last

-- a workspace after a saved copy is put back: a file op keeps only its first `count` results; a merge gets the saved tree as its result so far; an exec gets
-- the saved mounts and last status. A copy of another kind of workspace changes nothing
abbrev pub put_back : Saved → Workspace → Workspace
put_back Nothing workspace = workspace
put_back (Results count) (Files inputs results) = Files inputs (take count results)
put_back (Results count) (LocalTree t) = LocalTree t
put_back (Results count) (Layers inputs t) = Layers inputs t
put_back (Results count) (Mounted mounts caches last) = Mounted mounts caches last
put_back (Laid was) (Layers inputs t) = Layers inputs was
put_back (Laid was) (LocalTree t) = LocalTree t
put_back (Laid was) (Files inputs results) = Files inputs results
put_back (Laid was) (Mounted mounts caches last) = Mounted mounts caches last
put_back (Mounts were status) (Mounted mounts caches last) = Mounted were caches status
put_back (Mounts were status) (LocalTree t) = LocalTree t
put_back (Mounts were status) (Files inputs results) = Files inputs results
put_back (Mounts were status) (Layers inputs t) = Layers inputs t

-- after any micro-step on a workspace, with any trees of caches, putting back what was saved before restores the workspace
abbrev pub PutsBack : Workspace → Saved → Type 0
PutsBack workspace saved = (k : ℕ) (step : Option MicroStep) (trees : List TreeMap) → put_back saved (step_on k step (work_with workspace trees)).work.own
    ≡ workspace
