-- What is saved of a workspace puts back the workspace before a micro-step, and shows the same caches.
use Rattle.std.proofs.Common.{◌≡◌, ℕ, ℤ, Bool, true, false, cond, List, [], ◌∷◌, length, refl, ap, arith}
use Rattle.std.specs.Prelude.{Option, Some, None, Result, Ok, Err}
use Rattle.std.proofs.Math.Seq.{take-append_seam}
use Rattle.std.proofs.lemmas.List.{take_all}
use Rattle.llb_fileop.specs.declared.fault.ActFault.{ActFault}
use Rattle.llb_tree.specs.Tree.{TreeMap}
use Rattle.llb_mount.specs.declared.shown_tree.Shown.{Shown}
use Rattle.llb_applet.specs.declared.joined_commands.Joined.{Joined}
use Rattle.llb_applet.specs.declared.directory_and_variables.Setting.{Setting}
use Rattle.llb_applet.specs.Commands.{run}
use Rattle.llb_model.specs.Program.{ReadLocal, Act, LayInput, Run, Workspace, LocalTree, Files, Layers, Mounted, micro_step, tried}
use Rattle.llb_model.specs.Program.{trees_in, with_tree, act_among, with_result, lay_on, filled, is_run, no_fault, ran, run_on}
use Rattle.llb_execution.specs.ModelValues.{work_with, shown_in}
use Rattle.llb_execution.specs.SavedWorkspaces.{Saved, Nothing, Results, Laid, Mounts, saved_of, put_back, PutsBack}

-- what has not changed
same_back : (workspace : Workspace) → put_back (saved_of workspace) workspace ≡ workspace
same_back (LocalTree t) = refl
same_back (Files inputs results) = ap (Files inputs) (take_all (length results) results (omega arith))
same_back (Layers inputs t) = refl
same_back (Mounted mounts caches last) = refl

tree_back : (workspace : Workspace) (t : TreeMap) → put_back (saved_of workspace) (with_tree workspace t) ≡ workspace
tree_back (LocalTree own) t = refl
tree_back (Files inputs results) t = ap (Files inputs) (take-append_seam results (t ∷ []))
tree_back (Layers inputs laid) t = refl
tree_back (Mounted mounts caches last) t = refl

acted_back : (k : ℕ) (workspace : Workspace) (trees : List TreeMap) (r : Result TreeMap ActFault)
    → put_back (saved_of workspace) (tried (work_with workspace trees) (with_result k workspace r)).work.own ≡ workspace
acted_back k workspace trees (Ok t) = tree_back workspace t
acted_back k workspace trees (Err e) = same_back workspace

laid_back : (i : ℤ) (workspace : Workspace) → put_back (saved_of workspace) (lay_on i workspace) ≡ workspace
laid_back i (LocalTree own) = refl
laid_back i (Files inputs results) = same_back (Files inputs results)
laid_back i (Layers inputs laid) = refl
laid_back i (Mounted mounts caches last) = refl

ran_back : (k : ℕ) (ends : Bool) (mounts : List Shown) (caches : List ℕ) (last : ℕ) (trees : List TreeMap) (o : Option (List Shown))
    → put_back (Mounts mounts last) (ran k ends mounts caches trees o).work.own ≡ Mounted mounts caches last
ran_back k ends mounts caches last trees None = refl
ran_back k ends mounts caches last trees (Some after) = refl

run_back : (k : ℕ) (s : Setting) (m : Joined) (ends : Bool) (mounts : List Shown) (caches : List ℕ) (last : ℕ) (trees : List TreeMap)
    → put_back (Mounts mounts last) (run_on k s m ends (Mounted mounts caches last) trees).work.own ≡ Mounted mounts caches last
run_back k s m ends mounts caches last trees = by_run (is_run m.join last)
  where
    by_run : (b : Bool) → put_back (Mounts mounts last) (cond b (ran k ends mounts caches trees (run s (filled mounts caches trees) m.command))
        (no_fault (work_with (Mounted mounts caches last) trees))).work.own ≡ Mounted mounts caches last
    by_run true = ran_back k ends mounts caches last trees (run s (filled mounts caches trees) m.command)
    by_run false = refl

-- whatever micro-step is done on a workspace, what was saved before puts it back
pub puts_back : (workspace : Workspace) → PutsBack workspace (saved_of workspace)
unfolding micro_step
puts_back workspace k None trees = same_back workspace
puts_back workspace k (Some ReadLocal) trees = same_back workspace
puts_back workspace k (Some (Act a)) trees = acted_back k workspace trees (act_among a (trees_in workspace))
puts_back workspace k (Some (LayInput i)) trees = laid_back i workspace
puts_back (LocalTree t) k (Some (Run s m ends)) trees = refl
puts_back (Files inputs results) k (Some (Run s m ends)) trees = same_back (Files inputs results)
puts_back (Layers inputs t) k (Some (Run s m ends)) trees = refl
puts_back (Mounted mounts caches last) k (Some (Run s m ends)) trees = run_back k s m ends mounts caches last trees

-- a workspace that is put back shows the same caches
pub shown_back : (m : Saved) (workspace : Workspace) → shown_in (put_back m workspace) ≡ shown_in workspace
shown_back Nothing workspace = refl
shown_back (Results n) (LocalTree t) = refl
shown_back (Results n) (Files inputs results) = refl
shown_back (Results n) (Layers inputs t) = refl
shown_back (Results n) (Mounted mounts caches last) = refl
shown_back (Laid was) (LocalTree t) = refl
shown_back (Laid was) (Files inputs results) = refl
shown_back (Laid was) (Layers inputs t) = refl
shown_back (Laid was) (Mounted mounts caches last) = refl
shown_back (Mounts were status) (LocalTree t) = refl
shown_back (Mounts were status) (Files inputs results) = refl
shown_back (Mounts were status) (Layers inputs t) = refl
shown_back (Mounts were status) (Mounted mounts caches last) = refl
