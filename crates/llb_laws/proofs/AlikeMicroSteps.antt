-- Micro-steps on alike works leave alike works with one fault, and alike works have alike outputs.
use Rattle.std.proofs.Common.{◌≡◌, ℕ, zero, suc, Bool, true, false, cond, List, [], ◌∷◌, length, map, Option, Some, None}
use Rattle.std.proofs.Common.{refl, ap, subst}
use Rattle.std.specs.Prelude.{ℤ, pos, negsuc, Result, Ok, Err, slice_get, unwrap_or}
use Rattle.std.specs.List.{All, range_with_len}
use Rattle.llb_ops.specs.declared.file_op.Action.{Action}
use Rattle.llb_tree.specs.Path.{is_name}
use Rattle.llb_tree.specs.Tree.{TreeMap, empty_tree}
use Rattle.llb_fileop.specs.declared.fault.ActFault.{ActFault}
use Rattle.llb_mount.specs.declared.shown_tree.Shown.{Shown}
use Rattle.llb_mount.specs.View.{with_tree_of}
use Rattle.llb_applet.specs.declared.directory_and_variables.Setting.{Setting}
use Rattle.llb_applet.specs.declared.joined_commands.Joined.{Joined}
use Rattle.llb_applet.specs.Commands.{run}
use Rattle.llb_events.specs.declared.fault.VertexFault.{VertexFault}
use Rattle.llb_events.specs.declared.fault.VertexFault.TheVariants as fault
use Rattle.llb_model.specs.Program.{MicroStep, ReadLocal, Act, LayInput, Run, Workspace, LocalTree, Files, Layers, Mounted, Work, Left, Program}
use Rattle.llb_model.specs.Program.{base_in, fault_number, trees_in, with_tree, with_result, act_among, lay_on, filled, taken, parted, is_run}
use Rattle.llb_model.specs.Program.{no_fault, ran, run_on, tried, micro_step, step_on, unless_faulted, part, whole, is_output}
use Rattle.llb_model.specs.Program.{result_for, tree_for, output_from, outputs_of}
use Rattle.llb_model.specs.Outcome.{ended, ending}
use Rattle.llb_laws.specs.AlikeTrees.{IsKept, BothOptions, BothResults, BothLists, RelatesBody, BothEndings}
use Rattle.llb_laws.proofs.AlikeValues.{both_append, both_map, both_maps, both_get}
use Rattle.llb_laws.proofs.AlikeTreesWithNames.{Alike, AlikeViews, AlikeWorkspaces, AlikeWorks, AlikeLefts, Texts, Writes}
use Rattle.llb_laws.proofs.AlikeTreeEdits.{alike_empty, alike_lay}
use Rattle.llb_laws.proofs.AlikeActions.{alike_act}
use Rattle.llb_laws.proofs.AlikeCommands.{alike_mount_at, alike_with_tree_of, alike_run}

module _ (N : List ℕ → Type 0) (names : (n : List ℕ) → is_name n ≡ true → N n) (R : List ℕ → List ℕ → Type 0) (kept : IsKept R) where
  pub alike_or_empty : (o p : Option TreeMap) → BothOptions (Alike N R) o p → Alike N R (unwrap_or o empty_tree) (unwrap_or p empty_tree)
  alike_or_empty None None h = alike_empty N R
  alike_or_empty (Some t) (Some u) h = h
  alike_or_empty None (Some u) h = absurd h
  alike_or_empty (Some t) None h = absurd h

  pub alike_base_in : (n : ℤ) (ts us : List TreeMap) → BothLists (Alike N R) ts us → Alike N R (base_in n ts) (base_in n us)
  alike_base_in (pos n) ts us h = alike_or_empty (slice_get ts n) (slice_get us n) (both_get (Alike N R) ts us n h)
  alike_base_in (negsuc n) ts us h = alike_empty N R

  -- ---- actions and layings

  alike_trees_in : (x y : Workspace) → AlikeWorkspaces N R x y → BothLists (Alike N R) (trees_in x) (trees_in y)
  alike_trees_in (LocalTree t) (LocalTree u) h = tt
  alike_trees_in (Files is rs) (Files js ss) h = both_append (Alike N R) is js rs ss h.0 h.1
  alike_trees_in (Layers is t) (Layers js u) h = h.0
  alike_trees_in (Mounted ms cs l) (Mounted ns ds k) h = tt
  alike_trees_in _ _ h = absurd h

  alike_with_tree : (x y : Workspace) → AlikeWorkspaces N R x y → (t u : TreeMap) → Alike N R t u → AlikeWorkspaces N R (with_tree x t) (with_tree y u)
  alike_with_tree (LocalTree t) (LocalTree u) h v w k = h
  alike_with_tree (Files is rs) (Files js ss) h v w k = (h.0, both_append (Alike N R) rs ss (v ∷ []) (w ∷ []) h.1 (k, tt))
  alike_with_tree (Layers is t) (Layers js u) h v w k = h
  alike_with_tree (Mounted ms cs l) (Mounted ns ds m) h v w k = h
  alike_with_tree _ _ h v w k = absurd h

  alike_lay_on : (i : ℤ) (x y : Workspace) → AlikeWorkspaces N R x y → AlikeWorkspaces N R (lay_on i x) (lay_on i y)
  alike_lay_on i (LocalTree t) (LocalTree u) h = h
  alike_lay_on i (Files is rs) (Files js ss) h = h
  alike_lay_on i (Layers is t) (Layers js u) h = (h.0, alike_lay N R t u (base_in i is) (base_in i js) h.1 (alike_base_in i is js h.0))
  alike_lay_on i (Mounted ms cs l) (Mounted ns ds m) h = h
  alike_lay_on i _ _ h = absurd h

  alike_no_fault : (x y : Work) → AlikeWorks N R x y → AlikeLefts N R (no_fault x) (no_fault y)
  alike_no_fault x y h = record { work = h; fault = refl }

  alike_tried : (x y : Work) → AlikeWorks N R x y → (k : ℕ) (r s : Result TreeMap ActFault) → BothResults (Alike N R) r s
      → AlikeLefts N R (tried x (with_result k x.own r)) (tried y (with_result k y.own s))
  alike_tried x y h k (Ok t) (Ok u) l =
      alike_no_fault (record x { own = with_tree x.own t }) (record y { own = with_tree y.own u })
      (record { own = alike_with_tree x.own y.own h.own t u l; trees = h.trees })
  alike_tried x y h k (Err e) (Err f) l = record { work = h; fault = ap (λ z. Some (fault.Action k (fault_number z))) l }
  alike_tried x y h k (Ok t) (Err f) l = absurd l
  alike_tried x y h k (Err e) (Ok u) l = absurd l

  alike_act_among : (a : Action) → RelatesBody R a.kind → (ts us : List TreeMap) → BothLists (Alike N R) ts us
      → BothResults (Alike N R) (act_among a ts) (act_among a us)
  alike_act_among a body ts us h =
      alike_act N names R a.kind body (base_in a.input ts) (base_in a.input us) (base_in a.secondary_input ts) (base_in a.secondary_input us)
      (alike_base_in a.input ts us h) (alike_base_in a.secondary_input ts us h)

  -- ---- commands

  alike_filled : (v w : List Shown) → AlikeViews N R v w → (ms : List ℕ) (ts us : List TreeMap) → BothLists (Alike N R) ts us
      → AlikeViews N R (filled v ms ts) (filled w ms us)
  alike_filled v w h [] ts us k = h
  alike_filled v w h (m ∷ ms) [] [] k = h
  alike_filled v w h (m ∷ ms) (t ∷ ts) (u ∷ us) k =
      alike_filled (with_tree_of v m t) (with_tree_of w m u) (alike_with_tree_of N names R kept v w h m t u k.0) ms ts us k.1
  alike_filled v w h (m ∷ ms) [] (u ∷ us) k = absurd k
  alike_filled v w h (m ∷ ms) (t ∷ ts) [] k = absurd k

  alike_taken : (v w : List Shown) → AlikeViews N R v w → (ms : List ℕ) (ts us : List TreeMap) → BothLists (Alike N R) ts us
      → BothLists (Alike N R) (taken v ms ts) (taken w ms us)
  alike_taken v w h ms [] [] k = tt
  alike_taken v w h [] (t ∷ ts) (u ∷ us) k = k
  alike_taken v w h (m ∷ ms) (t ∷ ts) (u ∷ us) k = ((alike_mount_at N names R kept v w h m).tree, alike_taken v w h ms ts us k.1)
  alike_taken v w h ms [] (u ∷ us) k = absurd k
  alike_taken v w h ms (t ∷ ts) [] k = absurd k

  alike_parted : (cs : List ℕ) (ts us : List TreeMap) → BothLists (Alike N R) ts us → (v w : List Shown) → AlikeViews N R v w
      → AlikeWorks N R (parted cs ts v) (parted cs us w)
  alike_parted cs ts us k v w h =
      record {
        own = (
          alike_filled v w h cs (map (λ t. empty_tree) ts) (map (λ t. empty_tree) us)
              (both_map (Alike N R) (Alike N R) (λ t. empty_tree) (λ t. empty_tree) (λ t u l. alike_empty N R) ts us k),
          refl,
          refl,
        );
        trees = alike_taken v w h cs ts us k;
      }

  alike_ran : (c : ℕ) (ends : Bool) (v w : List Shown) → AlikeViews N R v w → (cs : List ℕ) (ts us : List TreeMap) → BothLists (Alike N R) ts us
      → (o p : Option (List Shown)) → BothOptions (AlikeViews N R) o p → AlikeLefts N R (ran c ends v cs ts o) (ran c ends w cs us p)
  alike_ran c ends v w h cs ts us k (Some x) (Some y) l = record { work = alike_parted cs ts us k x y l; fault = refl }
  alike_ran c ends v w h cs ts us k None None l = record { work = record { own = (h, refl, refl); trees = k }; fault = refl }
  alike_ran c ends v w h cs ts us k (Some x) None l = absurd l
  alike_ran c ends v w h cs ts us k None (Some y) l = absurd l

  -- the same with equal numbers of caches and equal last statuses
  alike_mounted : (c : ℕ) (s : Setting) → All N s.cwd → (j : Joined) (ends : Bool) → Texts N R s j.command → (v w : List Shown) → AlikeViews N R v w
      → (cs : List ℕ) (l : ℕ)
      → (ts us : List TreeMap) → BothLists (Alike N R) ts us
      → AlikeLefts N R (run_on c s j ends (Mounted v cs l) ts) (run_on c s j ends (Mounted w cs l) us)
  alike_mounted c s cwd j ends own v w h cs l ts us k =
      elim (is_run j.join l)
      as (λ b. AlikeLefts N R (cond b (ran c ends v cs ts (run s (filled v cs ts) j.command)) (no_fault (record { own = Mounted v cs l; trees = ts })))
      (cond b (ran c ends w cs us (run s (filled w cs us) j.command)) (no_fault (record { own = Mounted w cs l; trees = us })))) [
        | true ↦ alike_ran c ends v w h cs ts us k (run s (filled v cs ts) j.command) (run s (filled w cs us) j.command)
            (alike_run N names R kept s cwd (filled v cs ts) (filled w cs us) (alike_filled v w h cs ts us k) j.command own)
        | false ↦ record { work = record { own = (h, refl, refl); trees = k }; fault = refl }
      ]

  alike_run_on : (c : ℕ) (s : Setting) → All N s.cwd → (j : Joined) (ends : Bool) → Texts N R s j.command → (x y : Workspace) → AlikeWorkspaces N R x y
      → (ts us : List TreeMap) → BothLists (Alike N R) ts us → AlikeLefts N R (run_on c s j ends x ts) (run_on c s j ends y us)
  alike_run_on c s cwd j ends own (Mounted v cs l) (Mounted w ds m) h ts us k =
      subst (λ (z : List ℕ). AlikeLefts N R (run_on c s j ends (Mounted v cs l) ts) (run_on c s j ends (Mounted w z m) us)) h.1
      (subst (λ (z : ℕ). AlikeLefts N R (run_on c s j ends (Mounted v cs l) ts) (run_on c s j ends (Mounted w cs z) us)) h.2
      (alike_mounted c s cwd j ends own v w h.0 cs l ts us k))
  alike_run_on c s cwd j ends own (LocalTree t) (LocalTree u) h ts us k = record { work = record { own = h; trees = k }; fault = refl }
  alike_run_on c s cwd j ends own (Files is rs) (Files js ss) h ts us k = record { work = record { own = h; trees = k }; fault = refl }
  alike_run_on c s cwd j ends own (Layers is t) (Layers js u) h ts us k = record { work = record { own = h; trees = k }; fault = refl }
  alike_run_on c s cwd j ends own _ _ h ts us k = absurd h

  -- ---- micro-steps

  pub alike_micro_step : (k : ℕ) (m : MicroStep) → Writes N R m → (x y : Work) → AlikeWorks N R x y
      → AlikeLefts N R (micro_step k m x) (micro_step k m y)
  unfolding micro_step
  alike_micro_step k ReadLocal own x y h = alike_no_fault x y h
  alike_micro_step k (Act a) own x y h =
      alike_tried x y h k (act_among a (trees_in x.own)) (act_among a (trees_in y.own))
      (alike_act_among a own (trees_in x.own) (trees_in y.own) (alike_trees_in x.own y.own h.own))
  alike_micro_step k (LayInput i) own x y h =
      alike_no_fault (record x { own = lay_on i x.own }) (record y { own = lay_on i y.own })
      (record { own = alike_lay_on i x.own y.own h.own; trees = h.trees })
  alike_micro_step k (Run s j ends) own x y h = alike_run_on k s own.0 j ends own.1 x.own y.own h.own x.trees y.trees h.trees

  alike_step_on : (k : ℕ) (o : Option MicroStep) → ((m : MicroStep) → o ≡ Some m → Writes N R m) → (x y : Work) → AlikeWorks N R x y
      → AlikeLefts N R (step_on k o x) (step_on k o y)
  alike_step_on k None own x y h = alike_no_fault x y h
  alike_step_on k (Some m) own x y h = alike_micro_step k m (own m refl) x y h

  alike_unless : (f g : Option VertexFault) → f ≡ g → (x y z w : Left) → AlikeLefts N R x y → AlikeLefts N R z w
      → AlikeLefts N R (unless_faulted f x z) (unless_faulted g y w)
  alike_unless f g same x y z w h k = subst (λ o. AlikeLefts N R (unless_faulted f x z) (unless_faulted o y w)) same (by_fault f)
    where
      by_fault : (o : Option VertexFault) → AlikeLefts N R (unless_faulted o x z) (unless_faulted o y w)
      by_fault None = k
      by_fault (Some e) = h

  alike_part : (steps : List MicroStep) → ((k : ℕ) (m : MicroStep) → slice_get steps k ≡ Some m → Writes N R m) → (x y : Work) → AlikeWorks N R x y
      → (k : ℕ) → AlikeLefts N R (part steps x k) (part steps y k)
  unfolding part
  alike_part steps own x y h zero = alike_no_fault x y h
  alike_part steps own x y h (suc k) =
      let before = alike_part steps own x y h k in
      alike_unless (part steps x k).fault (part steps y k).fault before.fault (part steps x k) (part steps y k)
      (step_on k (slice_get steps k) (part steps x k).work)
      (step_on k (slice_get steps k) (part steps y k).work) before
      (alike_step_on k (slice_get steps k) (own k) (part steps x k).work (part steps y k).work before.work)

  pub alike_whole : (steps : List MicroStep) → ((k : ℕ) (m : MicroStep) → slice_get steps k ≡ Some m → Writes N R m) → (x y : Work) → AlikeWorks N R x y
      → AlikeLefts N R (whole steps x) (whole steps y)
  alike_whole steps own x y h = alike_part steps own x y h (length steps)

  -- ---- outputs

  alike_cond : (b : Bool) (t u v w : TreeMap) → Alike N R t u → Alike N R v w → Alike N R (cond b t v) (cond b u w)
  alike_cond true t u v w h k = h
  alike_cond false t u v w h k = k

  alike_result_for : (i : ℕ) (steps : List MicroStep) (ts us : List TreeMap) → BothLists (Alike N R) ts us
      → Alike N R (result_for i steps ts) (result_for i steps us)
  alike_result_for i [] ts us h = alike_empty N R
  alike_result_for i (m ∷ steps) [] [] h = alike_empty N R
  alike_result_for i (Act a ∷ steps) (t ∷ ts) (u ∷ us) h =
      alike_cond (is_output i a.output) t u (result_for i steps ts) (result_for i steps us) h.0 (alike_result_for i steps ts us h.1)
  alike_result_for i (ReadLocal ∷ steps) (t ∷ ts) (u ∷ us) h = alike_result_for i steps ts us h.1
  alike_result_for i (LayInput n ∷ steps) (t ∷ ts) (u ∷ us) h = alike_result_for i steps ts us h.1
  alike_result_for i (Run s j ends ∷ steps) (t ∷ ts) (u ∷ us) h = alike_result_for i steps ts us h.1
  alike_result_for i (m ∷ steps) [] (u ∷ us) h = absurd h
  alike_result_for i (m ∷ steps) (t ∷ ts) [] h = absurd h

  alike_tree_for : (i : ℕ) (ns : List ℤ) (v w : List Shown) → AlikeViews N R v w → Alike N R (tree_for i ns v) (tree_for i ns w)
  alike_tree_for i [] v w h = alike_empty N R
  alike_tree_for i (n ∷ ns) [] [] h = alike_empty N R
  alike_tree_for i (n ∷ ns) (m ∷ v) (k ∷ w) h =
      alike_cond (is_output i n) m.tree k.tree (tree_for i ns v) (tree_for i ns w) h.0.tree (alike_tree_for i ns v w h.1)
  alike_tree_for i (n ∷ ns) [] (k ∷ w) h = absurd h
  alike_tree_for i (n ∷ ns) (m ∷ v) [] h = absurd h

  alike_output_from : (p : Program) (x y : Workspace) → AlikeWorkspaces N R x y → (i : ℕ) → Alike N R (output_from p x i) (output_from p y i)
  alike_output_from p (Files is rs) (Files js ss) h i = alike_result_for i p.steps rs ss h.1
  alike_output_from p (LocalTree t) (LocalTree u) h zero = h
  alike_output_from p (LocalTree t) (LocalTree u) h (suc i) = alike_empty N R
  alike_output_from p (Layers is t) (Layers js u) h zero = h.1
  alike_output_from p (Layers is t) (Layers js u) h (suc i) = alike_empty N R
  alike_output_from p (Mounted v cs l) (Mounted w ds m) h i = alike_tree_for i p.output_numbers v w h.0
  alike_output_from p _ _ h i = absurd h

  alike_outputs : (p : Program) (x y : Workspace) → AlikeWorkspaces N R x y → BothLists (Alike N R) (outputs_of p x) (outputs_of p y)
  unfolding outputs_of
  alike_outputs p x y h = both_maps (Alike N R) (output_from p x) (output_from p y) (alike_output_from p x y h) (range_with_len 0 p.outputs)

  pub alike_ending : (p : Program) (x y : Left) → AlikeLefts N R x y → BothEndings (Alike N R) (ending p x) (ending p y)
  alike_ending p x y h = subst (λ o. BothEndings (Alike N R) (ended p x.work.own x.fault) (ended p y.work.own o)) h.fault (by_fault x.fault)
    where
      by_fault : (o : Option VertexFault) → BothEndings (Alike N R) (ended p x.work.own o) (ended p y.work.own o)
      by_fault None = alike_outputs p x.work.own y.work.own h.work.own
      by_fault (Some f) = refl
