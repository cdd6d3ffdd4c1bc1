-- File ops that read the same of their inputs end alike, and so do vertices that a matching by what is read relates.
use Rattle.std.proofs.Common.{◌≡◌, ℕ, zero, suc, ◌+◌, ◌<◌, List, [], ◌∷◌, ◌++◌, map, length, Option, Some, None, refl, sym, ap, subst, ◌∙◌, arith}
use Rattle.std.proofs.Common.{inl, inr, ◌⊎◌}
use Rattle.std.specs.Prelude.{ℤ, pos, negsuc, Result, Ok, Err, slice_get, unwrap_or}
use Rattle.llb_ops.specs.declared.actions.CopyFile.{CopyFile}
use Rattle.llb_ops.specs.declared.file_op.Action.{Action}
use Rattle.llb_ops.specs.declared.file_op.ActionKind.TheVariants as action
use Rattle.llb_ops.specs.declared.file_op.FileOp.{FileOp}
use Rattle.llb_ops.specs.declared.op.Kind.{Kind}
use Rattle.llb_ops.specs.declared.op.Kind.TheVariants as kind
use Rattle.llb_tree.specs.Tree.{TreeMap, empty_tree}
use Rattle.llb_fileop.specs.declared.fault.ActFault.{ActFault}
use Rattle.llb_fileop.specs.Copying.{Chosen, OnePath, EachMatch}
use Rattle.llb_fileop.specs.FileActions.{act}
use Rattle.llb_loader.specs.declared.graph.Edge.{Edge}
use Rattle.llb_loader.specs.declared.graph.Vertex.{Vertex}
use Rattle.llb_loader.specs.Graph.{Numbered, LeadsBelow, IsGraph}
use Rattle.llb_loader.specs.Rules.{kind_mounts, mount_outputs}
use Rattle.llb_events.specs.declared.fault.VertexFault.{VertexFault}
use Rattle.llb_events.specs.declared.fault.VertexFault.TheVariants as fault
use Rattle.llb_model.specs.Program.{Build, MicroStep, Act, Files, Work, Left, Program, base_in, fault_number, with_result, act_among, tried, micro_step}
use Rattle.llb_model.specs.Program.{step_on, go_on, part, whole, steps_of, workspace_on, outputs_of}
use Rattle.llb_model.specs.Outcome.{Ended, ending, both, inputs_from, outcome_on, outcome}
use Rattle.llb_model.proofs.Lists.{some_of, Each_of}
use Rattle.llb_model.proofs.Outcomes.{plain, outcome_is, each_below}
use Rattle.llb_laws.specs.AlikeTrees.{BothOptions}
use Rattle.llb_laws.specs.Matchings.{output_at, EdgesMatch, DoAlike, By}
use Rattle.llb_laws.specs.CopiedPaths.{AgreeOn, AgreeFor, ReadsAlike, LeadAlike, InputsAgree, ReadAlike, IsMatchedByReads, ReadsEndAlike}
use Rattle.llb_laws.proofs.AlikeValues.{carry_options}
use Rattle.llb_laws.proofs.CopiedPaths.{act_alike}
use Rattle.llb_laws.proofs.Matches.{AlikeBelow, does_alike, edges_alike, trees_alike}

-- the actions read the same of these trees, of which the first are those of input number i
abbrev TreesAgree : List Action → ℕ → List TreeMap → List TreeMap → Type 0
TreesAgree actions i [] [] = Unit {0}
TreesAgree actions i (t ∷ ts) (u ∷ us) =
    ((k : ℕ) (a : Action) → slice_get actions k ≡ Some a → ReadsAlike i t u a) × TreesAgree actions (suc i) ts us
TreesAgree actions i [] (u ∷ us) = ⊥
TreesAgree actions i (t ∷ ts) [] = ⊥

-- a tree agrees with itself on what a copy chooses
agree_itself : (v : TreeMap) (chosen : Chosen) → AgreeOn v v chosen
agree_itself v (OnePath p) = λ q below. refl
agree_itself v (EachMatch pattern) = λ p is q below. refl

-- of equal trees every action reads the same
reads_equal : (i : ℕ) (t u : TreeMap) → t ≡ u → (a : Action) → ReadsAlike i t u a
reads_equal i t u same a =
    record { base = λ is. same; copied = λ c is second. subst (AgreeFor c t) same (λ chosen by. agree_itself t chosen) }

-- ---- one action

module _ (a : Action) where
  -- the facts of this action of a list are those of each list of inputs
  abbrev Reads : ℕ → List TreeMap → List TreeMap → Type 0
  Reads i [] [] = Unit {0}
  Reads i (t ∷ ts) (u ∷ us) = ReadsAlike i t u a × Reads (suc i) ts us
  Reads i [] (u ∷ us) = ⊥
  Reads i (t ∷ ts) [] = ⊥

  of_action : (actions : List Action) (k : ℕ) → slice_get actions k ≡ Some a → (i : ℕ) (ts us : List TreeMap) → TreesAgree actions i ts us → Reads i ts us
  of_action actions k there i [] [] h = tt
  of_action actions k there i (t ∷ ts) (u ∷ us) h = (h.0 k a there, of_action actions k there (suc i) ts us h.1)
  of_action actions k there i [] (u ∷ us) h = absurd h
  of_action actions k there i (t ∷ ts) [] h = absurd h

  module _ (results : List TreeMap) where
    base_from : (i n : ℕ) (ts us : List TreeMap) → Reads i ts us → a.input ≡ pos (n + i)
        → unwrap_or (slice_get (ts ++ results) n) empty_tree ≡ unwrap_or (slice_get (us ++ results) n) empty_tree
    base_from i n [] [] h is = refl
    base_from i zero (t ∷ ts) (u ∷ us) h is = h.0.base (is ∙ ap pos (omega arith))
    base_from i (suc n) (t ∷ ts) (u ∷ us) h is = base_from (suc i) n ts us h.1 (is ∙ ap pos (omega arith))
    base_from i n [] (u ∷ us) h is = absurd h
    base_from i n (t ∷ ts) [] h is = absurd h

    second_from : (c : CopyFile) → a.kind ≡ Some (action.Copy c) → (i n : ℕ) (ts us : List TreeMap) → Reads i ts us → a.secondary_input ≡ pos (n + i)
        → AgreeFor c (unwrap_or (slice_get (ts ++ results) n) empty_tree) (unwrap_or (slice_get (us ++ results) n) empty_tree)
    second_from c copy i n [] [] h is = λ chosen by. agree_itself (unwrap_or (slice_get results n) empty_tree) chosen
    second_from c copy i zero (t ∷ ts) (u ∷ us) h is = h.0.copied c copy (is ∙ ap pos (omega arith))
    second_from c copy i (suc n) (t ∷ ts) (u ∷ us) h is = second_from c copy (suc i) n ts us h.1 (is ∙ ap pos (omega arith))
    second_from c copy i n [] (u ∷ us) h is = absurd h
    second_from c copy i n (t ∷ ts) [] h is = absurd h

    base_same : (n : ℤ) → a.input ≡ n → (ts us : List TreeMap) → Reads 0 ts us → base_in n (ts ++ results) ≡ base_in n (us ++ results)
    base_same (pos n) is ts us h = base_from 0 n ts us h (is ∙ ap pos (omega arith))
    base_same (negsuc n) is ts us h = refl

    second_agree : (c : CopyFile) → a.kind ≡ Some (action.Copy c) → (n : ℤ) → a.secondary_input ≡ n → (ts us : List TreeMap) → Reads 0 ts us
        → AgreeFor c (base_in n (ts ++ results)) (base_in n (us ++ results))
    second_agree c copy (pos n) is ts us h = second_from c copy 0 n ts us h (is ∙ ap pos (omega arith))
    second_agree c copy (negsuc n) is ts us h = λ chosen by. agree_itself empty_tree chosen

    -- an action that reads the same of the trees of inputs is the same among them and the results of earlier actions
    act_same : (ts us : List TreeMap) → Reads 0 ts us → act_among a (ts ++ results) ≡ act_among a (us ++ results)
    act_same ts us h =
        ap (λ base. act a.kind base (base_in a.secondary_input (ts ++ results))) (base_same a.input refl ts us h)
        ∙ act_alike a.kind (base_in a.input (us ++ results)) (base_in a.secondary_input (ts ++ results)) (base_in a.secondary_input (us ++ results))
        (λ c copy. second_agree c copy a.secondary_input refl ts us h)

-- ---- all actions

-- a micro-step of a file op is one of its actions
record IsActionAt (actions : List Action) (j : ℕ) (step : MicroStep) : Type 0 where
  one : Action
  there : slice_get actions j ≡ Some one
  is : step ≡ Act one

action_at : (actions : List Action) (j : ℕ) (step : MicroStep) → slice_get (map Act actions) j ≡ Some step → IsActionAt actions j step
action_at [] j step there = absurd cc
action_at (a ∷ actions) zero step there = record { one = a; there = refl; is = let h : Act a ≡ step = cc in sym h }
action_at (a ∷ actions) (suc j) step there = let h = action_at actions j step there in record { one = h.one; there = h.there; is = h.is }

-- the work of a file op on these trees of inputs, with these results so far
abbrev files : List TreeMap → List TreeMap → Work
files ts results = record { own = Files ts results; trees = [] }

-- the work of a file op so far, with a fault or without one
abbrev so_far : List TreeMap → List TreeMap → Option VertexFault → Left
so_far ts results fault = record { work = files ts results; fault = fault }

-- two results of micro-steps that differ only in the trees of inputs
record AreSoFar (ts us : List TreeMap) (x y : Left) : Type 0 where
  results : List TreeMap
  fault : Option VertexFault
  first : x ≡ so_far ts results fault
  second : y ≡ so_far us results fault

module _ (actions : List Action) (ts us : List TreeMap) (agree : TreesAgree actions 0 ts us) where
  after : (k : ℕ) (results : List TreeMap) (r : Result TreeMap ActFault)
      → AreSoFar ts us (tried (files ts results) (with_result k (Files ts results) r))
      (tried (files us results) (with_result k (Files us results) r))
  after k results (Ok t) = record { results = results ++ t ∷ []; fault = None; first = refl; second = refl }
  after k results (Err f) = record { results = results; fault = Some (fault.Action k (fault_number f)); first = refl; second = refl }

  stepped : (k j : ℕ) (step : Option MicroStep) → slice_get (map Act actions) j ≡ step → (results : List TreeMap)
      → AreSoFar ts us (step_on k step (files ts results)) (step_on k step (files us results))
  unfolding micro_step
  stepped k j None there results = record { results = results; fault = None; first = refl; second = refl }
  stepped k j (Some step) there results =
      let found = action_at actions j step there in
      subst (λ (m : MicroStep). AreSoFar ts us (micro_step k m (files ts results))
      (micro_step k m (files us results))) (sym found.is)
      (subst (λ r. AreSoFar ts us (tried (files ts results) (with_result k (Files ts results) (act_among found.one (ts ++ results))))
      (tried (files us results) (with_result k (Files us results) r)))
      (act_same found.one results ts us (of_action found.one actions j found.there 0 ts us agree)) (after k results (act_among found.one (ts ++ results))))

  gone_on : (k : ℕ) (results : List TreeMap) (f : Option VertexFault)
      → AreSoFar ts us (go_on (map Act actions) k (so_far ts results f)) (go_on (map Act actions) k (so_far us results f))
  gone_on k results None = stepped k k (slice_get (map Act actions) k) refl results
  gone_on k results (Some f) = record { results = results; fault = Some f; first = refl; second = refl }

  parted : (k : ℕ) → AreSoFar ts us (part (map Act actions) (files ts []) k)
      (part (map Act actions) (files us []) k)
  unfolding part
  parted zero = record { results = []; fault = None; first = refl; second = refl }
  parted (suc k) =
      let before = parted k in
      subst (λ x. AreSoFar ts us (go_on (map Act actions) k x) (go_on (map Act actions) k (part (map Act actions) (files us []) k)))
      (sym before.first)
      (subst (λ y. AreSoFar ts us (go_on (map Act actions) k (so_far ts before.results before.fault)) (go_on (map Act actions) k y)) (sym before.second)
      (gone_on k before.results before.fault))

  ends_alike : (p : Program) (x y : Left) → AreSoFar ts us x y → ending p x ≡ ending p y
  unfolding outputs_of
  ends_alike p x y h = ap (ending p) h.first ∙ by_fault h.fault ∙ sym (ap (ending p) h.second)
    where
      by_fault : (f : Option VertexFault) → ending p (so_far ts h.results f) ≡ ending p (so_far us h.results f)
      by_fault None = refl
      by_fault (Some f) = refl

-- ---- vertices

-- the program of a vertex whose op is of a kind
abbrev program_on : Option Kind → Vertex → Program
program_on k x = record { steps = steps_of k x.script; outputs = x.outputs; output_numbers = mount_outputs (kind_mounts k) }

-- the program of a file op with a number of outputs
abbrev file_program : FileOp → ℕ → Program
file_program file outputs =
    record { steps = map Act file.actions; outputs = outputs; output_numbers = mount_outputs (kind_mounts (Some (kind.File file))) }

-- the outcome of a vertex that is a file op, on the trees of its inputs
as_file : (b : Build) (x : Vertex) (file : FileOp) → x.op.kind ≡ Some (kind.File file) → (trees : List TreeMap)
    → outcome_on b x (Some trees) ≡ Ended (ending (file_program file x.outputs)
    (whole (map Act file.actions) (files trees [])))
as_file b x file is trees =
    ap (λ (k : Option Kind). Ended (ending (program_on k x) (whole (steps_of k x.script) (record { own = workspace_on b.locals x k trees; trees = [] })))) is

module _ (b c : Build) (M : ℕ → ℕ → Type 0) where
  -- one file op with as many outputs has one outcome on trees of which it reads the same, and is blocked on both if a tree is missing
  files_alike : (x y : Vertex) (file : FileOp) → x.op.kind ≡ Some (kind.File file) → y.op.kind ≡ Some (kind.File file) → x.outputs ≡ y.outputs
      → (o p : Option (List TreeMap)) → BothOptions (TreesAgree file.actions 0) o p → outcome_on b x o ≡ outcome_on c y p
  files_alike x y file first second outputs None None h = refl
  files_alike x y file first second outputs (Some ts) (Some us) h =
      as_file b x file first ts
      ∙ (λ i. Ended (ending (file_program file (outputs i)) (whole (map Act file.actions) (files ts []))))
      ∙ ap (λ e. Ended e) (ends_alike file.actions ts us h (file_program file y.outputs)
      (whole (map Act file.actions) (files ts [])) (whole (map Act file.actions) (files us []))
      (parted file.actions ts us h (length (map Act file.actions))))
      ∙ sym (as_file c y file second us)
  files_alike x y file first second outputs None (Some us) h = absurd h
  files_alike x y file first second outputs (Some ts) None h = absurd h

  module _ (actions : List Action) where
    abbrev Read : ℕ → TreeMap → TreeMap → Type 0
    Read i t u = (k : ℕ) (a : Action) → slice_get actions k ≡ Some a → ReadsAlike i t u a

    read_equal : (i : ℕ) (o p : Option TreeMap) → o ≡ p → BothOptions (Read i) o p
    read_equal i o p same = subst (BothOptions (Read i) o) same (itself o)
      where
        itself : (q : Option TreeMap) → BothOptions (Read i) q q
        itself None = tt
        itself (Some t) = λ k a there. reads_equal i t t refl a

    agree_both : (i : ℕ) (o p : Option TreeMap) → BothOptions (Read i) o p → (q r : Option (List TreeMap)) → BothOptions (TreesAgree actions (suc i)) q r
        → BothOptions (TreesAgree actions i) (both o q) (both p r)
    agree_both i None None h q r k = tt
    agree_both i (Some t) (Some u) h None None k = tt
    agree_both i (Some t) (Some u) h (Some ts) (Some us) k = (h, k)
    agree_both i (Some t) (Some u) h None (Some us) k = absurd k
    agree_both i (Some t) (Some u) h (Some ts) None k = absurd k
    agree_both i None (Some u) h q r k = absurd h
    agree_both i (Some t) None h q r k = absurd h

    -- the actions read the same of the trees that inputs lead to, if the inputs match or are so
    inputs_agree : (v : ℕ) → AlikeBelow b c M v → (i : ℕ) (es fs : List Edge) → Each_of (LeadsBelow b.graph.vertices v) es
        → InputsAgree b c M actions i es fs → BothOptions (TreesAgree actions i) (inputs_from (plain b) es) (inputs_from (plain c) fs)
    unfolding inputs_from
    inputs_agree v below i [] [] leads agree = tt
    inputs_agree v below i (e ∷ es) (f ∷ fs) leads agree =
        agree_both i (output_at b e) (output_at c f) (by_edge agree.0) (inputs_from (plain b) es) (inputs_from (plain c) fs)
        (inputs_agree v below (suc i) es fs leads.1 agree.1)
      where
        by_edge : EdgesMatch b c M e f ⊎ LeadAlike b c actions i e f → BothOptions (Read i) (output_at b e) (output_at c f)
        by_edge (inl match) = read_equal i (output_at b e) (output_at c f) (edges_alike b c M v below e f leads.0 match)
        by_edge (inr alike) =
            carry_options (Read i) (output_at b e) (Some alike.first) (output_at c f) (Some alike.second) alike.first_there alike.second_there alike.read
    inputs_agree v below i [] (f ∷ fs) leads agree = absurd agree
    inputs_agree v below i (e ∷ es) [] leads agree = absurd agree

  module _ (graph : IsGraph b.graph) (other : IsGraph c.graph) (matched : IsMatchedByReads b c M) where
    -- vertices that are matched by what is read have one outcome, if those below do
    by_reads : (v w : ℕ) → AlikeBelow b c M v → (outcome b v ≡ outcome c w) ⊎ (DoAlike b c M v w ⊎ ReadAlike b c M v w) → outcome b v ≡ outcome c w
    by_reads v w below (inl same) = same
    by_reads v w below (inr (inl d)) =
        outcome_is b graph v d.first d.first_there
        ∙ ap (λ o. some_of o) (does_alike b c d.first d.second d.same (inputs_from (plain b) d.first.inputs))
        ∙ ap (λ ts. some_of (outcome_on c d.second ts)) (trees_alike b c M v below d.first.inputs d.second.inputs
        (each_below b.graph graph v d.first d.first_there) d.inputs)
        ∙ sym (outcome_is c other w d.second d.second_there)
    by_reads v w below (inr (inr r)) =
        outcome_is b graph v r.first r.first_there
        ∙ ap (λ o. some_of o) (files_alike r.first r.second r.file r.first_kind r.second_kind r.outputs (inputs_from (plain b) r.first.inputs)
        (inputs_from (plain c) r.second.inputs)
        (inputs_agree r.file.actions v below 0 r.first.inputs r.second.inputs (each_below b.graph graph v r.first r.first_there) r.inputs))
        ∙ sym (outcome_is c other w r.second r.second_there)

    alike_below : (n v w : ℕ) → v < n → M v w → outcome b v ≡ outcome c w
    alike_below zero v w lt m = absurd (omega (arith, lt))
    alike_below (suc n) v w lt m = by_reads v w (λ j k low h. alike_below n j k (omega (arith, lt, low)) h) (matched v w m)

-- the law
pub reads_end_alike : (g h : Numbered) → IsGraph g → IsGraph h → ReadsEndAlike g h
reads_end_alike g h graph other ls ms test matched v w is =
    alike_below (record { graph = g; locals = ls }) (record { graph = h; locals = ms }) (By test) graph other matched (suc v) v w (omega arith) is
