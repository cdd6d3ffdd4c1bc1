-- How a program ends whose micro-steps are done from the first on.
use Rattle.std.proofs.Common.{◌≡◌, ℕ, zero, suc, ◌+◌, true, List, [], Option, None, refl, sym, ap, ◌∙◌, arith}
use Rattle.llb_tree.specs.Tree.{TreeMap}
use Rattle.llb_events.specs.declared.fault.VertexFault.{VertexFault}
use Rattle.llb_execution.specs.ModelValues.{left_with, work_with}
use Rattle.llb_model.specs.Program.{MicroStep, Program, Workspace, Work, go_on, part, whole}
use Rattle.llb_model.specs.Outcome.{ended, ending}
use Rattle.llb_model.specs.Landing.{AreLeft, further, is_over}
use Rattle.llb_model.proofs.Landing.{further_last}
use Rattle.llb_model.proofs.ProgramPrefixes.{finished_whole}

none_before : (n : ℕ) → 0 + n ≡ n
none_before n = omega arith

-- the work after n further micro-steps (`further`), counted from the start, is that after the first n micro-steps of the program (`part`)
first_are : (steps : List MicroStep) (work : Work) (n : ℕ) → further steps 0 (part steps work 0) n ≡ part steps work n
unfolding part
first_are steps work zero = refl
first_are steps work (suc n) =
    further_last steps 0 (part steps work 0) n ∙ ap (λ j. go_on steps j (further steps 0 (part steps work 0) n)) (none_before n)
    ∙ ap (go_on steps n) (first_are steps work n)

-- if exactly n micro-steps can be done from the start, they leave what the whole program leaves
whole_is : (steps : List MicroStep) (work : Work) (n : ℕ) → AreLeft steps 0 (part steps work 0) n → whole steps work ≡ further steps 0 (part steps work 0) n
whole_is steps work n left =
    let over : is_over steps n (part steps work n) ≡ true
    = ap (is_over steps n) (sym (first_are steps work n))
    ∙ ap (λ j. is_over steps j (further steps 0 (part steps work 0) n)) (sym (none_before n)) ∙ left.over in
    finished_whole steps work n over ∙ sym (first_are steps work n)

-- a program ends as its micro-steps leave the workspace, where no tree of a cache is held
pub ends_as : (p : Program) (steps : List MicroStep) (start first last : Workspace) (trees now : List TreeMap) (fault : Option VertexFault) (n : ℕ)
    → steps ≡ p.steps → first ≡ start → trees ≡ [] → AreLeft steps 0 (left_with first trees None) n
    → left_with last now fault ≡ further steps 0 (left_with first trees None) n → ending p (whole p.steps (work_with start [])) ≡ ended p last fault
unfolding part
ends_as p steps start first last trees now fault n of_it begun none all left =
    ap (ending p)
    ((λ i. whole (sym of_it i) (work_with (sym begun i) (sym none i))) ∙ whole_is steps (work_with first trees) n all ∙ sym left)
