-- When lists of micro-steps are the same: no two kinds of micro-steps are, and each has what it is made of.
use Rattle.std.proofs.Common.{◌≡◌, ◌↔◌, IsTrue, ℕ, zero, suc, ℤ, ◌==◌, Bool, true, false, List, [], ◌∷◌, length, map, drop, Option, Some, None}
use Rattle.std.proofs.Common.{refl, sym, ap, ◌∙◌, ne_eqb, arith}
use Rattle.std.specs.Prelude.{slice_get}
use Rattle.llb_applet.specs.declared.joined_commands.Joined.{Joined}
use Rattle.llb_applet.specs.declared.directory_and_variables.Setting.{Setting}
use Rattle.llb_ops.specs.declared.file_op.Action.{Action}
use Rattle.llb_ops.specs.declared.merge.MergeInput.{MergeInput}
use Rattle.llb_model.specs.Program.{MicroStep, Act, LayInput, Run, all_and, runs_of}

-- ---- micro-steps of two kinds

-- two lists of micro-steps of different kinds are not the same, where the second has some
pub apart : {A B : Type 0} (f : A → MicroStep) (g : B → MicroStep) → ((x : A) (y : B) → f x ≡ g y → ⊥) → (xs : List A) (ys : List B) → (length ys == 0) ≡ false
    → IsTrue false ↔ (map f xs ≡ map g ys)
apart f g differ xs [] some = absurd (let w : true ≡ false = some in cc)
apart f g differ [] (y ∷ ys) some = (λ e. absurd (let w : false ≡ true = e in cc), λ e. absurd cc)
apart f g differ (x ∷ xs) (y ∷ ys) some = (λ e. absurd (let w : false ≡ true = e in cc), λ e. absurd (differ x y (let head : f x ≡ g y = cc in head)))

-- ---- micro-steps of one kind

same_made : {A : Type 0} (f : A → MicroStep) → ((x y : A) → f x ≡ f y → x ≡ y) → (xs ys : List A) → map f xs ≡ map f ys → xs ≡ ys
same_made f one [] [] e = refl
same_made f one [] (y ∷ ys) e = absurd cc
same_made f one (x ∷ xs) [] e = absurd cc
same_made f one (x ∷ xs) (y ∷ ys) e =
    let head : f x ≡ f y = cc in
    let tail : map f xs ≡ map f ys = cc in
    let same = one x y head in
    let rest = same_made f one xs ys tail in
    λ i. same i ∷ rest i

-- actions whose micro-steps are the same are the same
pub acts_same : (xs ys : List Action) → map Act xs ≡ map Act ys → xs ≡ ys
acts_same = same_made Act (λ x y e. cc)

-- layings of inputs are those of their numbers
pub laid_by : (inputs : List MergeInput) → map LayInput (map (λ (i : MergeInput). i.input) inputs) ≡ map (λ (i : MergeInput). LayInput i.input) inputs
laid_by [] = refl
laid_by (i ∷ inputs) = ap (λ steps. LayInput i.input ∷ steps) (laid_by inputs)

-- numbers of inputs whose layings are the same are the same
pub laid_same : (xs ys : List ℤ) → map LayInput xs ≡ map LayInput ys → xs ≡ ys
laid_same = same_made LayInput (λ x y e. cc)

-- commands run in the same setting
runs_alike : (s t : Setting) (xs ys : List Joined) → runs_of s xs ≡ runs_of t ys → xs ≡ ys
runs_alike s t [] [] e = refl
runs_alike s t [] (y ∷ ys) e = absurd cc
runs_alike s t (x ∷ xs) [] e = absurd cc
runs_alike s t (x ∷ xs) (y ∷ ys) e =
    let head : Run s x (all_and xs) ≡ Run t y (all_and ys) = cc in
    let tail : runs_of s xs ≡ runs_of t ys = cc in
    let same : x ≡ y = cc in
    let rest = runs_alike s t xs ys tail in
    λ i. same i ∷ rest i

pub runs_same : (s t : Setting) (xs ys : List Joined) → (length ys == 0) ≡ false → runs_of s xs ≡ runs_of t ys → (s ≡ t) × (xs ≡ ys)
runs_same s t xs [] some e = absurd (let w : true ≡ false = some in cc)
runs_same s t [] (y ∷ ys) some e = absurd cc
runs_same s t (x ∷ xs) (y ∷ ys) some e =
    let head : Run s x (all_and xs) ≡ Run t y (all_and ys) = cc in
    let setting : s ≡ t = cc in
    (setting, runs_alike s t (x ∷ xs) (y ∷ ys) e)

-- ---- commands and other micro-steps

-- other micro-steps are no commands, where there are some commands
pub apart_runs : {A : Type 0} (f : A → MicroStep) → ((x : A) (s : Setting) (c : Joined) (b : Bool) → f x ≡ Run s c b → ⊥) → (xs : List A) (s : Setting)
    (cs : List Joined) → (length cs == 0) ≡ false → IsTrue false ↔ (map f xs ≡ runs_of s cs)
apart_runs f differ xs s [] some = absurd (let w : true ≡ false = some in cc)
apart_runs f differ [] s (c ∷ cs) some = (λ e. absurd (let w : false ≡ true = e in cc), λ e. absurd cc)
apart_runs f differ (x ∷ xs) s (c ∷ cs) some =
    (λ e. absurd (let w : false ≡ true = e in cc), λ e. absurd (differ x s c (all_and cs) (let head : f x ≡ Run s c (all_and cs) = cc in head)))

-- commands are no other micro-steps, where there are some of these
pub runs_apart : {B : Type 0} (g : B → MicroStep) → ((y : B) (s : Setting) (c : Joined) (b : Bool) → Run s c b ≡ g y → ⊥) → (s : Setting)
    (cs : List Joined) (ys : List B) → (length ys == 0) ≡ false → IsTrue false ↔ (runs_of s cs ≡ map g ys)
runs_apart g differ s cs [] some = absurd (let w : true ≡ false = some in cc)
runs_apart g differ s [] (y ∷ ys) some = (λ e. absurd (let w : false ≡ true = e in cc), λ e. absurd cc)
runs_apart g differ s (c ∷ cs) (y ∷ ys) some =
    (λ e. absurd (let w : false ≡ true = e in cc), λ e. absurd (differ y s c (all_and cs) (let head : Run s c (all_and cs) ≡ g y = cc in head)))

-- no commands are no micro-steps
pub no_runs : (s : Setting) (cs : List Joined) → IsTrue (length cs == 0) ↔ (runs_of s cs ≡ [])
no_runs s [] = (λ e. refl, λ e. refl)
no_runs s (c ∷ cs) = (λ e. absurd (let w : false ≡ true = sym (ne_eqb (length (c ∷ cs)) 0 (omega arith)) ∙ e in cc), λ e. absurd cc)

-- ---- the command of a number

-- the first of some commands as a micro-step
abbrev pub first_run : Setting → List Joined → Option MicroStep
first_run s [] = None
first_run s (c ∷ cs) = Some (Run s c (all_and cs))

pub run_there : (s : Setting) (cs : List Joined) (k : ℕ) → slice_get (runs_of s cs) k ≡ first_run s (drop k cs)
run_there s [] zero = refl
run_there s [] (suc k) = refl
run_there s (c ∷ cs) zero = refl
run_there s (c ∷ cs) (suc k) = run_there s cs k
