-- The outputs, as the results take their places, the last one first.
use Rattle.std.proofs.Common.{◌≡◌, ℕ, zero, suc, ◌+◌, ◌<◌, ◌≤◌, List, [], ◌∷◌, ◌++◌, map, drop, length, refl, ap, sym, ◌∙◌, drop-cons, add-one}
use Rattle.std.proofs.Common.{append_assoc, zero-add, arith}
use Rattle.std.specs.Prelude.{ℤ, pos, negsuc, ◌==◌, Bool, Option, Some, None, slice_get, slice_set, replicate, unwrap_or, if◌then◌else◌}
use Rattle.std.specs.List.{range_with_len}
use Rattle.std.proofs.lemmas.List.{drop_all, append-nil, length_push}
use Rattle.std.proofs.lemmas.Bool.{eq-eqb, ne_eqb}
use Rattle.std.proofs.lemmas.Option.{slice_get_within, get_or_from_slice_get}
use Rattle.llb_ops.specs.declared.file_op.Action.{Action}
use Rattle.llb_tree.specs.Tree.{TreeMap, empty_tree}
use Rattle.llb_mount.specs.declared.shown_tree.Shown.{Shown}
use Rattle.llb_applet.specs.declared.directory_and_variables.Setting.{Setting}
use Rattle.llb_applet.specs.declared.joined_commands.Joined.{Joined}
use Rattle.llb_ops.specs.declared.op.Kind.{Kind}
use Rattle.llb_ops.specs.declared.op.Kind.TheVariants as kind
use Rattle.llb_ops.specs.declared.merge.MergeInput.{MergeInput}
use Rattle.llb_loader.specs.declared.graph.Vertex.{Vertex}
use Rattle.llb_model.specs.Program.{Program, Act, LayInput, LocalTree, Files, Layers, Mounted, setting_of, runs_of, steps_of, program_of}
use Rattle.llb_model.specs.Program.{result_for, tree_for, is_output, output_from, outputs_of}
use Rattle.llb_execution.specs.Outputs.{placed, placed_by, first_placed, actions_in, numbers_of, tree_by}

-- what an output has once the results from number k on have taken their places
abbrev pub from_on : List ℤ → List TreeMap → ℕ → ℕ → TreeMap
from_on ns all k i = tree_by i (drop k ns) (drop k all)

pub record PlacedSoFar (ns : List ℤ) (all : List TreeMap) (n : ℕ) (results outs : List TreeMap) : Type 0 where
  pub outputs : outs ≡ map (from_on ns all (length results)) (range_with_len 0 n)
  pub front : results ++ drop (length results) all ≡ all

no_tree : (i : ℕ) (ns : List ℤ) → tree_by i ns [] ≡ empty_tree
no_tree i [] = refl
no_tree i (n ∷ ns) = refl

same_map : (f g : ℕ → TreeMap) → ((i : ℕ) → f i ≡ g i) → (is : List ℕ) → map f is ≡ map g is
same_map f g same [] = refl
same_map f g same (i ∷ is) = λ j. same i j ∷ same_map f g same is j

all_the_same : (n a : ℕ) → map (λ (i : ℕ). empty_tree) (range_with_len a n) ≡ replicate n empty_tree
all_the_same zero a = refl
all_the_same (suc n) a = ap (λ l. empty_tree ∷ l) (all_the_same n (a + 1))

none_there : (f : ℕ → TreeMap) (t : TreeMap) (k n b : ℕ) → k < b → map (λ (i : ℕ). if k == i then t else f i) (range_with_len b n) ≡ map f (range_with_len b n)
none_there f t k zero b low = refl
none_there f t k (suc n) b low =
    λ j. (ap (λ (c : Bool). if c then t else f b) (ne_eqb k b (λ p. omega (arith, p)))) j ∷ none_there f t k n (b + 1) (omega arith) j

further : (a j : ℕ) → (a + 1) + j ≡ a + suc j
further a j = omega arith

at_place : (f : ℕ → TreeMap) (t : TreeMap) (j n a : ℕ)
    → slice_set (map f (range_with_len a n)) j t ≡ map (λ (i : ℕ). if (a + j) == i then t else f i) (range_with_len a n)
at_place f t j zero a = refl
at_place f t zero (suc n) a =
    λ k. (sym (ap (λ (c : Bool). if c then t else f a) (eq-eqb (a + 0) a (omega arith)))) k ∷ (sym (none_there f t (a + 0) n (a + 1) (omega arith))) k
at_place f t (suc j) (suc n) a =
    λ k. (sym (ap (λ (c : Bool). if c then t else f a) (ne_eqb (a + suc j) a (λ p. omega (arith, p))))) k
    ∷ (at_place f t j n (a + 1) ∙ ap (λ m. map (λ (i : ℕ). if m == i then t else f i) (range_with_len (a + 1) n)) (further a j)) k

placed_all : (z : ℤ) (f : ℕ → TreeMap) (t : TreeMap) (n : ℕ)
    → placed z t (map f (range_with_len 0 n)) ≡ map (λ (i : ℕ). if is_output i z then t else f i) (range_with_len 0 n)
placed_all (pos j) f t n = at_place f t j n 0 ∙ ap (λ m. map (λ (i : ℕ). if m == i then t else f i) (range_with_len 0 n)) (zero-add j)
placed_all (negsuc j) f t n = refl

drop_front : (xs ys : List TreeMap) → drop (length xs) (xs ++ ys) ≡ ys
drop_front [] ys = refl
drop_front (x ∷ xs) ys = drop_front xs ys

-- at first no result has taken its place, and all outputs are empty
pub placed_start : (ns : List ℤ) (all : List TreeMap) (outs : List TreeMap) → outs ≡ replicate (length outs) empty_tree
    → PlacedSoFar ns all (length outs) all outs
placed_start ns all outs is =
    record {
      outputs = is ∙ sym (all_the_same (length outs) 0) ∙ same_map (λ i. empty_tree) (from_on ns all (length all))
          (λ i. sym (ap (tree_by i (drop (length all) ns)) (drop_all (length all) all (omega arith)) ∙ no_tree i (drop (length all) ns)))
          (range_with_len 0 (length outs));
      front = ap (λ l. all ++ l) (drop_all (length all) all (omega arith)) ∙ append-nil all;
    }

-- the last of the results that are left, and those after it
last_of : (all rs : List TreeMap) (t : TreeMap) → (rs ++ t ∷ []) ++ drop (length (rs ++ t ∷ [])) all ≡ all → rs ++ t ∷ drop (length rs + 1) all ≡ all
last_of all rs t e = ap (λ n. rs ++ t ∷ drop n all) (sym (length_push rs t)) ∙ sym (append_assoc rs (t ∷ []) (drop (length (rs ++ t ∷ [])) all)) ∙ e

behind_last : (all rs : List TreeMap) (t : TreeMap) → rs ++ t ∷ drop (length rs + 1) all ≡ all → drop (length rs) all ≡ t ∷ drop (length rs + 1) all
behind_last all rs t e = ap (drop (length rs)) (sym e) ∙ drop_front rs (t ∷ drop (length rs + 1) all)

placed_more : (ns : List ℤ) (all : List TreeMap) (n : ℕ) (rs : List TreeMap) (t : TreeMap) (outs : List TreeMap) (z : ℤ)
    → PlacedSoFar ns all n (rs ++ t ∷ []) outs → slice_get ns (length rs) ≡ Some z
    → PlacedSoFar ns all n rs (placed z t outs)
placed_more ns all n rs t outs z here at =
    let k = length rs in
    let whole = last_of all rs t here.front in
    let rest = behind_last all rs t whole in
    let next : drop k ns ≡ z ∷ drop (k + 1) ns
    = drop-cons ns k z (slice_get_within ns k z at)
    ∙ (λ i. get_or_from_slice_get ns k z z at i ∷ drop (sym (add-one k) i) ns) in
    record {
      outputs = ap (placed z t) (here.outputs ∙ ap (λ m. map (from_on ns all m) (range_with_len 0 n)) (length_push rs t))
          ∙ placed_all z (from_on ns all (k + 1)) t n
          ∙ same_map (λ i. if is_output i z then t else from_on ns all (k + 1) i) (from_on ns all k)
          (λ i. λ j. tree_by i (sym next j) (sym rest j)) (range_with_len 0 n);
      front = ap (λ l. rs ++ l) rest ∙ whole;
    }

placed_past : (ns : List ℤ) (all : List TreeMap) (n : ℕ) (rs : List TreeMap) (t : TreeMap) (outs : List TreeMap)
    → PlacedSoFar ns all n (rs ++ t ∷ []) outs → length ns ≤ length rs → PlacedSoFar ns all n rs outs
placed_past ns all n rs t outs here past =
    let k = length rs in
    let whole = last_of all rs t here.front in
    let rest = behind_last all rs t whole in
    let none : drop k ns ≡ [] = drop_all k ns past in
    let none' : drop (k + 1) ns ≡ [] = drop_all (k + 1) ns (omega arith) in
    record {
      outputs = here.outputs ∙ ap (λ m. map (from_on ns all m) (range_with_len 0 n)) (length_push rs t)
          ∙ same_map (from_on ns all (k + 1)) (from_on ns all k)
          (λ i. ap (λ l. tree_by i l (drop (k + 1) all)) none' ∙ sym (ap (λ l. tree_by i l (drop k all)) none)) (range_with_len 0 n);
      front = ap (λ l. rs ++ l) rest ∙ whole;
    }

-- where no result is left, each output has the tree that is beside the first number that is its own
pub placed_end : (ns : List ℤ) (all : List TreeMap) (n : ℕ) (rs outs : List TreeMap) → PlacedSoFar ns all n rs outs → rs ≡ []
    → outs ≡ map (λ i. tree_by i ns all) (range_with_len 0 n)
placed_end ns all n rs outs here is = here.outputs ∙ ap (λ l. map (from_on ns all (length l)) (range_with_len 0 n)) is

past : (ns : List ℤ) (k : ℕ) → slice_get ns k ≡ None → length ns ≤ k
past [] k at = omega arith
past (z ∷ ns) zero at = absurd (cc)
past (z ∷ ns) (suc k) at = omega (arith, past ns k at)

-- the last of the results that are left takes the place of its number, where there is one
pub placed_next : (ns : List ℤ) (all : List TreeMap) (n : ℕ) (rs : List TreeMap) (t : TreeMap) (outs : List TreeMap)
    → PlacedSoFar ns all n (rs ++ t ∷ []) outs
    → PlacedSoFar ns all n rs (placed_by (slice_get ns (length rs)) t outs)
placed_next ns all n rs t outs here =
    let cases : (o : Option ℤ) → slice_get ns (length rs) ≡ o → PlacedSoFar ns all n rs (placed_by o t outs)
    = λ o. elim o as (λ p. slice_get ns (length rs) ≡ p → PlacedSoFar ns all n rs (placed_by p t outs)) [
      | None ↦ λ at. placed_past ns all n rs t outs here (past ns (length rs) at)
      | Some z ↦ λ at. placed_more ns all n rs t outs z here at
    ] in
    cases (slice_get ns (length rs)) refl

-- a list of length 0 is the empty one
pub no_items : {A : Type 0} (xs : List A) → length xs ≡ 0 → xs ≡ []
no_items [] e = refl
no_items (x ∷ xs) e = absurd (omega (arith, e))

-- the trees of mounts
abbrev pub trees_of : List Shown → List TreeMap
trees_of mounts = map (λ (m : Shown). m.tree) mounts

shown_by : (i : ℕ) (ns : List ℤ) (mounts : List Shown) → tree_by i ns (trees_of mounts) ≡ tree_for i ns mounts
shown_by i [] mounts = refl
shown_by i (n ∷ ns) [] = refl
shown_by i (n ∷ ns) (m ∷ mounts) = ap (λ t. if is_output i n then m.tree else t) (shown_by i ns mounts)

-- outputs that are placed by the trees of mounts are the outputs of the mounts
pub shown_end : (ns : List ℤ) (mounts : List Shown) (n : ℕ) (outs : List TreeMap) → outs ≡ map (λ i. tree_by i ns (trees_of mounts)) (range_with_len 0 n)
    → outs ≡ map (λ i. tree_for i ns mounts) (range_with_len 0 n)
shown_end ns mounts n outs is =
    is ∙ same_map (λ i. tree_by i ns (trees_of mounts)) (λ i. tree_for i ns mounts) (λ i. shown_by i ns mounts) (range_with_len 0 n)

-- ---- the outputs of a workspace

acted_by : (i : ℕ) (actions : List Action) (rs : List TreeMap) → tree_by i (numbers_of actions) rs ≡ result_for i (map Act actions) rs
acted_by i [] rs = refl
acted_by i (a ∷ actions) [] = refl
acted_by i (a ∷ actions) (t ∷ rs) = ap (λ r. if is_output i a.output then t else r) (acted_by i actions rs)

laid_none : (i : ℕ) (inputs : List MergeInput) (rs : List TreeMap) → result_for i (map (λ (n : MergeInput). LayInput n.input) inputs) rs ≡ empty_tree
laid_none i [] rs = refl
laid_none i (n ∷ inputs) [] = refl
laid_none i (n ∷ inputs) (t ∷ rs) = laid_none i inputs rs

ran_none : (i : ℕ) (s : Setting) (commands : List Joined) (rs : List TreeMap) → result_for i (runs_of s commands) rs ≡ empty_tree
ran_none i s [] rs = refl
ran_none i s (m ∷ commands) [] = refl
ran_none i s (m ∷ commands) (t ∷ rs) = ran_none i s commands rs

-- only actions have results
by_kind : (i : ℕ) (k : Option Kind) (script : Option (List Joined)) (rs : List TreeMap)
    → tree_by i (numbers_of (actions_in k)) rs ≡ result_for i (steps_of k script) rs
by_kind i (Some (kind.File f)) script rs = acted_by i f.actions rs
by_kind i (Some (kind.Source s)) script [] = refl
by_kind i (Some (kind.Source s)) script (t ∷ rs) = refl
by_kind i (Some (kind.Merge m)) script rs = sym (laid_none i m.inputs rs)
by_kind i (Some (kind.Exec x)) script rs = sym (ran_none i (setting_of x.meta) (unwrap_or script []) rs)
by_kind i (Some (kind.Build b)) script rs = refl
by_kind i (Some (kind.Diff d)) script rs = refl
by_kind i None script rs = refl

-- the program of a vertex, with n outputs
abbrev pub program_with : Vertex → ℕ → Program
program_with v n = record (program_of v) { outputs = n }

-- results that are placed by the numbers of their actions are the outputs of a file op's workspace
pub outputs_of_files : (v : Vertex) (inputs results outs : List TreeMap) (n : ℕ)
    → outs ≡ map (λ i. tree_by i (numbers_of (actions_in v.op.kind)) results) (range_with_len 0 n)
    → outs ≡ outputs_of (program_with v n) (Files inputs results)
unfolding outputs_of
outputs_of_files v inputs results outs n is =
    is ∙ same_map (λ i. tree_by i (numbers_of (actions_in v.op.kind)) results) (output_from (program_with v n) (Files inputs results))
    (λ i. by_kind i v.op.kind v.script results) (range_with_len 0 n)

-- trees of mounts that are placed by the numbers of an exec's outputs are the outputs of its workspace
pub outputs_of_mounts : (v : Vertex) (mounts : List Shown) (caches : List ℕ) (last : ℕ) (numbers : List ℤ) (outs : List TreeMap) (n : ℕ)
    → numbers ≡ (program_of v).output_numbers → outs ≡ map (λ i. tree_for i numbers mounts) (range_with_len 0 n)
    → outs ≡ outputs_of (program_with v n) (Mounted mounts caches last)
unfolding outputs_of
outputs_of_mounts v mounts caches last numbers outs n same is = is ∙ ap (λ l. map (λ i. tree_for i l mounts) (range_with_len 0 n)) same

-- after the first output all are empty
behind_first : (f : ℕ → TreeMap) → ((i : ℕ) → f (suc i) ≡ empty_tree) → (n a : ℕ) → map f (range_with_len (a + 1) n) ≡ replicate n empty_tree
behind_first f rest zero a = refl
behind_first f rest (suc n) a = λ j. (ap f (add-one a) ∙ rest a) j ∷ behind_first f rest n (a + 1) j

pub first_alone : (f : ℕ → TreeMap) (t : TreeMap) → f 0 ≡ t → ((i : ℕ) → f (suc i) ≡ empty_tree) → (n : ℕ) (outs : List TreeMap)
    → outs ≡ replicate n empty_tree → first_placed t outs ≡ map f (range_with_len 0 n)
first_alone f t first rest zero outs is = ap (first_placed t) is
first_alone f t first rest (suc n) outs is = ap (first_placed t) is ∙ (λ j. sym first j ∷ sym (behind_first f rest n 0) j)

-- the tree that is read, in the place of the first output, makes the outputs of a source's workspace
pub outputs_of_local : (v : Vertex) (t : TreeMap) (n : ℕ) (outs : List TreeMap) → outs ≡ replicate n empty_tree
    → first_placed t outs ≡ outputs_of (program_with v n) (LocalTree t)
unfolding outputs_of
outputs_of_local v t n outs is = first_alone (output_from (program_with v n) (LocalTree t)) t refl (λ i. refl) n outs is

-- what is laid, in the place of the first output, makes the outputs of a merge's workspace
pub outputs_of_layers : (v : Vertex) (inputs : List TreeMap) (t : TreeMap) (n : ℕ) (outs : List TreeMap) → outs ≡ replicate n empty_tree
    → first_placed t outs ≡ outputs_of (program_with v n) (Layers inputs t)
unfolding outputs_of
outputs_of_layers v inputs t n outs is = first_alone (output_from (program_with v n) (Layers inputs t)) t refl (λ i. refl) n outs is
