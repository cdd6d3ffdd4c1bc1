-- The trees of a vertex's inputs, one edge after another.
use Rattle.std.proofs.Common.{◌≡◌, ℕ, ◌+◌, ◌<◌, ◌≤◌, List, [], ◌∷◌, ◌++◌, drop, length, get_or, refl, ap, sym, ◌∙◌, drop-cons, add-one, append_assoc}
use Rattle.std.proofs.lemmas.List.{append-nil, drop_all}
use Rattle.std.specs.Prelude.{Option, Some, None, option_map, is_some, Bool, true, false}
use Rattle.llb_loader.specs.declared.graph.Edge.{Edge}
use Rattle.llb_tree.specs.Tree.{TreeMap}
use Rattle.llb_model.specs.Outcome.{Ending, inputs_from, both, output_in}

abbrev pub edge_at : List Edge → ℕ → Edge
edge_at es i = get_or es i (record { vertex = 0; index = 0 })

abbrev pub tree_at : (ℕ → Option Ending) → List Edge → ℕ → Option TreeMap
tree_at E es i = output_in (E (edge_at es i).vertex) (edge_at es i).index

-- the first of the edges that are left, and the others
pub inputs_next : (E : ℕ → Option Ending) (es : List Edge) (i : ℕ) → i < length es
    → inputs_from E (drop i es) ≡ both (tree_at E es i) (inputs_from E (drop (i + 1) es))
unfolding inputs_from
inputs_next E es i low =
    ap (inputs_from E) (drop-cons es i (record { vertex = 0; index = 0 }) low) ∙ ap (λ k. both (tree_at E es i) (inputs_from E (drop k es))) (sym (add-one i))

inputs_done : (E : ℕ → Option Ending) (es : List Edge) (i : ℕ) → length es ≤ i → inputs_from E (drop i es) ≡ Some []
unfolding inputs_from
inputs_done E es i past = ap (inputs_from E) (drop_all i es past)

-- after the trees gathered so far come those of the edges that are left
pub record GatheredSoFar (E : ℕ → Option Ending) (es : List Edge) (i : ℕ) (trees : List TreeMap) (capacity : ℕ) : Type 0 where
  pub gathered : option_map (λ (more : List TreeMap). trees ++ more) (inputs_from E (drop i es)) ≡ inputs_from E es
  pub count : length trees ≡ i
  pub reserved : length es ≤ capacity

none_before : (o : Option (List TreeMap)) → option_map (λ (more : List TreeMap). [] ++ more) o ≡ o
none_before None = refl
none_before (Some ts) = refl

one_more : (trees : List TreeMap) (t : TreeMap) (o : Option (List TreeMap))
    → option_map (λ (more : List TreeMap). (trees ++ t ∷ []) ++ more) o ≡ option_map (λ (more : List TreeMap). trees ++ more) (both (Some t) o)
one_more trees t None = refl
one_more trees t (Some more) = ap (λ (l : List TreeMap). Some l) (append_assoc trees (t ∷ []) more)

-- before the first edge no tree is gathered, and all edges are left
pub gathered_start : (E : ℕ → Option Ending) (es : List Edge) → option_map (λ (more : List TreeMap). [] ++ more) (inputs_from E (drop 0 es)) ≡ inputs_from E es
gathered_start E es = none_before (inputs_from E es)

-- the tree of the next edge is gathered, and the edges after it are left
pub gathered_next : (E : ℕ → Option Ending) (es : List Edge) (i : ℕ) (trees : List TreeMap) (t : TreeMap)
    → option_map (λ (more : List TreeMap). trees ++ more) (inputs_from E (drop i es)) ≡ inputs_from E es → i < length es → tree_at E es i ≡ Some t
    → option_map (λ (more : List TreeMap). (trees ++ t ∷ []) ++ more) (inputs_from E (drop (i + 1) es)) ≡ inputs_from E es
gathered_next E es i trees t here low there =
    one_more trees t (inputs_from E (drop (i + 1) es))
    ∙ ap (λ o. option_map (λ (more : List TreeMap). trees ++ more) (both o (inputs_from E (drop (i + 1) es)))) (sym there)
    ∙ ap (option_map (λ (more : List TreeMap). trees ++ more)) (sym (inputs_next E es i low)) ∙ here

-- an edge without a tree decides: the inputs are not all there
pub gathered_missing : (E : ℕ → Option Ending) (es : List Edge) (i : ℕ) (trees : List TreeMap)
    → option_map (λ (more : List TreeMap). trees ++ more) (inputs_from E (drop i es)) ≡ inputs_from E es → i < length es → tree_at E es i ≡ None
    → inputs_from E es ≡ None
gathered_missing E es i trees here low gone =
    sym here ∙ ap (option_map (λ (more : List TreeMap). trees ++ more)) (inputs_next E es i low)
    ∙ ap (λ o. option_map (λ (more : List TreeMap). trees ++ more) (both o (inputs_from E (drop (i + 1) es)))) gone

-- where no edge is left, the trees that are gathered are those of all inputs
pub gathered_end : (E : ℕ → Option Ending) (es : List Edge) (i : ℕ) (trees : List TreeMap)
    → option_map (λ (more : List TreeMap). trees ++ more) (inputs_from E (drop i es)) ≡ inputs_from E es → length es ≤ i → inputs_from E es ≡ Some trees
gathered_end E es i trees here past =
    sym here ∙ ap (option_map (λ (more : List TreeMap). trees ++ more)) (inputs_done E es i past) ∙ ap (λ (l : List TreeMap). Some l) (append-nil trees)

both_there : {A : Type 0} (x : A) (os : Option (List A)) → is_some (both (Some x) os) ≡ is_some os
both_there x (Some xs) = refl
both_there x None = refl

-- if the tree of the next edge is there, all trees are there exactly if those of the edges after it are
pub there_next : (E : ℕ → Option Ending) (es : List Edge) (i : ℕ) (t : TreeMap) (b : Bool)
    → is_some (inputs_from E (drop i es)) ≡ b → i < length es → tree_at E es i ≡ Some t → is_some (inputs_from E (drop (i + 1) es)) ≡ b
there_next E es i t b here low there =
    sym (both_there t (inputs_from E (drop (i + 1) es)))
    ∙ ap (λ o. is_some (both o (inputs_from E (drop (i + 1) es)))) (sym there)
    ∙ ap is_some (sym (inputs_next E es i low)) ∙ here

-- if the tree of the next edge is missing, not all trees are there
pub there_missing : (E : ℕ → Option Ending) (es : List Edge) (i : ℕ) (b : Bool)
    → is_some (inputs_from E (drop i es)) ≡ b → i < length es → tree_at E es i ≡ None → false ≡ b
there_missing E es i b here low gone =
    ap (λ o. is_some (both o (inputs_from E (drop (i + 1) es)))) (sym gone) ∙ ap is_some (sym (inputs_next E es i low)) ∙ here

-- where no edge is left, all trees are there
pub there_end : (E : ℕ → Option Ending) (es : List Edge) (i : ℕ) (b : Bool) → is_some (inputs_from E (drop i es)) ≡ b → length es ≤ i → true ≡ b
there_end E es i b here past = ap is_some (sym (inputs_done E es i past)) ∙ here
