-- Lists that are built from the front: each item is computed from the items before it.
use Rattle.std.specs.Prelude.{List, [], ◌∷◌, ◌++◌}

-- the list `before`, with one item appended for each item x of `xs`: `next` computes the appended item from the whole list so far and from x
abbrev pub by_number : {A B : Type 0} → (List B → A → B) → List B → List A → List B
by_number next before [] = before
by_number next before (x ∷ xs) = by_number next (before ++ next before x ∷ []) xs
