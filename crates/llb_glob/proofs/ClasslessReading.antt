-- What is read without classes is spelled, and so it is read the same with them.
use Rattle.std.proofs.Common.{◌≡◌, ◌≢◌, ℕ, ◌==◌, Bool, true, false, cond, List, [], ◌∷◌, Result, Ok, Err}
use Rattle.std.proofs.Common.{refl, ap, ◌∙◌, inl, inr, subst, eqb-true}
use Rattle.std.proofs.lemmas.Bool.{eqb-false}
use Rattle.std.specs.Str.{chars}
use Rattle.llb_wire.specs.CallResults.{◌>>=◌}
use Rattle.llb_wire.proofs.RuleComposition.{bind_ok}
use Rattle.llb_tree.specs.declared.fault.TreeFault.{TreeFault}
use Rattle.llb_glob.specs.declared.fault.PatternFault.TheVariants.{BadPattern}
use Rattle.llb_glob.specs.declared.item.Item.{Item}
use Rattle.llb_glob.specs.declared.item.Item.TheVariants.{Run, One}
use Rattle.llb_glob.specs.declared.item.Letter.TheVariants.{Any, Only}
use Rattle.llb_glob.specs.ItemReading.{items_of}
use Rattle.llb_glob.specs.Pattern.{each_cut, cut_path}
use Rattle.llb_glob.specs.PatternGrammar.{SpellsItem, Spells}
use Rattle.llb_glob.specs.ClasslessPatterns.{simple_item, simple_items, each_simple, simple_path}
use Rattle.llb_glob.proofs.ReadingCompleteness.{spelled_is_read}

item_spelled : (c : ℕ) (item : Item) → c ≢ 92 → simple_item c ≡ Ok item → SpellsItem item (c ∷ [])
item_spelled c item slash e = by_tests (c == 91) (c == 42) (c == 63) refl refl refl e
  where
    by_tests :
        (bracket star question : Bool)
        → (c == 91) ≡ bracket
        → (c == 42) ≡ star
        → (c == 63) ≡ question
        → cond bracket (Err BadPattern) (cond star (Ok Run) (cond question (Ok (One Any)) (Ok (One (Only c))))) ≡ Ok item
        → SpellsItem item (c ∷ [])
    by_tests true star question _ _ _ e = absurd cc
    by_tests false true question _ is _ e =
        subst (λ i. SpellsItem i (c ∷ [])) (let same : Run ≡ item = cc in same) (ap (λ x. x ∷ []) (eqb-true c 42 is))
    by_tests false false true _ _ is e =
        subst (λ i. SpellsItem i (c ∷ [])) (let same : One Any ≡ item = cc in same) (ap (λ x. x ∷ []) (eqb-true c 63 is))
    by_tests false false false bracket star question e =
        subst (λ i. SpellsItem i (c ∷ [])) (let same : One (Only c) ≡ item = cc in same)
        (inl (refl, (eqb-false c 91 bracket, eqb-false c 42 star, eqb-false c 63 question, slash)))

last_spelled :
    (c : ℕ) (items : List Item) (b : Bool)
    → (c == 92) ≡ b
    → cond b (Err BadPattern) (simple_item c >>= λ item. Ok (item ∷ [])) ≡ Ok items
    → Spells items (c ∷ [])
last_spelled c items true is e = absurd cc
last_spelled c items false not e =
    let one = bind_ok (simple_item c) _ items e in
    subst (λ its. Spells its (c ∷ [])) (let all : one.0 ∷ [] ≡ items = let same = one.2 in cc in all)
    (c ∷ [], [], refl, item_spelled c one.0 (eqb-false c 92 not) one.1, refl)

-- the items that characters are read as without classes are spelled by them
abbrev AreSpelled : List ℕ → Type 0
AreSpelled letters = (items : List Item) → simple_items letters ≡ Ok items → Spells items letters

next_spelled :
    (c d : ℕ) (cs : List ℕ) (items : List Item) (b : Bool)
    → (c == 92) ≡ b
    → AreSpelled cs
    → AreSpelled (d ∷ cs)
    → cond b (simple_items cs >>= λ items. Ok (One (Only d) ∷ items))
    (simple_item c >>= λ item. simple_items (d ∷ cs) >>= λ items. Ok (item ∷ items))
    ≡ Ok items
    → Spells items (c ∷ d ∷ cs)
next_spelled c d cs items true is after next e =
    let rest = bind_ok (simple_items cs) _ items e in
    let front : c ∷ d ∷ cs ≡ 92 ∷ d ∷ cs = ap (λ x. x ∷ d ∷ cs) (eqb-true c 92 is) in
    subst (λ its. Spells its (c ∷ d ∷ cs)) (let all : One (Only d) ∷ rest.0 ≡ items = let same = rest.2 in cc in all)
    (92 ∷ d ∷ [], cs, front, inr refl, after rest.0 rest.1)
next_spelled c d cs items false not after next e =
    let one = bind_ok (simple_item c) _ items e in
    let rest = bind_ok (simple_items (d ∷ cs)) _ items one.2 in
    subst (λ its. Spells its (c ∷ d ∷ cs)) (let all : one.0 ∷ rest.0 ≡ items = let same = rest.2 in cc in all)
    (c ∷ [], d ∷ cs, refl, item_spelled c one.0 (eqb-false c 92 not) one.1, next rest.0 rest.1)

are_spelled : (letters : List ℕ) → AreSpelled letters
are_spelled [] items e = subst (λ its. Spells its []) (let none : [] ≡ items = cc in none) refl
are_spelled (c ∷ []) items e = last_spelled c items (c == 92) refl e
are_spelled (c ∷ d ∷ cs) items e = next_spelled c d cs items (c == 92) refl (are_spelled cs) (are_spelled (d ∷ cs)) e

each_alike : (names : List (List ℕ)) (parts : List (List Item)) → each_simple names ≡ Ok parts → each_cut names ≡ Ok parts
each_alike [] parts e = e
each_alike (name ∷ names) parts e =
    let one = bind_ok (simple_items (chars name)) _ parts e in
    let rest = bind_ok (each_simple names) _ parts one.2 in
    let first : items_of (chars name) ≡ Ok one.0 = spelled_is_read one.0 (chars name) (are_spelled (chars name) one.0 one.1) in
    (λ i. first i >>= λ part. each_alike names rest.0 rest.1 i >>= λ parts. Ok (part ∷ parts)) ∙ rest.2

-- a path whose names are read without classes is read the same with them
pub path_alike : (r : Result (List (List ℕ)) TreeFault) (parts : List (List Item)) → simple_path r ≡ Ok parts → cut_path r ≡ Ok parts
path_alike (Ok names) parts e = each_alike names parts e
path_alike (Err fault) parts e = absurd cc
