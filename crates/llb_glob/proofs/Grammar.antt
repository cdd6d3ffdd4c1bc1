-- A text is read as the pattern that it spells.
use Rattle.std.proofs.Common.{◌≡◌, ℕ, List, [], ◌∷◌, Result, Ok, Err, refl, sym, ap, ◌∙◌, subst}
use Rattle.std.specs.Str.{chars}
use Rattle.llb_wire.specs.CallResults.{◌>>=◌}
use Rattle.llb_wire.proofs.RuleComposition.{bind_ok}
use Rattle.llb_tree.specs.declared.fault.TreeFault.{TreeFault}
use Rattle.llb_tree.specs.Path.{path_of}
use Rattle.llb_glob.specs.declared.fault.PatternFault.{PatternFault}
use Rattle.llb_glob.specs.declared.fault.PatternFault.TheVariants.{BadPattern}
use Rattle.llb_glob.specs.declared.item.Item.{Item}
use Rattle.llb_glob.specs.ItemReading.{items_of}
use Rattle.llb_glob.specs.Pattern.{each_cut, cut_path, pattern_of}
use Rattle.llb_glob.specs.PatternGrammar.{SpellEach, SpellsPattern}
use Rattle.llb_glob.proofs.Refusals.{NothingElse, else-path}
use Rattle.llb_glob.proofs.ReadingCompleteness.{spelled_is_read}
use Rattle.llb_glob.proofs.ReadingSoundness.{read_is_spelled}

each_read : (parts : List (List Item)) (names : List (List ℕ)) → SpellEach parts names → each_cut names ≡ Ok parts
each_read [] [] spells = refl
each_read [] (name ∷ names) spells = absurd spells
each_read (part ∷ parts) [] spells = absurd spells
each_read (part ∷ parts) (name ∷ names) (first, others) =
    let one : items_of (chars name) ≡ Ok part = spelled_is_read part (chars name) first in
    λ i. one i >>= λ part. each_read parts names others i >>= λ parts. Ok (part ∷ parts)

each_spelled : (names : List (List ℕ)) (parts : List (List Item)) → each_cut names ≡ Ok parts → SpellEach parts names
each_spelled [] parts e = subst (λ ps. SpellEach ps []) (let none : [] ≡ parts = cc in none) tt
each_spelled (name ∷ names) parts e =
    let one = bind_ok (items_of (chars name)) _ parts e in
    let rest = bind_ok (each_cut names) _ parts one.2 in
    subst (λ ps. SpellEach ps (name ∷ names)) (let all : one.0 ∷ rest.0 ≡ parts = let is = rest.2 in cc in all)
    (read_is_spelled one.0 (chars name) one.1, each_spelled names rest.0 rest.1)

-- what spells a pattern is read
pub pattern_read : (parts : List (List Item)) (text : List ℕ) → SpellsPattern parts text → pattern_of text ≡ Ok parts
pattern_read parts text (names, path, spells) = ap cut_path path ∙ each_read parts names spells

-- what is read spells a pattern
pub pattern_spelled : (parts : List (List Item)) (text : List ℕ) → pattern_of text ≡ Ok parts → SpellsPattern parts text
pattern_spelled parts text e = by_path (path_of text) refl e
  where
    by_path : (r : Result (List (List ℕ)) TreeFault) → path_of text ≡ r → cut_path r ≡ Ok parts → SpellsPattern parts text
    by_path (Ok names) path e = (names, path, each_spelled names parts e)
    by_path (Err fault) path e = absurd cc

-- what spells no pattern is refused
pub pattern_refused : (text : List ℕ) → ((parts : List (List Item)) → ¬ SpellsPattern parts text) → pattern_of text ≡ Err BadPattern
pattern_refused text none = by_answer (pattern_of text) refl (else-path (path_of text))
  where
    by_answer : (r : Result (List (List Item)) PatternFault) → pattern_of text ≡ r → NothingElse r → r ≡ Err BadPattern
    by_answer (Ok parts) read _ = absurd (none parts (pattern_spelled parts text read))
    by_answer (Err e) _ bad = ap Err bad

-- a text that is refused as a pattern spells no pattern
pub refused_spells_none : (parts : List (List Item)) (text : List ℕ) → pattern_of text ≡ Err BadPattern → SpellsPattern parts text → ⊥
refused_spells_none parts text bad spells = apart (sym bad ∙ pattern_read parts text spells)
  where
    apart : (let refused : Result (List (List Item)) PatternFault = Err BadPattern in refused) ≡ Ok parts → ⊥
    apart e = absurd cc
