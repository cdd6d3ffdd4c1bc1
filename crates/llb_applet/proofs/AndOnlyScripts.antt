-- The calls of a text whose only separator is `&&`.
use Rattle.std.proofs.Common.{◌≡◌, ℕ, Bool, true, false, not, cond, ◌&&◌, ◌||◌, List, [], ◌∷◌, ◌++◌, map, Option, Some, None, is_some, refl, sym, ap, ◌∙◌}
use Rattle.std.proofs.Common.{append-nil, append_assoc, codes}
use Rattle.std.specs.List.{slice_split, onto_first, list_all}
use Rattle.std.specs.Cmp.Lexicographic.{bytes_decides}
use Rattle.std.proofs.lemmas.Bool.{false≢true}
use Rattle.std.proofs.lemmas.List.Splits.{slice_split-cons_yes, slice_split-cons_no}
use Rattle.llb_applet.specs.declared.joined_commands.Join.{Join}
use Rattle.llb_applet.specs.declared.joined_commands.Join.TheVariants.{Then, And}
use Rattle.llb_applet.specs.Words.{join_of, is_separator, Call, at_word, calls_from}
use Rattle.llb_applet.specs.ScriptTextLaws.{is_and, texts_of, only_ands, follows_success, joined_by_ands, IsSplitAtAnds}

both : (a b : Bool) → (a && b) ≡ true → (a ≡ true) × (b ≡ true)
both true b e = (refl, e)
both false b e = absurd (false≢true e)

-- ---- one word

and_joins : (w : List ℕ) → is_and w ≡ true → join_of w ≡ Some And
and_joins w is = ap join_of ((bytes_decides w (codes "&&")).0 is)

-- if every separator is `&&`, a word that is a separator is `&&`
is_the_and : (w : List ℕ) (next : Join) → (not (is_separator w) || is_and w) ≡ true → join_of w ≡ Some next → is_and w ≡ true
is_the_and w next only is = sym (ap (λ (o : Option Join). not (is_some o) || is_and w) is) ∙ only

-- a word that is no separator is not `&&`
is_no_and : (w : List ℕ) → join_of w ≡ None → is_and w ≡ false
is_no_and w is = by_test (is_and w) refl
  where
    by_test : (b : Bool) → is_and w ≡ b → b ≡ false
    by_test false at = refl
    by_test true at = let both : Some And ≡ None = sym (and_joins w at) ∙ is in absurd cc

-- ---- the words of the calls

-- lists of words, the first of which now begins with these words
abbrev with_begun : List (List ℕ) → List (List (List ℕ)) → List (List (List ℕ))
with_begun call [] = call ∷ []
with_begun call (part ∷ parts) = (call ++ part) ∷ parts

begun_none : (words : List (List ℕ)) → with_begun [] (slice_split is_and words) ≡ slice_split is_and words
begun_none [] = refl
begun_none (w ∷ ws) = first (is_and w) (slice_split is_and ws)
  where
    first : (yes : Bool) (parts : List (List (List ℕ)))
        → with_begun [] (cond yes ([] ∷ parts) (onto_first w parts)) ≡ cond yes ([] ∷ parts) (onto_first w parts)
    first true parts = refl
    first false [] = refl
    first false (p ∷ ps) = refl

begun_word : (call : List (List ℕ)) (w : List ℕ) (parts : List (List (List ℕ)))
    → with_begun call (onto_first w parts) ≡ with_begun (call ++ w ∷ []) parts
begun_word call w [] = refl
begun_word call w (p ∷ ps) = ap (λ q. q ∷ ps) (sym (append_assoc call (w ∷ []) p))

words_split : (ws : List (List ℕ)) (join : Join) (call : List (List ℕ)) → only_ands ws ≡ true
    → map (λ (c : Call). c.words) (calls_from ws join call) ≡ with_begun call (slice_split is_and ws)
words_split [] join call only = ap (λ c. c ∷ []) (sym (append-nil call))
words_split (w ∷ ws) join call only =
    let halves = both (not (is_separator w) || is_and w) (only_ands ws) only in
    by_word (join_of w) refl halves.0 (λ next. words_split ws next [] halves.1) (words_split ws join (call ++ w ∷ []) halves.1)
  where
    by_word : (o : Option Join) → join_of w ≡ o → (not (is_separator w) || is_and w) ≡ true
        → ((next : Join) → map (λ (c : Call). c.words) (calls_from ws next []) ≡ with_begun [] (slice_split is_and ws))
        → map (λ (c : Call). c.words) (calls_from ws join (call ++ w ∷ [])) ≡ with_begun (call ++ w ∷ []) (slice_split is_and ws)
        → map (λ (c : Call). c.words) (at_word join call w o (λ j c. calls_from ws j c)) ≡ with_begun call (slice_split is_and (w ∷ ws))
    by_word (Some next) is one ends goes_on =
        (λ i. sym (append-nil call) i ∷ (ends next ∙ begun_none ws) i)
        ∙ ap (with_begun call) (sym (slice_split-cons_yes is_and w ws (is_the_and w next one is)))
    by_word None is one ends goes_on =
        goes_on ∙ sym (begun_word call w (slice_split is_and ws)) ∙ ap (with_begun call) (sym (slice_split-cons_no is_and w ws (is_no_and w is)))

-- ---- the joins of the calls

later_ands : (ws : List (List ℕ)) (call : List (List ℕ)) → only_ands ws ≡ true
    → list_all (λ (c : Call). follows_success c.join) (calls_from ws And call) ≡ true
later_ands [] call only = refl
later_ands (w ∷ ws) call only =
    let halves = both (not (is_separator w) || is_and w) (only_ands ws) only in
    by_word (join_of w) refl halves.0 (later_ands ws [] halves.1) (later_ands ws (call ++ w ∷ []) halves.1)
  where
    by_word : (o : Option Join) → join_of w ≡ o → (not (is_separator w) || is_and w) ≡ true
        → list_all (λ (c : Call). follows_success c.join) (calls_from ws And []) ≡ true
        → list_all (λ (c : Call). follows_success c.join) (calls_from ws And (call ++ w ∷ [])) ≡ true
        → list_all (λ (c : Call). follows_success c.join) (at_word And call w o (λ j c. calls_from ws j c)) ≡ true
    by_word (Some next) is one ends goes_on =
        let same : And ≡ next = (let e : Some And ≡ Some next = sym (and_joins w (is_the_and w next one is)) ∙ is in cc) in
        ap (λ (j : Join). list_all (λ (c : Call). follows_success c.join) (calls_from ws j [])) (sym same) ∙ ends
    by_word None is one ends goes_on = goes_on

first_then : (ws : List (List ℕ)) (call : List (List ℕ)) → only_ands ws ≡ true → joined_by_ands (calls_from ws Then call) ≡ true
first_then [] call only = refl
first_then (w ∷ ws) call only =
    let halves = both (not (is_separator w) || is_and w) (only_ands ws) only in
    by_word (join_of w) refl halves.0 (first_then ws (call ++ w ∷ []) halves.1) halves.1
  where
    by_word : (o : Option Join) → join_of w ≡ o → (not (is_separator w) || is_and w) ≡ true
        → joined_by_ands (calls_from ws Then (call ++ w ∷ [])) ≡ true → only_ands ws ≡ true
        → joined_by_ands (at_word Then call w o (λ j c. calls_from ws j c)) ≡ true
    by_word (Some next) is one goes_on rest =
        let same : And ≡ next = (let e : Some And ≡ Some next = sym (and_joins w (is_the_and w next one is)) ∙ is in cc) in
        ap (λ (j : Join). list_all (λ (c : Call). follows_success c.join) (calls_from ws j [])) (sym same) ∙ later_ands ws [] rest
    by_word None is one goes_on rest = goes_on

-- if `&&` is the only separator in a text, its calls are the lists of words between the words `&&`, and each but the first is joined by And
pub splits_at_ands : (text : List ℕ) → only_ands (texts_of text) ≡ true → IsSplitAtAnds text
splits_at_ands text only = record {
  calls = words_split (texts_of text) Then [] only ∙ begun_none (texts_of text);
  joins = first_then (texts_of text) [] only;
}
