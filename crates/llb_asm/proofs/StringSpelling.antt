-- How a string goes on after its first byte, and how it ends.
use Rattle.std.proofs.Common.{◌≡◌, ◌≢◌, ℕ, ◌+◌, ◌-◌, ◌<◌, ◌≤◌, ◌&&◌, ◌||◌, ◌==◌, nat_lt, nat_eq, Bool, true, false, cond, ◌⊎◌, inl, inr, List, [], ◌∷◌}
use Rattle.std.proofs.Common.{◌++◌, length, get_or, take, drop, Option, Some, None, refl, sym, ap, ◌∙◌, arith, append_assoc, Bor}
use Rattle.std.specs.Option.{option_map}
use Rattle.std.specs.List.{flat_map}
use Rattle.std.specs.Cmp.Lexicographic.{pointwise, bytes_decides}
use Rattle.std.proofs.lemmas.Bool.{eq-eqb, ne_eqb, or_right}
use Rattle.std.proofs.lemmas.List.{take_all, take_more, append-nil}
use Rattle.std.proofs.lemmas.Grind.{flat_map-append}
use Rattle.llb_wire.specs.Hexadecimal.{is_lower}
use Rattle.llb_asm.specs.FieldValueTexts.{Escape, closed, backslash, first, digit_of, after_it, string_from, string_in, string_text, escaped}
use Rattle.llb_wire.specs.TextComparison.{where_so}
use Rattle.llb_asm.specs.FieldValueTexts.{escape_of, Continues, Leads}

-- ---- a text and what follows its prefix

abbrev rest_of : ℕ → List ℕ → List ℕ
rest_of n text = take (length text - n) (drop n text)

-- a text spells a byte, and goes on so
abbrev GoesOn : Escape → List ℕ → ℕ → List ℕ → Type 0
GoesOn e text b rest = (string_from e text ≡ after_it b (string_from closed rest)) × (length rest < length text)

split : (text : List ℕ) → 1 ≤ length text → text ≡ get_or text 0 0 ∷ rest_of 1 text
split [] long = absurd (omega arith)
split (b ∷ text) long = ap (λ t. b ∷ t) (sym (take_all (length (b ∷ text) - 1) text (omega arith)))

split_two : (text : List ℕ) → 2 ≤ length text → text ≡ get_or text 0 0 ∷ get_or text 1 0 ∷ rest_of 2 text
split_two [] long = absurd (omega arith)
split_two (b ∷ []) long = absurd (omega arith)
split_two (b ∷ d ∷ text) long = ap (λ t. b ∷ d ∷ t) (sym (take_all (length (b ∷ d ∷ text) - 2) text (omega arith)))

-- ---- two digits

-- after `\x`, fewer than two bytes spell no string
pub no_two_digits : (text : List ℕ) → length text < 2 → string_from first text ≡ None
unfolding string_from
no_two_digits [] short = refl
no_two_digits (a ∷ []) short = go (is_lower a && nat_lt (digit_of a) 8)
  where
    go : (t : Bool) → ◌≡◌ {A = Option (List ℕ)} (cond t None None) None
    go true = refl
    go false = refl
no_two_digits (a ∷ b ∷ text) short = absurd (omega arith)

module _ (text : List ℕ) (long : 2 ≤ length text) where
  -- after `\x`, two bytes that are not digits up to 7f spell no string
  pub digits_refused : None ≡ escape_of (get_or text 0 0) (get_or text 1 0) → string_from first text ≡ None
  unfolding string_from
  digits_refused none =
      ap (string_from first) (split_two text long)
      ∙ go (is_lower (get_or text 0 0)) (is_lower (get_or text 1 0)) (nat_lt (digit_of (get_or text 0 0)) 8) _ _ none
    where
      go : (l k s : Bool) (v : ℕ) (r : Option (List ℕ)) → None ≡ where_so (l && k && s) v → cond (l && s) (cond k (after_it v r) None) None ≡ None
      go true true true v r none = absurd cc
      go true true false v r none = refl
      go true false true v r none = refl
      go true false false v r none = refl
      go false k s v r none = refl

  -- two such digits spell their byte, and the string goes on after them
  pub digits_lead : (w : ℕ) → Some w ≡ escape_of (get_or text 0 0) (get_or text 1 0)
      → GoesOn first text w (rest_of 2 text)
  unfolding string_from
  digits_lead w is = (
    ap (string_from first) (split_two text long)
        ∙ go (is_lower (get_or text 0 0)) (is_lower (get_or text 1 0)) (nat_lt (digit_of (get_or text 0 0)) 8) _ _ is,
    omega (arith, ap length (split_two text long)),
  )
    where
      go : (l k s : Bool) (v : ℕ) (r : Option (List ℕ)) → Some w ≡ where_so (l && k && s) v → cond (l && s) (cond k (after_it v r) None) None ≡ after_it w r
      go true true true v r is = ap (λ x. after_it x r) cc
      go true true false v r is = absurd cc
      go true false s v r is = absurd cc
      go false k s v r is = absurd cc

-- ---- after a backslash

module _ (text : List ℕ) (long : 1 ≤ length text) where
  at_x : get_or text 0 0 ≡ 120 → string_from backslash text ≡ string_from first (rest_of 1 text)
  unfolding string_from
  at_x is = ap (string_from backslash) (split text long) ∙ ap (λ b. string_from backslash (b ∷ rest_of 1 text)) is

  -- after a backslash, an x leaves it to the two digits that come next
  pub x_leads : get_or text 0 0 ≡ 120 → (r : Option (ℕ × Bor (List ℕ))) → Continues first (rest_of 1 text) r → Continues backslash text r
  x_leads is None refused = at_x is ∙ refused
  x_leads is (Some x) leads = (at_x is ∙ leads.0, omega (arith, leads.1, ap length (split text long)))

  -- a quote or a backslash after a backslash spells itself
  pub itself_leads : (get_or text 0 0 ≡ 34) ⊎ (get_or text 0 0 ≡ 92)
      → GoesOn backslash text (get_or text 0 0) (rest_of 1 text)
  unfolding string_from
  itself_leads is =
      let b : ℕ = get_or text 0 0 in
      let rest : List ℕ = rest_of 1 text in (
        ap (string_from backslash) (split text long)
            ∙ ap (λ t. cond t (after_it b (string_from closed rest)) (cond (b == 120) (string_from first rest) None)) (one is),
        omega (arith, ap length (split text long)),
      )
    where
      one : (get_or text 0 0 ≡ 34) ⊎ (get_or text 0 0 ≡ 92) → ((get_or text 0 0 == 34) || (get_or text 0 0 == 92)) ≡ true
      one (inl quote) = ap (λ t. t || (get_or text 0 0 == 92)) (eq-eqb _ 34 quote)
      one (inr slash) = or_right (get_or text 0 0 == 34) (get_or text 0 0 == 92) (eq-eqb _ 92 slash)

-- after a backslash, what begins with no quote, backslash or x spells no string
pub no_escape : (text : List ℕ) → (1 ≤ length text → (get_or text 0 0 ≡ 34 → ⊥) × (get_or text 0 0 ≡ 92 → ⊥) × (get_or text 0 0 ≡ 120 → ⊥))
    → string_from backslash text ≡ None
unfolding string_from
no_escape [] other = refl
no_escape (b ∷ text) other =
    let none = other (omega arith) in
    ap (λ t. cond (t || (b == 92)) (after_it b (string_from closed text)) (cond (b == 120) (string_from first text) None)) (ne_eqb b 34 none.0)
    ∙ ap (λ t. cond t (after_it b (string_from closed text)) (cond (b == 120) (string_from first text) None)) (ne_eqb b 92 none.1)
    ∙ ap (λ t. cond t (string_from first text) None) (ne_eqb b 120 none.2)

-- ---- a byte of a string

module _ (text : List ℕ) (long : 1 ≤ length text) where
  at_backslash : get_or text 0 0 ≡ 92 → string_from closed text ≡ string_from backslash (rest_of 1 text)
  unfolding string_from
  at_backslash is = ap (string_from closed) (split text long) ∙ ap (λ b. string_from closed (b ∷ rest_of 1 text)) is

  -- which byte a backslash spells is left to what comes after it
  pub backslash_leads : get_or text 0 0 ≡ 92 → (r : Option (ℕ × Bor (List ℕ))) → Continues backslash (rest_of 1 text) r → Leads text r
  backslash_leads is None refused = λ other. at_backslash is ∙ refused
  backslash_leads is (Some x) leads = (at_backslash is ∙ leads.0, omega (arith, leads.1, ap length (split text long)))

  -- a byte that is neither a quote nor a backslash spells itself
  pub plain_leads : (get_or text 0 0 ≡ 34 → ⊥) → (get_or text 0 0 ≡ 92 → ⊥)
      → GoesOn closed text (get_or text 0 0) (rest_of 1 text)
  unfolding string_from
  plain_leads quote slash =
      let b : ℕ = get_or text 0 0 in
      let rest : List ℕ = rest_of 1 text in (
        ap (string_from closed) (split text long)
            ∙ ap (λ t. cond t (where_so (length rest == 0) []) (cond (b == 92) (string_from backslash rest) (after_it b (string_from closed rest))))
            (ne_eqb b 34 quote)
            ∙ ap (λ t. cond t (string_from backslash rest) (after_it b (string_from closed rest))) (ne_eqb b 92 slash),
        omega (arith, ap length (split text long)),
      )

-- a quote that is not the end
pub no_byte : (text : List ℕ) → (1 ≤ length text → get_or text 0 0 ≡ 34) → text ≢ 34 ∷ [] → string_from closed text ≡ None
unfolding string_from
no_byte [] quote other = refl
no_byte (b ∷ []) quote other = absurd (other (ap (λ d. d ∷ []) (quote (omega arith))))
no_byte (b ∷ d ∷ text) quote other =
    ap (λ e. string_from closed (e ∷ d ∷ text)) (quote (omega arith))
    ∙ ap (λ t. where_so t []) (ne_eqb (length (d ∷ text)) 0 (λ e. omega arith))

-- ---- the whole string

-- where the rest of a text is the last quote, the bytes that were spelled before it are the string
pub ends : (text rest string : List ℕ) → string_from closed text ≡ option_map (λ t. string ++ t) (string_from closed rest)
    → pointwise nat_eq rest (34 ∷ []) ≡ true → Some string ≡ string_from closed text
unfolding string_from
ends text rest string so quote =
    let last = (bytes_decides rest (34 ∷ [])).0 quote in
    sym (so ∙ ap (λ t. option_map (λ s. string ++ s) (string_from closed t)) last ∙ ap (λ s. Some s) (append-nil string))

-- a text that begins with a quote spells what its rest does
pub opened : (text : List ℕ) → 1 ≤ length text → get_or text 0 0 ≡ 34 → string_in text ≡ string_from closed (rest_of 1 text)
unfolding string_in
opened text long is = ap string_in (split text long) ∙ ap (λ b. string_in (b ∷ rest_of 1 text)) is

-- a text that does not begin with a quote spells no string
pub no_quote : (text : List ℕ) → (1 ≤ length text → get_or text 0 0 ≡ 34 → ⊥) → None ≡ string_in text
unfolding string_in
no_quote [] other = refl
no_quote (b ∷ text) other = sym (ap (λ t. cond t (string_from closed text) None) (ne_eqb b 34 (other (omega arith))))

-- ---- what is written

-- with one byte more written as it is escaped, the first i + 1 bytes of a string are written
pub string_more : (old now after s : List ℕ) (i : ℕ) → now ≡ old ++ (34 ∷ flat_map escaped (take i s)) → i < length s → after ≡ now ++ escaped (get_or s i 0)
    → after ≡ old ++ (34 ∷ flat_map escaped (take (i + 1) s))
string_more old now after s i is inside more =
    let b = get_or s i 0 in
    let front = flat_map escaped (take i s) in
    let whole : flat_map escaped (take (i + 1) s) ≡ front ++ escaped b =
    ap (λ l. flat_map escaped l) (take_more s i 0 inside) ∙ flat_map-append escaped (take i s) (b ∷ []) ∙ ap (λ t. front ++ t) (append-nil (escaped b)) in
    more ∙ ap (λ t. t ++ escaped b) is ∙ append_assoc old (34 ∷ front) (escaped b) ∙ ap (λ t. old ++ (34 ∷ t)) (sym whole)

-- with all bytes of a string written, a quote more makes its whole text
pub string_done : (old now after s : List ℕ) (i : ℕ) → now ≡ old ++ (34 ∷ flat_map escaped (take i s)) → length s ≤ i → after ≡ now ++ 34 ∷ []
    → after ≡ old ++ string_text s
unfolding string_text
string_done old now after s i is all more =
    more ∙ ap (λ t. t ++ 34 ∷ []) (is ∙ ap (λ t. old ++ (34 ∷ flat_map escaped t)) (take_all i s all)) ∙ append_assoc old (34 ∷ flat_map escaped s) (34 ∷ [])
