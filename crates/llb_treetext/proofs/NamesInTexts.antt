-- Parts of a text that are names, one at a time, and a text that is no path's.
use Rattle.std.proofs.Common.{◌≡◌, ℕ, ◌+◌, ◌≤◌, ◌<◌, ◌==◌, nat_le, Bool, true, false, ◌&&◌, ◌||◌, List, [], ◌∷◌, length, drop, get_or}
use Rattle.std.proofs.Common.{refl, sym, ap, ◌∙◌, arith, add-one, drop-cons}
use Rattle.std.proofs.lemmas.Bool.{eqb-true, le-leb, lt-leb}
use Rattle.std.specs.List.{list_all}
use Rattle.llb_tree.specs.Path.{is_name, parts_of}
use Rattle.llb_treetext.specs.LineFields.{are_names, is_path}

and_false : (b : Bool) → (b && false) ≡ false
and_false true = refl
and_false false = refl

module _ (text : List ℕ) (k : ℕ) (so_far : list_all is_name (drop k (parts_of text)) ≡ list_all is_name (parts_of text)) where
  module _ (part : List ℕ) (lt : k < length (parts_of text)) (is : part ≡ get_or (parts_of text) k part) where
    at_part : list_all is_name (drop k (parts_of text)) ≡ (is_name part && list_all is_name (drop (k + 1) (parts_of text)))
    at_part = ap (list_all is_name) (drop-cons (parts_of text) k part lt)
        ∙ (λ i. is_name (sym is i) && list_all is_name (drop (sym (add-one k) i) (parts_of text)))

    -- this part is a name, so those after it decide
    pub names_more : is_name part ≡ true → list_all is_name (drop (k + 1) (parts_of text)) ≡ list_all is_name (parts_of text)
    names_more name = ap (λ b. b && list_all is_name (drop (k + 1) (parts_of text))) (sym name) ∙ sym at_part ∙ so_far

    -- this part is no name, so the text is not one of names
    pub no_names : is_name part ≡ false → false ≡ are_names text
    no_names none = ap (λ b. b && nat_le (length (parts_of text)) 128)
        (ap (λ b. b && list_all is_name (drop (k + 1) (parts_of text))) (sym none) ∙ sym at_part ∙ so_far)

    -- 128 parts are read and there is another, so there are too many
    pub many_names : 128 ≤ k → false ≡ are_names text
    many_names many = sym (and_false (list_all is_name (parts_of text)))
        ∙ ap (λ b. list_all is_name (parts_of text) && b) (sym (lt-leb (length (parts_of text)) 128 (omega (arith, many, lt))))

  drop_all : (xs : List (List ℕ)) → drop (length xs) xs ≡ []
  drop_all [] = refl
  drop_all (x ∷ xs) = drop_all xs

  -- every part was a name, and there are at most 128
  pub all_names : k ≡ length (parts_of text) → k ≤ 128 → true ≡ are_names text
  all_names end few =
      (λ i. sym (le-leb (length (parts_of text)) 128 (omega (arith, end, few))) i)
      ∙ ap (λ b. b && nat_le (length (parts_of text)) 128)
      (sym (ap (list_all is_name) (ap (λ j. drop j (parts_of text)) end ∙ drop_all (parts_of text))) ∙ so_far)

-- a text that does not begin with a slash is not the text of a path
pub no_path : (text : List ℕ) → ((names : List ℕ) → text ≡ 47 ∷ names → ⊥) → false ≡ is_path text
no_path [] none = refl
no_path (b ∷ names) none = go (b == 47) refl
  where
    go : (t : Bool) → (b == 47) ≡ t → false ≡ (t && ((length names == 0) || are_names names))
    go true is = absurd (none names (ap (λ c. c ∷ names) (eqb-true b 47 is)))
    go false is = refl
