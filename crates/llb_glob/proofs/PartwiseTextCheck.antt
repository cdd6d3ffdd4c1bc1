-- A text is checked part by part: where it leads, and how many of the names are parts of a pattern.
use Rattle.std.proofs.Common.{◌≡◌, ℕ, suc, ◌+◌, ◌-◌, ◌<◌, ◌==◌, Bool, true, false, cond, if◌then◌else◌, ◌||◌, nat_lt, zero, List, [], ◌∷◌}
use Rattle.std.proofs.Common.{◌++◌, length, take, drop, get_or, min, Result, Ok, Err, is_ok, refl, sym, ap, ◌∙◌, inl, inr, eq-eqb, ne_eqb}
use Rattle.std.proofs.Common.{arith}
use Rattle.std.specs.List.{prefix_len}
use Rattle.std.specs.Str.{chars}
use Rattle.std.proofs.lemmas.Bool.{cases_eq, false≢true}
use Rattle.std.proofs.lemmas.List.{drop_all}
use Rattle.std.proofs.lemmas.List.Folds.{prefix_len-append}
use Rattle.llb_wire.specs.CallResults.{◌>>=◌}
use Rattle.llb_tree.specs.declared.fault.TreeFault.{TreeFault}
use Rattle.llb_tree.specs.declared.fault.TreeFault.TheVariants.{BadName}
use Rattle.llb_tree.specs.Path.{enter, follow, name_of, below, is_dot, is_dots, is_name}
use Rattle.llb_glob.specs.declared.fault.PatternFault.{PatternFault}
use Rattle.llb_glob.specs.declared.item.Item.{Item}
use Rattle.llb_glob.specs.declared.pattern.Walk.{Walk}
use Rattle.llb_glob.specs.ItemReading.{items_of}
use Rattle.llb_glob.specs.Pattern.{each_cut, cut_path}
use Rattle.llb_glob.specs.TextCheckCounts.{Stands, Enters, is_part}
use Rattle.llb_glob.proofs.ItemsAndPartsSplitting.{at_drop}

-- ---- where the text leads

-- a path that the walk has counted, from which the rest of the text leads where the whole text does
pub record Leads (parts : List (List ℕ)) (r : Result (List (List ℕ)) TreeFault) (walk : Walk) : Type 0 where
  pub path : List (List ℕ)
  pub stands : Stands path walk
  pub follows : follow path parts ≡ r

module _
    (parts : List (List ℕ)) (i : ℕ) (part : List ℕ) (inside : i < length parts) (is : part ≡ get_or parts i part)
    (r : Result (List (List ℕ)) TreeFault) (old new : Walk) (so_far : Leads (drop i parts) r old)
  where
    at_part : (enter so_far.path part >>= λ next. follow next (drop (i + 1) parts)) ≡ r
    at_part =
        let here : drop i parts ≡ part ∷ drop (i + 1) parts = at_drop parts i part inside is in
        ap (follow so_far.path) (sym here) ∙ so_far.follows

    steps : (entered : Result (List (List ℕ)) TreeFault) → enter so_far.path part ≡ entered → Enters entered true new → Leads (drop (i + 1) parts) r new
    steps (Ok next) e stands = record { path = next; stands = stands; follows = ap (λ s. s >>= λ q. follow q (drop (i + 1) parts)) (sym e) ∙ at_part }
    steps (Err fault) e stands = absurd stands

    -- a part was entered, and the parts after it lead on to where the whole text does
    pub leads_more : Enters (enter so_far.path part) true new → Leads (drop (i + 1) parts) r new
    leads_more stands = steps (enter so_far.path part) refl stands

    stops : (entered : Result (List (List ℕ)) TreeFault) → enter so_far.path part ≡ entered → Enters entered false new → is_ok r ≡ false
    stops (Ok next) e none = absurd none
    stops (Err fault) e none = ap is_ok (sym at_part ∙ ap (λ s. s >>= λ q. follow q (drop (i + 1) parts)) e)

    -- a part was not entered, so the whole text leads nowhere
    pub leads_nowhere : Enters (enter so_far.path part) false new → is_ok r ≡ false
    leads_nowhere none = stops (enter so_far.path part) refl none

-- ---- a step of the walk

-- a name leads down, where there is room
pub goes_down :
    (path : List (List ℕ)) (part : List ℕ)
    → (length part == 0) ≡ false
    → is_dot part ≡ false
    → is_dots part ≡ false
    → is_name part ≡ true
    → nat_lt (length path) 128 ≡ true
    → enter path part ≡ Ok (path ++ part ∷ [])
goes_down path part some dot dots name room = λ i.
    if some i || dot i then Ok path
    else (if dots i then Ok (take (length path - 1) path)
    else ((if name i then Ok part else Err BadName) >>= λ n. if room i then Ok (path ++ n ∷ []) else Err BadName))

-- a `..` leads up by one name, and from the root nowhere
pub goes_up :
    (path : List (List ℕ)) (part : List ℕ)
    → (length part == 0) ≡ false
    → is_dot part ≡ false
    → is_dots part ≡ true
    → enter path part ≡ Ok (take (length path - 1) path)
goes_up path part some dot dots = λ i.
    if some i || dot i then Ok path
    else (if dots i then Ok (take (length path - 1) path)
    else (name_of part >>= below path))

-- ---- how many names are parts

module _ {A : Type 0} (p : A → Bool) where
  -- a list that is cut short has as long a passing prefix as before, or passes to its end
  pub prefix_len-take : (n : ℕ) (xs : List A) → prefix_len p (take n xs) ≡ min (prefix_len p xs) n
  prefix_len-take zero xs = omega arith
  prefix_len-take (suc n) [] = omega arith
  prefix_len-take (suc n) (x ∷ xs) = first (p x) (prefix_len p (take n xs)) (prefix_len p xs) (prefix_len-take n xs)
    where
      first : (b : Bool) (less more : ℕ) → less ≡ min more n → cond b (1 + less) 0 ≡ min (cond b (1 + more) 0) (suc n)
      first true less more e = omega arith
      first false less more e = omega arith

module _ (path : List (List ℕ)) (part : List ℕ) (sound : ℕ) (is : sound ≡ prefix_len is_part path) where
  -- the count of parts among a path's names and one more
  one_more : prefix_len is_part (path ++ part ∷ []) ≡ cond (sound == length path) (length path + cond (is_part part) 1 0) sound
  one_more = prefix_len-append is_part path (part ∷ []) ∙ ap (λ n. cond (n == length path) (length path + cond (is_part part) 1 0) n) (sym is)

  -- where all so far are parts, the one more counts
  all_and_one : sound ≡ length path → (b : Bool) → is_part part ≡ b → prefix_len is_part (path ++ part ∷ []) ≡ length path + cond b 1 0
  all_and_one all b part_is = one_more ∙ (λ i. cond (eq-eqb sound (length path) all i) (length path + cond (part_is i) 1 0) sound)

  -- where all names so far are parts and the new one is too, the count is one more
  pub sound_more : sound ≡ length path → is_part part ≡ true → sound + 1 ≡ prefix_len is_part (path ++ part ∷ [])
  sound_more all part_is = ap (λ n. n + 1) all ∙ sym (all_and_one all true part_is)

  -- the count stays where an earlier name is no part, or the new one is none
  pub sound_stays : (sound ≡ length path → is_part part ≡ false) → sound ≡ prefix_len is_part (path ++ part ∷ [])
  sound_stays part_is_not =
      elim (cases_eq sound (length path)) [
        | inl all ↦ omega (arith, all_and_one all false (part_is_not all))
        | inr some ↦ sym (one_more ∙ ap (λ b. cond b (length path + cond (is_part part) 1 0) sound) (ne_eqb sound (length path) some))
      ]

-- all names are parts exactly if the count is that of the names
pub all_parts : (names : List (List ℕ)) → (prefix_len is_part names == length names) ≡ is_ok (each_cut names)
all_parts [] = refl
all_parts (name ∷ names) = first (items_of (chars name)) (prefix_len is_part names) (length names) (each_cut names) (all_parts names)
  where
    same : (m n : ℕ) → (1 + m == suc n) ≡ (m == n)
    same m n =
        elim (cases_eq m n) [
          | inl e ↦ eq-eqb (1 + m) (suc n) (omega arith) ∙ sym (eq-eqb m n e)
          | inr e ↦ ne_eqb (1 + m) (suc n) (omega arith) ∙ sym (ne_eqb m n e)
        ]

    first :
        (r : Result (List Item) PatternFault) (m n : ℕ) (rest : Result (List (List Item)) PatternFault)
        → (m == n) ≡ is_ok rest
        → (cond (is_ok r) (1 + m) 0 == suc n) ≡ is_ok (r >>= λ part. rest >>= λ parts. Ok (part ∷ parts))
    first (Ok part) m n (Ok parts) e = same m n ∙ e
    first (Ok part) m n (Err fault) e = same m n ∙ e
    first (Err fault) m n rest e = ne_eqb 0 (suc n) (omega arith)

-- ---- the end of the text

-- a text that is no path is no pattern
pub refused : (r : Result (List (List ℕ)) TreeFault) → is_ok r ≡ false → is_ok (cut_path r) ≡ false
refused (Ok names) e = absurd (false≢true (sym e))
refused (Err fault) e = refl

-- no part is left: the names are a pattern where all are parts
pub leads_to :
    (parts : List (List ℕ)) (i : ℕ)
    → i ≡ length parts
    → (r : Result (List (List ℕ)) TreeFault) (walk : Walk)
    → Leads (drop i parts) r walk
    → (walk.sound == walk.depth) ≡ is_ok (cut_path r)
leads_to parts i ends r walk led =
    let there : Ok led.path ≡ r = sym (ap (follow led.path) (drop_all i parts (omega arith))) ∙ led.follows in
    (λ j. led.stands.sound j == led.stands.depth j) ∙ all_parts led.path ∙ ap (λ p. is_ok (cut_path p)) there
