-- Decimal digits after a number, one at a time; and the digits that are written for a number are read as it.
use Rattle.std.proofs.Common.{◌≡◌, ℕ, zero, suc, ◌+◌, ◌-◌, ◌*◌, ◌/◌, ◌%◌, ◌^◌, ◌<◌, ◌≤◌, nat_lt, nat_eq, Bool, true, false, cond, List, []}
use Rattle.std.proofs.Common.{◌∷◌, ◌++◌, length, get_or, drop, Some, None, refl, sym, ap, ◌∙◌, arith, add-one, ◌==◌, inl, inr}
use Rattle.std.proofs.Common.{length-append}
use Rattle.std.proofs.Math.Seq.{drop-cons}
use Rattle.std.proofs.lemmas.Bool.{cases_lt, eqb-true, lt-ltb, le-ltb}
use Rattle.std.proofs.lemmas.Fmt.{decimal_by_steps, decimal_digit, decimal_step, decimal_nonempty}
use Rattle.std.specs.Fmt.{decimal}
use Rattle.std.specs.Cmp.Lexicographic.{pointwise, bytes_decides}
use Rattle.llb_treetext.specs.LineFields.{on, number_from, decimal_in}

-- reading the next digit, where the number stays below 2 ^ 32
pub number_more : (n b : ℕ) (text : List ℕ) → n * 10 + (b - 48) < 2 ^ 32 → number_from n (b ∷ text) ≡ number_from (n * 10 + (b - 48)) text
unfolding number_from
number_more n b text small = ap (λ t. cond t (number_from (n * 10 + (b - 48)) text) None) (lt-ltb _ _ small)

pub number_past : (n b : ℕ) (text : List ℕ) → 2 ^ 32 ≤ n * 10 + (b - 48) → number_from n (b ∷ text) ≡ None
unfolding number_from
number_past n b text large = ap (λ t. cond t (number_from (n * 10 + (b - 48)) text) None) (le-ltb _ _ large)

pub number_none : (n : ℕ) → number_from n [] ≡ Some n
unfolding number_from
number_none n = refl

pub digit_at : (text : List ℕ) (k : ℕ) → k < length text → drop k text ≡ get_or text k 0 ∷ drop (k + 1) text
digit_at text k lt = drop-cons text k 0 lt ∙ ap (λ j. get_or text k 0 ∷ drop j text) (sym (add-one k))

drop_end : (text : List ℕ) (k : ℕ) → length text ≤ k → drop k text ≡ []
drop_end [] zero le = refl
drop_end [] (suc k) le = refl
drop_end (b ∷ text) zero le = absurd (omega arith)
drop_end (b ∷ text) (suc k) le = drop_end text k (omega arith)

-- where no digit is left, the number is the one so far
pub number_end : (n k : ℕ) (text : List ℕ) → length text ≤ k → number_from n (drop k text) ≡ Some n
number_end n k text le = ap (number_from n) (drop_end text k le) ∙ number_none n

module _ (n k d : ℕ) (text : List ℕ) (lt : k < length text) (digit : d ≡ get_or text k 0 - 48) where
  -- a digit that keeps the number in 32 bits is read, and the digits after it decide
  pub number_next : n * 10 + d < 2 ^ 32 → number_from n (drop k text) ≡ number_from (n * 10 + d) (drop (k + 1) text)
  number_next small =
      ap (number_from n) (digit_at text k lt) ∙ number_more n (get_or text k 0) (drop (k + 1) text) (omega (arith, digit, small))
      ∙ ap (λ e. number_from (n * 10 + e) (drop (k + 1) text)) (sym digit)

  -- a digit that takes the number past 32 bits ends the reading
  pub number_stops : 2 ^ 32 ≤ n * 10 + d → number_from n (drop k text) ≡ None
  number_stops large = ap (number_from n) (digit_at text k lt) ∙ number_past n (get_or text k 0) (drop (k + 1) text) (omega (arith, digit, large))

-- ---- what is written is read

number_behind : (n k : ℕ) (xs : List ℕ) (b : ℕ) → k * 10 + (b - 48) < 2 ^ 32 → number_from n xs ≡ Some k
    → number_from n (xs ++ b ∷ []) ≡ Some (k * 10 + (b - 48))
unfolding number_from
number_behind n k [] b small is =
    let same : n ≡ k = cc in
    ap (λ m. number_from m (b ∷ [])) same ∙ number_more k b [] small ∙ number_none (k * 10 + (b - 48))
number_behind n k (x ∷ xs) b small is = go (nat_lt (n * 10 + (x - 48)) (2 ^ 32)) refl (number_behind (n * 10 + (x - 48)) k xs b small) is
  where
    go : (t : Bool) → nat_lt (n * 10 + (x - 48)) (2 ^ 32) ≡ t
        → (number_from (n * 10 + (x - 48)) xs ≡ Some k → number_from (n * 10 + (x - 48)) (xs ++ b ∷ []) ≡ Some (k * 10 + (b - 48)))
        → cond t (number_from (n * 10 + (x - 48)) xs) None ≡ Some k
        → cond (nat_lt (n * 10 + (x - 48)) (2 ^ 32)) (number_from (n * 10 + (x - 48)) (xs ++ b ∷ [])) None ≡ Some (k * 10 + (b - 48))
    go false t rest is = absurd cc
    go true t rest is = ap (λ t. cond t (number_from (n * 10 + (x - 48)) (xs ++ b ∷ [])) None) t ∙ rest is

pub number_written : (n : ℕ) → n < 2 ^ 32 → number_from 0 (decimal n) ≡ Some n
number_written n small = decimal_by_steps (λ n ds. n < 2 ^ 32 → number_from 0 ds ≡ Some n) one more n (omega arith) small
  where
    one : (n : ℕ) → n < 10 → n < 2 ^ 32 → number_from 0 ((48 + n) ∷ []) ≡ Some n
    one n lt small = number_more 0 (48 + n) [] (omega arith) ∙ number_none (0 * 10 + (48 + n - 48)) ∙ ap (λ v. Some v) (value n)
      where
        value : (n : ℕ) → 0 * 10 + (48 + n - 48) ≡ n
        value n = omega arith

    more : (n : ℕ) (ds : List ℕ) → 10 ≤ n → (n / 10 < 2 ^ 32 → number_from 0 ds ≡ Some (n / 10)) → n < 2 ^ 32
        → number_from 0 (ds ++ ((48 + n % 10) ∷ [])) ≡ Some n
    more n ds le rest small =
        let value : n / 10 * 10 + (48 + n % 10 - 48) ≡ n = omega arith in
        number_behind 0 (n / 10) ds (48 + n % 10) (omega (arith, value)) (rest (omega arith)) ∙ ap (λ v. Some v) value

-- the digits that are written for a number of 32 bits are read as it
pub decimal_written : (n : ℕ) → n < 2 ^ 32 → decimal_in (decimal n) ≡ Some n
decimal_written n small = ap (λ o. on o (λ k. cond (pointwise nat_eq (decimal n) (decimal k)) (Some k) None)) (number_written n small)
    ∙ ap (λ t. cond t (Some n) None) ((bytes_decides (decimal n) (decimal n)).1 refl)

-- ---- equal lists have the same last element, and the same elements before it

pub last_same : (xs ys : List ℕ) (x y : ℕ) → xs ++ x ∷ [] ≡ ys ++ y ∷ [] → x ≡ y
last_same [] [] x y same = cc
last_same [] (z ∷ ys) x y same = absurd (omega (arith, ap length same, length-append ys (y ∷ [])))
last_same (z ∷ xs) [] x y same = absurd (omega (arith, ap length same, length-append xs (x ∷ [])))
last_same (z ∷ xs) (w ∷ ys) x y same = last_same xs ys x y cc

pub front_same : (xs ys : List ℕ) (x y : ℕ) → xs ++ x ∷ [] ≡ ys ++ y ∷ [] → xs ≡ ys
front_same [] [] x y same = refl
front_same [] (z ∷ ys) x y same = absurd (omega (arith, ap length same, length-append ys (y ∷ [])))
front_same (z ∷ xs) [] x y same = absurd (omega (arith, ap length same, length-append xs (x ∷ [])))
front_same (z ∷ xs) (w ∷ ys) x y same = let one : z ≡ w = cc in let rest = front_same xs ys x y cc in λ i. one i ∷ rest i

-- ---- whether a text is a number's, from its last byte

module _ (text front : List ℕ) (last n : ℕ) (is : text ≡ front ++ last ∷ []) (small : n < 2 ^ 32) where
  -- a number of one digit
  module _ (one : n < 10) where
    -- with the right last digit, the text is the number just where nothing is before that digit
    pub last_alone : (b : Bool) → last ≡ 48 + n % 10 → b ≡ (length front == 0) → (b ≡ true → text ≡ decimal n) × (text ≡ decimal n → b ≡ true)
    last_alone b same none = (there front b none is, λ own. none ∙ ap (λ k. k == 0) (short (ap length (sym is ∙ own ∙ decimal_digit n one))))
      where
        there : (front : List ℕ) (b : Bool) → b ≡ (length front == 0) → text ≡ front ++ last ∷ [] → b ≡ true → text ≡ decimal n
        there [] b none is h = is ∙ ap (λ c. c ∷ []) (omega (arith, same)) ∙ sym (decimal_digit n one)
        there (c ∷ front) b none is h = absurd (omega (arith, eqb-true (length (c ∷ front)) 0 (sym none ∙ h)))

        short : length (front ++ last ∷ []) ≡ 1 → length front ≡ 0
        short e = omega (arith, e, length-append front (last ∷ []))

    one_other : (last ≡ 48 + n % 10 → ⊥) → text ≡ decimal n → ⊥
    one_other other own = other (last_same front [] last (48 + n) (sym is ∙ own ∙ decimal_digit n one) ∙ omega arith)

  module _ (more : 10 ≤ n) where
    step : decimal n ≡ decimal (n / 10) ++ (48 + n % 10) ∷ []
    step = decimal_step n more (omega arith)

    -- with the right last digit, the text is the number just where what is before that digit is the text of n / 10
    pub last_of_more : (b : Bool) → last ≡ 48 + n % 10 → (b ≡ true → front ≡ decimal (n / 10)) × (front ≡ decimal (n / 10) → b ≡ true)
        → (b ≡ true → text ≡ decimal n) × (text ≡ decimal n → b ≡ true)
    last_of_more b same rest = (
      λ h. is ∙ (λ i. rest.0 h i ++ same i ∷ []) ∙ sym step,
      λ own. rest.1 (front_same front (decimal (n / 10)) last (48 + n % 10) (sym is ∙ own ∙ step)),
    )

    more_other : (last ≡ 48 + n % 10 → ⊥) → text ≡ decimal n → ⊥
    more_other other own = other (last_same front (decimal (n / 10)) last (48 + n % 10) (sym is ∙ own ∙ step))

  -- a text with another last digit is not the number's
  pub other_last : (last ≡ 48 + n % 10 → ⊥) → text ≡ decimal n → ⊥
  other_last other own = elim (cases_lt n 10) [ inl one ↦ one_other one other own | inr more ↦ more_other more other own ]

-- a text without bytes is no number's
pub no_text : (text : List ℕ) (n : ℕ) → length text ≡ 0 → n < 2 ^ 32 → text ≡ decimal n → ⊥
no_text text n none small own = omega (arith, none, ap length own, decimal_nonempty n (omega arith))
