-- The first row with a digest text, among all rows and among the first n.
use Rattle.std.proofs.Common.{◌≡◌, ◌≢◌, ℕ, zero, suc, ◌+◌, ◌-◌, ◌<◌, Bool, true, false, cond, List, [], ◌⊎◌, inl, inr, Option, Some, None}
use Rattle.std.proofs.Common.{length, get_or, refl, sym, ◌∙◌, ap, subst, ltb, arith}
use Rattle.std.proofs.lemmas.Bool.{cases_eq, cases_lt, cases_Bool}
use Rattle.std.proofs.lemmas.List.{get_or_read}
use Rattle.std.proofs.lemmas.List.Sums.{position_or_len_is}
use Rattle.std.proofs.lemmas.Slice.Eq.{bytes_eq-Decides}
use Rattle.std.specs.Str.{bytes_eq}
use Rattle.std.specs.Map.{update}
use Rattle.llb_loader.specs.declared.row.Row.{Row}
use Rattle.std.proofs.Math.Numerals.{add-one}
use Rattle.llb_loader.specs.RowLookup.{row_at, Collides, IsTerminal, first_with}

pub bytes_same : (x y : List ℕ) → bytes_eq x y ≡ true → x ≡ y
bytes_same x y e = (bytes_eq-Decides x y).0 e

pub bytes_other : (x y : List ℕ) → x ≢ y → bytes_eq x y ≡ false
bytes_other x y n = elim (cases_Bool (bytes_eq x y)) [ inl t ↦ absurd (n (bytes_same x y t)) | inr f ↦ f ]

pub cases_bytes : (x y : List ℕ) → (x ≡ y) ⊎ (x ≢ y)
cases_bytes x y = elim (cases_Bool (bytes_eq x y)) [
  | inl t ↦ inl (bytes_same x y t)
  | inr f ↦ inr (λ e. let t : bytes_eq x y ≡ true = (bytes_eq-Decides x y).1 e in let z : true ≡ false = sym t ∙ f in cc)
]

-- the result is the first of the first n rows with a digest text
abbrev pub IsFirst : List Row → ℕ → List ℕ → Option ℕ → Type 0
IsFirst rows n d None = (j : ℕ) → j < n → (row_at rows j).digest ≢ d
IsFirst rows n d (Some k) = (k < n) × ((row_at rows k).digest ≡ d) × ((j : ℕ) → j < k → (row_at rows j).digest ≢ d)

pub first_start : (rows : List Row) (d : List ℕ) → IsFirst rows 0 d None
first_start rows d j l = absurd (omega (arith, l))

pub first_other : (rows : List Row) (n : ℕ) (d : List ℕ) (o : Option ℕ) → (row_at rows n).digest ≢ d → IsFirst rows n d o → IsFirst rows (n + 1) d o
first_other rows n d None x f = λ j l. elim (cases_lt j n) [ inl b ↦ f j b | inr g ↦ rw (let e : j ≡ n = omega (arith, l, g) in e) x ]
first_other rows n d (Some k) x f = (omega (arith, f.0), f.1, f.2)

pub first_there : (rows : List Row) (n : ℕ) (d : List ℕ) (k : ℕ) → IsFirst rows n d (Some k) → IsFirst rows (n + 1) d (Some k)
first_there rows n d k f = (omega (arith, f.0), f.1, f.2)

pub first_new : (rows : List Row) (n : ℕ) (d : List ℕ) → (row_at rows n).digest ≡ d → IsFirst rows n d None → IsFirst rows (n + 1) d (Some n)
first_new rows n d e f = (omega arith, e, f)

-- the look-up after row n, whose digest text is new, is entered in the index
pub first_update : (rows : List Row) (n : ℕ) (d : List ℕ) (look : List ℕ → Option ℕ) → look (row_at rows n).digest ≡ None
    → ((e : List ℕ) → IsFirst rows n e (look e)) → IsFirst rows (n + 1) d (update bytes_eq look (row_at rows n).digest (Some n) d)
first_update rows n d look fresh f = elim (cases_Bool (bytes_eq (row_at rows n).digest d)) [
  | inl t ↦ (
      let e = bytes_same _ d t in
      let none : IsFirst rows n d None = subst (λ (o : Option ℕ). IsFirst rows n d o) (ap look (sym e) ∙ fresh) (f d) in
      subst (λ (b : Bool). IsFirst rows (n + 1) d (cond b (Some n) (look d))) (sym t) (first_new rows n d e none))
  | inr t ↦ (
      let x : (row_at rows n).digest ≢ d = λ e. (let y : bytes_eq (row_at rows n).digest d ≡ true =
      (bytes_eq-Decides _ d).1 e in let z : true ≡ false = sym y ∙ t in cc) in
      subst (λ (b : Bool). IsFirst rows (n + 1) d (cond b (Some n) (look d))) (sym t) (first_other rows n d (look d) x (f d)))
]

-- the look-up after row n, whose digest text is in the index already
pub first_again : (rows : List Row) (n k : ℕ) (d : List ℕ) (look : List ℕ → Option ℕ) → look (row_at rows n).digest ≡ Some k
    → ((e : List ℕ) → IsFirst rows n e (look e)) → IsFirst rows (n + 1) d (look d)
first_again rows n k d look there f = elim (cases_bytes (row_at rows n).digest d) [
  | inl e ↦ (let s : look d ≡ Some k = ap look (sym e) ∙ there in rw s (first_there rows n d k (subst (λ (o : Option ℕ). IsFirst rows n d o) s (f d))))
  | inr x ↦ first_other rows n d (look d) x (f d)
]

-- the first of all rows with a digest text is the one that a search for it finds
pub first_is : (rows : List Row) (d : List ℕ) (o : Option ℕ) → IsFirst rows (length rows) d o → o ≡ first_with rows d
first_is rows d None f =
    let e = position_or_len_is (λ (r : Row). bytes_eq d r.digest) rows (length rows) (record { digest = []; bytes = [] }) (omega arith)
    (λ k l. bytes_other d _ (λ x. f k l (sym x))) (λ l. absurd (omega (arith, l))) in
    sym (rw e (let n : ltb (length rows) (length rows) ≡ false = grind (arith) in rw n))
first_is rows d (Some k) f =
    let e = position_or_len_is (λ (r : Row). bytes_eq d r.digest) rows k (record { digest = []; bytes = [] }) (omega (arith, f.0))
    (λ j l. bytes_other d _ (λ x. f.2 j l (sym x))) (λ l. (bytes_eq-Decides d _).1 (sym f.1)) in
    sym (rw e (let n : ltb k (length rows) ≡ true = grind (arith, f.0) in rw n))

-- ---- collisions

-- a row with the digest of an earlier row and other bytes collides
pub collides_with : (rows : List Row) (j k : ℕ) → k < length rows → IsFirst rows k (row_at rows k).digest (Some j)
    → (row_at rows j).bytes ≢ (row_at rows k).bytes → Collides rows k
collides_with rows j k h f n = record { here = h; earlier = (j, f.0, f.1, n) }

-- a row whose digest no earlier row has does not collide
pub fresh_apart : (rows : List Row) (k : ℕ) → IsFirst rows k (row_at rows k).digest None → ¬ Collides rows k
fresh_apart rows k f c = f c.earlier.0 c.earlier.1 c.earlier.2

-- a row with the bytes of the first one that has its digest does not collide, where none before it does
pub equal_apart : (rows : List Row) (j k : ℕ) → IsFirst rows k (row_at rows k).digest (Some j) → (row_at rows j).bytes ≡ (row_at rows k).bytes
    → ((i : ℕ) → i < k → ¬ Collides rows i) → ¬ Collides rows k
equal_apart rows j k f e apart c =
    let i = c.earlier.0 in
    elim (cases_eq i j) [
      | inl x ↦ c.earlier.3 (ap (λ (n : ℕ). (row_at rows n).bytes) x ∙ e)
      | inr x ↦ elim (cases_lt i j) [
        | inl l ↦ f.2 i l c.earlier.2
        | inr g ↦ elim (cases_bytes (row_at rows j).bytes (row_at rows i).bytes) [
          | inl y ↦ c.earlier.3 (sym y ∙ e)
          | inr y ↦ apart i c.earlier.1 (record {
            here = (let h = c.here in let l = c.earlier.1 in omega (arith, h, l));
            earlier = (j, (let m : j < i = omega (arith, g, x) in m), f.1 ∙ sym c.earlier.2, y);
          })
        ]
      ]
    ]

-- the row that is read at place k is row k
pub row_read : (rows : List Row) (k : ℕ) (x : Row) → k < length rows → x ≡ get_or rows k x → row_at rows k ≡ x
row_read rows k x h e = sym (get_or_read rows k x h e (record { digest = []; bytes = [] }))

-- a result that is row k shows that row k is the first
pub first_below : (rows : List Row) (n k : ℕ) (d : List ℕ) (o : Option ℕ) → o ≡ Some k → IsFirst rows n d o → IsFirst rows n d (Some k)
first_below rows n k d o e f = subst (λ (x : Option ℕ). IsFirst rows n d x) e f

-- what holds below n and at n holds below n + 1
pub below_step : (P : ℕ → Type 0) (n : ℕ) → ((j : ℕ) → j < n → P j) → P n → (j : ℕ) → j < n + 1 → P j
below_step P n below here j l = elim (cases_lt j n) [ inl b ↦ below j b | inr g ↦ subst P (let e : n ≡ j = omega (arith, l, g) in e) here ]

-- ---- the terminal

-- if there is a first row, or none, among n rows, so there is among one row more
one_more : (rows : List Row) (n : ℕ) (d : List ℕ) (o : Option ℕ) → IsFirst rows n d o → (p : Option ℕ) × IsFirst rows (n + 1) d p
one_more rows n d None f = elim (cases_bytes (row_at rows n).digest d) [
  | inl e ↦ (Some n, first_new rows n d e f)
  | inr x ↦ (None, first_other rows n d None x f)
]
one_more rows n d (Some k) f = (Some k, first_there rows n d k f)

-- among any number of rows there is a first row with a digest text, or none has it
find_first : (rows : List Row) (n : ℕ) (d : List ℕ) → (o : Option ℕ) × IsFirst rows n d o
find_first rows zero d = (None, first_start rows d)
find_first rows (suc n) d =
    let f = find_first rows n d in
    subst (λ (m : ℕ). (o : Option ℕ) × IsFirst rows m d o) (add-one n) (one_more rows n d f.0 f.1)

-- what a search for a digest text finds is the first of all rows that has it; where it finds nothing, no row has it
pub first_cases : (rows : List Row) (d : List ℕ) (o : Option ℕ) → first_with rows d ≡ o → IsFirst rows (length rows) d o
first_cases rows d o e =
    let f = find_first rows (length rows) d in
    subst (λ (p : Option ℕ). IsFirst rows (length rows) d p) (first_is rows d f.0 f.1 ∙ e) f.1

same_row : (a b : Row) → a.digest ≡ b.digest → a.bytes ≡ b.bytes → a ≡ b
same_row a b p q = ap (λ (x : List ℕ). let r : Row = record { digest = x; bytes = a.bytes } in r) p
    ∙ ap (λ (x : List ℕ). let r : Row = record { digest = b.digest; bytes = x } in r) q

-- where no row collides, the first row with the last row's digest is equal to it: the terminal
pub terminal_is : (rows : List Row) (t : ℕ) → 0 < length rows → ((k : ℕ) → ¬ Collides rows k)
    → first_with rows (row_at rows (length rows - 1)).digest ≡ Some t → IsTerminal rows t
terminal_is rows t some apart e =
    let f = first_cases rows (row_at rows (length rows - 1)).digest (Some t) e in
    let bytes : (row_at rows t).bytes ≡ (row_at rows (length rows - 1)).bytes = elim (cases_bytes (row_at rows t).bytes (row_at rows (length rows - 1)).bytes) [
      | inl y ↦ y
      | inr y ↦ elim (cases_eq t (length rows - 1)) [
        | inl z ↦ ap (λ (n : ℕ). (row_at rows n).bytes) z
        | inr z ↦ absurd (apart (length rows - 1) (record {
          here = omega (arith, some);
          earlier = (t, (let l = f.0 in let r : t < length rows - 1 = omega (arith, l, z, some) in r), f.1, y);
        }))
      ]
    ] in
    record {
      holds = (f.0, same_row _ _ f.1 bytes);
      least = λ j l x. f.2 j l (ap (λ (r : Row). r.digest) x.1);
    }

-- a search for the last row's own digest finds a row
pub last_there : (rows : List Row) → 0 < length rows → first_with rows (row_at rows (length rows - 1)).digest ≡ None → ⊥
last_there rows some e = first_cases rows (row_at rows (length rows - 1)).digest None e (length rows - 1) (omega (arith, some)) refl
