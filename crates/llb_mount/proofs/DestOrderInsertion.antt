-- The order of dests: a search finds the place of a path, and a mount that is put at its place keeps the order.
use Rattle.std.proofs.Common.{◌≡◌, ◌≢◌, ℕ, zero, suc, ◌+◌, ◌<◌, ◌≤◌, ◌⊎◌, inl, inr, true, false, List, [], length, insert}
use Rattle.std.proofs.Common.{get_or, refl, sym, ap, ◌∙◌, arith, true≢false}
use Rattle.std.proofs.Math.ListN.{get_or-map}
use Rattle.std.proofs.lemmas.Bool.{cases_lt}
use Rattle.std.proofs.lemmas.List.{get_or_default, length-map}
use Rattle.std.proofs.lemmas.List.Edits.{length-insert, get_or-insert_below, get_or-insert_at, get_or-insert_above}
use Rattle.std.specs.List.{AllPairs}
use Rattle.llb_mount.specs.declared.dest_order.Row.{Row}
use Rattle.llb_mount.specs.declared.shown_tree.Shown.{Shown}
use Rattle.llb_mount.specs.View.{dests, mount_at, no_mount}
use Rattle.llb_mount.specs.DestOrder.{no_row, mount_of, dest_of, is_before, Rises, HasFirst, IsPlace, AtRoot}
use Rattle.llb_mount.proofs.PathOrderPrefixes.{never, chain, comes_before, none_before_root}

-- a mount that is read, and its dest
pub mount_read : (mounts : List Shown) (n : ℕ) (m : Shown) → n < length (dests mounts) → mount_at mounts n ≡ get_or mounts n m
mount_read mounts n m below = get_or_default mounts n no_mount m (omega (arith, below, length-map mounts (λ (m : Shown). m.dest)))

pub dest_read : (mounts : List Shown) (n : ℕ) (m : Shown) → n < length (dests mounts) → get_or (dests mounts) n [] ≡ (get_or mounts n m).dest
dest_read mounts n m below = get_or-map (λ (m : Shown). m.dest) mounts n no_mount ∙ ap (λ (m : Shown). m.dest) (mount_read mounts n m below)

-- ---- the search

pub all_before : (ds : List (List (List ℕ))) (rows : List Row) (path : List (List ℕ)) (m : ℕ) → Rises ds rows → m < length rows
    → is_before path (dest_of ds rows m) ≡ false → (j : ℕ) → j < m + 1 → is_before path (dest_of ds rows j) ≡ false
all_before ds rows path m is within here j below = elim (cases_lt j m) [
  | inl low ↦ never (is_before path (dest_of ds rows j))
      (λ early. true≢false (sym (chain path (dest_of ds rows j) (dest_of ds rows m) early (is.rising j m low within)) ∙ here))
  | inr high ↦ ap (λ n. is_before path (dest_of ds rows n)) (let e : j ≡ m = omega (arith, below, high) in e) ∙ here
]

pub all_behind : (ds : List (List (List ℕ))) (rows : List Row) (path : List (List ℕ)) (m : ℕ) → Rises ds rows
    → is_before path (dest_of ds rows m) ≡ true → (j : ℕ) → m ≤ j → j < length rows → is_before path (dest_of ds rows j) ≡ true
all_behind ds rows path m is here j high within = elim (cases_lt m j) [
  | inl past ↦ chain path (dest_of ds rows m) (dest_of ds rows j) here (is.rising m j past within)
  | inr end ↦ ap (λ n. is_before path (dest_of ds rows n)) (let e : j ≡ m = omega (arith, high, end) in e) ∙ here
]

-- ---- one mount more

-- a place with a row more: it is before the new one, the new one, or behind it
abbrev Stands : List Row → ℕ → Row → ℕ → Type 0
Stands rows place row x =
    ((y : ℕ) × (y < length rows) × (get_or (insert rows place row) x no_row ≡ get_or rows y no_row) × (((x < place) × (x ≡ y)) ⊎ ((place ≤ y) × (x ≡ y + 1))))
    ⊎ ((x ≡ place) × (get_or (insert rows place row) x no_row ≡ row))

stands : (rows : List Row) (place : ℕ) (row : Row) (x : ℕ) → place ≤ length rows → x < length rows + 1 → Stands rows place row x
stands rows place row x within below = elim (cases_lt x place) [
  | inl low ↦ inl (x, omega (arith, low, within), get_or-insert_below rows place row no_row x low within, inl (low, refl))
  | inr high ↦ elim (cases_lt place x) [
    | inl past ↦ behind x past below
    | inr end ↦
        let here : x ≡ place = omega (arith, high, end) in
        inr (here, ap (λ n. get_or (insert rows place row) n no_row) here ∙ get_or-insert_at rows place row no_row within)
  ]
]
  where
    behind : (x : ℕ) → place < x → x < length rows + 1 → Stands rows place row x
    behind zero past below = absurd (omega (arith, past))
    behind (suc y) past below =
        let high : place ≤ y = omega (arith, past) in
        let next : suc y ≡ y + 1 = omega arith in
        inl (
          y,
          omega (arith, below),
          ap (λ n. get_or (insert rows place row) n no_row) next ∙ get_or-insert_above rows place row no_row y high within,
          inr (high, next),
        )

pub has_more : (rows : List Row) (i place : ℕ) (row : Row) → row.mount ≡ i → place ≤ length rows → HasFirst i rows
    → HasFirst (i + 1) (insert rows place row)
has_more rows i place row named low is = record {
  within = λ j below. elim (stands rows place row j low (omega (arith, below, count))) [
    | inl s ↦ let h = is.within s.0 s.1 in omega (arith, ap (λ (r : Row). r.mount) s.2, h)
    | inr s ↦ omega (arith, ap (λ (r : Row). r.mount) s.1, named)
  ];
  each = λ n below. elim (cases_lt n i) [
    | inl old ↦ moved n (is.each n old)
    | inr new ↦
        let last : i ≡ n = omega (arith, below, new) in
        (place, omega (arith, low, count), ap (λ (r : Row). r.mount) (get_or-insert_at rows place row no_row low) ∙ named ∙ last)
  ];
}
  where
    count : length (insert rows place row) ≡ length rows + 1
    count = length-insert rows place row low

    moved : (n : ℕ) → (j : ℕ) × (j < length rows) × (mount_of rows j ≡ n)
        → (j : ℕ) × (j < length (insert rows place row)) × (mount_of (insert rows place row) j ≡ n)
    moved n (j, below, at) = elim (cases_lt j place) [
      | inl before ↦ (j, omega (arith, below, count), ap (λ (r : Row). r.mount) (get_or-insert_below rows place row no_row j before low) ∙ at)
      | inr behind ↦ (j + 1, omega (arith, below, count), ap (λ (r : Row). r.mount) (get_or-insert_above rows place row no_row j behind low) ∙ at)
    ]

pub rises_more : (ds : List (List (List ℕ))) (rows : List Row) (i place : ℕ) (row : Row) → row.mount ≡ i → i < length ds
    → AllPairs (λ d e. d ≢ e) ds → HasFirst i rows → Rises ds rows → IsPlace ds rows (get_or ds i []) place → Rises ds (insert rows place row)
rises_more ds rows i place row named low differ has is at = record {
  within = λ j below. elim (stands rows place row j at.within (omega (arith, below, count))) [
    | inl s ↦ let h = is.within s.0 s.1 in omega (arith, ap (λ (r : Row). r.mount) s.2, h)
    | inr s ↦ omega (arith, ap (λ (r : Row). r.mount) s.1, named, low)
  ];
  rising = λ j k below within. pair j k below (stands rows place row j at.within (omega (arith, below, within, count)))
      (stands rows place row k at.within (omega (arith, within, count)));
}
  where
    dest : List (List ℕ)
    dest = get_or ds i []

    more : List Row
    more = insert rows place row

    count : length (insert rows place row) ≡ length rows + 1
    count = length-insert rows place row at.within

    old : (x y : ℕ) → get_or (insert rows place row) x no_row ≡ get_or rows y no_row → dest_of ds more x ≡ dest_of ds rows y
    old x y same = ap (λ (r : Row). get_or ds r.mount []) same

    new : (x : ℕ) → get_or (insert rows place row) x no_row ≡ row → dest_of ds more x ≡ dest
    new x same = ap (λ (r : Row). get_or ds r.mount []) same ∙ ap (λ n. get_or ds n []) named

    early : (y : ℕ) → y < place → is_before (dest_of ds rows y) dest ≡ true
    early y before =
        comes_before (dest_of ds rows y) dest (at.before y before)
        (λ same. differ (mount_of rows y) i [] (has.within y (let w = at.within in omega (arith, before, w))) low (sym same))

    both : (x y : ℕ) (a b : List (List ℕ)) → dest_of ds more x ≡ a → dest_of ds more y ≡ b → is_before a b ≡ true
        → is_before (dest_of ds more x) (dest_of ds more y) ≡ true
    both x y a b first second less = (λ k. is_before (first k) (second k)) ∙ less

    pair : (x y : ℕ) → x < y → Stands rows place row x → Stands rows place row y → is_before (dest_of ds more x) (dest_of ds more y) ≡ true
    pair x y below (inl s) (inl t) =
        both x y (dest_of ds rows s.0) (dest_of ds rows t.0) (old x s.0 s.2) (old y t.0 t.2) (is.rising s.0 t.0 (shifted s.0 t.0 s.3 t.3) t.1)
      where
        shifted : (v w : ℕ) → ((x < place) × (x ≡ v)) ⊎ ((place ≤ v) × (x ≡ v + 1)) → ((y < place) × (y ≡ w)) ⊎ ((place ≤ w) × (y ≡ w + 1)) → v < w
        shifted v w (inl a) (inl b) = omega (arith, below, a.1, b.1)
        shifted v w (inl a) (inr b) = omega (arith, a.0, a.1, b.0)
        shifted v w (inr a) (inl b) = absurd (omega (arith, below, a.0, a.1, b.0))
        shifted v w (inr a) (inr b) = omega (arith, below, a.1, b.1)
    pair x y below (inl s) (inr t) =
        both x y (dest_of ds rows s.0) dest (old x s.0 s.2) (new y t.1) (early s.0 (under s.0 s.3))
      where
        under : (v : ℕ) → ((x < place) × (x ≡ v)) ⊎ ((place ≤ v) × (x ≡ v + 1)) → v < place
        under v (inl a) = omega (arith, a.0, a.1)
        under v (inr a) = absurd (omega (arith, below, t.0, a.0, a.1))
    pair x y below (inr s) (inl t) =
        both x y dest (dest_of ds rows t.0) (new x s.1) (old y t.0 t.2) (at.behind t.0 (over t.0 t.3) t.1)
      where
        over : (w : ℕ) → ((y < place) × (y ≡ w)) ⊎ ((place ≤ w) × (y ≡ w + 1)) → place ≤ w
        over w (inl b) = absurd (omega (arith, below, s.0, b.0, b.1))
        over w (inr b) = b.0
    pair x y below (inr s) (inr t) = absurd (omega (arith, below, s.0, t.0))

-- the root is the first dest
pub root_first : (ds : List (List (List ℕ))) (rows : List Row) (i : ℕ) → i < length ds → get_or ds i [] ≡ [] → HasFirst (length ds) rows → Rises ds rows
    → AtRoot ds rows
root_first ds rows i low root has is =
    let e = has.each i low in
    let here : dest_of ds rows e.0 ≡ [] = ap (λ n. get_or ds n []) e.2 ∙ root in
    record {
      there = (let b = e.1 in omega (arith, b));
      root = elim (cases_lt 0 e.0) [
        | inl past ↦ absurd (true≢false (sym (is.rising 0 e.0 past e.1) ∙ ap (is_before (dest_of ds rows 0)) here ∙ none_before_root (dest_of ds rows 0)))
        | inr end ↦ ap (dest_of ds rows) (let z : 0 ≡ e.0 = omega (arith, end) in z) ∙ here
      ];
    }
