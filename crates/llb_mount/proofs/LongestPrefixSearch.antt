-- The way up from the last dest that does not come after a path meets every dest that is a prefix of it, so that the first prefix that it
-- meets is the longest.
use Rattle.std.proofs.Common.{◌≡◌, ◌≢◌, ℕ, ◌+◌, ◌<◌, ◌≤◌, inl, inr, true, false, List, [], length, set, get_or, refl, sym, ap, ◌∙◌, subst, arith, true≢false}
use Rattle.std.proofs.Math.ListN.{get_or-map}
use Rattle.std.proofs.lemmas.Bool.{cases_lt}
use Rattle.std.proofs.lemmas.List.{get_or-set_same, get_or-set_other, get_or_default, length-map, length-set}
use Rattle.llb_tree.specs.Path.{is_within}
use Rattle.llb_mount.specs.declared.dest_order.Row.{Row}
use Rattle.llb_mount.specs.declared.shown_tree.Shown.{Shown}
use Rattle.llb_mount.specs.View.{dests, mount_at, no_mount}
use Rattle.llb_mount.specs.Route.{IsRoute}
use Rattle.llb_mount.specs.DestOrder.{no_row, mount_of, above_of, dest_of, is_before, Rises, HasFirst, IsPlace, AtRoot, IsAbove, Climbs, IsNear, IsOrder}
use Rattle.llb_mount.proofs.PathOrderPrefixes.{not_back, not_itself, none_before_root, no_longer, prefix_first, prefix_between}

-- ---- the way up

-- the last of the first dests that do not come after a path is near it
pub last_near : (ds : List (List (List ℕ))) (rows : List Row) (from : ℕ) (path : List (List ℕ)) → Rises ds rows → from < length rows
    → is_before path (dest_of ds rows from) ≡ false → IsNear ds rows (from + 1) path from
last_near ds rows from path is within here = record {
  there = omega arith;
  kept = λ k below prefix. omega (arith, below);
  within = λ k below prefix. prefix_between (dest_of ds rows k) (dest_of ds rows from) path prefix (low k below) here;
}
  where
    low : (k : ℕ) → k < from + 1 → is_before (dest_of ds rows from) (dest_of ds rows k) ≡ false
    low k below = elim (cases_lt k from) [
      | inl before ↦ not_back (dest_of ds rows k) (dest_of ds rows from) (is.rising k from before within)
      | inr end ↦ ap (λ n. is_before (dest_of ds rows from) (dest_of ds rows n)) (let e : k ≡ from = omega (arith, below, end) in e)
          ∙ not_itself (dest_of ds rows from)
    ]

-- a place whose dest is no prefix has one above it
pub goes_up : (ds : List (List (List ℕ))) (rows : List Row) (count at : ℕ) (path : List (List ℕ)) → AtRoot ds rows → Climbs ds rows count
    → IsNear ds rows count path at → is_within (dest_of ds rows at) path ≡ false → above_of rows at < at
goes_up ds rows count at path root climbs near out = (climbs at 0 low near.there (start (dest_of ds rows at))).up
  where
    start : (p : List (List ℕ)) → is_within (dest_of ds rows 0) p ≡ true
    start p = ap (λ d. is_within d p) root.root

    low : 0 < at
    low = elim (cases_lt 0 at) [
      | inl past ↦ past
      | inr end ↦ absurd (true≢false (sym (start path) ∙ ap (λ n. is_within (dest_of ds rows n) path) (let z : 0 ≡ at = omega (arith, end) in z) ∙ out))
    ]

-- if the path is not below the dest of mount `at`, the mount above that one is near the path
pub still_near : (ds : List (List (List ℕ))) (rows : List Row) (count at : ℕ) (path : List (List ℕ)) → Climbs ds rows count → above_of rows at < at
    → IsNear ds rows count path at → is_within (dest_of ds rows at) path ≡ false → IsNear ds rows count path (above_of rows at)
still_near ds rows count at path climbs up near out = record {
  there = (let t = near.there in omega (arith, up, t));
  kept = λ k below prefix. (above k below prefix).kept;
  within = λ k below prefix. (above k below prefix).within;
}
  where
    above : (k : ℕ) → k < count → is_within (dest_of ds rows k) path ≡ true → IsAbove ds rows at k
    above k below prefix = elim (cases_lt k at) [
      | inl low ↦ climbs at k low near.there (near.within k below prefix)
      | inr high ↦ absurd (true≢false (sym prefix ∙ ap (λ n. is_within (dest_of ds rows n) path)
          (let e : k ≡ at = (let h = near.kept k below prefix in omega (arith, high, h)) in e) ∙ out))
    ]

-- ---- what is above a place is written down

mount_stays : (rows : List Row) (at k : ℕ) (row : Row) → at < length rows → row.mount ≡ mount_of rows at → mount_of (set rows at row) k ≡ mount_of rows k
mount_stays rows at k row within same = elim (cases_lt k at) [
  | inl low ↦ other (λ e. let h : k ≡ at = e in absurd (omega (arith, h, low)))
  | inr high ↦ elim (cases_lt at k) [
    | inl past ↦ other (λ e. let h : k ≡ at = e in absurd (omega (arith, h, past)))
    | inr end ↦
        let e : k ≡ at = omega (arith, high, end) in
        ap (mount_of (set rows at row)) e ∙ ap (λ (r : Row). r.mount) (get_or-set_same rows at row no_row within) ∙ same ∙ ap (mount_of rows) (sym e)
  ]
]
  where
    other : (k ≢ at) → mount_of (set rows at row) k ≡ mount_of rows k
    other apart = ap (λ (r : Row). r.mount) (get_or-set_other rows at k row no_row apart)

pub rises_still : (ds : List (List (List ℕ))) (rows : List Row) (at : ℕ) (row : Row) → at < length rows → row.mount ≡ mount_of rows at → Rises ds rows
    → Rises ds (set rows at row)
rises_still ds rows at row within same is = record {
  within = λ j below. let h = is.within j (omega (arith, below, length-set rows at row)) in omega (arith, h, mount_stays rows at j row within same);
  rising = λ j k low below. (λ i. is_before (get_or ds (mount_stays rows at j row within same i) []) (get_or ds (mount_stays rows at k row within same i) []))
      ∙ is.rising j k low (omega (arith, below, length-set rows at row));
}

pub has_still : (count : ℕ) (rows : List Row) (at : ℕ) (row : Row) → at < length rows → row.mount ≡ mount_of rows at → HasFirst count rows
    → HasFirst count (set rows at row)
has_still count rows at row within same is = record {
  within = λ j below. let h = is.within j (omega (arith, below, length-set rows at row)) in omega (arith, h, mount_stays rows at j row within same);
  each = λ i below. let e = is.each i below in
      (e.0, (let b = e.1 in omega (arith, b, length-set rows at row)), mount_stays rows at e.0 row within same ∙ e.2);
}

pub root_still : (ds : List (List (List ℕ))) (rows : List Row) (at : ℕ) (row : Row) → at < length rows → row.mount ≡ mount_of rows at → AtRoot ds rows
    → AtRoot ds (set rows at row)
root_still ds rows at row within same is = record {
  there = (let t = is.there in omega (arith, t, length-set rows at row));
  root = ap (λ n. get_or ds n []) (mount_stays rows at 0 row within same) ∙ is.root;
}

-- the place at hand has the nearest above it
pub climbs_more : (ds : List (List (List ℕ))) (rows : List Row) (at : ℕ) (row : Row) → at < length rows → row.mount ≡ mount_of rows at
    → IsNear ds rows at (dest_of ds rows at) row.above → is_within (dest_of ds rows row.above) (dest_of ds rows at) ≡ true
    → Climbs ds rows at → Climbs ds (set rows at row) (at + 1)
climbs_more ds rows at row within same near prefix climbs j k low below is = elim (cases_lt j at) [
  | inl old ↦
      let was = climbs j k low old (before j is) in
      let keeps : above_of new j ≡ above_of rows j =
      ap (λ (r : Row). r.above) (get_or-set_other rows at j row no_row (λ e. let h : j ≡ at = e in absurd (omega (arith, h, old)))) in
      found j (above_of rows j) keeps was.up was.kept was.within
  | inr end ↦
      let here : j ≡ at = omega (arith, below, end) in
      let keeps : above_of new j ≡ row.above = ap (above_of new) here ∙ ap (λ (r : Row). r.above) (get_or-set_same rows at row no_row within) in
      let first : k < at = omega (arith, low, here) in
      let mine : is_within (dest_of ds rows k) (dest_of ds rows at) ≡ true =
      ap (λ n. is_within (dest_of ds rows k) (dest_of ds rows n)) (sym here) ∙ before j is in
      found j row.above keeps (let t = near.there in omega (arith, here, t)) (near.kept k first mine) (near.within k first mine)
]
  where
    new : List Row
    new = set rows at row

    stays : (n : ℕ) → dest_of ds new n ≡ dest_of ds rows n
    stays n = ap (λ m. get_or ds m []) (mount_stays rows at n row within same)

    before : (j : ℕ) → is_within (dest_of ds new k) (dest_of ds new j) ≡ true → is_within (dest_of ds rows k) (dest_of ds rows j) ≡ true
    before j is = (λ i. is_within (sym (stays k) i) (sym (stays j) i)) ∙ is

    found : (j above : ℕ) → above_of new j ≡ above → above < j → k ≤ above → is_within (dest_of ds rows k) (dest_of ds rows above) ≡ true → IsAbove ds new j k
    found j above keeps up kept is = record {
      up = omega (arith, keeps, up);
      kept = omega (arith, keeps, kept);
      within = (λ i. is_within (stays k i) ((ap (dest_of ds new) keeps ∙ stays above) i)) ∙ is;
    }

-- what is found is the order, once it holds of all places
pub order_is : (mounts : List Shown) (rows : List Row) (count : ℕ) → Rises (dests mounts) rows → HasFirst (length mounts) rows → AtRoot (dests mounts) rows
    → length rows ≤ count → Climbs (dests mounts) rows count → IsOrder (dests mounts) rows
order_is mounts rows count rises has root long climbs = record {
  rises = rises;
  all = subst (λ n. HasFirst n rows) (sym (length-map mounts (λ (m : Shown). m.dest))) has;
  root = root;
  climbs = λ j k low below. climbs j k low (omega (arith, below, long));
}

-- ---- a route

-- some dest does not come after a path: the root
pub has_place : (ds : List (List (List ℕ))) (rows : List Row) (path : List (List ℕ)) (place : ℕ) → AtRoot ds rows → IsPlace ds rows path place → 0 < place
has_place ds rows path place root at = elim (cases_lt 0 place) [
  | inl past ↦ past
  | inr end ↦ absurd (true≢false (sym (at.behind 0 end root.there) ∙ ap (is_before path) root.root ∙ none_before_root path))
]

-- a dest that is a prefix and is found on the way up is that of the route
pub routed : (mounts : List Shown) (rows : List Row) (path : List (List ℕ)) (place at : ℕ) → IsOrder (dests mounts) rows
    → IsPlace (dests mounts) rows path place → IsNear (dests mounts) rows place path at → is_within (dest_of (dests mounts) rows at) path ≡ true
    → IsRoute mounts path (mount_of rows at, length (mount_at mounts (mount_of rows at)).dest)
routed mounts rows path place at order is near prefix = record {
  there = omega (arith, low at (let t = near.there in let w = is.within in omega (arith, t, w)), count);
  prefix = ap (λ d. is_within d path) (sym (shown (mount_of rows at))) ∙ prefix;
  dropped = refl;
  longest = λ i d below within. bound i (get_or mounts i d).dest (omega (arith, below, count))
      (ap (λ (m : Shown). m.dest) (get_or_default mounts i d no_mount below) ∙ sym (shown i)) within;
}
  where
    ds : List (List (List ℕ))
    ds = dests mounts

    count : length (dests mounts) ≡ length mounts
    count = length-map mounts (λ (m : Shown). m.dest)

    shown : (n : ℕ) → get_or (dests mounts) n [] ≡ (mount_at mounts n).dest
    shown n = get_or-map (λ (m : Shown). m.dest) mounts n no_mount

    low : (j : ℕ) → j < length rows → mount_of rows j < length ds
    low = order.rises.within

    bound : (i : ℕ) (p : List (List ℕ)) → i < length ds → p ≡ get_or ds i [] → is_within p path ≡ true
        → length p ≤ length (mount_at mounts (mount_of rows at)).dest
    bound i p below same within = go (order.all.each i below)
      where
        go : (j : ℕ) × (j < length rows) × (mount_of rows j ≡ i) → length p ≤ length (mount_at mounts (mount_of rows at)).dest
        go (j, there, named) =
            let dest : dest_of ds rows j ≡ p = ap (λ n. get_or ds n []) named ∙ sym same in
            let starts : is_within (dest_of ds rows j) path ≡ true = ap (λ d. is_within d path) dest ∙ within in
            let early : j < place = elim (cases_lt j place) [
              | inl before ↦ before
              | inr behind ↦ absurd (true≢false (sym (is.behind j behind there) ∙ prefix_first (dest_of ds rows j) path starts))
            ] in
            let long = no_longer (dest_of ds rows j) (dest_of ds rows at) (near.within j early starts) in
            omega (arith, long, ap (λ (d : List (List ℕ)). length d) dest, ap (λ (d : List (List ℕ)). length d) (shown (mount_of rows at)))
