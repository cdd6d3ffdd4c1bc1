-- Where a path is routed: the loop over the mounts finds the one route, and that is the one of the definition.
use Rattle.std.proofs.Common.{◌≡◌, ◌≢◌, ℕ, zero, suc, ◌<◌, ◌≤◌, ◌↔◌, ◌⊎◌, inl, inr, max, nat_eq, Bool, true, false, cond, List, [], ◌∷◌}
use Rattle.std.proofs.Common.{length, take, get_or, refl, sym, ap, ◌∙◌, subst, arith, true≢false}
use Rattle.std.proofs.Math.Nat.{le-max_left, le-max_right, max-le}
use Rattle.std.proofs.Math.ListN.{get_or-map}
use Rattle.std.proofs.lemmas.List.{get_or_default, length-map}
use Rattle.std.proofs.lemmas.List.Sums.{position_or_len_is}
use Rattle.std.proofs.lemmas.List.Elements.{All-tail, All-map}
use Rattle.std.specs.List.{All, AllPairs}
use Rattle.std.specs.Cmp.Lexicographic.{pointwise, pointwise_decides, bytes_decides}
use Rattle.llb_tree.specs.Path.{is_within}
use Rattle.llb_mount.specs.declared.shown_tree.Shown.{Shown}
use Rattle.llb_mount.specs.View.{dests, IsView, mount_at, no_mount}
use Rattle.llb_mount.specs.Route.{greatest_length, number_of, route, IsRoute}

-- none of the first i mounts has a dest that is a prefix
pub record HasNone (mounts : List Shown) (path : List (List ℕ)) (i dropped : ℕ) : Type 0 where
  pub zero_names : dropped ≡ 0
  pub none : (k : ℕ) → k < i → is_within (mount_at mounts k).dest path ≡ false

-- among the first i mounts this one has the longest dest that is a prefix
pub record IsBest (mounts : List Shown) (path : List (List ℕ)) (i number dropped : ℕ) : Type 0 where
  pub before : number < i
  pub prefix : is_within (mount_at mounts number).dest path ≡ true
  pub names : length (mount_at mounts number).dest ≡ dropped
  pub most : (k : ℕ) → k < i → is_within (mount_at mounts k).dest path ≡ true → length (mount_at mounts k).dest ≤ dropped

-- what is known after the first i mounts
abbrev pub SoFar : List Shown → List (List ℕ) → ℕ → ℕ → ℕ → Type 0
SoFar mounts path i number dropped = HasNone mounts path i dropped ⊎ IsBest mounts path i number dropped

-- after all mounts there is one, since one dest is the root
pub found : (mounts : List Shown) (path : List (List ℕ)) (number dropped : ℕ) → IsView mounts → SoFar mounts path (length mounts) number dropped
    → IsRoute mounts path (number, dropped)
found mounts path number dropped view (inl w) =
    let (k, below, at_root) = view.root in
    let here : (mount_at mounts k).dest ≡ [] = sym (get_or-map (λ (m : Shown). m.dest) mounts k no_mount) ∙ at_root in
    absurd (true≢false (sym (ap (λ d. is_within d path) here) ∙ w.none k (omega (arith, length-map mounts (λ (m : Shown). m.dest), below))))
found mounts path number dropped view (inr w) =
    record {
      there = w.before;
      prefix = w.prefix;
      dropped = w.names;
      longest = λ k d below is. let same = ap (λ (m : Shown). m.dest) (get_or_default mounts k d no_mount below) in
          subst (λ d. length d ≤ dropped) (sym same) (w.most k below (sym (ap (λ d. is_within d path) same) ∙ is));
    }

-- a dest that is a prefix has no more names than the longest
no_longer : (ds : List (List (List ℕ))) (path : List (List ℕ)) (k : ℕ) → k < length ds → is_within (get_or ds k []) path ≡ true
    → length (get_or ds k []) ≤ greatest_length ds path
no_longer [] path k below is = absurd (omega arith)
no_longer (d ∷ ds) path zero below is =
    let rest = greatest_length ds path in
    subst (λ b. length d ≤ cond b (max (length d) rest) rest) (sym is) (le-max_left (length d) rest)
no_longer (d ∷ ds) path (suc k) below is = go (is_within d path) (greatest_length ds path) (no_longer ds path k (omega arith) is)
  where
    go : (b : Bool) (rest : ℕ) → length (get_or ds k []) ≤ rest → length (get_or ds k []) ≤ cond b (max (length d) rest) rest
    go true rest within = omega (arith, le-max_right (length d) rest)
    go false rest within = within

-- a bound on the lengths of those that are prefixes bounds the longest
length_within : (ds : List (List (List ℕ))) (path : List (List ℕ)) (n : ℕ) → All (λ d. is_within d path ≡ true → length d ≤ n) ds → greatest_length ds path ≤ n
length_within [] path n all = omega arith
length_within (d ∷ ds) path n all =
    let tail = All-tail (λ d. is_within d path ≡ true → length d ≤ n) d ds all in
    go (is_within d path) refl (greatest_length ds path) (length_within ds path n tail)
  where
    go : (b : Bool) → is_within d path ≡ b → (rest : ℕ) → rest ≤ n → cond b (max (length d) rest) rest ≤ n
    go true is rest within = max-le (all 0 d (omega arith) is) within
    go false is rest within = within

-- where dests differ, the one at a place is found there
number_is : (ds : List (List (List ℕ))) (k : ℕ) (path : List (List ℕ)) → AllPairs (λ d e. d ≢ e) ds → k < length ds → get_or ds k [] ≡ path
    → k ≡ number_of ds path
number_is ds k path differ within here =
    sym (position_or_len_is (λ d. pointwise (pointwise nat_eq) d path) ds k [] (omega (arith, within)) before (λ _. (decides (get_or ds k [])).1 here))
  where
    decides : (d : List (List ℕ)) → (pointwise (pointwise nat_eq) d path ≡ true) ↔ (d ≡ path)
    decides d = pointwise_decides bytes_decides d path

    before : (j : ℕ) → j < k → pointwise (pointwise nat_eq) (get_or ds j []) path ≡ false
    before j below = go (pointwise (pointwise nat_eq) (get_or ds j []) path) refl
      where
        go : (b : Bool) → pointwise (pointwise nat_eq) (get_or ds j []) path ≡ b → b ≡ false
        go true passes = absurd (differ j k [] below within ((decides (get_or ds j [])).0 passes ∙ sym here))
        go false fails = refl

-- a route is the one of the definition
pub route_is : (mounts : List Shown) (path : List (List ℕ)) → IsView mounts → (to : ℕ × ℕ) → IsRoute mounts path to → to ≡ route mounts path
route_is mounts path view to is =
    let dest : Shown → List (List ℕ) = λ m. m.dest in
    let ds : List (List (List ℕ)) = dests mounts in
    let here : get_or ds to.0 [] ≡ (mount_at mounts to.0).dest = get_or-map dest mounts to.0 no_mount in
    let within : to.0 < length ds = omega (arith, is.there, length-map mounts dest) in
    let prefix : is_within (get_or ds to.0 []) path ≡ true = ap (λ d. is_within d path) here ∙ is.prefix in
    let all = All-map (λ d. is_within d path ≡ true → length d ≤ to.1) dest mounts is.longest in
    let long : length (get_or ds to.0 []) ≡ to.1 = ap length here ∙ is.dropped in
    let names : to.1 ≡ greatest_length ds path = omega (arith, long, no_longer ds path to.0 within prefix, length_within ds path to.1 all) in
    let front : get_or ds to.0 [] ≡ take (greatest_length ds path) path =
    (pointwise_decides bytes_decides (get_or ds to.0 []) (take (length (get_or ds to.0 [])) path)).0 prefix ∙ ap (λ n. take n path) (long ∙ names) in
    let numbers : to.0 ≡ number_of ds (take (greatest_length ds path) path) =
    number_is ds to.0 (take (greatest_length ds path) path) view.differ within front in
    λ i. (numbers i, names i)
