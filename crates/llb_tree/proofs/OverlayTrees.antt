-- One tree over another is a tree, and at no path longer than the longest of both.
use Rattle.std.proofs.Common.{◌≡◌, ℕ, ◌+◌, ◌≤◌, ◌<◌, ◌^◌, Bool, true, false, cond, ◌||◌, List, [], ◌∷◌, length, map, nat_lt, unwrap_or, Option, Some, None}
use Rattle.std.proofs.Common.{IsSome, is_some, Ok, refl, sym, ap, subst, ◌∙◌, true≢false, arith}
use Rattle.std.proofs.lemmas.Bool.{ltb-false}
use Rattle.std.specs.List.{list_any}
use Rattle.std.specs.FinMap as finite
use Rattle.llb_tree.specs.ModeAndOwner.{MetaValue, IsMeta}
use Rattle.llb_tree.specs.Tree.{Entry, Dir, File, TreeMap, Look, meta_in, parents, all_dirs, walk, height, IsDirAt, HasBytes, IsAllowedAt, IsTree}
use Rattle.llb_tree.specs.TreeHeights.{height_le, le_height}
use Rattle.llb_tree.specs.Overlay.{is_file, below_file, SettingsValue, is_mode, laid_meta, over, laid_over, over_at}
use Rattle.llb_tree.specs.Laying.{AreSettings, owner_fits}
use Rattle.llb_tree.proofs.SubtreeEntries.{map-map, walk-cons}
use Rattle.llb_tree.proofs.ParentClosure.{walk_more}

-- a file is above a path where the root is one, or where one is above the rest below the first name
pub below_file-cons : (look : Look) (n : List ℕ) (p : List (List ℕ)) → below_file look (n ∷ p) ≡ (is_file (look []) || below_file (λ q. look (n ∷ q)) p)
below_file-cons look n p = ap (λ ys. list_any is_file (look [] ∷ ys)) (map-map look (λ q. n ∷ q) (parents p))

-- ---- what is laid

-- the entry of the lower tree decides nothing where it is no directory
dir_at : (w : SettingsValue) (there : Option Entry) (k : MetaValue) → (m : MetaValue) × (over w there (Dir k) ≡ Dir m)
dir_at w None k = (laid_meta w k, refl)
dir_at w (Some (File m b)) k = (laid_meta w k, refl)
dir_at w (Some (Dir m)) k = (cond w.keeps m (laid_meta w k), refl)

-- an entry of the whole is the upper tree's over what the lower one has there, or is the lower one's that nothing hides
laid_cases : (C : Type 0) (w : SettingsValue) (f g : Look) (q : List (List ℕ)) (e : Entry) → ((d : Entry) → g q ≡ Some d → over w (f q) d ≡ e → C)
    → (g q ≡ None → below_file g q ≡ false → f q ≡ Some e → C) → over_at w f g q ≡ Some e → C
laid_cases C w f g q e up low is = by_upper (g q) refl is
  where
    by_test : g q ≡ None → (b : Bool) → below_file g q ≡ b → cond b None (f q) ≡ Some e → C
    by_test none true t is = absurd (true≢false (sym (ap is_some is)))
    by_test none false t is = low none t is

    by_upper : (o : Option Entry) → g q ≡ o → laid_over w (f q) o (below_file g q) ≡ Some e → C
    by_upper None there is = by_test there (below_file g q) refl is
    by_upper (Some x) there is = up x there (let same : over w (f q) x ≡ e = cc in same)

-- ---- walks

dir_over : (w : SettingsValue) (f g : Look) (r : List (List ℕ)) → IsDirAt g r → IsDirAt (over_at w f g) r
dir_over w f g r is = let dir = dir_at w (f r) is.0 in (dir.0, ap (λ o. laid_over w (f r) o (below_file g r)) is.1 ∙ ap (λ e. Some e) dir.1)

-- what can be walked to in the lower tree can be walked to in both, where no file of the upper one is above it
walk_both : (w : SettingsValue) (f g : Look) (p : List (List ℕ)) → walk f p ≡ Ok tt → below_file g p ≡ false → walk (over_at w f g) p ≡ Ok tt
walk_both w f g [] walks clear = refl
walk_both w f g (n ∷ p) walks clear =
    walk-cons (over_at w f g) n p
    ∙ (λ i. all_dirs (over_at w f g [] ∷ map (λ q. laid_over w (f (n ∷ q)) (g (n ∷ q)) (below_file-cons g n q i)) (parents p)))
    ∙ by_root (f []) (g []) (sym (walk-cons f n p) ∙ walks) (sym (below_file-cons g n p) ∙ clear) (walk_both w (λ q. f (n ∷ q)) (λ q. g (n ∷ q)) p)
  where
    by_root : (a b : Option Entry) → all_dirs (a ∷ map (λ q. f (n ∷ q)) (parents p)) ≡ Ok tt → (is_file b || below_file (λ q. g (n ∷ q)) p) ≡ false
        → (walk (λ q. f (n ∷ q)) p ≡ Ok tt → below_file (λ q. g (n ∷ q)) p ≡ false → walk (over_at w (λ q. f (n ∷ q)) (λ q. g (n ∷ q))) p ≡ Ok tt)
        → all_dirs (laid_over w a b false ∷ map (λ q. laid_over w (f (n ∷ q)) (g (n ∷ q)) (is_file b || below_file (λ r. g (n ∷ r)) q)) (parents p)) ≡ Ok tt
    by_root None b walks clear rest = absurd cc
    by_root (Some (File m c)) b walks clear rest = absurd cc
    by_root (Some (Dir m)) (Some (File k c)) walks clear rest = absurd (true≢false clear)
    by_root (Some (Dir m)) (Some (Dir k)) walks clear rest = rest walks clear
    by_root (Some (Dir m)) None walks clear rest = rest walks clear

-- ---- the modes and the owners

small_mode : (o : Option ℕ) (m : ℕ) → is_mode o ≡ true → m ≤ 4095 → unwrap_or o m ≤ 4095
small_mode None m is le = le
small_mode (Some x) m is le = go (nat_lt 4095 x) refl is
  where
    go : (b : Bool) → nat_lt 4095 x ≡ b → cond b false true ≡ true → x ≤ 4095
    go true lt is = absurd (true≢false (sym is))
    go false lt is = ltb-false 4095 x lt

small_owner : (o : Option ℕ) (m : ℕ) → owner_fits o → m < 2 ^ 32 → unwrap_or o m < 2 ^ 32
small_owner None m fits lt = lt
small_owner (Some x) m fits lt = fits

given_meta : (w : SettingsValue) (m : MetaValue) → AreSettings w → IsMeta m → IsMeta (laid_meta w m)
given_meta w m settings is = record {
  mode = small_mode w.mode m.mode settings.mode is.mode;
  uid = small_owner w.uid m.uid settings.uid is.uid;
  gid = small_owner w.gid m.gid settings.gid is.gid;
}

over_meta : (w : SettingsValue) (there : Option Entry) (d : Entry) → AreSettings w → ((m : MetaValue) → there ≡ Some (Dir m) → IsMeta m) → IsMeta (meta_in d)
    → IsMeta (meta_in (over w there d))
over_meta w None (Dir k) settings lower is = given_meta w k settings is
over_meta w None (File k c) settings lower is = given_meta w k settings is
over_meta w (Some (File m b)) (Dir k) settings lower is = given_meta w k settings is
over_meta w (Some (File m b)) (File k c) settings lower is = given_meta w k settings is
over_meta w (Some (Dir m)) (File k c) settings lower is = given_meta w k settings is
over_meta w (Some (Dir m)) (Dir k) settings lower is = elim w.keeps as
    (λ b. IsMeta (cond b m (laid_meta w k))) [ true ↦ lower m refl | false ↦ given_meta w k settings is ]

over_bytes : (w : SettingsValue) (there : Option Entry) (d : Entry) → HasBytes d → HasBytes (over w there d)
over_bytes w None (Dir k) bytes = tt
over_bytes w None (File k c) bytes = bytes
over_bytes w (Some (File m b)) (Dir k) bytes = tt
over_bytes w (Some (File m b)) (File k c) bytes = bytes
over_bytes w (Some (Dir m)) (File k c) bytes = bytes
over_bytes w (Some (Dir m)) (Dir k) bytes = tt

-- ---- the whole is a tree

some_is : (o : Option Entry) → IsSome o → (e : Entry) × (o ≡ Some e)
some_is None there = absurd (true≢false (sym there))
some_is (Some e) there = (e, refl)

module _ (w : SettingsValue) (a b t : TreeMap) (is : (q : List (List ℕ)) → finite.get t q ≡ over_at w (finite.get a) (finite.get b) q) where
  looks : (p : List (List ℕ)) → walk (finite.get t) p ≡ walk (over_at w (finite.get a) (finite.get b)) p
  looks p = ap (λ look. walk look p) (λ i r. is r i)

  by_entry : (C : Type 0) (p : List (List ℕ)) (e : Entry) → ((d : Entry) → finite.get b p ≡ Some d → over w (finite.get a p) d ≡ e → C)
      → (finite.get b p ≡ None → below_file (finite.get b) p ≡ false → finite.get a p ≡ Some e → C) → finite.get t p ≡ Some e → C
  by_entry C p e up low there = laid_cases C w (finite.get a) (finite.get b) p e up low (sym (is p) ∙ there)

  -- a map that has at each path what one tree laid over another has is a tree
  pub IsTree-overlaid : AreSettings w → IsTree a → IsTree b → IsTree t
  unfolding dir_over
  IsTree-overlaid settings lower upper =
      let root = dir_over w (finite.get a) (finite.get b) [] upper.root in
      record {
        root = (root.0, is [] ∙ root.1);
        closed = λ p there. let some = some_is (finite.get t p) there in
            looks p ∙ by_entry (walk (over_at w (finite.get a) (finite.get b)) p ≡ Ok tt) p some.0
            (λ d up _. walk_more (finite.get b) (over_at w (finite.get a) (finite.get b)) (dir_over w (finite.get a) (finite.get b)) p
            (upper.closed p (ap is_some up)))
            (λ none clear low. walk_both w (finite.get a) (finite.get b) p (lower.closed p (ap is_some low)) clear) some.1;
        allowed = λ p e. by_entry (IsAllowedAt p e) p e
            (λ d up same.
            let can = upper.allowed p d up in
            let own = over_meta w (finite.get a p) d settings (λ m low. (lower.allowed p (Dir m) low).meta) can.meta in
            let bytes = over_bytes w (finite.get a p) d can.bytes in
            record { path = can.path; meta = subst (λ x. IsMeta (meta_in x)) same own; bytes = subst HasBytes same bytes })
            (λ none clear low. lower.allowed p e low);
      }

  -- the overlaid tree is no higher than the higher of the two trees
  pub height-overlaid : (n : ℕ) → height a ≤ n → height b ≤ n → height t ≤ n
  height-overlaid n low up = height_le t n (λ q there.
      let some = some_is (finite.get t q) there in
      by_entry (length q + 1 ≤ n) q some.0
      (λ d is _. let le = le_height b q (ap is_some is) in omega arith)
      (λ _ _ is. let le = le_height a q (ap is_some is) in omega arith) some.1)
