-- Commands on alike views: none leaves a view, or both leave alike ones.
use Rattle.std.proofs.Common.{◌≡◌, ℕ, ◌-◌, true, false, cond, not, ◌||◌, ◌&&◌, List, [], ◌∷◌, ◌++◌, length, take, drop, Option, Some, None}
use Rattle.std.proofs.Common.{is_some, refl, ap, subst, ◌∙◌}
use Rattle.std.specs.Prelude.{Result, Ok, Err, nat_lt, option_map, option_and_then, unwrap_or, codes}
use Rattle.std.specs.List.{All, flat_map}
use Rattle.std.specs.Result.{result_ok}
use Rattle.std.specs.FinMap as finite
use Rattle.std.proofs.lemmas.List.Elements.{All-nil, All-head, All-tail, All-append, All-push, All-drop}
use Rattle.llb_wire.specs.Digest.{digits_of}
use Rattle.llb_tree.specs.Path.{below, is_name}
use Rattle.llb_tree.specs.ModeAndOwner.{MetaValue, new_dir_meta}
use Rattle.llb_tree.specs.Tree.{TreeMap, Entry, put_file, put_dir, remove, is_dir, list}
use Rattle.llb_tree.specs.declared.fault.TreeFault.{TreeFault}
use Rattle.llb_mount.specs.declared.shown_tree.Shown.{Shown}
use Rattle.llb_mount.specs.View.{dests, no_mount, mount_at, with_tree_of}
use Rattle.llb_mount.specs.Route.{greatest_length, number_of, route, place_in}
use Rattle.llb_applet.specs.declared.directory_and_variables.Setting.{Setting}
use Rattle.llb_applet.specs.declared.path_in_mount.Spot.{Spot}
use Rattle.llb_applet.specs.declared.command.Kind.{Kind}
use Rattle.llb_applet.specs.declared.command.Kind.TheVariants as kind
use Rattle.llb_applet.specs.declared.command.Command.{Command}
use Rattle.llb_applet.specs.declared.command.Command.TheVariants as command
use Rattle.llb_applet.specs.PathsInMounts.{Mounts, spot_of, tree_at, entry_at, is_dest, file_in, with_change, with_file, with_dir, without_spot, with_new_dir}
use Rattle.llb_applet.specs.PathsInMounts.{dir_at}
use Rattle.llb_applet.specs.PathsInMounts.{dirs_below, with_dirs}
use Rattle.llb_applet.specs.Commands.{path_by, spot_by, meta_there, file_by, written, writes, line, appended, last_name, target_of, copied, joined, with_mode}
use Rattle.llb_applet.specs.Commands.{is_kind, listed, listing_by, run}
use Rattle.llb_laws.specs.AlikeTrees.{IsKept, BothOptions, BothResults, AreLike, AreAlike, AreLikeFiles}
use Rattle.llb_laws.proofs.AlikeValues.{cond_options, cond_results, then_same, then_both, InOption, in_cond, in_then, then_in, InResult, after_both}
use Rattle.llb_laws.proofs.AlikeValues.{by_likeness}
use Rattle.llb_laws.proofs.AlikeValues.{unread, map_both, both_get_or, both_set}
use Rattle.llb_laws.proofs.AlikeTreesWithNames.{Alike, AlikeMounts, AlikeViews, Texts}
use Rattle.llb_laws.proofs.PathsOfNames.{in_get, below_named, read_from_named}
use Rattle.llb_laws.proofs.AlikeTreeEdits.{alike_put_file, alike_put_dir, alike_remove, is_dir_same, list_same, list_named, alike_empty}

module _ (N : List ℕ → Type 0) (names : (n : List ℕ) → is_name n ≡ true → N n) (R : List ℕ → List ℕ → Type 0) (kept : IsKept R) where
  no_mount_alike : AlikeMounts N R no_mount no_mount
  no_mount_alike = record { dest = refl; selector = refl; readonly = refl; tree = alike_empty N R; named = All-nil N }

  pub alike_mount_at : (v w : Mounts) → AlikeViews N R v w → (i : ℕ) → AlikeMounts N R (mount_at v i) (mount_at w i)
  alike_mount_at v w h i = both_get_or (AlikeMounts N R) v w i no_mount no_mount_alike h

  pub alike_with_tree_of : (v w : Mounts) → AlikeViews N R v w → (i : ℕ) (t u : TreeMap) → Alike N R t u
      → AlikeViews N R (with_tree_of v i t) (with_tree_of w i u)
  alike_with_tree_of v w h i t u k =
      let at = alike_mount_at v w h i in
      both_set (AlikeMounts N R) v w i (record (mount_at v i) { tree = t }) (record (mount_at w i) { tree = u })
      (record { dest = at.dest; selector = at.selector; readonly = at.readonly; tree = k; named = at.named }) h

  -- ---- spots

  route_same : (v w : Mounts) → AlikeViews N R v w → (path : List (List ℕ)) → route v path ≡ route w path
  route_same v w h path =
      let same : dests v ≡ dests w = map_both (AlikeMounts N R) (λ (m : Shown). m.dest) (λ (m : Shown). m.dest) (λ m n k. k.dest) v w h in
      λ i. (number_of (same i) (take (greatest_length (same i) path) path), greatest_length (same i) path)

  spot_same : (v w : Mounts) → AlikeViews N R v w → (path : List (List ℕ)) → spot_of v path ≡ spot_of w path
  spot_same v w h path =
      let to = route_same v w h path in
      let selector : (mount_at v (route v path).0).selector ≡ (mount_at w (route w path).0).selector =
      (alike_mount_at v w h (route v path).0).selector ∙ ap (λ (r : ℕ × ℕ). (mount_at w r.0).selector) to in
      ap (λ (x : (ℕ × ℕ) × List (List ℕ)). spot_with path x.0 x.1) (λ i. (to i, selector i))
    where
      spot_with : List (List ℕ) → ℕ × ℕ → List (List ℕ) → Option Spot
      spot_with path to selector =
          cond (nat_lt 128 (length (place_in selector to.1 path))) None
          (Some (record { mount = to.0; base = length selector; place = place_in selector to.1 path }))

  spot_by_same : (s : Setting) (v w : Mounts) → AlikeViews N R v w → (word : List ℕ) → spot_by s v word ≡ spot_by s w word
  spot_by_same s v w h word = by_path (path_by s word)
    where
      by_path : (o : Option (List (List ℕ))) → option_and_then (spot_of v) o ≡ option_and_then (spot_of w) o
      by_path None = refl
      by_path (Some path) = spot_same v w h path

  -- the names of the path at which a spot is in its tree
  abbrev IsNamedSpot : Spot → Type 0
  IsNamedSpot spot = All N spot.place

  spot_named : (v w : Mounts) → AlikeViews N R v w → (path : List (List ℕ)) → All N path → InOption IsNamedSpot (spot_of v path)
  spot_named v w h path named =
      let to = route v path in
      let selector = (mount_at v to.0).selector in
      in_cond IsNamedSpot (nat_lt 128 (length (place_in selector to.1 path))) None
      (Some (record { mount = to.0; base = length selector; place = place_in selector to.1 path })) tt
      (All-append N selector (drop to.1 path) (alike_mount_at v w h to.0).named (All-drop N to.1 path named))

  spot_by_named : (s : Setting) → All N s.cwd → (v w : Mounts) → AlikeViews N R v w → (word : List ℕ) → InOption IsNamedSpot (spot_by s v word)
  spot_by_named s cwd v w h word =
      in_then (All N) IsNamedSpot (path_by s word) (spot_of v) (read_from_named N names s.cwd cwd word) (spot_named v w h)

  alike_tree_at : (v w : Mounts) → AlikeViews N R v w → (spot : Spot) → Alike N R (tree_at v spot) (tree_at w spot)
  alike_tree_at v w h spot = (alike_mount_at v w h spot.mount).tree

  like_entry_at : (v w : Mounts) → AlikeViews N R v w → (spot : Spot) → BothOptions (AreLike R) (entry_at v spot) (entry_at w spot)
  like_entry_at v w h spot = (alike_tree_at v w h spot).like spot.place

  there_same : (v w : Mounts) → AlikeViews N R v w → (spot : Spot) → is_some (entry_at v spot) ≡ is_some (entry_at w spot)
  there_same v w h spot = unread R is_some (λ m a b. refl) (entry_at v spot) (entry_at w spot) (like_entry_at v w h spot)

  dir_same : (v w : Mounts) → AlikeViews N R v w → (spot : Spot) → is_dir (entry_at v spot) ≡ is_dir (entry_at w spot)
  dir_same v w h spot = unread R is_dir (λ m a b. refl) (entry_at v spot) (entry_at w spot) (like_entry_at v w h spot)

  -- ---- changes

  alike_with_change : (v w : Mounts) → AlikeViews N R v w → (i : ℕ) (x y : Result TreeMap TreeFault) → BothResults (Alike N R) x y
      → BothOptions (AlikeViews N R) (with_change v i x) (with_change w i y)
  alike_with_change v w h i (Ok t) (Ok u) k =
      cond_options (AlikeViews N R) (mount_at v i).readonly (mount_at w i).readonly None None (Some (with_tree_of v i t)) (Some (with_tree_of w i u))
      (alike_mount_at v w h i).readonly tt (alike_with_tree_of v w h i t u k)
  alike_with_change v w h i (Err e) (Err f) k = tt
  alike_with_change v w h i (Ok t) (Err f) k = absurd k
  alike_with_change v w h i (Err e) (Ok u) k = absurd k

  alike_with_file : (v w : Mounts) → AlikeViews N R v w → (spot : Spot) → IsNamedSpot spot → (m : MetaValue) (a b : List ℕ) → R a b
      → BothOptions (AlikeViews N R) (with_file v spot m a) (with_file w spot m b)
  alike_with_file v w h spot named m a b r =
      cond_options (AlikeViews N R) (is_dest spot && not (is_some (entry_at v spot))) (is_dest spot && not (is_some (entry_at w spot))) None None
      (with_change v spot.mount (put_file (tree_at v spot) spot.place m a)) (with_change w spot.mount (put_file (tree_at w spot) spot.place m b))
      (ap (λ t. is_dest spot && not t) (there_same v w h spot)) tt
      (alike_with_change v w h spot.mount (put_file (tree_at v spot) spot.place m a) (put_file (tree_at w spot) spot.place m b)
      (alike_put_file N R (tree_at v spot) (tree_at w spot) (alike_tree_at v w h spot) spot.place named m a b r))

  -- two alike views stay alike after files with alike contents and with equal modes and owners are put at one spot
  alike_with_like_file : (v w : Mounts) → AlikeViews N R v w → (spot : Spot) → IsNamedSpot spot → (m n : MetaValue) → m ≡ n → (a b : List ℕ) → R a b
      → BothOptions (AlikeViews N R) (with_file v spot m a) (with_file w spot n b)
  alike_with_like_file v w h spot named m n same a b r =
      subst (λ x. BothOptions (AlikeViews N R) (with_file v spot m a) (with_file w spot x b)) same (alike_with_file v w h spot named m a b r)

  alike_with_dir : (v w : Mounts) → AlikeViews N R v w → (spot : Spot) → IsNamedSpot spot → (m : MetaValue)
      → BothOptions (AlikeViews N R) (with_dir v spot m) (with_dir w spot m)
  alike_with_dir v w h spot named m =
      alike_with_change v w h spot.mount (put_dir (tree_at v spot) spot.place m) (put_dir (tree_at w spot) spot.place m)
      (alike_put_dir N R (tree_at v spot) (tree_at w spot) (alike_tree_at v w h spot) spot.place named m)

  alike_without_spot : (v w : Mounts) → AlikeViews N R v w → (spot : Spot) → BothOptions (AlikeViews N R) (without_spot v spot) (without_spot w spot)
  alike_without_spot v w h spot =
      cond_options (AlikeViews N R) (is_dest spot) (is_dest spot) None None
      (with_change v spot.mount (remove (tree_at v spot) spot.place)) (with_change w spot.mount (remove (tree_at w spot) spot.place)) refl tt
      (alike_with_change v w h spot.mount (remove (tree_at v spot) spot.place) (remove (tree_at w spot) spot.place)
      (alike_remove N R (tree_at v spot) (tree_at w spot) (alike_tree_at v w h spot) spot.place))

  alike_with_new_dir : (v w : Mounts) → AlikeViews N R v w → (spot : Spot) → IsNamedSpot spot
      → BothOptions (AlikeViews N R) (with_new_dir v spot) (with_new_dir w spot)
  alike_with_new_dir v w h spot named =
      cond_options (AlikeViews N R) (is_dest spot || is_some (entry_at v spot)) (is_dest spot || is_some (entry_at w spot)) None None
      (with_dir v spot new_dir_meta) (with_dir w spot new_dir_meta) (ap (λ t. is_dest spot || t) (there_same v w h spot)) tt
      (alike_with_dir v w h spot named new_dir_meta)

  alike_dir_at : (t u : TreeMap) → Alike N R t u → (p : List (List ℕ)) → All N p → BothResults (Alike N R) (dir_at t p) (dir_at u p)
  alike_dir_at t u h p named =
      cond_results (Alike N R) (is_dir (finite.get t p)) (is_dir (finite.get u p)) (Ok t) (Ok u) (put_dir t p new_dir_meta) (put_dir u p new_dir_meta)
      (is_dir_same R t u h.like p) h (alike_put_dir N R t u h p named new_dir_meta)

  alike_dirs_below : (t u : TreeMap) → Alike N R t u → (p ns : List (List ℕ)) → All N p → All N ns
      → BothResults (Alike N R) (dirs_below t p ns) (dirs_below u p ns)
  alike_dirs_below t u h p [] above below = h
  alike_dirs_below t u h p (n ∷ ns) above below =
      let here : All N (p ++ n ∷ []) = All-push N p n above (All-head N n ns below) in
      after_both (Alike N R) (Alike N R) (dir_at t (p ++ n ∷ [])) (dir_at u (p ++ n ∷ [])) (λ next. dirs_below next (p ++ n ∷ []) ns)
      (λ next. dirs_below next (p ++ n ∷ []) ns) (alike_dir_at t u h (p ++ n ∷ []) here)
      (λ x y k. alike_dirs_below x y k (p ++ n ∷ []) ns here (All-tail N n ns below))

  alike_with_dirs : (v w : Mounts) → AlikeViews N R v w → (spot : Spot) → IsNamedSpot spot → BothOptions (AlikeViews N R) (with_dirs v spot) (with_dirs w spot)
  alike_with_dirs v w h spot named =
      let rest = drop spot.base spot.place in
      let below_v = dirs_below (tree_at v spot) (mount_at v spot.mount).selector rest in
      let below_w = dirs_below (tree_at w spot) (mount_at w spot.mount).selector rest in
      let alike : BothResults (Alike N R) below_v below_w =
      subst (λ s. BothResults (Alike N R) below_v (dirs_below (tree_at w spot) s rest)) (alike_mount_at v w h spot.mount).selector
      (alike_dirs_below (tree_at v spot) (tree_at w spot) (alike_tree_at v w h spot) (mount_at v spot.mount).selector rest
      (alike_mount_at v w h spot.mount).named (All-drop N spot.base spot.place named)) in
      cond_options (AlikeViews N R) (is_dir (entry_at v spot)) (is_dir (entry_at w spot)) (Some v) (Some w)
      (cond (is_dest spot) None (with_change v spot.mount below_v)) (cond (is_dest spot) None (with_change w spot.mount below_w)) (dir_same v w h spot) h
      (cond_options (AlikeViews N R) (is_dest spot) (is_dest spot) None None (with_change v spot.mount below_v) (with_change w spot.mount below_w) refl tt
      (alike_with_change v w h spot.mount below_v below_w alike))

  -- ---- files

  like_file_in : (o p : Option Entry) → BothOptions (AreLike R) o p → BothOptions (AreLikeFiles R) (file_in o) (file_in p)
  like_file_in o p h = by_likeness R (λ x y. BothOptions (AreLikeFiles R) (file_in x) (file_in y)) tt (λ m. tt) (λ m a b r. (refl, r)) o p h

  like_file_by : (s : Setting) (v w : Mounts) → AlikeViews N R v w → (word : List ℕ) → BothOptions (AreLikeFiles R) (file_by s v word) (file_by s w word)
  like_file_by s v w h word =
      then_same (AreLikeFiles R) (spot_by s v word) (spot_by s w word) (λ spot. file_in (entry_at v spot)) (λ spot. file_in (entry_at w spot))
      (spot_by_same s v w h word) (λ spot. like_file_in (entry_at v spot) (entry_at w spot) (like_entry_at v w h spot))

  alike_written : (v w : Mounts) → AlikeViews N R v w → (spot : Spot) → IsNamedSpot spot → (a b : List ℕ) → R a b
      → BothOptions (AlikeViews N R) (written v spot a) (written w spot b)
  alike_written v w h spot named a b r =
      alike_with_like_file v w h spot named (meta_there (entry_at v spot)) (meta_there (entry_at w spot))
      (unread R meta_there (λ m a b. refl) (entry_at v spot) (entry_at w spot) (like_entry_at v w h spot)) a b r

  alike_writes : (s : Setting) → All N s.cwd → (v w : Mounts) → AlikeViews N R v w → (word : List ℕ) (a b : List ℕ) → R a b
      → BothOptions (AlikeViews N R) (writes s v word a) (writes s w word b)
  alike_writes s cwd v w h word a b r =
      then_in IsNamedSpot (AlikeViews N R) (spot_by s v word) (spot_by s w word) (λ spot. written v spot a) (λ spot. written w spot b)
      (spot_by_same s v w h word) (spot_by_named s cwd v w h word) (λ spot named. alike_written v w h spot named a b r)

  content_there : Option Entry → List ℕ
  content_there o = unwrap_or (option_map (λ f. f.1) (file_in o)) []

  contents_there : (o p : Option Entry) → BothOptions (AreLike R) o p → R (content_there o) (content_there p)
  unfolding content_there
  contents_there o p h = by_likeness R (λ x y. R (content_there x) (content_there y)) kept.empty (λ m. kept.empty) (λ m a b r. r) o p h

  alike_appended : (v w : Mounts) → AlikeViews N R v w → (spot : Spot) → IsNamedSpot spot → (word : List ℕ) → R (line word) (line word)
      → BothOptions (AlikeViews N R) (appended v spot word) (appended w spot word)
  unfolding content_there
  alike_appended v w h spot named word own =
      alike_written v w h spot named (content_there (entry_at v spot) ++ line word) (content_there (entry_at w spot) ++ line word)
      (kept.appended (content_there (entry_at v spot)) (content_there (entry_at w spot)) (line word) (line word)
      (contents_there (entry_at v spot) (entry_at w spot) (like_entry_at v w h spot)) own)

  target_same : (v w : Mounts) → AlikeViews N R v w → (source path : List (List ℕ)) → target_of v source path ≡ target_of w source path
  target_same v w h source path =
      ap (option_and_then (λ spot. cond (is_dir (entry_at v spot)) (into v) (Some spot))) (spot_same v w h path) ∙ by_spot (spot_of w path)
    where
      into : Mounts → Option Spot
      into x = option_and_then (λ name. option_and_then (spot_of x) (result_ok (below path name))) (last_name source)

      by_below : (o : Option (List (List ℕ))) → option_and_then (spot_of v) o ≡ option_and_then (spot_of w) o
      by_below None = refl
      by_below (Some p) = spot_same v w h p

      by_name : (o : Option (List ℕ)) → option_and_then (λ name. option_and_then (spot_of v) (result_ok (below path name))) o
          ≡ option_and_then (λ name. option_and_then (spot_of w) (result_ok (below path name))) o
      by_name None = refl
      by_name (Some name) = by_below (result_ok (below path name))

      by_spot : (o : Option Spot) → option_and_then (λ spot. cond (is_dir (entry_at v spot)) (into v) (Some spot)) o
          ≡ option_and_then (λ spot. cond (is_dir (entry_at w spot)) (into w) (Some spot)) o
      by_spot None = refl
      by_spot (Some spot) =
          let test = dir_same v w h spot in
          let lower = by_name (last_name source) in
          λ i. cond (test i) (lower i) (Some spot)

  target_named : (v w : Mounts) → AlikeViews N R v w → (source path : List (List ℕ)) → All N source → All N path
      → InOption IsNamedSpot (target_of v source path)
  target_named v w h source path from to =
      in_then IsNamedSpot IsNamedSpot (spot_of v path) (λ spot. cond (is_dir (entry_at v spot)) into (Some spot)) (spot_named v w h path to) (λ spot named.
      in_cond IsNamedSpot (is_dir (entry_at v spot)) into (Some spot)
      (in_then N IsNamedSpot (last_name source) (λ name. option_and_then (spot_of v) (result_ok (below path name)))
      (in_get N source from (length source - 1)) (λ name is.
      in_then (All N) IsNamedSpot (result_ok (below path name)) (spot_of v) (by_below name (below path name) (below_named N path name to is))
      (spot_named v w h))) named)
    where
      into : Option Spot
      into = option_and_then (λ name. option_and_then (spot_of v) (result_ok (below path name))) (last_name source)

      by_below : (name : List ℕ) (r : Result (List (List ℕ)) TreeFault) → InResult (All N) r → InOption (All N) (result_ok r)
      by_below name (Ok p) is = is
      by_below name (Err e) is = tt

  alike_copied : (s : Setting) → All N s.cwd → (v w : Mounts) → AlikeViews N R v w → (from to : List ℕ)
      → BothOptions (AlikeViews N R) (copied s v from to) (copied s w from to)
  alike_copied s cwd v w h from to =
      then_in (All N) (AlikeViews N R) (path_by s from) (path_by s from) (whole v) (whole w) refl (read_from_named N names s.cwd cwd from) (λ source named.
      then_same (AlikeViews N R) (spot_of v source) (spot_of w source) (with_spot v source) (with_spot w source) (spot_same v w h source) (λ spot.
      then_both (AreLikeFiles R) (AlikeViews N R) (file_in (entry_at v spot)) (file_in (entry_at w spot)) (with_file_in v source) (with_file_in w source)
      (like_file_in (entry_at v spot) (entry_at w spot) (like_entry_at v w h spot)) (λ f g k.
      then_in (All N) (AlikeViews N R) (path_by s to) (path_by s to) (with_path v source f) (with_path w source g) refl (read_from_named N names s.cwd cwd to)
      (λ path is.
      then_in IsNamedSpot (AlikeViews N R) (target_of v source path) (target_of w source path) (λ target. with_file v target f.0 f.1)
      (λ target. with_file w target g.0 g.1) (target_same v w h source path) (target_named v w h source path named is)
      (λ target place. alike_with_like_file v w h target place f.0 g.0 k.0 f.1 g.1 k.1)))))
    where
      with_path : Mounts → List (List ℕ) → MetaValue × List ℕ → List (List ℕ) → Option Mounts
      with_path x source f path = option_and_then (λ target. with_file x target f.0 f.1) (target_of x source path)

      with_file_in : Mounts → List (List ℕ) → MetaValue × List ℕ → Option Mounts
      with_file_in x source f = option_and_then (with_path x source f) (path_by s to)

      with_spot : Mounts → List (List ℕ) → Spot → Option Mounts
      with_spot x source spot = option_and_then (with_file_in x source) (file_in (entry_at x spot))

      whole : Mounts → List (List ℕ) → Option Mounts
      whole x source = option_and_then (with_spot x source) (spot_of x source)

  joined_both : (s : Setting) (v w : Mounts) → AlikeViews N R v w → (words : List (List ℕ)) → BothOptions R (joined s v words) (joined s w words)
  joined_both s v w h [] = kept.empty
  joined_both s v w h (word ∷ words) =
      then_both (AreLikeFiles R) R (file_by s v word) (file_by s w word) (λ f. option_and_then (λ more. Some (f.1 ++ more)) (joined s v words))
      (λ f. option_and_then (λ more. Some (f.1 ++ more)) (joined s w words)) (like_file_by s v w h word) (λ f g k.
      then_both R R (joined s v words) (joined s w words) (λ more. Some (f.1 ++ more)) (λ more. Some (g.1 ++ more)) (joined_both s v w h words) (λ a b r.
      kept.appended f.1 g.1 a b k.1 r))

  alike_with_mode : (v w : Mounts) → AlikeViews N R v w → (spot : Spot) → IsNamedSpot spot → (mode : ℕ) (o p : Option Entry) → BothOptions (AreLike R) o p
      → BothOptions (AlikeViews N R) (with_mode v spot mode o) (with_mode w spot mode p)
  alike_with_mode v w h spot named mode o p k =
      by_likeness R (λ x y. BothOptions (AlikeViews N R) (with_mode v spot mode x) (with_mode w spot mode y)) tt
      (λ m. alike_with_dir v w h spot named (record m { mode = mode })) (λ m a b r. alike_with_file v w h spot named (record m { mode = mode }) a b r) o p k

  kind_same : (k : Kind) (o p : Option Entry) → BothOptions (AreLike R) o p → is_kind k o ≡ is_kind k p
  kind_same kind.Something o p h = unread R (is_kind kind.Something) (λ m a b. refl) o p h
  kind_same kind.File o p h = unread R (is_kind kind.File) (λ m a b. refl) o p h
  kind_same kind.Dir o p h = unread R (is_kind kind.Dir) (λ m a b. refl) o p h

  listed_same : (t u : TreeMap) → AreAlike R t u → (p ns : List (List ℕ)) → listed t p ns ≡ listed u p ns
  listed_same t u h p ns = λ i. flat_map (λ name. name ++ cond (is_dir_same R t u h (p ++ name ∷ []) i) (codes "/") [] ++ 10 ∷ []) ns

  listing_both : (s : Setting) (v w : Mounts) → AlikeViews N R v w → (word : List ℕ)
      → ((t : TreeMap) (p ns : List (List ℕ)) → All N ns → R (listed t p ns) (listed t p ns)) → BothOptions R (listing_by s v word) (listing_by s w word)
  listing_both s v w h word own =
      then_same R (spot_by s v word) (spot_by s w word) (list_at v) (list_at w) (spot_by_same s v w h word) (λ spot.
      then_in (All N) R (result_ok (list (tree_at v spot) spot.place)) (result_ok (list (tree_at w spot) spot.place))
      (λ ns. Some (listed (tree_at v spot) spot.place ns)) (λ ns. Some (listed (tree_at w spot) spot.place ns))
      (ap result_ok (list_same R (tree_at v spot) (tree_at w spot) (alike_tree_at v w h spot).like spot.place))
      (by_list (list (tree_at v spot) spot.place) (list_named N (tree_at v spot) (alike_tree_at v w h spot).named spot.place)) (λ ns named.
      subst (R (listed (tree_at v spot) spot.place ns)) (listed_same (tree_at v spot) (tree_at w spot) (alike_tree_at v w h spot).like spot.place ns)
      (own (tree_at v spot) spot.place ns named)))
    where
      list_at : Mounts → Spot → Option (List ℕ)
      list_at x spot = option_and_then (λ ns. Some (listed (tree_at x spot) spot.place ns)) (result_ok (list (tree_at x spot) spot.place))

      by_list : (r : Result (List (List ℕ)) TreeFault) → InResult (All N) r → InOption (All N) (result_ok r)
      by_list (Ok ns) is = is
      by_list (Err e) is = tt

  -- a command on alike views
  pub alike_run : (s : Setting) → All N s.cwd → (v w : Mounts) → AlikeViews N R v w → (c : Command) → Texts N R s c
      → BothOptions (AlikeViews N R) (run s v c) (run s w c)
  alike_run s cwd v w h command.True e = h
  alike_run s cwd v w h command.False e = tt
  alike_run s cwd v w h (command.Mkdir false path) e =
      then_in IsNamedSpot (AlikeViews N R) (spot_by s v path) (spot_by s w path) (with_new_dir v) (with_new_dir w) (spot_by_same s v w h path)
      (spot_by_named s cwd v w h path) (alike_with_new_dir v w h)
  alike_run s cwd v w h (command.Mkdir true path) e =
      then_in IsNamedSpot (AlikeViews N R) (spot_by s v path) (spot_by s w path) (with_dirs v) (with_dirs w) (spot_by_same s v w h path)
      (spot_by_named s cwd v w h path) (alike_with_dirs v w h)
  alike_run s cwd v w h (command.Rm path) e =
      then_same (AlikeViews N R) (spot_by s v path) (spot_by s w path) (without_spot v) (without_spot w) (spot_by_same s v w h path) (alike_without_spot v w h)
  alike_run s cwd v w h (command.Write path word) e = alike_writes s cwd v w h path (line word) (line word) e
  alike_run s cwd v w h (command.Append path word) e =
      then_in IsNamedSpot (AlikeViews N R) (spot_by s v path) (spot_by s w path) (λ spot. appended v spot word) (λ spot. appended w spot word)
      (spot_by_same s v w h path) (spot_by_named s cwd v w h path) (λ spot named. alike_appended v w h spot named word e)
  alike_run s cwd v w h (command.Cp from to) e = alike_copied s cwd v w h from to
  alike_run s cwd v w h (command.Concat out parts) e =
      then_both R (AlikeViews N R) (joined s v parts) (joined s w parts) (writes s v out) (writes s w out) (joined_both s v w h parts)
      (alike_writes s cwd v w h out)
  alike_run s cwd v w h (command.Chmod mode path) e =
      then_in IsNamedSpot (AlikeViews N R) (spot_by s v path) (spot_by s w path) (λ spot. with_mode v spot mode (entry_at v spot))
      (λ spot. with_mode w spot mode (entry_at w spot)) (spot_by_same s v w h path) (spot_by_named s cwd v w h path)
      (λ spot named. alike_with_mode v w h spot named mode (entry_at v spot) (entry_at w spot) (like_entry_at v w h spot))
  alike_run s cwd v w h (command.Test kind path) e =
      then_same (AlikeViews N R) (spot_by s v path) (spot_by s w path) (λ spot. cond (is_kind kind (entry_at v spot)) (Some v) None)
      (λ spot. cond (is_kind kind (entry_at w spot)) (Some w) None) (spot_by_same s v w h path) (λ spot.
      cond_options (AlikeViews N R) (is_kind kind (entry_at v spot)) (is_kind kind (entry_at w spot)) (Some v) (Some w) None None
      (kind_same kind (entry_at v spot) (entry_at w spot) (like_entry_at v w h spot)) h tt)
  alike_run s cwd v w h (command.Listing path out) e =
      then_both R (AlikeViews N R) (listing_by s v path) (listing_by s w path) (writes s v out) (writes s w out) (listing_both s v w h path e)
      (alike_writes s cwd v w h out)
  alike_run s cwd v w h (command.Envfile out) e = alike_writes s cwd v w h out (flat_map line s.env) (flat_map line s.env) e
  alike_run s cwd v w h (command.Sha256 path out) e =
      then_both (AreLikeFiles R) (AlikeViews N R) (file_by s v path) (file_by s w path) (λ f. writes s v out (line (digits_of f.1)))
      (λ f. writes s w out (line (digits_of f.1))) (like_file_by s v w h path) (λ f g k.
      alike_writes s cwd v w h out (line (digits_of f.1)) (line (digits_of g.1)) (e f.1 g.1 k.1))
