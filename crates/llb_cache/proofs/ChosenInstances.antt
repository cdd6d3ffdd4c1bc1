-- The number of the instance that is chosen for a key, and whether a locked key is held, by the marks of its row.
use Rattle.std.proofs.Common.{◌≡◌, ℕ, ◌<◌, Bool, true, false, ◌&&◌, List, [], Option, Some, None, is_some, unwrap_or, position, slice_get, refl, sym}
use Rattle.std.proofs.Common.{◌∙◌, subst, arith, true≢false}
use Rattle.std.specs.Map.{keys_of, lookup}
use Rattle.llb_tree.specs.Tree.{TreeMap}
use Rattle.llb_cache.specs.declared.key.Key.{Key}
use Rattle.llb_cache.specs.declared.key.Mode.{Mode}
use Rattle.llb_cache.specs.declared.key.Mode.TheVariants.{Shared, Private, Locked}
use Rattle.llb_cache.specs.Key.{same_key}
use Rattle.llb_cache.specs.Caches.{CachesValue, Row, place, trees_of, is_held, is_locked, number_for, IsExclusive}
use Rattle.llb_cache.specs.InstanceMarks.{IsMarked}
use Rattle.llb_cache.proofs.PrivateInstanceNumbers.{first_unheld}
use Rattle.llb_cache.proofs.MarksByRow.{mark_at, mark_there, no_mark}

-- ---- the trees of a key

some_trees : (o : Option (List TreeMap)) → true ≡ is_some o → o ≡ Some (unwrap_or o [])
some_trees None is = absurd (true≢false is)
some_trees (Some ts) is = refl

no_trees : (o : Option (List TreeMap)) (n : ℕ) → false ≡ is_some o → slice_get (unwrap_or o []) n ≡ None
no_trees None n is = refl
no_trees (Some ts) n is = absurd (true≢false (sym is))

-- a key that has a row has the trees of that row
pub there_trees : (rows : List Row) (key : Key) → true ≡ is_some (lookup (same_key key) rows) → lookup (same_key key) rows ≡ Some (trees_of rows key)
there_trees rows key is = some_trees (lookup (same_key key) rows) is

-- a key that has no row has no tree
pub none_tree : (rows : List Row) (key : Key) (n : ℕ) → false ≡ is_some (lookup (same_key key) rows) → slice_get (trees_of rows key) n ≡ None
none_tree rows key n is = no_trees (lookup (same_key key) rows) n is

-- ---- what is chosen, and who has it

module _ (c : CachesValue) (marks : List (List Bool)) (key : Key) (is : IsMarked c marks) where
  unheld : IsExclusive key.mode → false ≡ is_some (lookup (same_key key) c.rows) → is_held c.out (place key 0) ≡ false
  unheld alone none = sym (is.exact (place key 0) alone) ∙ no_mark c.rows marks (place key 0) none

  -- the instance with number 0 is chosen for a key that has no row
  pub none_number : false ≡ is_some (lookup (same_key key) c.rows) → number_for c.out key key.mode ≡ 0
  none_number none = by_mode key.mode refl
    where
      by_mode : (m : Mode) → key.mode ≡ m → number_for c.out key m ≡ 0
      by_mode Shared e = refl
      by_mode Locked e = refl
      by_mode Private e =
          first_unheld c.out key 0 is.caches.apart (λ k below. absurd (omega (arith, below))) (unheld (subst IsExclusive (sym e) tt) none)

  -- no lease has an instance of a locked key that has no row
  pub none_held : false ≡ is_some (lookup (same_key key) c.rows) → (is_locked key.mode && is_held c.out (place key 0)) ≡ false
  none_held none = by_mode key.mode refl
    where
      by_mode : (m : Mode) → key.mode ≡ m → (is_locked m && is_held c.out (place key 0)) ≡ false
      by_mode Shared e = refl
      by_mode Private e = refl
      by_mode Locked e = unheld (subst IsExclusive (sym e) tt) none

  held_by_mark : (row k : ℕ) → IsExclusive key.mode → position (same_key key) (keys_of c.rows) ≡ Some row → is_held c.out (place key k) ≡ mark_at marks row k
  held_by_mark row k alone at = sym (is.exact (place key k) alone) ∙ mark_there c.rows marks (place key k) row at

  -- the least number without a mark is chosen for a private key
  pub private_number : (row r : ℕ) → key.mode ≡ Private → position (same_key key) (keys_of c.rows) ≡ Some row
      → ((k : ℕ) → k < r → mark_at marks row k ≡ true) → mark_at marks row r ≡ false → number_for c.out key Private ≡ r
  private_number row r mode at below clear =
      let alone = subst IsExclusive (sym mode) tt in
      first_unheld c.out key r is.caches.apart (λ k low. held_by_mark row k alone at ∙ below k low) (held_by_mark row r alone at ∙ clear)

  -- a locked key is held where its first mark is set
  pub locked_held : (row : ℕ) → key.mode ≡ Locked → position (same_key key) (keys_of c.rows) ≡ Some row → is_held c.out (place key 0) ≡ mark_at marks row 0
  locked_held row mode at = held_by_mark row 0 (subst IsExclusive (sym mode) tt) at
