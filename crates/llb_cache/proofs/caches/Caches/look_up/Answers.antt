use Rattle.std.proofs.Common.{◌≡◌, ◌<◌, ℕ, List, [], Bool, Option, Some, is_some, false, ◌&&◌, length, position, slice_get, slice_index_or}
use Rattle.std.proofs.Common.{sym, ap, ◌∙◌, arith}
use Rattle.std.specs.Map.{keys_of, values_of}
use Rattle.std.proofs.Math.Facts.{Fits-of_lt}
use Rattle.std.proofs.lemmas.List.{get_or_default}
use Rattle.std.proofs.lemmas.List.Sums.{count_by-le-length}
use Rattle.llb_tree.specs.Tree.{TreeMap}
use Rattle.llb_cache.specs.declared.key.Mode.TheVariants.{Private}
use Rattle.llb_cache.specs.Key.{same_key}
use Rattle.llb_cache.specs.Caches.{CachesValue, is_held, is_locked, number_for, place, trees_of}
use Rattle.llb_cache.proofs.PrivateInstanceNumbers.{number_within}
use Rattle.llb_cache.proofs.MarksByRow.{mark_at}
use Rattle.llb_cache.proofs.ChosenInstances.{none_number, none_held, private_number, locked_held, there_trees, none_tree}
use Rattle.llb_cache.proofs.caches.Caches.look_up.Goals as goal
use Rattle.llb_cache.proofs.caches.Caches.look_up.Goals.{After-row_near, In-Some, After-first_clear}

-- the caches as contracts see them
abbrev here : After-row_near → CachesValue
here c = record { rows = c.self.inside.rows.entries.items; out = c.self.inside.out.items }

-- ---- a key that has no row

pub returns-in_default-clause-row : goal.returns-in_default-clause-row
returns-in_default-clause-row c =
    c.nothing_found.ensures.row ∙ sym c.in_default.is ∙ c.row_near.ensures.at
    ∙ ap (λ (v : CachesValue). position (same_key c.args.key.now) (keys_of v.rows)) c.self.view_is

pub returns-in_default-clause-held : goal.returns-in_default-clause-held
returns-in_default-clause-held c =
    let key = c.args.key.now in
    c.nothing_found.ensures.held
    ∙ sym (none_held (here (goal.at.returns-in_default-clause-held c).After-row_near) c.self.inside.marks.items key c.self.invariant.0
    (ap is_some (sym c.in_default.is) ∙ c.row_near.ensures.found))
    ∙ ap (λ (v : CachesValue). is_locked key.mode && is_held v.out (place key 0)) c.self.view_is

pub returns-in_default-clause-number : goal.returns-in_default-clause-number
returns-in_default-clause-number c =
    let key = c.args.key.now in
    c.nothing_found.ensures.number
    ∙ sym (none_number (here (goal.at.returns-in_default-clause-number c).After-row_near) c.self.inside.marks.items key c.self.invariant.0
    (ap is_some (sym c.in_default.is) ∙ c.row_near.ensures.found))
    ∙ ap (λ (v : CachesValue). number_for v.out key key.mode) c.self.view_is

pub returns-in_default-clause-tree : goal.returns-in_default-clause-tree
returns-in_default-clause-tree c =
    let key = c.args.key.now in
    let n = c.nothing_found.result.number in
    c.nothing_found.ensures.tree
    ∙ sym (none_tree c.self.inside.rows.entries.items key n (ap is_some (sym c.in_default.is) ∙ c.row_near.ensures.found))
    ∙ ap (λ (v : CachesValue). slice_get (trees_of v.rows key) n) c.self.view_is

-- ---- a key that has one

at : (c : In-Some) → position (same_key c.args.key.now) (keys_of c.self.inside.rows.entries.items) ≡ Some c.in-Some.row
at c = sym c.row_near.ensures.at ∙ c.in-Some.is

row_is : (c : In-Some) (r : Option ℕ) → r ≡ Some c.in-Some.row → r ≡ position (same_key c.args.key.now) (keys_of c.args.self.now.rows)
row_is c r is = is ∙ sym (at c) ∙ ap (λ (v : CachesValue). position (same_key c.args.key.now) (keys_of v.rows)) c.self.view_is

-- the tree of a number in the row is the one of the key's instance
tree_is : (c : In-Some) (tree : Option TreeMap) (n m : ℕ) → m ≡ n
    → ((ts : List TreeMap) → slice_get (values_of c.self.inside.rows.entries.items) c.in-Some.row ≡ Some ts → tree ≡ slice_get ts n)
    → tree ≡ slice_get (trees_of c.args.self.now.rows c.args.key.now) m
tree_is c tree n m same of =
    let rows = c.self.inside.rows.entries.items in
    let key = c.args.key.now in
    of (trees_of rows key) (c.in-Some.ensures.value ∙ there_trees rows key c.in-Some.ensures.found)
    ∙ ap (λ k. slice_get (trees_of rows key) k) (sym same)
    ∙ ap (λ (v : CachesValue). slice_get (trees_of v.rows key) m) c.self.view_is

-- ---- a shared key

pub returns-in-Shared-clause-row : goal.returns-in-Shared-clause-row
returns-in-Shared-clause-row c = row_is (goal.at.returns-in-Shared-clause-row c).In-Some c.found_in.result.row c.found_in.ensures.row

pub returns-in-Shared-clause-held : goal.returns-in-Shared-clause-held
returns-in-Shared-clause-held c =
    let key = c.args.key.now in
    c.found_in.ensures.held ∙ ap (λ m. is_locked m && is_held c.self.inside.out.items (place key 0)) c.in-Shared.ensures
    ∙ ap (λ (v : CachesValue). is_locked key.mode && is_held v.out (place key 0)) c.self.view_is

pub returns-in-Shared-clause-number : goal.returns-in-Shared-clause-number
returns-in-Shared-clause-number c =
    let key = c.args.key.now in
    c.found_in.ensures.number ∙ ap (number_for c.self.inside.out.items key) c.in-Shared.ensures
    ∙ ap (λ (v : CachesValue). number_for v.out key key.mode) c.self.view_is

pub returns-in-Shared-clause-tree : goal.returns-in-Shared-clause-tree
returns-in-Shared-clause-tree c =
    tree_is (goal.at.returns-in-Shared-clause-tree c).In-Some _ 0 c.found_in.result.number c.found_in.ensures.number c.found_in.ensures.tree

-- ---- a private key

-- the marks of the row
mark_is : (c : After-first_clear) (k : ℕ) → mark_at c.self.inside.marks.items c.in-Some.row k ≡ slice_index_or c.index-marks.result.now k false
mark_is c k =
    let marks = c.self.inside.marks.items in
    let within = c.in-Some.ensures.within in
    let count = c.self.invariant.0.each in
    let below : c.in-Some.row < length marks = omega (arith, within, count) in
    ap (λ (m : List Bool). slice_index_or m k false) (sym (c.index-marks.ensures ∙ get_or_default marks c.in-Some.row c.index-marks.result.now [] below))

-- the least number without a mark is the one that is chosen for the key
chosen : (c : After-first_clear) → number_for c.self.inside.out.items c.args.key.now Private ≡ c.first_clear.result
chosen c =
    private_number (record { rows = c.self.inside.rows.entries.items; out = c.self.inside.out.items }) c.self.inside.marks.items c.args.key.now
    c.self.invariant.0 c.in-Some.row c.first_clear.result (sym c.in-Private.ensures) (sym c.row_near.ensures.at ∙ c.in-Some.is)
    (λ k below. mark_is c k ∙ c.first_clear.ensures.below k below) (mark_is c c.first_clear.result ∙ c.first_clear.ensures.clear)

pub overflow_cast-first_clear : goal.overflow_cast-first_clear
overflow_cast-first_clear c =
    let within = number_within c.self.inside.out.items c.args.key.now Private in
    let few = count_by-le-length is_some c.self.inside.out.items in
    let short = c.self.invariant.0.caches.short in
    let same = chosen c in
    Fits-of_lt (omega (arith, within, few, short, same))

pub returns-in-Private-clause-row : goal.returns-in-Private-clause-row
returns-in-Private-clause-row c =
    row_is (goal.at.returns-in-Private-clause-row c).In-Some c.found_in-in-Private.result.row c.found_in-in-Private.ensures.row

pub returns-in-Private-clause-held : goal.returns-in-Private-clause-held
returns-in-Private-clause-held c =
    let key = c.args.key.now in
    c.found_in-in-Private.ensures.held ∙ ap (λ m. is_locked m && is_held c.self.inside.out.items (place key 0)) c.in-Private.ensures
    ∙ ap (λ (v : CachesValue). is_locked key.mode && is_held v.out (place key 0)) c.self.view_is

pub returns-in-Private-clause-number : goal.returns-in-Private-clause-number
returns-in-Private-clause-number c =
    let key = c.args.key.now in
    c.found_in-in-Private.ensures.number ∙ sym (chosen (goal.at.returns-in-Private-clause-number c).After-first_clear)
    ∙ ap (number_for c.self.inside.out.items key) c.in-Private.ensures
    ∙ ap (λ (v : CachesValue). number_for v.out key key.mode) c.self.view_is

pub returns-in-Private-clause-tree : goal.returns-in-Private-clause-tree
returns-in-Private-clause-tree c =
    tree_is (goal.at.returns-in-Private-clause-tree c).In-Some _ c.first_clear.result c.found_in-in-Private.result.number
    c.found_in-in-Private.ensures.number c.found_in-in-Private.ensures.tree

-- ---- a locked key

pub returns-in-Locked-clause-row : goal.returns-in-Locked-clause-row
returns-in-Locked-clause-row c =
    row_is (goal.at.returns-in-Locked-clause-row c).In-Some c.found_in-in-Locked.result.row c.found_in-in-Locked.ensures.row

pub returns-in-Locked-clause-held : goal.returns-in-Locked-clause-held
returns-in-Locked-clause-held c =
    let key = c.args.key.now in
    let marks = c.self.inside.marks.items in
    let within = c.in-Some.ensures.within in
    let count = c.self.invariant.0.each in
    let below : c.in-Some.row < length marks = omega (arith, within, count) in
    c.found_in-in-Locked.ensures.held ∙ c.has.ensures
    ∙ ap (λ (m : List Bool). slice_index_or m 0 false) (c.index-marks.ensures ∙ get_or_default marks c.in-Some.row c.index-marks.result.now [] below)
    ∙ sym (locked_held (record { rows = c.self.inside.rows.entries.items; out = c.self.inside.out.items }) marks key c.self.invariant.0 c.in-Some.row
    (sym c.in-Locked.ensures) (sym c.row_near.ensures.at ∙ c.in-Some.is))
    ∙ ap (λ m. is_locked m && is_held c.self.inside.out.items (place key 0)) c.in-Locked.ensures
    ∙ ap (λ (v : CachesValue). is_locked key.mode && is_held v.out (place key 0)) c.self.view_is

pub returns-in-Locked-clause-number : goal.returns-in-Locked-clause-number
returns-in-Locked-clause-number c =
    let key = c.args.key.now in
    c.found_in-in-Locked.ensures.number ∙ ap (number_for c.self.inside.out.items key) c.in-Locked.ensures
    ∙ ap (λ (v : CachesValue). number_for v.out key key.mode) c.self.view_is

pub returns-in-Locked-clause-tree : goal.returns-in-Locked-clause-tree
returns-in-Locked-clause-tree c =
    tree_is (goal.at.returns-in-Locked-clause-tree c).In-Some _ 0 c.found_in-in-Locked.result.number c.found_in-in-Locked.ensures.number
    c.found_in-in-Locked.ensures.tree
