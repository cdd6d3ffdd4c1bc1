use Rattle.std.proofs.Common.{◌≡◌, ◌<◌, List, [], ◌∷◌, Bool, Some, true, false, cond, length, length-append, position, slice_get, slice_index_or, slice_set}
use Rattle.std.proofs.Common.{sym, ap, ◌∙◌, arith}
use Rattle.std.specs.Prelude.{◌==◌, is_some}
use Rattle.std.specs.Map.{keys_of, values_of, lookup}
use Rattle.std.proofs.lemmas.List.{get_or_default}
use Rattle.llb_tree.specs.Tree.{TreeMap}
use Rattle.llb_cache.specs.declared.key.Key.{Key}
use Rattle.llb_cache.specs.Key.{same_key}
use Rattle.llb_cache.proofs.TreesOfKeys.{instance_made, instance_there}
use Rattle.llb_cache.specs.declared.lease_needs.Instance.{Instance}
use Rattle.llb_cache.specs.Caches.{Row, same_place, with_trees}
use Rattle.llb_cache.specs.FirstRowOfKey.{set_trees}
use Rattle.llb_cache.proofs.FirstRowOfKey.{absent_found, written_absent}
use Rattle.llb_cache.specs.InstanceMarks.{marked}
use Rattle.llb_cache.proofs.MarksByRow.{remarked, marked_new, keys_stay, Sets}
use Rattle.llb_cache.proofs.RowInsertion.{ordered_again}
use Rattle.llb_cache.proofs.RowTreeWrites.{trees_read, row_written}
use Rattle.llb_cache.proofs.taken_instances.make.Goals as goal
use Rattle.llb_cache.proofs.taken_instances.make.Goals.{After-len}

-- the rows and the marks before
abbrev rows : After-len → List Row
rows c = c.args.rows.now.entries.items

abbrev marks : After-len → List (List Bool)
marks c = c.args.marks.now.items

-- the row of the key
at : (c : After-len) → position (same_key c.args.ready.place.key) (keys_of (rows c)) ≡ Some c.in-Some.i
at c = ap (λ (k : Key). position (same_key k) (keys_of (rows c))) (sym c.by_ref.ensures) ∙ sym c.row_near.ensures.at ∙ c.in-Some.is

below : (c : After-len) → c.in-Some.i < length (marks c)
below c = let within = c.in-Some.ensures.within in let count = c.requires.each in omega (arith, within, count)

sets : (c : After-len) → Sets (slice_index_or (marks c) c.in-Some.i []) c.set.new.self c.args.ready.place.number true
sets c k =
    c.set.ensures k ∙ ap (λ (m : List Bool). cond (k == c.args.ready.place.number) true (slice_index_or m k false))
    (c.index_mut.ensures.value ∙ get_or_default (marks c) c.in-Some.i c.index_mut.result.now [] (below c))

-- its trees, and the rows after others are written into it
read : (c : After-len) → slice_get (values_of (rows c)) c.in-Some.i ≡ Some c.index_mut-in-Some.result.now.1
read c = trees_read (rows c) c.in-Some.i c.index_mut-in-Some.result.now c.in-Some.ensures.within c.index_mut-in-Some.ensures.value

written : (c : After-len) (w : List TreeMap)
    → slice_set (rows c) c.in-Some.i (c.index_mut-in-Some.result.now.0, w) ≡ set_trees (rows c) c.in-Some.i w
written c w = row_written (rows c) c.in-Some.i c.index_mut-in-Some.result.now w c.in-Some.ensures.within c.index_mut-in-Some.ensures.value

keys : (c : After-len) (w : List TreeMap) → keys_of (slice_set (rows c) c.in-Some.i (c.index_mut-in-Some.result.now.0, w)) ≡ keys_of (rows c)
keys c w = ap (λ (es : List Row). keys_of es) (written c w) ∙ keys_stay (rows c) c.in-Some.i w

marked_there : (c : After-len) (w : List TreeMap) (q : Instance)
    → marked (keys_of (slice_set (rows c) c.in-Some.i (c.index_mut-in-Some.result.now.0, w))) (slice_set (marks c) c.in-Some.i c.set.new.self) q
    ≡ cond (same_place q c.args.ready.place) true (marked (keys_of (rows c)) (marks c) q)
marked_there c w q =
    ap (λ (ks : List Key). marked ks (slice_set (marks c) c.in-Some.i c.set.new.self) q) (keys c w)
    ∙ remarked (rows c) (marks c) c.args.ready.place c.in-Some.i c.set.new.self true (at c) (below c) (sets c) q

pub returns-then-number-len-clause-rows : goal.returns-then-number-len-clause-rows
returns-then-number-len-clause-rows c =
    let s = (goal.at.returns-then-number-len-clause-rows c).After-len in
    written s c.push_into.new.self
    ∙ instance_made (rows s) c.args.ready.place c.args.ready.tree c.in-Some.i c.index_mut-in-Some.result.now.1 c.push_into.new.self (at s) (read s)
    (omega (arith, c.len.ensures, c.if-number-len.true)) c.push_into.ensures

pub returns-then-number-len-clause-order : goal.returns-then-number-len-clause-order
returns-then-number-len-clause-order c =
    ordered_again _ _ _ (keys (goal.at.returns-then-number-len-clause-order c).After-len c.push_into.new.self) c.requires.order

pub returns-then-number-len-clause-marks : goal.returns-then-number-len-clause-marks
returns-then-number-len-clause-marks c q = marked_there (goal.at.returns-then-number-len-clause-marks c).After-len c.push_into.new.self q

pub returns-else-number-len-clause-rows : goal.returns-else-number-len-clause-rows
returns-else-number-len-clause-rows c =
    let s = (goal.at.returns-else-number-len-clause-rows c).After-len in
    written s c.index_mut-in-Some.result.now.1
    ∙ instance_there (rows s) c.args.ready.place c.args.ready.tree c.in-Some.i c.index_mut-in-Some.result.now.1 (at s) (read s)
    (omega (arith, c.len.ensures, c.if-number-len.false))

pub returns-else-number-len-clause-marks : goal.returns-else-number-len-clause-marks
returns-else-number-len-clause-marks c q =
    marked_there (goal.at.returns-else-number-len-clause-marks c).After-len c.index_mut-in-Some.result.now.1 q

pub returns-in-None-clause-marks : goal.returns-in-None-clause-marks
returns-in-None-clause-marks c q =
    let es = c.args.rows.now.entries.items in
    let key = c.args.ready.place.key in
    let ts = c.push_into-in-None.new.self in
    ap (λ (rows : List Row). marked (keys_of rows) c.push_reserved.new.self.items q) c.add_row.ensures.rows
    ∙ ap (λ (ms : List (List Bool)). marked (keys_of (with_trees es key ts)) ms q) c.push_reserved.ensures.items
    ∙ marked_new es c.args.marks.now.items c.args.ready.place ts c.set-in-None.new.self
    (c.in-None.ensures.found ∙ ap (λ (k : Key). is_some (lookup (same_key k) es)) c.by_ref.ensures) c.requires.each
    (λ k. c.set-in-None.ensures k ∙ ap (λ (m : List Bool). cond (k == c.args.ready.place.number) true (slice_index_or m k false)) c.new-first.ensures) q

pub returns-in-None-clause-each : goal.returns-in-None-clause-each
returns-in-None-clause-each c =
    let es = c.args.rows.now.entries.items in
    let key = c.args.ready.place.key in
    let ts = c.push_into-in-None.new.self in
    let none = absent_found key es (sym (c.in-None.ensures.found ∙ ap (λ (k : Key). is_some (lookup (same_key k) es)) c.by_ref.ensures)) in
    let marks = ap (λ (ms : List (List Bool)). length ms) c.push_reserved.ensures.items in
    let rows = ap (λ (rows : List Row). length rows) (c.add_row.ensures.rows ∙ written_absent key es ts none) in
    let more = length-append c.args.marks.now.items (c.set-in-None.new.self ∷ []) in
    let longer = length-append es ((key, ts) ∷ []) in
    let each = c.requires.each in
    omega (arith, marks, rows, more, longer, each)
