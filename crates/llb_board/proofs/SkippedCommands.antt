-- A command that is skipped: the execution counts it, its reply says so, and the lists of instances stay.
use Rattle.std.proofs.Common.{◌≡◌, ℕ, ◌+◌, ◌<◌, Bool, true, false, not, cond, List, [], ◌∷◌, length, Option, Some, None, unwrap_or, inl, inr, refl}
use Rattle.std.proofs.Common.{sym, ap, subst, ◌∙◌, arith}
use Rattle.std.specs.Prelude.{Ok, slice_get, slice_set}
use Rattle.std.specs.Map.{lookup}
use Rattle.std.proofs.lemmas.Bool.{false≢true}
use Rattle.llb_cache.specs.Key.{same_key}
use Rattle.llb_cache.specs.declared.key.Key.{Key}
use Rattle.llb_cache.specs.Caches as cache
use Rattle.llb_cache.specs.Caches.{Row, trees_of}
use Rattle.llb_tree.specs.Tree.{TreeMap, empty_tree}
use Rattle.llb_events.specs.declared.event.Stepped.TheVariants as did
use Rattle.llb_model.specs.Table.{HasStepped}
use Rattle.llb_events.specs.declared.fault.VertexFault.{VertexFault}
use Rattle.llb_model.specs.Caches.{Instance, Has, content, trees_at}
use Rattle.llb_model.specs.TwoCacheModels.{store_of, put_each}
use Rattle.llb_model.specs.Program.{MicroStep, ReadLocal, Act, LayInput, Run, Workspace, Left, last_of, is_run}
use Rattle.llb_model.specs.State.{Execution}
use Rattle.llb_model.specs.Table as table
use Rattle.llb_model.proofs.TwoModelsContents.{shows_instances}
use Rattle.llb_model.proofs.Lists.{get_within}
use Rattle.llb_execution.specs.ModelValues.{left_with, is_skipped}
use Rattle.llb_execution.proofs.MicroStepResults.{skip_leaves}
use Rattle.llb_board.specs.WorkerRules.{Worked, worked, worked_to}
use Rattle.llb_board.proofs.Lists.{set_same}
use Rattle.llb_board.proofs.UnfaultedMicroSteps.{goes_to}

-- ---- the lists of instances

-- the trees of a key that is there, written again, leave the rows
kept_rows : (rows : List Row) (k : Key) → 0 < length (trees_of rows k) → cache.with_trees rows k (trees_of rows k) ≡ rows
kept_rows [] k some = absurd (omega (arith, some))
kept_rows (r ∷ rows) k some = go (same_key k r.0) refl (kept_rows rows k)
  where
    own : Bool → List TreeMap
    own b = unwrap_or (cond b (Some r.1) (lookup (same_key k) rows)) []

    go : (b : Bool) → same_key k r.0 ≡ b → (0 < length (trees_of rows k) → cache.with_trees rows k (trees_of rows k) ≡ rows)
        → cache.with_trees (r ∷ rows) k (trees_of (r ∷ rows) k) ≡ r ∷ rows
    go true is rest = ap (λ (b : Bool). cond b ((r.0, own b) ∷ rows) (r ∷ cache.with_trees rows k (own b))) is
    go false is rest =
        ap (λ (b : Bool). cond b ((r.0, own b) ∷ rows) (r ∷ cache.with_trees rows k (own b))) is
        ∙ ap (λ (rs : List Row). r ∷ rs) (rest (subst (λ (b : Bool). 0 < length (own b)) is some))

put_same : (rows : List Row) (p : Instance) → p.number < length (trees_of rows p.key)
    → cache.put rows p (unwrap_or (content (store_of rows) p) empty_tree) ≡ rows
put_same rows p within =
    let t = get_within (trees_of rows p.key) p.number within in
    let there : unwrap_or (content (store_of rows) p) empty_tree ≡ t.0 = ap (λ o. unwrap_or o empty_tree) (shows_instances rows p ∙ t.1) in
    ap (λ x. cache.with_trees rows p.key (slice_set (trees_of rows p.key) p.number x)) there
    ∙ ap (cache.with_trees rows p.key) (set_same (trees_of rows p.key) p.number t.0 t.1)
    ∙ kept_rows rows p.key (omega (arith, within))

-- the trees of instances that are there, written again, leave the rows
pub put_each_same : (rows : List Row) (ps : List Instance) → ((p : Instance) → Has ps p → p.number < length (trees_of rows p.key))
    → put_each rows ps (trees_at (store_of rows) ps) ≡ rows
put_each_same rows [] within = refl
put_each_same rows (p ∷ ps) within =
    ap (λ (r : List Row). put_each r ps (trees_at (store_of rows) ps)) (put_same rows p (within p (inl refl)))
    ∙ put_each_same rows ps (λ q h. within q (inr h))

-- ---- replies

not_true : (b : Bool) → not b ≡ true → b ≡ false
not_true true e = absurd (false≢true e)
not_true false e = refl

-- the reply to a micro-step that is skipped says that it is skipped
pub skip_reply : (k : ℕ) (m : MicroStep) (before : Workspace) (left : Left) → is_skipped m before ≡ true
    → HasStepped (did.Skipped k) ≡ table.step_reply k m before left
skip_reply k ReadLocal before left skips = absurd (false≢true skips)
skip_reply k (Act action) before left skips = absurd (false≢true skips)
skip_reply k (LayInput i) before left skips = absurd (false≢true skips)
skip_reply k (Run s c ends) before left skips =
    sym (ap (λ b. HasStepped (cond b (did.Ran k (last_of left.work.own)) (did.Skipped k))) (not_true (is_run c.join (last_of before)) skips))

-- ---- the execution

-- a command that is skipped is counted, and that is all
pub skip_to : (steps : List MicroStep) (x : Execution) (trees : List TreeMap) (m : MicroStep) → x.fault ≡ None → slice_get steps x.done ≡ Some m
    → is_skipped m x.own ≡ true
    → worked steps x trees ≡ Ok (record { execution = record x { done = x.done + 1 }; trees = trees; reply = HasStepped (did.Skipped x.done) })
skip_to steps x trees m clean at skips =
    goes_to steps x trees m clean at
    ∙ ap (λ (left : Left). Ok (worked_to x m left)) (sym (skip_leaves x.done m x.own trees skips))
    ∙ (λ i. Ok (with_reply (sym clean i) (sym (skip_reply x.done m x.own (left_with x.own trees None) skips) i)))
  where
    with_reply : Option VertexFault → table.Reply → Worked
    with_reply f r = record { execution = record x { done = x.done + 1; fault = f }; trees = trees; reply = r }
