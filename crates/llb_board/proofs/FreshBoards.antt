-- A board on which nothing has happened.
use Rattle.std.proofs.Common.{◌≡◌, true≢false, ℕ, ◌<◌, ◌≤◌, List, [], length, refl, sym, ap, ◌∙◌, subst, arith}
use Rattle.std.specs.Prelude.{Some, None, Bool, true, false, ◌&&◌, nat_le, replicate, Result, Ok, Err, IfOk, IfErr, is_ok, if◌then◌else◌}
use Rattle.std.proofs.lemmas.Bool.{leb-true}
use Rattle.std.proofs.lemmas.List.{length-replicate}
use Rattle.llb_cache.specs.Caches.{CachesValue, Row}
use Rattle.llb_wire.specs.CallResults.{MemoryLast}
use Rattle.llb_model.specs.Program.{Build}
use Rattle.llb_model.specs.State as model
use Rattle.llb_events.specs.declared.event.Event.{Event}
use Rattle.llb_model.specs.EventBounds.{most_events}
use Rattle.llb_model.specs.Run.{run}
use Rattle.llb_model.proofs.RecordRoomBalance.{IsRoomy, opening_roomy}
use Rattle.llb_model.proofs.Cancels.{counts_open}
use Rattle.llb_board.specs.RunningWorkerSupplies.{supplies_for, needed}
use Rattle.llb_board.specs.Vertices.{VerticesValue, all_waiting}
use Rattle.llb_board.specs.Workers.{WorkersValue}
use Rattle.llb_board.specs.BoardValue.{BoardValue, opening_with, opened, seen}
use Rattle.llb_board.specs.BoardInvariant.{IsBoard}
use Rattle.llb_board.specs.History.{Space}
use Rattle.llb_board.specs.Opening.{may_work, open_with, open_memory, GivesOpen, returned}
use Rattle.llb_board.specs.declared.fault.OpenFault.{OpenFault}
use Rattle.llb_board.specs.declared.fault.OpenFault.TheVariants as opening
use Rattle.llb_model.proofs.Lists.{map_replicate}

-- n idle workers on these lists of instances
abbrev pub idle_on : ℕ → List Row → WorkersValue
idle_on n rows = record { workers = replicate n model.Idle; rows = rows; supplies = replicate n (supplies_for None) }

opened_leads : (b : Build) (s : model.State) → run b s [] ≡ Some (s, [])
unfolding run
opened_leads b s = refl

both : (a b : Bool) → (a && b) ≡ true → (a ≡ true) × (b ≡ true)
both true true is = (refl, refl)
both true false is = absurd (cc)
both false b is = absurd (cc)

-- an allowed number of workers is at least 1
pub some_work : (n : ℕ) → may_work n ≡ true → 0 < n
some_work n is = let some : 1 ≤ n = leb-true 1 n (both (nat_le 1 n) (nat_le n 64) is).0 in omega arith

-- a number of workers that is allowed is at most 64
pub few_work : (n : ℕ) → may_work n ≡ true → n ≤ 64
few_work n is = leb-true n 64 (both (nat_le 1 n) (nat_le n 64) is).1

-- where all vertices wait, all workers are idle and no event is recorded, a board is seen as one that was just opened
pub seen_open : (vs : VerticesValue) (first : List Row) (ws : WorkersValue) (es : List Event) (n : ℕ) (rows : List Row) → vs ≡ all_waiting vs.build
    → ws ≡ idle_on n rows → es ≡ [] → first ≡ rows
    → seen vs first ws es ≡ opened vs.build n rows
seen_open vs first ws es n rows v w e f =
    (λ i. seen (v i) (f i) (w i) (e i))
    ∙ (λ i. record (opened vs.build n rows) { opening = opening_with (length-replicate n model.Idle i) rows })

kept_fresh : (b : Build) (n : ℕ) (rows : List Row) (space : Space) → space.room ≡ most_events b [] → space.cancels ≡ replicate (length b.graph.vertices) 0
    → IsBoard (opened b n rows) (idle_on n rows) space
kept_fresh b n rows space room cancels = record {
  replays = record { replies = []; leads = opened_leads b (model.opening b (opening_with n rows)); keeps = refl };
  room = subst (IsRoomy b (model.opening b (opening_with n rows)) []) (sym room) (opening_roomy b (opening_with n rows));
  counted = cancels ∙ sym (counts_open b.graph.vertices 0);
  fits = sym (map_replicate (needed b) n model.Idle);
}

-- a board that was just opened has its type's invariant
pub kept_open : (vs : VerticesValue) (first : List Row) (ws : WorkersValue) (es : List Event) (n : ℕ) (rows : List Row) (space : Space)
    → vs ≡ all_waiting vs.build
    → ws ≡ idle_on n rows → es ≡ [] → first ≡ rows → space.room ≡ most_events vs.build [] → space.cancels ≡ replicate (length vs.build.graph.vertices) 0
    → IsBoard (seen vs first ws es) ws space
kept_open vs first ws es n rows space v w e f room cancels =
    subst (λ (us : WorkersValue). IsBoard (seen vs first ws es) us space) (sym w)
    (subst (λ (s : BoardValue). IsBoard s (idle_on n rows) space) (sym (seen_open vs first ws es n rows v w e f))
    (kept_fresh vs.build n rows space room cancels))

-- ---- what an opening returns

if_open : Build → CachesValue → ℕ → Bool → Result BoardValue OpenFault
if_open b c n may = if may then Ok (opened b n c.rows) else Err (opening.Workers b.graph b.locals c)

-- with an allowed number of workers, an opening returns the board, or memory was refused
pub opens : (b : Build) (c : CachesValue) (n : ℕ) (vs : VerticesValue) (r : Result BoardValue OpenFault) → may_work n ≡ true → vs.build ≡ b
    → IfOk r (λ s. s ≡ opened vs.build n c.rows) → IfErr r (λ e. e ≡ opening.Memory vs.build.graph vs.build.locals c)
    → GivesOpen (λ s. s) r (open_with b c n)
unfolding if_open
opens b c n vs (Ok s) may same ok err = ap (if_open b c n) may ∙ ap (λ (x : BoardValue). Ok x) (ap (λ (d : Build). opened d n c.rows) (sym same) ∙ sym ok)
opens b c n vs (Err e) may same ok err = λ known. absurd (true≢false (sym (ap open_memory err) ∙ known))

pub open_last : (b : Build) (c : CachesValue) (n : ℕ) (r : Result BoardValue OpenFault) → may_work n ≡ true → MemoryLast open_memory r (open_with b c n)
unfolding if_open
open_last b c n (Ok s) may = tt
open_last b c n (Err e) may = λ memory. ap (λ f. is_ok (if_open b c n f)) may

pub open_back : (b : Build) (c : CachesValue) (vs : VerticesValue) (r : Result BoardValue OpenFault) → vs.build ≡ b
    → IfErr r (λ e. e ≡ opening.Memory vs.build.graph vs.build.locals c) → IfErr r (λ e. returned e ≡ (b, c))
open_back b c vs (Ok s) same err = tt
open_back b c vs (Err e) same err = ap returned err ∙ (λ i. (same i, c))
