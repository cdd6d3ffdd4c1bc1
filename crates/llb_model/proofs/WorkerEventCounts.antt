-- How many events of a record are a worker's.
use Rattle.std.proofs.Common.{◌≡◌, ℕ, ◌+◌, ◌==◌, List, [], ◌∷◌, ◌++◌, cond, ◌∙◌, arith}
use Rattle.std.proofs.lemmas.List.Sums.{sum_by-append, sum_by-cons}
use Rattle.llb_events.specs.declared.event.Event.{Event}
use Rattle.llb_model.specs.Table.{worker_of}
use Rattle.llb_model.specs.Run.{events_by}

pub made_append : (w : ℕ) (es fs : List Event) → events_by w (es ++ fs) ≡ events_by w es + events_by w fs
made_append w es fs = sum_by-append (λ e. cond (worker_of e == w) 1 0) es fs

pub made_one : (w : ℕ) (e : Event) → events_by w (e ∷ []) ≡ cond (worker_of e == w) 1 0
made_one w e = sum_by-cons (λ e. cond (worker_of e == w) 1 0) e [] ∙ omega arith
