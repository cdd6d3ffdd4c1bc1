-- What workers are supplied with before their threads start.
use Rattle.std.specs.Prelude.{◌≡◌, ℕ, ◌≤◌, List, Bool, false, vec_len, vec_capacity, unwrap_or, slice_get}
use Rattle.llb_model.specs.Program.{Build}
use Rattle.llb_model.specs.Outcome.{is_plain}
use Rattle.llb_work.specs.declared.starting_supplies.Supply.{Supply}
use Rattle.llb_work.specs.WorkerPasses.{IsUncut}

-- `marks` is true for exactly the vertices with no cache mount at or before them
abbrev pub ArePlain : Build → List Bool → Type 0
ArePlain b marks = (v : ℕ) → unwrap_or (slice_get marks v) false ≡ is_plain b v

module _ {L : Type 0} where
  -- what n workers need: the queue's pass (no part is given away yet); n lists; room for n threads; for each vertex whether no cache mount is at or before it
  pub record IsSupplyFor (b : Build) (n : ℕ) (s : Supply L) : Type 0 where
    pub pass : IsUncut s.queue s.pass
    pub lists : vec_len s.lists ≡ n
    pub no_threads : vec_len s.threads ≡ 0
    pub threads : n ≤ vec_capacity s.threads
    pub plain : ArePlain b s.plain.items
