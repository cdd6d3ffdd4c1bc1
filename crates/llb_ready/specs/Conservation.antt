-- Conservation: how often each number was put is how often it was taken plus how often it is still in the queue.
use Rattle.std.specs.Prelude.{◌≡◌, ℕ, ◌+◌, ◌<◌, ◌≤◌, ◌==◌, List, length, count_by}
use Rattle.llb_ready.specs.declared.pass_knowledge.Hand.{Hand}
use Rattle.llb_ready.specs.PassKnowledge.{HasAll, with_put, with_taken}

-- How often a number occurs in a list.
abbrev pub times : ℕ → List ℕ → ℕ
times x xs = count_by (λ y. y == x) xs

-- For each number, the count of its puts is the count of its takes plus how often it is in the queue. For all numbers together, the same equation holds.
pub record IsConserved (v : Hand) (present : List ℕ) : Type 0 where
  pub each : (x : ℕ) → times x v.put ≡ times x v.taken + times x present
  pub all : length v.put ≡ length v.taken + length present

-- If the pass is the whole one, `IsConserved` holds of the pass and the numbers in the queue, and the queue holds no more numbers than it has room for.
abbrev pub Knows : Hand → List ℕ → Type 0
Knows v present = HasAll v → IsConserved v present × (length present ≤ v.room)

-- The whole pass shows that the queue has room: the count of puts is less than the count of takes plus the room of the queue.
abbrev pub HasRoom : Hand → Type 0
HasRoom v = length v.put < length v.taken + v.room

-- The whole pass shows that the queue is full: the count of puts is the count of takes plus the room of the queue.
abbrev pub HasNoRoom : Hand → Type 0
HasNoRoom v = length v.put ≡ length v.taken + v.room

-- The whole pass shows that the queue is empty: each number was taken as often as it was put.
abbrev pub HasTakenAll : Hand → Type 0
HasTakenAll v = (length v.taken ≡ length v.put) × ((x : ℕ) → times x v.taken ≡ times x v.put)

-- The whole pass shows that number x is in the queue: x was put more often than it was taken.
abbrev pub HasLeft : Hand → ℕ → Type 0
HasLeft v x = times x v.taken < times x v.put

-- After a put: the pass has put one more number, x; if the pass is the whole one, the queue had room for x.
abbrev pub GainsPut : Hand → ℕ → Hand → Type 0
GainsPut v x w = (w ≡ with_put v x) × (HasAll v → HasRoom v)

-- After a take: the pass has taken one more number, x; if the pass is the whole one, x was in the queue.
abbrev pub GainsTaken : Hand → ℕ → Hand → Type 0
GainsTaken v x w = (w ≡ with_taken v x) × (HasAll v → HasLeft v x)
