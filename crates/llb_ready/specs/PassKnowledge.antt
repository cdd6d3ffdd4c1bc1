-- What contracts know of a pass, and how each call changes what they know. A pass is the right to put and take numbers; it can be split into fractions.
use Rattle.std.specs.Prelude.{◌≡◌, ℕ, ◌+◌, ◌*◌, ◌<◌, List, [], ◌∷◌, ◌++◌}
use Rattle.llb_ready.specs.declared.pass_knowledge.Hand.{Hand}

-- A pass with the fraction num/den of the whole, with this room of its queue, and with the numbers that the pass has put and taken.
abbrev pub hand : ℕ → ℕ → ℕ → List ℕ → List ℕ → Hand
hand num den room put taken = record { num = num; den = den; room = room; put = put; taken = taken }

-- The fraction of a pass (its share of the right to put and to take numbers) is above zero; only such a pass may put and take.
abbrev pub HasPart : Hand → Type 0
HasPart v = (0 < v.num) × (0 < v.den)

-- A pass is the whole one if its fraction is 1.
abbrev pub HasAll : Hand → Type 0
HasAll v = v.num ≡ v.den

-- Two values of a pass, before and after a put or a take, have the same fraction.
abbrev pub SamePart : Hand → Hand → Type 0
SamePart old new = (new.num ≡ old.num) × (new.den ≡ old.den)

-- A queue begins with one pass, which is whole, and has put and taken nothing.
abbrev pub first_hand : ℕ → Hand
first_hand room = hand 1 1 room [] []

-- The pass after the room of its queue grows by one number, which happens only while the queue is made.
abbrev pub widened : Hand → Hand
widened v = hand v.num v.den (v.room + 1) v.put v.taken

-- A pass that has put x: x is now the last of the numbers that it has put.
abbrev pub with_put : Hand → ℕ → Hand
with_put v x = hand v.num v.den v.room (v.put ++ x ∷ []) v.taken

-- A pass that has taken x: x is now the last of the numbers that it has taken.
abbrev pub with_taken : Hand → ℕ → Hand
with_taken v x = hand v.num v.den v.room v.put (v.taken ++ x ∷ [])

-- A pass that is split keeps half of its fraction, and all numbers that it put and took.
abbrev pub halved : Hand → Hand
halved v = hand v.num (2 * v.den) v.room v.put v.taken

-- The second pass of a split has the other half of the fraction that the split pass had, and has put and taken nothing.
abbrev pub other_half : Hand → Hand
other_half v = hand v.num (2 * v.den) v.room [] []

-- Two passes joined to one: its fraction is the sum of theirs; its numbers put are the first's and then the second's, and so are its numbers taken.
abbrev pub together : Hand → Hand → Hand
together v w = hand (v.num * w.den + w.num * v.den) (v.den * w.den) v.room (v.put ++ w.put) (v.taken ++ w.taken)

-- What remains of a pass that was joined to another one: the fraction 0, and no numbers.
abbrev pub spent : Hand
spent = hand 0 1 0 [] []
