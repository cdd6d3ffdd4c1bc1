-- Streams by what they hold before and after a call.
use Rattle.std.specs.Prelude.{ℕ, List, Option}
use Rattle.llb_session.specs.Streams.{Stream}

-- a stream that held a and then holds b
abbrev pub between : Option (List ℕ) → Option (List ℕ) → Stream
between a b = record { before = a; after = b }
