-- What the streams of a call hold before and after the call, if that is known.
pub use Rattle.llb_session.specs.Streams.{Stream, IsKept, IsPartWritten, IsWritten}

-- the three streams of a call: its input, its output, and the stream for the lines of faults and failures
pub record Io : Type 0 where
  pub input : Stream
  pub output : Stream
  pub errors : Stream
