-- Read first HandleCalls (what each call does, in terms of the definition of the program's command), then Handle (what a handle holds before and after a call),
-- BufferCopies (what a copy leaves in a buffer) and KeptPointer (what the handle's pointer owns).
pub mod KeptPointer
pub mod Handle
pub mod BufferCopies
pub mod HandleCalls
