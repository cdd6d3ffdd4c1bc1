-- Read Progress first, what can be said of how a run gets on: which events are granted, how many can still come, and that every way of going on comes to an
-- end. Schedules says what the functions that run a board by any schedule do to it.
pub mod Progress
pub mod Schedules
