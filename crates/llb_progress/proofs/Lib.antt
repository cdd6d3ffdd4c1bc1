mod Lists
mod GrantedProgress
mod BoundedRuns
mod Schedules
