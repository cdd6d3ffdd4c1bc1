-- Read Laying (one tree laid over another).
pub mod Laying
