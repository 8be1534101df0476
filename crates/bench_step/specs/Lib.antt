-- Definitions that the contracts of bench_step cite.
pub mod Bounds
