-- Definitions that the contracts of bench_grid cite.
pub mod Bounds
