pub mod Limiter
