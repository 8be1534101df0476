pub mod LimiterLaws
