pub mod Tables
pub mod Salt
pub mod Judged
pub mod Anew
pub mod Hosts
