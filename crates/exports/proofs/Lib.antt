pub mod FlagLaws
pub mod Numbers
pub mod Settled
