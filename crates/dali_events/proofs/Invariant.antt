-- What every event keeps: the invariant of every run, its clauses one by one and all together, and the laws that follow from it.
pub mod Growing
pub mod Takes
pub mod Starting
pub mod Drawn
pub mod Controllers
pub mod Answers
pub mod Known
pub mod Sending
pub mod Gifts
pub mod Arrived
pub mod Safe
pub mod Agreeing
pub mod Keeping
