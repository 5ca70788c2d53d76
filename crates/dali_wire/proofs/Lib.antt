pub mod Values
mod Spans
mod Sound
mod ReadBack
pub mod EachTime
mod OneFrame
mod Asking
mod Joint
pub mod Sending
mod Worked
mod Heard
mod Rests
mod Echoes
