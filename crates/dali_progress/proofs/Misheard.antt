-- One gear whose answers are misheard blocks no other: a survey in which QUERY SHORT ADDRESS of one gear is heard as it likes.
pub mod Gear
pub mod Climbing
pub mod Stands
pub mod Sent
pub mod Visited
pub mod Known
pub mod Begins
pub mod Turns
pub mod Visits
pub mod Goes
