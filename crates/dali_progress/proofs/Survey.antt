-- A whole survey of one controller that is alone on a bus which nothing disturbs: its frames, that it ends, and what its end says.
pub mod Drawn
pub mod Queried
pub mod Woken
pub mod Stands
pub mod Rising
pub mod Begins
pub mod Sent
pub mod Turns
pub mod Hunting
pub mod Visits
pub mod Goes
pub mod Again
pub mod Vacant
pub mod Numbers
