-- That a start of one controller that is alone on a bus which nothing disturbs ends: its frames, and what its end says.
pub mod Turns
pub mod Goes
pub mod Numbers
