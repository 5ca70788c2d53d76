pub mod Accepting
pub mod Asking
pub mod Cut
pub mod Due
pub mod Finishing
pub mod Replacing
pub mod Tellings
pub mod Ruled
