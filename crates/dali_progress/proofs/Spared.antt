-- Controllers that survey, and hear the used gear, reserve none of their addresses.
pub mod Bytes
pub mod Counted
pub mod Lives
pub mod Calls
pub mod Peace
pub mod Alone
