-- Short histories, proved by computing: what the rules give, a whole run, and what is lost where a premise or a rule is missing.
pub mod Tested
pub mod Openings
pub mod Examples
pub mod Commissioned
pub mod Premises
pub mod OpeningAlone
pub mod LapseForgotten
pub mod ToldAsDamaged
pub mod GiftReleased
pub mod PassedOver
pub mod UsedGear
