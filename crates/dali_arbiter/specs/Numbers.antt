use Rattle.std.specs.Prelude.{ℕ}
use Rattle.dali_arbiter.specs.declared.error.OfferError.{OfferError}
use Rattle.dali_arbiter.specs.declared.error.OfferError.TheVariants as offer_error

abbrev pub number_of_offer : OfferError → ℕ
number_of_offer offer_error.QueueFull = 1
number_of_offer offer_error.NotOwner = 2
