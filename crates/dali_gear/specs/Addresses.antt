use Rattle.std.specs.Prelude.{ℕ, List, map, slice_index}
use Rattle.std.specs.List.{range_with_len}
use Rattle.dali_frame.specs.declared.numbers.SearchAddress.{SearchAddress}
use Rattle.dali_gear.specs.declared.addresses.Addresses.TheInside.{Inside}

-- Inside the addresses of a row each byte of all of them stands in a list of its own.
abbrev pub address_in : Inside → ℕ → SearchAddress
address_in a k = record {
  high = slice_index a.high k;
  middle = slice_index a.middle k;
  low = slice_index a.low k;
}

abbrev pub all_addresses : Inside → List SearchAddress
all_addresses a = map (address_in a) (range_with_len 0 128)
