use Rattle.std.specs.Prelude.{◌≡◌, ℕ, ◌<◌, ◌≤◌, List, length, map, false, Some, None}
use Rattle.std.specs.Prelude.{slice_index_or, if◌then◌else◌}
use Rattle.std.specs.List.{range_with_len}
use Rattle.dali_frame.specs.Random.{value_of}
use Rattle.dali_special.specs.declared.command.Command.TheVariants.{Terminate}
use Rattle.dali_gear.specs.declared.state.InitialisationState.TheVariants.{Disabled}
use Rattle.dali_gear.specs.declared.row.Row.TheInside.{Inside}
use Rattle.dali_gear.specs.Gear.{Gear, fresh, search_mask}

-- Inside a row each variable of all gear stands in a list of its own, by the numbers of the gear.
abbrev pub gear_in : Inside → ℕ → Gear
gear_in r k = record {
  powered = slice_index_or r.powered k false;
  state = slice_index_or r.state k Disabled;
  random = value_of (slice_index_or r.random k search_mask);
  search = slice_index_or r.search k search_mask;
  short = slice_index_or r.short k None;
  half =
      if slice_index_or r.paired k false
      then Some (slice_index_or r.first k Terminate)
      else None;
}

abbrev pub all_gear : Inside → List Gear
all_gear r = map (gear_in r) (range_with_len 0 r.count)

pub record IsRow (r : Inside) : Type 0 where
  pub few : r.count ≤ 128
  pub random : length r.random ≡ 128
  pub search : length r.search ≡ 128
  pub unpaired : r.some_paired ≡ false → (k : ℕ) → k < r.count
      → slice_index_or r.paired k false ≡ false

-- no gear has a half pair
abbrev pub IsUnpaired : List Gear → Type 0
IsUnpaired gs = (k : ℕ) → (slice_index_or gs k fresh).half ≡ None
