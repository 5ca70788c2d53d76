use Rattle.std.specs.Prelude.{◌≡◌, ◌≢◌, ℕ, ◌<◌, Bool, true, not, ◌==◌, ◌&&◌}
use Rattle.std.specs.Prelude.{List, length, None, is_some, slice_index_or}
use Rattle.std.specs.List.{list_any}
use Rattle.dali_frame.specs.declared.numbers.SearchAddress.{SearchAddress}
use Rattle.dali_frame.specs.Random.{MASK24}
use Rattle.dali_gear.specs.declared.state.InitialisationState.TheVariants.{Enabled}
use Rattle.dali_gear.specs.Gear.{Gear, fresh, is_enabled, is_active}
use Rattle.dali_events.specs.Searching.{HasShort}

-- WHAT GEAR A SEARCH IS TO FIND, and what the search stands on. How many gear of a list pass a test
-- is `count_by`.

-- gear k of a list
abbrev pub gear_of : List Gear → ℕ → Gear
gear_of gs k = slice_index_or gs k fresh

-- a gear that a search is to find: it has power, and is ENABLED
abbrev pub is_wanted : Gear → Bool
is_wanted g = g.powered && is_enabled g.state

-- some gear that is wanted has this random address
abbrev pub wants : List Gear → ℕ → Bool
wants gs n = list_any (λ g. is_wanted g && (g.random == n)) gs

-- a gear with power and without short address
abbrev pub is_bare : Gear → Bool
is_bare g = g.powered && not (is_some g.short)

-- P holds of each gear of a list that has power
abbrev pub OfPowered : List Gear → (Gear → Type 0) → Type 0
OfPowered gs P = (k : ℕ) → k < length gs → (gear_of gs k).powered ≡ true → P (gear_of gs k)

-- all gear with power that are not DISABLED seek this search address
abbrev pub Seek : List Gear → SearchAddress → Type 0
Seek gs r = OfPowered gs (λ g. is_active g.state ≡ true → g.search ≡ r)

-- no two gear with power that are not DISABLED have one random address
abbrev pub AreApart : List Gear → Type 0
AreApart gs =
    (j k : ℕ) → j < length gs → k < length gs → (gear_of gs j).powered ≡ true
    → (gear_of gs k).powered ≡ true → is_active (gear_of gs j).state ≡ true
    → is_active (gear_of gs k).state ≡ true → (gear_of gs j).random ≡ (gear_of gs k).random
    → j ≡ k

-- AFTER AN OPENING, of the gear with power: one without short address is ENABLED, and one that is
-- not DISABLED has drawn its random address.
pub record IsOpened (gs : List Gear) : Type 0 where
  pub bare : OfPowered gs (λ g. g.short ≡ None → g.state ≡ Enabled)
  pub drawn : OfPowered gs (λ g. is_active g.state ≡ true → g.random < MASK24)

-- no gear with power that is ENABLED has a short address
abbrev pub NoneNamed : List Gear → Type 0
NoneNamed gs = OfPowered gs (λ g. g.state ≡ Enabled → g.short ≡ None)

-- none but one with this random address, perhaps
abbrev pub NoneNamedBut : List Gear → ℕ → Type 0
NoneNamedBut gs n = OfPowered gs (λ g. g.state ≡ Enabled → g.random ≢ n → g.short ≡ None)

-- each gear with power that is ENABLED and has this random address has a short address
abbrev pub AreNamed : List Gear → ℕ → Type 0
AreNamed gs n = OfPowered gs (λ g. g.state ≡ Enabled → g.random ≡ n → HasShort g)
