use Rattle.std.specs.Prelude.{◌≡◌, ℕ, Bool, List, map, Some}
use Rattle.dali_c.specs.Codes.{bool_of}

-- THE LEVELS OF A FRAME, half bit by half bit: 1 while the bus is low
abbrev pub AreLevels : List ℕ → List Bool → Type 0
AreLevels codes levels = map (λ c. bool_of c) codes ≡ map (λ low. Some low) levels
