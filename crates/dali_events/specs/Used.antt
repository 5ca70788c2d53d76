use Rattle.std.specs.Prelude.{ℕ, List, [], ◌∷◌, map, slice_set}
use Rattle.dali_gear.specs.Gear.{Gear, addressed}
use Rattle.dali_events.specs.declared.used.Used.{Used}
use Rattle.dali_events.specs.declared.used.Mark.{Mark}
use Rattle.dali_events.specs.declared.used.Mark.TheVariants as mark

-- USED GEAR: luminaires that had their short addresses before any of the controllers began, as on a
-- site that was addressed before. Each comes with its short address, and with the random address
-- that it drew when it got it.

abbrev pub used_gear : List Used → List ℕ
used_gear us = map (λ u. u.gear) us

abbrev pub used_shorts : List Used → List ℕ
used_shorts us = map (λ u. u.short) us

abbrev pub used_randoms : List Used → List ℕ
used_randoms us = map (λ u. u.random) us

abbrev pub gear_of_used : Used → Gear
gear_of_used u = addressed u.random u.short

-- what tells used gear apart
abbrev pub mark_of : Mark → Used → ℕ
mark_of mark.Gear u = u.gear
mark_of mark.Short u = u.short
mark_of mark.Random u = u.random

-- gear in whose places used ones stand
abbrev pub with_used : List Gear → List Used → List Gear
with_used gs [] = gs
with_used gs (u ∷ us) = with_used (slice_set gs u.gear (gear_of_used u)) us

-- the number that it drew before, and the address that it was given
abbrev pub earlier_draw : Used → ℕ × ℕ
earlier_draw u = (u.gear, u.random)

abbrev pub earlier_gift : Used → ℕ × ℕ
earlier_gift u = (u.gear, u.short)
