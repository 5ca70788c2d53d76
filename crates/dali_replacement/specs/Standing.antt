use Rattle.std.specs.Prelude.{◌≡◌, ◌⊎◌, ℕ, ◌+◌, true, List, [], ◌∷◌, None, is_some}
use Rattle.dali_script.specs.Records.{Kept, Has}
use Rattle.dali_commissioning.specs.declared.census.Reply.{Reply}
use Rattle.dali_commissioning.specs.declared.census.Reply.TheVariants as reply
use Rattle.dali_commissioning.specs.declared.verdict.Place.{Place}
use Rattle.dali_commissioning.specs.Census.{IsAnswered}
use Rattle.dali_commissioning.specs.Drivers.{Talk}
use Rattle.dali_commissioning.specs.Places.{is_as_recorded, random_at}
use Rattle.dali_replacement.specs.declared.standing.Standing.{Standing}

abbrev pub table_of : Standing → Kept
table_of s = s.table

abbrev pub places_of : Standing → List Place
places_of s = s.places.items

-- THE GEAR OF A TABLE ARE ASKED, one short address after the other from this one on: those that the
-- table has, each three times. No other is asked, and each is taken for silent.
abbrev pub IsHeard : Kept → ℕ → Reply → Talk → Talk → Type 0
IsHeard table a r x y =
    ((random_at table.enrolled a ≡ None) × (r ≡ reply.Silence) × (y ≡ x))
    ⊎ ((is_some (random_at table.enrolled a) ≡ true) × IsAnswered a r x y)

abbrev pub AreHeard : Kept → ℕ → List Reply → Talk → Talk → Type 0
AreHeard table a [] x y = y ≡ x
AreHeard table a (r ∷ more) x y =
    (mid : Talk) × IsHeard table a r x mid × AreHeard table (a + 1) more mid y

-- ALL ARE THERE, from an address on, but those that are known to be gone
abbrev pub AreThere : ℕ → List ℕ → List Place → Type 0
AreThere a gone [] = Unit {0}
AreThere a gone (p ∷ more) =
    ((is_as_recorded p ≡ true) ⊎ Has gone a) × AreThere (a + 1) gone more
