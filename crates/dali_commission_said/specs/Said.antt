use Rattle.std.specs.Prelude.{◌≡◌, ℕ, ◌+◌, ◌==◌, nat_lt, Bool, true, false, if◌then◌else◌, List, []}
use Rattle.std.specs.Prelude.{◌∷◌, ◌++◌, take, min, nat_le, Option, Some, None, ◌&&◌}
use Rattle.std.specs.Borrow.{Bor}
use Rattle.std.specs.List.{list_any}
use Rattle.dali_controller.specs.declared.tally.Passed.{Passed}
use Rattle.dali_controller.specs.declared.tally.Tally.{Tally}
use Rattle.dali_script.specs.declared.finding.Finding.{Finding}
use Rattle.dali_script.specs.declared.orders.End.TheVariants as ends
use Rattle.dali_script.specs.declared.orders.Fault.TheVariants as faults
use Rattle.dali_script.specs.Findings.{assigned}
use Rattle.dali_script.specs.Records.{Kept, Assignment, Has, HasRandom}
use Rattle.dali_commissioning.specs.declared.conducting.Ended.{Ended}
use Rattle.dali_commissioning.specs.declared.conducting.Ended.TheVariants.{Done, Halted}
use Rattle.dali_commissioning.specs.declared.conducting.PassEnd.{PassEnd}
use Rattle.dali_commissioning.specs.Places.{random_at}
use Rattle.dali_console.specs.declared.fault.ConsoleFault.TheVariants.{BadCommandLine}
use Rattle.dali_commissioning.specs.declared.driver.DriverFault.{DriverFault}
use Rattle.dali_commissioning.specs.declared.driver.DriverFault.TheVariants as driver
use Rattle.dali_commissioning.specs.declared.verdict.Place.{Place}
use Rattle.dali_commissioning.specs.declared.verdict.Place.TheVariants as place
use Rattle.dali_commission_said.specs.declared.failure.Failure.{Failure}
use Rattle.dali_commission_said.specs.declared.failure.Failure.TheVariants as failure
use Rattle.dali_commission_said.specs.declared.progress.Aim.{Aim}
use Rattle.dali_commission_said.specs.declared.reports.Which.{Which}
use Rattle.dali_commission_said.specs.declared.reports.Which.TheVariants as which
use Rattle.dali_commission_said.specs.declared.said.Said.{Said}
use Rattle.dali_commission_said.specs.declared.said.Said.TheVariants as said

-- WHICH PLACES ARE SAID: those at which there is something; those at which a gear of the table is
-- not there, or others answer too; or those at which a gear answers that no record names
abbrev pub is_wanted : Which → Place → Bool
is_wanted w place.NotAsked = false
is_wanted w place.Nobody = false
is_wanted which.All p = true
is_wanted which.Wrong (place.Missing r) = true
is_wanted which.Wrong (place.Another r heard) = true
is_wanted which.Wrong (place.Several r) = true
is_wanted which.Wrong (place.Unclear r) = true
is_wanted which.Strange (place.Stranger heard) = true
is_wanted which.Strange place.Strangers = true
is_wanted which.Strange place.Garbled = true
is_wanted which.Strange place.Noise = true
is_wanted _ _ = false

abbrev pub place_said : Which → ℕ → Place → List Said
place_said w a p = if is_wanted w p then said.At a p ∷ [] else []

-- places from a short address on, each with its own
abbrev pub places_said : Which → ℕ → List Place → List Said
places_said w a [] = []
places_said w a (p ∷ more) = place_said w a p ++ places_said w (a + 1) more

-- the short addresses that were left alone
abbrev pub heard_said : List ℕ → List Said
heard_said [] = []
heard_said (a ∷ more) = said.LeftAlone a ∷ heard_said more

-- HOW A GEAR CONTRADICTS THE TABLE: the table has another gear under the short address to which it
-- answers, or it has this one under another
abbrev pub conflict_at : ℕ → ℕ → Option ℕ → Option Said
conflict_at a r None = None
conflict_at a r (Some at) = Some (said.OtherPlace r a at)

abbrev pub conflict_said : ℕ → ℕ → Option ℕ → Option ℕ → Option Said
conflict_said a r None at = conflict_at a r at
conflict_said a r (Some other) at =
    if other == r then conflict_at a r at else Some (said.OtherGear a r other)

-- WHO WAS PASSED OVER, each once
abbrev pub passes : ℕ → Said → Bool
passes r (said.PassedOver other) = other == r
passes r _ = false

abbrev pub is_passed : List Said → ℕ → Bool
is_passed lines r = list_any (passes r) lines

abbrev pub with_passed : List Said → ℕ → List Said
with_passed lines r = if is_passed lines r then lines else lines ++ said.PassedOver r ∷ []

abbrev pub with_all_passed : List Said → List ℕ → List Said
with_all_passed lines [] = lines
with_all_passed lines (r ∷ more) = with_all_passed (with_passed lines r) more

-- the machine knows the first eight, and how many there are
abbrev pub with_passed_over : List Said → Passed → List Said
with_passed_over lines passed =
    with_all_passed lines (take (min passed.count 8) passed.numbers)
    ++ (if nat_lt 8 passed.count then said.MorePassedOver ∷ [] else [])

-- WHY A MACHINE GAVE UP
abbrev pub gave_up_said : ℕ → Tally → Aim → Said
gave_up_said tries tally aim =
    if nat_le 8 tries then said.Lost aim
    else if nat_le 3 tally.calls && nat_lt 0 tally.passed.count then said.OthersServed
    else if nat_le 3 tally.draws then said.Undrawn
    else said.Searches aim

abbrev pub with_gave_up : List Said → ℕ → Tally → Aim → List Said
with_gave_up lines tries tally aim =
    (if nat_lt tries 8 then with_passed_over lines tally.passed else lines)
    ++ gave_up_said tries tally aim ∷ []

-- WHY A MACHINE ENDED SO is said behind these lines, if it gave up or found a conflict
abbrev pub with_line : List Said → Option Said → List Said
with_line lines None = lines
with_line lines (Some line) = lines ++ line ∷ []

abbrev pub IsPlaceOf : ℕ → List Assignment → Option ℕ → Type 0
IsPlaceOf r enrolled None = HasRandom enrolled r → ⊥
IsPlaceOf r enrolled (Some a) = Has enrolled (a, r)

abbrev pub ConflictSaid : List Said → Option Finding → Kept → List Said → Type 0
ConflictSaid lines None k new = new ≡ lines
ConflictSaid lines (Some found) k new =
    (at : Option ℕ)
    × IsPlaceOf (assigned found).1 k.enrolled at
    × (new ≡ with_line lines (conflict_said (assigned found).0 (assigned found).1
    (random_at k.enrolled (assigned found).0) at) ++ said.ConflictAdvice ∷ [])

abbrev pub WhySaidAt : Ended → List Said → PassEnd → Kept → Aim → List Said → Type 0
WhySaidAt (Done ends.AllFound) lines pass k aim new = new ≡ lines
WhySaidAt (Done ends.BlockFull) lines pass k aim new = new ≡ lines
WhySaidAt (Done ends.GaveUp) lines pass k aim new =
    new ≡ with_gave_up lines pass.tries pass.tally aim
WhySaidAt (Halted faults.Conflict) lines pass k aim new = ConflictSaid lines pass.found k new
WhySaidAt (Halted faults.Store) lines pass k aim new = new ≡ lines

abbrev pub WhySaid : List Said → PassEnd → Kept → Aim → List Said → Type 0
WhySaid lines pass k aim new = WhySaidAt pass.ended lines pass k aim new

-- A LINE OF THE DRIVER is said if it was refused
abbrev pub wrote_by : DriverFault → Bor (List ℕ) → Option Said
wrote_by driver.BadLine line = Some (said.Wrote line)
wrote_by driver.LongLine line = Some (said.Wrote line)
wrote_by driver.TornLine line = Some (said.Wrote line)
wrote_by driver.Ended line = None
wrote_by driver.Read line = None
wrote_by driver.Write line = None
wrote_by driver.Memory line = None

abbrev pub wrote_said : Failure → Bor (List ℕ) → Option Said
wrote_said (failure.Driver n fault) line = wrote_by fault line
wrote_said _ line = None

-- WHY THE PROGRAM ENDS: a bad command line `clap` has told; what is wrong with records has their
-- name, and if several names are in question, it was said before
abbrev pub why_said : Failure → Option (Bor (List ℕ)) → Option Said
why_said (failure.Console BadCommandLine) records = None
why_said (failure.Store fault) (Some name) = Some (said.Refused name fault)
why_said (failure.Store fault) None = None
why_said other records = Some (said.Why other)

-- A LINE IS SAID: no contract sees what a system does with it, so only who says it may tell
unfoldable pub IsTold : {S : Type 0} → S → Said → Type 0
IsTold on line = Unit {0}

-- LINES ARE SAID, by what tells that one was
abbrev pub AreTold : (Said → Type 0) → List Said → Type 0
AreTold told [] = Unit {0}
AreTold told (line ∷ more) = told line × AreTold told more
