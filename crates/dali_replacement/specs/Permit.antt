use Rattle.std.specs.Prelude.{◌≡◌, ◌⊎◌, ℕ, false, List, Option, Some, None}
use Rattle.dali_script.specs.declared.block.Block.{Block}
use Rattle.dali_script.specs.declared.records.Record.{Record}
use Rattle.dali_script.specs.declared.orders.End.TheVariants.{AllFound}
use Rattle.dali_script.specs.declared.orders.Input.TheVariants.{Survey}
use Rattle.dali_script.specs.Records.{Kept}
use Rattle.dali_reserve.specs.declared.error.KeepError.{KeepError}
use Rattle.dali_commissioning.specs.declared.conducting.Ended.TheVariants.{Done}
use Rattle.dali_commissioning.specs.declared.conducting.PassEnd.{PassEnd}
use Rattle.dali_commissioning.specs.declared.census.Reply.{Reply}
use Rattle.dali_commissioning.specs.declared.fault.CommissionFault.{CommissionFault}
use Rattle.dali_commissioning.specs.declared.fault.CommissionFault.TheVariants as fault
use Rattle.dali_commissioning.specs.declared.newcomers.Newcomers.{Newcomers}
use Rattle.dali_commissioning.specs.declared.newcomers.Newcomers.TheVariants as new
use Rattle.dali_commissioning.specs.Acts.{RunsLeaveRules}
use Rattle.dali_commissioning.specs.Census.{IsAnswered}
use Rattle.dali_commissioning.specs.Drivers.{Talk, IsCut}
use Rattle.dali_commissioning.specs.Looking.{HasLookedFor, HasNotLooked}
use Rattle.dali_commissioning.specs.Runs.{Run, AreRuns, EndWith, AreQuiet}
use Rattle.dali_replacement.specs.declared.refusal.ReplaceFault.{ReplaceFault}
use Rattle.dali_replacement.specs.declared.refusal.ReplaceFault.TheVariants.{Refused, Commission}
use Rattle.dali_replacement.specs.declared.refusal.ReplaceRefusal.{ReplaceRefusal}
use Rattle.dali_replacement.specs.declared.refusal.ReplaceRefusal.TheVariants as refusal
use Rattle.dali_replacement.specs.Come.{may_be_heard, is_random, refusal_of}
use Rattle.dali_replacement.specs.Come.{refusal as refusal_after}
use Rattle.dali_replacement.specs.declared.come.Come.{Come}
use Rattle.dali_replacement.specs.declared.come.Come.TheVariants.{Nowhere, Reserved, Given}
use Rattle.dali_replacement.specs.declared.permit.Vacant.{Vacant}
use Rattle.dali_replacement.specs.declared.permit.OthersThere.{OthersThere}
use Rattle.dali_replacement.specs.declared.permit.Permit.{Permit}
use Rattle.dali_replacement.specs.declared.confirmed.Confirmed.{Confirmed}
use Rattle.dali_replacement.specs.Standing.{table_of}
use Rattle.dali_replacement.specs.Tables.{Keeps, AreGiven}

-- WHAT EACH THING THAT WAS SEEN IS OF: the short address, how far an earlier call had come, the
-- table of all others, and the random address that answered
abbrev pub vacant_at : Vacant → ℕ
vacant_at seen = seen.short

abbrev pub vacant_come : Vacant → Come
vacant_come seen = seen.come

abbrev pub others_at : OthersThere → ℕ
others_at seen = seen.short

abbrev pub others_come : OthersThere → Come
others_come seen = seen.come

abbrev pub others_table : OthersThere → Kept
others_table seen = table_of seen.standing

abbrev pub permitted_at : Permit → ℕ
permitted_at permit = permit.short

abbrev pub confirmed_at : Confirmed → ℕ
confirmed_at seen = seen.short

abbrev pub confirmed_random : Confirmed → ℕ
confirmed_random seen = seen.random

abbrev pub confirmed_table : Confirmed → Kept
confirmed_table seen = table_of seen.standing

-- the block of one short address
abbrev pub alone : ℕ → Block
alone a = record { first = a; last = a }

-- AN ADDRESS WAS GIVEN by surveys alone, over a store of its block that had the gear of a table
-- then
pub record HasGiven {S : Type 0} (is_up is_sound : S → Type 0) (holds : S → List Record → Type 0)
    (kept_of : S → Kept) (block : Block) (a : ℕ) (table : Kept) (keep : S) (x y : Talk)
    (pass : PassEnd) : Type 0 where
  pub of : block ≡ alone a
  pub filled : S
  pub has : Keeps table (kept_of filled)
  pub runs : List Run
  pub ran : AreRuns is_up is_sound holds block Survey filled keep x y runs
  pub ended : EndWith pass.ended runs
  pub quiet : pass.ended ≡ Done AllFound → AreQuiet 3 runs

-- ONE GEAR ALONE has no short address: it is looked for over records of this block that have the
-- gear of a table; nothing is put if an earlier call has begun to give it the address
abbrev pub HasLookedBeside : ℕ → Kept → Newcomers → Talk → Talk → Type 0
HasLookedBeside a table found x y =
    (k : Kept) × Keeps table k × (k.block ≡ alone a) × HasLookedFor k found x y

abbrev pub HasLooked : ℕ → Kept → Come → Talk → Talk → Type 0
HasLooked a table Nowhere x y = (random : ℕ) × HasLookedBeside a table (new.One random) x y
HasLooked a table (Reserved r) x y = y ≡ x
HasLooked a table (Given r) x y = y ≡ x

-- ---------------------------------------------------------------- what fails, and why

-- ANOTHER GEAR ANSWERS than may be heard
abbrev pub IsNotVacant : ℕ → Come → ReplaceFault → Talk → Talk → Type 0
IsNotVacant a come (Commission reason) x y = IsCut reason y
IsNotVacant a come (Refused why) x y =
    (heard : Reply)
    × IsAnswered a heard x y
    × (may_be_heard come heard ≡ false)
    × (why ≡ refusal_after come heard)

-- NO GEAR ALONE has no short address, or that is not learned
abbrev pub refusal_by : Newcomers → Option ReplaceRefusal
refusal_by new.Nobody = Some refusal.NobodyNew
refusal_by (new.One r) = None
refusal_by new.Several = Some refusal.SeveralNew
refusal_by (new.Unclear ended) = Some refusal.UnclearNew

abbrev pub IsNotLookedBeside : ℕ → Kept → ReplaceFault → Talk → Talk → Type 0
IsNotLookedBeside a table (Commission reason) x y =
    ((k : Kept) × Keeps table k × (k.block ≡ alone a) × HasNotLooked k reason x y)
    ⊎ ((e : KeepError) × (reason ≡ fault.Store e) × (y ≡ x))
IsNotLookedBeside a table (Refused why) x y =
    (found : Newcomers) × HasLookedBeside a table found x y × (refusal_by found ≡ Some why)

abbrev pub IsNotLooked : ℕ → Kept → Come → ReplaceFault → Talk → Talk → Type 0
IsNotLooked a table Nowhere failed x y = IsNotLookedBeside a table failed x y
IsNotLooked a table (Reserved r) failed x y = ⊥
IsNotLooked a table (Given r) failed x y = ⊥

-- AN ADDRESS WAS NOT GIVEN: the store could not be filled, and nothing was put; or the surveys were
-- left
abbrev pub IsGivingLeft : {S : Type 0} (is_up is_sound : S → Type 0)
    (holds : S → List Record → Type 0) (kept_of : S → Kept) → Block → ℕ → Kept → CommissionFault
    → S → Talk → Talk → Type 0
IsGivingLeft {S = S} is_up is_sound holds kept_of block a table reason keep x y =
    (filled : S)
    × (block ≡ alone a)
    × Keeps table (kept_of filled)
    × RunsLeaveRules is_up is_sound holds block Survey reason filled keep x y

abbrev pub HasNotGiven : {S : Type 0} (is_up is_sound : S → Type 0)
    (holds : S → List Record → Type 0) (kept_of : S → Kept) → Block → ℕ → Kept → CommissionFault
    → S → Talk → Talk → Type 0
HasNotGiven is_up is_sound holds kept_of block a table (fault.Driver f) keep x y = y.fault ≡ Some f
HasNotGiven is_up is_sound holds kept_of block a table fault.QuestionLost keep x y = ⊥
HasNotGiven is_up is_sound holds kept_of block a table (fault.Store e) keep x y =
    (y ≡ x)
    ⊎ IsGivingLeft is_up is_sound holds kept_of block a table (fault.Store e) keep x y
HasNotGiven is_up is_sound holds kept_of block a table fault.StepsSpent keep x y =
    IsGivingLeft is_up is_sound holds kept_of block a table fault.StepsSpent keep x y
HasNotGiven is_up is_sound holds kept_of block a table fault.RunsSpent keep x y =
    IsGivingLeft is_up is_sound holds kept_of block a table fault.RunsSpent keep x y

-- THE NEW GEAR IS NOT HEARD, or the new tables do not all have one, and nothing is put
abbrev pub IsNotConfirmed : ℕ → List Kept → ReplaceFault → Talk → Talk → Type 0
IsNotConfirmed a news (Commission reason) x y = IsCut reason y
IsNotConfirmed a news (Refused why) x y =
    ((why ≡ refusal.NotGiven) × (y ≡ x))
    ⊎ ((random : ℕ)
    × (heard : Reply)
    × AreGiven a random news
    × IsAnswered a heard x y
    × (is_random random heard ≡ false)
    × (why ≡ refusal_of heard))
