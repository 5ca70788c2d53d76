use Rattle.std.specs.Prelude.{◌≡◌, ◌⊎◌, ℕ, ◌*◌, Bool, true, false, List, [], ◌∷◌, length, Option}
use Rattle.std.specs.Prelude.{Some, None, Result, Ok, Err, IfOk, IfErr, IsErr}
use Rattle.std.specs.List.{list_any}
use Rattle.std.specs.Io.KnownBytes.{Appends}
use Rattle.dali_script.specs.declared.block.Block.{Block}
use Rattle.dali_script.specs.declared.orders.Input.{Input}
use Rattle.dali_script.specs.declared.sending.Half.TheVariants as half
use Rattle.dali_script.specs.Records.{Kept, without_records}
use Rattle.dali_special.specs.Command.{frame}
use Rattle.dali_commissioning.specs.declared.beginning.Checked.{Checked}
use Rattle.dali_commissioning.specs.declared.fault.CommissionFault.{CommissionFault}
use Rattle.dali_commissioning.specs.declared.census.Reply.{Reply}
use Rattle.dali_commissioning.specs.Census.{IsPut, IsAnswered, AreCounted, is_sent, is_silent}
use Rattle.dali_commissioning.specs.Drivers.{Talk, IsCut, IsCutBeside}
use Rattle.dali_commissioning.specs.Lines.{put_text}
use Rattle.dali_commissioning.specs.declared.driver.DriverFault.{DriverFault}
use Rattle.dali_commissioning.specs.Places.{places}
use Rattle.dali_commissioning.specs.Unaddressed.{AreLeftOver, asking}
use Rattle.dali_commission_said.specs.declared.failure.Failure.{Failure}
use Rattle.dali_commission_said.specs.declared.failure.Failure.TheVariants.{NobodyThere}
use Rattle.dali_commission_said.specs.declared.said.Said.{Said}
use Rattle.dali_commission_said.specs.Failures.{checked, failure_of}
use Rattle.dali_commission_said.specs.Reports.{no_report}
use Rattle.dali_commission_said.specs.Reports as reports
use Rattle.dali_commission_said.specs.declared.report.Report.{Report}
use Rattle.dali_commission_said.specs.Said.{AreTold}
use Rattle.dali_commission_stores.specs.Calls.{Look, Read}
use Rattle.dali_commission_asked.specs.Ending.{If}
use Rattle.dali_commission_asked.specs.Sharing.{is_shared, is_open, or_open}

-- WHAT A CHECK COMES TO, by what it found, or why it could not be made: what is reported of it, and
-- how it ends
abbrev pub check_reported : Result Checked CommissionFault → List Block → Report
check_reported (Ok found) others = reports.check_reported found others
check_reported (Err fault) others = no_report

abbrev pub check_ended : Result Checked CommissionFault → List Block → Bool → ℕ
    → Result (Unit {0}) Failure
check_ended (Ok found) others heard line =
    or_open (checked (places found.kept others found.replies.items) found.has_unaddressed heard)
    (list_any (λ reply. is_open reply) found.replies.items)
    (list_any (λ reply. is_shared reply) found.replies.items)
check_ended (Err fault) others heard line = Err (failure_of fault line)

-- A GEAR IS LIT: the frame of direct arc power to its short address is put until it is sent, at
-- most eight times
unfoldable pub IsLitOnce : ℕ → ℕ → Bool → Talk → Talk → Type 0
IsLitOnce a level sent x y =
    (told : Input)
    × IsPut 2 (frame (2 * a) level) half.Whole told x y
    × (sent ≡ is_sent told)

abbrev pub IsLitBy : ℕ → ℕ → List ℕ → Talk → Talk → Type 0
IsLitBy a level [] x y = ⊥
IsLitBy a level (_ ∷ more) x y =
    (sent : Bool)
    × (at : Talk)
    × IsLitOnce a level sent x at
    × If sent (y ≡ at) (IsLitBy a level more at y)

unfoldable pub IsLit : ℕ → ℕ → Talk → Talk → Type 0
IsLit a level x y = IsLitBy a level (1 ∷ 2 ∷ 3 ∷ 4 ∷ 5 ∷ 6 ∷ 7 ∷ 8 ∷ []) x y

-- it goes bright, and so often dark and bright
abbrev pub HasBlinked : ℕ → List ℕ → Talk → Talk → Type 0
HasBlinked a [] x y = IsLit a 254 x y
HasBlinked a (_ ∷ more) x y =
    (bright : Talk)
    × (dark : Talk)
    × IsLit a 254 x bright
    × IsLit a 0 bright dark
    × HasBlinked a more dark y

-- A GEAR WAS SHOWN: one answered to the short address, and it went bright and dark five times, and
-- bright at last
abbrev pub HasShown : ℕ → Talk → Talk → Type 0
HasShown a x y =
    (heard : Reply)
    × (at : Talk)
    × IsAnswered a heard x at
    × (is_silent heard ≡ false)
    × HasBlinked a (1 ∷ 2 ∷ 3 ∷ 4 ∷ 5 ∷ []) at y

-- IT IS CUT SHORT, at a line of the driver: by its fault, or a frame was lost again and again
abbrev pub IsCutAs : Failure → ℕ → Talk → Type 0
IsCutAs failure line y =
    (reason : CommissionFault) × IsCut reason y × (failure ≡ failure_of reason line)

-- WHAT IS PUT IF IT IS NOT SHOWN: no gear answers; or it was cut short, and the last line is the
-- one that makes it bright
abbrev pub IsNotThere : ℕ → Failure → ℕ → Talk → Talk → Type 0
IsNotThere a failure line x y =
    IsCutAs failure line y
    ⊎ ((heard : Reply)
    × IsAnswered a heard x y
    × (is_silent heard ≡ true)
    × (failure ≡ NobodyThere a))

abbrev pub IsBrightAtLast : ℕ → Talk → Talk → Type 0
IsBrightAtLast a at y =
    (Appends at.written y.written (put_text 2 (frame (2 * a) 254) half.Whole) × (y.fault ≡ None))
    ⊎ ((f : DriverFault) × (y.fault ≡ Some f))

abbrev pub IsShowing : ℕ → Result (Unit {0}) Failure → ℕ → Talk → Talk → Type 0
IsShowing a (Ok done) line x y = HasShown a x y
IsShowing a (Err failure) line x y =
    IsNotThere a failure line x y
    ⊎ ((at : Talk)
    × ((before : ℕ) × IsCutAs failure before at)
    × IsBrightAtLast a at y)

-- WHAT A CHECK PUTS: each short address is asked but those in the blocks of others, and then gear
-- that have none
abbrev pub HasAskedAll : List Block → Checked → Talk → Talk → Type 0
HasAskedAll others found x y =
    (block : Block)
    × (at : Talk)
    × AreCounted (without_records block) others 0 found.replies.items x at
    × (length found.replies.items ≡ 64)
    × AreLeftOver asking found.has_unaddressed at y

-- A CHECK beside these records ends by what it found, and has reported that; or it was cut short
abbrev pub HasChecked : (Kept → Type 0) → (Said → Type 0) → List Block → Bool → ℕ → Talk → Talk
    → Report → Result (Unit {0}) Failure → Type 0
HasChecked beside told others heard line x y report ended =
    (found : Result Checked CommissionFault)
    × IfOk found (λ it. beside it.kept × HasAskedAll others it x y)
    × (ended ≡ check_ended found others heard line)
    × (report ≡ record (check_reported found others) { frames = line })
    × AreTold told report.said.items
    × IfErr found (λ reason. IsCutBeside reason x y)

-- It is one beside no records, or beside those of a name as they were seen, if they can be had.
abbrev pub no_records : Kept
no_records = without_records (record { first = 0; last = 63 })

abbrev pub IsCheckOf : {F : Type 0} → (F → Look → Type 0) → F → (Said → Type 0) → List Block
    → Bool → ℕ → Talk → Talk → Report → Report → Result (Unit {0}) Failure → Option (List ℕ)
    → Type 0
IsCheckOf saw stores told others heard line x y before report result None =
    HasChecked (λ kept. kept ≡ no_records) told others heard line x y report result
IsCheckOf saw stores told others heard line x y before report result (Some name) =
    (IsErr result × (y ≡ x) × (report ≡ before))
    ⊎ ((done : Result (Unit {0}) Failure)
    × HasChecked (λ kept. saw stores (Read name kept)) told others heard line x y report done
    × IfOk result (λ out. done ≡ Ok out))
