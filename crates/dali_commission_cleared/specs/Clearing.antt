use Rattle.std.specs.Prelude.{◌≡◌, ◌⊎◌, ℕ, Bool, true, false, if◌then◌else◌, List, [], ◌∷◌, Result}
use Rattle.std.specs.Prelude.{Ok, Err, IsErr, Some, None, not, nat_le, ◌++◌, ◌↔◌, IsTrue}
use Rattle.std.specs.Prelude.{string_bytes}
use Rattle.std.specs.List.{list_any}
use Rattle.std.specs.declared.alloc.Global.{Global}
use Rattle.std.specs.declared.string.String.{String}
use Rattle.dali_script.specs.declared.block.Block.{Block}
use Rattle.dali_script.specs.declared.orders.Input.{Input}
use Rattle.dali_script.specs.Records.{Kept, without_records}
use Rattle.dali_commissioning.specs.declared.census.Reply.{Reply}
use Rattle.dali_commissioning.specs.declared.verdict.Place.{Place}
use Rattle.dali_commissioning.specs.declared.fault.CommissionFault.{CommissionFault}
use Rattle.dali_commissioning.specs.declared.fault.CommissionFault.TheVariants as fault
use Rattle.dali_commissioning.specs.Census.{AreCounted, is_silent}
use Rattle.dali_commissioning.specs.Drivers.{Talk, IsCut}
use Rattle.dali_commissioning.specs.Places.{places}
use Rattle.dali_commissioning.specs.Unaddressed.{AreLeftOver, asking}
use Rattle.dali_commission_cleared.specs.declared.eraser.Eraser.{Eraser}
use Rattle.dali_commission_said.specs.declared.failure.Failure.{Failure}
use Rattle.dali_commission_said.specs.declared.failure.Failure.TheVariants.{NotCleared}
use Rattle.dali_commission_said.specs.declared.failure.Failure.TheVariants.{NobodyAnswered}
use Rattle.dali_commission_said.specs.Failures.{failure_of}
use Rattle.dali_commission_stores.specs.Calls.{Call, Renamed, Look, AreMade}
use Rattle.dali_commission_stores.specs.Calls as look
use Rattle.dali_commission_stores.specs.Seen.{LiesOnLine}
use Rattle.dali_commission_cleared.specs.Erasing.{begun, erasing_next, erasing_told}
use Rattle.dali_commission_asked.specs.Frames.{AreFrames}
use Rattle.dali_commission_said.specs.declared.report.Report.{Report}
use Rattle.dali_commission_said.specs.Reports.{no_report, places_reported}
use Rattle.dali_commission_said.specs.declared.reports.Which.TheVariants as which
use Rattle.dali_commission_said.specs.declared.said.Said.{Said}
use Rattle.dali_commission_said.specs.declared.said.Said.TheVariants as said
use Rattle.dali_commission_stores.specs.Keeping.{IsAside, AreFree, AreKeptTold}
use Rattle.dali_commission_said.specs.Said.{AreTold, places_said}
use Rattle.dali_commission_stores.specs.Settling.{kept_at}

-- FILES ARE PUT ASIDE, one after the other
abbrev pub asides : List (String Global) → ℕ → List Call
asides [] number = []
asides (name ∷ more) number =
    Renamed (string_bytes name) (kept_at (string_bytes name) number) ∷ asides more number

abbrev pub AreRenamed : {F : Type 0} → (F → F → Call → Type 0) → (F → Look → Type 0)
    → List (String Global) → List (String Global) → ℕ → F → F → Type 0
AreRenamed made saw records names number x y =
    AreFree saw x records number names × AreMade made (asides names number) x y

-- those that are there and not empty, where they lie
abbrev pub AddsFilled : {F : Type 0} → (F → Look → Type 0) → F → List ℕ → List (String Global)
    → List (String Global) → Type 0
AddsFilled saw x name before after =
    (place : String Global)
    × LiesOnLine saw x name (string_bytes place)
    × ((saw x (look.Has (string_bytes place) false) × (after ≡ before))
    ⊎ ((k : Kept)
    × (bare : Bool)
    × saw x (look.Read (string_bytes place) k)
    × (IsTrue bare ↔ ((k.reserved ≡ []) × (k.enrolled ≡ [])))
    × (after ≡ (if bare then before else before ++ place ∷ []))))

abbrev pub AreFilled : {F : Type 0} → (F → Look → Type 0) → F → List (String Global)
    → List (String Global) → List (String Global) → Type 0
AreFilled saw x before [] after = after ≡ before
AreFilled saw x before (name ∷ more) after =
    (mid : List (String Global))
    × AddsFilled saw x (string_bytes name) before mid
    × AreFilled saw x mid more after

-- and it is said where they are kept
abbrev pub ArePutAside : {F : Type 0} → (F → F → Call → Type 0) → (F → Look → Type 0)
    → (Said → Type 0) → List (String Global) → F → F → Type 0
ArePutAside made saw told records x y =
    (names : List (String Global))
    × (number : ℕ)
    × AreFilled saw x [] records names
    × AreRenamed made saw records names number x y
    × AreKeptTold told number names

-- and so are the new files that a stopped replacement has left beside any of them
abbrev pub IsNewAside : {F : Type 0} → (F → F → Call → Type 0) → (F → Look → Type 0)
    → (Said → Type 0) → List ℕ → F → F → Type 0
IsNewAside made saw told name x y =
    (place : String Global)
    × LiesOnLine saw x name (string_bytes place)
    × IsAside made saw told (string_bytes place) x y

abbrev pub AreNewAside : {F : Type 0} → (F → F → Call → Type 0) → (F → Look → Type 0)
    → (Said → Type 0) → List (String Global) → F → F → Type 0
AreNewAside made saw told [] x y = x ≡ y
AreNewAside made saw told (name ∷ more) x y =
    (z : _)
    × IsNewAside made saw told (string_bytes name) x z
    × AreNewAside made saw told more z y

-- ALL GEAR LOSE THEIR SHORT ADDRESSES by the frames of the machine, put until none is due; then
-- each short address is asked
abbrev pub all_shorts : Block
all_shorts = record { first = 0; last = 63 }

abbrev pub HaveErased : Eraser → Eraser → Talk → Talk → Type 0
HaveErased d e x y = (told : List Input) × AreFrames erasing_next erasing_told d told e x y

abbrev pub IsRound : List Reply → Talk → Talk → Type 0
IsRound replies x y =
    (e : Eraser)
    × (at : Talk)
    × HaveErased begun e x at
    × (erasing_next e ≡ None)
    × (nat_le 8 e.lost ≡ false)
    × AreCounted (without_records all_shorts) [] 0 replies at y

-- round after round, as long as gear answer at short addresses
abbrev pub is_any : List Reply → Bool
is_any replies = list_any (λ reply. not (is_silent reply)) replies

abbrev pub AreCleared : List ℕ → List Reply → List Reply → Talk → Talk → Type 0
AreCleared [] last replies x y = (replies ≡ last) × (y ≡ x)
AreCleared (number ∷ more) last replies x y =
    (one : List Reply)
    × (at : Talk)
    × IsRound one x at
    × (((is_any one ≡ false) × (replies ≡ one) × (y ≡ at))
    ⊎ ((is_any one ≡ true) × AreCleared more one replies at y))

-- and if none answers there any more, gear without short address are to answer
abbrev pub IsFollowed : List Reply → Bool → Talk → Talk → Type 0
IsFollowed replies found x y =
    ((is_any replies ≡ true) × (y ≡ x))
    ⊎ ((is_any replies ≡ false) × AreLeftOver asking found x y)

-- WHY A ROUND IS CUT SHORT: the talk ended by a fault, frames were lost again and again, or too
-- many were put
abbrev pub IsEraseCut : CommissionFault → Eraser → Talk → Talk → Type 0
IsEraseCut (fault.Driver f) d x y = y.fault ≡ Some f
IsEraseCut fault.StepsSpent d x y = (e : Eraser) × HaveErased d e x y
IsEraseCut fault.QuestionLost d x y = ⊥
IsEraseCut (fault.Store e) d x y = ⊥
IsEraseCut fault.RunsSpent d x y = ⊥

abbrev pub IsEraserLost : CommissionFault → Talk → Talk → Type 0
IsEraserLost reason x y =
    (e : Eraser)
    × (reason ≡ fault.QuestionLost)
    × HaveErased begun e x y
    × (erasing_next e ≡ None)
    × (nat_le 8 e.lost ≡ true)

abbrev pub IsRoundCut : CommissionFault → Talk → Talk → Type 0
IsRoundCut reason x y =
    IsEraseCut reason begun x y
    ⊎ (IsEraserLost reason x y
    ⊎ ((e : Eraser)
    × (at : Talk)
    × HaveErased begun e x at
    × (erasing_next e ≡ None)
    × (nat_le 8 e.lost ≡ false)
    × IsCut reason y))

abbrev pub AreRoundsCut : List ℕ → CommissionFault → Talk → Talk → Type 0
AreRoundsCut [] reason x y = ⊥
AreRoundsCut (number ∷ more) reason x y =
    IsRoundCut reason x y
    ⊎ ((one : List Reply)
    × (at : Talk)
    × IsRound one x at
    × (is_any one ≡ true)
    × AreRoundsCut more reason at y)

abbrev pub IsClearCut : CommissionFault → Talk → Talk → Type 0
IsClearCut reason x y =
    AreRoundsCut (1 ∷ 2 ∷ 3 ∷ 4 ∷ []) reason x y
    ⊎ ((replies : List Reply)
    × (at : Talk)
    × AreCleared (1 ∷ 2 ∷ 3 ∷ 4 ∷ []) [] replies x at
    × (is_any replies ≡ false)
    × IsCut reason y)

-- WHAT A CLEAR COMES TO
abbrev pub cleared_as : List Reply → Bool → Result (Unit {0}) Failure
cleared_as replies found =
    if is_any replies then Err NotCleared
    else (if found then Ok tt else Err NobodyAnswered)

abbrev pub cleared_said : Result (Unit {0}) Failure → List Said
cleared_said (Ok done) = said.Cleared ∷ []
cleared_said (Err failure) = []

-- with what stands where, and what is said of it, in the report
abbrev pub clear_reported : List Place → Result (Unit {0}) Failure → Report
clear_reported stand ended =
    places_reported stand (places_said which.All 0 stand ++ cleared_said ended)

abbrev pub ClearsTo : Report → Result (Unit {0}) Failure → Talk → Talk → Type 0
ClearsTo came ended x y =
    (replies : List Reply)
    × (found : Bool)
    × (at : Talk)
    × AreCleared (1 ∷ 2 ∷ 3 ∷ 4 ∷ []) [] replies x at
    × IsFollowed replies found at y
    × (ended ≡ cleared_as replies found)
    × (came ≡ clear_reported (places (without_records all_shorts) [] replies) ended)

-- A CLEAR first puts the files aside: nothing is put if that fails. Then it says which gear still
-- answer, and ends so; or the bus fails. So many frames were put, and that is reported.
abbrev pub IsClearedSo : (Said → Type 0) → Talk → Talk → ℕ → Report → Result (Unit {0}) Failure
    → Type 0
IsClearedSo told x y frames report ended =
    (came : Report)
    × ClearsTo came ended x y
    × (report ≡ record came { frames = frames })
    × AreTold told came.said.items

abbrev pub HasCleared : {F : Type 0} → (F → F → Call → Type 0) → (F → Look → Type 0)
    → (Said → Type 0) → List (String Global) → F → F → Talk → Talk → ℕ → Report → Report
    → Result (Unit {0}) Failure → Type 0
HasCleared {F = F} made saw told records was now x y frames before report ended =
    (IsErr ended × (y ≡ x) × (report ≡ before))
    ⊎ ((mid : F)
    × ArePutAside made saw told records was mid
    × AreNewAside made saw told records mid now
    × (((reason : CommissionFault)
    × (ended ≡ Err (failure_of reason frames))
    × (report ≡ record no_report { frames = frames })
    × IsClearCut reason x y)
    ⊎ IsClearedSo told x y frames report ended))
