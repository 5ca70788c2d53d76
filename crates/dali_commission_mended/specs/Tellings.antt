use Rattle.std.specs.Prelude.{◌≡◌, ◌⊎◌, ℕ, ◌+◌, ◌-◌, ◌^◌, min, true, List, [], ◌∷◌, ◌++◌, Option}
use Rattle.std.specs.Prelude.{Some, None, Result, Ok, Err, IfOk, IfErr, IsErr, string_bytes}
use Rattle.std.specs.declared.alloc.Global.{Global}
use Rattle.std.specs.declared.string.String.{String}
use Rattle.dali_script.specs.declared.block.Block.{Block}
use Rattle.dali_script.specs.declared.records.Record.{Record}
use Rattle.dali_script.specs.Records.{Kept}
use Rattle.dali_commissioning.specs.declared.beginning.Begun.{Begun}
use Rattle.dali_commissioning.specs.declared.fault.CommissionFault.{CommissionFault}
use Rattle.dali_commissioning.specs.Drivers.{Talk, talk_of, lines_of}
use Rattle.dali_commissioning.specs.Runs.{IsRead}
use Rattle.dali_replacement.specs.Tables.{IsGathered, AreOf}
use Rattle.dali_mending.specs.declared.course.Outcome.{Outcome}
use Rattle.dali_mending.specs.Mending.{Mending, outcome_at}
use Rattle.dali_commission_said.specs.declared.failure.Failure.{Failure}
use Rattle.dali_commission_said.specs.declared.failure.Failure.TheVariants.{Shared}
use Rattle.dali_commission_said.specs.declared.report.Report.{Report}
use Rattle.dali_commission_said.specs.declared.report.Session.{Session}
use Rattle.dali_commission_said.specs.declared.said.Said.{Said}
use Rattle.dali_commission_said.specs.declared.said.Said.TheVariants as said
use Rattle.dali_commission_tasks.specs.declared.tasks.Mend.{Mend}
use Rattle.dali_commission_tasks.specs.declared.tasks.Setup.{Setup}
use Rattle.dali_commission_said.specs.Said.{AreTold, IsPlaceOf}
use Rattle.dali_commission_stores.specs.Calls.{Look}
use Rattle.dali_commission_stores.specs.declared.records.Seen.{Seen}
use Rattle.dali_commission_stores.specs.Lent.{IsLent, IsOpened, IsUnread, AreRead}
use Rattle.dali_commission_asked.specs.Sharing.{reserved_in}
use Rattle.dali_commission_mended.specs.Runs.{HasBegun, HasNotBegun, HasNotBegunSo, ComesTo}
use Rattle.dali_commission_mended.specs.Mends.{MendsFrom}
use Rattle.dali_commission_mended.specs.Cut.{EndsMend}

-- WHAT CAME OF EACH SHORT ADDRESS that was mended is said, and which gear have lost it, with the
-- one that a table has for each
abbrev pub MendTold : (Said → Type 0) → ℕ → Option Outcome → Type 0
MendTold told a None = Unit {0}
MendTold told a (Some outcome) = told (said.Mended a outcome)

abbrev pub AreLossesTold : (Said → Type 0) → Kept → ℕ → List ℕ → Type 0
AreLossesTold told table a [] = Unit {0}
AreLossesTold told table a (r ∷ more) =
    ((at : Option ℕ) × IsPlaceOf r table.enrolled at × told (said.HasLost a r at))
    × AreLossesTold told table a more

abbrev pub AreMendsTold : (Said → Type 0) → Kept → List Mending → Type 0
AreMendsTold told table [] = Unit {0}
AreMendsTold told table (m ∷ more) =
    MendTold told m.short (outcome_at m.course.stage)
    × AreLossesTold told table m.short m.erased
    × AreMendsTold told table more

-- A RUN THAT ENDED SO has begun as was asked for, and said and reported what it came to
abbrev pub HasRun : {S R W : Type 0} (is_up is_sound : S → Type 0)
    (holds : S → List Record → Type 0) → Block → (R → Option (List ℕ)) → (W → Option (List ℕ))
    → (Said → Type 0) → List Block → Setup → Kept → S → S → Session R W → Session R W
    → Result (Unit {0}) Failure → Type 0
HasRun {S = S} is_up is_sound holds block remaining contents told others setup before was keep x y
    ended =
    (begun : Result Begun CommissionFault)
    × (mid : S)
    × (at : Talk)
    × (came : Report)
    × IfOk begun (HasBegun is_up is_sound holds block others setup.idle_passes was mid
    (talk_of remaining contents x.driver) at setup.start)
    × IfErr begun (HasNotBegun is_up is_sound holds block others was mid
    (talk_of remaining contents x.driver) at setup.start)
    × ComesTo is_up is_sound holds block before others begun mid keep at
    (talk_of remaining contents y.driver) (lines_of y.driver) came ended
    × (y.report ≡ record came { frames = lines_of y.driver })
    × AreTold told came.said.items
    × IfErr begun (λ reason. HasNotBegunSo is_up is_sound holds block others reason was mid
    (talk_of remaining contents x.driver) at setup.start)

-- A MEND THAT ENDED WELL, with these tables of other files, has read its own; it has asked each
-- short address, has looked for gear that are away, and was not refused by what was heard; all gear
-- were told apart, and it has said what came of each one. It has reported what it came to, after so
-- many frames.
pub record HasMended {S : Type 0} (is_up is_sound : S → Type 0)
    (holds : S → List Record → Type 0) (kept_of : S → Kept) (block : Block) (told : Said → Type 0)
    (others : List Block) (wanted : Mend) (tables : List Kept) (was keep : S) (x y : Talk)
    (frames : ℕ) (report : Report) : Type 0 where
  pub before : Kept
  pub opened : S
  pub reads : IsRead is_up is_sound holds block was opened before
  pub table : Kept
  pub gathered : IsGathered 64 (tables ++ before ∷ []) table
  pub of_these : AreOf table.enrolled [] (tables ++ before ∷ [])
  pub ms : List Mending
  pub mid : S
  pub came : Report
  pub mends : MendsFrom is_up is_sound holds kept_of block table before others wanted ms opened mid
      x y frames came (Ok tt)
  pub after : Kept
  pub of : Block
  pub reads_last : IsRead is_up is_sound holds of mid keep after
  pub said : AreMendsTold told after ms
  pub tells : AreTold told came.said.items
  pub reports : report ≡ record came { frames = frames }

-- A MEND THAT FAILED has read its own and put a beginning of that, or nothing. It has said and
-- reported what it came to, or only counts its frames if it cannot read its own any more.
abbrev pub IsReported : (Said → Type 0) → List Mending → Failure → Report → Report
    → Result (Unit {0}) Failure → ℕ → Report → Type 0
IsReported told ms failure old came ended frames report =
    ((ended ≡ Err failure)
    × (report ≡ record came { frames = frames })
    × AreTold told came.said.items
    × ((after : Kept) × AreMendsTold told after ms))
    ⊎ (IsUnread failure × (report ≡ record old { frames = frames }))

pub record HasNotMended {S : Type 0} (is_up is_sound : S → Type 0)
    (holds : S → List Record → Type 0) (kept_of : S → Kept) (block : Block) (told : Said → Type 0)
    (others : List Block) (wanted : Mend) (tables : List Kept) (was : S) (x y : Talk) (frames : ℕ)
    (old report : Report) (failure : Failure) : Type 0 where
  pub before : Kept
  pub opened : S
  pub reads : IsRead is_up is_sound holds block was opened before
  pub table : Kept
  pub gathered : IsGathered 64 (tables ++ before ∷ []) table
  pub of_these : AreOf table.enrolled [] (tables ++ before ∷ [])
  pub ms : List Mending
  pub mid : S
  pub came : Report
  pub ended : Result (Unit {0}) Failure
  pub ends : EndsMend is_up is_sound holds kept_of block table before others wanted ms opened mid
      x y frames came ended
  pub reports : IsReported told ms failure old came ended frames report

abbrev pub MendsOver : {S R W : Type 0} (is_up is_sound : S → Type 0)
    (holds : S → List Record → Type 0) (kept_of : S → Kept) → Block → (R → Option (List ℕ))
    → (W → Option (List ℕ)) → (Said → Type 0) → List Block → Mend → List Kept → S → S
    → Session R W → Session R W → Result (Unit {0}) Failure → Type 0
MendsOver is_up is_sound holds kept_of block remaining contents told others wanted tables was keep
    x y (Ok done) =
    HasMended is_up is_sound holds kept_of block told others wanted tables was keep
    (talk_of remaining contents x.driver) (talk_of remaining contents y.driver) (lines_of y.driver)
    y.report
MendsOver is_up is_sound holds kept_of block remaining contents told others wanted tables was keep
    x y (Err failure) =
    (y ≡ x)
    ⊎ HasNotMended is_up is_sound holds kept_of block told others wanted tables was
    (talk_of remaining contents x.driver) (talk_of remaining contents y.driver) (lines_of y.driver)
    x.report y.report failure

-- the same of all gear that share a short address, beside no other tables: what it has enrolled is
-- counted with those before, as far as the program counts
abbrev pub with_enrolled : {R W : Type 0} → Session R W → ℕ → Session R W
with_enrolled x n = record x { report = record x.report { enrolled = n } }

abbrev pub HasMendedAll : {S R W : Type 0} (is_up is_sound : S → Type 0)
    (holds : S → List Record → Type 0) (kept_of : S → Kept) → Block → (R → Option (List ℕ))
    → (W → Option (List ℕ)) → (Said → Type 0) → List Block → Block → S → S → Session R W
    → Session R W → Result (Unit {0}) Failure → Type 0
HasMendedAll {R = R} {W = W} is_up is_sound holds kept_of block remaining contents told others
    mended was keep x y result =
    (wanted : Mend)
    × (wanted.named.items ≡ [])
    × (wanted.missing.items ≡ [])
    × (wanted.block ≡ mended)
    × ((z : Session R W)
    × MendsOver is_up is_sound holds kept_of block remaining contents told others wanted [] was keep
    (with_enrolled x 0) z result
    × (y ≡ with_enrolled z
    (min (z.report.enrolled + x.report.enrolled) (2 ^ 64 - 1))))

-- A RUN ENDS SO, or mends what gear share, if that is asked for
abbrev pub EndsOrMends : {S R W : Type 0} (is_up is_sound : S → Type 0)
    (holds : S → List Record → Type 0) (kept_of : S → Kept) → Block → (R → Option (List ℕ))
    → (W → Option (List ℕ)) → (Said → Type 0) → List Block → Setup → Result (Unit {0}) Failure
    → S → S → Session R W → Session R W → Result (Unit {0}) Failure → Type 0
EndsOrMends is_up is_sound holds kept_of block remaining contents told others setup ended was keep
    x y result =
    ((setup.mends ≡ true → ended ≡ Err Shared → ⊥) × (result ≡ ended) × (keep ≡ was) × (y ≡ x))
    ⊎ ((setup.mends ≡ true)
    × (ended ≡ Err Shared)
    × HasMendedAll is_up is_sound holds kept_of block remaining contents told others setup.block was
    keep x y result)

-- A RUN OVER RECORDS that are open reads them, runs, and mends then, if that is asked for
abbrev pub HasRunOver : {S R W : Type 0} (is_up is_sound : S → Type 0)
    (holds : S → List Record → Type 0) (kept_of : S → Kept) → Block → (R → Option (List ℕ))
    → (W → Option (List ℕ)) → (Said → Type 0) → List Block → Setup → S → S → Session R W
    → Session R W → Result (Unit {0}) Failure → Type 0
HasRunOver {S = S} {R = R} {W = W} is_up is_sound holds kept_of block remaining contents told
    others setup was keep x y result =
    (IsErr result × (y ≡ x))
    ⊎ ((before : Kept)
    × (opened : S)
    × (ended : Result (Unit {0}) Failure)
    × (mid : S)
    × (at : Session R W)
    × IsRead is_up is_sound holds block was opened before
    × HasRun is_up is_sound holds block remaining contents told others setup before opened mid x at
    ended
    × EndsOrMends is_up is_sound holds kept_of block remaining contents told others setup ended mid
    keep at y result)

-- A MEND OF RECORDS of names, of which the first is that of the controller: the others are read,
-- and have reserved no short address of the block; then it is made over the first
unfoldable pub IsMendBeside : {F K R W : Type 0} (is_up is_sound : K → Type 0)
    (holds : K → List Record → Type 0) (kept_of : K → Kept) (block_of : K → Block)
    → (F → Look → Type 0) → (F → Seen → K → Type 0) → (R → Option (List ℕ))
    → (W → Option (List ℕ)) → (Said → Type 0) → List Block → Mend → F → List ℕ
    → List (String Global) → Session R W → Session R W → Result (Unit {0}) Failure → Type 0
IsMendBeside is_up is_sound holds kept_of block_of saw opens remaining contents told others wanted
    stores name more x y result =
    (IsErr result × (y ≡ x))
    ⊎ ((tables : List Kept)
    × AreRead saw stores more [] tables
    × (reserved_in wanted.block tables ≡ None)
    × IsLent (IsOpened block_of saw opens stores name wanted.block)
    (λ from to p q done. MendsOver is_up is_sound holds kept_of (block_of from) remaining contents
    told others wanted tables from to p q done) x y result)

abbrev pub IsMendOf : {F K R W : Type 0} (is_up is_sound : K → Type 0)
    (holds : K → List Record → Type 0) (kept_of : K → Kept) (block_of : K → Block)
    → (F → Look → Type 0) → (F → Seen → K → Type 0) → (R → Option (List ℕ))
    → (W → Option (List ℕ)) → (Said → Type 0) → List Block → Mend → F → Session R W
    → Session R W → Result (Unit {0}) Failure → List (String Global) → Type 0
IsMendOf is_up is_sound holds kept_of block_of saw opens remaining contents told others wanted
    stores x y result [] =
    IsErr result × (y ≡ x)
IsMendOf is_up is_sound holds kept_of block_of saw opens remaining contents told others wanted
    stores x y result (name ∷ more) =
    IsMendBeside is_up is_sound holds kept_of block_of saw opens remaining contents told others
    wanted stores (string_bytes name) more x y result
