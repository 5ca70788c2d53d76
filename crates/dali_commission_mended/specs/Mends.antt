use Rattle.std.specs.Prelude.{◌≡◌, ◌⊎◌, ℕ, true, false, ◌||◌, List, [], ◌∷◌, ◌++◌, Some, None}
use Rattle.std.specs.Prelude.{Result, Err}
use Rattle.dali_controller.specs.declared.shorts.Shorts.{Shorts}
use Rattle.dali_script.specs.declared.block.Block.{Block}
use Rattle.dali_script.specs.declared.orders.End.TheVariants.{AllFound}
use Rattle.dali_script.specs.declared.orders.Input.{Input}
use Rattle.dali_script.specs.declared.orders.Input.TheVariants.{Survey}
use Rattle.dali_script.specs.declared.records.Record.{Record}
use Rattle.dali_script.specs.Records.{Kept, Assignment, without_records}
use Rattle.dali_commissioning.specs.declared.census.Reply.{Reply}
use Rattle.dali_commissioning.specs.declared.conducting.Ended.TheVariants.{Done}
use Rattle.dali_commissioning.specs.declared.conducting.PassEnd.{PassEnd}
use Rattle.dali_commissioning.specs.Census.{AreCounted}
use Rattle.dali_commissioning.specs.Drivers.{Talk}
use Rattle.dali_commissioning.specs.declared.verdict.Place.{Place}
use Rattle.dali_commissioning.specs.Places.{places}
use Rattle.dali_commissioning.specs.Runs.{Run, AreRuns, EndWith, ComeTo, AreQuiet}
use Rattle.dali_replacement.specs.Tables.{Keeps, Reserves}
use Rattle.dali_mending.specs.Mending.{Mending, mending_begun, put_next, told_to}
use Rattle.dali_commission_said.specs.declared.failure.Failure.{Failure}
use Rattle.dali_commission_said.specs.declared.report.Report.{Report}
use Rattle.dali_commission_said.specs.declared.reports.Which.TheVariants as which
use Rattle.dali_commission_said.specs.declared.said.Said.{Said}
use Rattle.dali_commission_said.specs.declared.said.Said.TheVariants as said
use Rattle.dali_commission_said.specs.Reports.{heard_of, places_reported, reported, run_reported}
use Rattle.dali_commission_said.specs.Reports.{table_of, RunSaid}
use Rattle.dali_commission_said.specs.declared.progress.Aim.{Aim}
use Rattle.dali_commission_said.specs.Said.{places_said}
use Rattle.dali_commission_tasks.specs.declared.tasks.Mend.{Mend}
use Rattle.dali_commission_asked.specs.Ending.{HasAskedAtLast, none_left, pass_at_last}
use Rattle.dali_commission_asked.specs.declared.ending.AtLast.{AtLast}
use Rattle.dali_commission_said.specs.Failures.{ended_as}
use Rattle.dali_commission_mended.specs.Hanging.{AreLookedFor}
use Rattle.dali_commission_asked.specs.Sharing.{has_any, why_open, or_open, meant_from}
use Rattle.dali_commission_asked.specs.Sharing.{refused_from, is_any_left, is_any_left_shared}
use Rattle.dali_commission_asked.specs.Sharing.{is_any_bare, with_left}
use Rattle.dali_commission_asked.specs.Frames.{AreFrames}

abbrev pub HasPut : Mending → Mending → Talk → Talk → Type 0
HasPut m n x y = (told : List Input) × AreFrames put_next told_to m told n x y

-- A SHORT ADDRESS IS MENDED from its beginning, by a table, until no frame is due
abbrev pub IsMended : Kept → ℕ → Mending → Talk → Talk → Type 0
IsMended table a m x y =
    HasPut (mending_begun a table.enrolled) m x y × (put_next m ≡ None)

-- one after the other, behind these
abbrev pub AreMended : Kept → List ℕ → List Mending → List Mending → Talk → Talk → Type 0
AreMended table [] before after x y = (after ≡ before) × (y ≡ x)
AreMended table (a ∷ more) before after x y =
    (m : Mending)
    × (at : Talk)
    × IsMended table a m x at
    × AreMended table more (before ++ m ∷ []) after at y

-- SURVEYS FOLLOW, until three in a row found nothing, over a store that has the gear of a table,
-- and has reserved their own short addresses for these
pub record HasSurveyed {S : Type 0} (is_up is_sound : S → Type 0)
    (holds : S → List Record → Type 0) (kept_of : S → Kept) (block : Block) (table : Kept)
    (hanging : List Assignment) (keep : S) (x y : Talk) (pass : PassEnd) : Type 0 where
  pub filled : S
  pub has : Keeps table (kept_of filled)
  pub owed : Reserves hanging table (kept_of filled)
  pub runs : List Run
  pub ran : AreRuns is_up is_sound holds block Survey filled keep x y runs
  pub ended : EndWith pass.ended runs
  pub come : ComeTo pass runs
  pub quiet : pass.ended ≡ Done AllFound → AreQuiet 3 runs

-- how all ends then: at last gear are asked until one answers, and it does not end well if none
-- does, or if gear may share a short address
abbrev pub mended_as : PassEnd → AtLast → List Reply → List Mending → Result (Unit {0}) Failure
mended_as pass last replies ms =
    or_open (ended_as (pass_at_last pass last).ended last.is_there)
    (has_any last.left.heard || is_any_left ms)
    (last.left.shared || is_any_left_shared replies ms)

-- and what is reported of it: who was left alone at last, and at the addresses that were mended
abbrev pub mended_reported : PassEnd → Kept → Kept → Shorts → List Said → Report
mended_reported pass before after left lines =
    record (run_reported pass before after lines) { left_alone = record { items = heard_of left } }

abbrev pub MendedSo : PassEnd → Kept → Kept → List Reply → List Mending → ℕ → Report
    → Result (Unit {0}) Failure → Talk → Talk → Type 0
MendedSo pass before after replies ms frames report ended x y =
    (last : AtLast)
    × HasAskedAtLast pass after.enrolled last x y
    × (ended ≡ mended_as pass last replies ms)
    × (report ≡ mended_reported (pass_at_last pass last) before after
    (with_left last.left.heard ms) report.said.items)
    × ((aim : Aim)
    × RunSaid (pass_at_last pass last) before after aim frames report.said.items)

-- of one behind which no survey may enrol gear, and of one that is refused
abbrev pub unsurveyed_reported : Kept → List Mending → Report
unsurveyed_reported before ms =
    reported 0 (table_of before) (heard_of (with_left none_left.heard ms)) [] None
    (said.NotSurveyed ∷ [])

abbrev pub refused_reported : List Place → Report
refused_reported stand = places_reported stand (places_said which.Wrong 0 stand)

-- WHAT FOLLOWS once short addresses were mended: no survey if gear that were heard to share one
-- were not told apart where a survey would enrol a gear
abbrev pub Follows : {S : Type 0} (is_up is_sound : S → Type 0)
    (holds : S → List Record → Type 0) (kept_of : S → Kept) → Block → Kept → List Assignment
    → Kept → List Reply → List Mending → S → S → Talk → Talk → ℕ → Report
    → Result (Unit {0}) Failure → Type 0
Follows {S = S} is_up is_sound holds kept_of block table hanging before replies ms was keep x y
    frames report ended =
    ((is_any_bare replies ms ≡ true)
    × (ended ≡ Err (why_open (is_any_left_shared replies ms)))
    × (report ≡ unsurveyed_reported before ms)
    × (keep ≡ was)
    × (y ≡ x))
    ⊎ ((is_any_bare replies ms ≡ false)
    × ((pass : PassEnd)
    × (mid : S)
    × (at : Talk)
    × HasSurveyed is_up is_sound holds kept_of block table hanging mid x at pass
    × MendedSo pass before (kept_of keep) replies ms frames report ended at y))

-- MENDED: each short address that is meant, and what follows
abbrev pub HasMendedSo : {S : Type 0} (is_up is_sound : S → Type 0)
    (holds : S → List Record → Type 0) (kept_of : S → Kept) → Block → Kept → Mend
    → List Assignment → Kept → List Reply → List Mending → S → S → Talk → Talk → ℕ → Report
    → Result (Unit {0}) Failure → Type 0
HasMendedSo is_up is_sound holds kept_of block table wanted hanging before replies ms was keep x y
    frames report ended =
    (at : Talk)
    × AreMended table (meant_from wanted.named.items 0 replies) [] ms x at
    × Follows is_up is_sound holds kept_of block table hanging before replies ms was keep at y
    frames report ended

-- If what was heard lets none be mended, nothing is put, and the records are as they were.
abbrev pub MendsBeside : {S : Type 0} (is_up is_sound : S → Type 0)
    (holds : S → List Record → Type 0) (kept_of : S → Kept) → Block → Kept → List Block → Mend
    → List Assignment → Kept → List Reply → List Mending → S → S → Talk → Talk → ℕ → Report
    → Result (Unit {0}) Failure → Type 0
MendsBeside is_up is_sound holds kept_of block table others wanted hanging before replies ms was
    keep x y frames report ended =
    ((failure : Failure)
    × (refused_from table others wanted hanging 0 replies ≡ Some failure)
    × (ended ≡ Err failure)
    × (report ≡ refused_reported (places table others replies))
    × (keep ≡ was)
    × (y ≡ x))
    ⊎ ((refused_from table others wanted hanging 0 replies ≡ None)
    × HasMendedSo is_up is_sound holds kept_of block table wanted hanging before replies ms was keep
    x y frames report ended)

-- WHAT A MEND COMES TO once each short address was asked: the gear of the table that are away are
-- looked for at those that are meant. Then each of these is mended, and only then surveys follow.
abbrev pub MendsTo : {S : Type 0} (is_up is_sound : S → Type 0)
    (holds : S → List Record → Type 0) (kept_of : S → Kept) → Block → Kept → Kept → List Block
    → Mend → List Reply → List Mending → S → S → Talk → Talk → ℕ → Report
    → Result (Unit {0}) Failure → Type 0
MendsTo is_up is_sound holds kept_of block table records others wanted replies ms was keep x y
    frames report ended =
    (hanging : List Assignment)
    × (at : Talk)
    × AreLookedFor table records others wanted (meant_from wanted.named.items 0 replies) 0 replies
    [] hanging x at
    × MendsBeside is_up is_sound holds kept_of block table others wanted hanging records replies ms
    was keep at y frames report ended

-- each short address is asked first, but those in the blocks of others
abbrev pub MendsFrom : {S : Type 0} (is_up is_sound : S → Type 0)
    (holds : S → List Record → Type 0) (kept_of : S → Kept) → Block → Kept → Kept → List Block
    → Mend → List Mending → S → S → Talk → Talk → ℕ → Report → Result (Unit {0}) Failure → Type 0
MendsFrom is_up is_sound holds kept_of block table records others wanted ms was keep x y frames
    report ended =
    (replies : List Reply)
    × (at : Talk)
    × AreCounted (without_records table.block) others 0 replies x at
    × MendsTo is_up is_sound holds kept_of block table records others wanted replies ms was keep at
    y frames report ended
