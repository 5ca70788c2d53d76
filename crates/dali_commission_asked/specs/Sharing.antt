use Rattle.std.specs.Prelude.{ℕ, ◌+◌, ◌==◌, Bool, true, false, not, ◌||◌, ◌&&◌, if◌then◌else◌}
use Rattle.std.specs.Prelude.{List, [], ◌∷◌, ◌++◌, Option, Some, None, Result, Ok, Err, is_some}
use Rattle.std.specs.Prelude.{slice_index_or}
use Rattle.std.specs.List.{list_any}
use Rattle.dali_frame.specs.Random.{MASK24}
use Rattle.dali_script.specs.declared.block.Block.{Block}
use Rattle.dali_script.specs.Records.{Kept, Assignment}
use Rattle.dali_script.specs.Stages.{in_block}
use Rattle.dali_controller.specs.declared.shorts.Shorts.{Shorts}
use Rattle.dali_controller.specs.Shorts.{with_short}
use Rattle.dali_commissioning.specs.declared.census.Reply.{Reply}
use Rattle.dali_commissioning.specs.declared.census.Reply.TheVariants as reply
use Rattle.dali_commissioning.specs.Census.{is_unclear}
use Rattle.dali_commissioning.specs.Places.{random_at}
use Rattle.dali_mending.specs.declared.course.Outcome.{Outcome}
use Rattle.dali_mending.specs.declared.course.Outcome.TheVariants as outcome
use Rattle.dali_mending.specs.Mending.{Mending, outcome_at}
use Rattle.dali_commission_said.specs.declared.failure.Failure.{Failure}
use Rattle.dali_commission_said.specs.declared.failure.Failure.TheVariants.{Shared, NotMended}
use Rattle.dali_commission_said.specs.declared.failure.Failure.TheVariants.{NotAsRecorded, NotClear}
use Rattle.dali_commission_asked.specs.declared.sharing.Left.{Left}
use Rattle.dali_commission_said.specs.declared.failure.MendRefusal.{MendRefusal}
use Rattle.dali_commission_said.specs.declared.failure.MendRefusal.TheVariants as refusal
use Rattle.dali_commission_tasks.specs.declared.tasks.Mend.{Mend}
use Rattle.dali_commission_said.specs.Reports.{heard_if}

-- ---------------------------------------------------------------- which short addresses

-- GEAR SHARE A SHORT ADDRESS, as it was heard: several answered; or FFFFFF was told, which a gear
-- without random address tells
abbrev pub is_shared : Reply → Bool
is_shared reply.Silence = false
is_shared reply.Noise = false
is_shared reply.Unclear = false
is_shared (reply.Random r) = r == MASK24
is_shared reply.Several = true

-- they do, or that is not clear
abbrev pub is_open : Reply → Bool
is_open r = is_shared r || is_unclear r

-- a survey left a short address alone
abbrev pub has_any : Shorts → Bool
has_any heard = not (heard.bits == 0)

-- then a task does not end well, nor as gear that are not as recorded; that gear share an address
-- is said only if it was heard
abbrev pub why_open : Bool → Failure
why_open true = Shared
why_open false = NotClear

abbrev pub or_open : Result (Unit {0}) Failure → Bool → Bool → Result (Unit {0}) Failure
or_open ended false shared = ended
or_open (Ok done) true shared = Err (why_open shared)
or_open (Err NotAsRecorded) true shared = Err (why_open shared)
or_open (Err failure) true shared = Err failure

-- WHAT IS LEFT OPEN: the short addresses that a survey left alone, and whether gear were heard to
-- share one of them
abbrev pub left_open : Result (Unit {0}) Failure → Left → Result (Unit {0}) Failure
left_open ended left = or_open ended (has_any left.heard) left.shared

-- WHICH ARE MENDED: those that are named, or, if none is, those that gear share or may share; from
-- one on
abbrev pub is_named : List ℕ → ℕ → Bool
is_named named a = list_any (λ b. b == a) named

abbrev pub is_meant : List ℕ → ℕ → Reply → Bool
is_meant [] a r = is_open r
is_meant (b ∷ more) a r = is_named (b ∷ more) a

abbrev pub meant_from : List ℕ → ℕ → List Reply → List ℕ
meant_from named a [] = []
meant_from named a (r ∷ more) =
    heard_if a (is_meant named a r) ++ meant_from named (a + 1) more

-- ---------------------------------------------------------------- why none is mended

-- a short address that is mended is no other controller's, and a gear answers
abbrev pub why_not_meant : Bool → Reply → Option MendRefusal
why_not_meant true r = Some refusal.OfOthers
why_not_meant false reply.Silence = Some refusal.NobodyAnswers
why_not_meant false _ = None

-- a gear of the table is away: no gear answers, or another one alone
abbrev pub is_away : Option ℕ → Reply → Bool
is_away None r = false
is_away (Some k) reply.Silence = true
is_away (Some k) (reply.Random heard) = not (heard == k)
is_away (Some k) _ = false

abbrev pub is_of_others : List Block → ℕ → Bool
is_of_others others a = list_any (λ b. in_block b a) others

-- at all others the gear of the table is there, unless it is known to be gone or to hang at another
-- short address, or was not asked
abbrev pub why_not_beside : Bool → Bool → Option MendRefusal
why_not_beside known away = if away && not known then Some refusal.NotThere else None

abbrev pub is_known_so : Mend → List Block → List Assignment → ℕ → Bool
is_known_so wanted others hanging a =
    (is_named wanted.missing.items a || list_any (λ p. p.0 == a) hanging)
    || is_of_others others a

abbrev pub why_not : Kept → List Block → Mend → List Assignment → ℕ → Reply → Option MendRefusal
why_not table others wanted hanging a r =
    if is_meant wanted.named.items a r
    then why_not_meant (is_of_others others a) r
    else why_not_beside (is_known_so wanted others hanging a)
    (is_away (random_at table.enrolled a) r)

-- the first reason
abbrev pub or_later : ℕ → Option MendRefusal → Option Failure → Option Failure
or_later a (Some why) later = Some (NotMended a why)
or_later a None later = later

abbrev pub refused_from : Kept → List Block → Mend → List Assignment → ℕ → List Reply
    → Option Failure
refused_from table others wanted hanging a [] = None
refused_from table others wanted hanging a (r ∷ more) =
    or_later a (why_not table others wanted hanging a r)
    (refused_from table others wanted hanging (a + 1) more)

-- the first short address of a block that one of several tables has reserved
abbrev pub inside : Block → List Assignment → Option ℕ
inside block [] = None
inside block (p ∷ more) = if in_block block p.0 then Some p.0 else inside block more

abbrev pub or_else : Option ℕ → Option ℕ → Option ℕ
or_else (Some a) later = Some a
or_else None later = later

abbrev pub reserved_in : Block → List Kept → Option ℕ
reserved_in block [] = None
reserved_in block (k ∷ more) = or_else (inside block k.reserved) (reserved_in block more)

-- ---------------------------------------------------------------- what came of it

-- TOLD APART: one gear alone has the short address, or none, three times in a row
abbrev pub is_apart_so : Option Outcome → Bool
is_apart_so (Some (outcome.Kept r)) = true
is_apart_so (Some outcome.Nobody) = true
is_apart_so _ = false

abbrev pub is_apart : Mending → Bool
is_apart m = is_apart_so (outcome_at m.course.stage)

abbrev pub is_any_left : List Mending → Bool
is_any_left ms = list_any (λ m. not (is_apart m)) ms

-- and gear were heard to share one of those, by what was heard of each short address before
abbrev pub is_left_shared : List Reply → Mending → Bool
is_left_shared replies m =
    not (is_apart m) && is_shared (slice_index_or replies m.short reply.Silence)

abbrev pub is_any_left_shared : List Reply → List Mending → Bool
is_any_left_shared replies ms = list_any (λ m. is_left_shared replies m) ms

-- A survey enrols the gear at a short address that the table does not have. So it has to wait if
-- gear that were heard to share it were not told apart there.
abbrev pub is_bare : List Reply → Mending → Bool
is_bare replies m = is_left_shared replies m && not (is_some m.course.table)

abbrev pub is_any_bare : List Reply → List Mending → Bool
is_any_bare replies ms = list_any (λ m. is_bare replies m) ms

-- the short addresses that are left: those of a survey, and those at which gear were not told apart
abbrev pub with_left : Shorts → List Mending → Shorts
with_left heard [] = heard
with_left heard (m ∷ more) =
    with_left (if is_apart m then heard else with_short heard m.short) more
