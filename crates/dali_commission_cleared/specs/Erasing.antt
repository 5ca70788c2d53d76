use Rattle.std.specs.Prelude.{ℕ, ◌+◌, ◌==◌, min, nat_le, if◌then◌else◌, Bool, List, [], ◌∷◌, map}
use Rattle.std.specs.Prelude.{slice_get, Option, Some, None}
use Rattle.dali_frame.specs.declared.frames.Answer.{Answer}
use Rattle.dali_frame.specs.declared.frames.Forward.{Forward}
use Rattle.dali_frame.specs.Random.{MASK24}
use Rattle.dali_special.specs.declared.command.Command.{Command}
use Rattle.dali_special.specs.declared.command.Command.TheVariants.{Terminate, Initialise, Program}
use Rattle.dali_special.specs.declared.command.Command.TheVariants.{Withdraw, QueryShort}
use Rattle.dali_special.specs.declared.command.Target.TheVariants.{All}
use Rattle.dali_special.specs.Command.{frame_of}
use Rattle.dali_script.specs.declared.orders.Input.{Input}
use Rattle.dali_script.specs.declared.orders.Input.TheVariants.{Heard}
use Rattle.dali_script.specs.declared.sending.Half.{Half}
use Rattle.dali_script.specs.declared.sending.Half.TheVariants.{Whole, First, Second}
use Rattle.dali_search.specs.declared.step.Step.{Step}
use Rattle.dali_search.specs.declared.step.Step.TheVariants as step
use Rattle.dali_search.specs.Ascending as search
use Rattle.dali_mending.specs.declared.mending.Put.{Put}
use Rattle.dali_mending.specs.Transactions as mending
use Rattle.dali_mending.specs.Mending as mended
use Rattle.dali_commission_cleared.specs.declared.eraser.Stage.{Stage}
use Rattle.dali_commission_cleared.specs.declared.eraser.Stage.TheVariants as stage
use Rattle.dali_commission_cleared.specs.declared.eraser.Eraser.{Eraser}

-- THE TRANSACTIONS by which all gear lose their short addresses (IEC 62386-102:2014, TERMINATE,
-- INITIALISE, COMPARE, WITHDRAW, SEARCHADDRH, SEARCHADDRM, SEARCHADDRL, PROGRAM SHORT ADDRESS,
-- QUERY SHORT ADDRESS): all are initialised; searched; those with the number that was found lose
-- it, are withdrawn, and asked whether they are there; at last those without number; and the
-- initialisation is ended
abbrev pub as_frames : List Command → List Forward
as_frames cs = map frame_of cs

abbrev pub beginning : List Command
beginning = Terminate ∷ Initialise All ∷ Initialise All ∷ []

abbrev pub probing : ℕ → List Command
probing n = mending.probing n

abbrev pub erasing : ℕ → List Command
erasing r = mending.under r (Program None ∷ Withdraw ∷ QueryShort ∷ [])

abbrev pub closing : List Command
closing = Terminate ∷ []

abbrev pub commands_of : Stage → List Command
commands_of stage.Beginning = beginning
commands_of (stage.Searching n) = probing n
commands_of (stage.Erasing r) = erasing r
commands_of stage.Left = probing MASK24
commands_of stage.Closing = closing
commands_of stage.Ended = []

abbrev pub frame_at : Stage → ℕ → Option Forward
frame_at s k = slice_get (as_frames (commands_of s)) k

-- WHAT IS PUT NEXT: the first frame of a transaction at priority 3, each later one at priority 1
abbrev pub half_at : Stage → ℕ → Half
half_at stage.Beginning k = if k == 1 then First else (if k == 2 then Second else Whole)
half_at _ k = Whole

abbrev pub put_so : Stage → ℕ → Option Forward → Option Put
put_so s k (Some f) =
    Some (record { priority = (if k == 0 then 3 else 1); frame = f; half = half_at s k })
put_so s k None = None

abbrev pub erasing_next : Eraser → Option Put
erasing_next e = put_so e.stage e.sent (frame_at e.stage e.sent)

-- WHAT FOLLOWS after a transaction, by what was heard after its last frame
abbrev pub is_heard : Answer → Bool
is_heard h = mended.is_heard h

abbrev pub answered_at : Step → search.Ascent → Bool → search.Ascent
answered_at step.Again x told = search.ascended x told
answered_at (step.Found r) x told = x
answered_at step.Nobody x told = x

abbrev pub answered : search.Ascent → Bool → search.Ascent
answered x told = answered_at (search.leads_to x) x told

abbrev pub passed : search.Ascent → Bool → search.Ascent
passed x there = if there then search.gone_on x else search.begun_anew x

abbrev pub ascent_after : Stage → search.Ascent → Answer → search.Ascent
ascent_after (stage.Searching n) x h = answered x (is_heard h)
ascent_after (stage.Erasing r) x h = passed x (is_heard h)
ascent_after _ x h = x

abbrev pub erased_at : Step → ℕ → Stage
erased_at step.Again next = stage.Searching next
erased_at (step.Found r) next = stage.Erasing r
erased_at step.Nobody next = stage.Left

abbrev pub erased : search.Ascent → Stage
erased x = erased_at (search.leads_to x) (search.asked_next x)

abbrev pub stage_after : Stage → search.Ascent → Answer → Stage
stage_after stage.Beginning x h = stage.Searching (search.asked_next x)
stage_after (stage.Searching n) x h = erased x
stage_after (stage.Erasing r) x h =
    if r == MASK24 then stage.Closing else stage.Searching (search.asked_next x)
stage_after stage.Left x h = if is_heard h then stage.Erasing MASK24 else stage.Closing
stage_after stage.Closing x h = stage.Ended
stage_after stage.Ended x h = stage.Ended

-- THE MACHINE: where it is, how many frames of the transaction were sent, its search, and how often
-- in a row the transaction was lost
abbrev pub begun : Eraser
begun = record { stage = stage.Beginning; sent = 0; ascent = search.ascent_at_first; lost = 0 }

abbrev pub finished : Eraser → Answer → Eraser
finished e h =
    let x = ascent_after e.stage e.ascent h in
    record { stage = stage_after e.stage x h; sent = 0; ascent = x; lost = 0 }

abbrev pub gone_on : Eraser → Answer → Option Forward → Eraser
gone_on e h (Some f) = record e { sent = min (e.sent + 1) 255 }
gone_on e h None = finished e h

abbrev pub heard_once : Eraser → Answer → Eraser
heard_once e h = gone_on e h (frame_at e.stage (min (e.sent + 1) 255))

-- a lost frame lets the transaction begin again, seven times in a row at most
abbrev pub lost_once : Eraser → Eraser
lost_once e = record {
  stage = (if nat_le 8 (min (e.lost + 1) 255) then stage.Ended else e.stage);
  sent = 0;
  ascent = e.ascent;
  lost = min (e.lost + 1) 255;
}

abbrev pub erasing_told : Eraser → Input → Eraser
erasing_told e (Heard h) = heard_once e h
erasing_told e _ = lost_once e
