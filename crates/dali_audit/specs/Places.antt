use Rattle.std.specs.Prelude.{ℕ, ◌+◌, Bool, true, false, ◌&&◌, ◌||◌, not, ◌==◌, nat_le}
use Rattle.std.specs.Prelude.{Option, Some, None, if◌then◌else◌, List, [], ◌∷◌, ◌++◌, option_map}
use Rattle.std.specs.List.{list_any}
use Rattle.dali_frame.specs.declared.frames.Forward.{Forward}
use Rattle.dali_frame.specs.declared.frames.Answer.{Answer}
use Rattle.dali_frame.specs.declared.frames.Answer.TheVariants as answer
use Rattle.dali_frame.specs.Random.{MASK24}
use Rattle.dali_special.specs.declared.command.Command.{Command}
use Rattle.dali_special.specs.declared.command.Command.TheVariants.{Terminate, Initialise}
use Rattle.dali_special.specs.declared.command.Command.TheVariants.{Randomise, Compare, Withdraw}
use Rattle.dali_special.specs.declared.command.Command.TheVariants.{SearchHigh, SearchMiddle}
use Rattle.dali_special.specs.declared.command.Command.TheVariants.{SearchLow, Program, Verify}
use Rattle.dali_special.specs.declared.command.Command.TheVariants.{QueryShort, RandomByte}
use Rattle.dali_special.specs.declared.command.Command.TheVariants.{Arc, Other}
use Rattle.dali_special.specs.Command.{command_of}
use Rattle.dali_capture.specs.declared.item.Item.{Item}
use Rattle.dali_audit.specs.declared.seen.Seen.{Seen}
use Rattle.dali_audit.specs.declared.seen.Seen.TheVariants as seen
use Rattle.dali_audit.specs.declared.bus.Bus.{Bus}
use Rattle.dali_audit.specs.declared.holders.Holder.{Holder}
use Rattle.dali_audit.specs.declared.holders.Holder.TheVariants as holder
use Rattle.dali_audit.specs.declared.holders.Change.{Change}
use Rattle.dali_audit.specs.declared.holders.Change.TheVariants as change
use Rattle.dali_audit.specs.declared.places.Place.{Place}
use Rattle.dali_audit.specs.declared.places.Reading.{Reading}
use Rattle.dali_audit.specs.Seen.{seen_of}
use Rattle.dali_audit.specs.Bus.{completes, number, same_place}
use Rattle.dali_audit.specs.Holders.{change_of, holder_at, was_given}
use Rattle.dali_audit.specs.Findings.{known_at_first, known_after, first_of}

-- THE GEAR THAT A CAPTURE REVEALS: those that told their random address, and those that got a short
-- address and confirmed it.

-- one without a short address drew its number at the last RANDOMISE, and is played from the
-- INITIALISE before that on
abbrev pub unaddressed : ℕ → Reading → Place
unaddressed r rd = record { random = r; short = None; from = rd.from; draw = rd.draw }

-- one that was heard under a short address that was not programmed in the capture had it before,
-- unless such gear may have drawn
abbrev pub used : ℕ → ℕ → Reading → Option Place
used a r rd =
    if rd.redrawn
    then None
    else Some (record { random = r; short = Some a; from = 0; draw = None })

abbrev pub told_place : ℕ → ℕ → Reading → Option Place
told_place a r rd =
    if was_given r (holder_at rd.known.table a) then Some (unaddressed r rd) else used a r rd

abbrev pub verified_place : Holder → Reading → Option Place
verified_place (holder.Programmed r) rd = Some (unaddressed r rd)
verified_place (holder.Verified r) rd = None
verified_place (holder.Answered r) rd = None
verified_place holder.Nobody rd = None
verified_place holder.Somebody rd = None

-- QUERY SHORT ADDRESS that is answered FF: a gear without one is at the search address
abbrev pub is_mask : Answer → Bool
is_mask (answer.Byte byte) = byte == 0xFF
is_mask answer.Silence = false
is_mask answer.Damaged = false

abbrev pub asks_at : Command → Bool
asks_at QueryShort = true
asks_at Terminate = false
asks_at (Initialise target) = false
asks_at Randomise = false
asks_at Compare = false
asks_at Withdraw = false
asks_at (SearchHigh byte) = false
asks_at (SearchMiddle byte) = false
asks_at (SearchLow byte) = false
asks_at (Program a) = false
asks_at (Verify a) = false
asks_at (RandomByte a part) = false
asks_at (Arc f) = false
asks_at (Other f) = false

abbrev pub masked_place : Seen → Reading → Option Place
masked_place (seen.Sent f heard) rd =
    if asks_at (command_of f) && is_mask heard
    then option_map (λ r. unaddressed r rd) (number rd.known.bus.search)
    else None
masked_place seen.Replied rd = None
masked_place seen.Stray rd = None
masked_place seen.Foreign rd = None
masked_place seen.Broken rd = None

abbrev pub revealed_by : Change → Seen → Reading → Option Place
revealed_by (change.Told a r) s rd = told_place a r rd
revealed_by (change.Verified a) s rd = verified_place (holder_at rd.known.table a) rd
revealed_by change.Nothing s rd = masked_place s rd
revealed_by (change.Given a r) s rd = None
revealed_by (change.Erased r) s rd = None
revealed_by (change.Answered a) s rd = None
revealed_by change.Redrawn s rd = None
revealed_by (change.Forgotten short) s rd = None

abbrev pub revealed : Item → Seen → Reading → Option Place
revealed x s rd = revealed_by (change_of rd.known.bus x s) s rd

-- WHICH INITIALISE AND RANDOMISE came last, by the numbers of their items
abbrev pub opened_by : Command → Bool → ℕ → Reading → Reading
opened_by (Initialise target) second n rd =
    if second then record rd { started = rd.opened } else record rd { opened = n }
opened_by Randomise second n rd =
    if second
    then record rd {
      draw = Some n;
      from = rd.started;
      redrawn = rd.redrawn || rd.known.bus.may_redraw;
    }
    else rd
opened_by Terminate second n rd = rd
opened_by Compare second n rd = rd
opened_by Withdraw second n rd = rd
opened_by (SearchHigh byte) second n rd = rd
opened_by (SearchMiddle byte) second n rd = rd
opened_by (SearchLow byte) second n rd = rd
opened_by (Program a) second n rd = rd
opened_by (Verify a) second n rd = rd
opened_by QueryShort second n rd = rd
opened_by (RandomByte a part) second n rd = rd
opened_by (Arc f) second n rd = rd
opened_by (Other f) second n rd = rd

abbrev pub opened_after : ℕ → Item → Seen → Reading → Reading
opened_after n x (seen.Sent f heard) rd =
    opened_by (command_of f) (completes rd.known.bus.half x.until f) n rd
opened_after n x seen.Replied rd = rd
opened_after n x seen.Stray rd = rd
opened_after n x seen.Foreign rd = rd
opened_after n x seen.Broken rd = rd

abbrev pub known_more : Item → Seen → Reading → Reading
known_more x s rd = record rd { known = known_after x s rd.known }

abbrev pub reading_after : ℕ → Item → Seen → Reading → Reading
reading_after n x s rd = known_more x s (opened_after n x s rd)

abbrev pub reading_at_first : Reading
reading_at_first = record {
  known = known_at_first;
  draw = None;
  from = 0;
  started = 0;
  opened = 0;
  redrawn = false;
}

-- each gear once, and one alone under a short address that it had before
unfoldable pub is_same : Place → Place → Bool
is_same p q = (p.random == q.random) || same_place p.short q.short

abbrev pub has_same : List Place → Place → Bool
has_same ps p = list_any (λ q. is_same q p) ps

abbrev pub is_there : List Place → Place → Bool
is_there ps p = has_same ps p || (p.random == MASK24)

abbrev pub placed_with : Option Place → List Place → List Place
placed_with None ps = ps
placed_with (Some p) ps = if is_there ps p then ps else ps ++ (p ∷ [])

abbrev pub places_from : Reading → Option Item → ℕ → List Item → List Place → List Place
places_from rd before n [] ps = ps
places_from rd before n (x ∷ xs) ps =
    places_from
    (reading_after n x (seen_of before x (first_of xs)) rd)
    (Some x)
    (n + 1)
    xs
    (placed_with (revealed x (seen_of before x (first_of xs)) rd) ps)

abbrev pub places_in : List Item → List Place
places_in xs = places_from reading_at_first None 0 xs []
