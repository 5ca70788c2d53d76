use Rattle.std.specs.Prelude.{◌≡◌, ◌⊎◌, ℕ, ◌<◌, true, List, [], ◌∷◌, length, Some, is_some}
use Rattle.dali_frame.specs.declared.frames.Answer.{Answer}
use Rattle.dali_frame.specs.declared.frames.Answer.TheVariants.{Byte}
use Rattle.dali_special.specs.declared.command.Command.{Command}
use Rattle.dali_special.specs.declared.command.Command.TheVariants.{QueryShort}
use Rattle.dali_special.specs.Command.{command_of}
use Rattle.dali_gear.specs.declared.row.Reach.TheVariants.{Everyone}
use Rattle.dali_gear.specs.Gear.{Gear, answer_to}
use Rattle.dali_gear.specs.Row.{answers_of, heard_of}
use Rattle.dali_arbiter.specs.declared.request.Request.{Request}
use Rattle.dali_script.specs.declared.orders.End.{End}
use Rattle.dali_script.specs.declared.orders.End.TheVariants.{AllFound, BlockFull, GaveUp}
use Rattle.dali_controller.specs.Machine.{Machine}
use Rattle.dali_events.specs.declared.event.Event.{Event}
use Rattle.dali_events.specs.declared.event.Event.TheVariants as event
use Rattle.dali_events.specs.Allowed.{Allowed}
use Rattle.dali_events.specs.Searching.{HasShort}
use Rattle.dali_events.specs.Wanted.{gear_of, OfPowered}
use Rattle.dali_world.specs.Site.{SiteState, world, machine_at, next_request, site_logged}
use Rattle.dali_progress.specs.Rounds.{IsOfRound}
use Rattle.dali_progress.specs.Ends.{IsBlockTaken}

-- ONE GEAR IS MISHEARD: when gear g answers QUERY SHORT ADDRESS, silence or a damaged frame may be
-- heard instead.

abbrev pub IsNoByte : Answer → Type 0
IsNoByte (Byte v) = ⊥
IsNoByte _ = Unit {0}

abbrev pub IsMisheard : ℕ → List Gear → Command → Answer → Type 0
IsMisheard g gs c h =
    (c ≡ QueryShort) × (is_some (answer_to QueryShort (gear_of gs g)) ≡ true) × IsNoByte h

abbrev pub IsHeardBut : ℕ → List Gear → Command → Answer → Type 0
IsHeardBut g gs c h =
    (h ≡ heard_of (answers_of Everyone c 0 gs)) ⊎ IsMisheard g gs c h

-- ROUNDS OF A SURVEY in which gear g is misheard at will, and all else is undisturbed
abbrev pub IsOfRoundBut : ℕ → SiteState → ℕ → Event → Type 0
IsOfRoundBut g s c (event.Sent d f h) =
    (r : Request) × (next_request s ≡ Some r) × (d ≡ r.sender) × (f ≡ r.frame)
    × IsHeardBut g (world s).gear (command_of f) h
IsOfRoundBut g s c e = IsOfRound true s c e

abbrev pub RoundsBut : ℕ → SiteState → ℕ → List Event → Type 0
RoundsBut g s c [] = Unit {0}
RoundsBut g s c (e ∷ es) =
    Allowed (world s) e × IsOfRoundBut g s c e × RoundsBut g (site_logged s e) c es

-- WHAT ITS END SAYS. With all-found, each gear with power has a short address. With block-full,
-- each address of the block is taken. If it gave up, it is so as well, or each gear with power
-- but g has a short address.
abbrev pub AreServedBut : ℕ → List Gear → Type 0
AreServedBut g gs =
    (k : ℕ) → k < length gs → (k ≡ g → ⊥) → (gear_of gs k).powered ≡ true
    → HasShort (gear_of gs k)

abbrev pub EndsWellBut : ℕ → End → Machine → List Gear → Type 0
EndsWellBut g AllFound m gs = OfPowered gs HasShort
EndsWellBut g BlockFull m gs = IsBlockTaken m
EndsWellBut g GaveUp m gs = AreServedBut g gs ⊎ IsBlockTaken m

abbrev pub IsTrueEndBut : ℕ → SiteState → ℕ → End → Type 0
IsTrueEndBut g s c e =
    (m : Machine) → machine_at s c ≡ Some m → EndsWellBut g e m (world s).gear
