use Rattle.std.specs.Prelude.{◌≡◌, ℕ, ◌+◌, ◌<◌, ◌==◌, ◌&&◌, Bool, true, false, List, [], ◌∷◌, Some}
use Rattle.std.specs.Prelude.{None, if◌then◌else◌}
use Rattle.std.specs.List.{AllByRecursion}
use Rattle.dali_frame.specs.declared.frames.Answer.{Answer}
use Rattle.dali_frame.specs.declared.frames.Answer.TheVariants.{Silence}
use Rattle.dali_special.specs.declared.command.Command.{Command}
use Rattle.dali_special.specs.declared.command.Command.TheVariants.{RandomByte}
use Rattle.dali_special.specs.declared.command.Part.TheVariants.{High}
use Rattle.dali_special.specs.Command.{command_of}
use Rattle.dali_gear.specs.declared.row.Reach.TheVariants.{Everyone}
use Rattle.dali_gear.specs.Row.{answers_of, heard_of}
use Rattle.dali_script.specs.Records.{Has, InBlock}
use Rattle.dali_script.specs.declared.orders.Input.TheVariants as input
use Rattle.dali_controller.specs.Machine.{Machine, at_first}
use Rattle.dali_events.specs.declared.event.Event.{Event}
use Rattle.dali_events.specs.declared.event.Event.TheVariants as event
use Rattle.dali_events.specs.declared.used.Used.{Used}
use Rattle.dali_events.specs.Used.{used_shorts}
use Rattle.dali_events.specs.Plan.{Plan, block_at}
use Rattle.dali_events.specs.World.{gear_at, controller_at}
use Rattle.dali_events.specs.Allowed.{Allowed}
use Rattle.dali_standing.specs.Seats.{Waits, MayAnswer, LeavesWhole}
use Rattle.dali_world.specs.Site.{SiteState, world, machine_at, site_logged, WasOrdered}

-- USED GEAR ARE LEFT ALONE by controllers that survey, and hear them.

-- ---------------------------------------------------------------- what calls add to a log

-- WHAT IS SO OF EACH EVENT that a call of a site adds to its log, by the contracts of `act` and
-- `pump`. A controller that acts waits for its input; its machine gives the order, and is whole
-- afterwards. A frame that is sent is what its sender ordered last, or direct arc power.
abbrev pub IsOfCall : SiteState → Event → Type 0
IsOfCall s (event.Acted c i o) =
    Waits (machine_at s c) i × MayAnswer (machine_at s c) i o × LeavesWhole (machine_at s c) i o
IsOfCall s (event.Sent c f h) = WasOrdered s c f
IsOfCall s _ = Unit {0}

-- events that calls add, one after the other
abbrev pub AreOfCalls : SiteState → List Event → Type 0
AreOfCalls s [] = Unit {0}
AreOfCalls s (e ∷ es) = Allowed (world s) e × IsOfCall s e × AreOfCalls (site_logged s e) es

-- A CONTROLLER THAT HAS JUST BEGUN, as at the start of the site and when it comes up again: it is
-- to start, and its machine knows its records alone, which are of its block.
pub record HasJustBegun (s : SiteState) (c : ℕ) : Type 0 where
  pub told : (controller_at (world s) c).told ≡ Some input.Start
  pub last : (controller_at (world s) c).last ≡ None
  pub machine : machine_at s c ≡ Some (at_first c (controller_at (world s) c).records)
  pub block : (controller_at (world s) c).records.block ≡ block_at s.plan c

-- ---------------------------------------------------------------- who hears the used gear

-- the short addresses of the block of controller c that used gear have
abbrev pub IsUsedOf : Plan → ℕ → ℕ → Type 0
IsUsedOf p c a = InBlock (block_at p c) a × Has (used_shorts p.used) a

-- IT SURVEYS each time that it begins, and never acts on Start.
abbrev pub BeginsBySurveys : ℕ → Event → Type 0
BeginsBySurveys c (event.Acted d i o) = d ≡ c → i ≡ input.Start → ⊥
BeginsBySurveys c _ = Unit {0}

-- a query of the first byte of a random address, of the gear with this short address
abbrev pub asks_first : ℕ → Command → Bool
asks_first a (RandomByte b High) = b == a
asks_first a _ = false

abbrev pub is_silence : Answer → Bool
is_silence Silence = true
is_silence h = false

-- HOW OFTEN controller c heard silence after such a query since it came up, by one event more
abbrev pub silences_after : ℕ → ℕ → ℕ → Event → ℕ
silences_after c a n (event.Sent d f h) =
    if (d == c) && (asks_first a (command_of f) && is_silence h) then n + 1 else n
silences_after c a n (event.Up d kept) = if d == c then 0 else n
silences_after c a n _ = n

-- it is never so three times
abbrev pub IsHeardInTime : ℕ → ℕ → ℕ → List Event → Type 0
IsHeardInTime c a n [] = Unit {0}
IsHeardInTime c a n (e ∷ es) =
    (silences_after c a n e < 3) × IsHeardInTime c a (silences_after c a n e) es

-- A CONTROLLER THAT HEARS THE USED GEAR of its block: when controller c begins, it does so by a
-- survey; and of its questions to each of their short addresses it hears silence at most twice
-- before it begins anew. A damaged answer is heard.
abbrev pub HearsUsed : Plan → ℕ → List Event → Type 0
HearsUsed p c es =
    AllByRecursion (BeginsBySurveys c) es
    × ((a : ℕ) → IsUsedOf p c a → IsHeardInTime c a 0 es)

-- ITS QUESTIONS ARE OVER, if it has gone on to the gear that have no short address; and it does
-- not begin anew.
abbrev pub HasAsked : SiteState → ℕ → Type 0
HasAsked s c = (m : Machine) × (machine_at s c ≡ Some m) × (m.course.opened ≡ true)

abbrev pub StaysBegun : ℕ → Event → Type 0
StaysBegun c (event.Up d kept) = d ≡ c → ⊥
StaysBegun c _ = Unit {0}

-- WHY IT HEARS THEM: it surveys each time that it begins; each used gear of its block that it asks
-- so has power then, and nothing disturbs the answer.
abbrev pub AsksInPeace : SiteState → ℕ → Event → Type 0
AsksInPeace s c (event.Acted d i o) = d ≡ c → i ≡ input.Start → ⊥
AsksInPeace s c (event.Sent d f h) =
    (u : Used) → d ≡ c → Has s.plan.used u → InBlock (block_at s.plan c) u.short
    → command_of f ≡ RandomByte u.short High
    → ((gear_at (world s) u.gear).powered ≡ true)
    × (h ≡ heard_of (answers_of Everyone (command_of f) 0 (world s).gear))
AsksInPeace s c _ = Unit {0}

-- all used gear have power
abbrev pub HavePower : SiteState → Type 0
HavePower s =
    (u : Used) → Has s.plan.used u → (gear_at (world s) u.gear).powered ≡ true

abbrev pub AllAskInPeace : SiteState → ℕ → List Event → Type 0
AllAskInPeace s c [] = Unit {0}
AllAskInPeace s c (e ∷ es) = AsksInPeace s c e × AllAskInPeace (site_logged s e) c es
