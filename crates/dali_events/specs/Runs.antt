use Rattle.std.specs.Prelude.{◌≡◌, ◌⊎◌, ℕ, ◌<◌, List, [], ◌∷◌, length, map}
use Rattle.std.specs.List.{AllByRecursion}
use Rattle.dali_frame.specs.Random.{MASK24}
use Rattle.dali_script.specs.declared.records.Record.TheVariants.{Reserve}
use Rattle.dali_script.specs.Records.{Has, IsOnce}
use Rattle.dali_script.specs.declared.orders.Input.{Input}
use Rattle.dali_script.specs.declared.orders.Order.TheVariants.{Commit}
use Rattle.dali_events.specs.declared.event.Event.{Event}
use Rattle.dali_events.specs.declared.event.Event.TheVariants as event
use Rattle.dali_events.specs.declared.used.Used.{Used}
use Rattle.dali_events.specs.Used.{used_shorts}
use Rattle.dali_events.specs.Plan.{Plan, IsPlan}
use Rattle.dali_events.specs.World.{World, gear_at, start}
use Rattle.dali_events.specs.Happens.{happens}
use Rattle.dali_events.specs.Allowed.{Allowed}

-- the world after a list of events, oldest first
abbrev pub after_all : World → List Event → World
after_all w [] = w
after_all w (e ∷ es) = after_all (happens w e) es

-- each event is allowed in the world that those before it leave
abbrev pub AllAllowed : World → List Event → Type 0
AllAllowed w [] = Unit {0}
AllAllowed w (e ∷ es) = Allowed w e × AllAllowed (happens w e) es

-- THE WORLD after a log, of a site with this plan on which so many requests may wait.
abbrev pub after : Plan → ℕ → List Event → World
after p capacity log = after_all (start p capacity) log

-- an event that is no order to keep a reservation of a short address that used gear have
abbrev pub LeavesUsed : List Used → Event → Type 0
LeavesUsed us e =
    (c : ℕ) (i : Input) (a r : ℕ) → e ≡ event.Acted c i (Commit (Reserve a r))
    → Has (used_shorts us) a → ⊥

-- A RUN: a plan, and a list of events each of which is allowed when it happens. No controller
-- reserves a short address that used gear have.
pub record IsRun (p : Plan) (capacity : ℕ) (log : List Event) : Type 0 where
  pub plan : IsPlan p
  pub allowed : AllAllowed (start p capacity) log
  pub leaves : AllByRecursion (LeavesUsed p.used) log

-- THE DRAWER of a number: the gear that stands with it in the history of draws.
abbrev pub IsDrawer : World → ℕ → ℕ → Type 0
IsDrawer w g r = Has w.drawn (g, r)

-- Each gear's random address is FFFFFF or was drawn by that gear; no number was drawn twice, and
-- none is FFFFFF.
pub record AreDrawn (w : World) : Type 0 where
  pub random : (g : ℕ) → g < length w.gear → ((gear_at w g).random ≡ MASK24)
      ⊎ IsDrawer w g (gear_at w g).random
  pub once : IsOnce (map (λ draw. draw.1) w.drawn)
  pub below : (g r : ℕ) → IsDrawer w g r → r < MASK24
