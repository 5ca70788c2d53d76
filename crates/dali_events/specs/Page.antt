use Rattle.std.specs.Prelude.{◌≡◌, ◌↔◌, ℕ, ◌+◌, ◌<◌, true, false, ◌&&◌, nat_le, if◌then◌else◌}
use Rattle.std.specs.Prelude.{Option, None, Some, List, [], ◌∷◌, ◌++◌, length, map, replicate}
use Rattle.dali_gear.specs.Gear.{fresh}
use Rattle.dali_script.specs.declared.block.Block.{Block}
use Rattle.dali_script.specs.Records.{Has}
use Rattle.dali_script.specs.declared.records.Record.{Record}
use Rattle.dali_script.specs.declared.records.Record.TheVariants.{Reserve, Enrol, Release}
use Rattle.dali_script.specs.declared.orders.Input.{Input}
use Rattle.dali_script.specs.declared.orders.Input.TheVariants as input
use Rattle.dali_special.specs.Command.{command_of}
use Rattle.dali_statement.specs.Page.{Plan, Gear, Moment, Sent, Destroyed, Reserves, Enrols}
use Rattle.dali_statement.specs.Page.{Releases, Power, Expires, Command, Heard, gear_after, start}
use Rattle.dali_statement.specs.Page.{after, IsHistory}
use Rattle.dali_statement.specs.Scripts.{heard_seen, said_of}
use Rattle.dali_statement.specs.Gear.{command_seen, gear_seen}
use Rattle.dali_events.specs.declared.event.Event.{Event}
use Rattle.dali_events.specs.declared.event.Event.TheVariants as event
use Rattle.dali_events.specs.Plan.{Plan as SitePlan}
use Rattle.dali_events.specs.Used.{with_used}
use Rattle.dali_events.specs.World.{Controller, World, controller_at, start as site_start}
use Rattle.dali_events.specs.Happens.{happens}
use Rattle.dali_events.specs.Runs.{after as after_log}

-- PLANS AND RUNS AS THE PAGE OF `dali_statement` SEES THEM.

-- the controller in whose block a short address lies; of these, the first has this number
abbrev pub owner_in : List Block → ℕ → ℕ → ℕ
owner_in [] c a = c
owner_in (b ∷ bs) c a =
    if nat_le b.first a && nat_le a b.last then c else owner_in bs (c + 1) a

-- no controller has records yet
abbrev pub plan_seen : SitePlan → Plan
plan_seen p = record {
  gear = map gear_seen (with_used (replicate p.gear fresh) p.used);
  block = owner_in p.blocks 0;
  reserved = λ c a. None;
  enrolled = λ c a r. false;
}

-- ---------------------------------------------------------------- a log, read event by event

-- a record that is kept is one moment; that a gear was told to have another address, b, is the
-- page's premise of a release
abbrev pub IsKeeping : ℕ → Option Record → List Moment → Type 0
IsKeeping c None ms = ms ≡ []
IsKeeping c (Some (Reserve a r)) ms = ms ≡ Reserves c a r ∷ []
IsKeeping c (Some (Enrol a r)) ms = ms ≡ Enrols c a r ∷ []
IsKeeping c (Some (Release a r)) ms = (b : ℕ) × (ms ≡ Releases c a r b ∷ [])

-- the record that is kept when a controller acts on this
abbrev pub kept_by : Controller → Input → Option Record
kept_by k input.Committed = k.outstanding
kept_by k input.Start = None
kept_by k input.Survey = None
kept_by k (input.Heard h) = None
kept_by k input.Destroyed = None
kept_by k input.Lapsed = None
kept_by k input.CommitFailed = None

-- THE MOMENT that an event is, if it is one: the frame of a controller, with its sender, and with
-- what was heard or that it was destroyed; a kept record; power, and time that is over. The page
-- sees nothing of orders, of a bus that lapses or is quiet, and of frames of other devices.
abbrev pub IsMoment : World → Event → List Moment → Type 0
IsMoment w (event.Acted c i o) ms = IsKeeping c (kept_by (controller_at w c) i) ms
IsMoment w (event.Offered c f) ms = ms ≡ []
IsMoment w (event.Sent c f h) ms =
    (reach : List (Option ℕ))
    × (ms ≡ Sent (command_seen (command_of f)) ((c, heard_seen h) ∷ []) reach ∷ [])
IsMoment w (event.Destroyed c f set) ms =
    (reach : List (Option (ℕ × ℕ)))
    × (ms ≡ Destroyed ((c, command_seen (command_of f)) ∷ []) reach ∷ [])
-- no gear takes either of two that collide
IsMoment w (event.Collided c f d g) ms =
    ms ≡ Destroyed ((c, command_seen (command_of f)) ∷ (d, command_seen (command_of g)) ∷ []) []
    ∷ []
IsMoment w event.Lapsed ms = ms ≡ []
IsMoment w event.Quiet ms = ms ≡ []
IsMoment w (event.Foreign f) ms = ms ≡ []
IsMoment w (event.Power g on) ms = (reach : List (Option ℕ)) × (ms ≡ Power reach ∷ [])
IsMoment w (event.Expired g) ms = (reach : List (Option ℕ)) × (ms ≡ Expires reach ∷ [])
IsMoment w (event.Down c) ms = ms ≡ []
IsMoment w (event.Up c true) ms = IsKeeping c (controller_at w c).outstanding ms
IsMoment w (event.Up c false) ms = ms ≡ []

abbrev pub gear_all : List Moment → List Gear → List Gear
gear_all [] gs = gs
gear_all (m ∷ ms) gs = gear_all ms (gear_after m gs)

-- A LOG, READ EVENT BY EVENT: its moments, in its order; each leaves the gear as the site has them.
abbrev pub AreSeenAs : World → List Event → List Moment → Type 0
AreSeenAs w [] ms = ms ≡ []
AreSeenAs w (e ∷ es) ms =
    (now : List Moment) × (later : List Moment) × (ms ≡ now ++ later) × IsMoment w e now
    × (gear_all now (map gear_seen w.gear) ≡ map gear_seen (happens w e).gear)
    × AreSeenAs (happens w e) es later

-- A HISTORY OF THE PAGE that leads to a world: with its gear, and with the records of its
-- controllers. The owner of the bus has in its list what its transaction has said, and what it said
-- before.
pub record LeadsTo (p : SitePlan) (w : World) (ms : List Moment) : Type 0 where
  pub history : IsHistory (plan_seen p) ms
  pub gear : (after (start (plan_seen p)) ms).gear ≡ map gear_seen w.gear
  pub said : (c : ℕ) → w.bus.owner ≡ Some c → (older : List (Command × Heard))
      × ((after (start (plan_seen p)) ms).said c ≡ said_of w.trace ++ older)
  pub reserved : (c a r : ℕ) → c < length w.controllers
      → Has (controller_at w c).records.reserved (a, r)
      ↔ ((after (start (plan_seen p)) ms).reserved c a ≡ Some r)
  pub enrolled : (c a r : ℕ) → c < length w.controllers
      → Has (controller_at w c).records.enrolled (a, r)
      → (after (start (plan_seen p)) ms).enrolled c a r ≡ true

-- THE LOG IS THIS HISTORY of the page, which leads to the world after it.
pub record IsReadAs (p : SitePlan) (capacity : ℕ) (log : List Event)
    (ms : List Moment) : Type 0 where
  pub moments : AreSeenAs (site_start p capacity) log ms
  pub leads : LeadsTo p (after_log p capacity log) ms

-- ---------------------------------------------------------------- frames

-- a frame with its sender, and what was heard if it was not destroyed
abbrev pub FrameSeen : Type 0
FrameSeen = ℕ × Command × Option Heard

abbrev pub frames_at : Moment → List FrameSeen
frames_at (Sent x senders reach) = map (λ w. (w.0, x, Some w.1)) senders
frames_at (Destroyed frames reach) = map (λ f. (f.0, f.1, None)) frames
frames_at _ = []

abbrev pub frames_in : List Moment → List FrameSeen
frames_in [] = []
frames_in (m ∷ ms) = frames_at m ++ frames_in ms

abbrev pub frames_by : Event → List FrameSeen
frames_by (event.Sent c f h) = (c, command_seen (command_of f), Some (heard_seen h)) ∷ []
frames_by (event.Destroyed c f set) = (c, command_seen (command_of f), None) ∷ []
frames_by (event.Collided c f d g) =
    (c, command_seen (command_of f), None) ∷ (d, command_seen (command_of g), None) ∷ []
frames_by _ = []

abbrev pub frames_of : List Event → List FrameSeen
frames_of [] = []
frames_of (e ∷ es) = frames_by e ++ frames_of es
