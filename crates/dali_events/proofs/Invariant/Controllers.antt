use Rattle.std.proofs.Common.{◌≡◌, ℕ, ◌<◌, Bool, true, false, List, refl, ◌∙◌, length, length-set, get_or, Option, Some, None}
use Rattle.dali_special.specs.Command.{command_of}
use Rattle.dali_script.specs.{Findings.{search_of, asked_of, found_by, later}, Records.Kept, declared.{finding.Finding.Finding, orders.Input.Input}}
use Rattle.dali_script.{specs.declared.{orders.Order.{Order, TheVariants.Commit}, records.Record.Record}, proofs.Members.{Each, each_changed}}
use Rattle.dali_events.specs.{Events.{event_of, whose_step}, Happens.{happens, with_outstanding, controller_informed, controller_acted, trace_running}}
use Rattle.dali_events.specs.{Happens.{told_sent, told_destroyed, told_lapsed, owner_told, gone_down, come_up}, World.{World, Controller, controller_at}}
use Rattle.dali_events.specs.{World.nobody, declared.event.{Event.Event, Outside.Outside}}
use Rattle.dali_script.specs.declared.orders.Input.TheVariants as input
use Rattle.dali_events.specs.declared.event.Event.TheVariants as event
use Rattle.dali_events.specs.declared.event.Outside.TheVariants as outside

-- what happens from outside is no controller's step
pub nobodys_step : (x : Outside) → whose_step (event_of x) ≡ None
nobodys_step outside.Lapse = refl
nobodys_step _ = refl

-- WHAT AN EVENT DOES TO THE CONTROLLERS, for any property of what a controller keeps, its outstanding record and its
-- finding that stands when the record is kept, when it is dropped, and when the finding is forgotten.
abbrev pub Property : Type 1
Property = ℕ → Kept → Option Record → Option Finding → Type 0

pub record Stands (P : Property) : Type 0 where
  pub keep : (c : ℕ) (kept : Kept) (o : Option Record) (f : Option Finding) → P c kept o f → P c (with_outstanding kept o) None f
  pub drop : (c : ℕ) (kept : Kept) (o : Option Record) (f : Option Finding) → P c kept o f → P c kept None f
  pub forget : (c : ℕ) (kept : Kept) (o : Option Record) (f : Option Finding) → P c kept o f → P c kept o None

abbrev pub Of : Property → ℕ → Controller → Type 0
Of P c k = P c k.records k.outstanding k.finding

-- what a Commit order and a frame add
abbrev pub AddsOrder : Property → ℕ → Controller → Order → Type 0
AddsOrder P c k (Commit x) = Of P c k → P c k.records (Some x) k.finding
AddsOrder P c k _ = Unit {0}

abbrev pub Adds : Property → World → Event → Type 0
Adds P w (event.Acted c i o) = AddsOrder P c (controller_informed (controller_at w c) i) o
Adds P w (event.Sent c f h) =
    c < length w.controllers → Of P c (controller_at w c)
    → P c (controller_at w c).records (controller_at w c).outstanding
    (later (controller_at w c).finding (found_by (search_of (trace_running w c)) (asked_of (trace_running w c)) (command_of f) h))
Adds P w _ = Unit {0}

informed_stands : (P : Property) (s : Stands P) (c : ℕ) (k : Controller) (i : Input) → Of P c k → Of P c (controller_informed k i)
informed_stands P s c k input.Committed h = s.keep c k.records k.outstanding k.finding h
informed_stands P s c k _ h = h

acted_stands : (P : Property) (s : Stands P) (c : ℕ) (k : Controller) (i : Input) (o : Order) → AddsOrder P c (controller_informed k i) o → Of P c k
    → Of P c (controller_acted k i o)
acted_stands P s c k i (Commit x) adds h = adds (informed_stands P s c k i h)
acted_stands P s c k i _ adds h = informed_stands P s c k i h

owner_stands : (P : Property) (cs : List Controller) (o : Option ℕ) → Each nobody (Of P) cs → Each nobody (Of P) (owner_told cs o)
owner_stands P cs None each = each
owner_stands P cs (Some c) each = each_changed nobody (Of P) told_lapsed cs c (λ there h. h) each

up_stands : (P : Property) (s : Stands P) (c : ℕ) (k : Controller) (kept : Bool) → Of P c k → Of P c (come_up kept k)
up_stands P s c k true h = s.forget c (with_outstanding k.records k.outstanding) None k.finding (s.keep c k.records k.outstanding k.finding h)
up_stands P s c k false h = s.forget c k.records None k.finding (s.drop c k.records k.outstanding k.finding h)

pub controllers_step : (P : Property) (s : Stands P) (w : World) (e : Event) → Adds P w e → Each nobody (Of P) w.controllers
    → Each nobody (Of P) (happens w e).controllers
controllers_step P s w (event.Acted c i o) adds each =
    each_changed nobody (Of P) (λ k. controller_acted k i o) w.controllers c (λ there h. acted_stands P s c (controller_at w c) i o adds h) each
controllers_step P s w (event.Sent c f h) adds each = each_changed nobody (Of P) (told_sent (trace_running w c) f h) w.controllers c adds each
controllers_step P s w (event.Destroyed c f set) adds each = each_changed nobody (Of P) (told_destroyed f) w.controllers c (λ there h. h) each
controllers_step P s w (event.Collided c f d g) adds each =
    each_changed nobody (Of P) (told_destroyed g) _ d (λ there h. h) (each_changed nobody (Of P) (told_destroyed f) w.controllers c (λ there h. h) each)
controllers_step P s w event.Lapsed adds each = owner_stands P w.controllers w.bus.owner each
controllers_step P s w (event.Down c) adds each =
    each_changed nobody (Of P) gone_down w.controllers c
    (λ there h. s.forget c (controller_at w c).records (controller_at w c).outstanding (controller_at w c).finding h) each
controllers_step P s w (event.Up c kept) adds each =
    each_changed nobody (Of P) (come_up kept) w.controllers c (λ there h. up_stands P s c (controller_at w c) kept h) each
controllers_step P s w _ adds each = each

-- there are as many as before
owner_count : (cs : List Controller) (o : Option ℕ) → length (owner_told cs o) ≡ length cs
owner_count cs None = refl
owner_count cs (Some c) = length-set cs c (told_lapsed (get_or cs c nobody))

pub controllers_count : (w : World) (e : Event) → length (happens w e).controllers ≡ length w.controllers
controllers_count w (event.Acted c i o) = length-set w.controllers c _
controllers_count w (event.Sent c f h) = length-set w.controllers c _
controllers_count w (event.Destroyed c f set) = length-set w.controllers c _
controllers_count w (event.Collided c f d g) = length-set _ d _ ∙ length-set w.controllers c _
controllers_count w event.Lapsed = owner_count w.controllers w.bus.owner
controllers_count w (event.Down c) = length-set w.controllers c _
controllers_count w (event.Up c kept) = length-set w.controllers c _
controllers_count w _ = refl
