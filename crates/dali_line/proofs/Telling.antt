use Rattle.std.proofs.Common.{◌≡◌, ℕ, ◌≤◌, Bool, true, false, List, [], ◌∷◌, refl, sym, subst, arith, length, zero, suc, nat_lt, map, IfSome, if◌then◌else◌}
use Rattle.std.proofs.lemmas.Bool.Decides.{nat_tests}
use Rattle.std.specs.declared.option.Option.{Option, TheVariants.None, TheVariants.Some}
use Rattle.dali_script.{specs.declared.block.Block.Block, specs.declared.orders.Input.Input, proofs.Members.Each, proofs.Members.each_changed}
use Rattle.dali_script.specs.declared.orders.Input.TheVariants as input
use Rattle.dali_events.specs.Happens.{happens, told_sent, told_destroyed, told_lapsed, owner_told, trace_running, controller_acted, gone_down, come_up}
use Rattle.dali_events.specs.{Runs.after_all, World.World, World.Controller, World.controller_at, World.controller_begun, World.nobody, World.start}
use Rattle.dali_events.specs.declared.event.Event.{Event}
use Rattle.dali_events.specs.declared.event.Event.TheVariants as event
use Rattle.dali_world.specs.Site.{SiteState, world}
use Rattle.dali_line.{specs.Steps.IsOfBus, proofs.Counts.nobody_there}

-- WHAT A CONTROLLER IS TOLD BY THE BUS is never what became of its commit.

abbrev Told : ℕ → Controller → Type 0
Told c k = IfSome k.told IsOfBus

told_stands : (is_arc : Bool) (i : Input) (was : Option Input) → IsOfBus i → IfSome was IsOfBus → IfSome (if is_arc then was else Some i) IsOfBus
told_stands true i was of before = before
told_stands false i was of before = of

owner_stands : (cs : List Controller) (owner : Option ℕ) → Each nobody Told cs → Each nobody Told (owner_told cs owner)
owner_stands cs None each = each
owner_stands cs (Some c) each = each_changed nobody Told told_lapsed cs c (λ there h. tt) each

step_tells : (w : World) (e : Event) → Each nobody Told w.controllers → Each nobody Told (happens w e).controllers
step_tells w (event.Acted c i o) each = each_changed nobody Told (λ k. controller_acted k i o) w.controllers c (λ there h. tt) each
step_tells w (event.Sent c f h) each =
    each_changed nobody Told (told_sent (trace_running w c) f h) w.controllers c
    (λ there was. told_stands _ (input.Heard h) _ tt was) each
step_tells w (event.Destroyed c f set) each =
    each_changed nobody Told (told_destroyed f) w.controllers c
    (λ there was. told_stands _ input.Destroyed _ tt was) each
step_tells w (event.Collided c f d g) each =
    each_changed nobody Told (told_destroyed g) _ d (λ there was. told_stands _ input.Destroyed _ tt was)
    (each_changed nobody Told (told_destroyed f) w.controllers c
    (λ there was. told_stands _ input.Destroyed _ tt was) each)
step_tells w event.Lapsed each = owner_stands w.controllers w.bus.owner each
step_tells w (event.Down c) each = each_changed nobody Told gone_down w.controllers c (λ there h. tt) each
step_tells w (event.Up c kept) each = each_changed nobody Told (come_up kept) w.controllers c (λ there h. tt) each
step_tells w _ each = each

all_tell : (w : World) (log : List Event) → Each nobody Told w.controllers → Each nobody Told (after_all w log).controllers
all_tell w [] each = each
all_tell w (e ∷ es) each = all_tell (happens w e) es (step_tells w e each)

begun_tell : (blocks : List Block) → Each nobody Told (map controller_begun blocks)
begun_tell [] i there = absurd (omega arith)
begun_tell (b ∷ bs) zero there = tt
begun_tell (b ∷ bs) (suc i) there = begun_tell bs i (omega arith)

pub told_of_bus : (s : SiteState) (c : ℕ) (told : Option Input) → told ≡ (controller_at (world s) c).told → IfSome told IsOfBus
told_of_bus s c told is = subst (λ (o : Option Input). IfSome o IsOfBus) (sym is) (go (nat_lt c (length (world s).controllers)) refl) where
  go : (b : Bool) → nat_lt c (length (world s).controllers) ≡ b → IfSome (controller_at (world s) c).told IsOfBus
  go true less = all_tell (start s.plan s.queue) s.log (begun_tell s.plan.blocks) c (grind (arith, nat_tests))
  go false past =
      let none : length (world s).controllers ≤ c = grind (arith, nat_tests) in
      subst (λ (k : Controller). IfSome k.told IsOfBus) (sym (nobody_there (world s) c none)) tt
