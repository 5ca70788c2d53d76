use Rattle.std.proofs.Common.{◌≡◌, ℕ, Bool, true, false, refl, is_some, if◌then◌else◌}
use Rattle.dali_arbiter.specs.Arbiter.{Arbiter, owns, bus_lapsed, bus_freed, bus_muted, bus_taken, collision, bus_collided, bus_silenced}
use Rattle.dali_script.specs.declared.orders.Order.{Order, TheVariants.Put, TheVariants.Commit, TheVariants.Done, TheVariants.Halt}
use Rattle.dali_events.specs.{Happens.happens, Happens.gives_up, Happens.bus_acted, World.World, declared.event.Event.Event}
use Rattle.dali_events.specs.declared.event.Event.TheVariants as event

-- AS MANY REQUESTS MAY WAIT as at the start, whatever happens.

acted_capacity : (b : Arbiter) (c : ℕ) (o : Order) → (bus_acted b c o).capacity ≡ b.capacity
acted_capacity b c o = go o where
  freed_or : (x : Bool) → (if x then bus_lapsed b else b).capacity ≡ b.capacity
  freed_or true = refl
  freed_or false = refl

  go : (o' : Order) → (bus_acted b c o').capacity ≡ b.capacity
  go (Put p f) = freed_or (gives_up b c (Put p f))
  go (Commit x) = freed_or (gives_up b c (Commit x))
  go (Done x) = freed_or (gives_up b c (Done x))
  go (Halt x) = freed_or (gives_up b c (Halt x))

collided_capacity : (b : Arbiter) → (bus_collided b).capacity ≡ b.capacity
collided_capacity b = go (is_some (collision b.lists)) where
  go : (x : Bool) → (bus_freed (if x then bus_taken (bus_taken b) else bus_taken b)).capacity ≡ b.capacity
  go true = refl
  go false = refl

silenced_capacity : (b : Arbiter) (c : ℕ) → (bus_silenced b c).capacity ≡ b.capacity
silenced_capacity b c = go (owns b.owner c) where
  go : (x : Bool) → (if x then bus_freed (bus_muted b c) else bus_muted b c).capacity ≡ b.capacity
  go true = refl
  go false = refl

pub capacity_kept : (w : World) (e : Event) → (happens w e).bus.capacity ≡ w.bus.capacity
capacity_kept w (event.Acted c i o) = acted_capacity w.bus c o
capacity_kept w (event.Collided c f d g) = collided_capacity w.bus
capacity_kept w (event.Down c) = silenced_capacity w.bus c
capacity_kept w _ = refl
