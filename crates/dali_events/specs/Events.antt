use Rattle.std.specs.Prelude.{ℕ, Bool, Option, Some, None, nat_eq, option_and_then, option_map}
use Rattle.std.specs.Option.{option_eq}
use Rattle.dali_frame.specs.declared.frames.Forward.{Forward}
use Rattle.dali_frame.specs.declared.frames.Answer.{Answer}
use Rattle.dali_events.specs.declared.event.Event.{Event}
use Rattle.dali_events.specs.declared.event.Event.TheVariants as event
use Rattle.dali_events.specs.declared.event.Outside.{Outside}
use Rattle.dali_events.specs.declared.event.Outside.TheVariants as outside
use Rattle.dali_events.specs.declared.event.Sending.{Sending}

-- WHAT AN EVENT SAYS OF ITSELF.

-- the frame that it puts on the bus for gear to take, all of them or some; of two that collided
-- neither counts
abbrev pub sending : Event → Option Sending
sending (event.Sent c f h) = Some (record { sender = c; frame = f; heard = Some h })
sending (event.Destroyed c f set) = Some (record { sender = c; frame = f; heard = None })
sending _ = None

abbrev pub frame_in : Event → Option Forward
frame_in e = option_map (λ s. s.frame) (sending e)

-- what was heard after it, if it was not destroyed
abbrev pub heard_in : Event → Option Answer
heard_in e = option_and_then (λ s. s.heard) (sending e)

-- the controller whose step it is
abbrev pub whose_step : Event → Option ℕ
whose_step (event.Acted c i o) = Some c
whose_step (event.Offered c f) = Some c
whose_step _ = None

abbrev pub is_step_of : ℕ → Event → Bool
is_step_of c e = option_eq nat_eq (whose_step e) (Some c)

-- THE EVENT that something from outside is
abbrev pub event_of : Outside → Event
event_of outside.Lapse = event.Lapsed
event_of outside.Quiet = event.Quiet
event_of (outside.Foreign f) = event.Foreign f
event_of (outside.Power g on) = event.Power g on
event_of (outside.Expire g) = event.Expired g
event_of (outside.Down c) = event.Down c
