use Rattle.std.specs.Prelude.{ℕ, ◌-◌, ◌^◌, min, Bool, true, false, ◌==◌, ◌||◌, Option, Some, None}
use Rattle.std.specs.Prelude.{is_some, if◌then◌else◌}
use Rattle.dali_wire.specs.declared.receiver.Told.{Told}
use Rattle.dali_wire.specs.declared.receiver.Receiver.{Receiver}
use Rattle.dali_wire.specs.declared.receiver.Reading.TheVariants.{Spoilt}
use Rattle.dali_wire.specs.Reception.{told_of, reading_after, lasted_after}
use Rattle.dali_capture.specs.declared.item.Item.{Item}
use Rattle.dali_capture.specs.declared.ear.Ear.{Ear}
use Rattle.dali_capture.specs.Items.{heard_of}

-- WHAT IS HEARD OF A WIRE. Before the bus was seen at rest, high for a stop condition, it is not
-- known where a frame begins, so what comes before is not told: the receiver is spoilt at first.
abbrev pub ear_at_first : Bool → ℕ → Ear
ear_at_first low now = record {
  receiver = record { reading = Spoilt; is_low = low; lasted = 0 };
  has_rested = false;
  begun = now;
  edge = now;
}

-- how many µs ago the last edge was, as far as a receiver counts
abbrev pub since : Ear → ℕ → ℕ
since ear now = min (now - ear.edge) (2 ^ 32 - 1)

-- an item began with the first edge of its frame and is over with the last one
abbrev pub told_by : Ear → Option Told → Option Item
told_by ear None = None
told_by ear (Some told) =
    if ear.has_rested
    then Some (record { at = ear.begun; until = ear.edge; what = heard_of told.frame })
    else None

abbrev pub edge_told : Ear → ℕ → Option Item
edge_told ear now = told_by ear (told_of ear.receiver (since ear now))

abbrev pub receiver_after : Ear → Bool → ℕ → Receiver
receiver_after ear low now = record {
  reading = reading_after ear.receiver.reading ear.receiver.is_low low (since ear now);
  is_low = low;
  lasted = lasted_after ear.receiver (since ear now);
}

-- a frame that has lasted no time begins with this edge
abbrev pub ear_after_edge : Ear → Bool → ℕ → Ear
ear_after_edge ear low now = record {
  receiver = receiver_after ear low now;
  has_rested = ear.has_rested || is_some (told_of ear.receiver (since ear now));
  begun = if lasted_after ear.receiver (since ear now) == 0 then now else ear.begun;
  edge = now;
}

-- whether two levels are one
abbrev pub is_same : Bool → Bool → Bool
is_same true low = low
is_same false true = false
is_same false false = true

-- the first level that is known is no edge, and neither is one that the wire has already
abbrev pub level_told : Option Ear → Bool → ℕ → Option Item
level_told None low now = None
level_told (Some ear) low now =
    if is_same ear.receiver.is_low low then None else edge_told ear now

abbrev pub ear_after_level : Option Ear → Bool → ℕ → Option Ear
ear_after_level None low now = Some (ear_at_first low now)
ear_after_level (Some ear) low now =
    if is_same ear.receiver.is_low low then Some ear else Some (ear_after_edge ear low now)
