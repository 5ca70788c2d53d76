use Rattle.std.specs.Prelude.{ℕ, ◌==◌, List, Option, Some, None, if◌then◌else◌}
use Rattle.std.specs.Int.{w64, from_le_bytes}
use Rattle.dali_controller.specs.declared.shorts.Shorts.{Shorts}
use Rattle.dali_controller.specs.declared.way.Way.{Way}
use Rattle.dali_controller.specs.declared.way.Way.TheVariants.{Fresh, Surveying}

-- how a machine began
abbrev pub way_of : ℕ → Option Way
way_of c =
    if c == 0 then Some Fresh else
    (if c == 1 then Some Surveying else None)

-- some of the 64 short addresses: address 0 is the lowest bit of the first byte
abbrev pub shorts_of : List ℕ → Shorts
shorts_of bytes = record { bits = from_le_bytes w64 bytes }
