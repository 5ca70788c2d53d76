use Rattle.std.specs.Prelude.{List, [], ◌∷◌, Bool, true, false, Option, Some, None}
use Rattle.std.specs.Prelude.{◌==◌, ◌&&◌, if◌then◌else◌}
use Rattle.dali_frame.specs.declared.frames.Forward.{Forward}
use Rattle.dali_special.specs.Command.{command_of, is_send_twice}
use Rattle.dali_script.specs.declared.trace.Entry.{Entry}
use Rattle.dali_script.specs.declared.sending.Half.{Half}
use Rattle.dali_script.specs.declared.sending.Half.TheVariants.{Whole, First, Second}

-- whether this frame is the one that waits for its second one
abbrev pub is_open : Option Forward → Forward → Bool
is_open (Some g) f = (g.address_byte == f.address_byte) && (g.opcode_byte == f.opcode_byte)
is_open None f = false

-- which frame of a pair a frame is, where this first one of a pair was heard right before it
abbrev pub half_of : Option Forward → Forward → Half
half_of waiting f =
    if is_send_twice (command_of f)
    then if is_open waiting f then Second else First
    else Whole

-- the first frame of a pair that waits behind a frame, once it is heard
abbrev pub opens : Half → Forward → Option Forward
opens First f = Some f
opens _ f = None

-- the first frame of a pair that waits behind these frames of a transaction, which were all heard
abbrev pub waiting_in : Option Forward → List Entry → Option Forward
waiting_in waiting [] = waiting
waiting_in waiting (e ∷ t) = waiting_in (opens (half_of waiting e.frame) e.frame) t

-- which frame of a pair a frame is, after these frames of its transaction
abbrev pub half_in : List Entry → Forward → Half
half_in before f = half_of (waiting_in None before) f
