use Rattle.std.specs.Prelude.{ℕ, Bool, true, false, not, ◌==◌, ◌&&◌, ◌||◌, nat_lt, nat_le}
use Rattle.dali_frame.specs.declared.frames.Forward.{Forward}
use Rattle.dali_special.specs.declared.command.Command.{Command}
use Rattle.dali_special.specs.declared.command.Command.TheVariants.{Arc, Other}
use Rattle.dali_special.specs.Command.{command_of}

-- FRAMES OF OTHER DEVICES, as of sensors and push buttons, that may come on the bus at any moment:
-- direct arc power, and what is no addressing command. A command that changes addresses without
-- being one may not.

-- the address byte of a command: to one short address, to a group, to all gear, or to those without
-- short address (IEC 62386-102:2014, addressing); direct arc power was told before. No gear has an
-- address of the bytes CD to FB, which are reserved.
abbrev pub is_to_gear : ℕ → Bool
is_to_gear byte = nat_lt byte 0xA0 || nat_le 0xFC byte

-- RESET and SET SHORT ADDRESS, to any of these
abbrev pub changes_addresses : Forward → Bool
changes_addresses f =
    is_to_gear f.address_byte && ((f.opcode_byte == 0x20) || (f.opcode_byte == 0x80))

-- PHYSICAL SELECTION, an addressing command of edition 1 (IEC 62386-102:2009, special commands)
abbrev pub selects_gear : Forward → Bool
selects_gear f = (f.address_byte == 0xBD) && (f.opcode_byte == 0)

abbrev pub is_foreign_as : Command → Forward → Bool
is_foreign_as (Arc g) f = true
is_foreign_as (Other g) f = not (changes_addresses f || selects_gear f)
is_foreign_as _ f = false

abbrev pub is_foreign : Forward → Bool
is_foreign f = is_foreign_as (command_of f) f
