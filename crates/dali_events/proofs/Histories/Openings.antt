use Rattle.std.proofs.Common.{◌≡◌, ℕ, ◌<◌, List, [], ◌∷◌, ◌++◌, length, Some, arith}
use Rattle.dali_frame.specs.{Random.value_of, Short.code_of, declared.{frames.Answer.TheVariants.{Silence, Byte}, numbers.SearchAddress.SearchAddress}}
use Rattle.dali_special.specs.Command.{frame}
use Rattle.dali_script.specs.declared.{block.Block.Block, orders.{Input.Input, Order.TheVariants.{Put, Commit}}, records.Record.TheVariants.Reserve}
use Rattle.dali_events.specs.{Promise.KeepsPromiseNow, World.{World, gear_at}, declared.event.Event.Event}
use Rattle.dali_script.specs.declared.orders.Input.TheVariants as input
use Rattle.dali_events.specs.declared.event.Event.TheVariants as event

-- HOW THE HISTORIES BEGIN: the blocks of two controllers, the numbers of two gear, an opening, and a visit.

abbrev pub first_block : Block
first_block = record { first = 0; last = 3 }

abbrev pub second_block : Block
second_block = record { first = 4; last = 7 }

abbrev pub at_123456 : SearchAddress
at_123456 = record { high = 0x12; middle = 0x34; low = 0x56 }

abbrev pub at_0abcde : SearchAddress
at_0abcde = record { high = 0x0A; middle = 0xBC; low = 0xDE }

-- a frame of controller c after which nothing is heard, and its QUERY SHORT ADDRESS
abbrev pub silent : ℕ → ℕ → ℕ → Event
silent c address byte = event.Sent c (frame address byte) Silence

abbrev pub query : ℕ → ℕ → Event
query c byte = event.Sent c (frame 0xBB 0) (Byte byte)

-- AN OPENING, up to the frame at which gear draw, and whole
abbrev pub up_to_draw : ℕ → List Event
up_to_draw c = silent c 0xA1 0 ∷ silent c 0xA5 0xFF ∷ silent c 0xA5 0xFF ∷ silent c 0xA7 0 ∷ []

abbrev pub opening : ℕ → List Event
opening c = up_to_draw c ++ (silent c 0xA7 0 ∷ [])

-- A VISIT. On this input the controller reserves the address for the number; the gear there, which has none, stores it.
abbrev pub visit : ℕ → Input → SearchAddress → ℕ → List Event
visit c i r a =
    event.Acted c i (Commit (Reserve a (value_of r))) ∷
    event.Acted c input.Committed (Put 3 (frame 0xB1 r.high)) ∷
    silent c 0xB1 r.high ∷
    silent c 0xB3 r.middle ∷
    silent c 0xB5 r.low ∷
    query c 0xFF ∷
    silent c 0xB7 (code_of a) ∷
    []

-- gear 0 and gear 1 both hold the address 0, and so the promise is broken
abbrev pub BothHold : World → Type 0
BothHold w = (1 < length w.gear) × ((gear_at w 0).short ≡ Some 0) × ((gear_at w 1).short ≡ Some 0)

pub breaks : (w : World) → BothHold w → KeepsPromiseNow w → ⊥
breaks w both kept = let same = kept.one_gear 0 1 0 (omega arith, both.1) (both.0, both.2) in cc

-- the numbers are two
pub two_numbers : (n : ℕ) → n ≡ 0x0ABCDE → n ≡ 0x123456 → ⊥
two_numbers n first second = omega arith
