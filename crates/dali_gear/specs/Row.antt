use Rattle.std.specs.Prelude.{ℕ, zero, suc, ◌+◌, ◌/◌, ◌%◌, ◌^◌, List, [], ◌∷◌, drop, Bool, true}
use Rattle.std.specs.Prelude.{false, Option, Some, None, ◌==◌, ◌&&◌, if◌then◌else◌}
use Rattle.dali_frame.specs.declared.frames.Answer.{Answer}
use Rattle.dali_frame.specs.declared.frames.Answer.TheVariants.{Silence, Byte, Damaged}
use Rattle.dali_special.specs.declared.command.Command.{Command}
use Rattle.dali_gear.specs.declared.row.Reach.{Reach}
use Rattle.dali_gear.specs.declared.row.Reach.TheVariants.{Everyone, Only}
use Rattle.dali_special.specs.declared.command.Command.TheVariants.{Program}
use Rattle.dali_gear.specs.Gear.{Gear, is_active, is_found, draws_a_number, gear_taken, answer}

-- whether a frame reaches the gear of this number: in a set, gear k is the bit of value 2^k
abbrev pub reaches : Reach → ℕ → Bool
reaches Everyone k = true
reaches (Only set) k = set / 2 ^ k % 2 == 1

-- whether gear k takes the frame: it has power, and the frame reaches it
abbrev pub takes : Reach → ℕ → Gear → Bool
takes reach k g = g.powered && reaches reach k

-- the number that a gear would draw: the first that is left, or none
abbrev pub next_draw : Gear → List ℕ → ℕ
next_draw g [] = g.random
next_draw g (draw ∷ left) = draw

-- one gear, if it takes the command and if it doesn't
abbrev pub one_after : Bool → Command → List ℕ → Gear → Gear
one_after false c left g = g
one_after true c left g = gear_taken c (next_draw g left) g

abbrev pub left_after : Bool → List ℕ → List ℕ
left_after drew left = if drew then drop 1 left else left

-- The gear from number k on take the command in order of their number; those that draw take the
-- numbers in order.
abbrev pub row_after : Reach → Command → ℕ → List Gear → List ℕ → List Gear
row_after reach c k [] left = []
row_after reach c k (g ∷ gs) left =
    one_after (takes reach k g) c left g
    ∷ row_after reach c (k + 1) gs (left_after (takes reach k g && draws_a_number c g) left)

-- how many numbers they draw
abbrev pub draws_needed : Reach → Command → ℕ → List Gear → ℕ
draws_needed reach c k [] = 0
draws_needed reach c k (g ∷ gs) =
    (if takes reach k g && draws_a_number c g then 1 else 0) + draws_needed reach c (k + 1) gs

-- the backward frames that they answer
abbrev pub option_cons : Option ℕ → List ℕ → List ℕ
option_cons None bytes = bytes
option_cons (Some byte) bytes = byte ∷ bytes

abbrev pub answers_of : Reach → Command → ℕ → List Gear → List ℕ
answers_of reach c k [] = []
answers_of reach c k (g ∷ gs) =
    option_cons (if takes reach k g then answer c g else None) (answers_of reach c (k + 1) gs)

-- The plain hearing of the backward frames to one forward frame: several together are heard as a
-- damaged one.
abbrev pub heard_of : List ℕ → Answer
heard_of [] = Silence
heard_of (byte ∷ []) = Byte byte
heard_of (byte ∷ more ∷ rest) = Damaged

-- the same, by how many there are and the sum of their bytes
abbrev pub heard_by : ℕ → ℕ → Answer
heard_by zero sum = Silence
heard_by (suc zero) sum = Byte sum
heard_by (suc (suc more)) sum = Damaged

-- which gear draws which number; if none is left, nothing is drawn
abbrev pub drawn_one : Bool → ℕ → List ℕ → List (ℕ × ℕ) → List (ℕ × ℕ)
drawn_one false k left more = more
drawn_one true k [] more = more
drawn_one true k (draw ∷ left) more = (k, draw) ∷ more

abbrev pub drawn_of : Reach → Command → ℕ → List Gear → List ℕ → List (ℕ × ℕ)
drawn_of reach c k [] left = []
drawn_of reach c k (g ∷ gs) left =
    drawn_one (takes reach k g && draws_a_number c g) k left
    (drawn_of reach c (k + 1) gs (left_after (takes reach k g && draws_a_number c g) left))

-- the numbers that are left then
abbrev pub row_left : Reach → Command → ℕ → List Gear → List ℕ → List ℕ
row_left reach c k [] left = left
row_left reach c k (g ∷ gs) left =
    row_left reach c (k + 1) gs (left_after (takes reach k g && draws_a_number c g) left)

-- the short address that a powered gear stores at a command: PROGRAM SHORT ADDRESS may also erase,
-- which stores none
abbrev pub stored_short : Command → Gear → Option ℕ
stored_short (Program short) g = if is_active g.state && is_found g then short else None
stored_short _ g = None

-- which gear stores which short address
abbrev pub stored_one : ℕ → Option ℕ → List (ℕ × ℕ) → List (ℕ × ℕ)
stored_one k None more = more
stored_one k (Some a) more = (k, a) ∷ more

abbrev pub stored_of : Reach → Command → ℕ → List Gear → List (ℕ × ℕ)
stored_of reach c k [] = []
stored_of reach c k (g ∷ gs) =
    stored_one k (if takes reach k g then stored_short c g else None) (stored_of reach c (k + 1) gs)
