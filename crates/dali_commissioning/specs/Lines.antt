use Rattle.std.specs.Prelude.{◌≡◌, ℕ, ◌+◌, ◌<◌, List, [], ◌∷◌, ◌++◌, Bool, true, false}
use Rattle.std.specs.Prelude.{Option, Some, None, Ok, slice_index_or, take, drop}
use Rattle.std.specs.Prelude.{bytes_eq, if◌then◌else◌, option_map, codes, decimal}
use Rattle.std.specs.Io.KnownBytes.{Consumes}
use Rattle.dali_frame.specs.declared.frames.Forward.{Forward}
use Rattle.dali_frame.specs.declared.frames.Answer.TheVariants.{Silence, Byte, Damaged}
use Rattle.dali_frame.specs.Hex.{forward_text, forward_of, byte_text, byte_of}
use Rattle.dali_special.specs.Command.{command_of, is_question}
use Rattle.dali_script.specs.declared.orders.Input.{Input}
use Rattle.dali_script.specs.declared.orders.Input.TheVariants.{Start, Survey, Heard}
use Rattle.dali_script.specs.declared.orders.Input.TheVariants.{Destroyed, Lapsed, Committed}
use Rattle.dali_script.specs.declared.orders.Input.TheVariants.{CommitFailed}
use Rattle.dali_script.specs.declared.sending.Half.{Half}
use Rattle.dali_script.specs.declared.sending.Half.TheVariants.{Whole, First, Second}

-- THE LINES between the program and its driver, each with a line feed at its end.

abbrev pub asked_text : Bool → List ℕ
asked_text true = codes " ask"
asked_text false = codes " tell"

-- which frame of a pair it is, of a frame that is executed only if it is sent twice
abbrev pub half_text : Half → List ℕ
half_text Whole = []
half_text First = codes " pair 1"
half_text Second = codes " pair 2"

-- `put P HHHH ask|tell [pair 1|2]`
abbrev pub put_text : ℕ → Forward → Half → List ℕ
put_text p f half =
    codes "put "
    ++ (decimal p
    ++ (codes " "
    ++ (forward_text f
    ++ (asked_text (is_question (command_of f)) ++ (half_text half ++ codes "\n")))))

-- a byte that was heard, as `byte HH` in upper or lower case
abbrev pub told_byte : List ℕ → Option Input
told_byte (b ∷ y ∷ t ∷ e ∷ space ∷ high ∷ low ∷ []) =
    if bytes_eq (b ∷ y ∷ t ∷ e ∷ space ∷ []) (codes "byte ")
    then option_map (λ byte. Heard (Byte byte)) (byte_of high low)
    else None
told_byte _ = None

-- what a driver's line says, without its line feed
abbrev pub told_of : List ℕ → Option Input
told_of line =
    if bytes_eq line (codes "silence") then Some (Heard Silence)
    else if bytes_eq line (codes "damaged") then Some (Heard Damaged)
    else if bytes_eq line (codes "destroyed") then Some Destroyed
    else if bytes_eq line (codes "lapsed") then Some Lapsed
    else told_byte line

-- the line that tells something, without its line feed; nothing, if it is not of the bus
abbrev pub told_text : Input → List ℕ
told_text (Heard Silence) = codes "silence"
told_text (Heard (Byte byte)) = codes "byte " ++ byte_text byte
told_text (Heard Damaged) = codes "damaged"
told_text Destroyed = codes "destroyed"
told_text Lapsed = codes "lapsed"
told_text Start = []
told_text Survey = []
told_text Committed = []
told_text CommitFailed = []

-- a byte that is heard is one
abbrev pub IsByte : Input → Type 0
IsByte (Heard (Byte byte)) = byte < 256
IsByte (Heard Silence) = Unit {0}
IsByte (Heard Damaged) = Unit {0}
IsByte Start = Unit {0}
IsByte Survey = Unit {0}
IsByte Destroyed = Unit {0}
IsByte Lapsed = Unit {0}
IsByte Committed = Unit {0}
IsByte CommitFailed = Unit {0}

-- what a line of the program says, by its fifth byte, its seventh to tenth, and the rest
abbrev pub half_in : List ℕ → Half
half_in rest =
    if bytes_eq rest (codes " ask pair 1\n") then First
    else if bytes_eq rest (codes " tell pair 1\n") then First
    else if bytes_eq rest (codes " ask pair 2\n") then Second
    else if bytes_eq rest (codes " tell pair 2\n") then Second
    else Whole

pub record Says (line : List ℕ) (p : ℕ) (f : Forward) (half : Half) : Type 0 where
  pub priority : slice_index_or line 4 0 ≡ 48 + p
  pub frame : forward_of (take 4 (drop 6 line)) ≡ Ok f
  pub half_so : half_in (drop 10 line) ≡ half

-- a line was read that tells this
abbrev pub Tells : Option (List ℕ) → Option (List ℕ) → Input → Type 0
Tells old new told =
    (line : List ℕ) × Consumes old new (line ++ 10 ∷ []) × (told_of line ≡ Some told)
