use Rattle.std.specs.Prelude.{◌≡◌, ℕ, ◌<◌, ◌≤◌, Bool, true, false, List, [], ◌∷◌, ◌++◌, map, length}
use Rattle.std.specs.Prelude.{Some}
use Rattle.dali_frame.specs.declared.frames.Forward.{Forward}
use Rattle.dali_frame.specs.declared.frames.Answer.{Answer}
use Rattle.dali_frame.specs.declared.frames.Answer.TheVariants.{Silence, Byte}
use Rattle.dali_frame.specs.declared.numbers.SearchAddress.{SearchAddress}
use Rattle.dali_frame.specs.Short.{code_of}
use Rattle.dali_frame.specs.Random.{value_of, MASK24}
use Rattle.dali_special.specs.declared.command.Target.TheVariants.{Unaddressed}
use Rattle.dali_special.specs.declared.command.Part.TheVariants.{High, Middle, Low}
use Rattle.dali_special.specs.declared.command.Command.{Command}
use Rattle.dali_special.specs.declared.command.Command.TheVariants.{Terminate, Initialise}
use Rattle.dali_special.specs.declared.command.Command.TheVariants.{Randomise, Compare, Withdraw}
use Rattle.dali_special.specs.declared.command.Command.TheVariants.{SearchHigh, SearchMiddle}
use Rattle.dali_special.specs.declared.command.Command.TheVariants.{SearchLow, Program, QueryShort}
use Rattle.dali_special.specs.declared.command.Command.TheVariants.{RandomByte, Arc}
use Rattle.dali_special.specs.Command.{MASK, command_of}
use Rattle.dali_script.specs.declared.block.Block.{Block}
use Rattle.dali_script.specs.declared.trace.Entry.{Entry}
use Rattle.dali_script.specs.Records.{Assignment, Has, InBlock}

-- What must be heard after a frame for its script to go on.
pub data Wanted : Type 0 where
  anything : Wanted
  nobody : Wanted
  no_address : Wanted
  some_address : Wanted
  address : ℕ → Wanted

abbrev pub IsHeard : Wanted → Answer → Type 0
IsHeard anything h = Unit {0}
IsHeard nobody h = h ≡ Silence
IsHeard no_address h = h ≡ Byte MASK
IsHeard some_address h = (b : ℕ) × (b < 64) × (h ≡ Byte (code_of b))
IsHeard (address a) h = h ≡ Byte (code_of a)

-- one frame of a script
pub record Step : Type 0 where
  pub command : Command
  pub wanted : Wanted

abbrev pub sends : Command → Step
sends c = record { command = c; wanted = anything }

-- QUERY SHORT ADDRESS, with what must be heard for the script to go on
abbrev pub queries : Wanted → Step
queries w = record { command = QueryShort; wanted = w }

-- SEARCHADDRH, SEARCHADDRM and SEARCHADDRL, each sent anew
abbrev pub search_at : SearchAddress → List Step → List Step
search_at r more =
    sends (SearchHigh r.high) ∷ sends (SearchMiddle r.middle) ∷ sends (SearchLow r.low) ∷ more

-- what a hunt asks with: a search byte that is sent anew, or COMPARE
abbrev pub is_asking : Command → Bool
is_asking (SearchHigh high) = true
is_asking (SearchMiddle middle) = true
is_asking (SearchLow low) = true
is_asking Compare = true
is_asking _ = false

abbrev pub AreAsking : List Command → Type 0
AreAsking [] = Unit {0}
AreAsking (c ∷ cs) = (is_asking c ≡ true) × AreAsking cs

-- how many frames of a hunt may follow its first three: eight in all
abbrev pub ASKING : ℕ
ASKING = 5

-- and how many of a roll call its first six
abbrev pub CALLING : ℕ
CALLING = 2

-- THE SCRIPTS: all that a transaction of commissioning may be (this project's profile of IEC
-- 62386-102:2014, special commands and queries of the random address).
pub data Script : Type 0 where
  Open : Script
  Call : SearchAddress → List Command → Script
  Draw : ℕ → ℕ → Script
  Probe : SearchAddress → Script
  Hunt : SearchAddress → List Command → Script
  Look : SearchAddress → Script
  Give : SearchAddress → ℕ → Script
  PassOver : SearchAddress → Script
  Resolve : ℕ → Script
  Close : Script
  ArcPower : Forward → Script

-- gear without short address are initialised, who were not before
abbrev pub woken : List Step → List Step
woken more =
    sends Terminate ∷ sends (Initialise Unaddressed) ∷ sends (Initialise Unaddressed) ∷ more

abbrev pub drawing : List Step
drawing = sends Randomise ∷ sends Randomise ∷ []

-- what a hunt and a roll call begin with: the low byte before the middle one, so that it is no
-- probe from there on
abbrev pub hunts : SearchAddress → List Command → List Step
hunts r cs =
    sends (SearchHigh r.high) ∷ sends (SearchLow r.low) ∷ sends (SearchMiddle r.middle)
    ∷ map sends cs

abbrev pub steps : Script → List Step
steps Open = woken drawing
steps (Call r cs) = woken (hunts r cs)
steps (Draw high middle) =
    woken (sends (SearchHigh high) ∷ sends (SearchMiddle middle)
    ∷ record { command = Compare; wanted = nobody } ∷ drawing)
steps (Probe r) = search_at r (sends Compare ∷ [])
steps (Hunt r cs) = hunts r cs
steps (Look r) = search_at r (queries some_address ∷ sends Withdraw ∷ [])
steps (Give r a) =
    search_at r (queries no_address ∷ sends (Program (Some a)) ∷ queries (address a)
    ∷ sends Withdraw ∷ [])
steps (PassOver r) = search_at r (sends Withdraw ∷ [])
steps (Resolve a) =
    sends (RandomByte a High) ∷ sends (RandomByte a Middle) ∷ sends (RandomByte a Low) ∷ []
steps Close = sends Terminate ∷ []
steps (ArcPower f) = sends (Arc f) ∷ []

-- What may be given to the gear at a search address: its number is one that gear draw, and the
-- sender has reserved the address for it, in its block.
pub record MayGive (b : Block) (reserved : List Assignment) (r : SearchAddress)
    (a : ℕ) : Type 0 where
  pub drawn : value_of r < MASK24
  pub within : InBlock b a
  pub reserved_for : Has reserved (a, value_of r)

abbrev pub MaySend : Block → List Assignment → Script → Type 0
MaySend b reserved (Call r cs) = AreAsking cs × (length cs ≤ CALLING)
MaySend b reserved (Hunt r cs) = AreAsking cs × (length cs ≤ ASKING)
MaySend b reserved (Give r a) = MayGive b reserved r a
MaySend b reserved _ = Unit {0}

-- The frames of a trace, each with what was heard, and then one more frame are a front of these
-- steps.
abbrev pub IsFront : List Entry → Forward → List Step → Type 0
IsFront _ f [] = ⊥
IsFront [] f (s ∷ ss) = command_of f ≡ s.command
IsFront (e ∷ t) f (s ∷ ss) =
    (command_of e.frame ≡ s.command) × IsHeard s.wanted e.heard × IsFront t f ss

-- LAWFUL: the frame may follow the trace, for a sender with this block and these reservations.
abbrev pub Lawful : Block → List Assignment → List Entry → Forward → Type 0
Lawful b reserved t f = (s : Script) × MaySend b reserved s × IsFront t f (steps s)

-- some sender may send the frame after the trace
abbrev pub IsLawful : List Entry → Forward → Type 0
IsLawful t f = (b : Block) × (reserved : List Assignment) × Lawful b reserved t f

-- A TRANSACTION, as far as it is: each of its frames was lawful after those before it, for some
-- sender.
abbrev pub AreSent : List Entry → List Entry → Type 0
AreSent before [] = Unit {0}
AreSent before (e ∷ t) = IsLawful before e.frame × AreSent (before ++ e ∷ []) t

abbrev pub IsTransaction : List Entry → Type 0
IsTransaction t = AreSent [] t

-- A first frame: one that may begin a transaction.
abbrev pub IsFirst : Forward → Type 0
IsFirst f = IsLawful [] f

-- COMPLETE: no frame may follow.
abbrev pub IsComplete : Block → List Assignment → List Entry → Type 0
IsComplete b reserved t = (f : Forward) → Lawful b reserved t f → ⊥

-- two bytes
abbrev pub IsFrame : Forward → Type 0
IsFrame f = (f.address_byte < 256) × (f.opcode_byte < 256)

-- a frame may follow: the opposite of complete, with the frame at hand
abbrev pub GoesOn : Block → List Assignment → List Entry → Type 0
GoesOn b reserved t = (f : Forward) × IsFrame f × Lawful b reserved t f
