use Rattle.std.specs.Prelude.{◌≡◌, ◌⊎◌, ℕ, Bool, true, false, ◌||◌, ◌==◌, List, [], ◌∷◌, ◌++◌}
use Rattle.std.specs.Prelude.{Option, Some, None, length}
use Rattle.dali_frame.specs.declared.frames.Answer.{Answer}
use Rattle.dali_frame.specs.declared.frames.Answer.TheVariants.{Silence, Byte, Damaged}
use Rattle.dali_frame.specs.Random.{high_of, middle_of, low_of}
use Rattle.dali_frame.specs.Short.{code_of}
use Rattle.dali_special.specs.declared.command.Target.TheVariants.{Addressed, Unaddressed}
use Rattle.dali_special.specs.declared.command.Command.{Command}
use Rattle.dali_special.specs.declared.command.Command.TheVariants.{Terminate, Initialise}
use Rattle.dali_special.specs.declared.command.Command.TheVariants.{Compare, Withdraw}
use Rattle.dali_special.specs.declared.command.Command.TheVariants.{SearchHigh, SearchMiddle}
use Rattle.dali_special.specs.declared.command.Command.TheVariants.{SearchLow, QueryShort}
use Rattle.dali_special.specs.Command.{frame_of}
use Rattle.dali_script.specs.declared.block.Block.{Block}
use Rattle.dali_script.specs.declared.trace.Entry.{Entry}
use Rattle.dali_script.specs.declared.orders.Input.{Input}
use Rattle.dali_script.specs.Records.{Assignment}
use Rattle.dali_script.specs.Scripts.{Lawful}
use Rattle.dali_script.specs.declared.sending.Half.{Half}
use Rattle.dali_script.specs.declared.sending.Half.TheVariants.{Whole, First, Second}
use Rattle.dali_commissioning.specs.declared.unaddressed.Asks.{Asks}
use Rattle.dali_commissioning.specs.declared.unaddressed.Asks.TheVariants as asks
use Rattle.dali_commissioning.specs.declared.unaddressed.Putting.{Putting}
use Rattle.dali_commissioning.specs.Drivers.{Talk}
use Rattle.dali_commissioning.specs.Census.{IsPut, is_sent, answer_told}

-- GEAR WITHOUT SHORT ADDRESS ARE ASKED by three transactions: they are initialised, as in a roll
-- call; they are asked three times under FFFFFF, which no number is above; and the initialisation
-- is ended (IEC 62386-102:2014, TERMINATE, INITIALISE, SEARCHADDRH, SEARCHADDRM, SEARCHADDRL,
-- COMPARE).
abbrev pub waking : List Command
waking = Terminate ∷ Initialise Unaddressed ∷ Initialise Unaddressed ∷ []

abbrev pub comparing : List Command
comparing =
    SearchHigh 255 ∷ SearchLow 255 ∷ SearchMiddle 255 ∷ Compare ∷ Compare ∷ Compare ∷ []

abbrev pub ending : List Command
ending = Terminate ∷ []

-- Gear with this number are withdrawn in between, if others are asked for (WITHDRAW): they do
-- not answer then.
abbrev pub withdrawing : ℕ → List Command
withdrawing r =
    SearchHigh (high_of r) ∷ SearchMiddle (middle_of r) ∷ SearchLow (low_of r) ∷ Withdraw ∷ []

-- how each is put: its priority, its half of a pair, and what it asks
abbrev pub put_so : ℕ → Command → Half → Asks → Putting
put_so p c half a = record { priority = p; frame = frame_of c; half = half; asks = a }

abbrev pub woken_then : List Putting → List Putting
woken_then more =
    put_so 3 Terminate Whole asks.Nothing
    ∷ put_so 1 (Initialise Unaddressed) First asks.Nothing
    ∷ put_so 1 (Initialise Unaddressed) Second asks.Nothing ∷ more

abbrev pub asked_to_the_end : List Putting
asked_to_the_end =
    put_so 3 (SearchHigh 255) Whole asks.Nothing
    ∷ put_so 1 (SearchLow 255) Whole asks.Nothing
    ∷ put_so 1 (SearchMiddle 255) Whole asks.Nothing
    ∷ put_so 1 Compare Whole asks.Any
    ∷ put_so 1 Compare Whole asks.Any
    ∷ put_so 1 Compare Whole asks.Any
    ∷ put_so 3 Terminate Whole asks.Nothing ∷ []

abbrev pub asking : List Putting
asking = woken_then asked_to_the_end

abbrev pub asking_beside : ℕ → List Putting
asking_beside r =
    woken_then
    (put_so 3 (SearchHigh (high_of r)) Whole asks.Nothing
    ∷ put_so 1 (SearchMiddle (middle_of r)) Whole asks.Nothing
    ∷ put_so 1 (SearchLow (low_of r)) Whole asks.Nothing
    ∷ put_so 1 Withdraw Whole asks.Nothing ∷ asked_to_the_end)

-- A GEAR WITH THIS RANDOM ADDRESS is asked, among those with a short address, whether it has that:
-- by one transaction, which tells it twice, and one that ends it (QUERY SHORT ADDRESS)
abbrev pub asking_under : ℕ → ℕ → List Putting
asking_under a r =
    put_so 3 Terminate Whole asks.Nothing
    ∷ put_so 1 (Initialise (Addressed a)) First asks.Nothing
    ∷ put_so 1 (Initialise (Addressed a)) Second asks.Nothing
    ∷ put_so 1 (SearchHigh (high_of r)) Whole asks.Nothing
    ∷ put_so 1 (SearchMiddle (middle_of r)) Whole asks.Nothing
    ∷ put_so 1 (SearchLow (low_of r)) Whole asks.Nothing
    ∷ put_so 1 QueryShort Whole (asks.Byte (code_of a))
    ∷ put_so 1 QueryShort Whole (asks.Byte (code_of a))
    ∷ put_so 3 Terminate Whole asks.Nothing ∷ []

abbrev pub IsPutSo : Putting → Input → Talk → Talk → Type 0
IsPutSo p told x y = IsPut p.priority p.frame p.half told x y

-- these frames are put one after the other, as long as each was heard
abbrev pub ArePut : List Putting → List Input → Talk → Talk → Type 0
ArePut puttings [] x y = y ≡ x
ArePut [] (told ∷ more) x y = ⊥
ArePut (p ∷ puttings) (told ∷ more) x y =
    (mid : Talk)
    × IsPutSo p told x mid
    × ((is_sent told ≡ true) ⊎ (more ≡ []))
    × ArePut puttings more mid y

-- whether gear was heard; none if a frame was lost
abbrev pub is_yes : Asks → Answer → Bool
is_yes asks.Any (Byte byte) = true
is_yes asks.Any Damaged = true
is_yes (asks.Byte wanted) (Byte byte) = byte == wanted
is_yes _ _ = false

abbrev pub joined_yes : Bool → Option Bool → Option Bool
joined_yes here (Some found) = Some (here || found)
joined_yes here None = None

abbrev pub found_at : Asks → Option Answer → Option Bool → Option Bool
found_at a (Some h) later = joined_yes (is_yes a h) later
found_at a None later = None

abbrev pub found_by : List Putting → List Input → Option Bool
found_by [] told = Some false
found_by (p ∷ puttings) [] = None
found_by (p ∷ puttings) (told ∷ more) =
    found_at p.asks (answer_told told) (found_by puttings more)

-- all of them were tried so often, last first, and each time a frame was lost
abbrev pub AreTried : List Putting → List (List Input) → Talk → Talk → Type 0
AreTried puttings [] x y = y ≡ x
AreTried puttings (told ∷ before) x y =
    (mid : Talk)
    × AreTried puttings before x mid
    × ArePut puttings told mid y
    × (found_by puttings told ≡ None)

-- ASKED TO THE END: whether gear was heard.
abbrev pub AreLeftOver : List Putting → Bool → Talk → Talk → Type 0
AreLeftOver puttings found x y =
    (before : List (List Input))
    × (told : List Input)
    × (mid : Talk)
    × AreTried puttings before x mid
    × ArePut puttings told mid y
    × (found_by puttings told ≡ Some found)

-- GIVEN UP after eight times.
abbrev pub AreLostSo : List Putting → Talk → Talk → Type 0
AreLostSo puttings x y =
    (tried : List (List Input)) × AreTried puttings tried x y × (length tried ≡ 8)

-- each of these frames may follow those before it, whatever was heard after them, for every sender
abbrev pub AreLawful : Block → List Assignment → List Entry → List Command → List Answer → Type 0
AreLawful b reserved before [] heard = Unit {0}
AreLawful b reserved before (c ∷ cs) [] = Lawful b reserved before (frame_of c)
AreLawful b reserved before (c ∷ cs) (h ∷ hs) =
    Lawful b reserved before (frame_of c)
    × AreLawful b reserved (before ++ (record { frame = frame_of c; heard = h }) ∷ []) cs hs
