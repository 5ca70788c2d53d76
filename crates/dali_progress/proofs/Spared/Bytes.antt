use Rattle.dali_progress.proofs.Below.{◌≡◌, ℕ, ◌+◌, ◌*◌, ◌<◌, ◌≤◌, ◌⊎◌, inl, inr, Bool, true, false, List, [], ◌∷◌, refl, subst, arith, length, Option, Some}
use Rattle.dali_progress.proofs.Below.{None, ◌==◌, ◌-◌, zero, suc, if◌then◌else◌, AllByRecursion, unwrap_or, MASK24, Answer, Silence, Byte, Damaged}
use Rattle.dali_progress.proofs.Below.{SearchAddress, IsSpelled, Command, Initialise, Randomise, Compare, Withdraw, SearchHigh, SearchMiddle, SearchLow}
use Rattle.dali_progress.proofs.Below.{Program, QueryShort, RandomByte, Part, High, Middle, Low, Unaddressed, Gear, answer, byte_at, takes, option_cons}
use Rattle.dali_progress.proofs.Below.{answers_of, Everyone, next_stage, queried, verified, byte_heard, bytes_heard, number_heard, doubted, Stage, Hears}
use Rattle.dali_progress.proofs.{Below.{IsDrawer, AreDrawn, gear_of, World, gear_at, IsPlain}, Later.{queried_by, verified_by}}
use Rattle.{dali_gear.specs.Gear.has_short, dali_script.specs.Stages.hunted}
use Rattle.dali_script.specs.declared.stage.Stage.TheVariants as stage

-- WHAT GEAR TELL OF A RANDOM ADDRESS ARE BYTES, so what a machine reads from three of them is a number to FFFFFF.

abbrev pub AreSmall : List Gear → Type 0
AreSmall gs = (j : ℕ) → j < length gs → (gear_of gs j).random ≤ MASK24

pub drawn_small : (w : World) → AreDrawn w → AreSmall w.gear
drawn_small w drawn j there = go (drawn.random j there) where
  go : ((gear_at w j).random ≡ MASK24) ⊎ IsDrawer w j (gear_at w j).random → (gear_at w j).random ≤ MASK24
  go (inl top) = omega (arith, top)
  go (inr draws) = let less : (gear_at w j).random < MASK24 = drawn.below j (gear_at w j).random draws in omega (arith, less)

byte_small : (part : Part) (r : ℕ) → r ≤ MASK24 → byte_at part r < 256
byte_small High r small = omega (arith, small)
byte_small Middle r small = omega (arith, small)
byte_small Low r small = omega (arith, small)

one_small : (o : Option ℕ) (xs : List ℕ) → ((v : ℕ) → o ≡ Some v → v < 256) → AllByRecursion (λ v. v < 256) xs
    → AllByRecursion (λ v. v < 256) (option_cons o xs)
one_small None xs here rest = rest
one_small (Some v) xs here rest = (here v refl, rest)

pub answers_small : (a : ℕ) (part : Part) (k : ℕ) (gs : List Gear) → AreSmall gs → AllByRecursion (λ v. v < 256) (answers_of Everyone (RandomByte a part) k gs)
answers_small a part k [] small = tt
answers_small a part k (g ∷ gs) small =
    one_small (if takes Everyone k g then answer (RandomByte a part) g else None) (answers_of Everyone (RandomByte a part) (k + 1) gs)
    (λ v e. by v (takes Everyone k g) (has_short a g.short) e) (answers_small a part (k + 1) gs (λ j there. small (suc j) (omega (arith, there)))) where
      by : (v : ℕ) (takes there : Bool) → (if takes then (if there then Some (byte_at part g.random) else None) else None) ≡ Some v → v < 256
      by v true true e =
          let same : byte_at part g.random ≡ v = cc in
          subst (λ x. x < 256) same (byte_small part g.random (small zero (omega arith)))
      by v true false e = absurd (cc)
      by v false there e = absurd (cc)

heard_small : (answers : List ℕ) (v : ℕ) → AllByRecursion (λ x. x < 256) answers → Hears answers (Byte v) → v < 256
heard_small [] v small heard = absurd (heard.0 refl)
heard_small (x ∷ xs) v small heard = subst (λ y. y < 256) heard.1.0 small.0

-- what is heard of a query of a random address is a byte, if it is heard
abbrev pub IsByteOf : Command → Answer → Type 0
IsByteOf (RandomByte a part) (Byte v) = v < 256
IsByteOf _ h = Unit {0}

pub byte_heard_of : (c : Command) (h : Answer) (gs : List Gear) → AreSmall gs → Hears (answers_of Everyone c 0 gs) h → IsByteOf c h
byte_heard_of (RandomByte a part) (Byte v) gs small heard = heard_small (answers_of Everyone (RandomByte a part) 0 gs) v (answers_small a part 0 gs small) heard
byte_heard_of _ _ gs small heard = tt

-- ---------------------------------------------------------------- what a transaction has read

abbrev IsByte : Option ℕ → Type 0
IsByte None = Unit {0}
IsByte (Some v) = v < 256

abbrev AreBytes : Option (ℕ × ℕ) → Type 0
AreBytes None = Unit {0}
AreBytes (Some b) = (b.0 < 256) × (b.1 < 256)

abbrev IsNumber : Option ℕ → Type 0
IsNumber None = Unit {0}
IsNumber (Some n) = n ≤ MASK24

abbrev pub IsRead : Stage → Type 0
IsRead (stage.HighAsked a high) = (a < 64) × IsByte high
IsRead (stage.MiddleAsked a bytes) = (a < 64) × AreBytes bytes
IsRead (stage.Spelled a number) = (a < 64) × IsNumber number
IsRead _ = Unit {0}

pub read_plain : (s : Stage) → IsRead s → IsPlain s
read_plain (stage.Spelled a (Some n)) read = (read.0, read.1)
read_plain _ read = tt

first_read : (a : ℕ) (h : Answer) → IsByteOf (RandomByte a High) h → IsByte (byte_heard h)
first_read a Silence is = tt
first_read a Damaged is = tt
first_read a (Byte v) is = is

second_read : (a : ℕ) (high : Option ℕ) (h : Answer) → IsByte high → IsByteOf (RandomByte a Middle) h → AreBytes (bytes_heard high h)
second_read a (Some v) (Byte u) one two = (one, two)
second_read a (Some v) Silence one two = tt
second_read a (Some v) Damaged one two = tt
second_read a None h one two = tt

sum_small : (x y z : ℕ) → x < 256 → y < 256 → z < 256 → x * 65536 + y * 256 + z ≤ MASK24
sum_small x y z one two three = omega (arith, one, two, three)

third_read : (a : ℕ) (bytes : Option (ℕ × ℕ)) (h : Answer) → AreBytes bytes → IsByteOf (RandomByte a Low) h → IsNumber (number_heard bytes h)
third_read a (Some b) (Byte v) two three = sum_small b.0 b.1 v two.0 two.1 three
third_read a (Some b) Silence two three = tt
third_read a (Some b) Damaged two three = tt
third_read a None h two three = tt

queried_read : (r : SearchAddress) (h : Answer) → IsRead (queried r h)
queried_read r h = queried_by IsRead r (λ b. tt) tt tt (λ o. tt) h

verified_read : (r : SearchAddress) (a : ℕ) (h : Answer) → IsRead (verified r a h)
verified_read r a h = verified_by IsRead r a tt (λ o. tt) h

middle_read : (a c : ℕ) (high : Option ℕ) (h : Answer) → IsRead (stage.HighAsked a high) → IsByteOf (RandomByte c Middle) h
    → IsRead (next_stage (stage.HighAsked a high) (RandomByte c Middle) h)
middle_read a c high h read byte = go (c == a) where
  go : (t : Bool) → IsRead (unwrap_or (if t then Some (stage.MiddleAsked a (bytes_heard high h)) else None) stage.Over)
  go true = (read.0, second_read c high h read.1 byte)
  go false = tt

low_read : (a c : ℕ) (bytes : Option (ℕ × ℕ)) (h : Answer) → IsRead (stage.MiddleAsked a bytes) → IsByteOf (RandomByte c Low) h
    → IsRead (next_stage (stage.MiddleAsked a bytes) (RandomByte c Low) h)
low_read a c bytes h read byte = go (c == a) where
  go : (t : Bool) → IsRead (unwrap_or (if t then Some (stage.Spelled a (number_heard bytes h)) else None) stage.Over)
  go true = (read.0, third_read c bytes h read.1 byte)
  go false = tt

hunted_read : (r : SearchAddress) (last : Option Answer) (left : ℕ) (c : Command) (h : Answer) → IsRead (next_stage (stage.Hunted r last left) c h)
hunted_read r last left c h = go (left == 0) where
  asked : (c : Command) → IsRead (unwrap_or (hunted r (left - 1) c h) stage.Over)
  asked (SearchHigh high) = tt
  asked (SearchMiddle middle) = tt
  asked (SearchLow low) = tt
  asked Compare = tt
  asked _ = tt

  go : (t : Bool) → IsRead (unwrap_or (if t then None else hunted r (left - 1) c h) stage.Over)
  go true = tt
  go false = asked c

doubted_read : (h : Answer) → IsRead (doubted h)
doubted_read Silence = tt
doubted_read (Byte v) = tt
doubted_read Damaged = tt

-- one frame more
pub next_read : (s : Stage) (c : Command) (h : Answer) → IsSpelled c → IsByteOf c h → IsRead s → IsRead (next_stage s c h)
next_read stage.Free (RandomByte a High) h spelled byte read = (spelled, first_read a h byte)
next_read stage.Terminated (Initialise Unaddressed) h spelled byte read = tt
next_read stage.InitialisedOnce (Initialise Unaddressed) h spelled byte read = tt
next_read stage.Initialised Randomise h spelled byte read = tt
next_read stage.Initialised (SearchHigh high) h spelled byte read = tt
next_read (stage.WokenHigh high) (SearchLow low) h spelled byte read = tt
next_read (stage.WokenHigh high) (SearchMiddle middle) h spelled byte read = tt
next_read (stage.WokenLow high low) (SearchMiddle middle) h spelled byte read = tt
next_read (stage.WokenMiddle high middle) Compare h spelled byte read = doubted_read h
next_read stage.DrawFree Randomise h spelled byte read = tt
next_read stage.RandomisedOnce Randomise h spelled byte read = tt
next_read (stage.HighSent high) (SearchMiddle middle) h spelled byte read = tt
next_read (stage.MiddleSent high middle) (SearchLow low) h spelled byte read = tt
next_read (stage.HighSent high) (SearchLow low) h spelled byte read = tt
next_read (stage.LowSent high low) (SearchMiddle middle) h spelled byte read = tt
next_read (stage.Hunted r last left) c h spelled byte read = hunted_read r last left c h
next_read (stage.Found r c) Withdraw h spelled byte read = tt
next_read (stage.Unnamed r) (Program (Some a)) h spelled byte read = tt
next_read (stage.Confirmed r a) Withdraw h spelled byte read = tt
next_read (stage.NumberSent r) QueryShort h spelled byte read = queried_read r h
next_read (stage.Programmed r a) QueryShort h spelled byte read = verified_read r a h
next_read (stage.HighAsked a high) (RandomByte c Middle) h spelled byte read = middle_read a c high h read byte
next_read (stage.MiddleAsked a bytes) (RandomByte c Low) h spelled byte read = low_read a c bytes h read byte
next_read _ _ h spelled byte read = tt
