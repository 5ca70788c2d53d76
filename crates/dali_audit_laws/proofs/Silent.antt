use Rattle.std.proofs.Common.{◌≡◌, ℕ, ◌+◌, ◌-◌, ◌≤◌, Bool, true, false, refl, arith, Option, Some, None, List, ◌&&◌, not, nat_lt}
use Rattle.std.proofs.lemmas.Bool.Decides.{nat_tests}
use Rattle.dali_frame.specs.declared.frames.Answer.{Answer, TheVariants.Silence, TheVariants.Byte, TheVariants.Damaged}
use Rattle.dali_frame.specs.declared.{frames.Forward.Forward, numbers.SearchAddress.SearchAddress}
use Rattle.dali_special.specs.{Command.command_of, declared.command.Command.Command}
use Rattle.dali_special.specs.declared.command.Command.TheVariants.{Terminate, SearchHigh, Randomise, Verify, QueryShort, RandomByte, Arc, Other}
use Rattle.dali_special.specs.declared.command.Part.TheVariants.{High}
use Rattle.dali_capture.specs.declared.item.Item.{Item}
use Rattle.dali_script.specs.{Records.Assignment, Stages.Follows, declared.block.Block.Block, declared.stage.Stage.Stage}
use Rattle.dali_script.specs.declared.stage.Stage.TheVariants as stage
use Rattle.dali_script.proofs.Transactions.{asks_hunting}
use Rattle.dali_audit.specs.{Bus.is_addressing, Bus.in_initialisation, Bus.repeats, Bus.late_by, Bus.is_over, Findings.asks_one, Findings.damaged_answer}
use Rattle.dali_audit.specs.Findings.{broken_pair, half_pair, late_pair, too_early, too_close, early_frame, initialisation_over, unasked, not_queried}
use Rattle.dali_audit.specs.Findings.{several_by, several_programmed}
use Rattle.dali_audit.specs.{Findings.settling_time, Findings.at_where, Findings.is_misspelled, Findings.is_to_all, declared.bus.Begun.Begun}
use Rattle.dali_audit.specs.{declared.bus.Bus.Bus, declared.bus.First.First}
use Rattle.dali_audit.specs.declared.seen.Seen.TheVariants as seen
use Rattle.dali_audit_laws.specs.Capture.{rest_before}
use Rattle.dali_audit_laws.proofs.Grammar.{Drawn, IsRested, Given, Fits, Paired, alone, twice, paired, item_of, same_frames}

-- WHAT IS NOT TOLD OF A FRAME that follows at a stage, if the bus fits

never : (m : Bool) → (m && false) ≡ false
never true = refl
never false = refl

unbroken : (half : Option First) (f : Forward) (h : Answer) (until : ℕ) → Paired half f until → broken_pair half (seen.Sent f h) ≡ None
unbroken half f h until (alone none) = rw none refl
unbroken half f h until (twice t is in_time) = rw (is, same_frames f) refl

punctual : (half : Option First) (f : Forward) (until at : ℕ) → Paired half f until → at_where (repeats half f && late_by half until) at ≡ None
punctual half f until at (alone none) = rw none refl
punctual half f until at (twice t is in_time) = rw (is, same_frames f, early) refl where
  early : nat_lt 100000 (until - t) ≡ false
  early = grind (arith, nat_tests)

rested : (now at : ℕ) (drew : Bool) (d : Option ℕ) (x : Item) (f : Forward) (h : Answer) → IsRested now drew d → x.at ≡ at → now ≤ at
    → (drew ≡ true → now + 100000 ≤ at)
    → too_early d x (seen.Sent f h) ≡ None
rested now at drew None x f h k is later drawn = refl
rested now at drew (Some t) x f h k is later drawn = rw (early, never (is_addressing f)) refl where
  gap : (m : Bool) → drew ≡ m → t + 100000 ≤ at
  gap true e = let one : now + 100000 ≤ at = drawn e in let before : t ≤ now = (k t refl).0 in omega arith
  gap false e = let before : t + 100000 ≤ now = (k t refl).1 e in omega arith

  early : nat_lt (x.at - t) 90000 ≡ false
  early = let g : t + 100000 ≤ at = gap drew refl in let here : x.at ≡ at = is in grind (arith, nat_tests)

drawn_rest : (now : ℕ) (drew : Bool) (c : Command) → rest_before true c ≡ 102582 → drew ≡ true → now + 100000 ≤ now + rest_before drew c
drawn_rest now drew c is e = rw (e, is) (omega arith)

pub no_early : (b : Block) (xs : List Assignment) (s : Stage) (c : Command) (now : ℕ) (drew : Bool) (d : Option ℕ) (f : Forward) (h : Answer)
    → Follows b xs s c → Drawn s now drew d → too_early d (item_of now drew c f) (seen.Sent f h) ≡ None
no_early b xs stage.Free Terminate now drew d f h on k =
    rested now (now + rest_before drew Terminate) drew d _ f h k refl (omega arith) (drawn_rest now drew Terminate refl)
no_early b xs stage.Free (SearchHigh high) now drew d f h on k =
    rested now (now + rest_before drew (SearchHigh high)) drew d _ f h k refl (omega arith) (drawn_rest now drew (SearchHigh high) refl)
no_early b xs stage.Free (RandomByte a High) now drew d f h on k =
    rested now (now + rest_before drew (RandomByte a High)) drew d _ f h k refl (omega arith) (drawn_rest now drew (RandomByte a High) refl)
no_early b xs stage.Free (Arc g) now drew d f h on k =
    rested now (now + rest_before drew (Arc g)) drew d _ f h k refl (omega arith) (drawn_rest now drew (Arc g) refl)
no_early b xs stage.Free _ now drew d f h on k = absurd (let none = on.leads_on in cc)
no_early b xs stage.Opened _ now drew d f h on k = absurd (let none = on.leads_on in cc)
no_early b xs stage.Over _ now drew d f h on k = absurd (let none = on.leads_on in cc)
no_early b xs _ c now drew d f h on k = rw k refl

pub in_time : (begun : Option Begun) (at : ℕ) (f : Forward) → ((y : Begun) → begun ≡ Some y → at ≤ y.until + 900000000) → is_over begun at f ≡ false
in_time None at f k = refl
in_time (Some y) at f k = rw (short, never (in_initialisation f), never (not y.is_told)) refl where
  short : nat_lt 900000000 (at - y.until) ≡ false
  short = let within : at ≤ y.until + 900000000 = k y refl in grind (arith, nat_tests)

asked_next : (given : Option ℕ) (f : Forward) (h : Answer) → command_of f ≡ QueryShort → unasked given (seen.Sent f h) ≡ None
asked_next None f h e = refl
asked_next (Some t) f h e = rw e refl

pub asked : (b : Block) (xs : List Assignment) (s : Stage) (c : Command) (given : Option ℕ) (f : Forward) (h : Answer)
    → Follows b xs s c → command_of f ≡ c → Given s given → unasked given (seen.Sent f h) ≡ None
asked b xs (stage.Programmed r a) QueryShort given f h on e k = asked_next given f h e
asked b xs (stage.Programmed r a) _ given f h on e k = absurd (let none = on.leads_on in cc)
asked b xs _ c given f h on e k = rw k refl

-- no frame of a script is one that is no command of the table
never_other : (b : Block) (xs : List Assignment) (s : Stage) (g : Forward) → Follows b xs s (Other g) → ⊥
never_other b xs (stage.Hunted r last left) g on = let asks = asks_hunting r last left (Other g) on.leads_on in let no = asks.1 in cc
never_other b xs _ g on = let none = on.leads_on in cc

pub spelled_well : (b : Block) (xs : List Assignment) (s : Stage) (c : Command) → Follows b xs s c → is_misspelled c ≡ false
spelled_well b xs s (Other g) on = absurd (never_other b xs s g on)
spelled_well b xs s _ on = refl

pub to_one : (opcode : ℕ) (b : Block) (xs : List Assignment) (s : Stage) (c : Command) → Follows b xs s c → is_to_all opcode c ≡ false
to_one opcode b xs s (Other g) on = absurd (never_other b xs s g on)
to_one opcode b xs s _ on = refl

-- the bus has settled
settled_by : (settled : Option ℕ) (now : ℕ) (drew : Bool) (c : Command) (f : Forward) → ((t : ℕ) → settled ≡ Some t → t ≤ now)
    → too_close settled (item_of now drew c f) ≡ None
settled_by None now drew c f k = refl
settled_by (Some t) now drew c f k = rw far refl where
  rests : (d : Bool) (c : Command) → 14178 ≤ rest_before d c
  rests false c = omega arith
  rests true Randomise = omega arith
  rests true _ = omega arith

  far : nat_lt (now + rest_before drew c - t) 12150 ≡ false
  far = let before : t ≤ now = k t refl in let rest : 14178 ≤ rest_before drew c = rests drew c in grind (arith, nat_tests)

-- one gear answers after PROGRAM SHORT ADDRESS
pub one_there : (b : Bus) (f : Forward) (h : Answer) → (h ≡ Damaged → asks_one (command_of f) ≡ false) → several_programmed b (seen.Sent f h) ≡ None
one_there b f Silence one = refl
one_there b f (Byte v) one = refl
one_there b f Damaged one = go (command_of f) (one refl) where
  go : (c : Command) → asks_one c ≡ false → several_by b c ≡ None
  go QueryShort e = absurd (cc)
  go (Verify a) e = absurd (cc)
  go (RandomByte a part) e = absurd (cc)
  go _ e = refl

pub clear : (x : Item) (f : Forward) (h : Answer) → (h ≡ Damaged → asks_one (command_of f) ≡ false) → damaged_answer x (seen.Sent f h) ≡ None
clear x f Silence one = refl
clear x f (Byte v) one = refl
clear x f Damaged one = rw (one refl) refl

module _ (b : Block) (xs : List Assignment) (s : Stage) (c : Command) (now : ℕ) (drew : Bool) (f : Forward) (h : Answer) (bus : Bus)
    (Q : Type 0) (F : SearchAddress → Type 0) (L : SearchAddress → ℕ → Type 0) (on : Follows b xs s c) (e : command_of f ≡ c)
    (k : Fits Q F L s now drew bus) where
  pub no_half_pair : half_pair bus (seen.Sent f h) ≡ None
  no_half_pair = unbroken bus.half f h _ (paired b xs s c now drew bus.half f on e k.half)

  pub no_late_pair : late_pair bus (item_of now drew c f) (seen.Sent f h) ≡ None
  no_late_pair = punctual bus.half f _ _ (paired b xs s c now drew bus.half f on e k.half)

  pub no_early_frame : early_frame bus (item_of now drew c f) (seen.Sent f h) ≡ None
  no_early_frame = no_early b xs s c now drew bus.drawn f h on k.drawn

  pub not_over : is_over bus.begun (item_of now drew c f).at f ≡ false → initialisation_over bus (item_of now drew c f) (seen.Sent f h) ≡ None
  not_over short = rw short refl

  pub queried_next : not_queried bus (seen.Sent f h) ≡ None
  queried_next = asked b xs s c bus.given f h on e k.given

  pub settled_before : ((t : ℕ) → bus.settled ≡ Some t → t ≤ now) → settling_time bus (item_of now drew c f) (seen.Sent f h) ≡ None
  settled_before before = settled_by bus.settled now drew c f before
