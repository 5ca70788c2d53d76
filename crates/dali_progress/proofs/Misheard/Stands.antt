use Rattle.dali_progress.proofs.Below.{◌≡◌, ℕ, ◌+◌, ◌*◌, ◌<◌, ◌≤◌, ◌⊎◌, Bool, true, false, List, length, Option, Some, None, not, value_of, MASK24}
use Rattle.dali_progress.proofs.Below.{SearchAddress, Gear, Assignment, Kept, Has, IsTrace, stage_of, End, AllFound, BlockFull, GaveUp, Stage, Ascent, IsAscent}
use Rattle.dali_progress.proofs.Below.{Knows, asked_next, leads_to, one_if, Gives, Again, Found, Course, is_yes, sought, Machine, is_failed, Purpose, Opening}
use Rattle.dali_progress.proofs.Below.{Probing, Visiting, Resolving, Closing, Hunting, Asking, Calling, Drawing, PassingOver, Shorts, Tally, Surveying, Way}
use Rattle.dali_progress.proofs.Below.{HasShort, gear_of, is_wanted, wants, OfPowered, AreServedBut}
use Rattle.dali_script.specs.declared.stage.Stage.TheVariants as stage
use Rattle.dali_progress.proofs.{Misheard.Gear.{Each, AreSought, AreBare, AreBareBut, HaveDrawn, AreKnown, HasOne}, Stands.{CloseStage, HaveShort}}
use Rattle.dali_progress.proofs.{Survey.Stands.AreTaken, Survey.Woken.AreLow, Surveying.{IsRollCall, IsDraw, IsAskedOf, IsClear}}

-- HOW FAR A SURVEY IS, if gear g is misheard and nothing else is disturbed. No frames are counted; what its end says is true.

-- ---------------------------------------------------------------- what it counts

-- Visits of gear g alone fail, at most twice in a hunt. So few hunts come between two visits that succeed: each begins with a
-- roll call, of which three are counted, or after a draw. If gear draw for the last time, all is counted anew but the
-- silent searches.
pub record Counted (g k l n : ℕ) (last : Option ℕ) (silent more : ℕ) (gs : List Gear) : Type 0 where
  pub calls : k ≤ 3
  pub draws : l ≤ 3
  pub passed : n ≤ k + l + 1
  pub quiet : silent + one_if (not (is_failed last (gear_of gs g).random)) ≤ 2 * n + 1 + 20 * l + more
  -- once gear have drawn, each without short address has a number
  pub drawn : 0 < l → HaveDrawn gs

abbrev pub IsCounted : ℕ → Tally → ℕ → ℕ → List Gear → Type 0
IsCounted g y silent more gs = Counted g y.calls y.draws y.passed.count y.failed silent more gs

-- from the time on at which gear draw, until they have
pub record IsCountedFor (y : Tally) (silent : ℕ) : Type 0 where
  pub calls : y.calls ≤ 3
  pub draws : y.draws ≤ 3
  pub passed : y.passed.count ≤ y.calls + y.draws
  pub quiet : silent ≤ 2 * y.passed.count + 20 * y.draws

-- a hunt that passed some gear over served all others that drew; or no address can be given
abbrev pub IsSpent : ℕ → Tally → Kept → Shorts → List Gear → Type 0
IsSpent g y k heard gs = (0 < y.passed.count → 0 < y.draws → AreServedBut g gs) ⊎ AreTaken k heard

-- ---------------------------------------------------------------- the census

pub record Asks (g : ℕ) (c : Course) (silent : ℕ) (gs : List Gear) : Type 0 where
  pub unopened : c.opened ≡ false
  pub counted : IsCounted g c.tally silent 0 gs

-- ---------------------------------------------------------------- the roll call

pub record Calls (g : ℕ) (s : Stage) (c : Course) (silent : ℕ) (gs : List Gear) : Type 0 where
  pub opened_is : c.opened ≡ true
  pub counted : IsCounted g c.tally silent 0 gs
  pub roll : IsRollCall s c.number gs

-- ---------------------------------------------------------------- gear draw

pub record Draws (p : Purpose) (s : Stage) (c : Course) (silent : ℕ) (gs : List Gear) : Type 0 where
  pub opened_is : c.opened ≡ true
  pub counted : IsCountedFor c.tally silent
  pub draw : IsDraw p s c.number gs

-- ---------------------------------------------------------------- the search that goes up

-- `told` is whether the machine was told what was heard, and has not acted on it.
abbrev pub HuntStage : Bool → Stage → SearchAddress → List Gear → Type 0
HuntStage told stage.Free n gs = Unit {0}
HuntStage told (stage.HighSent high) n gs = Unit {0}
HuntStage told (stage.LowSent high low) n gs = Unit {0}
HuntStage told (stage.Hunted r None left) n gs = Unit {0}
HuntStage true (stage.Hunted r (Some h) left) n gs = Gives (wants gs) (value_of n) (is_yes h)
HuntStage false (stage.Hunted r (Some h) left) n gs = Unit {0}
HuntStage told _ n gs = ⊥

pub record Rises (told : Bool) (g : ℕ) (s : Stage) (x : Ascent) (n : SearchAddress) (gs : List Gear) : Type 0 where
  pub is : IsAscent x
  pub knows : Knows (wants gs) x
  pub running : leads_to x ≡ Again
  pub number : n ≡ sought (asked_next x)
  pub bare : AreBare g gs
  pub stage_is : HuntStage told s n gs

-- ---------------------------------------------------------------- a visit

-- who is visited is the least that the search has found, and once withdrawn below all that are left
pub record IsReached (x : Ascent) (v : ℕ) (gs : List Gear) : Type 0 where
  pub is : IsAscent x
  pub reached : leads_to x ≡ Found v
  pub there : wants gs v ≡ true
  pub least : (m : ℕ) → wants gs m ≡ true → v ≤ m

pub record IsPast (x : Ascent) (v : ℕ) (gs : List Gear) : Type 0 where
  pub is : IsAscent x
  pub reached : leads_to x ≡ Found v
  pub past : (m : ℕ) → wants gs m ≡ true → v < m

-- the number is that of gear g
abbrev pub IsOfOne : ℕ → ℕ → List Gear → Type 0
IsOfOne g v gs = (gear_of gs g).random ≡ v

abbrev pub VisitStage : ℕ → Stage → Ascent → ℕ → SearchAddress → List Gear → Type 0
VisitStage g stage.Free x v n gs = IsReached x v gs × AreBare g gs
VisitStage g (stage.HighSent high) x v n gs = IsReached x v gs × AreBare g gs
VisitStage g (stage.MiddleSent high middle) x v n gs = IsReached x v gs × AreBare g gs
VisitStage g (stage.NumberSent r) x v n gs = IsReached x v gs × AreBare g gs
VisitStage g (stage.Unnamed r) x v n gs = IsReached x v gs × AreBare g gs × (r ≡ n)
VisitStage g (stage.Found r b) x v n gs = IsReached x v gs × AreBare g gs × IsOfOne g v gs × HasOne v b gs × (b < 64)
VisitStage g (stage.Unanswered r) x v n gs = IsReached x v gs × AreBare g gs × IsOfOne g v gs
VisitStage g (stage.Inconclusive r other) x v n gs = IsReached x v gs × AreBare g gs × IsOfOne g v gs
VisitStage g (stage.Programmed r a) x v n gs = IsReached x v gs × AreBareBut g v gs × HaveShort gs v a × (a < 64)
VisitStage g (stage.Confirmed r a) x v n gs = IsReached x v gs × AreBareBut g v gs × HaveShort gs v a × (a < 64)
VisitStage g (stage.Withdrawn r a) x v n gs = IsPast x v gs × AreBare g gs × HasOne v a gs × (value_of r ≡ v) × (a < 64)
VisitStage g _ x v n gs = ⊥

-- who is passed over is gear g
abbrev pub PassStage : ℕ → Stage → Ascent → ℕ → List Gear → Type 0
PassStage g stage.Free x v gs = IsReached x v gs × AreBare g gs × IsOfOne g v gs
PassStage g (stage.HighSent high) x v gs = IsReached x v gs × AreBare g gs × IsOfOne g v gs
PassStage g (stage.MiddleSent high middle) x v gs = IsReached x v gs × AreBare g gs × IsOfOne g v gs
PassStage g (stage.NumberSent r) x v gs = IsReached x v gs × AreBare g gs × IsOfOne g v gs
PassStage g (stage.PassedOver r) x v gs = IsPast x v gs × AreBare g gs × IsOfOne g v gs
PassStage g _ x v gs = ⊥

abbrev pub StageOf : ℕ → Purpose → Stage → Ascent → ℕ → SearchAddress → List Gear → Type 0
StageOf g Visiting s x v n gs = VisitStage g s x v n gs
StageOf g PassingOver s x v n gs = PassStage g s x v gs
StageOf g _ s x v n gs = ⊥

pub record Visits (g : ℕ) (p : Purpose) (s : Stage) (x : Ascent) (n : SearchAddress) (gs : List Gear) : Type 0 where
  pub visited : ℕ
  pub number : n ≡ sought visited
  pub drawn : visited < MASK24
  pub stage_is : StageOf g p s x visited n gs

-- ---------------------------------------------------------------- the hunts

abbrev pub HuntAt : Bool → ℕ → Purpose → Stage → Ascent → SearchAddress → List Gear → Type 0
HuntAt told g Hunting s x n gs = Rises told g s x n gs
HuntAt told g p s x n gs = Visits g p s x n gs

-- once some gear is withdrawn the search has found some gear, though it does not know yet
abbrev pub found_at : Stage → Ascent → ℕ
found_at (stage.Withdrawn r a) x = 1
found_at (stage.PassedOver r) x = 1
found_at s x = x.found

-- a visit that just failed is counted, and will be one more that did
abbrev pub failed_at : Stage → ℕ
failed_at (stage.Unanswered r) = 1
failed_at (stage.Inconclusive r other) = 1
failed_at s = 0

abbrev pub IsQuietAt : Stage → ℕ → Type 0
IsQuietAt (stage.Withdrawn r a) silent = silent ≡ 0
IsQuietAt s silent = Unit {0}

-- gear g is passed over at most once in a hunt
abbrev pub IsFew : Purpose → ℕ → Tally → List Gear → Type 0
IsFew PassingOver g y gs = Unit {0}
IsFew p g y gs = is_wanted (gear_of gs g) ≡ true → y.passed.count ≤ y.calls + y.draws

-- what is known while gear are hunted, whichever transaction is to come
pub record Hunted (g : ℕ) (F : Type 0) (opened : Bool) (y : Tally) (silent more found : ℕ) (gs : List Gear) : Type 0 where
  pub opened_is : opened ≡ true
  pub counted : IsCounted g y silent more gs
  pub few : F
  pub low : AreLow gs
  pub sought_are : AreSought g found gs

pub record Hunts (told : Bool) (g : ℕ) (p : Purpose) (s : Stage) (c : Course) (silent : ℕ) (gs : List Gear) : Type 0 where
  pub hunted : Hunted g (IsFew p g c.tally gs) c.opened c.tally silent (failed_at s) (found_at s c.ascent) gs
  pub open hunted use *
  pub quiet : IsQuietAt s silent
  pub at : HuntAt told g p s c.ascent c.number gs

-- ---------------------------------------------------------------- the close

-- what an end says, by records and marks
abbrev pub EndsBy : ℕ → End → Kept → Shorts → List Gear → Type 0
EndsBy g AllFound k heard gs = OfPowered gs HasShort
EndsBy g BlockFull k heard gs = AreTaken k heard
EndsBy g GaveUp k heard gs = AreServedBut g gs ⊎ AreTaken k heard

pub record Closes (g : ℕ) (e : End) (s : Stage) (k : Kept) (heard : Shorts) (gs : List Gear) : Type 0 where
  pub stage_is : CloseStage s
  pub well : EndsBy g e k heard gs

-- ---------------------------------------------------------------- of whatever transaction

abbrev pub At : Bool → ℕ → Purpose → Stage → Kept → Shorts → Course → ℕ → List Gear → Type 0
At told g (Asking a) s k heard c silent gs = Asks g c silent gs
At told g Calling s k heard c silent gs = Calls g s c silent gs
At told g Hunting s k heard c silent gs = Hunts told g Hunting s c silent gs
At told g Visiting s k heard c silent gs = Hunts told g Visiting s c silent gs
At told g PassingOver s k heard c silent gs = Hunts told g PassingOver s c silent gs
At told g Drawing s k heard c silent gs = Draws Drawing s c silent gs
At told g Opening s k heard c silent gs = Draws Opening s c silent gs
At told g (Closing e) s k heard c silent gs = Closes g e s k heard gs
At told g Probing s k heard c silent gs = ⊥
At told g (Resolving a) s k heard c silent gs = ⊥

-- ---------------------------------------------------------------- who is known

-- THE FIRST TIME that short addresses are asked, the table has each gear below this one
abbrev pub IsTabled : ℕ → List Assignment → ℕ → Gear → Type 0
IsTabled f enrolled k y = (a : ℕ) → a < f → y.short ≡ Some a → y.random < MASK24 → Has enrolled (a, y.random)

abbrev pub AreTabledBelow : ℕ → List Assignment → List Gear → Type 0
AreTabledBelow f enrolled gs = Each gs (IsTabled f enrolled)

-- LATER each address of the block is taken, and each gear is known.
abbrev pub IsCensus : ℕ → Tally → Kept → Shorts → List Gear → Type 0
IsCensus f y k heard gs = ((y.passed.count ≡ 0) × AreTabledBelow f k.enrolled gs) ⊎ (AreKnown k.reserved k.enrolled gs × AreTaken k heard)

pub record Census (a : ℕ) (s : Stage) (k : Kept) (heard : Shorts) (c : Course) (gs : List Gear) : Type 0 where
  pub ask : IsAskedOf a s k heard gs
  pub from_is : c.from ≡ a + 1
  pub census : IsCensus a c.tally k heard gs

-- Afterwards each gear is known, and what is reserved is not marked.
abbrev pub AreSeen : Kept → Shorts → List Gear → Type 0
AreSeen k heard gs = AreKnown k.reserved k.enrolled gs × IsClear k heard

abbrev pub KnownAt : ℕ → Purpose → Stage → Kept → Shorts → Course → List Gear → Type 0
KnownAt g (Asking a) s k heard c gs = Census a s k heard c gs
KnownAt g Calling s k heard c gs = AreSeen k heard gs × IsSpent g c.tally k heard gs
KnownAt g p s k heard c gs = AreSeen k heard gs

-- what every machine has
pub record Running (g tries : ℕ) (y : Way) (gs : List Gear) : Type 0 where
  pub there : g < length gs
  pub untried : tries ≡ 0
  pub way : y ≡ Surveying

abbrev pub Calm : ℕ → Machine → List Gear → Type 0
Calm g m gs = Running g m.tries m.course.way gs

pub record MisheardStands (told : Bool) (g : ℕ) (m : Machine) (gs : List Gear) : Type 0 where
  pub calm : Calm g m gs
  pub trace : IsTrace (stage_of m.trace) m.trace
  pub at : At told g m.course.purpose (stage_of m.trace) m.kept m.heard m.course m.silent gs
  pub known : KnownAt g m.course.purpose (stage_of m.trace) m.kept m.heard m.course gs
