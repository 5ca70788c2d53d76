use Rattle.dali_progress.proofs.Below.{◌≡◌, ℕ, ◌<◌, ◌≤◌, inl, inr, Bool, true, false, List, refl, sym, subst, arith, length, Some, None, ◌⊎◌, if◌then◌else◌}
use Rattle.dali_progress.proofs.Below.{◌==◌, ◌&&◌, not, is_some, nat_le, nat_tests, count_by, MASK24, Answer, Silence, Forward, SearchAddress, command_of}
use Rattle.dali_progress.proofs.Below.{Command, Randomise, Program, Gear, is_active, is_found, gear_taken, row_after, row_left, draws_needed, Everyone}
use Rattle.dali_progress.proofs.Below.{needs_none, Kept, stage_of, next_stage, Put, Stage, stage_more, Course, Machine, heard_after, asked_after, IsWhole}
use Rattle.dali_progress.proofs.Below.{Purpose, Hunting, Visiting, Closing, Asking, Calling, Drawing, Shorts, entry, block_at, gear_of, is_bare, row_length}
use Rattle.dali_progress.proofs.{Below.{AreOpening, after_at, both_pass, number_same, world}, Both.{left_same, none_first, none_apart, is_complete, DrawsOnce}}
use Rattle.dali_progress.proofs.{Both.{draws_few, closed_none, IsDry, is_unnamed, names_sent}, Gives.{bare_fewer, frame_gives}, Stands.Sends}
use Rattle.dali_progress.proofs.Survey.{Begins.IsNext, Drawn.{is_lost, count_nothing, none_of}, Goes.{Hears, of_survey, sends_now}, Stands.{Begun, Draws}}
use Rattle.dali_progress.proofs.{Survey.{Stands.SurveyAt, Woken.{count_there, opened_lost}}, Surveying.{NoneDrawn, woken_at}, Tables.LeavesNames}
use Rattle.dali_script.specs.declared.stage.Stage.TheVariants as stage
use Rattle.dali_progress.proofs.Drawing as drawn

-- THE NUMBERS THAT GEAR DRAW in a survey: if there is one for each gear with power and without short address, they are never
-- spent. Gear draw once, if none without short address has a number; afterwards each has one.

-- THERE IS A NUMBER FOR EACH GEAR with power and without short address, while one of them has no number
abbrev pub HasNumbers : Machine → List Gear → List ℕ → Type 0
HasNumbers m gs numbers = (k : ℕ) → k < length gs → is_lost (gear_of gs k) ≡ true → count_by is_bare gs ≤ length numbers

-- ---------------------------------------------------------------- frames at which none is drawn

-- and at which no gear forgets its short address
abbrev IsPlain : Command → Type 0
IsPlain Randomise = ⊥
IsPlain (Program None) = ⊥
IsPlain _ = Unit {0}

names_plain : (c : Command) → LeavesNames c → IsPlain c
names_plain Randomise leaves = absurd leaves
names_plain (Program short) leaves = absurd leaves
names_plain _ leaves = tt

dry_plain : (p : Purpose) (n : SearchAddress) (k : Kept) (s : Stage) (c : Command) → IsDry p → Sends p n k s c → IsPlain c
dry_plain p n k s c dry is = go (is_unnamed s) where
  go : ((r : SearchAddress) × (s ≡ stage.Unnamed r)) ⊎ ((r : SearchAddress) → s ≡ stage.Unnamed r → ⊥) → IsPlain c
  go (inl (r, at)) = let given = subst (λ q. Sends p n k q c) at is in subst IsPlain (sym given.3) tt
  go (inr other) = names_plain c (names_sent p n k s c dry other is)

-- who is without number and short address after such a frame was so before
lost_back : (c : Command) (g : Gear) (x : ℕ) → IsPlain c → is_lost (gear_taken c x g) ≡ true → is_lost g ≡ true
lost_back Randomise g x plain lost = absurd plain
lost_back (Program None) g x plain lost = absurd plain
lost_back (Program (Some a)) g x plain lost = go (is_active g.state && is_found g) lost where
  never : (p m : Bool) → (p && (m && false)) ≡ true → ⊥
  never true true e = cc
  never true false e = cc
  never false m e = cc

  go : (b : Bool) → (g.powered && ((g.random == MASK24) && not (is_some (if b then Some a else g.short)))) ≡ true → is_lost g ≡ true
  go false lost = lost
  go true lost = absurd (never g.powered (g.random == MASK24) lost)
lost_back _ g x plain lost = lost

-- no more gear are without short address after a frame
abbrev IsFewer : List Gear → List ℕ → Command → Type 0
IsFewer gs numbers d = count_by is_bare (row_after Everyone d 0 gs numbers) ≤ count_by is_bare gs

-- what is said of a frame: there are numbers enough for it, and afterwards for those to come, if the survey goes on so
abbrev IsEnough : Machine → List Gear → List ℕ → Command → Type 0 → Type 0
IsEnough m gs numbers d After =
    (draws_needed Everyone d 0 gs ≤ length numbers) × (IsFewer gs numbers d → After
    → HasNumbers m (row_after Everyone d 0 gs numbers) (row_left Everyone d 0 gs numbers))

plain_enough : (m : Machine) (gs : List Gear) (numbers : List ℕ) (d : Command) (After : Type 0) → IsPlain d → HasNumbers m gs numbers
    → IsEnough m gs numbers d After
plain_enough m gs numbers d After plain has = (
  omega (arith, none),
  λ fewer now k h lost. rw (left_same Everyone d 0 gs numbers none) (let enough = has k (there k h) (back k (there k h) lost) in omega (arith, fewer, enough)),
) where
  none : draws_needed Everyone d 0 gs ≡ 0
  none = needs_none Everyone d 0 gs (λ e. subst IsPlain e plain)

  there : (k : ℕ) → k < length (row_after Everyone d 0 gs numbers) → k < length gs
  there k h = subst (λ n. k < n) (row_length Everyone d 0 gs numbers) h

  back : (k : ℕ) → k < length gs → is_lost (gear_of (row_after Everyone d 0 gs numbers) k) ≡ true → is_lost (gear_of gs k) ≡ true
  back k h = after_at d (λ g after. is_lost after ≡ true → is_lost g ≡ true) (λ g off lost. lost) (λ g x on. lost_back d g x plain) gs numbers k h

-- ---------------------------------------------------------------- gear draw

-- if none without short address has a number, there are numbers
enough_bare : (m : Machine) (gs : List Gear) (numbers : List ℕ) → NoneDrawn gs → HasNumbers m gs numbers → count_by is_bare gs ≤ length numbers
enough_bare m gs numbers undrawn has = go (nat_le (count_by is_bare gs) (length numbers)) refl where
  lost : (k : ℕ) → k < length gs → is_bare (gear_of gs k) ≡ true → is_lost (gear_of gs k) ≡ true
  lost k h bare =
      let parts = both_pass (gear_of gs k).powered (not (is_some (gear_of gs k).short)) bare in
      let mask : ((gear_of gs k).random == MASK24) ≡ true =
      number_same (gear_of gs k).random MASK24 (undrawn k h parts.0 (none_of (gear_of gs k).short parts.1)) in
      rw (mask, parts.0) parts.1

  go : (b : Bool) → nat_le (count_by is_bare gs) (length numbers) ≡ b → count_by is_bare gs ≤ length numbers
  go true is = grind (arith, nat_tests, is)
  go false is =
      let few : count_by is_bare gs ≤ length numbers → ⊥ = grind (arith, nat_tests, is) in
      absurd (let none : count_by is_bare gs ≡ 0 = count_nothing is_bare gs (λ k h bare. few (has k h (lost k h bare))) in few (omega (arith, none)))

-- until they have drawn
undrawn_at : (s : Stage) (k : Kept) (heard : Shorts) (c : Course) (start : Begun) (gs : List Gear) (left : ℕ) (d : Command) → Draws s k heard c start gs left
    → Sends Drawing c.number k s d → NoneDrawn gs
undrawn_at stage.Free k heard c start gs left d v is = v.draw.drawn.0
undrawn_at stage.Terminated k heard c start gs left d v is = v.draw.drawn.0
undrawn_at stage.InitialisedOnce k heard c start gs left d v is = v.draw.drawn.0
undrawn_at stage.Initialised k heard c start gs left d v is = v.draw.drawn.0
undrawn_at (stage.WokenHigh high) k heard c start gs left d v is = v.draw.drawn.0
undrawn_at (stage.WokenMiddle high middle) k heard c start gs left d v is = v.draw.drawn.0
undrawn_at stage.DrawFree k heard c start gs left d v is = v.draw.drawn
undrawn_at stage.RandomisedOnce k heard c start gs left d v is = v.draw.drawn
undrawn_at stage.Opened k heard c start gs left d v is = absurd (cc)
undrawn_at _ k heard c start gs left d v is = absurd v.draw.stage_is

randomised_first : (gs : List Gear) (c : Command) → Some Randomise ≡ Some c → AreOpening stage.Initialised gs → draws_needed Everyone c 0 gs ≡ 0
randomised_first gs c is gear = let same : Randomise ≡ c = cc in subst (λ d. draws_needed Everyone d 0 gs ≡ 0) same (none_first 0 gs gear)

-- they draw at its last frame
drawing_draws : (s : Stage) (k : Kept) (heard : Shorts) (c : Course) (start : Begun) (gs : List Gear) (left : ℕ) (d : Command) → Draws s k heard c start gs left
    → Sends Drawing c.number k s d → DrawsOnce s d gs
drawing_draws stage.Free k heard c start gs left d v is = inl (none_apart Drawing c.number k stage.Free gs d (λ e. cc) is)
drawing_draws stage.Terminated k heard c start gs left d v is = inl (none_apart Drawing c.number k stage.Terminated gs d (λ e. cc) is)
drawing_draws stage.InitialisedOnce k heard c start gs left d v is = inl (none_apart Drawing c.number k stage.InitialisedOnce gs d (λ e. cc) is)
drawing_draws stage.Initialised k heard c start gs left d v is = inl (none_apart Drawing c.number k stage.Initialised gs d (λ e. cc) is)
drawing_draws (stage.WokenHigh high) k heard c start gs left d v is = inl (none_apart Drawing c.number k (stage.WokenHigh high) gs d (λ e. cc) is)
drawing_draws (stage.WokenMiddle high middle) k heard c start gs left d v is =
    inl (none_apart Drawing c.number k (stage.WokenMiddle high middle) gs d (λ e. cc) is)
drawing_draws stage.DrawFree k heard c start gs left d v is = inl (randomised_first gs d is v.draw.gear)
drawing_draws stage.RandomisedOnce k heard c start gs left d v is = inr (refl, (let same : d ≡ Randomise = cc in same), v.draw.gear)
drawing_draws stage.Opened k heard c start gs left d v is = absurd (cc)
drawing_draws _ k heard c start gs left d v is = absurd v.draw.stage_is

complete_is : (s : Stage) → is_complete s ≡ true → s ≡ stage.Opened
complete_is stage.Opened e = refl
complete_is _ e = absurd (cc)

-- and then none is without number
drawing_enough : (m : Machine) (s : Stage) (k : Kept) (heard after : Shorts) (c : Course) (start : Begun) (gs : List Gear) (numbers : List ℕ) (left rest : ℕ)
    (d : Command) (h : Answer) → Draws s k heard c start gs left → Sends Drawing c.number k s d → HasNumbers m gs numbers
    → IsEnough m gs numbers d (Draws (next_stage s d h) k after c start (row_after Everyone d 0 gs numbers) rest)
drawing_enough m s k heard after c start gs numbers left rest d h v is has =
    (few_needed, λ fewer now. go fewer now (is_complete (next_stage s d h)) refl)
  where
    enough : count_by is_bare gs ≤ length numbers
    enough = enough_bare m gs numbers (undrawn_at s k heard c start gs left d v is) has

    once : DrawsOnce s d gs
    once = drawing_draws s k heard c start gs left d v is

    few_needed : draws_needed Everyone d 0 gs ≤ length numbers
    few_needed = let few = draws_few s d gs once in omega (arith, few, enough)

    go : IsFewer gs numbers d → Draws (next_stage s d h) k after c start (row_after Everyone d 0 gs numbers) rest → (b : Bool)
        → is_complete (next_stage s d h) ≡ b → HasNumbers m (row_after Everyone d 0 gs numbers) (row_left Everyone d 0 gs numbers)
    go fewer now false closed = λ i there lost. rw (left_same Everyone d 0 gs numbers (closed_none s d h gs once closed)) (omega (arith, fewer, enough))
    go fewer now true done = λ i there lost. absurd (let none : count_by is_lost (row_after Everyone d 0 gs numbers) ≡ 0 =
        opened_lost (row_after Everyone d 0 gs numbers)
        (subst (λ t. AreOpening (woken_at t) (row_after Everyone d 0 gs numbers)) (complete_is (next_stage s d h) done) now.draw.gear) in
        let some = count_there is_lost (row_after Everyone d 0 gs numbers) i there lost in omega (arith, none, some))

-- ---------------------------------------------------------------- of whatever transaction

sent_enough : (m : Machine) (p : Purpose) (s : Stage) (k : Kept) (heard after : Shorts) (asked later : ℕ) (c : Course) (start : Begun) (gs : List Gear)
    (numbers : List ℕ) (left rest : ℕ) (d : Command) (h : Answer) → SurveyAt false p s k heard asked c start gs left → Sends p c.number k s d
    → HasNumbers m gs numbers → IsEnough m gs numbers d (SurveyAt true p (next_stage s d h) k after later c start (row_after Everyone d 0 gs numbers) rest)
sent_enough m (Asking a) s k heard after asked later c start gs numbers left rest d h at is has =
    plain_enough m gs numbers d _ (dry_plain (Asking a) c.number k s d tt is) has
sent_enough m Calling s k heard after asked later c start gs numbers left rest d h at is has =
    plain_enough m gs numbers d _ (dry_plain Calling c.number k s d tt is) has
sent_enough m Hunting s k heard after asked later c start gs numbers left rest d h at is has =
    plain_enough m gs numbers d _ (dry_plain Hunting c.number k s d tt is) has
sent_enough m Visiting s k heard after asked later c start gs numbers left rest d h at is has =
    plain_enough m gs numbers d _ (dry_plain Visiting c.number k s d tt is) has
sent_enough m (Closing e) s k heard after asked later c start gs numbers left rest d h at is has =
    plain_enough m gs numbers d _ (dry_plain (Closing e) c.number k s d tt is) has
sent_enough m Drawing s k heard after asked later c start gs numbers left rest d h at is has =
    drawing_enough m s k heard after c start gs numbers left rest d h at is has
sent_enough m _ s k heard after asked later c start gs numbers left rest d h at is has = absurd at

-- so they are never spent
heard_enough : (start : Begun) (m : Machine) (p : ℕ) (f : Forward) (h : Answer) (gs : List Gear) (numbers : List ℕ) (left rest : ℕ)
    → IsNext start m (Put p f) gs left × IsWhole m → m.last ≡ Some (Put p f) → HasNumbers m gs numbers
    → IsEnough m gs numbers (command_of f) (Hears start m p f h (row_after Everyone (command_of f) 0 gs numbers) rest)
heard_enough start m p f h gs numbers left rest next last has = (
  sent.0,
  λ fewer now. sent.1 fewer (subst (λ s. SurveyAt true m.course.purpose s m.kept (heard_after m.course.purpose s h m.heard)
      (asked_after m.course.purpose s h m.asked) m.course start (row_after Everyone (command_of f) 0 gs numbers) rest)
      (stage_more m.trace (entry f h)) now.stands.at),
)
  where
    to : Stage
    to = next_stage (stage_of m.trace) (command_of f) h

    sent : IsEnough m gs numbers (command_of f) (SurveyAt true m.course.purpose to m.kept (heard_after m.course.purpose to h m.heard)
        (asked_after m.course.purpose to h m.asked) m.course start (row_after Everyone (command_of f) 0 gs numbers) rest)
    sent =
        sent_enough m m.course.purpose (stage_of m.trace) m.kept m.heard (heard_after m.course.purpose to h m.heard) m.asked
        (asked_after m.course.purpose to h m.asked) m.course start gs numbers left rest (command_of f) h next.0.0.at (sends_now m p f last next.1) has

pub survey_draws : (start : Begun) → drawn.Draws (of_survey start) HasNumbers
survey_draws start = record {
  stays = record {
    acts = λ s c left l i o u here surveys given holds has. has;
    sends = λ s c left rest p f h u here heard last holds now has. (heard_enough start u.machine p f h (world s).gear (world s).left left rest holds last has).1
        (bare_fewer (block_at s.plan c) (world s).gear (row_after Everyone (command_of f) 0 (world s).gear (world s).left) (frame_gives s c f h u.run here))
        now;
  };
  enough = λ m p f gs numbers left last holds has. (heard_enough start m p f Silence gs numbers left left holds last has).0;
}
