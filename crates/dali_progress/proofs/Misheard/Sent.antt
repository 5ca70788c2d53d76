use Rattle.dali_progress.proofs.Below.{◌≡◌, ℕ, ◌+◌, ◌-◌, ◌*◌, ◌<◌, ◌≤◌, inl, inr, Bool, true, false, List, refl, sym, subst, ◌∙◌, arith, length, Option, Some}
use Rattle.dali_progress.proofs.Below.{None, ◌==◌, not, if◌then◌else◌, value_of, MASK24, Answer, SearchAddress, Command, Compare, SearchHigh, SearchMiddle}
use Rattle.dali_progress.proofs.Below.{SearchLow, QueryShort, Gear, row_after, draws_needed, drawn_of, answers_of, heard_of, Everyone, Kept, Has, next_stage}
use Rattle.dali_progress.proofs.Below.{Stage, Ascent, asked_next, one_if, Gives, Course, is_yes, byte_to_send, silent_after, is_failed, Sends, Purpose, Hunting}
use Rattle.dali_progress.proofs.{Below.{PassingOver, Tally, gear_of, is_wanted, wants, SameCore, IsHeardBut}, Frames.{Seeks, probe_says, gives_same, low_byte}}
use Rattle.dali_progress.proofs.{Stands.some_is, Misheard.{Gear.{HaveDrawn, AreSought}, Stands.{IsCounted, HuntStage, Rises, IsReached, IsOfOne, HuntAt}}}
use Rattle.dali_progress.proofs.{Misheard.Stands.{found_at, failed_at, IsQuietAt, IsFew, Hunts}, Survey.{Drawn.{AreNumbered, DrewApart}, Rising.IsByteSent}}
use Rattle.dali_progress.proofs.{Survey.{Rising.byte_sent, Woken.{AreLow, IsByteLow, low_after}}, Surveying.IsTakenBut}
use Rattle.dali_script.specs.declared.stage.Stage.TheVariants as stage
use Rattle.dali_events.proofs.Search.Leaving as leaving
use Rattle.dali_progress.proofs.Misheard.Gear as gear

-- A FRAME IS SENT, and each gear with power takes it.

-- what was heard, if gear g may be misheard, and what is known of the gear
pub record Taken (g : ℕ) (c : Command) (gs : List Gear) (numbers : List ℕ) (h : Answer) : Type 0 where
  pub there : g < length gs
  pub heard : IsHeardBut g gs c h
  pub enough : draws_needed Everyone c 0 gs ≤ length numbers
  pub below : (x : ℕ × ℕ) → Has (drawn_of Everyone c 0 gs numbers) x → x.1 < MASK24
  pub apart : DrewApart gs
  pub numbered : AreNumbered gs

-- all but QUERY SHORT ADDRESS is heard as it is
pub truth : (g : ℕ) (c : Command) (gs : List Gear) (numbers : List ℕ) (h : Answer) → Taken g c gs numbers h → (c ≡ QueryShort → ⊥)
    → h ≡ heard_of (answers_of Everyone c 0 gs)
truth g c gs numbers h t other = go t.heard where
  go : IsHeardBut g gs c h → h ≡ heard_of (answers_of Everyone c 0 gs)
  go (inl is) = is
  go (inr mis) = absurd (other mis.0)

pub but_taken : (g : ℕ) (c : Command) (gs : List Gear) (numbers : List ℕ) (h : Answer) → Taken g c gs numbers h → IsTakenBut c gs numbers h
but_taken g c gs numbers h t = record { heard = truth g c gs numbers h t; enough = t.enough; below = t.below; numbered = t.numbered }

-- ---------------------------------------------------------------- what is counted stays

pub counted_on : (g : ℕ) (y : Tally) (silent more : ℕ) (gs hs : List Gear) → IsCounted g y silent more gs → (gear_of hs g).random ≡ (gear_of gs g).random
    → (HaveDrawn gs → HaveDrawn hs) → IsCounted g y silent more hs
counted_on g y silent more gs hs v random drawn = record {
  calls = v.calls;
  draws = v.draws;
  passed = v.passed;
  quiet = subst (λ r. silent + one_if (not (is_failed y.failed r)) ≤ 2 * y.passed.count + 1 + 20 * y.draws + more) (sym random) v.quiet;
  drawn = λ some. drawn (v.drawn some);
}

-- a visit that failed
counted_failed : (g : ℕ) (y : Tally) (silent : ℕ) (gs : List Gear) → IsCounted g y silent 0 gs → IsCounted g y (silent + 1) 1 gs
counted_failed g y silent gs v = record {
  calls = v.calls;
  draws = v.draws;
  passed = v.passed;
  quiet = more silent (one_if (not (is_failed y.failed (gear_of gs g).random))) (2 * y.passed.count + 1 + 20 * y.draws) v.quiet;
  drawn = v.drawn;
} where
  more : (n k x : ℕ) → n + k ≤ x + 0 → n + 1 + k ≤ x + 1
  more n k x enough = omega (arith, enough)

-- once the machine is told
counted_told : (t : Stage) (g : ℕ) (y : Tally) (silent : ℕ) (gs : List Gear) → IsCounted g y silent 0 gs
    → IsCounted g y (silent_after t true silent) (failed_at t) gs
counted_told (stage.Unanswered r) g y silent gs v = counted_failed g y silent gs v
counted_told (stage.Inconclusive r other) g y silent gs v = counted_failed g y silent gs v
counted_told (stage.Withdrawn r a) g y silent gs v =
    record {
      calls = v.calls;
      draws = v.draws;
      passed = v.passed;
      quiet = less silent (one_if (not (is_failed y.failed (gear_of gs g).random))) (2 * y.passed.count + 1 + 20 * y.draws) v.quiet;
      drawn = v.drawn;
    } where
      less : (n k x : ℕ) → n + k ≤ x + 0 → 0 + k ≤ x + 0
      less n k x enough = omega (arith, enough)
counted_told _ g y silent gs v = v

quiet_told : (t : Stage) (silent : ℕ) → IsQuietAt t (silent_after t true silent)
quiet_told (stage.Withdrawn r a) silent = refl
quiet_told _ silent = tt

-- a frame of a hunt was heard
pub told_hunts : (g : ℕ) (p : Purpose) (t : Stage) (c : Course) (silent : ℕ) (gs : List Gear) → c.opened ≡ true → IsCounted g c.tally silent 0 gs
    → IsFew p g c.tally gs → AreLow gs → AreSought g (found_at t c.ascent) gs → HuntAt true g p t c.ascent c.number gs
    → Hunts true g p t c (silent_after t c.opened silent) gs
told_hunts g p t c silent gs opened counted few low sought_are at = record {
  hunted = record { opened_is = opened; counted = all; few = few; low = low; sought_are = sought_are };
  quiet = subst (λ b. IsQuietAt t (silent_after t b silent)) (sym opened) (quiet_told t silent);
  at = at;
} where
  all : IsCounted g c.tally (silent_after t c.opened silent) (failed_at t) gs
  all = subst (λ b. IsCounted g c.tally (silent_after t b silent) (failed_at t) gs) (sym opened) (counted_told t g c.tally silent gs counted)

pub few_on : (p : Purpose) (g : ℕ) (y : Tally) (gs hs : List Gear) → (is_wanted (gear_of hs g) ≡ true → is_wanted (gear_of gs g) ≡ true) → IsFew p g y gs
    → IsFew p g y hs
few_on PassingOver g y gs hs was few = tt
few_on _ g y gs hs was few = λ is. few (was is)

-- ---------------------------------------------------------------- the same gear, but for what they seek

pub reached_core : (x : Ascent) (v : ℕ) (gs hs : List Gear) → SameCore gs hs → IsReached x v gs → IsReached x v hs
reached_core x v gs hs same r = record {
  is = r.is;
  reached = r.reached;
  there = leaving.core_wants gs hs v same ∙ r.there;
  least = λ m has. r.least m (sym (leaving.core_wants gs hs m same) ∙ has);
}

pub own_core : (g v : ℕ) (gs hs : List Gear) → SameCore gs hs → g < length gs → IsOfOne g v gs → IsOfOne g v hs
own_core g v gs hs same there is = gear.random_core gs hs g same there ∙ is

-- what goes on with a hunt by such a frame
pub hunts_core : (g : ℕ) (p : Purpose) (s t : Stage) (c : Course) (silent : ℕ) (gs : List Gear) (numbers : List ℕ) (d : Command) → Hunts false g p s c silent gs
    → failed_at s ≡ 0 → found_at s c.ascent ≡ c.ascent.found → found_at t c.ascent ≡ c.ascent.found → SameCore gs (row_after Everyone d 0 gs numbers)
    → IsByteLow d → g < length gs → HuntAt true g p t c.ascent c.number (row_after Everyone d 0 gs numbers)
    → Hunts true g p t c (silent_after t c.opened silent) (row_after Everyone d 0 gs numbers)
hunts_core g p s t c silent gs numbers d v failed was now same byte there at =
    told_hunts g p t c silent hs v.opened_is (counted_on g c.tally silent 0 gs hs (subst (λ n. IsCounted g c.tally silent n gs) failed v.counted)
    (gear.random_core gs hs g same there) (gear.drawn_core gs hs same))
    (few_on p g c.tally gs hs (λ is. sym (leaving.core_wanted (gear_of gs g) (gear_of hs g) (same.each g there)) ∙ is) v.few)
    (low_after d gs numbers byte v.low) (subst (λ n. AreSought g n hs) (sym now)
    (gear.sought_core g c.ascent.found gs hs same (subst (λ n. AreSought g n gs) was v.sought_are))) at
  where
    hs : List Gear
    hs = row_after Everyone d 0 gs numbers

-- ---------------------------------------------------------------- the search that goes up

abbrev pub HuntedTo : ℕ → Purpose → Stage → Course → ℕ → List Gear → List ℕ → Command → Answer → Type 0
HuntedTo g p s c silent gs numbers d h =
    Hunts true g p (next_stage s d h) c (silent_after (next_stage s d h) c.opened silent) (row_after Everyone d 0 gs numbers)

rises_core : (g : ℕ) (s t : Stage) (x : Ascent) (n : SearchAddress) (gs hs : List Gear) → Rises false g s x n gs → SameCore gs hs → HuntStage true t n hs
    → Rises true g t x n hs
rises_core g s t x n gs hs v same stage = record {
  is = v.is;
  knows = record {
    above = λ m has. v.knows.above m (sym (leaving.core_wants gs hs m same) ∙ has);
    below = λ small. (let at = v.knows.below small in (at.0, leaving.core_wants gs hs at.0 same ∙ at.1, at.2));
  };
  running = v.running;
  number = v.number;
  bare = gear.bare_core g gs hs same v.bare;
  stage_is = stage;
}

-- the next question
question_sent : (g : ℕ) (k : Kept) (r : SearchAddress) (last : Option Answer) (room : ℕ) (c : Course) (silent : ℕ) (gs : List Gear) (numbers : List ℕ)
    (d : Command) (h : Answer) → Hunts false g Hunting (stage.Hunted r last room) c silent gs → Sends k c.number Hunting (stage.Hunted r last room) d
    → Taken g d gs numbers h → Seeks (stage.Hunted r last room) gs → HuntedTo g Hunting (stage.Hunted r last room) c silent gs numbers d h
question_sent g k r last room c silent gs numbers d h v is t seek =
    go (subst (λ e. IsByteSent c.number r last room e h) (sym is.0) (byte_sent c.number r last room h (let some = is.1 in omega (arith, some)))) where
      go : IsByteSent c.number r last room d h → HuntedTo g Hunting (stage.Hunted r last room) c silent gs numbers d h
      go (inl b) =
          subst (λ q. Hunts true g Hunting q c (silent_after q c.opened silent) (row_after Everyone d 0 gs numbers)) (sym b.next)
          (hunts_core g Hunting (stage.Hunted r last room) (stage.Hunted b.number None (room - 1)) c silent gs numbers d v refl refl refl
          (b.core gs numbers) (byte_low c.number r (low_byte c.number (asked_next c.ascent) v.at.number) d is.0) t.there
          (rises_core g (stage.Hunted r last room) (stage.Hunted b.number None (room - 1)) c.ascent c.number gs _ v.at (b.core gs numbers) tt))
        where
          byte_low : (n r : SearchAddress) → n.low < 256 → (e : Command) → e ≡ byte_to_send n r → IsByteLow e
          byte_low n r small e is = subst IsByteLow (sym is) (by (r.high == n.high) (r.low == n.low) (r.middle == n.middle)) where
            by : (a b m : Bool) → IsByteLow (if a then (if b then (if m then Compare else SearchMiddle n.middle) else SearchLow n.low) else SearchHigh n.high)
            by false b m = tt
            by true false m = small
            by true true false = tt
            by true true true = tt
      go (inr b) =
          subst (λ e. HuntedTo g Hunting (stage.Hunted r last room) c silent gs numbers e h) (sym b.0)
          (subst (λ q. Hunts true g Hunting q c (silent_after q c.opened silent) (row_after Everyone Compare 0 gs numbers)) (sym b.2)
          (hunts_core g Hunting (stage.Hunted r last room) (stage.Hunted r (Some h) (room - 1))
          c silent gs numbers Compare v refl refl refl same tt t.there
          (rises_core g (stage.Hunted r last room) (stage.Hunted r (Some h) (room - 1)) c.ascent c.number gs _ v.at same says)))
        where
          same : SameCore gs (row_after Everyone Compare 0 gs numbers)
          same = leaving.core_after Compare gs numbers tt

          heard : h ≡ heard_of (answers_of Everyone Compare 0 gs)
          heard = subst (λ e. h ≡ heard_of (answers_of Everyone e 0 gs)) b.0
              (truth g d gs numbers h t (λ e. (let never : QueryShort ≡ Compare = sym e ∙ b.0 in cc)))

          says : Gives (wants (row_after Everyone Compare 0 gs numbers)) (value_of c.number) (is_yes h)
          says = gives_same (wants gs) (wants (row_after Everyone Compare 0 gs numbers)) (value_of c.number) (is_yes h)
              (λ m. leaving.core_wants gs (row_after Everyone Compare 0 gs numbers) m same)
              (subst (λ (q : SearchAddress). Gives (wants gs) (value_of q) (is_yes h)) b.1 (probe_says gs r h (seek r refl) heard))

pub hunting_sent : (g : ℕ) (s : Stage) (k : Kept) (c : Course) (silent : ℕ) (gs : List Gear) (numbers : List ℕ) (d : Command) (h : Answer)
    → Hunts false g Hunting s c silent gs → Sends k c.number Hunting s d → Taken g d gs numbers h → Seeks s gs → HuntedTo g Hunting s c silent gs numbers d h
hunting_sent g stage.Free k c silent gs numbers d h v is t seek =
    subst (λ e. HuntedTo g Hunting stage.Free c silent gs numbers e h) (sym is.0)
    (hunts_core g Hunting stage.Free (stage.HighSent c.number.high) c silent gs numbers (SearchHigh c.number.high) v refl refl refl
    (leaving.core_after (SearchHigh c.number.high) gs numbers tt) tt t.there (rises_core g stage.Free (stage.HighSent c.number.high) c.ascent c.number gs _ v.at
    (leaving.core_after (SearchHigh c.number.high) gs numbers tt) tt))
hunting_sent g (stage.HighSent high) k c silent gs numbers d h v is t seek =
    subst (λ e. HuntedTo g Hunting (stage.HighSent high) c silent gs numbers e h) (some_is (SearchLow c.number.low) d is.0)
    (hunts_core g Hunting (stage.HighSent high) (stage.LowSent high c.number.low) c silent gs numbers (SearchLow c.number.low) v refl refl refl
    (leaving.core_after (SearchLow c.number.low) gs numbers tt) (low_byte c.number (asked_next c.ascent) v.at.number) t.there
    (rises_core g (stage.HighSent high) (stage.LowSent high c.number.low) c.ascent c.number gs _ v.at
    (leaving.core_after (SearchLow c.number.low) gs numbers tt) tt))
hunting_sent g (stage.LowSent high low) k c silent gs numbers d h v is t seek =
    subst (λ e. HuntedTo g Hunting (stage.LowSent high low) c silent gs numbers e h) (some_is (SearchMiddle c.number.middle) d is.0)
    (hunts_core g Hunting (stage.LowSent high low) (stage.Hunted (record { high = high; middle = c.number.middle; low = low }) None 5) c silent gs numbers
    (SearchMiddle c.number.middle) v refl refl refl (leaving.core_after (SearchMiddle c.number.middle) gs numbers tt) tt t.there
    (rises_core g (stage.LowSent high low) (stage.Hunted (record { high = high; middle = c.number.middle; low = low }) None 5)
    c.ascent c.number gs _ v.at (leaving.core_after (SearchMiddle c.number.middle) gs numbers tt) tt))
hunting_sent g (stage.Hunted r None room) k c silent gs numbers d h v is t seek = question_sent g k r None room c silent gs numbers d h v is t seek
hunting_sent g (stage.Hunted r (Some a) room) k c silent gs numbers d h v is t seek = question_sent g k r (Some a) room c silent gs numbers d h v is t seek
hunting_sent g _ k c silent gs numbers d h v is t seek = absurd v.at.stage_is
