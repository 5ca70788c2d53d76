use Rattle.dali_progress.proofs.Below.{◌≡◌, ℕ, ◌+◌, ◌<◌, ◌≤◌, ◌⊎◌, inl, inr, true, false, List, [], ◌∷◌, ◌++◌, refl, sym, ap, subst, ◌∙◌, arith, length, Option}
use Rattle.dali_progress.proofs.Below.{Some, None, ◌==◌, bit_at-zero, Answer, Forward, command_of, Command, Gear, row_after, drawn_of, Everyone, Kept, IsLawful}
use Rattle.dali_progress.proofs.Below.{IsTrace, stage_of, next_stage, End, AllFound, BlockFull, GaveUp, Input, Order, Put, Commit, Done, Halt, Record, Reserve}
use Rattle.dali_progress.proofs.Below.{Enrol, Release, Stage, trace_more, has_before, without_has, has_right, stage_more, stage_none, visiting, Course, Machine}
use Rattle.dali_progress.proofs.Below.{machine_heard, machine_surveying, machine_told, silent_after, heard_after, begins_at, at_rest, machine_ordered}
use Rattle.dali_progress.proofs.Below.{machine_after, AfterEnrolled, has_short, IsWhole, Sends, Purpose, Shorts, IsGivenBy, Allowed, happens, entry}
use Rattle.dali_progress.proofs.Below.{trace_running, KeepsPromiseNow, IsRun, LeavesUsed, World, controller_at, Event, row_length, IsFound, LeavesWhole}
use Rattle.dali_progress.proofs.Below.{SiteState, world, site_logged, machine_at, IsHeardBut, IsOfRoundBut, RoundsBut, EndsWellBut, IsTrueEndBut, HasEnded}
use Rattle.dali_progress.proofs.{Below.{GoesOn, IsAlone, Succeeds, IsOfRound, Rounds, site_after}, Along.{RunsBy, runs_first, acted_to, frame_to, sent_to}}
use Rattle.dali_progress.proofs.{Along.{ended_at, goes_by, HoldsBy, holds_next, acts_from}, Both.{never_eight, with_kept, put_no_enrolment, not_free, no_tries}}
use Rattle.dali_progress.proofs.{Both.{IsKnown, lawful_now, no_enrolment_now, no_enrolment_yet, reserved_begins}, Census.Asked.sending_of, Frames.Seeks}
use Rattle.dali_progress.proofs.{Logged.{same_some, world_logged}, Lone.{IsLone, lone_sent}, Misheard.Stands.{Calm, EndsBy, AreTabledBelow, KnownAt, At}}
use Rattle.dali_progress.proofs.Misheard.{Stands.MisheardStands, Begins.{IsOwn, Keeps, IsNext, first_by, asks_on, hunts_on, GoesTo}, Known.{SentTo, at_sent}}
use Rattle.dali_progress.proofs.{Misheard.{Known.known_sent, Sent.Taken, Visits.turned}, Survey.Goes.{found_sent, acted_so, promise_now, surveyed_now}}
use Rattle.dali_progress.proofs.Survey.{Goes.IsActedSo, Visits.rest_next, Queried.{OneShort, IsTrue, IsAtHand}, Turns.IsUncontradicted}
use Rattle.dali_script.specs.declared.orders.Input.TheVariants as input
use Rattle.dali_script.specs.declared.stage.Stage.TheVariants as stage
use Rattle.dali_controller.proofs.Given as given
use Rattle.dali_events.specs.declared.event.Event.TheVariants as event
use Rattle.dali_progress.proofs.Misheard.Gear as gear

-- A SURVEY GOES ON, event by event, if gear g is misheard.

-- ---------------------------------------------------------------- a record was kept

committed : (g : ℕ) (m : Machine) (x : Record) (o : Order) (gs : List Gear) → Calm g m gs → Keeps g m.kept m.heard m.course m.silent x gs → m.trace ≡ []
    → m.last ≡ Some (Commit x) → IsGivenBy (with_kept m x) o → OneShort gs → IsTrue (with_kept m x).kept.enrolled gs → GoesTo g (with_kept m x) o gs
committed g m (Reserve a r) o gs calm v free last by one holds =
    first_by g (with_kept m (Reserve a r)) o (visiting m.course r) gs calm (reserved_begins m a r o calm.untried free last by)
    (rest_next m (Reserve a r) free last) calm.way
    (record { hunted = v.hunted; quiet = tt; at = record { visited = r; number = refl; drawn = v.drawn; stage_is = (v.reached, v.bare) } }) (
      gear.known_more m.kept.reserved m.kept.enrolled (m.kept.reserved ++ (a, r) ∷ []) m.kept.enrolled gs (λ x has. has_before m.kept.reserved (a, r) x has)
          (λ x has. has) v.known,
      v.clear,
    )
committed g m (Enrol b r) o gs calm (inr past) free last by one holds =
    hunts_on g (with_kept m (Enrol b r)) o gs calm (given.enrolled (with_kept m (Enrol b r)) o b r by last free past.1) (rest_next m (Enrol b r) free last) (
      past.0.0,
      (
        gear.known_more m.kept.reserved m.kept.enrolled m.kept.reserved (m.kept.enrolled ++ (b, r) ∷ []) gs (λ x has. has)
            (λ x has. has_before m.kept.enrolled (b, r) x has) past.0.1.0,
        past.0.1.1,
      ),
    )
committed g m (Enrol b r) o gs calm (inl asked) free last by one holds = go o by (by.followed.enrolled b r last) where
  goes : (q : Order) → IsGivenBy (with_kept m (Enrol b r)) q → IsOwn m.kept b r → GoesTo g (with_kept m (Enrol b r)) q gs
  goes q by own =
      asks_on g (with_kept m (Enrol b r)) q gs calm (given.enrolled (with_kept m (Enrol b r)) q b r by last free own)
      (rest_next m (Enrol b r) free last) asked.0 one holds

  go : (q : Order) → IsGivenBy (with_kept m (Enrol b r)) q → AfterEnrolled (with_kept m (Enrol b r)) b r q → GoesTo g (with_kept m (Enrol b r)) q gs
  go (Put p f) by own = goes (Put p f) by own
  go (Commit x) by (a, has, is) = released asked.1 where
    released : ((m.course.tally.passed.count ≡ 0) × AreTabledBelow m.course.from (m.kept.enrolled ++ (b, r) ∷ []) gs) ⊎ IsOwn m.kept b r
        → GoesTo g (with_kept m (Enrol b r)) (Commit x) gs
    released (inl first) = subst (λ y. GoesTo g (with_kept m (Enrol b r)) (Commit y) gs) (sym is) (calm, (asked.0, first))
    released (inr own) = goes (Commit x) by own
  go (Done e) by never = absurd never
  go (Halt why) by never = absurd never
committed g m (Release a r) o gs calm v free last by one holds =
    asks_on g (with_kept m (Release a r)) o gs calm (given.begins_free (with_kept m (Release a r)) o by free (no_enrolment_now a r m.last last)
    (never_eight m.tries calm.untried)) (rest_next m (Release a r) free last) (record {
      unopened = v.0.unopened;
      counted = v.0.counted;
      small = v.0.small;
      clear = λ b q has. v.0.clear b q (without_has (a, r) m.kept.reserved (b, q) has);
      census = inl v.1;
    }) one holds

-- ---------------------------------------------------------------- what is so between two events

-- before the start
pub record IsUnbegun (g : ℕ) (m : Machine) (gs : List Gear) : Type 0 where
  pub there : g < length gs
  pub tries : m.tries ≡ 0
  pub silent : m.silent ≡ 0
  pub free : m.trace ≡ []
  pub unopened : m.course.opened ≡ false
  pub first : m.course.from ≡ 0
  pub unmarked : (b : ℕ) → has_short m.heard b ≡ false

-- a frame was heard: the machine stands so, once it is told
pub record Hears (g : ℕ) (m : Machine) (f : Forward) (h : Answer) (gs : List Gear) : Type 0 where
  pub stands : MisheardStands true g (machine_heard m (Some f) h) gs
  pub running : stage_of (machine_heard m (Some f) h).trace ≡ stage.Free → ⊥

abbrev Next : ℕ → Machine → Order → List Gear → Type 0
Next g m o gs = IsNext g m o gs × IsWhole m

abbrev pub Holds : ℕ → Machine → Option Order → Option Input → List Gear → Type 0
Holds g m last told gs = HoldsBy (IsUnbegun g) (λ n p f h gs. Hears g n f h gs) (Next g) m last told gs

-- ---------------------------------------------------------------- the controller acts

first_acts : (g : ℕ) (m : Machine) (o : Order) (gs : List Gear) → m.last ≡ None → IsGivenBy (machine_surveying m) o → OneShort gs → IsTrue m.kept.enrolled gs
    → IsUnbegun g m gs → GoesTo g (machine_surveying m) o gs
first_acts g m o gs last by one holds v =
    asks_on g (machine_surveying m) o gs (record { there = v.there; untried = v.tries; way = refl })
    (given.begins_free (machine_surveying m) o by v.free (no_enrolment_yet m.last last) (never_eight m.tries v.tries))
    (ap (begins_at (machine_surveying m)) at ∙ ap (at_rest (machine_surveying m)) last) (record {
      unopened = v.unopened;
      counted = record {
        calls = omega arith;
        draws = omega arith;
        passed = omega arith;
        quiet = subst (λ n. n + 1 ≤ 1) (sym v.silent) (omega arith);
        drawn = λ some. absurd (omega (arith, some));
      };
      small = subst (λ n. n ≤ 64) (sym v.first) (omega arith);
      clear = λ b q has. v.unmarked b;
      census = inl (refl, subst (λ n. AreTabledBelow n m.kept.enrolled gs) (sym v.first) (λ k there on a low. absurd (omega (arith, low))));
    }) one holds
  where
    at : stage_of m.trace ≡ stage.Free
    at = ap stage_of v.free ∙ stage_none

-- ---------------------------------------------------------------- its frame is sent

-- who is known, once a frame was heard
abbrev KnownTo : ℕ → Purpose → Stage → Kept → Shorts → Course → List Gear → List ℕ → Command → Answer → Type 0
KnownTo g p s k heard c gs numbers d h = KnownAt g p (next_stage s d h) k (heard_after p (next_stage s d h) h heard) c (row_after Everyone d 0 gs numbers)

stands_heard : (g : ℕ) (m : Machine) (f : Forward) (h : Answer) (gs : List Gear) (numbers : List ℕ) → MisheardStands false g m gs → IsLawful m.trace f
    → SentTo g m.course.purpose (stage_of m.trace) m.kept m.heard m.course m.silent gs numbers (command_of f) h
    → KnownTo g m.course.purpose (stage_of m.trace) m.kept m.heard m.course gs numbers (command_of f) h
    → MisheardStands true g (machine_heard m (Some f) h) (row_after Everyone (command_of f) 0 gs numbers)
stands_heard g m f h gs numbers st lawful sent known = record {
  calm = record {
    there = subst (λ n. g < n) (sym (row_length Everyone (command_of f) 0 gs numbers)) st.calm.there;
    untried = no_tries _ m.tries st.calm.untried;
    way = st.calm.way;
  };
  trace = subst (λ s. IsTrace s (m.trace ++ entry f h ∷ [])) (sym more) (trace_more (stage_of m.trace) m.trace f h lawful st.trace);
  at = subst (λ s. At true g m.course.purpose s m.kept (heard_after m.course.purpose s h m.heard) m.course (silent_after s m.course.opened m.silent)
      (row_after Everyone (command_of f) 0 gs numbers)) (sym more) sent;
  known = subst (λ s. KnownAt g m.course.purpose s m.kept (heard_after m.course.purpose s h m.heard) m.course (row_after Everyone (command_of f) 0 gs numbers))
      (sym more) known;
} where
  more : stage_of (m.trace ++ entry f h ∷ []) ≡ next_stage (stage_of m.trace) (command_of f) h
  more = stage_more m.trace (entry f h)

-- ---------------------------------------------------------------- one event more

abbrev Runs : ℕ → SiteState → ℕ → Type 0
Runs g s c = RunsBy IsFound (Holds g) s c

misheard_acts : (g : ℕ) (s : SiteState) (c : ℕ) (i : Input) (o : Order) → (r : Runs g s c) → Succeeds true i → Allowed (world s) (event.Acted c i o)
    → IsWhole (machine_after r.machine i o) → IsRun s.plan s.queue (site_logged s (event.Acted c i o)).log → IsGivenBy (machine_told r.machine i) o
    → IsFound (controller_at (happens (world s) (event.Acted c i o)) c) (machine_after r.machine i o)
    × Holds g (machine_after r.machine i o) (Some o) None (world s).gear
misheard_acts g s c i o r good here whole run by = (
  so.found,
  holds_next (IsUnbegun g) (λ n p f h gs. Hears g n f h gs) (Next g) (machine_after m i o) o w.gear (
    acts_from (IsUnbegun g) (λ n p f h gs. Hears g n f h gs) (Next g) true
        (λ j n. IsTrue n.kept.enrolled w.gear × ((b : Answer) → j ≡ input.Heard b → IsUncontradicted n) × IsWhole (machine_ordered n o))
        (λ l t n. GoesTo g n o w.gear) w s.queue c m i o (λ last given known v. first_acts g m o w.gear last given so.hand.one so.hand.holds v)
        (λ p f h is given known hears. turned g (machine_heard m (Some f) h) o w.gear given hears.stands so.hand (known.1 h refl) known.2
        (put_no_enrolment p f m.last is) hears.running)
        (λ x is free given known next. committed g m x o w.gear next.0.0 next.0.1 free is given so.hand.one known.0)
        r.goes.lone good here.due by (so.holds, so.agreed, whole) r.goes.holds,
    whole,
  ),
) where
  w : World
  w = world s

  m : Machine
  m = r.machine

  so : IsActedSo w c r.machine i o
  so = acted_so w s.queue c r.machine i o r.goes.lone r.goes.known good here by (surveyed_now s c r.run r.goes.lone.up)
      (subst KeepsPromiseNow (world_logged s (event.Acted c i o)) (promise_now (site_logged s (event.Acted c i o)) run))

misheard_sends : (g : ℕ) (s : SiteState) (c p : ℕ) (f : Forward) (h : Answer) → (r : Runs g s c) → r.machine.last ≡ Some (Put p f)
    → (controller_at (world s) c).told ≡ None → Allowed (world s) (event.Sent c f h) → IsHeardBut g (world s).gear (command_of f) h → IsKnown (world s) c f h
    → IsFound (controller_at (happens (world s) (event.Sent c f h)) c) r.machine × Hears g r.machine f h
    (row_after Everyone (command_of f) 0 (world s).gear (world s).left)
misheard_sends g s c p f h r last told here heard known = (
  found_sent w s.queue c m p f h r.goes.lone last told lone.1 lone.2 r.goes.known,
  record {
    stands = stands_heard g m f h w.gear w.left holds.0 (lawful_now w c m.trace f h lone.2 here)
        (at_sent g m.course.purpose (stage_of m.trace) m.kept m.heard m.course m.silent w.gear w.left (command_of f) h holds.0.at holds.0.known sends taken
        hand seeks) (known_sent g m.course.purpose (stage_of m.trace) m.kept m.heard m.course m.silent w.gear w.left
        (command_of f) h holds.0.at holds.0.known sends taken
        hand seeks);
    running = not_free m.trace (entry f h);
  },
) where
  w : World
  w = world s

  m : Machine
  m = r.machine

  lone : IsLone (happens w (event.Sent c f h)) s.queue c r.machine × ((controller_at (happens w (event.Sent c f h)) c).told ≡ Some (input.Heard h))
      × (trace_running w c ≡ r.machine.trace) × (w.trace ≡ r.machine.trace)
  lone = lone_sent w s.queue c r.machine p f h r.goes.lone last told

  holds : IsNext g r.machine (Put p f) w.gear × IsWhole r.machine
  holds = rw (sym r.goes.lone.last ∙ last, told) at r.goes.holds

  sends : Sends m.kept m.course.number m.course.purpose (stage_of m.trace) (command_of f)
  sends = (sending_of m p f last holds.1).sends

  seeks : Seeks (stage_of m.trace) w.gear
  seeks = subst (λ t. Seeks (stage_of t) w.gear) lone.3 known.seeks

  hand : IsAtHand r.machine.kept w.gear
  hand = subst (λ k. IsAtHand k w.gear) (sym r.goes.lone.kept) (surveyed_now s c r.run r.goes.lone.up).hand

  taken : Taken g (command_of f) w.gear w.left h
  taken = record {
    there = holds.0.calm.there;
    heard = heard;
    enough = here.draws;
    below = λ x has. known.after.below x.0 x.1 (has_right w.drawn (drawn_of Everyone (command_of f) 0 w.gear w.left) x has);
    apart = hand.apart;
    numbered = hand.numbered;
  }

runs_on : (g : ℕ) (s : SiteState) (c : ℕ) (e : Event) → Runs g s c → Allowed (world s) e → IsOfRoundBut g s c e → Runs g (site_logged s e) c
runs_on g s c (event.Acted d i o) r here of =
    subst (λ n. Allowed (world s) (event.Acted n i o) → LeavesUsed s.plan.used (event.Acted n i o) → Runs g (site_logged s (event.Acted n i o)) c) (sym of.0)
    (λ now leaves. acted_to IsFound (Holds g) (Holds g) true s c i o r now of.1 of.2 leaves
    (misheard_acts g s c i o r of.1 now (subst (λ n. LeavesWhole n i o) r.there (of.3 refl)))) here of.4
runs_on g s c (event.Sent d f h) r here of =
    sent_to IsFound (Holds g) (λ e. Runs g (site_logged s e) c) (IsHeardBut g (world s).gear) s c d f h r
    (λ p b last told now heard. frame_to IsFound (Holds g) (Holds g) s c p b h r last told now (misheard_sends g s c p b h r last told now heard)) here of
runs_on g s c _ r here of = absurd of

runs_all : (g : ℕ) (s : SiteState) (c : ℕ) (es : List Event) → Runs g s c → RoundsBut g s c es → Runs g (site_after s es) c
runs_all g s c [] r rounds = r
runs_all g s c (e ∷ es) r rounds = runs_all g (site_logged s e) c es (runs_on g s c e r rounds.0 rounds.1) rounds.2

-- what nothing disturbs is so
round_but : (g : ℕ) (s : SiteState) (c : ℕ) (e : Event) → IsOfRound true s c e → IsOfRoundBut g s c e
round_but g s c (event.Sent d f h) (r, next, sender, frame, heard) = (r, next, sender, frame, inl heard)
round_but g s c _ of = of

pub rounds_but : (g : ℕ) (s : SiteState) (c : ℕ) (es : List Event) → Rounds true s c es → RoundsBut g s c es
rounds_but g s c [] rounds = tt
rounds_but g s c (e ∷ es) rounds = (rounds.0, round_but g s c e rounds.1, rounds_but g (site_logged s e) c es rounds.2)

-- ---------------------------------------------------------------- the start, and the end

starts : (g : ℕ) (s : SiteState) (c : ℕ) → g < length (world s).gear → IsAlone s c → Runs g s c
starts g s c there a =
    runs_first IsFound (Holds g) s c a (rw a.told refl)
    (record { there = there; tries = refl; silent = refl; free = refl; unopened = refl; first = refl; unmarked = λ b. ap (λ n. n == 1) (bit_at-zero b) })

ends_so : (g : ℕ) (e : End) (m : Machine) (gs : List Gear) → EndsBy g e m.kept m.heard gs → EndsWellBut g e m gs
ends_so g AllFound m gs well = well
ends_so g BlockFull m gs well = well
ends_so g GaveUp m gs well = well

pub ends_truly : (g : ℕ) (s : SiteState) (c : ℕ) (es : List Event) (e : End) → g < length (world s).gear → IsAlone s c → RoundsBut g s c es
    → HasEnded (site_after s es) c e → IsTrueEndBut g (site_after s es) c e
ends_truly g s c es e there a rounds ended m is =
    let now : SiteState = site_after s es in
    let r = runs_all g s c es (starts g s c there a) rounds in
    subst (λ n. EndsWellBut g e n (world now).gear) (same_some (machine_at now c) r.machine m r.there is)
    (ends_so g e r.machine (world now).gear (ended_at IsFound (Holds g) now c e r ended).0.0)

-- it goes on, and never halts
pub goes_on : (g : ℕ) (s : SiteState) (c : ℕ) (es : List Event) → g < length (world s).gear → IsAlone s c → RoundsBut g s c es → GoesOn true (site_after s es) c
goes_on g s c es there a rounds = goes_by IsFound (Holds g) true (site_after s es) c (runs_all g s c es (starts g s c there a) rounds) (λ m why holds. holds.0)
