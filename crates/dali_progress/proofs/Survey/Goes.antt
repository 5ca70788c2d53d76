use Rattle.dali_progress.proofs.Below.{◌≡◌, ℕ, ◌-◌, ◌+◌, ◌*◌, ◌<◌, ◌≤◌, inl, inr, Bool, true, false, suc, List, [], ◌∷◌, ◌++◌, refl, sym, ap, subst, ◌∙◌, arith}
use Rattle.dali_progress.proofs.Below.{length, Option, Some, None, ◌⊎◌, ◌==◌, if◌then◌else◌, bit_at-zero, LATER, Answer, Forward, command_of, Command}
use Rattle.dali_progress.proofs.Below.{RandomByte, High, Middle, Low, Gear, row_after, answers_of, heard_of, Everyone, frame_put, record_ordered, assigned}
use Rattle.dali_progress.proofs.Below.{search_of, asked_of, found_by, later, finding_of, Kept, Assignment, Has, IsLawful, IsTrace, stage_of, next_stage}
use Rattle.dali_progress.proofs.Below.{finding_at, Finding, End, AllFound, BlockFull, GaveUp, Input, Order, Put, Commit, Done, Halt, Record, Enrol, Stage}
use Rattle.dali_progress.proofs.Below.{finding_more, trace_more, stage_more, stage_none, Course, Machine, machine_heard, machine_committed, machine_surveying}
use Rattle.dali_progress.proofs.Below.{machine_told, silent_after, heard_after, asked_after, next_course, begins_at, at_rest, beginning, Contradicts}
use Rattle.dali_progress.proofs.Below.{machine_ordered, machine_after, has_short, IsWhole, Purpose, Opening, Probing, Hunting, Visiting, Resolving, Closing}
use Rattle.dali_progress.proofs.Below.{Asking, Calling, Drawing, PassingOver, Shorts, IsGivenBy, Allowed, IsUp, happens, entry, trace_running, FindingsAgree}
use Rattle.dali_progress.proofs.Below.{HasFound, KeepsPromiseNow, IsRun, gear_of, World, Controller, controller_at, findings_agree_in, keeps_promise}
use Rattle.dali_progress.proofs.Below.{holds_after, reserved_number, SameCore, IsFound, informed_by, SiteState, world, site_logged, machine_at, AreTabled}
use Rattle.dali_progress.proofs.Below.{SurveyEndsWell, IsSurveyDone, IsUnseen, NamesAll, table_at, IsSettled, Succeeds, HasEnded, IsAlone, IsSettledAt, bare}
use Rattle.dali_progress.proofs.{Below.{most_frames, BySurvey}, Along.{Measure, Goes, slack_at, Argument, Runs, held_ended, runs_first, with_left, HoldsBy}}
use Rattle.dali_progress.proofs.{Along.{holds_next, acts_from}, Both.{never_eight, not_free, no_tries, addresses_by, put_no_enrolment, IsKnown, taken_of}}
use Rattle.dali_progress.proofs.{Both.{lawful_now, no_enrolment_yet}, Census.Asked.sending_of, Frames.Seeks, Logged.{world_logged, drawn_now, kept_now}}
use Rattle.dali_progress.proofs.{Logged.block_now, Lone.{IsLone, Moment, IsDueOf, due_of, heard_kept, acted_there, sent_there, lone_acted, lone_sent, acts_by}}
use Rattle.dali_progress.proofs.{Lone.Rests, Stands.{Sends, sends_of}, Survey.{Begins.{IsPut, IsNext, asks_on}, Drawn.{numbered_of, drew_apart}}}
use Rattle.dali_progress.proofs.Survey.{Visits.{committed, begins_less, spared, spared_few, survey_slack, turned}, Queried.{OneShort, IsTrue, below_none}}
use Rattle.dali_progress.proofs.Survey.{Queried.{IsAtHand, AreOwned, IsPassed, core_self, unseen, unseen_was}, Sent.{SurveySent, survey_sent}, Stands.Begun}
use Rattle.dali_progress.proofs.Survey.{Stands.{survey_frames, SurveyAt, SurveyStands, SurveyEnds, Settles, IsSettledIn}, Turns.IsUncontradicted}
use Rattle.{dali_progress.proofs.{Surveying.{quiet_roll, quiet_draw, quiet_asked}, Later.some_same}, std.proofs.lemmas.List.append-nil}
use Rattle.dali_script.specs.declared.orders.Input.TheVariants as input
use Rattle.dali_script.specs.declared.stage.Stage.TheVariants as stage
use Rattle.dali_controller.proofs.Given as given
use Rattle.dali_events.specs.declared.event.Event.TheVariants as event

-- A SURVEY GOES ON, event by event.

-- before the start
pub record IsUnsurveyed (start : Begun) (m : Machine) (gs : List Gear) (left : ℕ) : Type 0 where
  pub tries : m.tries ≡ 0
  pub silent : m.silent ≡ 0
  pub free : m.trace ≡ []
  pub kept : m.kept ≡ start.kept
  pub unmarked : (c : ℕ) → has_short m.heard c ≡ false
  pub unopened : m.course.opened ≡ false
  pub unasked : m.asked ≡ 0
  pub first : m.course.from ≡ 0
  pub same : SameCore start.gear gs
  pub frames : 192 + survey_frames gs ≤ left

-- a frame was heard: the machine stands so, once it is told
pub record Hears (start : Begun) (m : Machine) (p : ℕ) (f : Forward) (h : Answer) (gs : List Gear) (left : ℕ) : Type 0 where
  pub stands : SurveyStands true start (machine_heard m (Some f) h) gs left
  pub running : stage_of (machine_heard m (Some f) h).trace ≡ stage.Free → ⊥
  pub put : IsPut p m

abbrev Next : Begun → ℕ → Machine → Order → List Gear → Type 0
Next start left m o gs = IsNext start m o gs left × IsWhole m

abbrev First : Begun → ℕ → Machine → List Gear → Type 0
First start left m gs = IsUnsurveyed start m gs left

abbrev HeardSo : Begun → ℕ → Machine → ℕ → Forward → Answer → List Gear → Type 0
HeardSo start left m p f h gs = Hears start m p f h gs left

abbrev pub Holds : Begun → Machine → Option Order → Option Input → List Gear → ℕ → Type 0
Holds start m last told gs left = HoldsBy (First start left) (HeardSo start left) (Next start left) m last told gs

-- ---------------------------------------------------------------- what it found

-- the finding of its transaction is that of the controller
pub found_told : (w : World) (q c : ℕ) (m : Machine) (out : Option Record) (k : Controller) (last : Option Order) (told : Option Input) (i : Input)
    → Moment w q c m out last told → IsDueOf last told i → Succeeds true i → k.told ≡ told → IsFound k m
    → later k.finding (finding_of (machine_told m i).trace) ≡ k.finding
found_told w q c m out k last told i at due surveys is found =
    acts_by true (λ l t j. k.told ≡ t → later k.finding (finding_of (machine_told m j).trace) ≡ k.finding) so (λ p f h. so)
    (λ x is. ap (λ t. later k.finding (finding_of t)) (stays (record_ordered m.last)) ∙ so is) w q c m out last told i at due surveys is
  where
    so : {t : Option Input} → k.told ≡ t → later k.finding (finding_of (informed_by m t).trace) ≡ k.finding
    so is = subst (λ t. later k.finding (finding_of (informed_by m t).trace) ≡ k.finding) is found

    stays : (x : Option Record) → (machine_committed m x).trace ≡ m.trace
    stays None = refl
    stays (Some x) = refl

pub ordered_found : (found : Option Finding) (t : Machine) (o : Order) → later found (finding_of t.trace) ≡ found
    → later found (finding_of (machine_ordered t o).trace) ≡ found
ordered_found found t (Put p f) is = go (p == LATER) where
  go : (b : Bool) → later found (finding_of (if b then t.trace else [])) ≡ found
  go true = is
  go false = refl
ordered_found found t (Commit x) is = refl
ordered_found found t (Done e) is = refl
ordered_found found t (Halt why) is = refl

later_more : (k o p : Option Finding) → later k o ≡ k → later (later k p) (later o p) ≡ later k p
later_more k o None is = is
later_more k o (Some x) is = refl

-- and the table does not contradict it
later_some : (k : Option Finding) (x : Finding) (o : Option Finding) → o ≡ Some x → later k o ≡ k → k ≡ Some x
later_some k x o e is = sym (subst (λ p. later k p ≡ k) e is)

not_contradicted : (w : World) (c b r : ℕ) → FindingsAgree w → HasFound w c (b, r) → Contradicts (controller_at w c).records.enrolled b r → ⊥
not_contradicted w c b r agree found (inl other) =
    let same : (b, r) ≡ (b, other.0) = agree.address c c (b, r) (b, other.0) found (found.0, other.1) refl in other.2 (sym (ap (λ (x : Assignment). x.1) same))
not_contradicted w c b r agree found (inr other) =
    let same : (b, r) ≡ (other.0, r) = agree.number c c (b, r) (other.0, r) found (found.0, other.1) refl in other.2 (sym (ap (λ (x : Assignment). x.0) same))

pub uncontradicted : (w : World) (c : ℕ) (t : Machine) → FindingsAgree w → c < length w.controllers → t.kept ≡ (controller_at w c).records
    → later (controller_at w c).finding (finding_of t.trace) ≡ (controller_at w c).finding → IsUncontradicted t
uncontradicted w c t agree there kept found x is contradicts =
    not_contradicted w c (assigned x).0 (assigned x).1 agree (there, (x, later_some (controller_at w c).finding x (finding_of t.trace) is found, refl))
    (subst (λ k. Contradicts k.enrolled (assigned x).0 (assigned x).1) kept contradicts)

-- ---------------------------------------------------------------- the controller acts

-- what is to come of its order, and that events before the next frame are one less
abbrev ActsTo : Begun → Machine → Order → List Gear → ℕ → Option Order → Option Input → Type 0
ActsTo start n o gs left last told = IsNext start n o gs left × (survey_slack (Some o) None + 1 ≤ survey_slack last told)

-- the first frame of a transaction finds no gear
first_finds : (c : Command) (h : Answer) → finding_at (next_stage stage.Free c h) ≡ None
first_finds (RandomByte a High) h = refl
first_finds (RandomByte a Middle) h = refl
first_finds (RandomByte a Low) h = refl
first_finds _ h = refl

-- so the gear that is enrolled was found by a later one
enrols_late : (start : Begun) (m : Machine) (p b r : ℕ) (f : Forward) (h : Answer) (gs : List Gear) (left : ℕ) → Hears start m p f h gs left
    → IsGivenBy (machine_heard m (Some f) h) (Commit (Enrol b r)) → p ≡ LATER
enrols_late start m p b r f h gs left hears g = go hears.put where
  found : (x : Finding) × (finding_at (stage_of (machine_heard m (Some f) h).trace) ≡ Some x)
  found = let w = g.ordered.allowed.warranted in (w.0, sym hears.stands.trace.finding ∙ w.2)

  go : IsPut p m → p ≡ LATER
  go (inl late) = late
  go (inr free) =
      let first : stage_of (m.trace ++ entry f h ∷ []) ≡ next_stage stage.Free (command_of f) h =
      stage_more m.trace (entry f h) ∙ ap (λ s. next_stage s (command_of f) h) (ap stage_of free ∙ stage_none) in
      absurd (let never : None ≡ Some found.0 = sym (ap finding_at first ∙ first_finds (command_of f) h) ∙ found.1 in cc)

order_slack : (start : Begun) (m : Machine) (p : ℕ) (f : Forward) (h : Answer) (o : Order) (gs : List Gear) (left : ℕ) → Hears start m p f h gs left
    → IsGivenBy (machine_heard m (Some f) h) o → survey_slack (Some o) None + 1 ≤ spared p + 2
order_slack start m p f h (Put q e) gs left hears g = let few = spared_few q in omega (arith, few)
order_slack start m p f h (Commit (Enrol b r)) gs left hears g =
    subst (λ n. 3 ≤ spared n + 2) (sym (enrols_late start m p b r f h gs left hears g)) (omega arith)
order_slack start m p f h (Commit x) gs left hears g = omega arith
order_slack start m p f h (Done e) gs left hears g = omega arith
order_slack start m p f h (Halt why) gs left hears g = omega arith

first_acts : (start : Begun) (m : Machine) (o : Order) (gs : List Gear) (left : ℕ) (told : Option Input) → m.last ≡ None → IsGivenBy (machine_surveying m) o
    → OneShort gs → IsTrue m.kept.enrolled gs → IsUnsurveyed start m gs left → ActsTo start (machine_ordered (machine_surveying m) o) o gs left None told
first_acts start m o gs left told last g one holds v =
    let at : stage_of m.trace ≡ stage.Free = ap stage_of v.free ∙ stage_none in
    let begins : o ≡ beginning (next_course (machine_surveying m)) =
    given.begins_free (machine_surveying m) o g v.free (no_enrolment_yet m.last last) (never_eight m.tries v.tries) in (
      asks_on start (machine_surveying m) o 0 gs left
          (record { untried = v.tries; loud = v.silent; smooth = record { way = refl; passed = refl; unmissed = refl } }) begins
          (ap (begins_at (machine_surveying m)) at ∙ ap (at_rest (machine_surveying m)) last)
          (record { unopened = v.unopened; undrawn = refl; loud = refl }) v.unasked v.first (omega arith) settled
          (λ c q has. v.unmarked c) one holds v.same (below_none start.gear m.kept.enrolled gs) (count (survey_frames gs) v.frames),
      begins_less o (machine_surveying m) 1 begins (omega arith),
    )
  where
    settled : Settles start m.kept
    settled x has = inr (subst (λ (k : Kept). Has k.reserved x) v.kept has, λ e. subst (λ (k : Kept). Has k.enrolled x) (sym v.kept) e)

    count : (wake : ℕ) → 192 + wake ≤ left → 3 * (64 - 0) + wake ≤ left
    count wake enough = omega (arith, enough)

-- what is known of the world of a run
pub record IsSurveyed (w : World) (c : ℕ) : Type 0 where
  pub hand : IsAtHand (controller_at w c).records w.gear
  pub agree : FindingsAgree w

-- that it goes on, and with how many frames left
abbrev pub of_survey : Begun → Measure
of_survey start = record { by = true; known = IsFound; holds = Holds start; slack = survey_slack; events = λ left. 3 * left }

-- what is known once it has acted: of the records and of the gear before; its finding is that of the controller; what it was told
-- leaves its table true, which does not contradict what the transaction found
pub record IsActedSo (w : World) (c : ℕ) (m : Machine) (i : Input) (o : Order) : Type 0 where
  pub hand : IsAtHand m.kept w.gear
  pub found : IsFound (controller_at (happens w (event.Acted c i o)) c) (machine_after m i o)
  pub holds : IsTrue (machine_told m i).kept.enrolled w.gear
  pub agreed : (b : Answer) → i ≡ input.Heard b → IsUncontradicted (machine_told m i)

pub acted_so : (w : World) (q c : ℕ) (m : Machine) (i : Input) (o : Order) → IsLone w q c m → IsFound (controller_at w c) m → Succeeds true i
    → Allowed w (event.Acted c i o) → IsGivenBy (machine_told m i) o → IsSurveyed w c → KeepsPromiseNow (happens w (event.Acted c i o)) → IsActedSo w c m i o
acted_so w q c m i o l was surveys here by known promise = record {
  hand = subst (λ k. IsAtHand k w.gear) (sym l.kept) known.hand;
  found = subst (λ k. IsFound k (machine_after m i o)) (sym (acted_there w c i o l.up)) (ordered_found (controller_at w c).finding (machine_told m i) o found);
  holds = λ a r has. (
      let there = promise.tables c (a, r) (lone.up.known, subst (λ k. Has k.enrolled (a, r)) lone.kept has) in
      (there.0, there.1.0, there.1.1, there.2));
  agreed = λ b is.
      uncontradicted w c (machine_told m i) known.agree l.up.known (ap (λ j. (machine_told m j).kept) is ∙ heard_kept m (frame_put m.last) b ∙ l.kept) found;
} where
  lone : IsLone (happens w (event.Acted c i o)) q c (machine_after m i o)
  lone = lone_acted true w q c m i o l surveys (addresses_by o by.ordered.addressing) here

  found : later (controller_at w c).finding (finding_of (machine_told m i).trace) ≡ (controller_at w c).finding
  found =
      found_told w q c m (controller_at w c).outstanding (controller_at w c) (controller_at w c).last (controller_at w c).told i l.moment
      (due_of (controller_at w c) i here.due) surveys refl was

pub survey_acts : (start : Begun) (w : World) (q c : ℕ) (m : Machine) (i : Input) (o : Order) (left : ℕ) → Goes (of_survey start) w q c m left → Succeeds true i
    → Allowed w (event.Acted c i o) → IsGivenBy (machine_told m i) o → IsWhole (machine_after m i o) → IsSurveyed w c
    → KeepsPromiseNow (happens w (event.Acted c i o))
    → IsFound (controller_at (happens w (event.Acted c i o)) c) (machine_after m i o) × Holds start (machine_after m i o) (Some o) None w.gear left
    × (survey_slack (Some o) None + 1 ≤ slack_at (of_survey start) w c)
survey_acts start w q c m i o left goes surveys here by whole known promise =
    (so.found, holds_next (First start left) (HeardSo start left) (Next start left) (machine_after m i o) o w.gear (out.0, whole), out.1) where
      so : IsActedSo w c m i o
      so = acted_so w q c m i o goes.lone goes.known surveys here by known promise

      out : ActsTo start (machine_after m i o) o w.gear left (controller_at w c).last (controller_at w c).told
      out =
          acts_from (First start left) (HeardSo start left) (Next start left) true
          (λ j n. IsTrue n.kept.enrolled w.gear × ((b : Answer) → j ≡ input.Heard b → IsUncontradicted n) × IsWhole (machine_ordered n o))
          (λ l t n. ActsTo start (machine_ordered n o) o w.gear left l t) w q c m i o
          (λ last given known v. first_acts start m o w.gear left (Some input.Start) last given so.hand.one so.hand.holds v) (λ p f h is given known hears. (
            turned start (machine_heard m (Some f) h) o w.gear left given hears.stands so.hand (known.1 h refl) known.2 (put_no_enrolment p f m.last is)
                hears.running,
            order_slack start m p f h o w.gear left hears given,
          )) (λ x is free given known next. committed start m x o w.gear left next.0.0 next.0.1 free is so.hand.kept.reserved given so.hand.one known.0)
          goes.lone surveys here.due by (so.holds, so.agreed, whole) goes.holds

-- ---------------------------------------------------------------- its frame is sent

-- no stage on the way is one of a search that led to no gear
never_silent : (told : Bool) (p : Purpose) (s : Stage) (k : Kept) (heard : Shorts) (asked : ℕ) (c : Course) (opened : Bool) (start : Begun) (gs : List Gear)
    (left : ℕ) → SurveyAt told p s k heard asked c start gs left → silent_after s opened 0 ≡ 0
never_silent told (Asking a) s k heard asked c opened start gs left at = quiet_asked a s gs opened 0 at.1.ask.asked
never_silent told Calling s k heard asked c opened start gs left at = quiet_roll s c.number gs opened 0 at.roll
never_silent told Drawing s k heard asked c opened start gs left at = quiet_draw Drawing s c.number gs opened 0 tt at.draw
never_silent told Hunting (stage.Unanswered r) k heard asked c opened start gs left at = absurd at.at.stage_is
never_silent told Hunting (stage.Inconclusive r other) k heard asked c opened start gs left at = absurd at.at.stage_is
never_silent told Visiting (stage.Unanswered r) k heard asked c opened start gs left at = absurd at.at.0.stage_is
never_silent told Visiting (stage.Inconclusive r other) k heard asked c opened start gs left at = absurd at.at.0.stage_is
never_silent told (Closing e) (stage.Unanswered r) k heard asked c opened start gs left at = absurd at.stage_is
never_silent told (Closing e) (stage.Inconclusive r other) k heard asked c opened start gs left at = absurd at.stage_is
never_silent told Opening s k heard asked c opened start gs left at = absurd at
never_silent told Probing s k heard asked c opened start gs left at = absurd at
never_silent told PassingOver s k heard asked c opened start gs left at = absurd at
never_silent told (Resolving a) s k heard asked c opened start gs left at = absurd at
never_silent told p _ k heard asked c opened start gs left at = refl

stands_heard : (start : Begun) (m : Machine) (f : Forward) (h : Answer) (gs : List Gear) (numbers : List ℕ) (left : ℕ) → SurveyStands false start m gs left
    → IsLawful m.trace f → (sent : SurveySent m.course.purpose (stage_of m.trace) m.kept m.heard m.asked m.course start gs numbers left (command_of f) h)
    → SurveyStands true start (machine_heard m (Some f) h) (row_after Everyone (command_of f) 0 gs numbers) sent.0
stands_heard start m f h gs numbers left st lawful sent = record {
  calm = record {
    untried = no_tries _ m.tries st.calm.untried;
    loud = rw (more, st.calm.loud) (never_silent true m.course.purpose (next_stage (stage_of m.trace) (command_of f) h) m.kept _ _ m.course m.course.opened
        start (row_after Everyone (command_of f) 0 gs numbers) sent.0 sent.2);
    smooth = st.calm.smooth;
  };
  trace = subst (λ s. IsTrace s (m.trace ++ entry f h ∷ [])) (sym more) (trace_more (stage_of m.trace) m.trace f h lawful st.trace);
  at = subst (λ s. SurveyAt true m.course.purpose s m.kept (heard_after m.course.purpose s h m.heard) (asked_after m.course.purpose s h m.asked) m.course start
      (row_after Everyone (command_of f) 0 gs numbers) sent.0) (sym more) sent.2;
} where
  more : stage_of (m.trace ++ entry f h ∷ []) ≡ next_stage (stage_of m.trace) (command_of f) h
  more = stage_more m.trace (entry f h)

-- its finding, once the frame is sent
sent_found : (k : Option Finding) (m : Machine) (f : Forward) (h : Answer) → later k (finding_of m.trace) ≡ k
    → later (later k (found_by (search_of m.trace) (asked_of m.trace) (command_of f) h)) (finding_of (m.trace ++ entry f h ∷ []))
    ≡ later k (found_by (search_of m.trace) (asked_of m.trace) (command_of f) h)
sent_found k m f h is =
    ap (later (later k (found_by (search_of m.trace) (asked_of m.trace) (command_of f) h))) (finding_more m.trace (entry f h))
    ∙ later_more k (finding_of m.trace) (found_by (search_of m.trace) (asked_of m.trace) (command_of f) h) is

pub found_sent : (w : World) (q c : ℕ) (m : Machine) (p : ℕ) (f : Forward) (h : Answer) → IsLone w q c m → m.last ≡ Some (Put p f)
    → (controller_at w c).told ≡ None → (controller_at (happens w (event.Sent c f h)) c).told ≡ Some (input.Heard h) → trace_running w c ≡ m.trace
    → IsFound (controller_at w c) m → IsFound (controller_at (happens w (event.Sent c f h)) c) m
found_sent w q c m p f h l last untold told running found =
    subst (λ t. later (controller_at (happens w (event.Sent c f h)) c).finding (finding_of (informed_by m t).trace)
    ≡ (controller_at (happens w (event.Sent c f h)) c).finding) (sym told)
    (subst (λ n. later n (finding_of (machine_told m (input.Heard h)).trace) ≡ n) (sym finding)
    (subst (λ ts. later now (finding_of ts) ≡ now) (sym frames) (sent_found (controller_at w c).finding m f h was)))
  where
    now : Option Finding
    now = later (controller_at w c).finding (found_by (search_of m.trace) (asked_of m.trace) (command_of f) h)

    finding : (controller_at (happens w (event.Sent c f h)) c).finding ≡ later (controller_at w c).finding
        (found_by (search_of m.trace) (asked_of m.trace) (command_of f) h)
    finding =
        ap (λ (k : Controller). k.finding) (sent_there w c f h l.up)
        ∙ ap (λ t. later (controller_at w c).finding (found_by (search_of t) (asked_of t) (command_of f) h)) running

    frames : (machine_told m (input.Heard h)).trace ≡ m.trace ++ entry f h ∷ []
    frames = ap (λ o. (machine_heard m (frame_put o) h).trace) last

    was : later (controller_at w c).finding (finding_of m.trace) ≡ (controller_at w c).finding
    was = subst (λ t. later (controller_at w c).finding (finding_of (informed_by m t).trace) ≡ (controller_at w c).finding) untold found

pub sends_now : (m : Machine) (p : ℕ) (f : Forward) → m.last ≡ Some (Put p f) → IsWhole m
    → Sends m.course.purpose m.course.number m.kept (stage_of m.trace) (command_of f)
sends_now m p f last whole = sends_of m.course.purpose m.course.number m.kept (stage_of m.trace) (command_of f) (sending_of m p f last whole).sends

pub survey_sends : (start : Begun) (w : World) (q c : ℕ) (m : Machine) (p : ℕ) (f : Forward) (h : Answer) (left : ℕ) → Goes (of_survey start) w q c m left
    → m.last ≡ Some (Put p f) → (controller_at w c).told ≡ None → Allowed w (event.Sent c f h) → IsKnown w c f h → IsSurveyed w c
    → h ≡ heard_of (answers_of Everyone (command_of f) 0 w.gear) → (l : ℕ) × (left ≡ suc l) × IsFound (controller_at (happens w (event.Sent c f h)) c) m
    × Hears start m p f h (row_after Everyone (command_of f) 0 w.gear w.left) l
survey_sends start w q c m p f h left goes last told here known surveyed heard =
    let lone = lone_sent w q c m p f h goes.lone last told in
    let holds : Next start left m (Put p f) w.gear = rw (sym goes.lone.last ∙ last, told) at goes.holds in
    let same : w.trace ≡ m.trace = lone.3 in
    let told_so : IsAtHand m.kept w.gear = subst (λ k. IsAtHand k w.gear) (sym goes.lone.kept) surveyed.hand in
    let sent : SurveySent m.course.purpose (stage_of m.trace) m.kept m.heard m.asked m.course start w.gear w.left left (command_of f) h =
    survey_sent m.course.purpose (stage_of m.trace) m.kept m.heard m.asked m.course start w.gear w.left left (command_of f) h holds.0.0.at
    (sends_now m p f last holds.1) (taken_of w c f h here known heard) told_so (subst (λ t. Seeks (stage_of t) w.gear) same known.seeks) in
    let lawful : IsLawful m.trace f = lawful_now w c m.trace f h lone.2 here in (
      sent.0,
      sent.1,
      found_sent w q c m p f h goes.lone last told lone.1 lone.2 goes.known,
      record { stands = stands_heard start m f h w.gear w.left left holds.0.0 lawful sent; running = not_free m.trace (entry f h); put = holds.0.1 },
    )

-- THE SECOND ARGUMENT, its start, and its end.

-- with these gear and records
abbrev pub began_at : SiteState → ℕ → Begun
began_at s c = record { gear = (world s).gear; kept = (controller_at (world s) c).records }

-- what is known of it, since its log is a run
pub promise_now : (s : SiteState) → IsRun s.plan s.queue s.log → KeepsPromiseNow (world s)
promise_now s run = (keeps_promise s.plan s.queue s.log run).always s.log [] (append-nil s.log)

pub one_now : (s : SiteState) → IsRun s.plan s.queue s.log → OneShort (world s).gear
one_now s run g h a in_row there one two = (promise_now s run).one_gear g h a (in_row, one) (there, two)

pub true_now : (s : SiteState) (c : ℕ) → IsRun s.plan s.queue s.log → IsUp (world s) c → IsTrue (controller_at (world s) c).records.enrolled (world s).gear
true_now s c run up a r has = let there = (promise_now s run).tables c (a, r) (up.known, has) in (there.0, there.1.0, there.1.1, there.2)

pub owned_now : (s : SiteState) (c : ℕ) → IsRun s.plan s.queue s.log → IsUp (world s) c → AreOwned (controller_at (world s) c).records.reserved (world s).gear
owned_now s c run up a r i has there short =
    reserved_number s.plan run.plan (world s) (holds_after s.plan s.queue s.log run) c a r i up.known has (there, short)

pub agree_now : (s : SiteState) → IsRun s.plan s.queue s.log → FindingsAgree (world s)
agree_now s run = findings_agree_in s.plan s.queue s.log [] (subst (λ es. IsRun s.plan s.queue es) (sym (append-nil s.log)) run)

pub surveyed_now : (s : SiteState) (c : ℕ) → IsRun s.plan s.queue s.log → IsUp (world s) c → IsSurveyed (world s) c
surveyed_now s c run up =
    record {
      hand = record {
        kept = kept_now s c run up;
        block = block_now s c run up;
        numbered = numbered_of (world s) (drawn_now s run);
        apart = drew_apart (world s) (drawn_now s run);
        one = one_now s run;
        holds = true_now s c run up;
        owned = owned_now s c run up;
      };
      agree = agree_now s run;
    }

pub argument : (start : Begun) → Argument (of_survey start)
argument start = record {
  acts = λ s c m i o left run now goes surveys here given whole.
      survey_acts start (world s) s.queue c m i o left goes surveys here given (whole refl) (surveyed_now s c run goes.lone.up)
      (subst KeepsPromiseNow (world_logged s (event.Acted c i o)) (promise_now (site_logged s (event.Acted c i o)) now));
  sends = λ s c m p f h left run goes last told here known heard.
      survey_sends start (world s) s.queue c m p f h left goes last told here known (surveyed_now s c run goes.lone.up) heard;
  spends = λ p f h rest left is. omega (arith, is);
  halts = λ m why gs left holds. holds.0;
  first = refl;
}

-- THE START
pub starts : (s : SiteState) (c : ℕ) → IsAlone s c → Runs (of_survey (began_at s c)) s c (most_frames BySurvey (bare s))
starts s c a =
    runs_first IsFound (with_left (of_survey (began_at s c)) (most_frames BySurvey (bare s))) s c a (rw a.told refl) (record {
      tries = refl;
      silent = refl;
      free = refl;
      kept = refl;
      unmarked = λ b. ap (λ n. n == 1) (bit_at-zero b);
      unopened = refl;
      unasked = refl;
      first = refl;
      same = core_self (world s).gear;
      frames = omega arith;
    })

-- ---------------------------------------------------------------- an end says what is true

-- what an end leaves
pub record EndsBy (s after : SiteState) (c : ℕ) (e : End) : Type 0 where
  pub machine : Machine
  pub there : machine_at after c ≡ Some machine
  pub kept : machine.kept ≡ (controller_at (world after) c).records
  pub well : SurveyEnds e machine.kept machine.heard (world after).gear
  pub tabled : AreTabled (unseen (world s).gear) machine.kept.enrolled (world after).gear
  pub settled : Settles (began_at s c) machine.kept
  pub run : IsRun after.plan after.queue after.log
  pub up : IsUp (world after) c
  pub rests : Rests (world after) after.queue

pub ended_by : (s after : SiteState) (c left : ℕ) (e : End) → Runs (of_survey (began_at s c)) after c left → HasEnded after c e → EndsBy s after c e
ended_by s after c left e r ended =
    let at = held_ended (of_survey (began_at s c)) after c left e r ended in
    record {
      machine = r.machine;
      there = r.there;
      kept = r.goes.lone.kept;
      well = at.0.0.0;
      tabled = at.0.0.1;
      settled = at.0.0.2;
      run = r.run;
      up = r.goes.lone.up;
      rests = at.1;
    }

ends_so : (e : End) (m : Machine) (gs : List Gear) → SurveyEnds e m.kept m.heard gs → SurveyEndsWell e m gs
ends_so AllFound m gs well = well
ends_so BlockFull m gs full = full
ends_so GaveUp m gs well = well

pub ends : (s after : SiteState) (c : ℕ) (e : End) → EndsBy s after c e → IsSurveyDone after c e
ends s after c e by m there =
    subst (λ n. SurveyEndsWell e n (world after).gear) (some_same by.machine m (sym by.there ∙ there)) (ends_so e by.machine (world after).gear by.well)

-- settled records stay so
pub settled_still : (start : Begun) (k : Kept) (x : Assignment) → (Has start.kept.reserved x → Has start.kept.enrolled x) → IsSettledIn start k x
    → Has k.enrolled x
settled_still start k x settled (inl entry) = entry
settled_still start k x settled (inr was) = was.1 (settled was.0)

pub ends_settled : (s after : SiteState) (c : ℕ) (e : End) → EndsBy s after c e → IsSettledAt s c → IsSettledAt after c
ends_settled s after c e by settled = subst IsSettled by.kept (λ x has. settled_still (began_at s c) by.machine.kept x (settled x) (by.settled x has))

pub tabled : (s after : SiteState) (c : ℕ) (e : End) → EndsBy s after c e → NamesAll true s (table_at after c) after
tabled s after c e by g short in_row small is = go (by.tabled g short in_row is) where
  passed : IsPassed (gear_of (world s).gear g) short → IsUnseen (gear_of (world s).gear g)
  passed (inl off) = inl off
  passed (inr (inl mask)) = inr mask
  passed (inr (inr large)) = absurd (omega (arith, small, large))

  go : ((gear_of (unseen (world s).gear) g).short ≡ Some short) ⊎ Has by.machine.kept.enrolled (short, (gear_of (world after).gear g).random)
      → Has (table_at after c) (short, (gear_of (world after).gear g).random)
      ⊎ (((gear_of (world s).gear g).short ≡ Some short) × IsUnseen (gear_of (world s).gear g))
  go (inr has) = inl (subst (λ k. Has k.enrolled (short, (gear_of (world after).gear g).random)) by.kept has)
  go (inl had) = let was = unseen_was (world s).gear g short had in inr (was.0, passed was.1)
