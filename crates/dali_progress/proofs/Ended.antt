use Rattle.dali_progress.proofs.Below.{◌≡◌, ℕ, suc, ◌+◌, ◌≤◌, true, false, List, [], ◌∷◌, refl, sym, ap, subst, ◌∙◌, arith, length, Option, Some, None, Ok, ◌<◌}
use Rattle.dali_progress.proofs.Below.{◌⊎◌, inl, inr, Bool, Input, Order, Put, Record, Machine, Allowed, IsDue, happens, World, Controller, controller_at}
use Rattle.dali_progress.proofs.Below.{Event, SiteState, world, site_logged, next_request, Installation, has_turn, Plan, get_or-set_other, nobody, Succeeds}
use Rattle.dali_progress.proofs.Below.{IsOfRound, Rounds, site_after, frames, IsAlone, most_frames, BySurvey, bare, most_events, Beginning, GoesOn, by_survey}
use Rattle.dali_progress.proofs.{Below.{BeginsAlone, HasEndedBy, WasRefused, HasBegun, begun, RanAlone}, Along.{Runs, runs_on}, Logged.world_logged}
use Rattle.dali_progress.proofs.{Lone.{Moment, acted_last, sent_last, lone_next}, Running.{IsLeft, AreLeft, Comes, Came, StaysAlone, all_played, over}}
use Rattle.dali_progress.proofs.{Running.{due_turn, plan_after}, Survey.{Goes.{of_survey, argument, began_at, starts}, Stands.Begun}, Beginnings.measure}
use Rattle.dali_progress.proofs.Beginnings.{argues, begun_runs, rounds_by, alone_of, bounded, few_events, after, goes_on, ends, named}
use Rattle.dali_script.specs.declared.orders.Input.TheVariants as input
use Rattle.dali_events.specs.declared.event.Event.TheVariants as event
use Rattle.dali_replay.specs.Installation as replayed
use Rattle.dali_replay.specs.Rounds as replay

-- A RUN OF ROUNDS after a survey began, on an installation with one controller.

-- ---------------------------------------------------------------- its events are of a survey

-- once it has ordered something it is not told to start
never_starts : (w : World) (q c : ℕ) (m : Machine) (out : Option Record) (last : Order) (told : Option Input) → Moment w q c m out (Some last) told
    → told ≡ Some input.Start → ⊥
never_starts w q c m out (Put p f) (Some (input.Heard h)) at is = cc
never_starts w q c m out last None at is = cc
never_starts w q c m out last (Some i) at is = at

abbrev begun_last : (w : World) (c : ℕ) → Type 0
begun_last w c = (l : Order) × ((controller_at w c).last ≡ Some l)

surveys_by : (i : Input) → Succeeds false i → (i ≡ input.Start → ⊥) → Succeeds true i
surveys_by input.Start good begun = absurd (begun refl)
surveys_by input.Survey good begun = absurd good
surveys_by input.CommitFailed good begun = absurd good
surveys_by _ good begun = tt

due_start : (k : Controller) (i : Input) → IsDue k i → i ≡ input.Start → k.told ≡ Some input.Start
due_start k i due is = subst (λ j. IsDue k j) is due

no_start : (start : Begun) (s : SiteState) (c left : ℕ) → Runs (of_survey start) s c left → begun_last (world s) c
    → (controller_at (world s) c).told ≡ Some input.Start → ⊥
no_start start s c left u begun told =
    never_starts (world s) s.queue c u.machine (controller_at (world s) c).outstanding begun.0 (controller_at (world s) c).told
    (subst (λ l. Moment (world s) s.queue c u.machine (controller_at (world s) c).outstanding l (controller_at (world s) c).told)
    begun.1 u.goes.lone.moment)
    told

is_of_survey : (start : Begun) (s : SiteState) (c left : ℕ) (e : Event) → Runs (of_survey start) s c left → begun_last (world s) c → Allowed (world s) e
    → IsOfRound false s c e → IsLeft s c e → IsOfRound true s c e
is_of_survey start s c left (event.Acted d i o) u begun here of whole = (
  of.0,
  surveys_by i of.1 (λ is. no_start start s c left u begun
      (due_start (controller_at (world s) c) i (subst (λ n. IsDue (controller_at (world s) n) i) of.0 here.due) is)),
  of.2,
  λ e. whole,
  of.4,
)
is_of_survey start s c left (event.Sent d f h) u begun here of whole = of
is_of_survey start s c left _ u begun here of whole = absurd of

-- it has ordered something afterwards, too
still_begun : (start : Begun) (s : SiteState) (c left : ℕ) (e : Event) → Runs (of_survey start) s c left → begun_last (world s) c → IsOfRound false s c e
    → begun_last (happens (world s) e) c
still_begun start s c left (event.Acted d i o) u begun of =
    subst (λ n. begun_last (happens (world s) (event.Acted n i o)) c) (sym of.0) (o, acted_last (world s) c i o u.goes.lone.up)
still_begun start s c left (event.Sent d f h) u begun of =
    let put = lone_next (world s) s.queue c u.machine of.0 u.goes.lone of.1 in
    subst (λ n. begun_last (happens (world s) (event.Sent n f h)) c) (sym (of.2 ∙ put.3)) (begun.0, sent_last (world s) c f h u.goes.lone.up ∙ begun.1)
still_begun start s c left _ u begun of = absurd of

are_of_survey : (start : Begun) (s : SiteState) (c left : ℕ) (es : List Event) → Runs (of_survey start) s c left → begun_last (world s) c → Rounds false s c es
    → AreLeft s c es → Rounds true s c es
are_of_survey start s c left [] u begun rounds whole = tt
are_of_survey start s c left (e ∷ es) u begun rounds whole =
    let of : IsOfRound true s c e = is_of_survey start s c left e u begun rounds.0 rounds.1 whole.0 in
    let on = runs_on (of_survey start) (argument start) s c left e u rounds.0 of in (
      rounds.0,
      of,
      are_of_survey start (site_logged s e) c on.rest es on.runs
          (subst (λ w. begun_last w c) (sym (world_logged s e)) (still_begun start s c left e u begun rounds.1)) rounds.2 whole.1,
    )

module _ (me : ℕ) where
  -- the survey itself, and the rounds of the run
  events_of_run : (s between t : SiteState) (o : Order) (k f : ℕ) → IsAlone s me → between ≡ site_logged s (event.Acted me input.Survey o)
      → Allowed (world s) (event.Acted me input.Survey o) → IsOfRound true s me (event.Acted me input.Survey o) → Comes me between t k f → Came me true s t k f
  events_of_run s between t o k f alone logged here of comes =
      let on = runs_on (of_survey (began_at s me)) (argument (began_at s me)) s me (most_frames BySurvey (bare s)) (event.Acted me input.Survey o)
      (starts s me alone) here of in
      let begun : begun_last (world (site_logged s (event.Acted me input.Survey o))) me =
      subst (λ w. begun_last w me) (sym (world_logged s (event.Acted me input.Survey o))) (o, acted_last (world s) me input.Survey o here.up) in
      record {
        events = event.Acted me input.Survey o ∷ comes.events;
        rounds = (
          here,
          of,
          are_of_survey (began_at s me) (site_logged s (event.Acted me input.Survey o)) me on.rest comes.events on.runs begun
              (subst (λ x. Rounds false x me comes.events) logged comes.rounds) (subst (λ x. AreLeft x me comes.events) logged comes.left),
        );
        is = comes.is ∙ ap (λ x. site_after x comes.events) logged;
        many = more (length comes.events) comes.many;
        sent = none (frames comes.events) ∙ comes.sent;
      }
    where
      more : (x : ℕ) → k ≤ x → k + 1 ≤ suc x
      more x less = omega (arith, less)

      none : (x : ℕ) → 0 + x ≡ x
      none x = omega arith

  -- of an installation
  pub surveyed : (n between : Installation) (o : Order) (t : SiteState) (k f : ℕ) → IsAlone n.site me → replayed.Surveys n me (Ok o) between
      → Comes me between.site t k f → Came me true n.site t k f
  surveyed n between o t k f alone stepped comes =
      let acted = stepped.acted in
      let logs = acted.logs.0 in
      events_of_run n.site between.site t stepped.receipt.order k f alone logs.logged logs.allowed
      (refl, tt, acted.ordered, λ e. acted.whole, acted.leaves) comes

  -- THE END OF A RUN OF ROUNDS, of an installation with one controller that begins alone.

  -- its events
  came : (by : Bool) (n between : Installation) (t : SiteState) (k f : ℕ) → IsAlone n.site me → HasBegun by me n between → Comes me between.site t k f
      → Came me by n.site t k f
  came false n between t k f alone begins comes = record {
    events = comes.events;
    rounds = subst (λ (x : Installation). Rounds false x.site me comes.events) begins comes.rounds;
    is = comes.is ∙ ap (λ (x : Installation). site_after x.site comes.events) begins;
    many = more (length comes.events) comes.many;
    sent = comes.sent;
  } where
    more : (x : ℕ) → k ≤ x → k + 0 ≤ x
    more x many = omega (arith, many)
  came true n between t k f alone begins comes = surveyed n between begins.0 t k f alone begins.1 comes

  pub came_so : (b : Beginning) (n between : Installation) (t : SiteState) (k f : ℕ) → BeginsAlone b n.site me → HasBegun (by_survey b) me n between
      → Comes me between.site t k f → Came me (by_survey b) n.site t k f
  came_so b n between t k f alone begins comes = came (by_survey b) n between t k f (alone_of b n.site me alone) begins comes

  -- the others are as they were
  all_others : (b : Beginning) (first s : SiteState) (left : ℕ) (es : List Event) (d : ℕ) → Runs (measure b first me) s me left
      → Rounds (measure b first me).by s me es → (d ≡ me → ⊥) → controller_at (world (site_after s es)) d ≡ controller_at (world s) d
  all_others b first s left [] d u rounds other = refl
  all_others b first s left (e ∷ es) d u rounds other =
      let on = runs_on (measure b first me) (argues b first me) s me left e u rounds.0 rounds.1 in
      all_others b first (site_logged s e) on.rest es d on.runs rounds.2 other ∙ ap (λ w. controller_at w d) (world_logged s e) ∙ same e rounds.1 where
        same : (e : Event) → IsOfRound (measure b first me).by s me e → controller_at (happens (world s) e) d ≡ controller_at (world s) d
        same (event.Acted c i o) of = get_or-set_other (world s).controllers c d _ nobody (λ is. other (is ∙ of.0))
        same (event.Sent c f h) of =
            let put = lone_next (world s) s.queue me u.machine of.0 u.goes.lone of.1 in
            get_or-set_other (world s).controllers c d _ nobody (λ is. other (is ∙ of.2 ∙ put.3))
        same _ of = absurd of

  -- so it alone has a turn, then too
  pub stays_alone : (b : Beginning) (limit : ℕ) (n between : Installation) (sent : ℕ) (text : List ℕ) (m : Installation)
      → RanAlone b me limit n between sent text m → StaysAlone me between
  stays_alone b limit n between sent text m r u k f comes = record {
    known = subst (λ (p : Plan). me < length p.blocks) (sym plan) r.turns.known;
    others = λ d there other. ap has_turn (others d other) ∙ r.turns.others d (subst (λ (p : Plan). d < length p.blocks) plan there) other;
  } where
    all : Came me (by_survey b) n.site u.site k f
    all = came_so b n between u.site k f r.alone r.has_begun comes

    plan : u.site.plan ≡ n.site.plan
    plan = ap (λ (s : SiteState). s.plan) all.is ∙ plan_after n.site all.events

    others : (d : ℕ) → (d ≡ me → ⊥) → controller_at (world u.site) d ≡ controller_at (world n.site) d
    others d other = ap (λ s. controller_at (world s) d) all.is
        ∙ all_others b n.site n.site (most_frames b (bare n.site)) all.events d (begun_runs b n.site me r.alone)
        (rounds_by b n.site n.site me all.events all.rounds) other

  comes_of : (b : Beginning) (limit : ℕ) (n between : Installation) (sent : ℕ) (text : List ℕ) (m : Installation)
      → (r : RanAlone b me limit n between sent text m) → Comes me between.site r.ran.between.site r.ran.rounds sent
  comes_of b limit n between sent text m r =
      all_played me between r.ran.between r.ran.rounds sent r.ran.front (stays_alone b limit n between sent text m r) r.ran.played

  -- NO MORE FRAMES are sent
  pub run_frames : (b : Beginning) (limit : ℕ) (n between : Installation) (sent : ℕ) (text : List ℕ) (m : Installation)
      → RanAlone b me limit n between sent text m → sent ≤ most_frames b (bare n.site)
  run_frames b limit n between sent text m r =
      let all = came_so b n between r.ran.between.site r.ran.rounds sent r.alone r.has_begun (comes_of b limit n between sent text m r) in
      subst (λ x. x ≤ most_frames b (bare n.site)) all.sent (bounded b n.site me all.events r.alone all.rounds)

  -- if no controller had a turn, and no request was next, the controller has ended
  over_ended : (b : Beginning) (s t : SiteState) (es : List Event) → BeginsAlone b s me → Rounds (by_survey b) s me es → t ≡ site_after s es
      → has_turn (controller_at (world t) me) ≡ false → next_request t ≡ None → HasEndedBy b s t me
  over_ended b s t es alone rounds is turn next = subst (λ x. HasEndedBy b s x me) (sym is) (go (goes_on b s me es alone rounds)) where
    go : GoesOn (by_survey b) (site_after s es) me → HasEndedBy b s (site_after s es) me
    go (inl (e, ended)) =
        record {
          events = es;
          rounds = rounds;
          is = refl;
          outcome = e;
          ended = ended;
          is_true = ends b s me es e alone rounds ended;
          named = named b s me es e alone rounds ended;
        }
    go (inr (inl due)) =
        let none : has_turn (controller_at (world (site_after s es)) me) ≡ false =
        subst (λ (x : SiteState). has_turn (controller_at (world x) me) ≡ false) is turn in
        let some : has_turn (controller_at (world (site_after s es)) me) ≡ true =
        due_turn (by_survey b) (controller_at (world (site_after s es)) me) due.input (after b s me es alone rounds).lone.up.up due.succeeds due.due in
        let both : true ≡ false = sym some ∙ none in
        absurd (cc)
    go (inr (inr (r, waits))) =
        let both : Some r ≡ None = sym waits ∙ subst (λ (x : SiteState). next_request x ≡ None) is next in
        absurd (cc)

  -- A RUN OF ENOUGH ROUNDS ENDS
  pub run_ends : (b : Beginning) (limit : ℕ) (n between : Installation) (sent : ℕ) (text : List ℕ) (m : Installation)
      → RanAlone b me limit n between sent text m
      → most_events b (bare n.site) < limit + begun (by_survey b) → HasEndedBy b n.site m.site me ⊎ WasRefused between sent text m
  run_ends b limit n between sent text m r enough = go r.ran.ends where
    comes : Comes me between.site r.ran.between.site r.ran.rounds sent
    comes = comes_of b limit n between sent text m r

    all : Came me (by_survey b) n.site r.ran.between.site r.ran.rounds sent
    all = came_so b n between r.ran.between.site r.ran.rounds sent r.alone r.has_begun comes

    fewer : (most more k x : ℕ) → most < limit + more → k + more ≤ x → x ≤ most → k ≡ limit → ⊥
    fewer most more k x enough many few is = omega (arith, enough, many, few, is)

    go : replay.Ends limit r.ran.rounds r.ran.between r.ran.last m → HasEndedBy b n.site m.site me ⊎ WasRefused between sent text m
    go (inl (is, empty, same)) =
        absurd (fewer (most_events b (bare n.site)) (begun (by_survey b)) r.ran.rounds (length all.events) enough all.many
        (few_events b n.site me all.events r.alone all.rounds) is)
    go (inr (below, inl last)) =
        let ended =
        over me r.ran.between m r.ran.last (stays_alone b limit n between sent text m r r.ran.between r.ran.rounds sent comes) last in
        inl (subst (λ t. HasEndedBy b n.site t me) (sym ended.same)
        (over_ended b n.site r.ran.between.site all.events r.alone all.rounds all.is ended.turn ended.next))
    go (inr (below, inr refused)) =
        inr (record {
          rounds = r.ran.rounds;
          front = r.ran.front;
          between = r.ran.between;
          last = r.ran.last;
          played = r.ran.played;
          refused = refused;
          whole = r.ran.whole;
        })
