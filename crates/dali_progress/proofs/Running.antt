use Rattle.dali_progress.proofs.Below.{◌≡◌, ℕ, ◌+◌, ◌≤◌, ◌⊎◌, inl, inr, Bool, true, false, zero, suc, List, [], ◌∷◌, ◌++◌, refl, sym, ap, subst, ◌∙◌, arith}
use Rattle.dali_progress.proofs.Below.{length, Option, Some, None, Ok, if◌then◌else◌, ◌||◌, command_of, answers_of, heard_of, GearSet, Everyone, collision}
use Rattle.dali_progress.proofs.Below.{due_after, Due, Input, Order, Commit, IsDue, IsCommit, nobody_at_all, Controller, controller_at, Event, LeavesWhole}
use Rattle.dali_progress.proofs.Below.{due_of, Report, SiteState, HasActed, Pumps, machine_at, world, site_logged, next_request, Installation, Goes, HasStepped}
use Rattle.dali_progress.proofs.Below.{controller, has_turn, has_turn_by, IsTurn, Turns, controllers, is_sent, came_of, IsRound, Succeeds, Rounds, site_after}
use Rattle.dali_progress.{proofs.{Below.{frames, begun, ◌<◌, nat_lt, nat_tests, get_or-set_other, nobody}, Logged.world_logged}, specs.Running.HasTurnAlone}
use Rattle.{dali_events.specs.Happens.controller_acted, dali_replay.specs.Installation.{IsGiven, IsGivenBy}}
use Rattle.dali_script.specs.declared.orders.Due.TheVariants as due
use Rattle.dali_script.specs.declared.orders.Input.TheVariants as input
use Rattle.dali_events.specs.declared.event.Event.TheVariants as event
use Rattle.dali_events.specs.declared.trouble.Trouble.TheVariants as trouble
use Rattle.dali_standing.specs.declared.report.Report.TheVariants as report
use Rattle.dali_replay.specs.Rounds as replay
use Rattle.dali_replay.specs.declared.rounds.Round.TheVariants as round

-- A RUN OF ROUNDS of an installation in which one controller alone has a turn is a list of events of rounds.

-- ---------------------------------------------------------------- lists of events

rounds_both : (s : SiteState) (c : ℕ) (es fs : List Event) → Rounds false s c es → Rounds false (site_after s es) c fs → Rounds false s c (es ++ fs)
rounds_both s c [] fs one two = two
rounds_both s c (e ∷ es) fs one two = (one.0, one.1, rounds_both (site_logged s e) c es fs one.2 two)

after_both : (s : SiteState) (es fs : List Event) → site_after (site_after s es) fs ≡ site_after s (es ++ fs)
after_both s [] fs = refl
after_both s (e ∷ es) fs = after_both (site_logged s e) es fs

frames_both : (es fs : List Event) → frames (es ++ fs) ≡ frames es + frames fs
frames_both [] fs = omega arith
frames_both (e ∷ es) fs = let both = frames_both es fs in omega (arith, both)

length_both : (es fs : List Event) → length (es ++ fs) ≡ length es + length fs
length_both [] fs = omega arith
length_both (e ∷ es) fs = let both = length_both es fs in omega (arith, both)

pub plan_after : (s : SiteState) (es : List Event) → (site_after s es).plan ≡ s.plan
plan_after s [] = refl
plan_after s (e ∷ es) = plan_after (site_logged s e) es

-- the machine is whole after each of its steps
abbrev pub IsLeft : SiteState → ℕ → Event → Type 0
IsLeft s c (event.Acted d i o) = LeavesWhole (machine_at s c) i o
IsLeft s c e = Unit {0}

abbrev pub AreLeft : SiteState → ℕ → List Event → Type 0
AreLeft s c [] = Unit {0}
AreLeft s c (e ∷ es) = IsLeft s c e × AreLeft (site_logged s e) c es

left_both : (s : SiteState) (c : ℕ) (es fs : List Event) → AreLeft s c es → AreLeft (site_after s es) c fs → AreLeft s c (es ++ fs)
left_both s c [] fs one two = two
left_both s c (e ∷ es) fs one two = (one.0, left_both (site_logged s e) c es fs one.1 two)

-- ---------------------------------------------------------------- what is due

stored_by : (last : Option Order) → IsCommit last → due_after last ≡ due.Store
stored_by (Some (Commit x)) is = refl
stored_by _ is = absurd is

-- a controller that is up and has ordered a commit waits for its store
pub stored : (k : Controller) → k.up ≡ true → IsCommit k.last → due_of k ≡ due.Store
stored k up is = rw up (stored_by k.last is)

-- what `go` gives never says that a commit failed
given_survey : (d : Due) (n : Installation) (c : ℕ) (m : Installation) → IsDue (controller n c) input.Survey → IsGivenBy d n c input.Survey m → ⊥
given_survey due.Store n c m told given = let is : input.Survey ≡ input.Committed = given.0 in cc
given_survey _ n c m told given = let both : Some input.Start ≡ Some input.Survey = sym told ∙ given.0 in cc

given_well : (d : Due) (n : Installation) (c : ℕ) (i : Input) (m : Installation) → IsDue (controller n c) i → (i ≡ input.CommitFailed → d ≡ due.Store)
    → IsGivenBy d n c i m → Succeeds false i
given_well d n c input.CommitFailed m told waits given =
    let at : IsGivenBy due.Store n c input.CommitFailed m = subst (λ x. IsGivenBy x n c input.CommitFailed m) (waits refl) given in
    let is : input.CommitFailed ≡ input.Committed = at.0 in
    absurd (cc)
given_well d n c input.Survey m told waits given = absurd (given_survey d n c m told given)
given_well d n c _ m told waits given = tt

due_commit : (k : Controller) (i : Input) → IsDue k i → i ≡ input.CommitFailed → IsCommit k.last
due_commit k i due is = subst (λ x. IsDue k x) is due

given_site : (d : Due) (n : Installation) (c : ℕ) (i : Input) (m : Installation) → IsGivenBy d n c i m → m.site ≡ n.site
given_site due.Store n c i m given = ap (λ (x : Installation). x.site) given.1
given_site _ n c i m given = ap (λ (x : Installation). x.site) given.1

-- what is due for a controller gives it a turn
pub told_turn : (d : Due) (k : Controller) (i : Input) → k.told ≡ Some i → has_turn_by d k ≡ true
told_turn due.Store k i told = refl
told_turn _ k i told = rw told refl

pub due_turn : (by : Bool) (k : Controller) (i : Input) → k.up ≡ true → Succeeds by i → IsDue k i → has_turn k ≡ true
due_turn by k input.CommitFailed up good due = absurd good
due_turn by k input.Committed up good due = subst (λ d. has_turn_by d k ≡ true) (sym (stored k up due)) refl
due_turn by k input.Survey up good due = told_turn (due_of k) k input.Start due
due_turn by k input.Start up good due = told_turn (due_of k) k input.Start due
due_turn by k (input.Heard h) up good due = told_turn (due_of k) k (input.Heard h) due
due_turn by k input.Destroyed up good due = told_turn (due_of k) k input.Destroyed due
due_turn by k input.Lapsed up good due = told_turn (due_of k) k input.Lapsed due

-- ---------------------------------------------------------------- what a round logs

abbrev logs_count : Report → ℕ
logs_count report.Idle = 0
logs_count _ = 1

-- if there is no trouble no frame is destroyed
undisturbed : (s : SiteState) (set : GearSet)
    → (trouble.None ≡ trouble.Destroyed set) ⊎ ((trouble.None ≡ trouble.Collision) × (set ≡ nobody_at_all) × (collision (world s).bus.lists ≡ None)) → ⊥
undisturbed s set (inl is) = cc
undisturbed s set (inr (is, nobody, none)) = cc

-- a round that is played logs an event, and counts its frame
logs_some : (acted sent : Bool) (x : Report) → round.Played sent ≡ came_of acted x → (1 ≤ (if acted then 1 else 0) + logs_count x) × (is_sent x ≡ sent)
logs_some false sent report.Idle is = absurd (cc)
logs_some true sent report.Idle is = (omega arith, let same : sent ≡ false = cc in sym same)
logs_some false sent (report.Sent c f h) is = (omega arith, let same : sent ≡ true = cc in sym same)
logs_some true sent (report.Sent c f h) is = (omega arith, let same : sent ≡ true = cc in sym same)
logs_some false sent (report.Destroyed c f) is = (omega arith, let same : sent ≡ false = cc in sym same)
logs_some true sent (report.Destroyed c f) is = (omega arith, let same : sent ≡ false = cc in sym same)
logs_some false sent (report.Collided c f d g) is = (omega arith, let same : sent ≡ false = cc in sym same)
logs_some true sent (report.Collided c f d g) is = (omega arith, let same : sent ≡ false = cc in sym same)

module _ (me : ℕ) where
  -- at least k events of rounds, f of them frames, after which the site is t
  pub record Comes (s t : SiteState) (k f : ℕ) : Type 0 where
    pub events : List Event
    pub rounds : Rounds false s me events
    pub left : AreLeft s me events
    pub is : t ≡ site_after s events
    pub many : k ≤ length events
    pub sent : frames events ≡ f

  comes_none : (s t : SiteState) → t ≡ s → Comes s t 0 0
  comes_none s t is = record { events = []; rounds = tt; left = tt; is = is; many = omega arith; sent = refl }

  pub comes_both : (s t u : SiteState) (k l f g : ℕ) → Comes s t k f → Comes t u l g → Comes s u (k + l) (f + g)
  comes_both s t u k l f g one two = record {
    events = one.events ++ two.events;
    rounds = rounds_both s me one.events two.events one.rounds (subst (λ x. Rounds false x me two.events) one.is two.rounds);
    left = left_both s me one.events two.events one.left (subst (λ x. AreLeft x me two.events) one.is two.left);
    is = two.is ∙ ap (λ x. site_after x two.events) one.is ∙ after_both s one.events two.events;
    many = enough (length one.events) (length two.events) (length (one.events ++ two.events)) one.many two.many (length_both one.events two.events);
    sent = frames_both one.events two.events ∙ sum (frames one.events) (frames two.events) one.sent two.sent;
  } where
    enough : (x y z : ℕ) → k ≤ x → l ≤ y → z ≡ x + y → k + l ≤ z
    enough x y z first second is = omega (arith, first, second, is)

    sum : (x y : ℕ) → x ≡ f → y ≡ g → x + y ≡ f + g
    sum x y first second = omega (arith, first, second)

  -- with other numbers
  comes_as : (s t : SiteState) (k l f g : ℕ) → l ≤ k → f ≡ g → Comes s t k f → Comes s t l g
  comes_as s t k l f g less same comes =
      record {
        events = comes.events;
        rounds = comes.rounds;
        left = comes.left;
        is = comes.is;
        many = fewer (length comes.events) comes.many;
        sent = comes.sent ∙ same;
      }
    where
      fewer : (x : ℕ) → k ≤ x → l ≤ x
      fewer x many = omega (arith, less, many)

  -- ---------------------------------------------------------------- a turn

  went : (n m : Installation) (o : Order) → Goes n me (Ok o) m → Comes n.site m.site 1 0
  went n m o goes = by goes.1 goes.2 goes.3 goes.4 where
    by : (i : Input) (given : Installation) → IsGiven n me i given → HasStepped given me i o m → Comes n.site m.site 1 0
    by i given is stepped =
        let acted : HasActed n.site me i stepped.receipt m.site =
        subst (λ s. HasActed s me i stepped.receipt m.site) (given_site (due_of (controller n me)) n me i given is) stepped.acted in
        let logs = acted.logs.0 in
        record {
          events = event.Acted me i stepped.receipt.order ∷ [];
          rounds = (
            logs.allowed,
            (
              refl,
              given_well (due_of (controller n me)) n me i given logs.allowed.due
                  (λ failed. stored (controller n me) logs.allowed.up.up (due_commit (controller n me) i logs.allowed.due failed)) is,
              acted.ordered,
              λ e. acted.whole,
              acted.leaves,
            ),
            tt,
          );
          left = (acted.whole, tt);
          is = logs.logged;
          many = omega arith;
          sent = refl;
        }

  pub turn : (n m : Installation) (acted : Bool) (text : List ℕ) → IsTurn n me (Some acted) text m → Comes n.site m.site (if acted then 1 else 0) 0
  turn n m false text is = comes_none n.site m.site (ap (λ (x : Installation). x.site) is.2)
  turn n m true text is = went n m is.1 is.2

  -- the turns of a round in which it alone has one
  pub record IsOneTurn (n : Installation) (acted : Bool) (m : Installation) : Type 0 where
    pub last : List ℕ
    pub turn : IsTurn n me (Some acted) last m

  -- another controller has no turn, and none in what the turn of this one leaves
  none_went : (n m : Installation) (d : ℕ) (now : Bool) (last : List ℕ) → has_turn (controller n d) ≡ false → IsTurn n d (Some now) last m
      → (now ≡ false) × (m ≡ n)
  none_went n m d false last none is = (refl, is.2)
  none_went n m d true last none is = absurd (let both : true ≡ false = sym is.0 ∙ none in cc)

  went_other : (n m : Installation) (o : Order) (d : ℕ) → (d ≡ me → ⊥) → Goes n me (Ok o) m → controller m d ≡ controller n d
  went_other n m o d other goes = by goes.1 goes.2 goes.3 goes.4 where
    by : (i : Input) (given : Installation) → IsGiven n me i given → HasStepped given me i o m → controller m d ≡ controller n d
    by i given is stepped =
        ap (λ s. controller_at (world s) d) stepped.acted.logs.0.logged
        ∙ ap (λ w. controller_at w d) (world_logged given.site (event.Acted me i stepped.receipt.order))
        ∙ get_or-set_other (world given.site).controllers me d (controller_acted (controller_at (world given.site) me) i stepped.receipt.order) nobody other
        ∙ ap (λ s. controller_at (world s) d) (given_site (due_of (controller n me)) n me i given is)

  pub turn_other : (n m : Installation) (acted : Bool) (last : List ℕ) (d : ℕ) → (d ≡ me → ⊥) → IsTurn n me (Some acted) last m
      → controller m d ≡ controller n d
  turn_other n m false last d other is = ap (λ x. controller x d) is.2
  turn_other n m true last d other is = went_other n m is.1 d other is.2

  -- the turns up to a controller
  abbrev pub UpTo : Installation → ℕ → Bool → Installation → Type 0
  UpTo n k acted m = (k ≤ me → (acted ≡ false) × (m ≡ n)) × (me < k → IsOneTurn n acted m)

  up_step : (n between m : Installation) (k : ℕ) (before now acted : Bool) (last : List ℕ) → k < controllers n → HasTurnAlone n me → UpTo n k before between
      → IsTurn between k (Some now) last m → acted ≡ (before || now) → UpTo n (suc k) acted m
  up_step n between m k before now acted last few alone first is all = (early, late) where
    early : suc k ≤ me → (acted ≡ false) × (m ≡ n)
    early h =
        let was = first.0 (omega (arith, h)) in
        let none = none_went between m k now last (subst (λ x. has_turn (controller x k) ≡ false) (sym was.1)
        (alone.others k few (λ e. omega (arith, e, h)))) is in
        (rw (all, was.0, none.0) refl, none.1 ∙ was.1)

    or_none : (b : Bool) → (b || false) ≡ b
    or_none true = refl
    or_none false = refl

    after : me < k → IsOneTurn n acted m
    after h =
        let was = first.1 h in
        let other : k ≡ me → ⊥ = λ e. omega (arith, e, h) in
        let none = none_went between m k now last (ap has_turn (turn_other n between before was.last k other was.turn) ∙ alone.others k few other) is in
        let same : acted ≡ before = all ∙ ap (λ x. before || x) none.0 ∙ or_none before in
        record {
          last = was.last;
          turn = subst (λ x. IsTurn n me (Some x) was.last m) (sym same) (subst (λ x. IsTurn n me (Some before) was.last x) (sym none.1) was.turn);
        }

    here : k ≡ me → IsOneTurn n acted m
    here e =
        let was = first.0 (omega (arith, e)) in
        record {
          last = last;
          turn = subst (λ x. IsTurn n me (Some x) last m) (sym (all ∙ ap (λ x. x || now) was.0))
              (subst (λ d. IsTurn n d (Some now) last m) e (subst (λ x. IsTurn x k (Some now) last m) was.1 is));
        }

    late : me < suc k → IsOneTurn n acted m
    late h = go (nat_lt me k) refl where
      go : (b : Bool) → nat_lt me k ≡ b → IsOneTurn n acted m
      go true e = after (grind (arith, nat_tests, e))
      go false e = here (grind (arith, nat_tests, e, h))

  pub up_to : (n m : Installation) (k : ℕ) (acted : Bool) (text : List ℕ) → k ≤ controllers n → HasTurnAlone n me → Turns n k acted text m → UpTo n k acted m
  up_to n m zero acted text few alone (none, empty, is) = (λ h. (none, is), λ h. absurd (omega (arith, h)))
  up_to n m (suc k) acted text few alone (before, front, between, turns, now, last, is, all, whole) =
      up_step n between m k before now acted last (omega (arith, few)) alone (up_to n between k before front (omega (arith, few)) alone turns) is all

  pub turns_of : (n m : Installation) (acted : Bool) (text : List ℕ) → HasTurnAlone n me → Turns n (controllers n) acted text m → IsOneTurn n acted m
  turns_of n m acted text alone turns = (up_to n m (controllers n) acted text (omega arith) alone turns).1 alone.known

  -- ---------------------------------------------------------------- the bus

  pumped : (s t : SiteState) (x : Report) → Pumps s trouble.None x t → Comes s t (logs_count x) (if is_sent x then 1 else 0)
  pumped s t report.Idle pump = comes_none s t pump.1
  pumped s t (report.Sent c f h) (r, next, there, (can, sender, frame, heard, logs)) = record {
    events = event.Sent c f h ∷ [];
    rounds = (logs.allowed, (r, next, sender, frame, heard ∙ ap (λ g. heard_of (answers_of Everyone (command_of g) 0 (world s).gear)) (sym frame)), tt);
    left = (tt, tt);
    is = logs.logged;
    many = omega arith;
    sent = refl;
  }
  pumped s t (report.Destroyed c f) (r, next, there, (sender, frame, (set, why, logs))) = absurd (undisturbed s set why)
  pumped s t (report.Collided c f d g) (r, next, there, (never, more, frame, other, logs)) = absurd (cc)

  -- ---------------------------------------------------------------- rounds

  played : (n m : Installation) (sent : Bool) (text : List ℕ) → HasTurnAlone n me → IsRound n (round.Played sent) text m
      → Comes n.site m.site 1 (if sent then 1 else 0)
  played n m sent text one is =
      let turns = turns_of n is.between is.acted text one is.turns in
      let some = logs_some is.acted sent is.report is.ended in
      comes_as n.site m.site ((if is.acted then 1 else 0) + logs_count is.report) 1 (0 + (if is_sent is.report then 1 else 0)) (if sent then 1 else 0) some.0
      (zero_more (if is_sent is.report then 1 else 0) (if sent then 1 else 0) (ap (λ (x : Bool). if x then 1 else 0) some.1))
      (comes_both n.site is.between.site m.site (if is.acted then 1 else 0) (logs_count is.report) 0 (if is_sent is.report then 1 else 0)
      (turn n is.between is.acted turns.last turns.turn) (pumped is.between.site m.site is.report is.pump.0))
    where
      zero_more : (x y : ℕ) → x ≡ y → 0 + x ≡ y
      zero_more x y same = omega (arith, same)

  -- if it alone has a turn after rounds, too
  abbrev pub StaysAlone : Installation → Type 0
  StaysAlone n = (u : Installation) (k f : ℕ) → Comes n.site u.site k f → HasTurnAlone u me

  pub all_played : (n m : Installation) (k f : ℕ) (text : List ℕ) → StaysAlone n → replay.Rounds n k f text m → Comes n.site m.site k f
  all_played n m zero f text alone (none, empty, is) =
      comes_as n.site m.site 0 0 0 f (omega arith) (sym none) (comes_none n.site m.site (ap (λ (x : Installation). x.site) is))
  all_played n m (suc k) f text alone (before, front, between, rounds, sent, last, is, more, whole) =
      let first = all_played n between k before front alone rounds in
      comes_as n.site m.site (k + 1) (suc k) (before + (if sent then 1 else 0)) f (omega arith) (sym more)
      (comes_both n.site between.site m.site k 1 before (if sent then 1 else 0) first (played between m sent last (alone between k before first) is))

  -- ---------------------------------------------------------------- the end of a run

  -- a round after which a run is over changes nothing: no controller had a turn, and no request was next
  pub record IsOver (s t : SiteState) : Type 0 where
    pub same : t ≡ s
    pub turn : has_turn (controller_at (world s) me) ≡ false
    pub next : next_request s ≡ None

  over_by : (n between m : Installation) (acted : Bool) (x : Report) (text : List ℕ) → round.Over ≡ came_of acted x → IsTurn n me (Some acted) text between
      → Pumps between.site trouble.None x m.site → IsOver n.site m.site
  over_by n between m false report.Idle text is turn pump =
      let same : between.site ≡ n.site = ap (λ (y : Installation). y.site) turn.2 in
      record { same = pump.1 ∙ same; turn = turn.0; next = subst (λ s. next_request s ≡ None) same pump.0 }
  over_by n between m _ _ text is turn pump = absurd (cc)

  pub over : (n m : Installation) (text : List ℕ) → HasTurnAlone n me → IsRound n round.Over text m → IsOver n.site m.site
  over n m text one is =
      let turns = turns_of n is.between is.acted text one is.turns in
      over_by n is.between m is.acted is.report turns.last is.ended turns.turn is.pump.0

  -- ---------------------------------------------------------------- its events

  -- those of the rounds, and the survey before them
  pub record Came (by : Bool) (s t : SiteState) (k f : ℕ) : Type 0 where
    pub events : List Event
    pub rounds : Rounds by s me events
    pub is : t ≡ site_after s events
    pub many : k + begun by ≤ length events
    pub sent : frames events ≡ f
