use Rattle.dali_progress.proofs.Below.{◌≡◌, ℕ, ◌+◌, ◌<◌, ◌≤◌, ◌⊎◌, inl, inr, Bool, true, false, suc, List, [], ◌∷◌, ◌++◌, refl, sym, ap, subst, ◌∙◌, arith}
use Rattle.dali_progress.proofs.Below.{length, Option, Some, None, if◌then◌else◌, is_some, length_push, count_by-le-length, Gear, total, due_after, Kept}
use Rattle.dali_progress.proofs.Below.{InBlock, Block, Due, Input, Order, Put, Commit, Done, Halt, Record, Reserve, Machine, machine_told}
use Rattle.dali_progress.proofs.Below.{IsGiven as IsOrderGiven, IsDue, IsCommit, Plan, IsPlan, block_at, IsRun, is_bare, World, Controller, controller_at}
use Rattle.dali_progress.proofs.Below.{Event, start_count, stands, due_of, ReservesUsed, MayAnswer, Refusal, SiteState, world, site_logged, opened_site}
use Rattle.dali_progress.proofs.Below.{IsBarred, IsActRefused, IsPumpRefused, records_now, Installation, installation_of, HasNoneBy, IsGoRefused, controller}
use Rattle.dali_progress.proofs.Below.{has_turn, has_turn_by, IsTurn, Turns, IsTurnRefused, IsRoundOf, controllers, Ran, site_after, most_events, Beginning}
use Rattle.dali_progress.proofs.Below.{Rounds, by_survey, ByStart, BySurvey, bare, BeginsAlone, WasRefused, HasEndedBy, HasBegun, begun, HasNoneUsed}
use Rattle.dali_progress.proofs.{Below.{SparesUsed, SparesUsedOf, HasRoom, RanAlone, HavePower, nat_lt, nat_tests}, Beginnings.{IsAfter, after, few_events}}
use Rattle.dali_progress.proofs.{Beginnings.{never_spent, begins_so, alone_of}, Ended.{stays_alone, came_so, run_ends}, Logged.begins_new, Lone.Moment}
use Rattle.dali_progress.proofs.{Lone.heard_free, Running.{Comes, comes_both, turn, turns_of, StaysAlone, UpTo, up_to, turn_other, all_played, plan_after}}
use Rattle.dali_progress.{proofs.{Running.Came, Spared.{Alone.alone_in_peace, Lives.told_block, Peace.unrefused_in_peace}}, specs.Running.HasTurnAlone}
use Rattle.dali_replay.specs.Installation.{IsGiven, IsGivenBy}
use Rattle.dali_script.specs.declared.orders.Due.TheVariants as due
use Rattle.dali_script.specs.declared.orders.Input.TheVariants as input
use Rattle.dali_events.specs.declared.trouble.Trouble.TheVariants as trouble
use Rattle.dali_standing.specs.declared.refusal.Refusal.TheVariants as refusal
use Rattle.dali_replay.specs.declared.rounds.Round.TheVariants as round

-- WHAT MAY BE REFUSED in a run of rounds on an installation with one controller.

-- ---------------------------------------------------------------- what is due may be done

-- if something is due for the controller, no request waits
free_by : (w : World) (q c : ℕ) (m : Machine) (out : Option Record) (last : Option Order) (told : Option Input) → Moment w q c m out last told
    → (is_some told ≡ true) ⊎ IsCommit last → total w.bus ≡ 0
free_by w q c m out None (Some input.Start) at has = ap total at.0.0
free_by w q c m out (Some (Put p f)) (Some (input.Heard h)) at has = heard_free w q c m f h at
free_by w q c m out (Some (Put p f)) None at (inl told) = absurd (cc)
free_by w q c m out (Some (Put p f)) None at (inr commits) = absurd commits
free_by w q c m out (Some (Commit x)) None at has = ap total at.0.0
free_by w q c m out (Some (Done e)) None at has = ap total at.0
free_by w q c m out (Some (Halt why)) None at has = ap total at.0
free_by w q c m out _ _ at has = absurd at

-- what it was told is due for it
told_due : (w : World) (q c : ℕ) (m : Machine) (k : Controller) (i : Input) → Moment w q c m k.outstanding k.last k.told → k.told ≡ Some i → IsDue k i
told_due w q c m k i at told = go k.last k.told at refl told where
  go : (last : Option Order) (t : Option Input) → Moment w q c m k.outstanding last t → k.told ≡ t → t ≡ Some i → IsDue k i
  go None (Some input.Start) at is same = subst (IsDue k) (let now : input.Start ≡ i = cc in now) is
  go (Some (Put p f)) (Some (input.Heard h)) at is same = subst (IsDue k) (let now : input.Heard h ≡ i = cc in now) is
  go last None at is same = absurd (cc)
  go _ _ at is same = absurd at

due_last : (k : Controller) → k.up ≡ true → due_of k ≡ due_after k.last
due_last k up = rw up refl

has_by : (k : Controller) (last : Option Order) → has_turn_by (due_after last) k ≡ true → (is_some k.told ≡ true) ⊎ IsCommit last
has_by k (Some (Commit x)) has = inr tt
has_by k _ has = inl has

some_due : (d : Due) (k : Controller) → HasNoneBy d k → has_turn_by d k ≡ true → ⊥
some_due due.Store k none has = none
some_due _ k none has = let empty : is_some k.told ≡ false = ap is_some none in cc

pub pump_refused : (s : SiteState) (e : Refusal) → length s.log < s.room → IsPumpRefused s trouble.None e → IsPumpRefused s trouble.None refusal.DrawsSpent
pump_refused s refusal.DrawsSpent fits refused = refused
pump_refused s refusal.LogFull fits (r, next, there, is) = absurd (full (length s.log) s.room is fits) where
  full : (x y : ℕ) → x ≡ y → x < y → ⊥
  full x y is less = omega (arith, is, less)
pump_refused s _ fits refused = absurd refused

pub log_after : (s : SiteState) (es : List Event) → length (site_after s es).log ≡ length s.log + length es
log_after s [] = omega arith
log_after s (e ∷ es) =
    more (length (site_after (site_logged s e) es).log) (length (s.log ++ e ∷ [])) (length s.log) (length es) (log_after (site_logged s e) es)
    (length_push s.log e) where
      more : (x y z n : ℕ) → x ≡ y + n → y ≡ z + 1 → x ≡ z + suc n
      more x y z n one two = omega (arith, one, two)

pub room_after : (s : SiteState) (es : List Event) → (site_after s es).room ≡ s.room
room_after s [] = refl
room_after s (e ∷ es) = room_after (site_logged s e) es

pub queue_after : (s : SiteState) (es : List Event) → (site_after s es).queue ≡ s.queue
queue_after s [] = refl
queue_after s (e ∷ es) = queue_after (site_logged s e) es

module _ (me : ℕ) where
  -- what holds of the site of such an installation, of which controller 0 is alone
  pub record IsWell (s : SiteState) : Type 0 where
    pub up : (controller_at (world s) me).up ≡ true
    pub machine : Machine
    pub moment : Moment (world s) s.queue me machine (controller_at (world s) me).outstanding (controller_at (world s) me).last
        (controller_at (world s) me).told
    pub waits : 0 < s.queue
    pub fits : length s.log < s.room
    pub spares : (i : Input) → IsActRefused s me i refusal.AddressInUse → ⊥

  turn_free : (s : SiteState) → IsWell s → has_turn (controller_at (world s) me) ≡ true → total (world s).bus ≡ 0
  turn_free s well has =
      let k : Controller = controller_at (world s) me in
      free_by (world s) s.queue me well.machine k.outstanding k.last k.told well.moment
      (has_by k k.last (subst (λ d. has_turn_by d k ≡ true) (due_last k well.up) has))

  given_by : (n : Installation) (i : Input) (m : Installation) (last : Option Order) → IsWell n.site → (controller n me).last ≡ last
      → IsGivenBy (due_after last) n me i m → IsDue (controller n me) i × (m.site ≡ n.site)
  given_by n i m (Some (Commit x)) well is given =
      (subst (λ j. IsDue (controller n me) j) (sym given.0) (subst IsCommit (sym is) tt), ap (λ (y : Installation). y.site) given.1)
  given_by n i m _ well is given =
      (told_due (world n.site) n.site.queue me well.machine (controller n me) i well.moment given.0, ap (λ (y : Installation). y.site) given.1)

  given_due : (n : Installation) (i : Input) (m : Installation) → IsWell n.site → IsGiven n me i m → IsDue (controller n me) i × (m.site ≡ n.site)
  given_due n i m well given = given_by n i m (controller n me).last well refl (subst (λ d. IsGivenBy d n me i m) (due_last (controller n me) well.up) given)

  -- ---------------------------------------------------------------- no turn is refused

  not_barred : (s : SiteState) (e : Refusal) → IsWell s → me < length s.plan.blocks → IsBarred s me e → ⊥
  not_barred s refusal.UnknownController well one barred = omega (arith, one, barred)
  not_barred s refusal.ControllerDown well one barred =
      let both : true ≡ false = sym well.up ∙ barred.1 in
      cc
  not_barred s _ well one barred = barred

  act_never : (s : SiteState) (i : Input) (e : Refusal) → IsWell s → me < length s.plan.blocks → IsDue (controller_at (world s) me) i → total (world s).bus ≡ 0
      → IsActRefused s me i e → ⊥
  act_never s i refusal.NotDue well one has free refused = refused.1 has
  act_never s i refusal.QueueFull well one has free refused = crowded (total (world s).bus) s.queue free refused.2 well.waits where
    crowded : (x q : ℕ) → x ≡ 0 → x ≡ q → 0 < q → ⊥
    crowded x q none full some = omega (arith, none, full, some)
  act_never s i refusal.LogFull well one has free refused = full (length s.log) s.room refused.3 well.fits where
    full : (x r : ℕ) → x ≡ r → x < r → ⊥
    full x r is less = omega (arith, is, less)
  act_never s i refusal.AddressInUse well one has free refused = well.spares i refused
  act_never s i refusal.UnknownController well one has free refused = not_barred s refusal.UnknownController well one refused
  act_never s i refusal.ControllerDown well one has free refused = not_barred s refusal.ControllerDown well one refused
  act_never s i _ well one has free refused = refused

  go_never : (n m : Installation) (e : Refusal) → IsWell n.site → me < controllers n → has_turn (controller n me) ≡ true → IsGoRefused n me e m → ⊥
  go_never n m e well one has (inl (barred, same)) = not_barred n.site e well one barred
  go_never n m e well one has (inr (inl (up, none, is, same))) = some_due (due_of (controller n me)) (controller n me) none has
  go_never n m e well one has (inr (inr (up, i, given, refused))) =
      let what = given_due n i m well given in
      act_never n.site i e well one what.0 (turn_free n.site well has) (subst (λ s. IsActRefused s me i e) what.1 refused)

  turn_at : (n : Installation) (c : ℕ) (acted : Bool) (front : List ℕ) (between : Installation) (last : List ℕ) (m : Installation) → c < controllers n
      → HasTurnAlone n me → Turns n c acted front between → IsTurn between c None last m → IsTurn n me None last m
  turn_at n c acted front between last m known alone turns turn = go (nat_lt c me) refl (nat_lt me c) refl where
    up : UpTo me n c acted between
    up = up_to me n between c acted front (omega (arith, known)) alone turns

    never : (c ≡ me → ⊥) → controller between c ≡ controller n c → IsTurn n me None last m
    never other is = absurd (let both : true ≡ false = sym turn.0 ∙ ap has_turn is ∙ alone.others c known other in cc)

    go : (b : Bool) → nat_lt c me ≡ b → (d : Bool) → nat_lt me c ≡ d → IsTurn n me None last m
    go true less d is = never (λ e. grind (arith, nat_tests, less, e)) (ap (λ x. controller x c) (up.0 (grind (arith, nat_tests, less))).1)
    go false e true more =
        let was = up.1 (grind (arith, nat_tests, more)) in
        let other : c ≡ me → ⊥ = λ is. grind (arith, nat_tests, more, is) in
        never other (turn_other me n between acted was.last c other was.turn)
    go false e false is =
        let same : c ≡ me = grind (arith, nat_tests, e, is) in
        subst (λ x. IsTurn x me None last m) (up.0 (omega (arith, same))).1 (subst (λ d. IsTurn between d None last m) same turn)

  pub turns_never : (n m : Installation) (text : List ℕ) → IsWell n.site → HasTurnAlone n me → IsTurnRefused n text m → ⊥
  turns_never n m text well alone r =
      let refused = turn_at n r.c r.acted r.front r.between r.last m r.known alone r.turns r.refused in
      go_never n m refused.1 well alone.known refused.0 refused.2

  -- ---------------------------------------------------------------- a run

  -- what a machine would reserve is of its block
  within_given : (m : Machine) (i : Input) (a r : ℕ) → IsOrderGiven m i (Commit (Reserve a r)) → InBlock (machine_told m i).kept.block a
  within_given m input.CommitFailed a r given = absurd (let fails = given.answered in cc)
  within_given m _ a r given = given.answered.allowed.fits.0

  none_used : (s : SiteState) (m : Machine) (i : Input) (o : Order) → m.kept.block ≡ block_at s.plan me → HasNoneUsed s.plan me → IsOrderGiven m i o
      → ReservesUsed s.plan.used o → ⊥
  none_used s m i (Commit (Reserve a r)) block none given used = none a (subst (λ b. InBlock b a) (told_block m i ∙ block) (within_given m i a r given), used)
  none_used s m i _ block none given used = used

  -- no address that used gear have is reserved
  spares_after : (b : Beginning) (s : SiteState) (es : List Event) → BeginsAlone b s me → SparesUsed b s me → Rounds (by_survey b) s me es → (i : Input)
      → IsActRefused (site_after s es) me i refusal.AddressInUse → ⊥
  spares_after b s es alone spares rounds i refused = go spares where
    t : SiteState
    t = site_after s es

    now : IsAfter t me
    now = after b s me es alone rounds

    go : SparesUsed b s me → ⊥
    go (inl none) =
        none_used t now.machine i refused.4.0 (ap (λ (k : Kept). k.block) now.lone.kept ∙ (records_now t.plan t.queue t.log now.run).block me now.lone.up.known)
        (subst (λ p. HasNoneUsed p me) (sym (plan_after s es)) none) (subst (λ n. MayAnswer n i refused.4.0) now.there refused.4.1) refused.4.2
    go (inr powered) =
        let peace = alone_in_peace s me es (alone_of b s me alone) powered.1 (subst (λ y. Rounds y s me es) powered.0 rounds) in
        let run : IsRun s.plan s.queue t.log =
        subst (λ q. IsRun s.plan q t.log) (queue_after s es) (subst (λ p. IsRun p t.queue t.log) (plan_after s es) now.run) in
        unrefused_in_peace s me es i peace.0 peace.1 run peace.2 refused

  well_after : (b : Beginning) (s t : SiteState) (k f : ℕ) → BeginsAlone b s me → HasRoom b s me → Came me (by_survey b) s t k f → IsWell t
  well_after b s t k f alone room comes = subst IsWell (sym comes.is) (record {
    up = now.lone.up.up;
    machine = now.machine;
    moment = now.lone.moment;
    spares = spares_after b s comes.events alone room.spares comes.rounds;
    waits = subst (λ x. 0 < x) (sym (queue_after s comes.events)) room.waits;
    fits = less (length (site_after s comes.events).log) (length s.log) (length comes.events) (most_events b (bare s)) (site_after s comes.events).room s.room
        (log_after s comes.events) (few_events b s me comes.events alone comes.rounds) (room_after s comes.events) room.fits;
  }) where
    now : IsAfter (site_after s comes.events) me
    now = after b s me comes.events alone comes.rounds

    less : (x y n most r q : ℕ) → x ≡ y + n → n ≤ most → r ≡ q → y + most < q → x < r
    less x y n most r q log few same room = omega (arith, log, few, same, room)

  -- the site after such rounds, if the numbers are spent
  record IsSpentOut (by : Bool) (s t : SiteState) : Type 0 where
    pub events : List Event
    pub rounds : Rounds by s me events
    pub is : t ≡ site_after s events
    pub spent : IsPumpRefused t trouble.None refusal.DrawsSpent

  -- in such a run nothing is refused but the bus, for want of numbers
  refused_so : (b : Beginning) (limit : ℕ) (n between : Installation) (sent : ℕ) (text : List ℕ) (m : Installation) → RanAlone b me limit n between sent text m
      → HasRoom b n.site me → WasRefused between sent text m → IsSpentOut (by_survey b) n.site m.site
  refused_so b limit n between sent text m ran room r =
      let comes = all_played me between r.between r.rounds sent r.front alone r.played in
      at r.between m r.rounds sent r.last comes (alone r.between r.rounds sent comes) r.refused
    where
      alone : StaysAlone me between
      alone = stays_alone me b limit n between sent text m ran

      all : (t : SiteState) (k f : ℕ) → Comes me between.site t k f → Came me (by_survey b) n.site t k f
      all t k f comes = came_so me b n between t k f ran.alone ran.has_begun comes

      well : (t : SiteState) (k f : ℕ) → Comes me between.site t k f → IsWell t
      well t k f comes = well_after b n.site t k f ran.alone room (all t k f comes)

      at : (u v : Installation) (k f : ℕ) (last : List ℕ) → Comes me between.site u.site k f → HasTurnAlone u me → IsRoundOf u round.Refused last v
          → IsSpentOut (by_survey b) n.site v.site
      at u v k f last comes alone_there (inl refused) = absurd (turns_never u v last (well u.site k f comes) alone_there refused)
      at u v k f last comes alone_there (inr r) =
          let turns = turns_of me u r.between r.acted r.front alone_there r.turns in
          let acted =
          comes_both me between.site u.site r.between.site k (if r.acted then 1 else 0) f 0 comes (turn me u r.between r.acted turns.last turns.turn) in
          let now = well r.between.site (k + (if r.acted then 1 else 0)) (f + 0) acted in
          let events = all r.between.site (k + (if r.acted then 1 else 0)) (f + 0) acted in
          subst (λ (x : Installation). IsSpentOut (by_survey b) n.site x.site) (sym r.refused.1)
          (record { events = events.events; rounds = events.rounds; is = events.is; spent = pump_refused r.between.site r.refusal now.fits r.refused.0 })

  run_to : (b : Beginning) (limit : ℕ) (n between : Installation) (sent : ℕ) (text : List ℕ) (m : Installation) → RanAlone b me limit n between sent text m
      → most_events b (bare n.site) < limit + begun (by_survey b) → HasRoom b n.site me → HasEndedBy b n.site m.site me ⊎ IsSpentOut (by_survey b) n.site m.site
  run_to b limit n between sent text m ran enough room = go (run_ends me b limit n between sent text m ran enough) where
    go : HasEndedBy b n.site m.site me ⊎ WasRefused between sent text m → HasEndedBy b n.site m.site me ⊎ IsSpentOut (by_survey b) n.site m.site
    go (inl ended) = inl ended
    go (inr refused) = inr (refused_so b limit n between sent text m ran room refused)

  -- A RUN WITH ROOM ENDS, unless the numbers are spent
  pub run_with_room : (b : Beginning) (limit : ℕ) (n between : Installation) (sent : ℕ) (text : List ℕ) (m : Installation)
      → RanAlone b me limit n between sent text m → most_events b (bare n.site) < limit + begun (by_survey b) → HasRoom b n.site me
      → HasEndedBy b n.site m.site me ⊎ IsPumpRefused m.site trouble.None refusal.DrawsSpent
  run_with_room b limit n between sent text m ran enough room = go (run_to b limit n between sent text m ran enough room) where
    go : HasEndedBy b n.site m.site me ⊎ IsSpentOut (by_survey b) n.site m.site
        → HasEndedBy b n.site m.site me ⊎ IsPumpRefused m.site trouble.None refusal.DrawsSpent
    go (inl ended) = inl ended
    go (inr out) = inr out.spent

  -- A RUN WITH ROOM AND NUMBERS COMMISSIONS
  pub run_commissions : (b : Beginning) (limit : ℕ) (n between : Installation) (sent : ℕ) (text : List ℕ) (m : Installation)
      → RanAlone b me limit n between sent text m → most_events b (bare n.site) < limit + begun (by_survey b) → HasRoom b n.site me
      → bare n.site ≤ length (world n.site).left → HasEndedBy b n.site m.site me
  run_commissions b limit n between sent text m ran enough room numbers = go (run_to b limit n between sent text m ran enough room) where
    go : HasEndedBy b n.site m.site me ⊎ IsSpentOut (by_survey b) n.site m.site → HasEndedBy b n.site m.site me
    go (inl ended) = ended
    go (inr out) =
        absurd (never_spent b n.site me out.events ran.alone numbers out.rounds (subst (λ s. IsPumpRefused s trouble.None refusal.DrawsSpent) out.is out.spent))

-- ---------------------------------------------------------------- a run of a new installation

-- its gear
bare_few : (p : Plan) → bare (opened_site p 64 65536) ≤ p.gear
bare_few p = subst (λ x. bare (opened_site p 64 65536) ≤ x) (start_count p) (count_by-le-length is_bare (world (opened_site p 64 65536)).gear)

grows : (b : Beginning) (g h : ℕ) → g ≤ h → most_events b g ≤ most_events b h
grows ByStart g h less = omega (arith, less)
grows BySurvey g h less = omega (arith, less)

few_in_room : (b : Beginning) (g : ℕ) → g ≤ 128 → 0 + most_events b g < 65536
few_in_room ByStart g few = omega (arith, few)
few_in_room BySurvey g few = omega (arith, few)

-- the one controller that there is has a turn alone
only_one : (n : Installation) → controllers n ≡ 1 → HasTurnAlone n 0
only_one n one = record { known = omega (arith, one); others = λ d there other. absurd (none d (subst (λ x. d < x) one there) other) } where
  none : (d : ℕ) → d < 1 → (d ≡ 0 → ⊥) → ⊥
  none d less other = other (omega (arith, less))

-- it begins alone, and has room
pub ran_new : (b : Beginning) (limit : ℕ) (p : Plan) (k : Block) (between : Installation) (sent : ℕ) (text : List ℕ) (m : Installation) → IsPlan p
    → p.blocks ≡ k ∷ [] → HasBegun (by_survey b) 0 (installation_of p) between → Ran limit between sent text m
    → RanAlone b 0 limit (installation_of p) between sent text m
ran_new b limit p k between sent text m plan blocks begins ran = record {
  alone = begins_so b (installation_of p).site 0 (begins_new p 64 65536 k plan blocks);
  turns = only_one (installation_of p) (ap length blocks);
  has_begun = begins;
  ran = ran;
}

-- used gear have power there
used_power : (p : Plan) (queue room : ℕ) → IsPlan p → HavePower (opened_site p queue room)
used_power p queue room plan u has = ap (λ (g : Gear). g.powered) (stands p plan.used u has)

pub room_new : (b : Beginning) (p : Plan) → IsPlan p → SparesUsedOf b p → p.gear ≤ 128 → HasRoom b (installation_of p).site 0
room_new b p plan spares few = record {
  spares = go spares;
  waits = omega arith;
  fits = few_in_room b (bare (opened_site p 64 65536)) (fewer (bare (opened_site p 64 65536)) (bare_few p));
} where
  fewer : (g : ℕ) → g ≤ p.gear → g ≤ 128
  fewer g less = omega (arith, less, few)

  go : SparesUsedOf b p → SparesUsed b (installation_of p).site 0
  go (inl none) = inl none
  go (inr surveys) = inr (surveys, used_power p 64 65536 plan)

enough_new : (b : Beginning) (p : Plan) (rounds : ℕ) → most_events b p.gear < rounds → most_events b (bare (opened_site p 64 65536)) < rounds
enough_new b p rounds enough =
    more (most_events b (bare (opened_site p 64 65536))) (most_events b p.gear) (grows b (bare (opened_site p 64 65536)) p.gear (bare_few p)) enough
  where
    more : (x y : ℕ) → x ≤ y → y < rounds → x < rounds
    more x y less enough = omega (arith, less, enough)

pub new_runs : (b : Beginning) (limit : ℕ) (p : Plan) (k : Block) (between : Installation) (sent : ℕ) (text : List ℕ) (m : Installation) → IsPlan p
    → SparesUsedOf b p → p.blocks ≡ k ∷ [] → p.gear ≤ 128 → most_events b p.gear < limit + begun (by_survey b)
    → HasBegun (by_survey b) 0 (installation_of p) between → Ran limit between sent text m
    → HasEndedBy b (installation_of p).site m.site 0 ⊎ IsPumpRefused m.site trouble.None refusal.DrawsSpent
new_runs b limit p k between sent text m plan spares blocks few enough begins ran =
    run_with_room 0 b limit (installation_of p) between sent text m (ran_new b limit p k between sent text m plan blocks begins ran)
    (enough_new b p (limit + begun (by_survey b)) enough) (room_new b p plan spares few)

pub new_commissions : (b : Beginning) (limit : ℕ) (p : Plan) (k : Block) (between : Installation) (sent : ℕ) (text : List ℕ) (m : Installation) → IsPlan p
    → SparesUsedOf b p → p.blocks ≡ k ∷ [] → p.gear ≤ 128 → p.gear ≤ length p.draws → most_events b p.gear < limit + begun (by_survey b)
    → HasBegun (by_survey b) 0 (installation_of p) between → Ran limit between sent text m → HasEndedBy b (installation_of p).site m.site 0
new_commissions b limit p k between sent text m plan spares blocks few numbers enough begins ran =
    run_commissions 0 b limit (installation_of p) between sent text m (ran_new b limit p k between sent text m plan blocks begins ran)
    (enough_new b p (limit + begun (by_survey b)) enough) (room_new b p plan spares few)
    (all (bare (opened_site p 64 65536)) p.gear (length p.draws) (bare_few p) numbers)
  where
    all : (without gear draws : ℕ) → without ≤ gear → gear ≤ draws → without ≤ draws
    all without gear draws fewer few = omega (arith, fewer, few)
