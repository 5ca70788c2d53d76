use Rattle.std.proofs.Common.{◌≡◌, ◌⊎◌, inl, inr, ℕ, ◌<◌, ◌≤◌, Bool, true, false, refl, sym, ap, subst, ◌∙◌, arith, Option, Some, None, ◌==◌, ◌&&◌, nat_lt}
use Rattle.std.proofs.{Common.if◌then◌else◌, lemmas.Bool.{ne_eqb, Decides.nat_tests}}
use Rattle.dali_frame.specs.{Random.{value_of, MASK24}, declared.{frames.Answer.{Answer, TheVariants.Silence}, numbers.SearchAddress.SearchAddress}}
use Rattle.dali_script.specs.{Records.{Has, Kept}, Stages.stage_of, declared.orders.{End.{End, TheVariants.{AllFound, BlockFull, GaveUp}}, Order.Order}}
use Rattle.dali_script.specs.declared.{orders.Order.TheVariants.Commit, records.Record.TheVariants.{Reserve, Release}, stage.Stage.{Stage, TheVariants.Free}}
use Rattle.dali_script.specs.declared.stage.Stage.TheVariants.{Opened, DrawBarred, Probed, Hunted, Unnamed, Unanswered, Inconclusive, Withdrawn, HighAsked}
use Rattle.dali_script.specs.declared.stage.Stage.TheVariants.{PassedOver, MiddleAsked, Spelled}
use Rattle.dali_search.specs.{Ascending.{Ascent, leads_to, ascended}, Least.{Search, answered}, declared.step.Step.{Step, TheVariants.{Again, Found, Nobody}}}
use Rattle.dali_controller.specs.Course.{Course, least_open, closing_of, after_step, address_for, is_yes, hunted, closing, resolving, searching_first}
use Rattle.dali_controller.specs.Course.{opening_anew, opening_at_last, drawing, calling, hunting_first, hunting_above, ask_or_call, next_asked, visiting}
use Rattle.dali_controller.specs.{Course.asking_again, Legs.{ascent_on, search_on, way_on, is_searching}, Machine.Machine, Moments.{AsksNext, Begins, Begun}}
use Rattle.dali_controller.specs.{Moments.{Enrolled, IsBetween, IsHeard, IsMoment, IsUngiven, IsNextTo}, Next.{next_course, beginning, at_rest, compared_in}}
use Rattle.dali_controller.specs.Next.{begins_at, goes_on_to, silenced, silenced_on, missed_again, is_failed, most_silent, unanswered, has_open, may_draw}
use Rattle.dali_controller.specs.Next.{asks_again, full, ungiven, undrawn, nobody_left, hunted_to, hunted_in, blocked, is_blocked, called_to, called_in}
use Rattle.dali_controller.specs.{Next.{asked_once, is_hunting, question}, Orders.{Cause, IsBegun, AllAreFound, IsUndrawn, IsUngivable, IsBlockFull, IsStuck}}
use Rattle.dali_controller.specs.{Orders.{IsOrdered, IsOrderedTo, machine_ordered, machine_ordered_on}, States.{machine_with, course_of}, Tally.asked_again}
use Rattle.dali_controller.specs.{Next.giving_up, Tally.{silent_call, heard_call}, Whole.{Knows, IsSurvey, IsWithinSilence, IsWhole, IsUnstarted, Pending}}
use Rattle.dali_controller.specs.declared.{leg.Leg.Leg, purpose.Purpose.{Purpose, TheVariants.{Opening, Probing, Visiting, Resolving, Closing, Asking}}}
use Rattle.dali_controller.specs.declared.{purpose.Purpose.TheVariants.{Hunting, Calling, Drawing}, state.State.State, tally.Tally.Tally, way.Way.Way}
use Rattle.dali_controller.{specs.declared.way.Way.TheVariants.{Fresh, Surveying}, proofs.Courses.{searches_first_keeps, either, asks_again_with}}
use Rattle.dali_controller.proofs.{Courses.goes_on_keeps, Given.goes_on_open, Steps.{begun_moment, calm_less, sends_open, KnowsFor}}
use Rattle.dali_controller.specs.declared.leg.Leg.TheVariants as leg

-- WHERE A TRANSACTION MAY BEGIN, at each stage of the one that leads there.

-- a course that begins no close, or one that has its cause
record IsShut (t : Machine) (c : Course) : Type 0 where
  pub way : c.way ≡ t.course.way
  pub closes : (e : End) → c.purpose ≡ Closing e → Cause t e

opens : (t : Machine) (c : Course) → c.way ≡ t.course.way → closing_of c.purpose ≡ None → IsShut t c
opens t c way unclosed = record { way = way; closes = λ e is. absurd (let none : Some e ≡ None = sym (ap closing_of is) ∙ unclosed in cc) }

shuts : (t : Machine) (c : Course) (d : End) → c.way ≡ t.course.way → c.purpose ≡ Closing d → Cause t d → IsShut t c
shuts t c d way is cause = record { way = way; closes = λ e also. let same : d ≡ e = cc in subst (Cause t) same cause }

-- it may begin if searches did not lead to nothing too often, and no close was begun
shut_begins : (t : Machine) (c : Course) → t.tries < 8 → t.silent < most_silent t.course.way → closing_of t.course.purpose ≡ None → IsShut t c
    → ((r : SearchAddress) → stage_of t.trace ≡ Unnamed r → IsUngiven t.course.way t r × IsNextTo t.course.way t c.purpose c.number)
    → ((r : SearchAddress) (b : ℕ) → stage_of t.trace ≡ Withdrawn r b → Has t.kept.enrolled (b, value_of r)) → Begins t c
shut_begins t c tries silent going shut unnamed found =
    let x = go c.purpose refl in
    record { tries = tries; way = shut.way; calm = x.0; turns = x.1; unnamed = unnamed; found = found } where
      less : t.silent < most_silent c.way
      less = subst (λ y. t.silent < most_silent y) (sym shut.way) silent

      go : (p : Purpose) → c.purpose ≡ p → IsWithinSilence c.way p t.silent × IsBegun t (closing_of p)
      go (Closing GaveUp) is = (omega (arith, less), inr (going, shut.closes GaveUp is))
      go (Closing e) is = (less, inr (going, shut.closes e is))
      go _ is = (less, going)

-- ---------------------------------------------------------------- between two transactions

between_shut : (t : Machine) (c : Course) → IsBetween t → IsShut t c → Begins t c
between_shut t c b shut = shut_begins t c b.tries b.silent b.going shut (λ r e. absurd (b.unnamed r e)) b.found

pub between_begins : (t : Machine) (c : Course) → IsBetween t → c.way ≡ t.course.way → closing_of c.purpose ≡ None → Begins t c
between_begins t c b way unclosed = between_shut t c b (opens t c way unclosed)

-- a transaction that has no finding, is no close, and was no visit that found gear without short address
heard_between : (t : Machine) (s : Stage) → IsHeard t s → closing_of t.course.purpose ≡ None → IsWithinSilence t.course.way t.course.purpose t.silent
    → ((r : SearchAddress) → s ≡ Unnamed r → ⊥) → ((r : SearchAddress) (b : ℕ) → s ≡ Withdrawn r b → ⊥) → IsBetween t
heard_between t s h going calm unnamed found = record {
  tries = h.tries;
  silent = calm_less t.course.way t.course.purpose t.silent going calm;
  going = going;
  unnamed = λ r e. unnamed r (sym h.stage ∙ e);
  found = λ r b e. absurd (found r b (sym h.stage ∙ e));
}

-- ---------------------------------------------------------------- to go on

pub goes_on_moment : (t : Machine) (o : Order) (new : Machine) → IsBetween t → next_course t ≡ goes_on_to t → Begun t (goes_on_to t) o new → IsMoment t o new
goes_on_moment t o new b next begun =
    begun_moment t (goes_on_to t) o new (sym next) (between_begins t (goes_on_to t) b (goes_on_keeps t).way (goes_on_open t)) begun

-- ---------------------------------------------------------------- after an opening

pub opened_moment : (t : Machine) (s : Stage) (y : Way) (o : Order) (new : Machine) → IsHeard t s → (s ≡ Opened) ⊎ (s ≡ DrawBarred) → t.course.way ≡ y
    → Begun t (searching_first y t.course) o new → IsMoment t o new
opened_moment t s y o new h is way begun =
    let x = go is in
    let first = searching_first t.course.way t.course in
    begun_moment t first o new (sym (ap (begins_at t) h.stage ∙ x.1))
    (between_begins t first x.0 (searches_first_keeps t.course.way t.course).way (unclosed t.course.way))
    (subst (λ z. Begun t (searching_first z t.course) o new) (sym way) begun) where
      unclosed : (y : Way) → closing_of (searching_first y t.course).purpose ≡ None
      unclosed Fresh = refl
      unclosed Surveying = refl

      none : (t.course.purpose ≡ Opening) ⊎ (t.course.purpose ≡ Drawing) → closing_of t.course.purpose ≡ None
      none (inl e) = ap closing_of e
      none (inr e) = ap closing_of e

      go : (s ≡ Opened) ⊎ (s ≡ DrawBarred) → IsBetween t × (begins_at t s ≡ searching_first t.course.way t.course)
      go (inl e) =
          let x : IsHeard t Opened = subst (IsHeard t) e h in
          (heard_between t Opened x (none x.arrived) x.calm (λ r e. cc) (λ r b e. cc), ap (begins_at t) e)
      go (inr e) =
          let x : IsHeard t DrawBarred = subst (IsHeard t) e h in
          (heard_between t DrawBarred x (ap closing_of x.arrived) x.calm (λ r e. cc) (λ r b e. cc), ap (begins_at t) e)

-- ---------------------------------------------------------------- after a question

silence_is : (h : Answer) → is_yes h ≡ false → h ≡ Silence
silence_is Silence e = refl
silence_is _ e = absurd (cc)

pub probed_moment : (t : Machine) (r : SearchAddress) (h : Answer) (s : Search) (step : Step) (o : Order) (new : Machine) → IsHeard t (Probed r h)
    → s ≡ answered t.course.search (is_yes h) → s.step ≡ step → (step ≡ Nobody → (is_yes h ≡ false) × (t.course.search.probe ≡ 0xFFFFFE))
    → Begun t (after_step step (record t.course { search = s })) o new → IsMoment t o new
probed_moment t r h s step o new heard is leads nobody begun =
    begun_moment t c o new (sym (ap (begins_at t) heard.stage ∙ next)) (begins step nobody) begun where
      c : Course
      c = after_step step (record t.course { search = s })

      next : begins_at t (Probed r h) ≡ c
      next = ap (λ (x : Search). after_step x.step (record t.course { search = x })) (sym is) ∙ ap (λ x. after_step x (record t.course { search = s })) leads

      between : IsBetween t
      between = heard_between t (Probed r h) heard (ap closing_of heard.arrived.0) heard.calm (λ q e. cc) (λ q b e. cc)

      probing : KnowsFor t Probing
      probing = subst (KnowsFor t) heard.arrived.0 heard.knows

      cause : (is_yes h ≡ false) × (t.course.search.probe ≡ 0xFFFFFE) → Cause t AllFound
      cause x = (
        probing.0,
        subst (AllAreFound t) (sym probing.1) (record {
          number = r;
          stage = heard.stage ∙ ap (Probed r) (silence_is h x.0);
          last = ap value_of heard.arrived.1 ∙ probing.3 ∙ x.1;
        }),
      )

      begins : (step : Step) → (step ≡ Nobody → (is_yes h ≡ false) × (t.course.search.probe ≡ 0xFFFFFE))
          → Begins t (after_step step (record t.course { search = s }))
      begins Again nobody = between_begins t _ between refl refl
      begins (Found n) nobody = between_begins t _ between refl refl
      begins Nobody nobody = between_shut t _ between (shuts t _ AllFound refl refl (cause (nobody refl)))

-- ---------------------------------------------------------------- gear that cannot be addressed

full_shut : (t : Machine) (c : Course) → c.way ≡ t.course.way → t.course.way ≡ Surveying → IsUngivable t → IsShut t (full t c)
full_shut t c way survey ungivable = go (asks_again t) refl where
  go : (b : Bool) → asks_again t ≡ b → IsShut t (if b then asking_again t.kept c else closing c BlockFull)
  go true is = asks_again_with (IsShut t) t.kept c (opens t _ way refl) (λ a. opens t _ way refl)
  go false is = shuts t _ BlockFull way refl (subst (IsBlockFull t) (sym survey) (ungivable, is))

undrawn_shut : (t : Machine) (c : Course) → c.way ≡ t.course.way → t.course.way ≡ Surveying → c.tally ≡ t.course.tally → IsUndrawn t → IsShut t (undrawn t c)
undrawn_shut t c way survey same undrawn = go (has_open t) refl (nat_lt c.tally.draws 3) refl where
  by : (b : Bool) → c.tally.is_heard ≡ b → nat_lt c.tally.draws 3 ≡ false → IsShut t (if b then closing c GaveUp else calling c)
  by true heard few =
      let over : nat_lt t.course.tally.draws 3 ≡ false = ap (λ (y : Tally). nat_lt y.draws 3) (sym same) ∙ few in
      shuts t _ GaveUp way refl (inr (subst (IsStuck t) (sym survey) (inr (undrawn, over, ap (λ (y : Tally). y.is_heard) (sym same) ∙ heard))))
  by false heard few = opens t _ way refl

  go : (b : Bool) → has_open t ≡ b → (d : Bool) → nat_lt c.tally.draws 3 ≡ d → IsShut t (if b then (if d then drawing c else giving_up c) else full t c)
  go true unclosed true few = opens t _ way refl
  go true unclosed false few = by c.tally.is_heard refl few
  go false none d few = full_shut t c way survey (inr (undrawn, none))

left_shut : (t : Machine) (c : Course) → c.way ≡ t.course.way → t.course.way ≡ Surveying → c.tally ≡ t.course.tally → (c.ascent.found ≡ 0 → IsUndrawn t)
    → IsShut t (nobody_left t c)
left_shut t c way survey same none = go (c.ascent.found == 0) refl where
  go : (b : Bool) → (c.ascent.found == 0) ≡ b → IsShut t (if b then undrawn t c else calling c)
  go true is = let zero : c.ascent.found ≡ 0 = grind (arith, nat_tests) in undrawn_shut t c way survey same (none zero)
  go false is = opens t _ way refl

-- ---------------------------------------------------------------- after a question of a hunt

record IsHunted (t : Machine) (r : SearchAddress) (h : Answer) (left : ℕ) : Type 0 where
  pub heard : IsHeard t (Hunted r (Some h) left)
  pub survey : t.course.way ≡ Surveying
  pub going : closing_of t.course.purpose ≡ None

hunted_between : (t : Machine) (r : SearchAddress) (h : Answer) (left : ℕ) → IsHunted t r h left → IsBetween t
hunted_between t r h left x = heard_between t (Hunted r (Some h) left) x.heard x.going x.heard.calm (λ q e. cc) (λ q b e. cc)

hunted_shut : (t : Machine) (r : SearchAddress) (h : Answer) (left : ℕ) → IsHunted t r h left → t.course.purpose ≡ Hunting → IsShut t (hunted_in t h)
hunted_shut t r h left x hunting = go (leads_to (hunted t.course h).ascent) refl where
  go : (s : Step) → leads_to (hunted t.course h).ascent ≡ s → IsShut t (hunted_to t s (hunted t.course h))
  go Again is = opens t _ refl refl
  go (Found n) is = opens t _ refl refl
  go Nobody is = left_shut t (hunted t.course h) refl x.survey refl (λ none. record {
    number = r;
    heard = h;
    left = left;
    stage = x.heard.stage;
    hunting = hunting;
    nobody = is;
    none = none;
  })

surveys : (y : Way) → IsSurvey y → y ≡ Surveying
surveys Fresh survey = absurd survey
surveys Surveying survey = refl

pub hunted_begins : (t : Machine) (r : SearchAddress) (h : Answer) (left : ℕ) → IsHeard t (Hunted r (Some h) left) → t.course.purpose ≡ Hunting
    → Begins t (hunted_in t h)
hunted_begins t r h left heard hunting =
    let known : KnowsFor t Hunting = subst (KnowsFor t) hunting heard.knows in
    let x : IsHunted t r h left = record { heard = heard; survey = surveys t.course.way known.1; going = ap closing_of hunting } in
    between_shut t (hunted_in t h) (hunted_between t r h left x) (hunted_shut t r h left x hunting)

-- ---------------------------------------------------------------- after a roll call

blocked_shut : (t : Machine) (r : SearchAddress) (h : Answer) (left : ℕ) → IsHunted t r h left → t.course.purpose ≡ Calling → is_yes h ≡ true
    → is_blocked t.course.tally ≡ true → IsShut t (blocked t)
blocked_shut t r h left x is answers passed = go (may_draw t) refl where
  go : (b : Bool) → may_draw t ≡ b → IsShut t (if b then opening_at_last t.course else closing t.course GaveUp)
  go true spent = opens t _ refl refl
  go false spent = shuts t _ GaveUp refl refl (inr (subst (IsStuck t) (sym x.survey) (inl (record {
    number = r;
    heard = h;
    left = left;
    stage = x.heard.stage;
    calling = is;
    yes = answers;
    passed = passed;
    spent = spent;
  }))))

called_shut : (t : Machine) (r : SearchAddress) (h : Answer) (left : ℕ) → IsHunted t r h left → t.course.purpose ≡ Calling → t.course.opened ≡ true
    → value_of t.course.number ≡ MASK24 → (b : Bool) → is_yes h ≡ b → IsShut t (called_to t b t.course)
called_shut t r h left x is opened mask false e = go t.course.tally.is_silent refl where
  go : (b : Bool) → t.course.tally.is_silent ≡ b
      → IsShut t (if b then closing t.course AllFound else calling (record t.course { tally = silent_call t.course.tally }))
  go true before = shuts t _ AllFound refl refl (
    opened,
    subst (AllAreFound t) (sym x.survey) (record {
      number = r;
      left = left;
      stage = x.heard.stage ∙ ap (λ g. Hunted r (Some g) left) (silence_is h e);
      calling = is;
      last = ap value_of x.heard.arrived.1 ∙ mask;
      before = before;
    }),
  )
  go false before = opens t _ refl refl
called_shut t r h left x is opened mask true e = go (is_blocked t.course.tally) refl where
  go : (b : Bool) → is_blocked t.course.tally ≡ b → IsShut t (if b then blocked t else hunting_first (record t.course { tally = heard_call t.course.tally }))
  go true passed = blocked_shut t r h left x is e passed
  go false passed = opens t _ refl refl

pub called_moment : (t : Machine) (r : SearchAddress) (h : Answer) (left : ℕ) (o : Order) (new : Machine) → IsHeard t (Hunted r (Some h) left)
    → t.course.purpose ≡ Calling → Begun t (called_in t h) o new → IsMoment t o new
called_moment t r h left o new heard is begun =
    let known : KnowsFor t Calling = subst (KnowsFor t) is heard.knows in
    let x : IsHunted t r h left = record { heard = heard; survey = surveys t.course.way known.0.1; going = ap closing_of is } in
    begun_moment t (called_in t h) o new (sym (ap (begins_at t) heard.stage ∙ ap (λ p. compared_in t p h) is))
    (between_shut t (called_in t h) (hunted_between t r h left x) (called_shut t r h left x is known.0.0 known.1 (is_yes h) refl)) begun

-- ---------------------------------------------------------------- after MASK was answered

ungiven_shut : (t : Machine) (r : SearchAddress) (y : Way) → t.course.way ≡ y → stage_of t.trace ≡ Unnamed r → IsUngiven y t r → IsShut t (ungiven t y)
ungiven_shut t r Fresh way stage left = shuts t _ BlockFull refl refl (subst (IsBlockFull t) (sym way) (r, stage, left))
ungiven_shut t r Surveying way stage left = go (may_draw t) refl where
  go : (b : Bool) → may_draw t ≡ b → IsShut t (if b then opening_anew t.course else full t t.course)
  go true is = opens t _ refl refl
  go false is = full_shut t t.course refl way (inl (r, stage, left, is))

ungiven_next : (t : Machine) (y : Way) → next_course t ≡ ungiven t y → IsNextTo y t (ungiven t y).purpose (ungiven t y).number
ungiven_next t Fresh next = refl
ungiven_next t Surveying next = sym (ap beginning next)

pub ungiven_moment : (t : Machine) (r : SearchAddress) (y : Way) (o : Order) (new : Machine) → IsHeard t (Unnamed r) → IsUngiven t.course.way t r
    → t.course.way ≡ y → Begun t (ungiven t y) o new → IsMoment t o new
ungiven_moment t r y o new h left way begun =
    let going : closing_of t.course.purpose ≡ None = ap closing_of h.arrived.0 in
    let next : next_course t ≡ ungiven t t.course.way = ap (begins_at t) h.stage in
    begun_moment t (ungiven t t.course.way) o new (sym next)
    (shut_begins t (ungiven t t.course.way) h.tries (calm_less t.course.way t.course.purpose t.silent going h.calm) going
    (ungiven_shut t r t.course.way refl h.stage left)
    (λ q e. (let same : r ≡ q = cc (sym h.stage ∙ e) in subst (IsUngiven t.course.way t) same left, ungiven_next t t.course.way next))
    (λ q b e. absurd (cc (sym h.stage ∙ e)))) (subst (λ z. Begun t (ungiven t z) o new) (sym way) begun)

-- ---------------------------------------------------------------- after a visit that failed

silenced_begins : (t : Machine) → t.tries < 8 → t.course.purpose ≡ Visiting → (t.silent ≤ most_silent t.course.way)
    → ((r : SearchAddress) → stage_of t.trace ≡ Unnamed r → ⊥) → ((r : SearchAddress) (b : ℕ) → stage_of t.trace ≡ Withdrawn r b → ⊥) → Begins t (silenced t)
silenced_begins t tries visiting few unnamed found = go (t.silent == most_silent t.course.way) refl where
  going : closing_of t.course.purpose ≡ None
  going = ap closing_of visiting

  again : (b : Bool) → IsShut t (missed_again b t.course)
  again true = opens t _ refl refl
  again false = opens t _ refl refl

  on : (y : Way) → IsShut t (silenced_on t y)
  on Fresh = opens t _ (goes_on_keeps t).way (goes_on_open t)
  on Surveying = again (is_failed t.course.tally.failed (value_of t.course.number))

  go : (b : Bool) → (t.silent == most_silent t.course.way) ≡ b → Begins t (if b then closing t.course GaveUp else silenced_on t t.course.way)
  go true is = record {
    tries = tries;
    way = refl;
    calm = few;
    turns = inr (going, inl (grind (arith, nat_tests)));
    unnamed = λ r e. absurd (unnamed r e);
    found = λ r b e. absurd (found r b e);
  }
  go false is =
      shut_begins t (silenced_on t t.course.way) tries (grind (arith, nat_tests)) going (on t.course.way)
      (λ r e. absurd (unnamed r e)) (λ r b e. absurd (found r b e))

pub silenced_moment : (t : Machine) (r : SearchAddress) (o : Order) (new : Machine)
    → IsHeard t (Unanswered r) ⊎ ((other : Option ℕ) × IsHeard t (Inconclusive r other))
    → next_course t ≡ silenced t → Begun t (silenced t) o new → IsMoment t o new
silenced_moment t r o new (inl h) next begun =
    begun_moment t (silenced t) o new (sym next)
    (silenced_begins t h.tries h.arrived.0 h.calm.0 (λ q e. cc (sym h.stage ∙ e)) (λ q b e. cc (sym h.stage ∙ e))) begun
silenced_moment t r o new (inr (other, h)) next begun =
    begun_moment t (silenced t) o new (sym next)
    (silenced_begins t h.tries h.arrived.0 h.calm.0 (λ q e. cc (sym h.stage ∙ e)) (λ q b e. cc (sym h.stage ∙ e))) begun

early_calm : (y : Way) (o : Bool) (i : ℕ) → o ≡ false → (i ≤ most_silent y) × (i ≡ most_silent y → o ≡ true) → i < most_silent y
early_calm y o i early calm = omega (arith, late) where
  late : i ≡ most_silent y → ⊥
  late e = let no : false ≡ true = sym early ∙ calm.1 e in cc

pub resolved_moment : (t : Machine) (r : SearchAddress) (a : ℕ) (o : Order) (new : Machine) → IsHeard t (Unanswered r) → t.course.opened ≡ false
    → address_for t.kept.reserved (value_of r) ≡ Some a → Begun t (resolving t.course a r) o new → IsMoment t o new
resolved_moment t r a o new h early reserved begun =
    let next : next_course t ≡ resolving t.course a r =
    ap (begins_at t) h.stage ∙ ap (λ o. unanswered t r o (address_for t.kept.reserved (value_of r))) early ∙ ap (unanswered t r false) reserved in
    let calm : IsWithinSilence t.course.way t.course.purpose t.silent = rw h.arrived.0 (early_calm t.course.way t.course.opened t.silent early h.calm) in
    begun_moment t (resolving t.course a r) o new (sym next)
    (between_begins t _ (heard_between t (Unanswered r) h (ap closing_of h.arrived.0) calm (λ q e. cc) (λ q b e. cc)) refl refl) begun

-- ---------------------------------------------------------------- after a number was passed over

pub passed_moment : (t : Machine) (r : SearchAddress) (o : Order) (new : Machine) → IsHeard t (PassedOver r) → Begun t (hunting_above t.course) o new
    → IsMoment t o new
passed_moment t r o new h begun =
    begun_moment t (hunting_above t.course) o new (sym (ap (begins_at t) h.stage))
    (between_begins t _ (heard_between t (PassedOver r) h (ap closing_of h.arrived) h.calm (λ q e. cc) (λ q b e. cc)) refl refl) begun

-- ---------------------------------------------------------------- after queries

-- no close queries
asked_open : (p : Purpose) (b : ℕ) → (p ≡ Resolving b) ⊎ (p ≡ Asking b) → closing_of p ≡ None
asked_open p b (inl is) = ap closing_of is
asked_open p b (inr is) = ap closing_of is

unheard_open : (p : Purpose) (b : ℕ) → ((p ≡ Resolving b) × (b < 64)) ⊎ (p ≡ Asking b) → closing_of p ≡ None
unheard_open p b (inl is) = ap closing_of is.0
unheard_open p b (inr is) = ap closing_of is

pub high_between : (t : Machine) (b : ℕ) (high : Option ℕ) → IsHeard t (HighAsked b high) → IsBetween t
high_between t b None h = heard_between t _ h (unheard_open t.course.purpose b h.arrived) h.calm (λ r e. cc) (λ r c e. cc)
high_between t b (Some high) h =
    heard_between t _ h (sends_open t.kept t.course.number t.course.purpose (HighAsked b (Some high)) h.arrived.0 h.arrived.1 (λ e. cc)) h.calm (λ r e. cc)
    (λ r c e. cc)

pub middle_between : (t : Machine) (b : ℕ) (bytes : Option (ℕ × ℕ)) → IsHeard t (MiddleAsked b bytes) → IsBetween t
middle_between t b None h = heard_between t _ h (unheard_open t.course.purpose b h.arrived) h.calm (λ r e. cc) (λ r c e. cc)
middle_between t b (Some bytes) h =
    heard_between t _ h (sends_open t.kept t.course.number t.course.purpose (MiddleAsked b (Some bytes)) h.arrived.0 h.arrived.1 (λ e. cc)) h.calm (λ r e. cc)
    (λ r c e. cc)

pub spelled_between : (t : Machine) (b : ℕ) (number : Option ℕ) → IsHeard t (Spelled b number) → IsBetween t
spelled_between t b number h = heard_between t _ h (asked_open t.course.purpose b h.arrived) h.calm (λ r e. cc) (λ r c e. cc)

-- a short address that was silent is asked again
pub again_moment : (t : Machine) (b : ℕ) (high : Option ℕ) (o : Order) (new : Machine) → IsHeard t (HighAsked b high) → (t.asked ≡ 0 → ⊥)
    → Begun t t.course o new → IsMoment t o new
again_moment t b high o new h more begun =
    let next : next_course t ≡ t.course = ap (begins_at t) h.stage ∙ ap (asked_once t) (ne_eqb t.asked 0 more) in
    begun_moment t t.course o new (sym next) (between_begins t t.course (high_between t b high h) refl (high_between t b high h).going) begun

-- ---------------------------------------------------------------- after a record that is kept

pub reserved_moment : (t : Machine) (a n : ℕ) (o : Order) (new : Machine) → IsBetween t → stage_of t.trace ≡ Free → t.last ≡ Some (Commit (Reserve a n))
    → Begun t (visiting t.course n) o new → IsMoment t o new
reserved_moment t a n o new b free last begun =
    begun_moment t (visiting t.course n) o new (sym (ap (begins_at t) free ∙ ap (at_rest t) last)) (between_begins t _ b refl refl) begun

pub released_moment : (t : Machine) (a n : ℕ) (o : Order) (new : Machine) → IsBetween t → stage_of t.trace ≡ Free → t.last ≡ Some (Commit (Release a n))
    → Begun t (goes_on_to t) o new → IsMoment t o new
released_moment t a n o new b free last begun = goes_on_moment t o new b (ap (begins_at t) free ∙ ap (at_rest t) last) begun

pub enrolled_moment : (t : Machine) (b n : ℕ) (o : Order) (new : Machine) → Enrolled t b n → Begun t (goes_on_to t) o new → IsMoment t o new
enrolled_moment t b n o new e begun = goes_on_moment t o new e.between (ap (begins_at t) e.free ∙ ap (at_rest t) e.last) begun

-- ---------------------------------------------------------------- the start

abbrev pub begun_as : Machine → Way → Tally → Machine
begun_as w y u = record w { course = record w.course { way = y; tally = u } }

pub unstarted_moment : (w : Machine) (y : Way) (x : Tally) (o : Order) (new : Machine) → IsWhole w → w.last ≡ None
    → Begun (begun_as w y x) (goes_on_to (begun_as w y x)) o new → IsMoment (begun_as w y x) o new
unstarted_moment w y x o new whole none begun =
    let u : IsUnstarted w = subst (Pending w) none whole in
    let calm : w.silent < most_silent Fresh = rw u.fresh at (rw u.opening at u.ready.calm) in
    goes_on_moment (begun_as w y x) o new (record {
      tries = u.ready.tries;
      silent = most y calm;
      going = ap closing_of u.opening;
      unnamed = λ r e. cc (sym u.free ∙ e);
      found = λ r b e. absurd (cc (sym u.free ∙ e));
    }) (ap (begins_at (begun_as w y x)) u.free ∙ ap (at_rest (begun_as w y x)) none) begun where
      most : (y : Way) → w.silent < most_silent Fresh → w.silent < most_silent y
      most Fresh less = less
      most Surveying less = omega arith

-- ---------------------------------------------------------------- what a moment gives

pub moment_ordered : (t : Machine) (o : Order) (new : Machine) → IsMoment t o new → IsOrdered t o
moment_ordered t o new m = subst (λ c. IsOrderedTo t c o) m.course m.next.order

pub moment_state : (t : Machine) (o : Order) (new : Machine) → IsMoment t o new → new ≡ machine_ordered t o
moment_state t o new m = m.next.state ∙ ap (λ c. machine_ordered_on t c o) m.course

-- ---------------------------------------------------------------- what begins by a test

-- gear do not draw if no address is open
pub none_drawn : (t : Machine) → None ≡ least_open t.kept t.heard → may_draw t ≡ false
none_drawn t none = rw (← none) (go (nat_lt t.course.tally.draws 3)) where
  go : (b : Bool) → (b && false) ≡ false
  go true = refl
  go false = refl

-- short addresses are asked again: gear are searched no longer
abbrev asking_state : State → Tally → State
asking_state s y = record s { leg = leg.Asking 0 0; tally = y }

again_on : (s : State) (k : Kept) (l : Leg) (y : Tally) (o : Order) (new : Machine) → l ≡ leg.Hunting (ascent_on l) → y ≡ asked_again s.tally
    → Begun (machine_with (asking_state s y) k) (ask_or_call (course_of (asking_state s y)) (next_asked k 0)) o new
    → Begun (machine_with (record s { leg = l }) k) (asking_again k (course_of (record s { leg = l }))) o new
again_on s k (leg.Hunting a) y o new hunting tally b = counts (next_asked k 0) (rw tally at b) where
  d : Course
  d = course_of (asking_state s (asked_again s.tally))

  -- whether a short address is asked or the roll is called, no silence was counted
  counts : (next : Option ℕ) → Begun (machine_with (asking_state s (asked_again s.tally)) k) (ask_or_call d next) o new
      → Begun (machine_with (record s { leg = leg.Hunting a }) k) (ask_or_call d next) o new
  counts None e = record { order = e.order; state = e.state; knows = e.knows }
  counts (Some n) e = record { order = e.order; state = e.state; knows = e.knows }
again_on s k _ y o new hunting tally b = absurd (cc)

pub full_asks : (s : State) (k : Kept) (y : Tally) (o : Order) (new : Machine) → s.leg ≡ leg.Hunting (ascent_on s.leg) → asks_again (machine_with s k) ≡ true
    → y ≡ asked_again s.tally → Begun (machine_with (asking_state s y) k) (ask_or_call (course_of (asking_state s y)) (next_asked k 0)) o new
    → Begun (machine_with s k) (full (machine_with s k) (course_of s)) o new
full_asks s k y o new hunting is tally b = rw is (again_on s k s.leg y o new hunting tally b)

-- ---------------------------------------------------------------- no gear is left

unasked_beginning : (c : Course) (sent : SearchAddress) (left : ℕ) → is_hunting c.purpose ≡ false → beginning c ≡ question c sent left
unasked_beginning c sent left none = rw none

full_other : (t : Machine) (c : Course) → is_hunting (full t c).purpose ≡ false
full_other t c = let other = λ (d : Course). is_hunting d.purpose ≡ false in either other (asks_again t) (asks_again_with other t.kept c refl (λ a. refl)) refl

left_other : (t : Machine) (c : Course) → is_hunting (nobody_left t c).purpose ≡ false
left_other t c =
    let other = λ (d : Course). is_hunting d.purpose ≡ false in
    either other (c.ascent.found == 0)
    (either other (has_open t) (either other (nat_lt c.tally.draws 3) refl (either other c.tally.is_heard refl refl)) (full_other t c)) refl

-- after the last no of a hunt
abbrev hunting_state : State → Ascent → State
hunting_state s a = record s { leg = leg.Hunting a }

left_on : (s : State) (k : Kept) (l : Leg) (a b : Ascent) (h : Answer) (sent : SearchAddress) (left : ℕ) (o : Order) (new : Machine) → l ≡ leg.Hunting a
    → b ≡ ascended a (is_yes h) → leads_to b ≡ Nobody
    → Begun (machine_with (hunting_state s b) k) (nobody_left (machine_with (hunting_state s b) k) (course_of (hunting_state s b))) o new
    → AsksNext (machine_with (record s { leg = l }) k) (hunted_in (machine_with (record s { leg = l }) k) h) sent left o new
left_on s k l a b h sent left o new is told nobody begun =
    rw is (subst (λ z. AsksNext w (hunted_to w z (hunted w.course h)) sent left o new) (sym (ap leads_to (sym told) ∙ nobody)) (go (rw told at begun))) where
      w : Machine
      w = machine_with (hunting_state s a) k

      c : Course
      c = hunted w.course h

      go : Begun (machine_with (hunting_state s (ascended a (is_yes h))) k)
          (nobody_left (machine_with (hunting_state s (ascended a (is_yes h))) k) (course_of (hunting_state s (ascended a (is_yes h))))) o new
          → AsksNext w (nobody_left w c) sent left o new
      go e = record { order = e.order ∙ unasked_beginning (nobody_left w c) sent left (left_other w c); state = e.state; knows = e.knows }

pub left_asks : (s : State) (k : Kept) (a b : Ascent) (h : Answer) (sent : SearchAddress) (left : ℕ) (o : Order) (new : Machine) → s.leg ≡ leg.Hunting a
    → b ≡ ascended a (is_yes h) → leads_to b ≡ Nobody
    → Begun (machine_with (hunting_state s b) k) (nobody_left (machine_with (hunting_state s b) k) (course_of (hunting_state s b))) o new
    → AsksNext (machine_with s k) (hunted_in (machine_with s k) h) sent left o new
left_asks s k a b h sent left o new is told nobody begun = left_on s k s.leg a b h sent left o new is told nobody begun

-- a question after a start: the search is the one that was answered
searched_on : (s : State) (k : Kept) (l : Leg) (x y : Search) (step : Step) (o : Order) (new : Machine) → l ≡ leg.Searching x
    → Begun (machine_with (record s { leg = leg.Searching y }) k) (after_step step (course_of (record s { leg = leg.Searching y }))) o new
    → Begun (machine_with (record s { leg = l }) k) (after_step step (record (course_of (record s { leg = l })) { search = y })) o new
searched_on s k l x y step o new is begun =
    rw is (go step begun) where
      go : (step : Step) → Begun (machine_with (record s { leg = leg.Searching y }) k) (after_step step (course_of (record s { leg = leg.Searching y }))) o new
          → Begun (machine_with (record s { leg = leg.Searching x }) k)
          (after_step step (record (course_of (record s { leg = leg.Searching x })) { search = y })) o new
      go Again b = record { order = b.order; state = b.state; knows = b.knows }
      go (Found r) b = record { order = b.order; state = b.state; knows = b.knows }
      go Nobody b = record { order = b.order; state = b.state; knows = b.knows }

pub searched_begun : (s : State) (k : Kept) (x y : Search) (step : Step) (o : Order) (new : Machine) → s.leg ≡ leg.Searching x
    → Begun (machine_with (record s { leg = leg.Searching y }) k) (after_step step (course_of (record s { leg = leg.Searching y }))) o new
    → Begun (machine_with s k) (after_step step (record (course_of s) { search = y })) o new
searched_begun s k x y step o new is begun = searched_on s k s.leg x y step o new is begun

pub probed_state : (s : State) (k : Kept) (x y : Search) (r : SearchAddress) (h : Answer) (said : Bool) (step : Step) (o : Order) (new : Machine)
    → IsHeard (machine_with s k) (Probed r h) → s.leg ≡ leg.Searching x → said ≡ is_yes h → (x.step ≡ Again → y ≡ answered x said) → y.step ≡ step
    → (x.step ≡ Again → step ≡ Nobody → (said ≡ false) × (x.probe ≡ 0xFFFFFE))
    → Begun (machine_with (record s { leg = leg.Searching y }) k) (after_step step (course_of (record s { leg = leg.Searching y }))) o new
    → IsMoment (machine_with s k) o new
probed_state s k x y r h said step o new heard is says told leads nobody begun =
    probed_moment t r h y step o new heard (told running ∙ ap (λ (z : Search). answered z said) (sym here) ∙ ap (answered t.course.search) says) leads
    (λ e. let n = nobody running e in (sym says ∙ n.0, ap (λ (z : Search). z.probe) here ∙ n.1)) (searched_begun s k x y step o new is begun) where
      t : Machine
      t = machine_with s k

      here : t.course.search ≡ x
      here = ap search_on is

      probing : Knows t.course.way t.kept t.course.number t.course.search t.course.ascent t.course.opened Probing
      probing = subst (Knows t.course.way t.kept t.course.number t.course.search t.course.ascent t.course.opened) heard.arrived.0 heard.knows

      running : x.step ≡ Again
      running = ap (λ (z : Search). z.step) (sym here) ∙ probing.2

-- ---------------------------------------------------------------- after a visit that failed, by tests

pub silenced_closes : (t : Machine) (o : Order) (new : Machine) → t.silent ≡ most_silent t.course.way → Begun t (closing t.course GaveUp) o new
    → Begun t (silenced t) o new
silenced_closes t o new is begun = let same : (t.silent == most_silent t.course.way) ≡ true = grind (arith, nat_tests) in rw same begun

pub silenced_anew : (t : Machine) (y : Way) (o : Order) (new : Machine) → (t.silent ≡ most_silent t.course.way → ⊥) → t.course.way ≡ y
    → Begun t (silenced_on t y) o new → Begun t (silenced t) o new
silenced_anew t y o new more way begun = rw (ne_eqb t.silent (most_silent t.course.way) more) (subst (λ z. Begun t (silenced_on t z) o new) (sym way) begun)

-- if gear are not searched in a survey, a visit is one of a start
pub visited_leg : (l : Leg) (k : Kept) (n : SearchAddress)
    → ((x : ℕ) × (l ≡ leg.Revisiting x)) ⊎ (((x : ℕ) × (y : ℕ) × (l ≡ leg.Asking x y)) ⊎ ((x : Search) × (l ≡ leg.Searching x)))
    → Knows (way_on l) k n (search_on l) (ascent_on l) (is_searching l) Visiting → way_on l ≡ Fresh
visited_leg l k n (inl is) knows = ap way_on is.1
visited_leg l k n (inr (inl is)) knows =
    absurd (let no : false ≡ true = (subst (λ (l : Leg). Knows (way_on l) k n (search_on l) (ascent_on l) (is_searching l) Visiting) is.2 knows).1 in cc)
visited_leg l k n (inr (inr is)) knows = ap way_on is.1

pub failed_visit : (t : Machine) (r : SearchAddress) → IsHeard t (Unanswered r) ⊎ ((other : Option ℕ) × IsHeard t (Inconclusive r other)) → KnowsFor t Visiting
failed_visit t r (inl h) = subst (KnowsFor t) h.arrived.0 h.knows
failed_visit t r (inr x) = subst (KnowsFor t) x.1.arrived.0 x.1.knows
