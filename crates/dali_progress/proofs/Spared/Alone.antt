use Rattle.dali_progress.proofs.Below.{◌≡◌, ℕ, ◌+◌, Bool, true, false, List, [], ◌∷◌, inr, refl, sym, ap, subst, ◌∙◌, zero, suc, Some, ◌&&◌, Answer, Forward}
use Rattle.dali_progress.proofs.Below.{command_of, Command, Gear, draws_a_number, takes, one_after, left_after, row_after, Reach, Everyone, due_after, accepts}
use Rattle.dali_progress.proofs.Below.{frame_put, Has, Input, Order, Machine, Allowed, IsDue, happens, gear_of, World, Controller, controller_at, gear_at}
use Rattle.dali_progress.proofs.Below.{Event, Used, Waits, SiteState, world, site_logged, WasOrdered, records_now, IsAlone, IsOfRound, Succeeds, Rounds}
use Rattle.dali_progress.proofs.Below.{most_frames, BySurvey, bare, IsOfCall, AreOfCalls, HasJustBegun, AsksInPeace, HavePower, AllAskInPeace}
use Rattle.dali_events.specs.declared.event.Event.TheVariants as event
use Rattle.dali_progress.proofs.{Along.{Runs, runs_on}, Logged.world_logged, Lone.{due_of, Moment, lone_next, acts_by}, Survey.Goes.{of_survey, argument}}
use Rattle.dali_progress.proofs.{Survey.Goes.{began_at, starts}, Survey.Stands.Begun}

-- A SURVEY THAT NOTHING DISTURBS asks in peace, if all used gear have power.

-- ---------------------------------------------------------------- power stays

power_taken : (reach : Reach) (x : Command) (k : ℕ) (gs : List Gear) (left : List ℕ) (j : ℕ)
    → (gear_of (row_after reach x k gs left) j).powered ≡ (gear_of gs j).powered
power_taken reach x k [] left j = refl
power_taken reach x k (g ∷ gs) left zero = go (takes reach k g) where
  go : (b : Bool) → (one_after b x left g).powered ≡ g.powered
  go true = refl
  go false = refl
power_taken reach x k (g ∷ gs) left (suc j) = power_taken reach x (k + 1) gs (left_after (takes reach k g && draws_a_number x g) left) j

power_moved : (s : SiteState) (c : ℕ) (e : Event) → IsOfRound true s c e → HavePower s → (u : Used) → Has s.plan.used u
    → (gear_at (happens (world s) e) u.gear).powered ≡ true
power_moved s c (event.Acted d i o) of power u has = power u has
power_moved s c (event.Sent d f h) of power u has = power_taken Everyone (command_of f) 0 (world s).gear (world s).left u.gear ∙ power u has
power_moved s c _ of power u has = absurd of

power_on : (s : SiteState) (c : ℕ) (e : Event) → IsOfRound true s c e → HavePower s → HavePower (site_logged s e)
power_on s c e of power u has = subst (λ (w : World). (gear_at w u.gear).powered ≡ true) (sym (world_logged s e)) (power_moved s c e of power u has)

-- ---------------------------------------------------------------- what it is due

due_waits : (w : World) (q c : ℕ) (m : Machine) (k : Controller) (i : Input) → Moment w q c m k.outstanding k.last k.told → Succeeds true i → IsDue k i
    → accepts (due_after k.last) i ≡ true
due_waits w q c m k i at good due =
    acts_by true (λ l t j. accepts (due_after l) j ≡ true) refl (λ p f h. refl) (λ x. refl) w q c m k.outstanding k.last k.told i at (due_of k i due) good

-- ---------------------------------------------------------------- each event

acted_call : (start : Begun) (s : SiteState) (c left d : ℕ) (i : Input) (o : Order) → Runs (of_survey start) s c left → Allowed (world s) (event.Acted d i o)
    → IsOfRound true s c (event.Acted d i o) → IsOfCall s (event.Acted d i o)
acted_call start s c left d i o u here of =
    subst (λ n. Allowed (world s) (event.Acted n i o) → IsOfCall s (event.Acted n i o)) (sym of.0) (λ now. (
      subst (λ m. Waits m i) (sym u.there) (ap (λ l. accepts (due_after l) i) u.goes.lone.last
          ∙ due_waits (world s) s.queue c u.machine (controller_at (world s) c) i u.goes.lone.moment of.1 now.due),
      of.2,
      of.3 refl,
    )) here

sent_call : (start : Begun) (s : SiteState) (c left d : ℕ) (f : Forward) (h : Answer) → Runs (of_survey start) s c left → IsOfRound true s c (event.Sent d f h)
    → IsOfCall s (event.Sent d f h)
sent_call start s c left d f h u of =
    let put = lone_next (world s) s.queue c u.machine of.0 u.goes.lone of.1 in
    subst (λ n. WasOrdered s n f) (sym (of.2 ∙ put.3)) (inr (ap frame_put (sym u.goes.lone.last ∙ put.1) ∙ ap (λ g. Some g) (sym of.3)))

call_of : (start : Begun) (s : SiteState) (c left : ℕ) (e : Event) → Runs (of_survey start) s c left → Allowed (world s) e → IsOfRound true s c e → IsOfCall s e
call_of start s c left (event.Acted d i o) u here of = acted_call start s c left d i o u here of
call_of start s c left (event.Sent d f h) u here of = sent_call start s c left d f h u of
call_of start s c left _ u here of = absurd of

peace_of : (s : SiteState) (c : ℕ) (e : Event) → HavePower s → IsOfRound true s c e → AsksInPeace s c e
peace_of s c (event.Acted d i o) power of = λ same start. subst (Succeeds true) start of.1
peace_of s c (event.Sent d f h) power of = λ u same has within asks. (power u has, of.4)
peace_of s c _ power of = absurd of

all_in_peace : (start : Begun) (s : SiteState) (c left : ℕ) (es : List Event) → Runs (of_survey start) s c left → HavePower s → Rounds true s c es
    → AreOfCalls s es × AllAskInPeace s c es
all_in_peace start s c left [] u power rounds = (tt, tt)
all_in_peace start s c left (e ∷ es) u power rounds =
    let on = runs_on (of_survey start) (argument start) s c left e u rounds.0 rounds.1 in
    let rest = all_in_peace start (site_logged s e) c on.rest es on.runs (power_on s c e rounds.1 power) rounds.2 in
    ((rounds.0, call_of start s c left e u rounds.0 rounds.1, rest.0), (peace_of s c e power rounds.1, rest.1))

-- ALONE AND UNDISTURBED it meets what is supposed of it
pub alone_in_peace : (s : SiteState) (c : ℕ) (es : List Event) → IsAlone s c → HavePower s → Rounds true s c es
    → HasJustBegun s c × AreOfCalls s es × AllAskInPeace s c es
alone_in_peace s c es a power rounds =
    let all = all_in_peace (began_at s c) s c (most_frames BySurvey (bare s)) es (starts s c a) power rounds in
    (record { told = a.told; last = a.last; machine = a.machine; block = (records_now s.plan s.queue s.log a.run).block c a.up.known }, all.0, all.1)
