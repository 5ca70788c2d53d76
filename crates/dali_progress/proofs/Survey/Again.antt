use Rattle.dali_progress.proofs.Below.{true, false, ◌≡◌, ℕ, ◌<◌, List, [], refl, sym, ap, subst, ◌∙◌, length, length-set, get_or-set_same, Some, None}
use Rattle.dali_progress.proofs.Below.{if◌then◌else◌, ◌∷◌, Option, AllByRecursion, Arbiter, idle, bus_silenced, owns, End, Input, Order, Commit, Record, Kept}
use Rattle.dali_progress.proofs.Below.{Machine, at_first, IsUp, IsDown, Allowed, IsDue, IsCommit, happens, gone_down, come_up, kept_after, IsRun, World}
use Rattle.dali_progress.proofs.Below.{Controller, controller_at, nobody, Event, machine_in, SiteState, world, site_logged, machines, machine_at, site_after}
use Rattle.dali_progress.proofs.Below.{HasEnded, IsAlone, restarted, Rounds, BySurvey, IsOfRound, most_frames, bare, CommitsNothing, NamesAll, table_at, Answer}
use Rattle.dali_progress.proofs.{Below.Forward, Beginnings.{runs_after, named}, Logged.{world_logged, run_logged, machines_logged, some_within}, Lone.still}
use Rattle.dali_progress.proofs.{Lone.{Rests, acted_there, sent_there, lone_next}, Survey.Goes.{EndsBy, ended_by, of_survey, argument, began_at, starts}}
use Rattle.dali_progress.proofs.{Survey.Stands.Begun, Along.{Runs, runs_on}, Later.some_same}
use Rattle.dali_events.specs.declared.event.Event.TheVariants as event
use Rattle.dali_script.specs.declared.orders.Input.TheVariants as input

-- A CONTROLLER THAT ENDED A SURVEY, and comes up again, surveys alone once more.

-- ---------------------------------------------------------------- the world

down_there : (w : World) (c : ℕ) → IsUp w c → controller_at (happens w (event.Down c)) c ≡ gone_down (controller_at w c)
down_there w c up = get_or-set_same w.controllers c (gone_down (controller_at w c)) nobody up.known

down_known : (w : World) (c : ℕ) → IsUp w c → c < length (happens w (event.Down c)).controllers
down_known w c up = subst (λ n. c < n) (sym (length-set w.controllers c (gone_down (controller_at w c)))) up.known

down_is : (w : World) (c : ℕ) → IsUp w c → IsDown (happens w (event.Down c)) c
down_is w c up = record { known = down_known w c up; down = ap (λ (k : Controller). k.up) (down_there w c up) }

up_there : (w : World) (c : ℕ) → c < length w.controllers → controller_at (happens w (event.Up c false)) c ≡ come_up false (controller_at w c)
up_there w c known = get_or-set_same w.controllers c (come_up false (controller_at w c)) nobody known

-- the controller once it is up again
comes_up : (w : World) (c : ℕ) → IsUp w c
    → controller_at (happens (happens w (event.Down c)) (event.Up c false)) c ≡ come_up false (gone_down (controller_at w c))
comes_up w c up = up_there (happens w (event.Down c)) c (down_known w c up) ∙ ap (come_up false) (down_there w c up)

still_silent : (q c : ℕ) → bus_silenced (still q None) c ≡ idle q
still_silent q c = refl

bus_again : (w : World) (q c : ℕ) → Rests w q → (happens (happens w (event.Down c)) (event.Up c false)).bus ≡ idle q
bus_again w q c rests = ap (λ b. bus_silenced b c) rests.0 ∙ still_silent q c

trace_again : (w : World) (q c : ℕ) → Rests w q → (happens (happens w (event.Down c)) (event.Up c false)).trace ≡ []
trace_again w q c rests = ap (λ (b : Arbiter). if owns b.owner c then [] else w.trace) rests.0 ∙ rests.1

-- ---------------------------------------------------------------- the site

world_again : (s : SiteState) (c : ℕ) → world (restarted s c) ≡ happens (happens (world s) (event.Down c)) (event.Up c false)
world_again s c = world_logged (site_logged s (event.Down c)) (event.Up c false) ∙ ap (λ w. happens w (event.Up c false)) (world_logged s (event.Down c))

again_there : (s : SiteState) (c : ℕ) → IsUp (world s) c → controller_at (world (restarted s c)) c ≡ come_up false (gone_down (controller_at (world s) c))
again_there s c up = ap (λ w. controller_at w c) (world_again s c) ∙ comes_up (world s) c up

machine_again : (s : SiteState) (c : ℕ) (m : Machine) → machine_at s c ≡ Some m → IsUp (world s) c
    → machine_at (restarted s c) c ≡ Some (at_first c (controller_at (world s) c).records)
machine_again s c m there up =
    ap (λ ms. machine_in ms c) (machines_logged (site_logged s (event.Down c)) (event.Up c false)) ∙ get_or-set_same (machines (site_logged s (event.Down c))) c
    (Some (at_first c (come_up false (controller_at (world (site_logged s (event.Down c))) c)).records)) None within
    ∙ ap (λ (k : Controller). Some (at_first c k.records)) kept
  where
    within : c < length (machines (site_logged s (event.Down c)))
    within = subst (λ n. c < n) (sym (ap length (machines_logged s (event.Down c)) ∙ length-set (machines s) c None)) (some_within (machines s) c m there)

    kept : controller_at (world (site_logged s (event.Down c))) c ≡ gone_down (controller_at (world s) c)
    kept = ap (λ w. controller_at w c) (world_logged s (event.Down c)) ∙ down_there (world s) c up

again_by : (s after : SiteState) (c : ℕ) (e : End) → EndsBy s after c e → IsAlone (restarted after c) c
again_by s after c e by =
    let down : IsRun after.plan after.queue (site_logged after (event.Down c)).log = run_logged after (event.Down c) by.run by.up (λ d i a n e has. cc) in
    let there : controller_at (world (restarted after c)) c ≡ come_up false (gone_down (controller_at (world after) c)) = again_there after c by.up in
    record {
      run = run_logged (site_logged after (event.Down c)) (event.Up c false) down
          (subst (λ w. IsDown w c) (sym (world_logged after (event.Down c))) (down_is (world after) c by.up), tt) (λ d i a n e has. cc);
      up = record {
        known = subst (λ (w : World). c < length w.controllers) (sym (world_again after c))
            (subst (λ n. c < n) (sym (length-set (happens (world after) (event.Down c)).controllers c
            (come_up false (controller_at (happens (world after) (event.Down c)) c)))) (down_known (world after) c by.up));
        up = ap (λ (k : Controller). k.up) there;
      };
      told = ap (λ (k : Controller). k.told) there;
      last = ap (λ (k : Controller). k.last) there;
      machine = machine_again after c by.machine by.there by.up ∙ ap (λ (k : Controller). Some (at_first c k.records)) (sym there);
      bus = ap (λ (w : World). w.bus) (world_again after c) ∙ bus_again (world after) after.queue c by.rests;
      trace = ap (λ (w : World). w.trace) (world_again after c) ∙ trace_again (world after) after.queue c by.rests;
    }

ended_so : (s : SiteState) (c : ℕ) (es : List Event) (e : End) → IsAlone s c → Rounds true s c es → HasEnded (site_after s es) c e
    → EndsBy s (site_after s es) c e
ended_so s c es e a rounds ended = let all = runs_after BySurvey s c es a rounds in ended_by s (site_after s es) c all.rest e all.runs ended

pub surveys_again : (s : SiteState) (c : ℕ) (es : List Event) (e : End) → IsAlone s c → Rounds true s c es → HasEnded (site_after s es) c e
    → IsAlone (restarted (site_after s es) c) c
surveys_again s c es e a rounds ended = again_by s (site_after s es) c e (ended_so s c es e a rounds ended)

-- with the records that it kept
pub kept_again : (s : SiteState) (c : ℕ) (es : List Event) (e : End) → IsAlone s c → Rounds true s c es → HasEnded (site_after s es) c e
    → (controller_at (world (restarted (site_after s es) c)) c).records ≡ (controller_at (world (site_after s es)) c).records
kept_again s c es e a rounds ended = ap (λ (k : Controller). k.records) (again_there (site_after s es) c (ended_so s c es e a rounds ended).up)

-- A SURVEY THAT COMMITS NOTHING keeps the records that it began with.

abbrev IsNone : Option Order → Type 0
IsNone last = (x : Record) → last ≡ Some (Commit x) → ⊥

none_due : (k : Controller) (i : Input) → IsNone k.last → IsDue k i → kept_after k i ≡ k.records
none_due k input.Committed none due = go k.last none due where
  go : (last : Option Order) → IsNone last → IsCommit last → kept_after k input.Committed ≡ k.records
  go (Some (Commit x)) none commit = absurd (none x refl)
  go _ none commit = absurd commit
none_due k _ none due = refl

-- one event more
abbrev Keeps : World → World → ℕ → Type 0
Keeps w now c = ((controller_at now c).records ≡ (controller_at w c).records) × IsNone (controller_at now c).last

acted_keeps : (w : World) (c : ℕ) (i : Input) (o : Order) → IsUp w c → IsNone (controller_at w c).last → IsDue (controller_at w c) i
    → ((x : Record) → o ≡ Commit x → ⊥) → Keeps w (happens w (event.Acted c i o)) c
acted_keeps w c i o up none due quiet = (
  ap (λ (k : Controller). k.records) (acted_there w c i o up) ∙ none_due (controller_at w c) i none due,
  λ x e. quiet x (some_same o (Commit x) (sym (ap (λ (k : Controller). k.last) (acted_there w c i o up)) ∙ e)),
)

sent_keeps : (w : World) (c : ℕ) (f : Forward) (h : Answer) → IsUp w c → IsNone (controller_at w c).last → Keeps w (happens w (event.Sent c f h)) c
sent_keeps w c f h up none =
    (ap (λ (k : Controller). k.records) (sent_there w c f h up), λ x e. none x (sym (ap (λ (k : Controller). k.last) (sent_there w c f h up)) ∙ e))

event_keeps : (start : Begun) (s : SiteState) (c left : ℕ) (e : Event) → Runs (of_survey start) s c left → Allowed (world s) e → IsOfRound true s c e
    → CommitsNothing e → IsNone (controller_at (world s) c).last → Keeps (world s) (happens (world s) e) c
event_keeps start s c left (event.Acted d i o) u here of quiet none =
    subst (λ n. Allowed (world s) (event.Acted n i o) → Keeps (world s) (happens (world s) (event.Acted n i o)) c) (sym of.0)
    (λ now. acted_keeps (world s) c i o now.up none now.due (λ x is. quiet d i x (ap (λ q. event.Acted d i q) is))) here
event_keeps start s c left (event.Sent d f h) u here of quiet none =
    let put = lone_next (world s) s.queue c u.machine of.0 u.goes.lone of.1 in
    subst (λ n. Keeps (world s) (happens (world s) (event.Sent n f h)) c) (sym (of.2 ∙ put.3)) (sent_keeps (world s) c f h u.goes.lone.up none)
event_keeps start s c left _ u here of quiet none = absurd of

all_keep : (start : Begun) (s : SiteState) (c left : ℕ) (es : List Event) → Runs (of_survey start) s c left → Rounds true s c es
    → AllByRecursion CommitsNothing es → IsNone (controller_at (world s) c).last
    → (controller_at (world (site_after s es)) c).records ≡ (controller_at (world s) c).records
all_keep start s c left [] u rounds quiet none = refl
all_keep start s c left (e ∷ es) u rounds quiet none =
    let on = runs_on (of_survey start) (argument start) s c left e u rounds.0 rounds.1 in
    let keeps : Keeps (world s) (world (site_logged s e)) c =
    subst (λ w. Keeps (world s) w c) (sym (world_logged s e)) (event_keeps start s c left e u rounds.0 rounds.1 quiet.0 none) in
    all_keep start (site_logged s e) c on.rest es on.runs rounds.2 quiet.1 keeps.1 ∙ keeps.0

pub quiet_tabled : (s : SiteState) (c : ℕ) (es : List Event) (e : End) → IsAlone s c → Rounds true s c es → AllByRecursion CommitsNothing es
    → HasEnded (site_after s es) c e → NamesAll true s (table_at s c) (site_after s es)
quiet_tabled s c es e a rounds quiet ended =
    subst (λ (k : Kept). NamesAll true s k.enrolled (site_after s es))
    (all_keep (began_at s c) s c (most_frames BySurvey (bare s)) es (starts s c a) rounds quiet
    (λ x is. (let never : None ≡ Some (Commit x) = sym a.last ∙ is in cc))) (named BySurvey s c es e a rounds ended)
