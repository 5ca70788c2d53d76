use Rattle.std.proofs.Common.{◌≡◌, ℕ, ◌+◌, ◌<◌, ◌≤◌, Bool, true, false, List, [], ◌∷◌, ◌++◌, refl, sym, ap, ◌∙◌, arith, length, Option, Some, None, ◌==◌}
use Rattle.std.proofs.Common.{if◌then◌else◌, zero, suc, slice_set, is_none, nat_eq}
use Rattle.std.proofs.lemmas.{Bool.Decides.nat_tests, List.length-map, List.get_or_past, List.set_past}
use Rattle.std.specs.Option.{option_eq}
use Rattle.dali_events.specs.{Allowed.Allowed, Events.whose_step, Events.is_step_of, Happens.happens, Plan.Plan, Runs.AllAllowed, Runs.IsRun}
use Rattle.dali_events.specs.World.{World, controller_at, nobody, start}
use Rattle.dali_events.{specs.declared.event.Event.Event, specs.declared.trouble.Trouble.Trouble, proofs.Invariant.Controllers.controllers_count}
use Rattle.dali_events.specs.declared.event.Event.TheVariants as event
use Rattle.dali_standing.specs.declared.report.Report.{Report}
use Rattle.dali_standing.specs.declared.report.Report.TheVariants as report
use Rattle.dali_world.specs.Site.{SiteState, share_of, site_logged, Logs, Pumps}
use Rattle.dali_line.specs.{Commits.state_of, Counts.others_of, Counts.counts_of, Found.events_in, Shares.Tally, Shares.total_of, Shares.count_at}
use Rattle.dali_line.specs.{Shares.raised, Shares.raised_driver, declared.commits.CommitState.CommitState, declared.commits.CommitState.TheVariants.Settled}

-- A LOG GROWS BY ONE EVENT, and so does one of its five shares.

share_more : (c : ℕ) (es : List Event) (e : Event) → share_of c (es ++ e ∷ []) ≡ share_of c es + (if is_step_of c e then 1 else 0)
share_more c [] e = omega arith
share_more c (f ∷ es) e = let more = share_more c es e in rw more (omega arith)

others_more : (es : List Event) (e : Event) → others_of (es ++ e ∷ []) ≡ others_of es + (if is_none (whose_step e) then 1 else 0)
others_more [] e = omega arith
others_more (f ∷ es) e = let more = others_more es e in rw more (omega arith)

-- the shares after an event that is a step (true), or is not
counted : (c : ℕ) (es : List Event) (e : Event) (b : Bool) → is_step_of c e ≡ b → share_of c (es ++ e ∷ []) ≡ share_of c es + (if b then 1 else 0)
counted c es e b is = share_more c es e ∙ ap (λ (x : Bool). share_of c es + (if x then 1 else 0)) is

uncounted : (c : ℕ) (es : List Event) (e : Event) → is_step_of c e ≡ false → share_of c (es ++ e ∷ []) ≡ share_of c es
uncounted c es e nobodys = let more = counted c es e false nobodys in omega arith

tallies : (a b c d e a' b' c' d' e' : ℕ) → a ≡ a' → b ≡ b' → c ≡ c' → d ≡ d' → e ≡ e'
    → ◌≡◌ {A = Tally} (record { first = a; second = b; third = c; fourth = d; driver = e })
    (record { first = a'; second = b'; third = c'; fourth = d'; driver = e' })
tallies a b c d e a' b' c' d' e' p q r s t = cc

-- whether an event is a step of controller d, by whose step it is
by_step : (e : Event) (who : Option ℕ) → whose_step e ≡ who → (d : ℕ) → is_step_of d e ≡ option_eq nat_eq who (Some d)
by_step e who is d = ap (λ x. option_eq nat_eq x (Some d)) is

-- a step of controller c
pub counts_step : (log : List Event) (e : Event) (c : ℕ) → c < 4 → whose_step e ≡ Some c → raised (counts_of log) c ≡ counts_of (log ++ e ∷ [])
counts_step log e c there step = sym (go c there (by_step e (Some c) step)) where
  others : others_of (log ++ e ∷ []) ≡ others_of log
  others = let more = others_more log e in rw step at more ∙ omega arith

  go : (c : ℕ) → c < 4 → ((d : ℕ) → is_step_of d e ≡ (c == d)) → counts_of (log ++ e ∷ []) ≡ raised (counts_of log) c
  go zero there step =
      tallies _ _ _ _ _ _ _ _ _ _ (counted 0 log e true (step 0)) (uncounted 1 log e (step 1)) (uncounted 2 log e (step 2)) (uncounted 3 log e (step 3)) others
  go (suc zero) there step =
      tallies _ _ _ _ _ _ _ _ _ _ (uncounted 0 log e (step 0)) (counted 1 log e true (step 1)) (uncounted 2 log e (step 2)) (uncounted 3 log e (step 3)) others
  go (suc (suc zero)) there step =
      tallies _ _ _ _ _ _ _ _ _ _ (uncounted 0 log e (step 0)) (uncounted 1 log e (step 1)) (counted 2 log e true (step 2)) (uncounted 3 log e (step 3)) others
  go (suc (suc (suc zero))) there step =
      tallies _ _ _ _ _ _ _ _ _ _ (uncounted 0 log e (step 0)) (uncounted 1 log e (step 1)) (uncounted 2 log e (step 2)) (counted 3 log e true (step 3)) others
  go (suc (suc (suc (suc c)))) there step = absurd (omega arith)

-- an event that is nobody's step
pub counts_other : (log : List Event) (e : Event) → whose_step e ≡ None → raised_driver (counts_of log) ≡ counts_of (log ++ e ∷ [])
counts_other log e nobodys =
    let step = by_step e None nobodys in
    sym (tallies _ _ _ _ _ _ _ _ _ _ (uncounted 0 log e (step 0)) (uncounted 1 log e (step 1)) (uncounted 2 log e (step 2)) (uncounted 3 log e (step 3))
    (others_more log e ∙ ap (λ (x : Option ℕ). others_of log + (if is_none x then 1 else 0)) nobodys))

-- the same of two sites, of which the second has one event more
pub step_counted : (old new : SiteState) (t t' : Tally) (e : Event) (c d : ℕ) → t ≡ counts_of old.log → t' ≡ raised t d → c ≡ d → c < 4
    → whose_step e ≡ Some c → new ≡ site_logged old e → t' ≡ counts_of new.log
step_counted old new t t' e c d exact raised_is same there step logged =
    raised_is ∙ ap (raised t) (sym same) ∙ ap (λ (x : Tally). raised x c) exact ∙ counts_step old.log e c there step
    ∙ sym (ap (λ (s : SiteState). counts_of s.log) logged)

pub other_counted : (old new : SiteState) (t t' : Tally) (e : Event) → t ≡ counts_of old.log → t' ≡ raised_driver t → whose_step e ≡ None → Logs old e new
    → t' ≡ counts_of new.log
other_counted old new t t' e exact raised_is nobodys logs =
    raised_is ∙ ap raised_driver exact ∙ counts_other old.log e nobodys ∙ sym (ap (λ (s : SiteState). counts_of s.log) logs.logged)

-- ---------------------------------------------------------------- no event is of a stranger

not_step : (w : World) (e : Event) (c : ℕ) → Allowed w e → length w.controllers ≤ c → is_step_of c e ≡ false
not_step w (event.Acted d i o) c allowed few = let known = allowed.up.known in grind (arith, nat_tests)
not_step w (event.Offered d f) c allowed few = let known = allowed.0.known in grind (arith, nat_tests)
not_step w _ c allowed few = refl

no_steps : (w : World) (log : List Event) (c : ℕ) → AllAllowed w log → length w.controllers ≤ c → share_of c log ≡ 0
no_steps w [] c all few = refl
no_steps w (e ∷ es) c all few =
    let rest = no_steps (happens w e) es c all.1 (rw (controllers_count w e) few) in
    let this = not_step w e c all.0 few in
    rw this (omega arith)

-- a controller that is not there has no share of a run
pub strangers : (p : Plan) (queue : ℕ) (log : List Event) (c : ℕ) → IsRun p queue log → length p.blocks ≤ c → share_of c log ≡ 0
strangers p queue log c run few = no_steps (start p queue) log c run.allowed (rw (length-map p.blocks _) few)

-- what the tally has of a controller is its share, whichever number it has
pub count_at-counts_of : (p : Plan) (queue : ℕ) (log : List Event) (c : ℕ) → IsRun p queue log → length p.blocks ≤ 4
    → count_at (counts_of log) c ≡ share_of c log
count_at-counts_of p queue log zero run few = refl
count_at-counts_of p queue log (suc zero) run few = refl
count_at-counts_of p queue log (suc (suc zero)) run few = refl
count_at-counts_of p queue log (suc (suc (suc zero))) run few = refl
count_at-counts_of p queue log (suc (suc (suc (suc c)))) run few = sym (strangers p queue log (suc (suc (suc (suc c)))) run (omega arith))

-- ---------------------------------------------------------------- each event is in one share, and in one alone

abbrev IsInOne : Event → List Event → Type 0
IsInOne e es = total_of (counts_of (e ∷ es)) ≡ total_of (counts_of es) + 1

of_step : (e : Event) (es : List Event) (d : ℕ) → d < 4 → whose_step e ≡ Some d → IsInOne e es
of_step e es zero there step = rw step (omega arith)
of_step e es (suc zero) there step = rw step (omega arith)
of_step e es (suc (suc zero)) there step = rw step (omega arith)
of_step e es (suc (suc (suc zero))) there step = rw step (omega arith)
of_step e es (suc (suc (suc (suc d)))) there step = absurd (omega arith)

in_one : (w : World) (e : Event) (es : List Event) → Allowed w e → length w.controllers ≤ 4 → IsInOne e es
in_one w (event.Acted d i o) es allowed few = let known = allowed.up.known in of_step (event.Acted d i o) es d (omega arith) refl
in_one w (event.Offered d f) es allowed few = let known = allowed.0.known in of_step (event.Offered d f) es d (omega arith) refl
in_one w _ es allowed few = omega arith

whole_from : (w : World) (log : List Event) → AllAllowed w log → length w.controllers ≤ 4 → total_of (counts_of log) ≡ length log
whole_from w [] all few = refl
whole_from w (e ∷ es) all few =
    let rest = whole_from (happens w e) es all.1 (rw (controllers_count w e) few) in
    let one = in_one w e es all.0 few in
    omega arith

pub whole : (p : Plan) (queue : ℕ) (log : List Event) → IsRun p queue log → length p.blocks ≤ 4 → total_of (counts_of log) ≡ length log
whole p queue log run few = whole_from (start p queue) log run.allowed (rw (length-map p.blocks _) few)

-- ---------------------------------------------------------------- what came of a pump

pub pump_counted : (old new : SiteState) (t t' : Tally) (trouble : Trouble) (r : Report) → t ≡ counts_of old.log → t' ≡ raised_driver t
    → Pumps old trouble r new → (r ≡ report.Idle → ⊥) → t' ≡ counts_of new.log
pump_counted old new t t' trouble report.Idle exact raised_is pumps some = absurd (some refl)
pump_counted old new t t' trouble (report.Sent c f h) exact raised_is pumps some =
    other_counted old new t t' (event.Sent c f h) exact raised_is refl pumps.3.4
pump_counted old new t t' trouble (report.Destroyed c f) exact raised_is pumps some =
    other_counted old new t t' (event.Destroyed c f pumps.3.2.0) exact raised_is refl pumps.3.2.2
pump_counted old new t t' trouble (report.Collided c f d g) exact raised_is pumps some =
    other_counted old new t t' (event.Collided c f d g) exact raised_is refl pumps.3.4

-- ---------------------------------------------------------------- a controller that is not there

pub nobody_there : (w : World) (c : ℕ) → length w.controllers ≤ c → controller_at w c ≡ nobody
nobody_there w c past = get_or_past w.controllers c nobody past

-- ---------------------------------------------------------------- the commits of a controller that is not there

pub no_state : (states : List CommitState) (c : ℕ) → length states ≡ 4 → 4 ≤ c → state_of states c ≡ Settled
no_state states c four past = get_or_past states c Settled (omega arith)

pub no_place : (states : List CommitState) (c : ℕ) (state : CommitState) → length states ≡ 4 → 4 ≤ c → states ≡ slice_set states c state
no_place states c state four past = sym (set_past states c state (omega arith))

pub few_events : (r : Report) → events_in r ≤ 1
few_events report.Idle = omega arith
few_events (report.Sent c f h) = omega arith
few_events (report.Destroyed c f) = omega arith
few_events (report.Collided c f d g) = omega arith
