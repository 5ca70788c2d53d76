use Rattle.dali_progress.proofs.Below.{◌≡◌, ℕ, Bool, true, false, List, [], ◌∷◌, ◌++◌, refl, sym, subst, ap₂, Option, Some, None, ◌==◌, ◌&&◌, Answer, Silence}
use Rattle.dali_progress.proofs.Below.{Forward, command_of, frame, answers_of, heard_of, Everyone, next, Request, AllFound, Input, first_of_both}
use Rattle.dali_progress.proofs.Below.{second_of_both, equal, Machine, Allowed, happens, World, start, Event, is_allowed, allowed_by, after_more, leaves_none}
use Rattle.dali_progress.proofs.Below.{MayAnswer, machine_in, machines_at, machines_after, SiteState, world, site_logged, machines, machines_more, IsTrueEnd}
use Rattle.dali_progress.proofs.{Below.{Succeeds, IsOfRound, Rounds, site_after, HasEnded, ByStart, BeginsAlone}, Beginnings.ends}
use Rattle.dali_script.specs.declared.orders.Input.TheVariants as input
use Rattle.dali_events.specs.declared.event.Event.TheVariants as event

-- WHAT A SHORT HISTORY SHOWS that breaks what is proved of one controller alone.

-- ---------------------------------------------------------------- rounds, with the world at hand

-- Rounds as a site's log has them begin with the whole log at each event. Here the world and the
-- machines go along, so that a concrete history is computed once; and there are no used gear.
abbrev pub OfRound : World → List (Option Machine) → ℕ → Event → Type 0
OfRound w ms c (event.Acted d i o) = (d ≡ c) × Succeeds false i × MayAnswer (machine_in ms c) i o
OfRound w ms c (event.Sent d f h) =
    (r : Request) × (next w.bus ≡ Some r) × (d ≡ r.sender) × (f ≡ r.frame) × (h ≡ heard_of (answers_of Everyone (command_of f) 0 w.gear))
OfRound w ms c _ = ⊥

abbrev pub Plays : World → List (Option Machine) → ℕ → List Event → Type 0
Plays w ms c [] = Unit {0}
Plays w ms c (e ∷ es) = Allowed w e × OfRound w ms c e × Plays (happens w e) (machines_after w ms e) c es

of_round : (s : SiteState) (c : ℕ) (e : Event) → s.plan.used ≡ [] → OfRound (world s) (machines s) c e → IsOfRound false s c e
of_round s c (event.Acted d i o) none of = (of.0, of.1, of.2, λ never. absurd (cc), leaves_none s.plan (event.Acted d i o) none)
of_round s c (event.Sent d f h) none of = of
of_round s c _ none of = absurd of

pub rounds_by : (s : SiteState) (c : ℕ) (es : List Event) → s.plan.used ≡ [] → Plays (world s) (machines s) c es → Rounds false s c es
rounds_by s c [] none plays = tt
rounds_by s c (e ∷ es) none plays = (
  plays.0,
  of_round s c e none plays.1,
  rounds_by (site_logged s e) c es none (subst (λ w. Plays w (machines (site_logged s e)) c es) (sym (after_more (start s.plan s.queue) s.log e))
      (subst (λ ms. Plays (happens (world s) e) ms c es) (sym (machines_more (start s.plan s.queue) (machines_at 0 s.plan.blocks) s.log e)) plays.2)),
)

-- ---------------------------------------------------------------- rounds by a test

-- What a machine gives is told order by order. All else is tested: that an event is allowed, and that it is of a round, with a
-- frame after which nothing is heard.
abbrev pub Gives : World → List (Option Machine) → ℕ → List Event → Type 0
Gives w ms c [] = Unit {0}
Gives w ms c (event.Acted d i o ∷ es) = MayAnswer (machine_in ms c) i o × Gives (happens w (event.Acted d i o)) (machines_after w ms (event.Acted d i o)) c es
Gives w ms c (e ∷ es) = Gives (happens w e) (machines_after w ms e) c es

abbrev pub succeeds : Input → Bool
succeeds input.CommitFailed = false
succeeds input.Survey = false
succeeds _ = true

succeeds_by : (i : Input) → succeeds i ≡ true → Succeeds false i
succeeds_by input.CommitFailed e = absurd (cc)
succeeds_by input.Survey e = absurd (cc)
succeeds_by _ e = tt

abbrev pub same_frame : Forward → Forward → Bool
same_frame f g = (f.address_byte == g.address_byte) && (f.opcode_byte == g.opcode_byte)

frame_by : (f g : Forward) → same_frame f g ≡ true → f ≡ g
frame_by f g e =
    ap₂ {B = ℕ} {C = Forward} (λ address byte. frame address byte) (equal f.address_byte g.address_byte (first_of_both _ _ e))
    (equal f.opcode_byte g.opcode_byte (second_of_both _ _ e))

abbrev pub is_next : Option Request → ℕ → Forward → Bool
is_next None d f = false
is_next (Some r) d f = (d == r.sender) && same_frame f r.frame

next_by : (o : Option Request) (d : ℕ) (f : Forward) → is_next o d f ≡ true → (r : Request) × (o ≡ Some r) × (d ≡ r.sender) × (f ≡ r.frame)
next_by None d f e = absurd (cc)
next_by (Some r) d f e = (r, refl, equal d r.sender (first_of_both _ _ e), frame_by f r.frame (second_of_both _ _ e))

abbrev pub is_silence : Answer → Bool
is_silence Silence = true
is_silence _ = false

both_silent : (h k : Answer) → (is_silence h && is_silence k) ≡ true → h ≡ k
both_silent Silence Silence e = refl
both_silent _ _ e = absurd (cc)

abbrev pub is_quiet : World → Forward → Answer → Bool
is_quiet w f h = is_silence h && is_silence (heard_of (answers_of Everyone (command_of f) 0 w.gear))

abbrev pub is_of_round : World → ℕ → Event → Bool
is_of_round w c (event.Acted d i o) = (d == c) && succeeds i
is_of_round w c (event.Sent d f h) = is_next (next w.bus) d f && is_quiet w f h
is_of_round w c _ = false

abbrev pub passes : World → ℕ → List Event → Bool
passes w c [] = true
passes w c (e ∷ es) = (is_of_round w c e && is_allowed w e) && passes (happens w e) c es

pub plays_by : (w : World) (ms : List (Option Machine)) (c : ℕ) (es : List Event) → passes w c es ≡ true → Gives w ms c es → Plays w ms c es
plays_by w ms c [] pass given = tt
plays_by w ms c (event.Acted d i o ∷ es) pass given =
    let now : (is_of_round w c (event.Acted d i o) && is_allowed w (event.Acted d i o)) ≡ true = first_of_both _ _ pass in
    let round : ((d == c) && succeeds i) ≡ true = first_of_both _ _ now in (
      allowed_by w (event.Acted d i o) (second_of_both _ _ now),
      (equal d c (first_of_both _ _ round), succeeds_by i (second_of_both _ _ round), given.0),
      plays_by (happens w (event.Acted d i o)) (machines_after w ms (event.Acted d i o)) c es (second_of_both _ _ pass) given.1,
    )
plays_by w ms c (event.Sent d f h ∷ es) pass given =
    let now : (is_of_round w c (event.Sent d f h) && is_allowed w (event.Sent d f h)) ≡ true = first_of_both _ _ pass in
    let round : (is_next (next w.bus) d f && is_quiet w f h) ≡ true = first_of_both _ _ now in
    let request = next_by (next w.bus) d f (first_of_both _ _ round) in (
      allowed_by w (event.Sent d f h) (second_of_both _ _ now),
      (request.0, request.1, request.2, request.3, both_silent h (heard_of (answers_of Everyone (command_of f) 0 w.gear)) (second_of_both _ _ round)),
      plays_by (happens w (event.Sent d f h)) (machines_after w ms (event.Sent d f h)) c es (second_of_both _ _ pass) given,
    )
plays_by w ms c (_ ∷ es) pass given = absurd (cc)

-- ---------------------------------------------------------------- the statement

-- the site after events of rounds, one event, and events of rounds again
abbrev pub after_both : SiteState → List Event → Event → List Event → SiteState
after_both s front e back = site_after (site_logged (site_after s front) e) back

-- ONE EVENT that is allowed, among events that are all of rounds; and an untrue end.
pub record BreaksEnd (s : SiteState) (c : ℕ) (front : List Event) (e : Event) (back : List Event) : Type 0 where
  pub starts : BeginsAlone ByStart s c
  pub before : Rounds false s c front
  pub allowed : Allowed (world (site_after s front)) e
  pub afterwards : Rounds false (site_logged (site_after s front) e) c back
  pub ended : HasEnded (after_both s front e back) c AllFound
  pub untrue : IsTrueEnd ByStart s (after_both s front e back) c AllFound → ⊥

-- then that event is of no round
joined : (s : SiteState) (c : ℕ) (front : List Event) (e : Event) (back : List Event) → Rounds false s c front → Allowed (world (site_after s front)) e
    → IsOfRound false (site_after s front) c e → Rounds false (site_logged (site_after s front) e) c back → Rounds false s c (front ++ e ∷ back)
joined s c [] e back before allowed of afterwards = (allowed, of, afterwards)
joined s c (x ∷ front) e back before allowed of afterwards = (before.0, before.1, joined (site_logged s x) c front e back before.2 allowed of afterwards)

after_joined : (s : SiteState) (front : List Event) (e : Event) (back : List Event) → site_after s (front ++ e ∷ back) ≡ after_both s front e back
after_joined s [] e back = refl
after_joined s (x ∷ front) e back = after_joined (site_logged s x) front e back

pub is_of_no_round : (s : SiteState) (c : ℕ) (front : List Event) (e : Event) (back : List Event) → BreaksEnd s c front e back
    → IsOfRound false (site_after s front) c e → ⊥
is_of_no_round s c front e back b of =
    b.untrue (subst (λ t. IsTrueEnd ByStart s t c AllFound) (after_joined s front e back)
    (ends ByStart s c (front ++ e ∷ back) AllFound b.starts (joined s c front e back b.before b.allowed of b.afterwards)
    (subst (λ t. HasEnded t c AllFound) (sym (after_joined s front e back)) b.ended)))
