use Rattle.std.proofs.Common.{◌≡◌, ℕ, ◌<◌, Option, Some, Result, Ok, Err, sym, subst, ap, ◌∙◌, IfSome, IfOk}
use Rattle.dali_frame.specs.Random.{value_of, MASK24}
use Rattle.dali_script.specs.{Records.{Kept, HasRandom, Fits, MayAdd, with_record}, declared.orders.{Input.Input, Order.{Order, TheVariants.Commit}}}
use Rattle.dali_script.{specs.declared.records.Record.{Record, TheVariants.Reserve}, proofs.Lists.{has_last, has_map}}
use Rattle.dali_controller.specs.{Course.Course, Legs.{way_on, is_searching}, Machine.Machine, Next.BeginsWith, Orders.{IsGiven, IsAnswered, IsFollowedAt}}
use Rattle.dali_controller.specs.{Orders.machine_after, States.machine_with, Steps.{IsBefore, with_some, kept_by}, Whole.{IsWhole, IsStoring, IsVisitedOn}}
use Rattle.dali_controller.specs.{Whole.Pending, declared.{purpose.Purpose.TheVariants.Visiting, state.State.State, way.Way.{Way, TheVariants.Fresh}}}
use Rattle.dali_controller.{specs.declared.way.Way.TheVariants.Surveying, proofs.Steps.KnowsFor}
use Rattle.dali_script.specs.declared.orders.Input.TheVariants as input

-- WHAT IS RESERVED FROM NOW ON was drawn.
pub reserved_now : (s : State) (k new : Kept) (a n : ℕ) → IsBefore s k input.Committed new → s.last ≡ Some (Commit (Reserve a n))
    → (n < MASK24) × HasRandom new.reserved n
reserved_now s k new a n before last =
    let stored : IsStoring (machine_with s k) (Reserve a n) = subst (Pending (machine_with s k)) last before.whole in
    let same : new ≡ with_record k (Reserve a n) = before.kept ∙ ap (λ l. with_some k (kept_by l input.Committed)) last in
    (stored.fits.1, rw same (has_map (λ q. q.1) (with_record k (Reserve a n)).reserved (a, n) (has_last k.reserved (a, n))))

-- so its gear may be visited
pub visited_now : (s : State) (k new : Kept) (a n : ℕ) → IsBefore s k input.Committed new → s.last ≡ Some (Commit (Reserve a n))
    → (n < MASK24) × IsVisitedOn (way_on s.leg) new n (is_searching s.leg)
visited_now s k new a n before last =
    let stored : IsStoring (machine_with s k) (Reserve a n) = subst (Pending (machine_with s k)) last before.whole in
    let visiting : KnowsFor (machine_with s k) Visiting = subst (KnowsFor (machine_with s k)) stored.stored stored.ready.knows in
    let there = reserved_now s k new a n before last in
    (there.0, go (way_on s.leg) there.1 visiting.1) where
      go : (y : Way) → HasRandom new.reserved n → IsVisitedOn y k (value_of s.number) (is_searching s.leg) → IsVisitedOn y new n (is_searching s.leg)
      go Fresh there may = λ early. there
      go Surveying there may = may

-- A RECORD THAT AN INPUT SAYS IS KEPT fits, and may be added.
pub kept_may : (s : State) (k : Kept) (i : Input) → IsWhole (machine_with s k) → IfSome (kept_by s.last i) (λ x. Fits k.block x × MayAdd k x)
kept_may s k i whole = go s.last i whole where
  go : (l : Option Order) (i : Input) → Pending (machine_with s k) l → IfSome (kept_by l i) (λ x. Fits k.block x × MayAdd k x)
  go (Some (Commit x)) input.Committed p = (p.fits, p.may)
  go _ _ p = tt

-- WHAT A STEP GIVES, clause by clause
pub given_answered : {E : Type 0} (r : Result Order E) (m : Machine) (i : Input) → IfOk r (λ o. IsGiven m i o) → IfOk r (λ o. IsAnswered m i o)
given_answered (Ok o) m i given = given.answered
given_answered (Err e) m i given = tt

pub given_followed : {E : Type 0} (r : Result Order E) (m : Machine) (i : Input) → IfOk r (λ o. IsGiven m i o) → IfOk r (λ o. IsFollowedAt m i o)
given_followed (Ok o) m i given = given.followed
given_followed (Err e) m i given = tt

pub given_begins : {E : Type 0} (r : Result Order E) (m : Machine) (i : Input) (c : Course) (new : Machine) → IfOk r (λ o. IsGiven m i o)
    → IfOk r (λ o. new ≡ machine_after m i o) → new.course ≡ c → IfOk r (BeginsWith c)
given_begins (Ok o) m i c new given state is = subst (λ d. BeginsWith d o) (sym (ap (λ (n : Machine). n.course) state) ∙ is) given.begins
given_begins (Err e) m i c new given state is = tt

-- the records before a step, and those that it goes by
pub before_is : (s : State) (k new view : Kept) (added : Option Record) (i : Input) → IsWhole (machine_with s k) → added ≡ kept_by s.last i
    → new ≡ with_some k added → view ≡ new → IsBefore s k i view
before_is s k new view added i whole is now shown = record { whole = whole; kept = shown ∙ now ∙ ap (with_some k) is }
