use Rattle.std.proofs.Common.{◌≡◌, ℕ, List, [], ◌∷◌, ◌++◌, Option, Some, None, refl, sym, ap, subst, ◌∙◌, inl, inr}
use Rattle.dali_frame.specs.{Random.value_of, declared.frames.Answer.Answer, declared.frames.Forward.Forward}
use Rattle.dali_special.specs.{Command.command_of, declared.command.Command.TheVariants.Program}
use Rattle.dali_script.specs.{Due.frame_put, Due.record_ordered, Records.Assignment, Records.Has, Records.without_pair, Scripts.Lawful}
use Rattle.dali_script.specs.declared.{block.Block.Block, orders.Input.Input}
use Rattle.dali_script.specs.declared.orders.Input.TheVariants.{Start, Survey, Heard, Destroyed, Lapsed, Committed, CommitFailed}
use Rattle.dali_script.specs.declared.orders.Order.{Order, TheVariants.Put, TheVariants.Commit, TheVariants.Done, TheVariants.Halt}
use Rattle.dali_script.specs.declared.records.Record.{Record, TheVariants.Reserve, TheVariants.Enrol, TheVariants.Release}
use Rattle.dali_script.{specs.declared.trace.Entry.Entry, proofs.Transactions.program_at}
use Rattle.dali_controller.specs.Machine.{Machine, machine_told, machine_heard, machine_committed}
use Rattle.dali_controller.specs.Orders.{IsAnswered, IsAllowed, MayOrderPut}
use Rattle.dali_commissioning.specs.Giving.{IsGiving, Gives, ReserveNothing}
use Rattle.dali_commissioning.specs.Steps.{Step, AreSteps, last_order, record_told, committed_by}

-- WHO RESERVES NOTHING GIVES NOTHING, step by step.

heard_kept : (m : Machine) (o : Option Forward) (h : Answer) → (machine_heard m o h).kept ≡ m.kept
heard_kept m (Some f) h = refl
heard_kept m None h = refl

committed_none : (m : Machine) (o : Option Record) → m.kept.reserved ≡ [] → ReserveNothing (record_told Committed o)
    → (machine_committed m o).kept.reserved ≡ []
committed_none m None none nothing = none
committed_none m (Some (Reserve a r)) none nothing = absurd nothing.0
committed_none m (Some (Enrol a r)) none nothing = none
committed_none m (Some (Release a r)) none nothing = ap (without_pair (a, r)) none

told_none : (m : Machine) (i : Input) → m.kept.reserved ≡ [] → ReserveNothing (record_told i (record_ordered m.last))
    → (machine_told m i).kept.reserved ≡ []
told_none m Start none nothing = none
told_none m Survey none nothing = none
told_none m (Heard h) none nothing = ap (λ k. k.reserved) (heard_kept m (frame_put m.last) h) ∙ none
told_none m Destroyed none nothing = none
told_none m Lapsed none nothing = none
told_none m Committed none nothing = committed_none m (record_ordered m.last) none nothing
told_none m CommitFailed none nothing = none

nobody : (xs : List Assignment) (x : Assignment) → xs ≡ [] → Has xs x → ⊥
nobody xs x none has = subst (λ ys. Has ys x) none has

-- a frame that gives an address is lawful only with a reservation
unlawful : (b : Block) (xs : List Assignment) (t : List Entry) (f : Forward) (o : Option ℕ) → xs ≡ [] → Lawful b xs t f
    → command_of f ≡ Program o → ⊥
unlawful b xs t f o none lawful is =
    let gives = program_at b xs t f o lawful is in
    nobody xs (gives.0, value_of gives.1) none gives.4.reserved_for

put_none : (m : Machine) (p : ℕ) (f : Forward) → m.kept.reserved ≡ [] → MayOrderPut m p f → IsGiving (Put p f) → ⊥
put_none m p f none (inl (_, lawful)) (o, is) = unlawful m.kept.block m.kept.reserved [] f o none lawful is
put_none m p f none (inr (_, _, lawful)) (o, is) = unlawful m.kept.block m.kept.reserved m.trace f o none lawful is

allowed_none : (m : Machine) (o : Order) → m.kept.reserved ≡ [] → IsAllowed m o → IsGiving o → ⊥
allowed_none m (Put p f) none allowed gives = put_none m p f none allowed gives
allowed_none m (Commit x) none allowed gives = gives
allowed_none m (Done e) none allowed gives = gives
allowed_none m (Halt w) none allowed gives = gives

answered_none : (m : Machine) (i : Input) (o : Order) → (machine_told m i).kept.reserved ≡ [] → IsAnswered m i o → IsGiving o → ⊥
answered_none m Start o none answered gives = allowed_none (machine_told m Start) o none answered.allowed gives
answered_none m Survey o none answered gives = allowed_none (machine_told m Survey) o none answered.allowed gives
answered_none m (Heard h) o none answered gives = allowed_none (machine_told m (Heard h)) o none answered.allowed gives
answered_none m Destroyed o none answered gives = allowed_none (machine_told m Destroyed) o none answered.allowed gives
answered_none m Lapsed o none answered gives = allowed_none (machine_told m Lapsed) o none answered.allowed gives
answered_none m Committed o none answered gives = allowed_none (machine_told m Committed) o none answered.allowed gives
answered_none m CommitFailed o none answered gives = subst IsGiving answered gives

-- a machine without reservations, whose last order is that of the last step
record IsEmpty (n : Machine) (steps : List Step) : Type 0 where
  none : n.kept.reserved ≡ []
  last : n.last ≡ last_order steps

before_nothing : (xs ys : List Record) → ReserveNothing (xs ++ ys) → ReserveNothing xs × ReserveNothing ys
before_nothing [] ys nothing = (tt, nothing)
before_nothing (x ∷ xs) ys (here, more) = let (first, last) = before_nothing xs ys more in ((here, first), last)

told_at : (mid : Machine) (steps : List Step) (told : Input) → IsEmpty mid steps
    → ReserveNothing (record_told told (record_ordered (last_order steps))) → (machine_told mid told).kept.reserved ≡ []
told_at mid steps told empty nothing =
    told_none mid told empty.none (subst (λ l. ReserveNothing (record_told told (record_ordered l))) (sym empty.last) nothing)

stays_empty : (m n : Machine) (steps : List Step) → m.kept.reserved ≡ [] → m.last ≡ None → AreSteps m steps n
    → ReserveNothing (committed_by steps) → IsEmpty n steps
stays_empty m n [] none last is nothing =
    record { none = ap (λ k. k.kept.reserved) is ∙ none; last = ap (λ k. k.last) is ∙ last }
stays_empty m n (s ∷ before) none last (mid, taken, (due, answered, is)) nothing =
    let (first, now) = before_nothing (committed_by before) (record_told s.told (record_ordered (last_order before))) nothing in
    let empty = stays_empty m mid before none last taken first in
    record {
      none = ap (λ k. k.kept.reserved) is ∙ told_at mid before s.told empty now;
      last = ap (λ k. k.last) is;
    }

pub none_given : (m n : Machine) (steps : List Step) → m.kept.reserved ≡ [] → m.last ≡ None → AreSteps m steps n
    → ReserveNothing (committed_by steps) → Gives steps → ⊥
none_given m n [] none last taken nothing gives = gives
none_given m n (s ∷ before) none last (mid, taken, (due, answered, is)) nothing (inl gives) =
    let (first, now) = before_nothing (committed_by before) (record_told s.told (record_ordered (last_order before))) nothing in
    answered_none mid s.told s.order (told_at mid before s.told (stays_empty m mid before none last taken first) now) answered gives
none_given m n (s ∷ before) none last (mid, taken, step) nothing (inr gives) =
    none_given m mid before none last taken
    (before_nothing (committed_by before) (record_told s.told (record_ordered (last_order before))) nothing).0 gives
