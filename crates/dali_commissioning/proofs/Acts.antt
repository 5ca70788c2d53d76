use Rattle.std.proofs.Common.{◌≡◌, Bool, true, false, refl, sym, ap, subst, ◌∙◌, List, [], ◌∷◌, ◌++◌, Option, Some, None, ◌==◌, if◌then◌else◌}
use Rattle.std.proofs.lemmas.List.{append_assoc, append-nil}
use Rattle.dali_frame.specs.Priority.{LATER}
use Rattle.dali_script.specs.{Due.due_after, Due.accepts, Due.record_ordered}
use Rattle.dali_script.specs.declared.orders.{Input.Input, Order.Order, Order.TheVariants.Put, Order.TheVariants.Commit, Order.TheVariants.Done}
use Rattle.dali_script.specs.declared.orders.Order.TheVariants.{Halt}
use Rattle.dali_script.specs.declared.orders.Input.TheVariants as input
use Rattle.dali_statement.specs.Own.{Act, Puts, Loses, Begins, Keeps, AreOwn}
use Rattle.dali_controller.specs.{Machine.Machine, Orders.IsAnswered, Orders.machine_after, Acts.Steps, Acts.Takes, Acts.acts_told, Acts.acts_ordered}
use Rattle.dali_controller.{specs.Acts.acts_of, specs.Acts.own_of, proofs.Acts.machines_keep_to_scripts}
use Rattle.dali_commissioning.specs.Steps.{Step, AreSteps, last_order, record_told, committed_by}
use Rattle.dali_commissioning.specs.Acts.{in_order, acts_by, records_of}

-- WHAT IS CONDUCTED, as acts of a program.

after_all : Machine → Steps → Machine
after_all m [] = m
after_all m (s ∷ steps) = after_all (machine_after m s.0 s.1) steps

takes_more : (m : Machine) (steps : Steps) (i : Input) (o : Order) → Takes m steps → accepts (due_after (after_all m steps).last) i ≡ true
    → IsAnswered (after_all m steps) i o → Takes m (steps ++ (i, o) ∷ [])
unfolding after_all
takes_more m [] i o takes accepted answered = (accepted, answered, tt)
takes_more m (s ∷ steps) i o takes accepted answered =
    (takes.0, takes.1, takes_more (machine_after m s.0 s.1) steps i o takes.2 accepted answered)

after_more : (m : Machine) (steps : Steps) (i : Input) (o : Order) → after_all m (steps ++ (i, o) ∷ []) ≡ machine_after (after_all m steps) i o
unfolding after_all
after_more m [] i o = refl
after_more m (s ∷ steps) i o = after_more (machine_after m s.0 s.1) steps i o

taken : (m n : Machine) (steps : List Step) → AreSteps m steps n → Takes m (in_order steps) × (n ≡ after_all m (in_order steps))
unfolding after_all
taken m n [] are = (tt, are)
taken m n (s ∷ before) are =
    let first = taken m are.0 before are.1 in (
      takes_more m (in_order before) s.told s.order first.0 (ap (λ k. accepts (due_after k.last) s.told) (sym first.1) ∙ are.2.0)
          (subst (λ k. IsAnswered k s.told s.order) first.1 are.2.1),
      are.2.2 ∙ ap (λ k. machine_after k s.told s.order) first.1 ∙ sym (after_more m (in_order before) s.told s.order),
    )

pub keeps_to_scripts : (m n : Machine) (steps : List Step) → m.last ≡ None → m.trace ≡ [] → AreSteps m steps n
    → AreOwn (own_of m) (acts_by steps)
keeps_to_scripts m n steps unstarted idle are = machines_keep_to_scripts m (in_order steps) unstarted idle (taken m n steps are).0

-- ---------------------------------------------------------------- the records

pub records_both : (first rest : List Act) → records_of (first ++ rest) ≡ records_of first ++ records_of rest
records_both [] rest = refl
records_both (Keeps x ∷ first) rest = ap (λ xs. x ∷ xs) (records_both first rest)
records_both (Puts f h ∷ first) rest = records_both first rest
records_both (Loses f ∷ first) rest = records_both first rest
records_both (Begins ∷ first) rest = records_both first rest

-- the last order of steps in their order
last_of : Option Order → Steps → Option Order
last_of last [] = last
last_of last (s ∷ steps) = last_of (Some s.1) steps

none_ordered : (o : Order) → records_of (acts_ordered o) ≡ []
none_ordered (Put p f) = go (p == LATER) where
  go : (t : Bool) → records_of (if t then [] else Begins ∷ []) ≡ []
  go true = refl
  go false = refl
none_ordered (Commit x) = refl
none_ordered (Done e) = refl
none_ordered (Halt w) = refl

-- the acts of one step more
acts_more : (last : Option Order) (steps : Steps) (i : Input) (o : Order)
    → acts_of last (steps ++ (i, o) ∷ []) ≡ acts_of last steps ++ (acts_told (last_of last steps) i ++ acts_ordered o)
unfolding last_of
acts_more last [] i o = ap (λ xs. acts_told last i ++ xs) (append-nil (acts_ordered o))
acts_more last (s ∷ steps) i o =
    let more = acts_told (last_of (Some s.1) steps) i ++ acts_ordered o in
    ap (λ xs. acts_told last s.0 ++ (acts_ordered s.1 ++ xs)) (acts_more (Some s.1) steps i o)
    ∙ ap (λ xs. acts_told last s.0 ++ xs) (sym (append_assoc (acts_ordered s.1) (acts_of (Some s.1) steps) more))
    ∙ sym (append_assoc (acts_told last s.0) (acts_ordered s.1 ++ acts_of (Some s.1) steps) more)

last_more : (last : Option Order) (steps : Steps) (i : Input) (o : Order) → last_of last (steps ++ (i, o) ∷ []) ≡ Some o
unfolding last_of
last_more last [] i o = refl
last_more last (s ∷ steps) i o = last_more (Some s.1) steps i o

last_in_order : (steps : List Step) → last_of None (in_order steps) ≡ last_order steps
unfolding last_of
last_in_order [] = refl
last_in_order (s ∷ before) = last_more None (in_order before) s.told s.order

pub by_more : (s : Step) (before : List Step) → acts_by (s ∷ before) ≡ acts_by before ++ (acts_told (last_order before) s.told ++ acts_ordered s.order)
by_more s before =
    acts_more None (in_order before) s.told s.order
    ∙ ap (λ last. acts_by before ++ (acts_told last s.told ++ acts_ordered s.order)) (last_in_order before)

told_records : (last : Option Order) (i : Input) → records_of (acts_told last i) ≡ record_told i (record_ordered last)
told_records None input.Committed = refl
told_records (Some (Put p f)) input.Committed = refl
told_records (Some (Commit x)) input.Committed = refl
told_records (Some (Done e)) input.Committed = refl
told_records (Some (Halt w)) input.Committed = refl
told_records _ _ = refl

pub records_are_kept : (steps : List Step) → records_of (acts_by steps) ≡ committed_by steps
records_are_kept [] = refl
records_are_kept (s ∷ before) =
    ap records_of (by_more s before)
    ∙ records_both (acts_by before) (acts_told (last_order before) s.told ++ acts_ordered s.order)
    ∙ ap (λ xs. records_of (acts_by before) ++ xs) (records_both (acts_told (last_order before) s.told) (acts_ordered s.order)
    ∙ ap (λ xs. records_of (acts_told (last_order before) s.told) ++ xs) (none_ordered s.order)
    ∙ append-nil (records_of (acts_told (last_order before) s.told)) ∙ told_records (last_order before) s.told)
    ∙ ap (λ xs. xs ++ record_told s.told (record_ordered (last_order before))) (records_are_kept before)
