use Rattle.std.proofs.Common.{◌≡◌, ℕ, ◌≤◌, ◌+◌, Bool, true, false, Option, Some, None, List, [], ◌∷◌, ◌++◌, inl, refl, sym, ap, subst, ◌∙◌, arith}
use Rattle.std.proofs.Common.{if◌then◌else◌}
use Rattle.dali_frame.specs.declared.{frames.Answer.Answer, frames.Forward.Forward, numbers.SearchAddress.SearchAddress}
use Rattle.dali_special.specs.{Command.command_of, Command.frame_of, Command.IsSpelled, declared.command.Command.Command}
use Rattle.dali_special.specs.{declared.command.Command.TheVariants.Terminate}
use Rattle.dali_special.proofs.Table.{read_written}
use Rattle.dali_script.specs.declared.{finding.Finding.Finding, trace.Entry.Entry, orders.Input.Input, orders.Order.Order, orders.Order.TheVariants.Put}
use Rattle.dali_script.specs.declared.orders.{Order.TheVariants.Commit, Order.TheVariants.Done, Order.TheVariants.Halt, End.TheVariants.GaveUp}
use Rattle.dali_script.specs.declared.orders.End.TheVariants.{AllFound, BlockFull}
use Rattle.dali_script.specs.declared.records.Record.{Record}
use Rattle.dali_script.specs.declared.orders.Input.TheVariants as input
use Rattle.dali_script.specs.{Due.due_after, Due.accepts, Due.frame_put, Due.record_ordered, Findings.finding_of, Records.Kept, Stages.stage_of}
use Rattle.dali_script.proofs.{Firsts.begins_by, Transactions.stage_none}
use Rattle.dali_statement.specs.Own.{Own, Begins, AreOwn, own_all}
use Rattle.dali_controller.specs.declared.purpose.Purpose.{Purpose, TheVariants.Opening, TheVariants.Probing, TheVariants.Visiting, TheVariants.Resolving}
use Rattle.dali_controller.specs.declared.purpose.Purpose.TheVariants.{Closing, Asking, Hunting, Calling, Drawing, PassingOver}
use Rattle.dali_controller.specs.declared.way.Way.{Way}
use Rattle.dali_controller.specs.{Machine.Machine, Machine.machine_told, Machine.machine_heard, Machine.machine_committed, Next.most_silent}
use Rattle.dali_controller.specs.{Orders.machine_after, Acts.acts_told}
use Rattle.dali_controller.specs.{Acts.acts_ordered, Acts.acts_of, Whole.IsWhole, Whole.IsWithinSilence, Whole.Sends}
use Rattle.dali_controller.specs.Acts.{Steps as MachineSteps}
use Rattle.dali_controller.proofs.Acts.{Stands, Told, told_step, ordered, may_order, own_both}
use Rattle.dali_c.specs.{Calls.OK, Calls.Steps, Calls.NOT_DUE, Calls.BAD_ARGUMENT, Codes.input_of, Hosts.Call, Hosts.HasCalled, Hosts.AreCalls}
use Rattle.dali_c.specs.{Hosts.AreSpelled}
use Rattle.dali_c.specs.{Machines.Holds, Orders.order_of, Stops.HasStopped, Stops.Stops, Stops.closed, Stops.may_end}
use Rattle.dali_c.specs.declared.{machine.PlainMachine.PlainMachine, orders.PlainOrder.PlainOrder}
use Rattle.dali_c.proofs.Machines.{held_once}

-- A MACHINE THAT ENDS BEFORE ITS TIME is one.
calm : (y : Way) (p : Purpose) (silent : ℕ) → IsWithinSilence y p silent → silent ≤ most_silent y
calm y (Closing GaveUp) silent h = h
calm y (Closing AllFound) silent h = omega (arith, h)
calm y (Closing BlockFull) silent h = omega (arith, h)
calm y Opening silent h = omega (arith, h)
calm y Probing silent h = omega (arith, h)
calm y Hunting silent h = omega (arith, h)
calm y Visiting silent h = omega (arith, h)
calm y (Resolving a) silent h = omega (arith, h)
calm y (Asking a) silent h = omega (arith, h)
calm y Calling silent h = omega (arith, h)
calm y Drawing silent h = omega (arith, h)
calm y PassingOver silent h = omega (arith, h)

pub is_calm : (m : Machine) → may_end m m.last ≡ true → IsWhole m → m.silent ≤ most_silent m.course.way
is_calm m may whole = go m.last refl may where
  go : (last : Option Order) → m.last ≡ last → may_end m last ≡ true → m.silent ≤ most_silent m.course.way
  go None is may = absurd (cc)
  go (Some (Commit x)) is may = absurd (cc)
  go (Some (Done e)) is may = absurd (cc)
  go (Some (Halt w)) is may = absurd (cc)
  go (Some (Put p f)) is may = calm m.course.way m.course.purpose m.silent (rw is at whole).ready.calm

pub sends_terminate : (k : Kept) (n : SearchAddress) (t : List Entry) (f : Forward) → t ≡ [] → f ≡ frame_of Terminate
    → Sends k n (Closing GaveUp) (stage_of t) (command_of f)
sends_terminate k n t f empty is =
    let read : Terminate ≡ command_of f = sym (ap command_of is ∙ read_written Terminate tt) in
    subst (λ u. Sends k n (Closing GaveUp) (stage_of u) (command_of f)) (sym empty)
    (subst (λ s. Sends k n (Closing GaveUp) s (command_of f)) (sym stage_none)
    (subst (λ (c : Command). (c ≡ Terminate) × IsSpelled c) read (refl, tt)))

-- its number stays
heard_id : (m : Machine) (o : Option Forward) (h : Answer) → (machine_heard m o h).id ≡ m.id
heard_id m None h = refl
heard_id m (Some f) h = refl

kept_id : (m : Machine) (o : Option Record) → (machine_committed m o).id ≡ m.id
kept_id m None = refl
kept_id m (Some x) = refl

pub told_id : (m : Machine) (i : Input) → (machine_told m i).id ≡ m.id
told_id m input.Start = refl
told_id m input.Survey = refl
told_id m (input.Heard h) = heard_id m (frame_put m.last) h
told_id m input.Destroyed = refl
told_id m input.Lapsed = refl
told_id m input.Committed = kept_id m (record_ordered m.last)
told_id m input.CommitFailed = refl

-- WHAT IS ANSWERED OK was done.
not_due_is_not_ok : {A : Type 0} → NOT_DUE ≡ OK → A
not_due_is_not_ok e = absurd (cc)

bad_is_not_ok : {A : Type 0} → BAD_ARGUMENT ≡ OK → A
bad_is_not_ok e = absurd (cc)

pub was_stopped : (p after : PlainMachine) (input byte status : ℕ) (order : PlainOrder) (m : Machine) → Holds p m
    → ((j : Machine) (i : Input) → Holds p j → input_of input byte ≡ Some i → accepts (due_after j.last) i ≡ true
    → (status ≡ OK) × Stops j i after order)
    → ((j : Machine) (i : Input) → Holds p j → input_of input byte ≡ Some i → accepts (due_after j.last) i ≡ false → status ≡ NOT_DUE)
    → (input_of input byte ≡ None → status ≡ BAD_ARGUMENT)
    → status ≡ OK → HasStopped p input byte after order
was_stopped p after input byte status order m holds done not_due bad ok = go (input_of input byte) refl where
  told : (i : Input) → input_of input byte ≡ Some i → (may : Bool) → accepts (due_after m.last) i ≡ may → HasStopped p input byte after order
  told i is true due = (m, i, holds, is, due, (done m i holds is due).1)
  told i is false due = not_due_is_not_ok (sym (not_due m i holds is due) ∙ ok)

  go : (read : Option Input) → input_of input byte ≡ read → HasStopped p input byte after order
  go None is = bad_is_not_ok (sym (bad is) ∙ ok)
  go (Some i) is = told i is (accepts (due_after m.last) i) refl

-- CALLS KEEP TO THE SCRIPTS.
same_machine : (p : PlainMachine) (m n : Machine) → Holds p m → Holds p n → m ≡ n
same_machine p m n one other = held_once p other.state m other.held one ∙ sym other.is

none_found : {x : Finding} → finding_of [] ≡ Some x → ⊥
none_found {x} e = absurd (cc)

stands_closed : (t n : Machine) (v : Own) → Told t v → n.kept ≡ t.kept → Stands (closed n) (own_all v (Begins ∷ []))
stands_closed t n v told same = record {
  trace = refl;
  kept = told.kept ∙ sym same;
  found = λ x e. absurd (none_found e);
  pends = begins_by v.kept.block v.kept.reserved (frame_of Terminate) (inl (read_written Terminate tt));
}

-- what is called is the machine's own, from such a machine on
abbrev Own_ : Machine → Own → List Call → Type 0
Own_ m v calls = (steps : MachineSteps) × AreSpelled calls steps × AreOwn v (acts_of m.last steps)

abbrev FromAny : List Call → Type 0
FromAny calls = (p : PlainMachine) (m : Machine) (v : Own) → Holds p m → Stands m v → AreCalls p calls → Own_ m v calls

module _ (p : PlainMachine) (m : Machine) (v : Own) (holds : Holds p m) (stands : Stands m v) (c : Call) (calls : List Call) (more : FromAny calls) where
  module _ (i : Input) (is : input_of c.input c.byte ≡ Some i) (due : accepts (due_after m.last) i ≡ true) where
    -- an order, after which the machine is this one
    goes_on : (o : Order) (n : Machine) → order_of c.order ≡ Some (Some o) → Holds c.after n → n.last ≡ Some o
        → AreOwn (own_all v (acts_told m.last i)) (acts_ordered o)
        → Stands n (own_all (own_all v (acts_told m.last i)) (acts_ordered o)) → AreCalls c.after calls → Own_ m v (c ∷ calls)
    goes_on o n spelled held last own next rest =
        let later = more c.after n (own_all (own_all v (acts_told m.last i)) (acts_ordered o)) held next rest in
        let acts : AreOwn (own_all (own_all v (acts_told m.last i)) (acts_ordered o)) (acts_of (Some o) later.0) =
        subst (λ l. AreOwn (own_all (own_all v (acts_told m.last i)) (acts_ordered o)) (acts_of l later.0)) last later.2 in (
          (i, o) ∷ later.0,
          (is, spelled, later.1),
          own_both v (acts_told m.last i) (acts_ordered o ++ acts_of (Some o) later.0) (told_step m v stands i due).0
              (own_both (own_all v (acts_told m.last i)) (acts_ordered o) (acts_of (Some o) later.0) own acts),
        )

    stepped_on : (o : Order) → order_of c.order ≡ Some (Some o) → Holds c.after (machine_after m i o)
        → AreOwn (own_all v (acts_told m.last i)) (acts_ordered o)
        × Stands (machine_after m i o) (own_all (own_all v (acts_told m.last i)) (acts_ordered o)) → AreCalls c.after calls → Own_ m v (c ∷ calls)
    stepped_on o spelled held next rest = goes_on o (machine_after m i o) spelled held refl next.0 next.1 rest

    stopped_on : Stops m i c.after c.order → AreCalls c.after calls → Own_ m v (c ∷ calls)
    stopped_on stops rest =
        let t = machine_told m i in
        let told = (told_step m v stands i due).1 in
        let o = stops.stepped in
        go (may_end (machine_after m i o) (Some o)) stops.spelled stops.state
        (ordered t (own_all v (acts_told m.last i)) told o (may_order m i o stops.given.answered)) told
      where
        go : (b : Bool)
            → order_of c.order ≡ Some (if b then closed (machine_after m i stops.stepped) else machine_after m i stops.stepped).last
            → Holds c.after (if b then closed (machine_after m i stops.stepped) else machine_after m i stops.stepped)
            → AreOwn (own_all v (acts_told m.last i)) (acts_ordered stops.stepped)
            × Stands (machine_after m i stops.stepped) (own_all (own_all v (acts_told m.last i)) (acts_ordered stops.stepped))
            → Told (machine_told m i) (own_all v (acts_told m.last i)) → Own_ m v (c ∷ calls)
        go false spelled held next told = stepped_on stops.stepped spelled held next rest
        go true spelled held next told =
            goes_on (Put 3 (frame_of Terminate)) (closed (machine_after m i stops.stepped)) spelled held refl (tt, tt)
            (stands_closed (machine_told m i) (machine_after m i stops.stepped) (own_all v (acts_told m.last i)) told refl) rest

  called : AreCalls p (c ∷ calls) → Own_ m v (c ∷ calls)
  called are = go c.is_stop are.0 where
    go : (b : Bool) → HasCalled b p c → Own_ m v (c ∷ calls)
    go false (j, i, held, is, due, step) =
        let same = same_machine p j m held holds in
        let now = subst (λ (k : Machine). Steps k i c.after c.order) same step in
        let due_now = subst (λ (k : Machine). accepts (due_after k.last) i ≡ true) same due in
        stepped_on i is due_now now.ordered now.spelled now.state
        (ordered (machine_told m i) (own_all v (acts_told m.last i)) (told_step m v stands i due_now).1 now.ordered
        (may_order m i now.ordered now.given.answered)) are.1
    go true (j, i, held, is, due, stop) =
        let same = same_machine p j m held holds in
        let now = subst (λ (k : Machine). Stops k i c.after c.order) same stop in
        let due_now = subst (λ (k : Machine). accepts (due_after k.last) i ≡ true) same due in
        stopped_on i is due_now now are.1

pub calls_own : (calls : List Call) → FromAny calls
calls_own [] p m v holds stands are = ([], tt, tt)
calls_own (c ∷ calls) p m v holds stands are = called p m v holds stands c calls (calls_own calls) are
