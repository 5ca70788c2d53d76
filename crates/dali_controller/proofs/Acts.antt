use Rattle.std.proofs.Common.{◌≡◌, inl, inr, ℕ, Bool, true, false, refl, sym, ap, subst, ◌∙◌, arith, List, [], ◌∷◌, ◌++◌, Option, Some, None, ◌==◌}
use Rattle.std.proofs.Common.{if◌then◌else◌}
use Rattle.dali_frame.specs.{Priority.{FIRST, LATER}, declared.frames.{Answer.Answer, Forward.Forward}}
use Rattle.dali_special.specs.Command.{command_of}
use Rattle.dali_script.specs.{Findings.{search_of, asked_of, found_by, finding_of, assigned, later}, declared.{finding.Finding.Finding, records.Record.Record}}
use Rattle.dali_script.specs.{declared.{trace.Entry.Entry, orders.{Input.Input, Order.{Order, TheVariants.{Put, Commit, Done, Halt}}}}, Records.Assignment}
use Rattle.dali_script.{specs.{Records.{Has, with_record}, Scripts.Lawful, Due.{due_after, accepts, frame_put, record_ordered}}, proofs.Found.finding_more}
use Rattle.dali_statement.{specs.Own.{Own, Act, Puts, Begins, Keeps, told_more, own_after, own_all, IsOwn, AreOwn}, proofs.Tests.{equal, equals, some_is}}
use Rattle.dali_controller.specs.{Machine.{Machine, machine_heard, machine_lost, machine_committed, machine_told}, Orders.{IsAllowed, MayCommit, IsAnswered}}
use Rattle.dali_controller.specs.{Orders.{machine_ordered, machine_after}, Acts.{acts_told, acts_ordered, Steps, Takes, acts_of, own_of}}
use Rattle.dali_controller.proofs.Given.{enrols_assigned}
use Rattle.dali_script.specs.declared.records.Record.TheVariants as record_of
use Rattle.dali_script.specs.declared.orders.Input.TheVariants as input

-- A MACHINE KEEPS TO ITS SCRIPTS.

never : {A : Type 0} → false ≡ true → A
never {A} e = absurd (cc)

-- what is outstanding may be done
abbrev pub Pends : Option Order → Own → Type 0
Pends (Some (Put p f)) v = Lawful v.kept.block v.kept.reserved v.trace f
Pends (Some (Commit x)) v = IsOwn v (Keeps x)
Pends _ v = Unit {0}

pub record Stands (m : Machine) (v : Own) : Type 0 where
  pub trace : v.trace ≡ m.trace
  pub kept : v.kept ≡ m.kept
  pub found : (x : Finding) → finding_of m.trace ≡ Some x → Has v.told (assigned x)
  pub pends : Pends m.last v

-- after an input, before the order
pub record Told (t : Machine) (v : Own) : Type 0 where
  pub trace : v.trace ≡ t.trace
  pub kept : v.kept ≡ t.kept
  pub found : (x : Finding) → finding_of t.trace ≡ Some x → Has v.told (assigned x)
  pub enrolled : (b r : ℕ) → t.last ≡ Some (Commit (record_of.Enrol b r)) → Has v.told (b, r)

none_found : {x : Finding} → finding_of [] ≡ Some x → ⊥
none_found {x} e = absurd (cc)

-- ---------------------------------------------------------------- an input

put_is_no_commit : {p : ℕ} {f : Forward} {x : Record} → Some (Put p f) ≡ Some (Commit x) → ⊥
put_is_no_commit {p} {f} {x} e = absurd (let no : None ≡ Some x = ap record_ordered e in cc)

-- a finding of more frames is that of those before, or a new one
more_found : (o n : Option Finding) (told : List Assignment) → ((x : Finding) → o ≡ Some x → Has told (assigned x)) → (x : Finding) → later o n ≡ Some x
    → Has (told_more n told) (assigned x)
more_found o None told old x e = old x e
more_found o (Some y) told old x e = inl (ap assigned (some_is e))

module _ (m : Machine) (v : Own) (stands : Stands m v) where
  heard : (f : Forward) (h : Answer) (p : ℕ) → m.last ≡ Some (Put p f) → Told (machine_heard m (Some f) h) (own_after v (Puts f h))
  heard f h p is = record {
    trace = ap (λ t. t ++ (record { frame = f; heard = h }) ∷ []) stands.trace;
    kept = stands.kept;
    found = λ x e. more_found (finding_of v.trace) (found_by (search_of v.trace) (asked_of v.trace) (command_of f) h) v.told
        (λ y old. stands.found y (ap finding_of (sym stands.trace) ∙ old)) x
        (sym (finding_more v.trace (record { frame = f; heard = h }))
        ∙ ap (λ t. finding_of (t ++ (record { frame = f; heard = h }) ∷ [])) stands.trace ∙ e);
    enrolled = λ b r e. absurd (put_is_no_commit (sym is ∙ e));
  }

  lost : (f : Forward) (p : ℕ) → m.last ≡ Some (Put p f) → Told (machine_lost m) (record v { trace = [] })
  lost f p is = record {
    trace = refl;
    kept = stands.kept;
    found = λ x e. absurd (none_found e);
    enrolled = λ b r e. absurd (put_is_no_commit (sym is ∙ e));
  }

  enrols : (x : Record) → m.last ≡ Some (Commit x) → IsOwn v (Keeps x) → (b r : ℕ) → m.last ≡ Some (Commit (record_of.Enrol b r)) → Has v.told (b, r)
  enrols x is own b r e =
      let same : x ≡ record_of.Enrol b r = some_is (ap record_ordered (sym is ∙ e)) in
      subst (λ y. IsOwn v (Keeps y)) same own

  committed : (x : Record) → m.last ≡ Some (Commit x) → IsOwn v (Keeps x) → Told (machine_committed m (Some x)) (own_after v (Keeps x))
  committed x is own = record {
    trace = stands.trace;
    kept = ap (λ k. with_record k x) stands.kept;
    found = stands.found;
    enrolled = enrols x is own;
  }

  pub told_step : (i : Input) → accepts (due_after m.last) i ≡ true → AreOwn v (acts_told m.last i) × Told (machine_told m i) (own_all v (acts_told m.last i))
  told_step i accepted = go m.last refl i stands.pends accepted where
    go : (last : Option Order) → m.last ≡ last → (i : Input) → Pends last v → accepts (due_after last) i ≡ true
        → AreOwn v (acts_told last i) × Told (machine_told m i) (own_all v (acts_told last i))
    go None is input.Start pends e =
        (tt, record { trace = stands.trace; kept = stands.kept; found = stands.found; enrolled = λ b r c. absurd (cc (sym is ∙ c)) })
    go None is input.Survey pends e =
        (tt, record { trace = stands.trace; kept = stands.kept; found = stands.found; enrolled = λ b r c. absurd (cc (sym is ∙ c)) })
    go (Some (Put p f)) is (input.Heard h) pends e =
        ((pends, tt), subst (λ o. Told (machine_heard m o h) (own_after v (Puts f h))) (sym (ap frame_put is)) (heard f h p is))
    go (Some (Put p f)) is input.Destroyed pends e = ((pends, tt), lost f p is)
    go (Some (Put p f)) is input.Lapsed pends e = ((tt, tt), lost f p is)
    go (Some (Commit x)) is input.Committed pends e =
        ((pends, tt), subst (λ o. Told (machine_committed m o) (own_after v (Keeps x))) (sym (ap record_ordered is)) (committed x is pends))
    go (Some (Commit x)) is input.CommitFailed pends e =
        (tt, record { trace = stands.trace; kept = stands.kept; found = stands.found; enrolled = enrols x is pends })
    go _ is _ pends e = never e

-- ---------------------------------------------------------------- an order

module _ (t : Machine) (v : Own) (told : Told t v) where
  commits : (x : Record) → MayCommit t x → IsOwn (record v { trace = [] }) (Keeps x)
  commits (record_of.Reserve a r) may = subst (λ k. IsOwn (record { kept = k; trace = []; told = v.told }) (Keeps (record_of.Reserve a r)))
      (sym told.kept) (may.fits.0, may.fits.1, may.may.0)
  commits (record_of.Enrol b r) may =
      let w = may.warranted in
      subst (Has v.told) (sym (enrols_assigned t.course.way t.kept.reserved w.0 (b, r) w.3)) (told.found w.0 w.2)
  commits (record_of.Release a r) may =
      let w = may.warranted in
      (subst (λ k. Has k.reserved (a, r)) (sym told.kept) may.may, w.0, told.enrolled w.0 r w.1, w.2)

  anew : (o : Order) → Pends (Some o) (record v { trace = [] }) → (machine_ordered t o).trace ≡ [] → Stands (machine_ordered t o) (record v { trace = [] })
  anew o pends none = record {
    trace = sym none;
    kept = told.kept;
    found = λ x e. absurd (none_found (ap finding_of (sym none) ∙ e));
    pends = pends;
  }

  pub ordered : (o : Order) → IsAllowed t o → AreOwn v (acts_ordered o) × Stands (machine_ordered t o) (own_all v (acts_ordered o))
  ordered (Commit x) may = ((tt, tt), anew (Commit x) (commits x may) refl)
  ordered (Done e) may = ((tt, tt), anew (Done e) tt refl)
  ordered (Halt w) may = ((tt, tt), anew (Halt w) tt refl)
  ordered (Put p f) may = go (p == LATER) refl may where
    first_or_later : p ≡ FIRST → p ≡ LATER → ⊥
    first_or_later one other = absurd (let no : FIRST ≡ LATER = sym one ∙ other in omega arith)

    lawful : (x : List Entry) → Lawful t.kept.block t.kept.reserved x f → Lawful v.kept.block v.kept.reserved x f
    lawful x is = subst (λ k. Lawful k.block k.reserved x f) (sym told.kept) is

    go : (later_one : Bool) → (p == LATER) ≡ later_one → IsAllowed t (Put p f)
        → AreOwn v (if later_one then [] else Begins ∷ []) × Stands (machine_ordered t (Put p f)) (own_all v (if later_one then [] else Begins ∷ []))
    go true is (inl first) = absurd (first_or_later first.0 (equal p LATER is))
    go true is (inr more) = (
      tt,
      record {
        trace = told.trace ∙ sym (ap (λ b. if b then t.trace else []) is);
        kept = told.kept;
        found = λ x e. told.found x (ap (λ b. finding_of (if b then t.trace else [])) (sym is) ∙ e);
        pends = subst (λ x. Lawful v.kept.block v.kept.reserved x f) (sym told.trace) (lawful t.trace more.2);
      },
    )
    go false is (inl first) = ((tt, tt), anew (Put p f) (lawful [] first.1) (ap (λ b. if b then t.trace else []) is))
    go false is (inr more) = absurd (let no : false ≡ true = sym is ∙ equals p LATER more.0 in cc)

-- ---------------------------------------------------------------- all steps

pub may_order : (m : Machine) (i : Input) (o : Order) → IsAnswered m i o → IsAllowed (machine_told m i) o
may_order m input.CommitFailed o is = subst (λ k. IsAllowed (machine_told m input.CommitFailed) k) (sym is) tt
may_order m input.Start o is = is.allowed
may_order m input.Survey o is = is.allowed
may_order m (input.Heard h) o is = is.allowed
may_order m input.Destroyed o is = is.allowed
may_order m input.Lapsed o is = is.allowed
may_order m input.Committed o is = is.allowed

pub own_both : (v : Own) (now later : List Act) → AreOwn v now → AreOwn (own_all v now) later → AreOwn v (now ++ later)
own_both v [] later first rest = rest
own_both v (a ∷ now) later first rest = (first.0, own_both (own_after v a) now later first.1 rest)

steps_own : (m : Machine) (v : Own) (steps : Steps) → Stands m v → Takes m steps → AreOwn v (acts_of m.last steps)
steps_own m v [] stands takes = tt
steps_own m v (s ∷ steps) stands takes =
    let first = told_step m v stands s.0 takes.0 in
    let next = ordered (machine_told m s.0) (own_all v (acts_told m.last s.0)) first.1 s.1 (may_order m s.0 s.1 takes.1) in
    own_both v (acts_told m.last s.0) (acts_ordered s.1 ++ acts_of (Some s.1) steps) first.0
    (own_both (own_all v (acts_told m.last s.0)) (acts_ordered s.1) (acts_of (Some s.1) steps) next.0
    (steps_own (machine_after m s.0 s.1) (own_all (own_all v (acts_told m.last s.0)) (acts_ordered s.1)) steps next.1 takes.2))

pub stands_first : (m : Machine) → m.last ≡ None → m.trace ≡ [] → Stands m (own_of m)
stands_first m unstarted idle = record {
  trace = sym idle;
  kept = refl;
  found = λ x e. absurd (none_found (ap finding_of (sym idle) ∙ e));
  pends = subst (λ o. Pends o (own_of m)) (sym unstarted) tt;
}

pub machines_keep_to_scripts : (m : Machine) (steps : Steps) → m.last ≡ None → m.trace ≡ [] → Takes m steps → AreOwn (own_of m) (acts_of None steps)
machines_keep_to_scripts m steps unstarted idle takes =
    subst (λ o. AreOwn (own_of m) (acts_of o steps)) unstarted (steps_own m (own_of m) steps (stands_first m unstarted idle) takes)
