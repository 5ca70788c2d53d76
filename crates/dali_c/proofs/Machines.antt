use Rattle.std.proofs.Common.{◌≡◌, Bool, Option, Some, refl, sym, ap, ◌∙◌, length}
use Rattle.dali_search.specs.{Ascending.Ascent, Ascending.ascent_of, Least.Search, Least.lowest, Least.highest, Least.step_between, Narrowing.answers_of}
use Rattle.dali_controller.specs.{Legs.is_searching, Legs.way_on, Machine.Machine, States.machine_with, declared.leg.Leg.Leg}
use Rattle.dali_controller.specs.declared.leg.Leg.TheVariants.{Revisiting, Asking, Searching, Hunting}
use Rattle.dali_controller.specs.declared.state.State.{State}
use Rattle.dali_c.specs.{Ascents.IsPlainAscent, Machines.IsPlainSearch, Machines.HasLeg, Machines.IsPlainLeg, Machines.FillsLeg, Machines.Spells}
use Rattle.dali_c.specs.{Machines.IsHeld, Machines.Holds, Machines.IsRead, Pairs.random_of, Records.kept_of, declared.ascents.PlainAscent.PlainAscent}
use Rattle.dali_c.{specs.declared.machine.PlainMachine.PlainMachine, specs.declared.state.PlainState.PlainState, proofs.Lists.entries_once}

-- THE BYTES SPELL ONE STATE.
some_once : {A : Type 0} {o : Option A} {x y : A} → o ≡ Some x → o ≡ Some y → x ≡ y
some_once one other = cc

same_search : (a b : Search) → a.answers ≡ b.answers → a.probe ≡ b.probe → a.step ≡ b.step → a ≡ b
same_search a b answers probe step =
    ap (λ n. record { answers = n; probe = a.probe; step = a.step }) answers
    ∙ ap (λ n. record { answers = b.answers; probe = n; step = a.step }) probe
    ∙ ap (λ n. record { answers = b.answers; probe = b.probe; step = n }) step

search_once : (p : PlainState) (a b : Search) → IsPlainSearch p a → IsPlainSearch p b → a ≡ b
search_once p a b one other =
    let count : length a.answers ≡ length b.answers = one.answers ∙ sym other.answers in
    let least : lowest a.answers ≡ lowest b.answers = one.least ∙ sym other.least in
    let answers : a.answers ≡ b.answers =
    one.search.told ∙ ap (λ n. answers_of n (lowest a.answers)) count ∙ ap (λ n. answers_of (length b.answers) n) least ∙ sym other.search.told in
    let step : a.step ≡ b.step = one.search.narrows.step_is ∙ ap (λ n. step_between (lowest n) (highest n)) answers ∙ sym other.search.narrows.step_is in
    same_search a b answers (one.probe ∙ sym other.probe) step

-- an ascent by its parts
ascent_with : (p : PlainAscent) (a : Ascent) (anew : Bool) → IsPlainAscent p a → a.is_anew ≡ anew
    → a ≡ ascent_of (random_of p.low) (random_of p.high) p.steps anew p.silent p.found (random_of p.top)
ascent_with p a anew is same =
    ap (λ n. record a { low = n }) is.low
    ∙ ap (λ n. record a { low = random_of p.low; high = n }) is.high
    ∙ ap (λ n. record a { low = random_of p.low; high = random_of p.high; steps = n }) is.steps
    ∙ ap (λ n. record a { low = random_of p.low; high = random_of p.high; steps = p.steps; is_anew = n }) same
    ∙ ap (λ n. record a { low = random_of p.low; high = random_of p.high; steps = p.steps; is_anew = anew; silent = n }) is.silent
    ∙ ap (λ n. ascent_of (random_of p.low) (random_of p.high) p.steps anew p.silent n a.top) is.found
    ∙ ap (λ n. ascent_of (random_of p.low) (random_of p.high) p.steps anew p.silent p.found n) is.top

ascent_once : (p : PlainAscent) (a b : Ascent) → IsPlainAscent p a → IsPlainAscent p b → a ≡ b
ascent_once p a b one other = ascent_with p a b.is_anew one (some_once one.anew other.anew) ∙ sym (ascent_with p b b.is_anew other refl)

-- a leg by what its bytes say
same_leg : (p : PlainState) (a b : Leg) → is_searching a ≡ is_searching b → way_on a ≡ way_on b → HasLeg p a → HasLeg p b → a ≡ b
same_leg p (Revisiting x) (Revisiting y) opened way one other = ap Revisiting (one ∙ sym other)
same_leg p (Revisiting x) (Asking y n) opened way one other = absurd (cc)
same_leg p (Revisiting x) (Searching s) opened way one other = absurd (cc)
same_leg p (Revisiting x) (Hunting up) opened way one other = absurd (cc)
same_leg p (Asking x n) (Revisiting y) opened way one other = absurd (cc)
same_leg p (Asking x n) (Asking y m) opened way one other = ap (λ z. Asking z n) (one.0 ∙ sym other.0) ∙ ap (Asking y) (one.1 ∙ sym other.1)
same_leg p (Asking x n) (Searching s) opened way one other = absurd (cc)
same_leg p (Asking x n) (Hunting up) opened way one other = absurd (cc)
same_leg p (Searching s) (Revisiting y) opened way one other = absurd (cc)
same_leg p (Searching s) (Asking y m) opened way one other = absurd (cc)
same_leg p (Searching s) (Searching t) opened way one other = ap Searching (search_once p s t one other)
same_leg p (Searching s) (Hunting up) opened way one other = absurd (cc)
same_leg p (Hunting up) (Revisiting y) opened way one other = absurd (cc)
same_leg p (Hunting up) (Asking y m) opened way one other = absurd (cc)
same_leg p (Hunting up) (Searching t) opened way one other = absurd (cc)
same_leg p (Hunting up) (Hunting now) opened way one other = ap Hunting (ascent_once p.ascent up now one other)

pub leg_once : (p : PlainState) (a b : Leg) → IsPlainLeg p a → IsPlainLeg p b → a ≡ b
leg_once p a b one other = same_leg p a b (some_once one.opened other.opened) (some_once one.way other.way) one.has other.has

pub has_leg : (p : PlainState) (l : Leg) → FillsLeg p l → HasLeg p l
has_leg p (Revisiting from) filled = filled.visits
has_leg p (Asking from silences) filled = (filled.visits, filled.asked)
has_leg p (Searching s) filled = filled.search
has_leg p (Hunting up) filled = filled.ascent

pub spells_once : (p : PlainState) (a b : State) → Spells p a → Spells p b → a ≡ b
spells_once p a b one other =
    ap (λ n. record a { id = n }) (one.id ∙ sym other.id)
    ∙ ap (λ n. record a { id = b.id; trace = n }) (entries_once _ a.trace b.trace one.trace.entries other.trace.entries)
    ∙ ap (λ n. record a { id = b.id; trace = b.trace; finding = n }) (some_once one.finding other.finding)
    ∙ ap (λ n. record a { id = b.id; trace = b.trace; finding = b.finding; last = n }) (some_once one.last other.last)
    ∙ ap (λ n. record a { id = b.id; trace = b.trace; finding = b.finding; last = b.last; tries = n }) (one.tries ∙ sym other.tries)
    ∙ ap (λ n. record a { id = b.id; trace = b.trace; finding = b.finding; last = b.last; tries = b.tries; silent = n }) (one.silent ∙ sym other.silent)
    ∙ ap (λ n. record b { purpose = n; number = a.number; leg = a.leg; heard = a.heard; tally = a.tally }) (some_once one.purpose other.purpose)
    ∙ ap (λ n. record b { number = n; leg = a.leg; heard = a.heard; tally = a.tally }) (one.number ∙ sym other.number)
    ∙ ap (λ n. record b { leg = n; heard = a.heard; tally = a.tally }) (leg_once p a.leg b.leg one.leg other.leg)
    ∙ ap (λ n. record b { heard = n; tally = a.tally }) (one.heard ∙ sym other.heard)
    ∙ ap (λ n. record b { tally = n }) (some_once one.tally other.tally)

-- so a struct holds one machine.
pub held_once : (p : PlainMachine) (s : State) (m : Machine) → IsHeld p s → Holds p m → m ≡ machine_with s (kept_of p.records)
held_once p s m held holds = holds.is ∙ ap (λ x. machine_with x (kept_of p.records)) (spells_once p.state holds.state s holds.held.spells held.spells)

pub read_of : (p : PlainMachine) (s : State) → IsHeld p s → IsRead p s
read_of p s held = record { held = held; machine = record { state = s; held = held; is = refl }; once = λ m holds. held_once p s m held holds }
