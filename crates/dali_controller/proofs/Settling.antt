use Rattle.std.proofs.Common.{◌≡◌, ◌⊎◌, inl, inr, ℕ, ◌<◌, List, refl, sym, ap, subst, ◌∙◌, arith, Some, None}
use Rattle.dali_frame.specs.{Random.{value_of, MASK24}, declared.numbers.SearchAddress.SearchAddress}
use Rattle.dali_script.specs.{Records.{HasAddress, Assignment, Has, HasRandom}, Stages.stage_of, declared.finding.Finding.TheVariants.{Queried, Resolved}}
use Rattle.dali_script.specs.declared.{orders.Order.{Order, TheVariants.{Commit, Halt}}, records.Record.TheVariants.Enrol, stage.Stage.TheVariants.Withdrawn}
use Rattle.dali_script.{specs.declared.stage.Stage.TheVariants.Spelled, proofs.Lists.has_map}
use Rattle.dali_controller.specs.{Course.{Course, closing_of}, Machine.Machine, Moments.{Settles, IsBetween, IsHeard, IsNext}, Next.{begins_at, most_silent}}
use Rattle.dali_controller.specs.{Orders.{Contradicts, IsOrderedTo, IsSought, MayEnrolOn, machine_ordered}, Whole.IsReady}
use Rattle.dali_controller.specs.declared.{purpose.Purpose.TheVariants.{Visiting, Resolving, Asking}, way.Way.{Way, TheVariants.{Fresh, Surveying}}}
use Rattle.dali_controller.proofs.Steps.{calm_less, ordered_on, KnowsFor}
use Rattle.dali_script.specs.declared.orders.Fault.TheVariants as fault

-- TO SETTLE
-- what was withdrawn, or has told its random address, may be enrolled
may_queried : (y : Way) (reserved : List Assignment) (b r : ℕ) → MayEnrolOn y reserved (Queried b r) (b, r)
may_queried Fresh reserved b r = refl
may_queried Surveying reserved b r = refl

may_resolved : (y : Way) (reserved : List Assignment) (b n : ℕ) → Has reserved (b, n) → MayEnrolOn y reserved (Resolved b n) (b, n)
may_resolved Fresh reserved b n has = (refl, has)
may_resolved Surveying reserved b n has = refl

pub settles_withdrawn : (w : Machine) (r : SearchAddress) (b n : ℕ) → IsHeard w (Withdrawn r b) → n ≡ value_of r → Settles w b n
settles_withdrawn w r b n h is =
    let stage : stage_of w.trace ≡ Withdrawn r b = h.stage in
    let visiting : KnowsFor w Visiting = subst (KnowsFor w) h.arrived.0 h.knows in
    subst (Settles w b) (sym is) (record {
      ready = record { tries = h.tries; calm = h.calm; knows = h.knows };
      going = ap closing_of h.arrived.0;
      drawn = subst (λ x. value_of x < MASK24) (sym h.arrived.1) visiting.0;
      found = Queried b (value_of r);
      is = refl;
      may = may_queried w.course.way w.kept.reserved b (value_of r);
      finding = h.finding;
      trace_finding = h.trace_finding;
      next = ap (begins_at w) stage;
      unnamed = λ q e. absurd (cc);
      withdrawn = λ q c e. let there : Withdrawn r b ≡ Withdrawn q c = sym stage ∙ e in (cc, let same : q ≡ r = cc in ap value_of same);
    })

-- what the queries of a random address told, of a reservation or in a survey
record IsTold (w : Machine) (b n : ℕ) : Type 0 where
  pub going : closing_of w.course.purpose ≡ None
  pub drawn : n < MASK24
  pub may : MayEnrolOn w.course.way w.kept.reserved (Resolved b n) (b, n)

told_by : (w : Machine) (b n : ℕ) → IsReady w → (w.course.purpose ≡ Resolving b) ⊎ (w.course.purpose ≡ Asking b) → IsSought w.course.purpose w.course.number n
    → IsTold w b n
told_by w b n ready (inl is) sought =
    let resolving : KnowsFor w (Resolving b) = subst (KnowsFor w) is ready.knows in
    let same : n ≡ value_of w.course.number = subst (λ p. IsSought p w.course.number n) is sought in
    record {
      going = ap closing_of is;
      drawn = subst (λ x. x < MASK24) (sym same) resolving.1;
      may = may_resolved w.course.way w.kept.reserved b n (subst (λ x. Has w.kept.reserved (b, x)) (sym same) resolving.3);
    }
told_by w b n ready (inr is) sought =
    let asking : KnowsFor w (Asking b) = subst (KnowsFor w) is ready.knows in
    record {
      going = ap closing_of is;
      drawn = subst (λ p. IsSought p w.course.number n) is sought;
      may = rw asking.1 refl;
    }

pub settles_resolved : (w : Machine) (b n : ℕ) → IsHeard w (Spelled b (Some n)) → IsSought w.course.purpose w.course.number n → Settles w b n
settles_resolved w b n h sought =
    let stage : stage_of w.trace ≡ Spelled b (Some n) = h.stage in
    let ready : IsReady w = record { tries = h.tries; calm = h.calm; knows = h.knows } in
    let told = told_by w b n ready h.arrived sought in
    record {
      ready = ready;
      going = told.going;
      drawn = told.drawn;
      found = Resolved b n;
      is = refl;
      may = told.may;
      finding = h.finding;
      trace_finding = h.trace_finding;
      next = ap (begins_at w) stage;
      unnamed = λ q e. absurd (cc);
      withdrawn = λ q c e. absurd (cc);
    }

-- the count of silent searches is below its limit
settled_calm : (w : Machine) (b n : ℕ) → Settles w b n → w.silent < most_silent w.course.way
settled_calm w b n h = calm_less w.course.way w.course.purpose w.silent h.going h.ready.calm

-- the table has it
pub settled_between : (w : Machine) (b m n : ℕ) → Settles w b n → Has w.kept.enrolled (b, m) → m ≡ n → IsBetween w
settled_between w b m n h has same = record {
  tries = h.ready.tries;
  silent = settled_calm w b n h;
  going = h.going;
  unnamed = h.unnamed;
  found = λ r c e.
      let there = h.withdrawn r c e in
      subst (λ x. Has w.kept.enrolled (c, x)) (same ∙ sym there.1) (subst (λ x. Has w.kept.enrolled (x, m)) (sym there.0) has);
}

halted_at : (w : Machine) (c : Course) (b n : ℕ) → Settles w b n → Contradicts w.kept.enrolled b n → IsOrderedTo w c (Halt fault.Conflict)
halted_at w c b n h conflict =
    let tries : w.tries < 8 = h.ready.tries in
    let calm : w.silent < most_silent w.course.way = settled_calm w b n h in
    record {
      allowed = tt;
      addressing = tt;
      caused = (h.found, h.finding, h.trace_finding, subst (λ (p : Assignment). Contradicts w.kept.enrolled p.0 p.1) (sym h.is) conflict);
      given_up = λ e. absurd (omega arith);
      silent = λ e. absurd (omega arith);
      unnamed = λ q e. absurd (h.unnamed q e);
      found = λ q d e.
          let there = h.withdrawn q d e in
          subst (λ m. Contradicts w.kept.enrolled d m) (sym there.1) (subst (λ a. Contradicts w.kept.enrolled a n) (sym there.0) conflict);
    }

-- the table contradicts it
pub halts : (w : Machine) (b n : ℕ) (o : Order) (new : Machine) → Settles w b n → Contradicts w.kept.enrolled b n → o ≡ Halt fault.Conflict
    → new ≡ machine_ordered w o → IsNext w o new
halts w b n o new h conflict is state = record { order = rw is (halted_at w new.course b n h conflict); state = ordered_on w o new state }

-- the table has the gear with another address
pub contradicts_by_random : (xs : List Assignment) (b a n : ℕ) → (HasAddress xs b → ⊥) → Has xs (a, n) → Contradicts xs b n
contradicts_by_random xs b a n none has = inr (a, has, λ e. none (subst (HasAddress xs) e (has_map (λ q. q.0) xs (a, n) has)))

enrols_at : (w : Machine) (c : Course) (b n : ℕ) → Settles w b n → (HasAddress w.kept.enrolled b → ⊥) → (HasRandom w.kept.enrolled n → ⊥)
    → IsOrderedTo w c (Commit (Enrol b n))
enrols_at w c b n h none fresh =
    let tries : w.tries < 8 = h.ready.tries in
    let calm : w.silent < most_silent w.course.way = settled_calm w b n h in
    record {
      allowed = record { fits = h.drawn; may = (none, fresh); warranted = (h.found, h.finding, h.trace_finding, h.may) };
      addressing = tt;
      caused = h.going;
      given_up = λ e. absurd (omega arith);
      silent = λ e. absurd (omega arith);
      unnamed = λ q e. absurd (h.unnamed q e);
      found = λ q d e.
          let there = h.withdrawn q d e in
          ap (λ a. Enrol a n) (sym there.0) ∙ ap (λ m. Enrol d m) (sym there.1);
    }

pub enrols : (w : Machine) (b n : ℕ) (o : Order) (new : Machine) → Settles w b n → (HasAddress w.kept.enrolled b → ⊥) → (HasRandom w.kept.enrolled n → ⊥)
    → o ≡ Commit (Enrol b n) → new ≡ machine_ordered w o → IsNext w o new
enrols w b n o new h none fresh order state = record { order = rw order (enrols_at w new.course b n h none fresh); state = ordered_on w o new state }
