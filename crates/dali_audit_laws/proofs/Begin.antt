use Rattle.std.proofs.Common.{◌≡◌, ℕ, ◌<◌, ◌≤◌, inl, inr, Bool, true, false, List, [], refl, sym, ap, subst, arith, None, nat_lt}
use Rattle.std.proofs.lemmas.{Bool.Decides.nat_tests, List.get_or-replicate, List.get_or_past, List.length-replicate}
use Rattle.dali_gear.specs.Gear.{Gear}
use Rattle.dali_script.{specs.Records.Has, proofs.Transactions.stage_none}
use Rattle.dali_audit.specs.{Bus.bus_at_first, Findings.known_at_first, Findings.findings_in, Findings.known_in, Holders.holder_at, Holders.table_at_first}
use Rattle.dali_audit.specs.declared.holders.Holder.TheVariants as holder
use Rattle.dali_events.specs.{Plan.Plan, Plan.IsPlan, Runs.after, Wanted.gear_of, World.start, declared.event.Event.Event, declared.used.Used.Used}
use Rattle.dali_events.proofs.Invariant.{Safe.holds_start, Starting.IsUsedOrFresh, Starting.row_at, Starting.start_count}
use Rattle.dali_audit_laws.specs.Undisturbed.{at_first, IsUndisturbed}
use Rattle.dali_audit_laws.{specs.Capture.capture_of, specs.Tables.Holds, specs.Tables.IsTableOf, proofs.Grammar.Fits}
use Rattle.dali_audit_laws.proofs.Whole.{Agrees, Ended, Met, Any, IsToldOf, whole}

-- A RUN BEGINS: the table is empty, and gear from the factory have no short address

nobody_at : (a : ℕ) → holder_at table_at_first a ≡ holder.Nobody
nobody_at a = go (nat_lt a 64) refl where
  go : (m : Bool) → nat_lt a 64 ≡ m → holder_at table_at_first a ≡ holder.Nobody
  go true e = get_or-replicate 64 a holder.Nobody holder.Nobody (let below : a < 64 = grind (arith, nat_tests) in below)
  go false e = get_or_past table_at_first a holder.Nobody (let far : 64 ≤ a = grind (arith, nat_tests) in
      subst (λ n. n ≤ a) (sym (length-replicate 64 holder.Nobody)) far)

none_holds : (p : Plan) (capacity : ℕ) → p.used ≡ [] → (g a : ℕ) → Holds (start p capacity).gear g a → ⊥
none_holds p capacity factory g a has = go (row_at p g (subst (λ n. g < n) (start_count p) has.0)) where
  unused : (us : List Used) (u : Used) → us ≡ [] → Has us u → ⊥
  unused us u e has = let none : Has [] u = subst (λ xs. Has xs u) e has in none

  go : IsUsedOrFresh p g → ⊥
  go (inl k) = unused p.used k.0 factory k.1
  go (inr k) = let none : (gear_of (start p capacity).gear g).short ≡ None = ap (λ (x : Gear). x.short) k in let some = has.1 in cc

begins : (p : Plan) (plan : IsPlan p) (capacity : ℕ) → p.used ≡ [] → Agrees p (start p capacity) 0 false at_first known_at_first
begins p plan capacity factory = record {
  holds = holds_start p plan capacity;
  idle = λ e. refl;
  fits = subst (λ z. Fits (Ended (start p capacity).gear bus_at_first) (Met (start p capacity).gear []) Any z 0 false bus_at_first) (sym stage_none) (record {
    half = refl;
    drawn = λ t e. absurd (cc);
    given = refl;
    search = tt;
    spelled = tt;
    redraw = tt;
    quieted = tt;
    answered = tt;
    reserved = tt;
  });
  settled = λ t e. absurd (cc);
  closed = λ e. absurd (cc);
  begun = λ y e. absurd (cc);
  shut = λ e. absurd (cc);
  cut = λ t e. absurd (cc);
  table = record {
    true_of = λ a some. absurd (some (nobody_at a));
    has = λ g a has. absurd (none_holds p capacity factory g a has);
  };
  places = length-replicate 64 holder.Nobody;
}

told : (p : Plan) (capacity : ℕ) (log : List Event) (is : IsUndisturbed p capacity log)
    → IsToldOf p is.run.plan log (start p capacity) known_at_first None (capture_of log)
told p capacity log is =
    whole p is.run.plan (start p capacity) log 0 false at_first known_at_first None is.run.allowed is.run.leaves is.calm is.in_time
    (begins p is.run.plan capacity is.factory)

pub no_finding : (p : Plan) (capacity : ℕ) (log : List Event) → IsUndisturbed p capacity log → findings_in (capture_of log) ≡ []
no_finding p capacity log is = (told p capacity log is).findings

pub same_table : (p : Plan) (capacity : ℕ) (log : List Event) → IsUndisturbed p capacity log
    → IsTableOf (after p capacity log).gear (known_in (capture_of log)).table
same_table p capacity log is = (told p capacity log is).table
