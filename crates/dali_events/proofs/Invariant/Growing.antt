use Rattle.std.{proofs.Common.{◌≡◌, ℕ, List, [], ◌∷◌, ◌++◌, refl, subst}, specs.List.AllByRecursion}
use Rattle.dali_gear.specs.Row.{heard_of}
use Rattle.dali_script.specs.Records.{Has}
use Rattle.dali_events.specs.{Allowed.{Allowed, Hears}, Happens.happens, Plan.Plan, Runs.{after, after_all, AllAllowed, IsRun, LeavesUsed}, Used.used_shorts}
use Rattle.dali_events.specs.{World.{World, start}, declared.{event.Event.Event, used.Used.Used}}

-- HISTORIES GROW AT THE END. The world after a list of events and then more is the world after the two together.
pub after_both : (w : World) (es fs : List Event) → after_all w (es ++ fs) ≡ after_all (after_all w es) fs
after_both w [] fs = refl
after_both w (e ∷ es) fs = after_both (happens w e) es fs

-- one more event moves the world by what it does
pub after_more : (w : World) (es : List Event) (e : Event) → after_all w (es ++ e ∷ []) ≡ happens (after_all w es) e
after_more w es e = after_both w es (e ∷ [])

-- one more event that is allowed there goes on with what was allowed
pub allowed_more : (w : World) (es : List Event) (e : Event) → AllAllowed w es → Allowed (after_all w es) e → AllAllowed w (es ++ e ∷ [])
allowed_more w [] e all here = (here, tt)
allowed_more w (f ∷ es) e all here = (all.0, allowed_more (happens w f) es e all.1 here)

-- the front of a list of allowed events is allowed, and so is the rest in the world that the front leaves
pub allowed_front : (w : World) (es fs : List Event) → AllAllowed w (es ++ fs) → AllAllowed w es
allowed_front w [] fs all = tt
allowed_front w (e ∷ es) fs all = (all.0, allowed_front (happens w e) es fs all.1)

pub allowed_rest : (w : World) (es fs : List Event) → AllAllowed w (es ++ fs) → AllAllowed (after_all w es) fs
allowed_rest w [] fs all = all
allowed_rest w (e ∷ es) fs all = allowed_rest (happens w e) es fs all.1

-- and what holds of all events and of one more, holds of all of them
pub all_more : (P : Event → Type 0) (es : List Event) (e : Event) → AllByRecursion P es → P e → AllByRecursion P (es ++ e ∷ [])
all_more P [] e all here = (here, tt)
all_more P (f ∷ es) e all here = (all.0, all_more P es e all.1 here)

pub all_front : (P : Event → Type 0) (es fs : List Event) → AllByRecursion P (es ++ fs) → AllByRecursion P es
all_front P [] fs all = tt
all_front P (e ∷ es) fs all = (all.0, all_front P es fs all.1)

pub leaves_rest : (us : List Used) (es fs : List Event) → AllByRecursion (LeavesUsed us) (es ++ fs) → AllByRecursion (LeavesUsed us) fs
leaves_rest us [] fs all = all
leaves_rest us (e ∷ es) fs all = leaves_rest us es fs all.1

-- without used gear each event leaves them
pub leaves_none : (p : Plan) (e : Event) → p.used ≡ [] → LeavesUsed p.used e
leaves_none p e none c i a r is k = go (subst (λ (us : List Used). Has (used_shorts us) a) none k) where
  go : Has (used_shorts []) a → ⊥
  go h = elim h [ ]

pub leave_none : (p : Plan) → p.used ≡ [] → (es : List Event) → AllByRecursion (LeavesUsed p.used) es
leave_none p none [] = tt
leave_none p none (e ∷ es) = (leaves_none p e none, leave_none p none es)

pub run_more : (p : Plan) (capacity : ℕ) (log : List Event) (e : Event) → IsRun p capacity log → Allowed (after p capacity log) e → LeavesUsed p.used e
    → IsRun p capacity (log ++ e ∷ [])
run_more p capacity log e run here leaves = record {
  plan = run.plan;
  allowed = allowed_more (start p capacity) log e run.allowed here;
  leaves = all_more (LeavesUsed p.used) log e run.leaves leaves;
}

-- the last event of a run was allowed
pub last_allowed : (p : Plan) (capacity : ℕ) (log : List Event) (e : Event) → IsRun p capacity (log ++ e ∷ []) → Allowed (after p capacity log) e
last_allowed p capacity log e run = (allowed_rest (start p capacity) log (e ∷ []) run.allowed).0

-- hearing
pub plain_hearing : (answers : List ℕ) → Hears answers (heard_of answers)
plain_hearing (v ∷ []) = (λ e. (cc), (refl, tt))
plain_hearing _ = tt
