use Rattle.std.proofs.{Common.{◌≡◌, ℕ, ◌<◌, List, refl, subst, ◌∙◌, length, Option, Some, None}, lemmas.List.{get_or-map, length-map}}
use Rattle.dali_script.specs.{Findings.assigned, Records.{Assignment, Kept, InBlock, IsKept, MayAdd, Fits, address_of}, declared.block.Block.Block}
use Rattle.dali_script.specs.declared.{finding.Finding.Finding, orders.Order.{Order, TheVariants.{Put, Commit}}, records.Record.Record}
use Rattle.dali_script.{specs.declared.records.Record.TheVariants.{Reserve, Enrol, Release}, proofs.Lists.{has_map, kept_none, kept_more, block_stays}}
use Rattle.dali_script.proofs.{Lists.reserved_fits, Members.Each}
use Rattle.dali_events.specs.{Allowed.{Allowed, MayOrder, MayCommit}, Happens.{happens, with_outstanding, controller_informed}, Laws.KeepsRecords, Plan.Plan}
use Rattle.dali_events.specs.{Plan.{IsPlan, block_at, no_block}, World.{World, Controller, controller_at, nobody, controller_begun, start}}
use Rattle.dali_events.{specs.declared.event.Event.Event, proofs.Invariant.Controllers.{Property, Stands, Of, AddsOrder, Adds, controllers_step}}
use Rattle.dali_events.proofs.Invariant.Controllers.{controllers_count}
use Rattle.dali_events.specs.declared.event.Event.TheVariants as event

-- RECORDS ARE KEPT, AND AN OUTSTANDING ONE MAY BE ADDED
pub record IsNewRecord (kept : Kept) (x : Record) : Type 0 where
  pub may : MayAdd kept x
  pub fits : Fits kept.block x
  pub short : address_of x < 64

pub record Keeping (b : Block) (kept : Kept) (o : Option Record) : Type 0 where
  pub block : kept.block ≡ b
  pub kept_so : IsKept kept
  pub new : (x : Record) → o ≡ Some x → IsNewRecord kept x

abbrev pub KeepsAs : Plan → Property
KeepsAs p c kept o f = Keeping (block_at p c) kept o

block_kept : (kept : Kept) (o : Option Record) → (with_outstanding kept o).block ≡ kept.block
block_kept kept None = refl
block_kept kept (Some x) = block_stays kept x

keep_all : (kept : Kept) (o : Option Record) → IsKept kept → ((x : Record) → o ≡ Some x → IsNewRecord kept x) → IsKept (with_outstanding kept o)
keep_all kept None k new = k
keep_all kept (Some x) k new = let n = new x refl in kept_more kept x k n.fits n.short n.may

keeping_stands : (p : Plan) → Stands (KeepsAs p)
keeping_stands p = record {
  keep = λ c kept o f h. record { block = block_kept kept o ∙ h.block; kept_so = keep_all kept o h.kept_so h.new; new = λ x e. absurd (cc) };
  drop = λ c kept o f h. record { block = h.block; kept_so = h.kept_so; new = λ x e. absurd (cc) };
  forget = λ c kept o f h. h;
}

one_new : (kept : Kept) (y : Record) → IsNewRecord kept y → (x : Record) → Some y ≡ Some x → IsNewRecord kept x
one_new kept y n x e = subst (λ z. IsNewRecord kept z) (let same : y ≡ x = cc in same) n

-- what may be committed may be added; the address of an enrolment is that of the finding
commits : (k : Controller) (x : Record) → MayCommit k x → IsKept k.records → ((a : ℕ) → InBlock k.records.block a → a < 64)
    → ((y : Finding) → k.finding ≡ Some y → (assigned y).0 < 64) → IsNewRecord k.records x
commits k (Reserve a r) may kept own found = record { may = may.2; fits = (may.0, may.1); short = own a may.0 }
commits k (Enrol a r) may kept own found = record { may = may.2; fits = may.1; short = subst (λ (p : Assignment). p.0 < 64) may.0.2 (found may.0.0 may.0.1) }
commits k (Release a r) may kept own found = record {
  may = may.0;
  fits = reserved_fits k.records a r kept may.0;
  short = kept.reserved.short a (has_map (λ p. p.0) k.records.reserved (a, r) may.0);
}

-- each finding is of a short address
abbrev pub AreShort : World → Type 0
AreShort w = (c : ℕ) → c < length w.controllers → (y : Finding) → (controller_at w c).finding ≡ Some y → (assigned y).0 < 64

order_keeps : (p : Plan) → IsPlan p → (w : World) (c : ℕ) → c < length p.blocks → (k : Controller) (o : Order) → MayOrder w c k o
    → ((y : Finding) → k.finding ≡ Some y → (assigned y).0 < 64) → AddsOrder (KeepsAs p) c k o
order_keeps p plan w c there k (Commit x) may found = λ h. record {
  block = h.block;
  kept_so = h.kept_so;
  new = one_new k.records x (commits k x may.1 h.kept_so (λ a within. plan.short c a there (subst (λ b. InBlock b a) h.block within)) found);
}
order_keeps p plan w c there k (Put q f) may found = tt
order_keeps p plan w c there k _ may found = tt

keeps_add : (p : Plan) → IsPlan p → (w : World) (e : Event) → Allowed w e → AreShort w → length w.controllers ≡ length p.blocks → Adds (KeepsAs p) w e
keeps_add p plan w (event.Acted c i o) here short count =
    order_keeps p plan w c (subst (λ n. c < n) count here.up.known) (controller_informed (controller_at w c) i) o here.order (short c here.up.known)
keeps_add p plan w (event.Sent c f h) here short count = λ there k. k
keeps_add p plan w _ here short count = tt

pub record AllKeep (p : Plan) (cs : List Controller) : Type 0 where
  pub count : length cs ≡ length p.blocks
  pub each : Each nobody (Of (KeepsAs p)) cs

pub keeping_step : (p : Plan) → IsPlan p → (w : World) (e : Event) → Allowed w e → AreShort w → AllKeep p w.controllers → AllKeep p (happens w e).controllers
keeping_step p plan w e here short all = record {
  count = controllers_count w e ∙ all.count;
  each = controllers_step (KeepsAs p) (keeping_stands p) w e (keeps_add p plan w e here short all.count) all.each;
}

pub keeps_start : (p : Plan) (capacity : ℕ) → AllKeep p (start p capacity).controllers
keeps_start p capacity = record {
  count = length-map p.blocks controller_begun;
  each = λ i h.
      let there : i < length p.blocks = subst (λ n. i < n) (length-map p.blocks controller_begun) h in
      rw (get_or-map controller_begun p.blocks i no_block nobody there)
      (record { block = refl; kept_so = kept_none (block_at p i); new = λ x e. absurd (cc) });
}

pub records_of : (p : Plan) (w : World) → AllKeep p w.controllers → KeepsRecords p w
records_of p w all = record {
  block = λ c there. (all.each c there).block;
  kept = λ c there. (all.each c there).kept_so;
  may_add = λ c x there e. ((all.each c there).new x e).may;
  fits = λ c x there e. ((all.each c there).new x e).fits;
}
