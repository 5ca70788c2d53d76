use Rattle.std.proofs.Common.{◌≡◌, ℕ, ◌<◌, [], ◌∷◌, ◌++◌, sym, ap, subst, length, get_or-set_same, Some, IfSome}
use Rattle.dali_script.specs.{Due.record_ordered, Records.Fits, declared.block.Block.Block, declared.orders.Input.Input, declared.orders.Order.Order}
use Rattle.dali_script.specs.declared.orders.Order.TheVariants.{Put, Commit, Done, Halt}
use Rattle.dali_script.specs.declared.records.Record.{Record}
use Rattle.dali_events.specs.{Allowed.Allowed, Happens.happens, Happens.controller_acted, Laws.KeepsRecords, Plan.Plan, Plan.block_at, Runs.IsRun}
use Rattle.dali_events.specs.{Runs.LeavesUsed, World.World, World.Controller, World.controller_at, World.nobody, World.start, declared.event.Event.Event}
use Rattle.dali_events.proofs.Invariant.{Controllers.controllers_count, Growing.after_more, Growing.run_more}
use Rattle.dali_events.specs.declared.event.Event.TheVariants as event
use Rattle.dali_world.{specs.Site.SiteState, specs.Site.Receipt, specs.Site.world, specs.Site.HasActed, proofs.Logs.records_now}

-- A RECORD THAT IS ORDERED FITS the block that the plan gives to its controller: it is outstanding once it is ordered, and what is outstanding fits.
keeps_after : (s : SiteState) (e : Event) → IsRun s.plan s.queue s.log → Allowed (world s) e → LeavesUsed s.plan.used e
    → KeepsRecords s.plan (happens (world s) e)
keeps_after s e run allowed leaves =
    subst (KeepsRecords s.plan) (after_more (start s.plan s.queue) s.log e)
    (records_now s.plan s.queue (s.log ++ e ∷ []) (run_more s.plan s.queue s.log e run allowed leaves))

ordered_last : (w : World) (c : ℕ) (i : Input) (x : Record) → c < length w.controllers
    → (controller_at (happens w (event.Acted c i (Commit x))) c).outstanding ≡ Some x
ordered_last w c i x there =
    ap (λ (k : Controller). k.outstanding) (get_or-set_same w.controllers c (controller_acted (controller_at w c) i (Commit x)) nobody there)

fits_order : (p : Plan) (w : World) (c : ℕ) (i : Input) (o : Order) → c < length w.controllers → KeepsRecords p (happens w (event.Acted c i o))
    → IfSome (record_ordered (Some o)) (Fits (block_at p c))
fits_order p w c i (Put q f) there keeps = tt
fits_order p w c i (Commit x) there keeps =
    let known : c < length (happens w (event.Acted c i (Commit x))).controllers =
    subst (λ n. c < n) (sym (controllers_count w (event.Acted c i (Commit x)))) there in
    subst (λ (b : Block). Fits b x) (keeps.block c known) (keeps.fits c x known (ordered_last w c i x there))
fits_order p w c i (Done e) there keeps = tt
fits_order p w c i (Halt why) there keeps = tt

pub fits_acted : (s : SiteState) (c : ℕ) (i : Input) (r : Receipt) (new : SiteState) → IsRun s.plan s.queue s.log → HasActed s c i r new
    → IfSome (record_ordered (Some r.order)) (Fits (block_at s.plan c))
fits_acted s c i r new run acted =
    let allowed : Allowed (world s) (event.Acted c i r.order) = acted.logs.0.allowed in
    fits_order s.plan (world s) c i r.order allowed.up.known (keeps_after s (event.Acted c i r.order) run allowed acted.leaves)
