use Rattle.std.proofs.Common.{◌≡◌, ℕ, ◌<◌, ◌≤◌, List, map, length, length-set, refl, subst}
use Rattle.std.proofs.lemmas.List.{length-map}
use Rattle.dali_special.specs.Command.{command_of}
use Rattle.dali_gear.specs.{Gear.gear_quieted, declared.row.Reach.TheVariants.Everyone, declared.row.Reach.TheVariants.Only}
use Rattle.dali_script.{specs.Records.Has, proofs.Lists.few, proofs.Members.mapped_from}
use Rattle.dali_events.specs.{Allowed.Allowed, Happens.happens, Happens.gear_interrupted, Plan.Plan, Runs.after, Runs.IsRun, Runs.LeavesUsed, World.World}
use Rattle.dali_events.specs.declared.event.Event.{Event}
use Rattle.dali_events.proofs.Invariant.{Safe.Holds, Safe.holds_step, Safe.holds_after, Takes.row_length}
use Rattle.dali_events.specs.declared.event.Event.TheVariants as event

-- THERE ARE AT MOST AS MANY GIFTS AS GEAR.

-- as many gear as before
pub gear_count : (w : World) (e : Event) → length (happens w e).gear ≡ length w.gear
gear_count w (event.Sent c f h) = row_length Everyone (command_of f) 0 w.gear w.left
gear_count w (event.Destroyed c f set) = row_length (Only set) (command_of f) 0 w.gear w.left
gear_count w event.Quiet = length-map w.gear gear_quieted
gear_count w (event.Foreign f) = length-map w.gear gear_interrupted
gear_count w (event.Power g on) = length-set w.gear g _
gear_count w (event.Expired g) = length-set w.gear g _
gear_count w _ = refl

-- each gear was given at most one address
gifts_within : (p : Plan) (w : World) → Holds p w → length w.gifts ≤ length w.gear
gifts_within p w holds =
    subst (λ n. n ≤ length w.gear) (length-map w.gifts (λ gift. gift.0)) (few (length w.gear) (map (λ gift. gift.0) w.gifts) holds.gifts.gear_once below) where
      below : (g : ℕ) → Has (map (λ gift. gift.0) w.gifts) g → g < length w.gear
      below g h = let k = mapped_from (λ gift. gift.0) w.gifts g h in subst (λ n. n < length w.gear) k.2 (holds.gifts.there k.0.0 k.0.1 k.1)

pub gifts_fit_after : (p : Plan) (capacity : ℕ) (log : List Event) (e : Event) → IsRun p capacity log → Allowed (after p capacity log) e → LeavesUsed p.used e
    → length (happens (after p capacity log) e).gifts ≤ length (after p capacity log).gear
gifts_fit_after p capacity log e run here leaves =
    subst (λ n. length (happens (after p capacity log) e).gifts ≤ n) (gear_count (after p capacity log) e)
    (gifts_within p (happens (after p capacity log) e) (holds_step p run.plan (after p capacity log) e here leaves (holds_after p capacity log run)))
