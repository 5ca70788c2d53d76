use Rattle.dali_progress.proofs.Replaced.{served, served_only, others_kept, others_named, run_served, vacant_now, new_served}
use Rattle.dali_progress.proofs.laws.a_replaced_gear_gets_the_address.Goals as goal

pub returns : goal.returns
returns c =
    record { served = served; address = served_only; keeps = others_kept; named = others_named; run = run_served; vacant = vacant_now; new = new_served }
