use Rattle.std.proofs.Common.{◌≡◌, ◌∙◌, Err, rules}
use Rattle.dali_commissioning.proofs.{Ran.run_of, Ran.spent_of, Ran.same_grows, Ran.left_grows, Steps.stays_further}
use Rattle.dali_commissioning.proofs.runs.run.Goals as goal
use Rattle.dali_commissioning.proofs.Rules.{unread_run, left_run}

pub returns-in-Err-clause-left : goal.returns-in-Err-clause-left
returns-in-Err-clause-left g c = same_grows g.K.Keep.is_up g.K.Keep.is_sound g.K.Keep.holds _ _ c.read.ensures.same

pub returns-in-Err-clause-left_rules : goal.returns-in-Err-clause-left_rules
returns-in-Err-clause-left_rules g c = unread_run g.K.Keep.is_up g.K.Keep.is_sound g.K.Keep.holds _ _ _ _ _ _ c.read.ensures.same

pub returns-in-Err-conduct-clause-left_rules : goal.returns-in-Err-conduct-clause-left_rules
returns-in-Err-conduct-clause-left_rules g c =
    left_run g.K.Keep.is_up g.K.Keep.is_sound g.K.Keep.holds g.K.Keep.kept g.K.Keep.must_read g.K.Keep.block g.met.K.Keep.replay
    _ _ _ _ _ _ _ _ c.in-Ok.kept c.in-Ok.ensures.answer c.in-Ok.ensures.is_read c.read.ensures.block
    (record { up = c.read.ensures.up; sound = c.read.ensures.sound }) c.conduct.ensures.stays c.read.ensures.same c.new-machine.ensures
    c.in-Err-conduct.ensures.left_rules

pub returns-in-Err-clause-stays : goal.returns-in-Err-clause-stays
returns-in-Err-clause-stays g c = record { up = c.read.ensures.up; sound = c.read.ensures.sound }

pub returns-in-Err-conduct-clause-left : goal.returns-in-Err-conduct-clause-left
returns-in-Err-conduct-clause-left g c = left_grows g.K.Keep.is_up g.K.Keep.is_sound g.K.Keep.holds _ _ _ _ _
    (record { up = c.read.ensures.up; sound = c.read.ensures.sound }) c.conduct.ensures.stays c.read.ensures.same
    c.in-Err-conduct.ensures.fault

pub returns-in-Err-conduct-clause-stays : goal.returns-in-Err-conduct-clause-stays
returns-in-Err-conduct-clause-stays g c = stays_further g.K.Keep.is_up g.K.Keep.is_sound _ _ _
    (record { up = c.read.ensures.up; sound = c.read.ensures.sound }) c.conduct.ensures.stays

pub returns-in-Ok-conduct-clause-ran : goal.returns-in-Ok-conduct-clause-ran
returns-in-Ok-conduct-clause-ran g c =
    let (waiting, count, at) = c.in-Ok-conduct.ensures.ended in
    run_of g.K.Keep.is_up g.K.Keep.is_sound g.K.Keep.holds g.K.Keep.kept g.K.Keep.must_read g.K.Keep.block g.met.K.Keep.replay
    _ _ _ _ _ _ _ _ c.in-Ok.kept waiting c.in-Ok-conduct.pass count c.in-Ok.ensures.answer c.in-Ok.ensures.is_read c.read.ensures.block
    (record { up = c.read.ensures.up; sound = c.read.ensures.sound }) c.read.ensures.same c.new-machine.ensures at
    c.in-Ok-conduct.ensures.heard c.in-Ok-conduct.ensures.found c.in-Ok-conduct.ensures.tries c.in-Ok-conduct.ensures.tally

pub returns-in-Ok-conduct-clause-stays : goal.returns-in-Ok-conduct-clause-stays
returns-in-Ok-conduct-clause-stays g c = stays_further g.K.Keep.is_up g.K.Keep.is_sound _ _ _
    (record { up = c.read.ensures.up; sound = c.read.ensures.sound }) c.conduct.ensures.stays

pub returns-in-Err-conduct-clause-steps : goal.returns-in-Err-conduct-clause-steps
returns-in-Err-conduct-clause-steps g c =
    let is : c.conduct.result ≡ Err c.in-Err-conduct.fault = search rules in
    λ spent. spent_of g.K.Keep.is_up g.K.Keep.is_sound g.K.Keep.holds g.K.Keep.kept g.K.Keep.must_read g.K.Keep.block g.met.K.Keep.replay
    _ _ _ _ _ _ _ _ c.in-Ok.kept c.in-Ok.ensures.answer c.in-Ok.ensures.is_read c.read.ensures.block
    (record { up = c.read.ensures.up; sound = c.read.ensures.sound }) c.read.ensures.same c.new-machine.ensures (c.conduct.ensures.spent (is ∙ spent))
