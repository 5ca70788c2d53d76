use Rattle.std.specs.Prelude.{ℕ, ◌+◌, min, Bool, not, ◌&&◌, ◌||◌}
use Rattle.std.specs.Prelude.{Some, None, if◌then◌else◌}
use Rattle.dali_frame.specs.declared.frames.Answer.{Answer}
use Rattle.dali_frame.specs.declared.frames.Answer.TheVariants.{Silence}
use Rattle.dali_special.specs.declared.command.Command.{Command}
use Rattle.dali_special.specs.Command.{command_of}
use Rattle.dali_arbiter.specs.Arbiter.{owns}
use Rattle.dali_script.specs.declared.stage.Stage.{Stage}
use Rattle.dali_script.specs.declared.stage.Stage.TheVariants.{Free, Over}
use Rattle.dali_script.specs.Stages.{may_come, next_stage}
use Rattle.dali_events.specs.declared.event.Event.{Event}
use Rattle.dali_events.specs.declared.event.Event.TheVariants as event
use Rattle.dali_events.specs.Happens.{keeps_bus}
use Rattle.dali_story.specs.declared.transactions.Running.{Running}

-- so many and so many more, as far as 64 bits go: no run comes so far
abbrev pub counted : ℕ → ℕ → ℕ
counted n more = min (n + more) 18446744073709551615

-- WHICH FRAMES BELONG TOGETHER. In a run of a site it is the trace of the owner: so says the law in
-- specs/Places. On a bench no controller owns the bus, and frames may be of no script.

-- A frame goes on with the transaction of its sender, who has not given up the bus since, if it
-- may come next in the script, or if it may begin none.
abbrev pub goes_on : Running → ℕ → Command → Bool
goes_on r c x = owns r.owner c && (may_come r.stage x || not (may_come Free x))

-- how far it is with the frame
abbrev pub led : Stage → Command → Answer → Stage
led s x h = if may_come s x then next_stage s x h else Over

-- THE TRANSACTION OF A FRAME: the running one with a frame more, or the next one.
abbrev pub further_frame : Running → ℕ → Command → Answer → Running
further_frame r c x h = record {
  begun = r.begun;
  frames = counted r.frames 1;
  owner = Some c;
  stage = led r.stage x h;
}

abbrev pub first_frame : Running → ℕ → Command → Answer → Running
first_frame r c x h = record {
  begun = counted r.begun 1;
  frames = 1;
  owner = Some c;
  stage = led Free x h;
}

abbrev pub with_frame : Running → ℕ → Command → Answer → Running
with_frame r c x h = if goes_on r c x then further_frame r c x h else first_frame r c x h

-- nothing goes on with it, if so
abbrev pub given_up : Running → Running
given_up r = record { begun = r.begun; frames = r.frames; owner = None; stage = r.stage }

abbrev pub given_up_if : Bool → Running → Running
given_up_if so r = if so then given_up r else r

-- An event that ends the ownership of the bus ends its transaction, as `happens` has it.
abbrev pub running_after : Event → Running → Running
running_after (event.Sent c f h) r = with_frame r c (command_of f) h
running_after (event.Destroyed c f set) r = given_up (with_frame r c (command_of f) Silence)
running_after (event.Collided c f d g) r = given_up r
running_after event.Lapsed r = given_up r
running_after (event.Acted c i o) r = given_up_if (owns r.owner c && not (keeps_bus o)) r
running_after (event.Down c) r = given_up_if (owns r.owner c) r
running_after (event.Offered c f) r = r
running_after event.Quiet r = r
running_after (event.Foreign f) r = r
running_after (event.Power g on) r = r
running_after (event.Expired g) r = r
running_after (event.Up c kept) r = r

-- before the first frame
abbrev pub none_runs : Running
none_runs = record { begun = 0; frames = 0; owner = None; stage = Free }
