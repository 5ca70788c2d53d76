use Rattle.std.proofs.Common.{◌≡◌, ◌++◌, string_bytes, drop}
use Rattle.dali_audit.specs.Script.{steps_text}
use Rattle.dali_audit.proofs.script.push_steps.Given as goal

abbrev pub invariant-loop-step : goal.invariant-loop-step
invariant-loop-step l =
    string_bytes l.text ++ steps_text (drop l.step-index l.steps) ≡ string_bytes l.fn.text ++ steps_text l.steps
