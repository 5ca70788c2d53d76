use Rattle.std.proofs.Common.{◌≡◌, ◌++◌, string_bytes, drop}
use Rattle.dali_audit.specs.Script.{draws_text}
use Rattle.dali_audit.proofs.script.push_draws.Given as goal

abbrev pub invariant-loop-draw : goal.invariant-loop-draw
invariant-loop-draw l =
    string_bytes l.text ++ draws_text (drop l.draw-index l.draws) ≡ string_bytes l.fn.text ++ draws_text l.draws
