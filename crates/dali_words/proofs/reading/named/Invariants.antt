use Rattle.std.proofs.Common.{◌≡◌, drop, bytes_eq}
use Rattle.std.specs.Prelude.{find}
use Rattle.dali_words.proofs.reading.named.Given as goal

abbrev pub invariant-loop-from : goal.invariant-loop-from
invariant-loop-from l =
    find (λ from. bytes_eq from.name.now l.name) (drop l.from-index l.program.subcommands.now)
    ≡ find (λ from. bytes_eq from.name.now l.name) l.program.subcommands.now
