use Rattle.std.proofs.Common.{take}
use Rattle.dali_c.specs.Entries.{AreEntries}
use Rattle.dali_c.proofs.entries.read_frames.Given as goal

abbrev pub invariant-loop-entry : goal.invariant-loop-entry
invariant-loop-entry l = AreEntries (take l.entry-index l.plain) l.trace
