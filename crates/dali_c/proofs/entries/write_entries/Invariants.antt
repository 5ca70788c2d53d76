use Rattle.std.proofs.Common.{◌≡◌, length, take}
use Rattle.dali_c.specs.Entries.{AreEntries}
use Rattle.dali_c.proofs.entries.write_entries.Given as goal

abbrev pub invariant-loop-at : goal.invariant-loop-at
invariant-loop-at l = (length l.plain ≡ 8) × AreEntries (take l.at l.plain) (take l.at l.entries)
