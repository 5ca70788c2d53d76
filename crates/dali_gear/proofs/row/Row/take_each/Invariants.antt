use Rattle.std.proofs.Common.{◌≡◌, ℕ, ◌≤◌, ◌+◌, ◌*◌, ◌%◌, take, drop, ◌++◌, length, false}
use Rattle.dali_gear.{specs.Columns.IsUnpaired, specs.Row.row_after, specs.Row.answers_of, specs.Row.draws_needed, proofs.RowLemmas.total}
use Rattle.dali_gear.proofs.row.Row.take_each.Given as goal

abbrev pub invariant-loop-number : goal.invariant-loop-number
invariant-loop-number l = record {
  untouched : drop l.number l.self ≡ drop l.number l.fn.self;
  gear : take l.number l.self ++ row_after l.reach l.command l.number (drop l.number l.fn.self) (drop l.drawn l.draws)
      ≡ row_after l.reach l.command 0 l.fn.self l.draws;
  drawn : l.drawn + draws_needed l.reach l.command l.number (drop l.number l.fn.self) ≡ draws_needed l.reach l.command 0 l.fn.self;
  counted : l.answers + length (answers_of l.reach l.command l.number (drop l.number l.fn.self)) ≡ length (answers_of l.reach l.command 0 l.fn.self);
  summed : (bytes : ℕ) × (bytes + total (answers_of l.reach l.command l.number (drop l.number l.fn.self)) ≡ total (answers_of l.reach l.command 0 l.fn.self))
      × (l.sum ≡ bytes % 256) × (bytes ≤ 255 * l.answers);
  few : l.answers ≤ l.number;
  unpaired : l.paired ≡ false → IsUnpaired l.self;
  len : length l.self ≡ length l.fn.self;
}
