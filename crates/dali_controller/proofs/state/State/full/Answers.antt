use Rattle.std.proofs.Common.{sym, ◌∙◌}
use Rattle.dali_controller.proofs.Beginnings.{full_asks}
use Rattle.dali_controller.proofs.state.State.full.Goals as goal

pub returns-then-asks_again : goal.returns-then-asks_again
returns-then-asks_again c =
    full_asks c.args.self.now c.args.kept.now c.note_asking.new.self _ _ c.requires.hunting
    (sym c.asks_again.ensures ∙ c.if-asks_again.true) c.note_asking.ensures c.ask_or_call.ensures

pub returns-else-asks_again : goal.returns-else-asks_again
returns-else-asks_again c = rw (sym c.asks_again.ensures ∙ c.if-asks_again.false) c.close.ensures
