use Rattle.std.specs.Prelude.{codes, decimal}
use Rattle.dali_replay.{specs.Text.heard_text, proofs.TextLemmas.two_more}
use Rattle.dali_replay.proofs.text.push_sent.Goals as goal

pub returns : goal.returns
returns c = two_more _ _ _ (decimal c.args.c) (codes ": sent ") (heard_text c.args.frame c.args.answer) c.in_ok-write.ensures.bytes c.in_ok-push_heard.ensures
