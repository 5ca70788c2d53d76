use Rattle.std.proofs.Common.{◌∙◌, sym}
use Rattle.dali_c.{specs.Entries.no_entry, proofs.Lists.unread_entry, proofs.Lists.unlawful_entry, proofs.Lists.if_none}
use Rattle.dali_c.proofs.entries.read_frames.Goals as goal

pub returns-in_err-frame-clause-none : goal.returns-in_err-frame-clause-none
returns-in_err-frame-clause-none c =
    if_none c.from_residual.result
    (λ none. λ t are sent.
    unread_entry c.args.plain.now t c.loop-entry.entry-index no_entry c.loop-entry-test.true (sym c.read.ensures ∙ c.in_err-frame.was) are)

pub returns-then-not-add-clause-none : goal.returns-then-not-add-clause-none
returns-then-not-add-clause-none c = λ t are sent.
    unlawful_entry c.args.plain.now c.loop-entry.trace t c.loop-entry.entry-index no_entry c.in_ok-frame.field-0 c.loop-entry-test.true
    (sym c.read.ensures ∙ c.in_ok-frame.was) c.loop-entry.invariant
    (λ lawful. absurd (let may = c.if-not-add.ensures.lawful.1 lawful in cc)) are sent
