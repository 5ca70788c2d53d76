use Rattle.std.proofs.Common.{◌∙◌, sym, subst, get_or}
use Rattle.dali_frame.specs.declared.frames.Answer.TheVariants.{Silence}
use Rattle.dali_script.{specs.Scripts.IsLawful, specs.declared.trace.Entry.Entry, proofs.Senders.sent_at}
use Rattle.dali_script.proofs.trace.Trace.of.Goals as goal

pub returns-then-not-add-clause-sent : goal.returns-then-not-add-clause-sent
returns-then-not-add-clause-sent c =
    let none : Entry = record { frame = record { address_byte = 0; opcode_byte = 0 }; heard = Silence } in
    let entries = c.args.entries.now in
    let i = c.loop-entry.entry-index in (
      λ e. absurd (cc),
      λ sent.
          sym c.if-not-add.true ∙ c.add.ensures.lawful.1
          (subst (λ t. IsLawful t (get_or entries i none).frame) (sym c.loop-entry.invariant) (sent_at entries i none sent c.loop-entry-test.true)),
    )
