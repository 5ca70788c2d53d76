use Rattle.std.{proofs.Common.subst, specs.Io.KnownBytes.Appends}
use Rattle.dali_script.specs.declared.sending.Half.TheVariants.{Whole}
use Rattle.dali_commissioning.{specs.Drivers.writer_of, specs.Lines.put_text, proofs.Steps.line_told}
use Rattle.dali_commissioning.proofs.lighting.light.Goals as goal

pub returns-clause-put : goal.returns-clause-put
returns-clause-put g c = (
  c.in_ok-told.told,
  record {
    wrote = subst (λ f. Appends (g.W.Write.contents (writer_of c.args.driver.now))
        (g.W.Write.contents (writer_of c.exchange.new.self)) (put_text 2 f Whole))
        c.arc_power.ensures c.in_ok-told.ensures.wrote;
    hears = line_told _ _ c.in_ok-told.told c.in_ok-told.ensures.of_bus c.in_ok-told.ensures.told;
  },
  c.is_sent.ensures,
)
