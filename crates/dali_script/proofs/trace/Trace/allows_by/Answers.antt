use Rattle.std.proofs.Common.{◌≡◌, ◌∙◌, sym}
use Rattle.dali_special.specs.Command.{command_of}
use Rattle.dali_script.specs.Stages.{follows, stage_of}
use Rattle.dali_script.proofs.Transactions.{follows_lawful, lawful_follows, follows_test, follows_from_test}
use Rattle.dali_script.proofs.trace.Trace.allows_by.Goals as goal

pub returns-clause-lawful : goal.returns-clause-lawful
returns-clause-lawful c =
    let k = c.args.records.now in
    let t = c.args.self.now in
    let f = c.args.frame in
    let answer : c.allows.result ≡ follows k.block k.reserved (stage_of t) (command_of f) = cc in (
      λ e. lawful_follows k.block k.reserved t f (follows_from_test k.block k.reserved (stage_of t) (command_of f) (sym answer ∙ e)),
      λ lawful. answer ∙ follows_test k.block k.reserved (stage_of t) (command_of f) (follows_lawful k.block k.reserved t f lawful),
    )
