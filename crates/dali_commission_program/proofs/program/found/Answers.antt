use Rattle.std.specs.Prelude.{string_bytes}
use Rattle.dali_commission_program.proofs.Found.{found_so}
use Rattle.dali_commission_program.proofs.program.found.Goals as goal

pub returns : goal.returns
returns g c =
    found_so _ _ (λ line. string_bytes line.now.subcommand) (λ line. line.now.values.items) c.asked.result (λ alloc line it post. post.1)
    c.asked.ensures
