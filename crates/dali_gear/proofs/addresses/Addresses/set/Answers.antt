use Rattle.std.proofs.Common.{rules, ◌∙◌, ap, set}
use Rattle.dali_gear.proofs.Places.{address_set, addresses_len}
use Rattle.dali_gear.proofs.addresses.Addresses.set.Goals as goal

pub returns : goal.returns
returns c =
    address_set c.self.inside c.args.number c.args.address (search (rules, addresses_len)) (search (rules, addresses_len)) (search (rules, addresses_len))
    (search (rules, addresses_len))
    ∙ ap (λ xs. set xs c.args.number c.args.address) c.self.view_is
