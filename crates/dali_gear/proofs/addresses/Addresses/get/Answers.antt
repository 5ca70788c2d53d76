use Rattle.std.proofs.Common.{rules, ◌∙◌, ap, get_or}
use Rattle.dali_gear.{specs.Gear.search_mask, proofs.Places.address_is, proofs.Places.addresses_len}
use Rattle.dali_gear.proofs.addresses.Addresses.get.Goals as goal

pub returns : goal.returns
returns c = address_is c.self.inside c.args.number search_mask (search (rules, addresses_len)) ∙ ap (λ xs. get_or xs c.args.number search_mask) c.self.view_is
