use Rattle.dali_bus_laws.proofs.Transactions.{broken_known, noticed}
use Rattle.dali_bus_laws.proofs.laws.a_broken_transaction_is_known.Goals as goal

pub returns : goal.returns
returns c = record { known = broken_known; noticed = noticed }
