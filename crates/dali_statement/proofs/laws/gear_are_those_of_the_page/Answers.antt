use Rattle.dali_statement.proofs.Gear.{step, pair, query, random, power_off, power_on, expired, quieted}
use Rattle.dali_statement.proofs.laws.gear_are_those_of_the_page.Goals as goal

pub returns : goal.returns
returns c = record {
  step = step;
  pair = pair;
  query = query;
  random = λ a v part g e. random a v part g e;
  power_off = power_off;
  power_on = power_on;
  expired = expired;
  quieted = quieted;
}
