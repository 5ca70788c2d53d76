use Rattle.std.proofs.Common.{◌≡◌, ◌+◌, ◌++◌, arith, suc}
use Rattle.dali_script.{specs.Records.Assignment, specs.Records.without_pair, proofs.Lists.without_none, proofs.Lists.without_place}
use Rattle.dali_script.proofs.assignments.Assignments.is_without.Goals as goal

pub returns-in-Some : goal.returns-in-Some
returns-in-Some c =
    let gone : Assignment = c.args.gone in
    let found = rw c.pairs-pairs.ensures.value at c.in-Some.ensures in
    let left = without_place gone c.args.other.now c.in-Some.place gone c.pairs-pairs.ensures.map.address_once found.0 found.1 in
    let next : c.in-Some.place + 1 ≡ suc c.in-Some.place = omega arith in
    let parts : c.split_at.result.0.now ++ c.split_at-in-Some.result.1.now ≡ without_pair c.args.gone c.args.other.now =
    rw (c.split_at.ensures.front, c.split_at-in-Some.ensures.back, c.pairs-pairs.ensures.value, next) left in
    rw (← parts, ← c.pairs.ensures.value) c.are_both.ensures

pub returns-in-None : goal.returns-in-None
returns-in-None c =
    let none : without_pair c.args.gone c.args.other.now ≡ c.args.other.now =
    without_none c.args.gone c.args.other.now (rw c.pairs-pairs.ensures.value at c.in-None.ensures) in
    rw none c.same.ensures
