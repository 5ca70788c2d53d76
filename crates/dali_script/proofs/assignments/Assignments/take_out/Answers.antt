use Rattle.std.proofs.Common.{◌≡◌, ◌∙◌, ◌+◌, ap, arith, length, refl}
use Rattle.std.{proofs.lemmas.List.Edits.length-remove, specs.List.remove}
use Rattle.dali_script.specs.{Pairs.pairs_in, Records.IsMap, Records.Assignment, Records.without_pair}
use Rattle.dali_script.proofs.Lists.{has_place, map_left, without_place}
use Rattle.dali_script.proofs.assignments.Assignments.take_out.Goals as goal

-- what is left, of the pairs as they were
left : (c : goal.After-remove) → pairs_in c.remove.new.self ≡ without_pair (c.args.address, c.args.random) (pairs_in c.self.inside.pairs)
left c =
    let pair : Assignment = (c.args.address, c.args.random) in
    let found = rw (c.pairs.ensures.value, ← c.self.view_is, c.of.ensures.pair) at c.in-Some.ensures in
    c.remove.ensures.pairs ∙ without_place pair (pairs_in c.self.inside.pairs) c.in-Some.place pair c.self.invariant.1.address_once found.0 found.1

is_map : (c : goal.After-remove) → IsMap (pairs_in c.remove.new.self)
is_map c = rw (left c) (map_left (c.args.address, c.args.random) (pairs_in c.self.inside.pairs) c.self.invariant.1)

pub invariant_of-self : goal.invariant_of-self
invariant_of-self c =
    let found = rw (c.pairs.ensures.value, ← c.self.view_is, c.of.ensures.pair) at c.in-Some.ensures in
    let less : length (remove (pairs_in c.self.inside.pairs) c.in-Some.place) + 1 ≡ length (pairs_in c.self.inside.pairs) =
    length-remove (pairs_in c.self.inside.pairs) c.in-Some.place found.0 in
    let same : length (pairs_in c.remove.new.self) ≡ c.remove.new.self.count =
    omega (arith, less, ap length c.remove.ensures.pairs, c.self.invariant.2, c.remove.ensures.count) in
    let map = is_map c in
    (omega (arith, same, map.room), map, same)

pub returns-in-Some-clause-success : goal.returns-in-Some-clause-success
returns-in-Some-clause-success c =
    let found = rw (c.pairs.ensures.value, ← c.self.view_is, c.of.ensures.pair) at c.in-Some.ensures in (
      λ _. rw (← c.self.view_is) (has_place (pairs_in c.self.inside.pairs) c.in-Some.place (c.args.address, c.args.random)
          (c.args.address, c.args.random) found.0 found.1),
      λ _. refl,
    )

pub returns-in-Some-clause-ok : goal.returns-in-Some-clause-ok
returns-in-Some-clause-ok c = rw (← c.self.view_is) (left c)

pub returns-in-Some-clause-map : goal.returns-in-Some-clause-map
returns-in-Some-clause-map c = is_map c
