use Rattle.std.proofs.Common.{◌≡◌, ◌+◌, ◌∷◌, [], ap, sym, ◌∙◌, arith, length, length-append, true, false, ◌<◌}
use Rattle.dali_script.specs.{Pairs.pairs_in, Records.IsMap, Records.HasAddress, Records.HasRandom}
use Rattle.dali_script.proofs.Lists.{map_more, room_more}
use Rattle.dali_script.proofs.assignments.Assignments.insert.Goals as goal

pub push-requires : goal.push-requires
push-requires c =
    let no_address : HasAddress (pairs_in c.self.inside.pairs) c.args.address → ⊥ =
    rw c.self.view_is (λ h. let no : false ≡ true = c.if-has_address.ensures.value.1 h in cc) in
    let no_random : HasRandom (pairs_in c.self.inside.pairs) c.args.random → ⊥ =
    rw c.self.view_is (λ h. let no : false ≡ true = c.if-has_random.ensures.1 h in cc) in
    let room : length (pairs_in c.self.inside.pairs) < 64 = room_more _ _ _ c.self.invariant.1 no_address no_random c.has_address.ensures.short in
    omega (arith, room, c.self.invariant.2)

is_map : (c : goal.After-push) → IsMap (pairs_in c.push.new.self)
is_map c =
    rw (c.push.ensures.pairs, c.of.ensures.pair, c.self.view_is)
    (map_more _ _ _ (rw c.self.view_is at c.self.invariant.1) (λ h. let no : false ≡ true = c.if-has_address.ensures.value.1 h in cc)
    (λ h. let no : false ≡ true = c.if-has_random.ensures.1 h in cc)
    c.has_address.ensures.short)

pub invariant_of-self : goal.invariant_of-self
invariant_of-self c =
    let same : length (pairs_in c.push.new.self) ≡ c.push.new.self.count =
    ap length c.push.ensures.pairs ∙ length-append (pairs_in c.self.inside.pairs) (c.of.result ∷ []) ∙ ap (λ n. n + 1) c.self.invariant.2
    ∙ sym c.push.ensures.count in
    let map = is_map c in
    (omega (arith, same, map.room), map, same)

pub returns-clause-map : goal.returns-clause-map
returns-clause-map c = is_map c
