use Rattle.std.proofs.Common.{rules, ◌≡◌, ◌∙◌, length, arith, ◌≤◌}
use Rattle.std.proofs.lemmas.List.{take-set}
use Rattle.dali_script.proofs.Fronts.{removed, cleared}
use Rattle.dali_script.proofs.pairs.Pairs.remove.Goals as goal

few : (c : goal.After-index-self-from) → c.args.self.now.count ≤ length c.args.self.now.pairs
few c =
    let all : length c.args.self.now.pairs ≡ 64 = search rules in
    omega (arith, all, c.requires.room)

pub returns-clause-pairs : goal.returns-clause-pairs
returns-clause-pairs c =
    rw (c.from-2.ensures, c.copy_within.ensures.after, c.from.ensures)
    (take-set _ _ _ ∙ removed c.args.self.now.pairs c.args.place c.args.self.now.count c.requires.place (few c))

pub returns-clause-cleared : goal.returns-clause-cleared
returns-clause-cleared c all j past =
    rw (c.from-2.ensures, c.copy_within.ensures.after, c.from.ensures, c.default.ensures)
    (cleared c.args.self.now.pairs c.args.place c.args.self.now.count (0, 0) c.requires.place (few c) all j past)
