use Rattle.std.proofs.Common.{◌≡◌, ap, ◌∙◌, sym, arith, length, ◌<◌}
use Rattle.dali_script.{specs.Pairs.pairs_in, proofs.Lists.room_more}
use Rattle.dali_script.proofs.pairs.Pairs.insert.Goals as goal

pub push-requires : goal.push-requires
push-requires c =
    let xs = pairs_in c.args.self.now in
    let all : length xs ≡ c.args.self.now.count = ap length (sym c.as_slice.ensures.value) ∙ c.as_slice.ensures.length in
    let room : length xs < 64 = room_more xs c.args.added.0 c.args.added.1 c.requires.map c.requires.fresh.0 c.requires.fresh.1 c.requires.short in
    omega (arith, all, room)

pub returns-clause-room : goal.returns-clause-room
returns-clause-room c =
    let xs = pairs_in c.args.self.now in
    let all : length xs ≡ c.args.self.now.count = ap length (sym c.as_slice.ensures.value) ∙ c.as_slice.ensures.length in
    let room : length xs < 64 = room_more xs c.args.added.0 c.args.added.1 c.requires.map c.requires.fresh.0 c.requires.fresh.1 c.requires.short in
    omega (arith, all, room, c.push.ensures.count)
