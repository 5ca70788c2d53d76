use Rattle.std.proofs.Common.{false, refl, subst}
use Rattle.sqlite.specs.Held.{state}
use Rattle.dali_sqlite.{specs.Stored.IsStored, proofs.Known.more_stored}
use Rattle.dali_sqlite.proofs.keep.SqliteKeepKeep.commit.Goals as goal

pub returns-clause-sound : goal.returns-clause-sound
returns-clause-sound g c sound up =
    let old = state g.S.Store c.args.self.now.conn in
    let kept = c.args.self.now.kept in
    let read : IsStored old kept c.args.self.now.count false = subst (IsStored old kept c.args.self.now.count) c.if-self.false sound in
    more_stored old (state g.S.Store c.write.new.conn) kept c.add.new.self c.args.self.now.count c.in_ok-self.field-0 c.args.added c.add.ensures.short
    c.requires (c.in-Ok.ensures.success.0 refl)
    c.in-Ok.ensures.ok c.in_ok-self.ensures.count (c.in_ok-self.ensures.added up.0) read

pub returns-clause-durable : goal.returns-clause-durable
returns-clause-durable g c sound clean xs held = c.in_ok-self.ensures.durable clean xs (sound.known c.if-self.false xs held).1 held
