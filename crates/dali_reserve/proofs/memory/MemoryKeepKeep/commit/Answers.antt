use Rattle.std.proofs.Common.{List, [], ◌∷◌, ◌++◌, sym, subst}
use Rattle.dali_script.specs.declared.records.Record.{Record}
use Rattle.dali_script.specs.Records.{Kept, Fits}
use Rattle.dali_reserve.specs.Store.{IsReplay, HasRecords}
use Rattle.dali_reserve.proofs.Replays.{replay_ok, records_after}
use Rattle.dali_reserve.proofs.memory.MemoryKeepKeep.commit.Goals.{in-Ok, in-Err-AddressTaken, in-Err-RandomTaken, in-Err-NotReserved}
use Rattle.dali_reserve.proofs.memory.MemoryKeepKeep.commit.Goals as goal

fits : (c : goal.Joined-add) → Fits c.self.inside.kept.block c.args.added
fits c = subst (λ (k : Kept). Fits k.block c.args.added) (sym c.self.view_is) c.requires

kept : (c : goal.Joined-add) → HasRecords c.add.new.self
kept c =
    records_after c.self.inside.kept c.add.new.self c.args.added c.add.result c.add.ensures.short
    (fits c) c.add.ensures.success c.add.ensures.ok c.add.ensures.err c.self.invariant

pub invariant_of-self : goal.invariant_of-self
invariant_of-self c = kept c

pub returns-clause-adds : goal.returns-clause-adds
returns-clause-adds c = elim c.match-add.branch [
  | in-Ok w ↦ rw w.result-is (
      subst
      (λ (k : Kept). (xs : List Record) → IsReplay k.block xs k → IsReplay c.add.new.self.block (xs ++ c.args.added ∷ []) c.add.new.self)
      c.self.view_is
      (replay_ok c.self.inside.kept c.add.new.self c.args.added c.add.result w.in-Ok.field-0 w.in-Ok.is c.add.ensures.short
      (fits c) c.add.ensures.success c.add.ensures.ok)
      )
  | in-Err-AddressTaken w ↦ rw w.result-is tt
  | in-Err-RandomTaken w ↦ rw w.result-is tt
  | in-Err-NotReserved w ↦ rw w.result-is tt
]

pub returns-clause-sound : goal.returns-clause-sound
returns-clause-sound c = kept c
