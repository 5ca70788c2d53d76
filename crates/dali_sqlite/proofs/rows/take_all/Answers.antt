use Rattle.std.proofs.Common.{arith, Result, Ok, Err, OnErr}
use Rattle.dali_sqlite.proofs.Taken.{taken_more, never_taken, taken_all}
use Rattle.dali_sqlite.proofs.rows.take_all.Goals as goal

pub rows-preserved : goal.rows-preserved
rows-preserved c =
    let one = c.in_ok-take.ensures.ok in
    taken_more c.args.kept.now c.rows.kept c.args.rows.now c.rows.before c.index-rows-before.result c.rows-test.true c.index-rows-before.is c.rows.invariant
    c.take.new.kept one.0 one.1 one.2 one.3

whatever : {A E : Type 0} (r : Result A E) (P : Type 0) → P → OnErr r P
whatever (Ok a) P p = tt
whatever (Err e) P p = p

pub returns-in_err-take-clause-bad : goal.returns-in_err-take-clause-bad
returns-in_err-take-clause-bad c =
    let never = never_taken c.args.kept.now c.rows.kept c.args.rows.now c.rows.before c.index-rows-before.result c.rows-test.true c.index-rows-before.is
    c.rows.invariant c.in_err-take.ensures.bad in
    whatever c.from_residual.result _ (λ xs rows good. never xs (rows, good))

pub returns-clause-ok : goal.returns-clause-ok
returns-clause-ok c = taken_all c.args.kept.now c.rows.kept c.args.rows.now c.rows.before (omega arith) c.rows.invariant
