use Rattle.std.proofs.Common.{◌≡◌, ◌<◌, true, refl, length, arith}
use Rattle.dali_script.{specs.Stages.may_come, proofs.Found.trace_more, proofs.Senders.lawful_comes, proofs.Senders.comes_lawful, proofs.Transactions.room}
use Rattle.dali_script.proofs.trace.Trace.add.Goals as goal

pub push-requires : goal.push-requires
push-requires c =
    let comes = rw (c.self.invariant.stage, c.read.ensures.table) at (c.in-Some.ensures.comes.0 refl) in
    let lawful = comes_lawful c.self.inside.entries.items c.args.frame comes in
    let short : length c.self.inside.entries.items < 8 = room lawful.0 lawful.1 c.self.inside.entries.items c.args.frame lawful.2 in
    omega arith

pub invariant_of-self : goal.invariant_of-self
invariant_of-self c =
    let comes = rw (c.self.invariant.stage, c.read.ensures.table) at (c.in-Some.ensures.comes.0 refl) in
    rw (c.push.ensures.items, c.in-Some.ensures.stage, c.read.ensures.table)
    (trace_more c.self.inside.stage c.self.inside.entries.items c.args.frame c.args.heard (comes_lawful c.self.inside.entries.items c.args.frame comes)
    c.self.invariant)

pub returns-in-Some-clause-lawful : goal.returns-in-Some-clause-lawful
returns-in-Some-clause-lawful c =
    let comes = rw (c.self.invariant.stage, c.read.ensures.table) at (c.in-Some.ensures.comes.0 refl) in
    (λ e. rw (← c.self.view_is) (comes_lawful c.self.inside.entries.items c.args.frame comes), λ lawful. refl)

pub returns-in-None-clause-lawful : goal.returns-in-None-clause-lawful
returns-in-None-clause-lawful c = (
  λ e. absurd (cc),
  λ lawful.
      let comes : may_come c.self.inside.stage c.read.result ≡ true =
      rw (c.self.invariant.stage, c.read.ensures.table) (lawful_comes c.self.inside.entries.items c.args.frame (rw (← c.self.view_is) at lawful)) in
      absurd (let some = c.in-None.ensures.comes.1 comes in cc),
)
