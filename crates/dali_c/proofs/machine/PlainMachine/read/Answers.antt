use Rattle.std.proofs.Common.{◌≡◌, sym, subst, ◌∙◌, true, false}
use Rattle.dali_controller.specs.{States.machine_with, Whole.IsWhole}
use Rattle.dali_c.{specs.Records.kept_of, proofs.Machines.spells_once, proofs.Machines.read_of}
use Rattle.dali_c.proofs.machine.PlainMachine.read.Goals as goal

pub returns-then-is_whole : goal.returns-then-is_whole
returns-then-is_whole c =
    let p = c.args.self.now in
    let s = c.in_ok-state.state in
    let whole : IsWhole (machine_with s (kept_of p.records)) =
    subst (λ k. IsWhole (machine_with s k)) c.in_ok-records.ensures.1 (c.is_whole.ensures.0 c.if-is_whole.true) in
    read_of p s (record { spells = c.in_ok-state.ensures.spelled; records = c.in_ok-records.ensures.0; whole = whole })

pub returns-else-is_whole : goal.returns-else-is_whole
returns-else-is_whole c m holds =
    let p = c.args.self.now in
    let s = c.in_ok-state.state in
    let same = spells_once p.state holds.state s holds.held.spells c.in_ok-state.ensures.spelled in
    let whole : IsWhole (machine_with s (kept_of p.records)) = subst (λ x. IsWhole (machine_with x (kept_of p.records))) same holds.held.whole in
    let no : false ≡ true = sym c.if-is_whole.false ∙ c.is_whole.ensures.1 (subst (λ k. IsWhole (machine_with s k)) (sym c.in_ok-records.ensures.1) whole) in
    absurd (cc)
