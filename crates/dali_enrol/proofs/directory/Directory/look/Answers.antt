use Rattle.std.proofs.Common.{ap, sym, ◌∙◌, arith, refl}
use Rattle.std.proofs.lemmas.Option.{IfSome_then}
use Rattle.once_cell.specs.Once.{cell_name}
use Rattle.dali_enrol.proofs.Passes.{same_at, values_set, own_at, known_set, known_other, own_set, kept_set}
use Rattle.dali_enrol.proofs.directory.Directory.look.Goals as goal

pub ask-requires-clause-place : goal.ask-requires-clause-place
ask-requires-clause-place c =
    same_at (λ n. n.cell) cell_name c.pass.inside.notes.items c.self.inside.places.items c.from-at.result c.index_mut.result.now c.index.result.now
    (ap (λ p. p.places) c.pass.view_is ∙ c.requires ∙ sym c.self.view_is)
    (omega (arith, c.pass.inside.notes.ok.0)) (omega (arith, c.self.inside.places.ok.0)) c.index_mut.ensures.value c.index.ensures

pub ask-requires-clause-own : goal.ask-requires-clause-own
ask-requires-clause-own c =
    own_at (λ n. n.known) c.pass.inside.notes.items _ c.index_mut.result.now c.index_mut.result.now (omega (arith, c.pass.inside.notes.ok.0))
    c.index_mut.ensures.value _ refl (omega (arith, c.from-at.ensures, c.number.ensures.value)) c.pass.invariant.2

pub invariant_of-pass : goal.invariant_of-pass
invariant_of-pass c = (
  c.pass.invariant.0,
  c.pass.invariant.1,
  own_set (λ n. n.known) c.pass.inside.notes.items _ c.index_mut.result.now c.ask.new.note (omega (arith, c.pass.inside.notes.ok.0))
      c.index_mut.ensures.value _ refl (omega (arith, c.from-at.ensures, c.number.ensures.value)) c.pass.invariant.2 c.ask.ensures.own,
  c.pass.invariant.3 ∙ sym (values_set (λ n. n.cell) c.pass.inside.notes.items _ c.index_mut.result.now (omega (arith, c.pass.inside.notes.ok.0))
      c.index_mut.ensures.value c.ask.new.note c.ask.ensures.place),
)

pub returns-clause-places : goal.returns-clause-places
returns-clause-places c =
    values_set (λ n. n.cell) c.pass.inside.notes.items _ c.index_mut.result.now (omega (arith, c.pass.inside.notes.ok.0)) c.index_mut.ensures.value
    c.ask.new.note c.ask.ensures.place ∙ ap (λ p. p.places) c.pass.view_is

pub returns-clause-known : goal.returns-clause-known
returns-clause-known c =
    IfSome_then c.ask.result c.ask.ensures.found (λ e h.
    known_set (λ n. n.known) c.pass.inside.notes.items _ c.index_mut.result.now c.ask.new.note (omega (arith, c.pass.inside.notes.ok.0))
    c.index_mut.ensures.value _ refl (omega (arith, c.from-at.ensures, c.number.ensures.value)) ∙ h.1)

pub returns-clause-kept : goal.returns-clause-kept
returns-clause-kept c =
    kept_set (λ n. n.known) c.pass.inside.notes.items _ c.index_mut.result.now c.ask.new.note (omega (arith, c.pass.inside.notes.ok.0))
    c.index_mut.ensures.value _ (ap (λ p. p.known) c.pass.view_is) c.ask.ensures.kept

pub returns-clause-others : goal.returns-clause-others
returns-clause-others c =
    known_other (λ n. n.known) c.pass.inside.notes.items _ c.index_mut.result.now c.ask.new.note (omega (arith, c.pass.inside.notes.ok.0))
    c.index_mut.ensures.value _ (ap (λ p. p.known) c.pass.view_is) (omega (arith, c.from-at.ensures, c.number.ensures.value))
