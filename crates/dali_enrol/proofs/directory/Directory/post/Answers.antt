use Rattle.std.proofs.Common.{Result, Ok, Err, IfErr, OnErr, ap, sym, refl, ◌∙◌, arith, subst, ◌≡◌}
use Rattle.std.specs.Option.{IsSome}
use Rattle.std.proofs.lemmas.Result.{on_ok_weaker}
use Rattle.once_cell.specs.Once.{cell_name}
use Rattle.dali_enrol.proofs.Passes.{same_at, values_set, own_at, known_set, known_other, own_set, kept_set, settled_set}
use Rattle.dali_enrol.proofs.directory.Directory.post.Goals as goal

if_err : {A E X Y : Type 0} (B : E → Type 0) (r : Result A E) → (X → Y) → IfErr r (λ e. B e × X) → OnErr r Y
if_err B (Ok a) f h = tt
if_err B (Err e) f h = f h.1

pub offer-requires-clause-place : goal.offer-requires-clause-place
offer-requires-clause-place c =
    same_at (λ n. n.cell) cell_name c.pass.inside.notes.items c.self.inside.places.items c.from-at.result c.index_mut.result.now c.index.result.now
    (ap (λ p. p.places) c.pass.view_is ∙ c.requires ∙ sym c.self.view_is)
    (omega (arith, c.pass.inside.notes.ok.0)) (omega (arith, c.self.inside.places.ok.0)) c.index_mut.ensures.value c.index.ensures

pub offer-requires-clause-same_place : goal.offer-requires-clause-same_place
offer-requires-clause-same_place c =
    same_at (λ n. n.cell) cell_name c.pass.inside.standing.items c.self.inside.places.items c.from-at.result c.index_mut-2.result.now c.index.result.now
    (c.pass.invariant.3 ∙ ap (λ p. p.places) c.pass.view_is ∙ c.requires ∙ sym c.self.view_is)
    (omega (arith, c.pass.inside.standing.ok.0)) (omega (arith, c.self.inside.places.ok.0)) c.index_mut-2.ensures.value c.index.ensures

pub offer-requires-clause-own : goal.offer-requires-clause-own
offer-requires-clause-own c =
    own_at (λ n. n.known) c.pass.inside.notes.items _ c.index_mut.result.now c.index_mut.result.now (omega (arith, c.pass.inside.notes.ok.0))
    c.index_mut.ensures.value _ refl
    (c.from-at.ensures ∙ c.number.ensures.value ∙ c.short.ensures ∙ ap (λ e. e.short) c.deref.ensures) c.pass.invariant.2

pub invariant_of-pass : goal.invariant_of-pass
invariant_of-pass c = (
  c.pass.invariant.0,
  c.pass.invariant.1,
  own_set (λ n. n.known) c.pass.inside.notes.items _ c.index_mut.result.now c.offer.new.note (omega (arith, c.pass.inside.notes.ok.0))
      c.index_mut.ensures.value _ refl
      (c.from-at.ensures ∙ c.number.ensures.value ∙ c.short.ensures ∙ ap (λ e. e.short) c.deref.ensures) c.pass.invariant.2 c.offer.ensures.own,
  values_set (λ n. n.cell) c.pass.inside.standing.items _ c.index_mut-2.result.now (omega (arith, c.pass.inside.standing.ok.0))
      c.index_mut-2.ensures.value c.offer.new.stands c.offer.ensures.same_place
      ∙ c.pass.invariant.3
      ∙ sym (values_set (λ n. n.cell) c.pass.inside.notes.items _ c.index_mut.result.now (omega (arith, c.pass.inside.notes.ok.0))
      c.index_mut.ensures.value c.offer.new.note c.offer.ensures.place),
)

pub returns-clause-places : goal.returns-clause-places
returns-clause-places c =
    values_set (λ n. n.cell) c.pass.inside.notes.items _ c.index_mut.result.now (omega (arith, c.pass.inside.notes.ok.0)) c.index_mut.ensures.value
    c.offer.new.note c.offer.ensures.place ∙ ap (λ p. p.places) c.pass.view_is

pub returns-clause-posted : goal.returns-clause-posted
returns-clause-posted c =
    on_ok_weaker c.offer.result (λ h.
    known_set (λ n. n.known) c.pass.inside.notes.items _ c.index_mut.result.now c.offer.new.note (omega (arith, c.pass.inside.notes.ok.0))
    c.index_mut.ensures.value _ refl
    (c.from-at.ensures ∙ c.number.ensures.value ∙ c.short.ensures ∙ ap (λ e. e.short) c.deref.ensures) ∙ h) c.offer.ensures.posted

pub returns-clause-kept : goal.returns-clause-kept
returns-clause-kept c =
    kept_set (λ n. n.known) c.pass.inside.notes.items _ c.index_mut.result.now c.offer.new.note (omega (arith, c.pass.inside.notes.ok.0))
    c.index_mut.ensures.value _ (ap (λ p. p.known) c.pass.view_is) c.offer.ensures.kept

pub returns-clause-others : goal.returns-clause-others
returns-clause-others c =
    known_other (λ n. n.known) c.pass.inside.notes.items _ c.index_mut.result.now c.offer.new.note (omega (arith, c.pass.inside.notes.ok.0))
    c.index_mut.ensures.value _ (ap (λ p. p.known) c.pass.view_is)
    (c.from-at.ensures ∙ c.number.ensures.value ∙ c.short.ensures ∙ ap (λ e. e.short) c.deref.ensures)

pub returns-clause-unchanged : goal.returns-clause-unchanged
returns-clause-unchanged c =
    if_err (λ back. back.value ≡ c.args.card.value) c.offer.result (λ (same : c.offer.new.note ≡ c.index_mut.result.now).
    values_set (λ n. n.known) c.pass.inside.notes.items _ c.index_mut.result.now (omega (arith, c.pass.inside.notes.ok.0)) c.index_mut.ensures.value
    c.offer.new.note (ap (λ n. n.known) same) ∙ ap (λ p. p.known) c.pass.view_is) c.offer.ensures.back

pub returns-clause-stands : goal.returns-clause-stands
returns-clause-stands c =
    subst IsSome (sym (known_set (λ n. n.known) c.pass.inside.standing.items _ c.index_mut-2.result.now c.offer.new.stands
    (omega (arith, c.pass.inside.standing.ok.0))
    c.index_mut-2.ensures.value _ refl
    (c.from-at.ensures ∙ c.number.ensures.value ∙ c.short.ensures ∙ ap (λ e. e.short) c.deref.ensures))) c.offer.ensures.stands

pub returns-clause-still : goal.returns-clause-still
returns-clause-still c =
    kept_set (λ n. n.known) c.pass.inside.standing.items _ c.index_mut-2.result.now c.offer.new.stands (omega (arith, c.pass.inside.standing.ok.0))
    c.index_mut-2.ensures.value _ (ap (λ p. p.standing) c.pass.view_is) c.offer.ensures.still

pub returns-clause-nowhere_else : goal.returns-clause-nowhere_else
returns-clause-nowhere_else c =
    known_other (λ n. n.known) c.pass.inside.standing.items _ c.index_mut-2.result.now c.offer.new.stands (omega (arith, c.pass.inside.standing.ok.0))
    c.index_mut-2.ensures.value _ (ap (λ p. p.standing) c.pass.view_is)
    (c.from-at.ensures ∙ c.number.ensures.value ∙ c.short.ensures ∙ ap (λ e. e.short) c.deref.ensures)

pub returns-clause-which : goal.returns-clause-which
returns-clause-which c =
    let at = c.from-at.ensures ∙ c.number.ensures.value ∙ c.short.ensures ∙ ap (λ e. e.short) c.deref.ensures in
    let known = known_set (λ n. n.known) c.pass.inside.notes.items _ c.index_mut.result.now c.offer.new.note (omega (arith, c.pass.inside.notes.ok.0))
    c.index_mut.ensures.value _ refl at in
    let stands = known_set (λ n. n.known) c.pass.inside.standing.items _ c.index_mut-2.result.now c.offer.new.stands
    (omega (arith, c.pass.inside.standing.ok.0)) c.index_mut-2.ensures.value _ refl at in
    rw (known, stands) c.offer.ensures.which

pub returns-clause-settled : goal.returns-clause-settled
returns-clause-settled c =
    settled_set (λ n. n.known) c.pass.inside.notes.items _ c.index_mut.result.now c.offer.new.note (omega (arith, c.pass.inside.notes.ok.0))
    c.index_mut.ensures.value _ (ap (λ p. p.known) c.pass.view_is) c.pass.inside.standing.items c.index_mut-2.result.now
    (omega (arith, c.pass.inside.standing.ok.0)) c.index_mut-2.ensures.value _ (ap (λ p. p.standing) c.pass.view_is) c.offer.ensures.settled
