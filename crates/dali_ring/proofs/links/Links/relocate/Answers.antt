use Rattle.std.proofs.Common.{◌≡◌, ◌<◌, length, arith, None, ap, ◌∙◌}
use Rattle.std.proofs.lemmas.List.{length-set}
use Rattle.dali_ring.proofs.{Moves.b_within, Moves.first_low, Moves.moved, links.Links.relocate.Goals.then-next-self, links.Links.relocate.Goals.else-next-self}
use Rattle.dali_ring.proofs.links.Links.relocate.Goals as goal

pub read-at-requires : goal.read-at-requires
read-at-requires g c = let p =
    c.requires.place in b_within _ _ _ c.args.to _ _ p.0 p.2 p.1 None c.requires.held c.requires.from c.requires.to c.requires.other p.3

pub read-next-requires : goal.read-next-requires
read-next-requires g c =
    let p = c.requires.place in
    let low : c.read-at.result.link < c.args.self.now.capacity =
    first_low _ _ _ c.args.to _ _ p.0 p.2 p.1 None c.requires.held c.requires.from c.requires.to c.requires.other p.3 _ c.read-at.ensures in
    omega (arith, c.requires.held.slots)

pub relink-requires : goal.relink-requires
relink-requires g c = let p =
    c.requires.place in b_within _ _ _ c.args.to _ _ p.0 p.2 p.1 None c.requires.held c.requires.from c.requires.to c.requires.other p.3

pub write-requires : goal.write-requires
write-requires g c =
    let p = c.requires.place in
    let low : c.read-at.result.link < c.args.self.now.capacity =
    first_low _ _ _ c.args.to _ _ p.0 p.2 p.1 None c.requires.held c.requires.from c.requires.to c.requires.other p.3 _ c.read-at.ensures in
    let same : length c.relink-2.new.self ≡ length c.args.self.now.slots =
    ap length c.relink-2.ensures ∙ length-set _ _ _ ∙ ap length c.relink.ensures ∙ length-set _ _ _ in
    omega (arith, c.requires.held.slots, same)

pub returns-clause-held : goal.returns-clause-held
returns-clause-held g c = λ us x rest p. (moved _ _ _ _ _ _ us rest x _ c.requires.held c.requires.from c.requires.to c.requires.other p
    _ _ c.read-at.ensures c.read-next.ensures _ _ _ c.relink.ensures c.relink-2.ensures c.write.ensures _
    (elim c.if-next-self.branch [ then-next-self w ↦ (λ _. w.left-is) | else-next-self w ↦ (λ low. absurd (omega (arith, w.if-next-self.false, low))) ])
    (elim c.if-next-self.branch [ then-next-self w ↦ (λ high. absurd (omega (arith, w.if-next-self.true, high))) | else-next-self w ↦ (λ _. w.left-is) ])).0

pub returns-clause-way : goal.returns-clause-way
returns-clause-way g c = λ us x rest p. (moved _ _ _ _ _ _ us rest x _ c.requires.held c.requires.from c.requires.to c.requires.other p
    _ _ c.read-at.ensures c.read-next.ensures _ _ _ c.relink.ensures c.relink-2.ensures c.write.ensures _
    (elim c.if-next-self.branch [ then-next-self w ↦ (λ _. w.left-is) | else-next-self w ↦ (λ low. absurd (omega (arith, w.if-next-self.false, low))) ])
    (elim c.if-next-self.branch [ then-next-self w ↦ (λ high. absurd (omega (arith, w.if-next-self.true, high))) | else-next-self w ↦ (λ _. w.left-is) ])).1
