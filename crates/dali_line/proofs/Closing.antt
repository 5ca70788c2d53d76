use Rattle.std.proofs.Common.{◌≡◌, ℕ, zero, suc, ◌≤◌, List, [], ◌∷◌, length, take, refl, sym, ap, subst, ◌∙◌, arith, All, ◌↔◌, IsTrue, Bool}
use Rattle.dali_events.specs.declared.event.Event.{Event}
use Rattle.dali_world.specs.Site.{SiteState, share_of}
use Rattle.dali_line.specs.{Counts.shares_of, Counts.AreInOrder, Shares.PortShare, Shares.port_share}

-- THE PORTS THAT COME BACK, where each share is what the log has.
abbrev pub IsExact : List Event → PortShare → Type 0
IsExact log s = share_of s.controller log ≡ s.share

share_is : (log : List Event) (p : PortShare) (c : ℕ) → p.controller ≡ c → IsExact log p → p ≡ port_share c (share_of c log)
share_is log p c number exact =
    ap (λ (x : ℕ). port_share x p.share) number ∙ ap (λ (x : ℕ). port_share c x) (sym exact ∙ ap (λ (x : ℕ). share_of x log) number)

abbrev four : List Event → List PortShare
four log = port_share 0 (share_of 0 log) ∷ port_share 1 (share_of 1 log) ∷ port_share 2 (share_of 2 log) ∷ port_share 3 (share_of 3 log) ∷ []

listed : (log : List Event) (ports : List PortShare) → length ports ≤ 4 → AreInOrder ports → All (IsExact log) ports → ports ≡ take (length ports) (four log)
listed log [] few order exact = refl
listed log (a ∷ []) few order exact =
    let p = share_is log a 0 (order 0 (omega arith)) (exact 0 a (omega arith)) in
    cc p
listed log (a ∷ b ∷ []) few order exact =
    let p = share_is log a 0 (order 0 (omega arith)) (exact 0 a (omega arith)) in
    let q = share_is log b 1 (order 1 (omega arith)) (exact 1 a (omega arith)) in
    cc (p, q)
listed log (a ∷ b ∷ c ∷ []) few order exact =
    let p = share_is log a 0 (order 0 (omega arith)) (exact 0 a (omega arith)) in
    let q = share_is log b 1 (order 1 (omega arith)) (exact 1 a (omega arith)) in
    let r = share_is log c 2 (order 2 (omega arith)) (exact 2 a (omega arith)) in
    cc (p, q, r)
listed log (a ∷ b ∷ c ∷ d ∷ []) few order exact =
    let p = share_is log a 0 (order 0 (omega arith)) (exact 0 a (omega arith)) in
    let q = share_is log b 1 (order 1 (omega arith)) (exact 1 a (omega arith)) in
    let r = share_is log c 2 (order 2 (omega arith)) (exact 2 a (omega arith)) in
    let s = share_is log d 3 (order 3 (omega arith)) (exact 3 a (omega arith)) in
    cc (p, q, r, s)
listed log (a ∷ b ∷ c ∷ d ∷ e ∷ more) few order exact = absurd (omega arith)

-- the ports that a line gave
in_order : (log : List Event) (n : ℕ) → n ≤ 4 → (length (take n (four log)) ≡ n) × AreInOrder (take n (four log))
in_order log zero few = (refl, λ i lt. absurd (omega arith))
in_order log (suc zero) few = (refl, at) where
  at : AreInOrder (take 1 (four log))
  at zero lt = refl
  at (suc i) lt = absurd (omega arith)
in_order log (suc (suc zero)) few = (refl, at) where
  at : AreInOrder (take 2 (four log))
  at zero lt = refl
  at (suc zero) lt = refl
  at (suc (suc i)) lt = absurd (omega arith)
in_order log (suc (suc (suc zero))) few = (refl, at) where
  at : AreInOrder (take 3 (four log))
  at zero lt = refl
  at (suc zero) lt = refl
  at (suc (suc zero)) lt = refl
  at (suc (suc (suc i))) lt = absurd (omega arith)
in_order log (suc (suc (suc (suc zero)))) few = (refl, at) where
  at : AreInOrder (take 4 (four log))
  at zero lt = refl
  at (suc zero) lt = refl
  at (suc (suc zero)) lt = refl
  at (suc (suc (suc zero))) lt = refl
  at (suc (suc (suc (suc i)))) lt = absurd (omega arith)
in_order log (suc (suc (suc (suc (suc n))))) few = absurd (omega arith)

pub all_there : (s : SiteState) (ports : List PortShare) (b : Bool) → length s.plan.blocks ≤ 4 → All (IsExact s.log) ports
    → (IsTrue b ↔ ((length ports ≡ length s.plan.blocks) × AreInOrder ports)) → IsTrue b ↔ (ports ≡ shares_of s)
all_there s ports b few exact has = (there, back) where
  there : IsTrue b → ports ≡ shares_of s
  there is =
      let all = has.0 is in
      listed s.log ports (omega (arith, all.0)) all.1 exact ∙ ap (λ (n : ℕ). take n (four s.log)) all.0

  back : ports ≡ shares_of s → IsTrue b
  back same =
      let all = in_order s.log (length s.plan.blocks) few in
      has.1 (ap length same ∙ all.0, subst AreInOrder (sym same) all.1)
