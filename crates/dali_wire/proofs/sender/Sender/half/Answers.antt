use Rattle.std.proofs.Common.{rules, ◌≡◌, ℕ, ◌-◌, ◌*◌, ◌%◌, ◌^◌, ◌<◌, ◌≤◌, ◌∷◌, Bool, true, false, sym, ◌∙◌, subst, arith, nat_le}
use Rattle.std.proofs.Math.Pow.{shl_exact}
use Rattle.dali_wire.{specs.Levels.to_send, proofs.Sending.first_half}
use Rattle.dali_wire.proofs.{Sending.second_of_one, Sending.second_of_zero, Sending.all_over, Sending.stop_goes_on, Values.is_below, Values.is_above}
use Rattle.dali_wire.proofs.sender.Sender.half.Goals as goal

weight_is : (left : ℕ) → left < 33 → (1 * 2 ^ (left - 1)) % 4294967296 ≡ 2 ^ (left - 1)
weight_is left few =
    let one : (1 * 2 ^ (left - 1)) % 4294967296 ≡ 1 * 2 ^ (left - 1) = shl_exact 1 (left - 1) 32 (omega arith) (omega arith) in
    omega (arith, one)

pub returns-then-self-eq0-2 : goal.returns-then-self-eq0-2
returns-then-self-eq0-2 c =
    let s = c.self.inside in
    let none = sym c.self.view_is ∙ all_over s.number s.left s.stop s.is_second c.if-self-eq0.true c.if-self-eq0-2.true in
    (none, none)

pub returns-then-self-eq0 : goal.returns-then-self-eq0
returns-then-self-eq0 c =
    let s = c.self.inside in
    sym c.self.view_is ∙ stop_goes_on s.number s.left s.stop s.is_second c.if-self-eq0.true (omega arith)

pub returns-then-not-self : goal.returns-then-not-self
returns-then-not-self c =
    let s = c.self.inside in
    let few : s.left < 33 = omega arith in
    let first : s.is_second ≡ false = search rules in
    let more : 0 < s.left = omega arith in
    rw (weight_is s.left few)
    (sym c.self.view_is
    ∙ subst (λ (b : Bool). to_send s.number s.left b s.stop ≡ nat_le (2 ^ (s.left - 1)) s.number ∷ to_send s.number s.left true s.stop) (sym first)
    (first_half s.number s.left s.stop more))

pub returns-then-is_one : goal.returns-then-is_one
returns-then-is_one c =
    let s = c.self.inside in
    let few : s.left < 33 = omega arith in
    let second : s.is_second ≡ true = search rules in
    let more : 0 < s.left = omega arith in
    let one : nat_le (2 ^ (s.left - 1)) s.number ≡ true =
    is_below (2 ^ (s.left - 1)) s.number (subst (λ (w : ℕ). w ≤ s.number) (weight_is s.left few) c.if-is_one.true) in
    rw (weight_is s.left few)
    (sym c.self.view_is
    ∙ subst (λ (b : Bool). to_send s.number s.left b s.stop ≡ false ∷ to_send (s.number - 2 ^ (s.left - 1)) (s.left - 1) false s.stop) (sym second)
    (second_of_one s.number s.left s.stop more one))

pub returns : goal.returns
returns c =
    let s = c.self.inside in
    let few : s.left < 33 = omega arith in
    let second : s.is_second ≡ true = search rules in
    let more : 0 < s.left = omega arith in
    let one : nat_le (2 ^ (s.left - 1)) s.number ≡ false =
    is_above (2 ^ (s.left - 1)) s.number (subst (λ (w : ℕ). s.number < w) (weight_is s.left few) c.if-is_one.false) in
    sym c.self.view_is
    ∙ subst (λ (b : Bool). to_send s.number s.left b s.stop ≡ true ∷ to_send s.number (s.left - 1) false s.stop) (sym second)
    (second_of_zero s.number s.left s.stop more one)
