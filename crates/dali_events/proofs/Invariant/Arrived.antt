use Rattle.std.proofs.Common.{◌≡◌, ℕ, ◌<◌, inl, inr, sym, ap, subst, ◌∙◌, map, get_or, replicate, Some, None}
use Rattle.dali_gear.specs.Gear.{fresh}
use Rattle.dali_script.{specs.Records.Has, proofs.Lists.has_map}
use Rattle.dali_events.{specs.{Plan.{Plan, AreUsed}, Used.{earlier_gift, with_used}, World.start}, proofs.Invariant.Gifts.{Gifts, IsOwned}}
use Rattle.dali_events.proofs.Invariant.Starting.{IsUsedOrFresh, row_at, start_count, gear_of, shorts_of, gift_of_used, drawn_at, given_at, stands_at}

-- WHAT HOLDS OF GIFTS AT THE START: the addresses of used gear count as given before.
held : (p : Plan) (g a : ℕ) → IsUsedOrFresh p g → (get_or (with_used (replicate p.gear fresh) p.used) g fresh).short ≡ Some a
    → Has {A = ℕ × ℕ} (map earlier_gift p.used) (g, a)
held p g a (inl k) e = given_at p k.0 g a k.1 k.2 (let same : Some k.0.short ≡ Some a = ap (λ x. x.short) (sym k.3) ∙ e in let is : k.0.short ≡ a = cc in is)
held p g a (inr k) e = absurd (let none : None ≡ Some a = ap (λ x. x.short) (sym k) ∙ e in cc)

pub gifts_start : (p : Plan) (capacity : ℕ) → AreUsed p
    → Gifts (IsOwned p.used (start p capacity).controllers) (start p capacity).gear (start p capacity).drawn (start p capacity).gifts
gifts_start p capacity is = record {
  there = λ g a h. let k = gift_of_used p.used g a h in
      subst (λ n. g < n) (sym (start_count p)) (subst (λ n. n < p.gear) k.2 (is.there k.0.gear (has_map (λ x. x.gear) p.used k.0 k.1)));
  holds = λ g a h. (
    held p g a (row_at p g (subst (λ n. g < n) (start_count p) h)),
    λ k. let at = stands_at p is g a k in ap (λ x. x.short) at.4 ∙ ap (λ b. Some b) at.3,
  );
  drawn = λ g a h. let at = stands_at p is g a h in rw at.4 (drawn_at p at.0 g at.1 at.2);
  reserved = λ g a h. let at = stands_at p is g a h in rw at.4 (inr (at.0, at.1, ap (λ b. (b, at.0.random)) at.3));
  gear_once = rw gear_of is.gear_once;
  address_once = rw shorts_of is.short_once;
}
