use Rattle.std.proofs.Common.{◌≡◌, ℕ, ◌<◌, ◌⊎◌, inl, inr, Bool, true, false, List, [], ◌∷◌, refl, sym, ap, subst, ◌∙◌, arith, length, length-set, map, get_or}
use Rattle.std.proofs.Common.{set, get_or-set_same, get_or-set_other, nat_eq, replicate}
use Rattle.std.proofs.lemmas.{Bool.Decides.nat_tests, List.length-replicate, List.get_or-replicate}
use Rattle.dali_gear.specs.Gear.{Gear, fresh}
use Rattle.dali_script.{specs.Records.Has, specs.Records.IsOnce, proofs.Lists.has_map, proofs.Members.mapped_from}
use Rattle.dali_events.specs.{Plan.Plan, Plan.AreUsed, Used.used_gear, Used.used_shorts, Used.used_randoms, Used.gear_of_used, Used.earlier_draw}
use Rattle.dali_events.specs.{Used.earlier_gift, Used.with_used, World.start, declared.used.Used.Used}

-- HOW A SITE BEGINS: its row of gear, with used ones in their places, and the numbers and addresses of before.

-- ---------------------------------------------------------------- the row of gear

pub used_count : (gs : List Gear) (us : List Used) → length (with_used gs us) ≡ length gs
used_count gs [] = refl
used_count gs (u ∷ us) = used_count (set gs u.gear (gear_of_used u)) us ∙ length-set gs u.gear (gear_of_used u)

-- a used gear stands in its place, or what stood there
used_or_same : (gs : List Gear) (us : List Used) (g : ℕ)
    → ((u : Used) × Has us u × (u.gear ≡ g) × ((g < length gs) → get_or (with_used gs us) g fresh ≡ gear_of_used u))
    ⊎ (get_or (with_used gs us) g fresh ≡ get_or gs g fresh)
used_or_same gs [] g = inr refl
used_or_same gs (u ∷ us) g = go (used_or_same (set gs u.gear (gear_of_used u)) us g) (nat_eq u.gear g) refl where
  go : ((v : Used) × Has us v × (v.gear ≡ g)
      × ((g < length (set gs u.gear (gear_of_used u))) → get_or (with_used (set gs u.gear (gear_of_used u)) us) g fresh ≡ gear_of_used v))
      ⊎ (get_or (with_used (set gs u.gear (gear_of_used u)) us) g fresh ≡ get_or (set gs u.gear (gear_of_used u)) g fresh)
      → (b : Bool) → nat_eq u.gear g ≡ b
      → ((v : Used) × Has (u ∷ us) v × (v.gear ≡ g) × ((g < length gs) → get_or (with_used gs (u ∷ us)) g fresh ≡ gear_of_used v))
      ⊎ (get_or (with_used gs (u ∷ us)) g fresh ≡ get_or gs g fresh)
  go (inl k) b e = inl (k.0, inr k.1, k.2, λ there. k.3 (subst (λ n. g < n) (sym (length-set gs u.gear (gear_of_used u))) there))
  go (inr k) true e =
      let same : u.gear ≡ g = grind (arith, nat_tests) in
      inl (
        u,
        inl refl,
        same,
        λ there. k ∙ subst (λ n. get_or (set gs n (gear_of_used u)) g fresh ≡ gear_of_used u) (sym same) (get_or-set_same gs g (gear_of_used u) fresh there),
      )
  go (inr k) false e =
      let other : g ≡ u.gear → ⊥ = grind (arith, nat_tests) in
      inr (k ∙ get_or-set_other gs u.gear g (gear_of_used u) fresh other)

-- who stands in a place that a used gear names
used_at : (gs : List Gear) (us : List Used) (u : Used) → IsOnce (used_gear us) → Has us u → u.gear < length gs
    → get_or (with_used gs us) u.gear fresh ≡ gear_of_used u
used_at gs [] u once h there = elim h [ ]
used_at gs (v ∷ us) u once (inr h) there =
    used_at (set gs v.gear (gear_of_used v)) us u once.1 h (subst (λ n. u.gear < n) (sym (length-set gs v.gear (gear_of_used v))) there)
used_at gs (v ∷ us) u once (inl is) there = go (used_or_same (set gs v.gear (gear_of_used v)) us u.gear) where
  go : ((w : Used) × Has us w × (w.gear ≡ u.gear)
      × ((u.gear < length (set gs v.gear (gear_of_used v)))
      → get_or (with_used (set gs v.gear (gear_of_used v)) us) u.gear fresh ≡ gear_of_used w))
      ⊎ (get_or (with_used (set gs v.gear (gear_of_used v)) us) u.gear fresh ≡ get_or (set gs v.gear (gear_of_used v)) u.gear fresh)
      → get_or (with_used gs (v ∷ us)) u.gear fresh ≡ gear_of_used u
  go (inl k) = absurd (once.0 (subst (λ n. Has (used_gear us) n) (k.2 ∙ ap (λ x. x.gear) (sym is)) (has_map (λ x. x.gear) us k.0 k.1)))
  go (inr k) =
      k ∙ subst (λ x. get_or (set gs x.gear (gear_of_used x)) u.gear fresh ≡ gear_of_used u) (sym is)
      (get_or-set_same gs u.gear (gear_of_used u) fresh there)

-- ---------------------------------------------------------------- the histories

pub used_numbers : (us : List Used) → map (λ (draw : ℕ × ℕ). draw.1) (map earlier_draw us) ≡ used_randoms us
used_numbers [] = refl
used_numbers (u ∷ us) = ap (λ xs. u.random ∷ xs) (used_numbers us)

pub gear_of : (us : List Used) → map (λ (gift : ℕ × ℕ). gift.0) (map earlier_gift us) ≡ used_gear us
gear_of [] = refl
gear_of (u ∷ us) = ap (λ xs. u.gear ∷ xs) (gear_of us)

pub shorts_of : (us : List Used) → map (λ (gift : ℕ × ℕ). gift.1) (map earlier_gift us) ≡ used_shorts us
shorts_of [] = refl
shorts_of (u ∷ us) = ap (λ xs. u.short ∷ xs) (shorts_of us)

-- a gift of before is that of a used gear
pub gift_of_used : (us : List Used) (g a : ℕ) → Has {A = ℕ × ℕ} (map earlier_gift us) (g, a) → (u : Used) × Has us u × (u.gear ≡ g) × (u.short ≡ a)
gift_of_used us g a h =
    let from = mapped_from earlier_gift us (g, a) h in
    (from.0, from.1, ap (λ (x : ℕ × ℕ). x.0) from.2, ap (λ (x : ℕ × ℕ). x.1) from.2)

-- ---------------------------------------------------------------- the gear of a plan

-- a gear is a used one, in whose place it stands, or one from the factory
abbrev pub IsUsedOrFresh : Plan → ℕ → Type 0
IsUsedOrFresh p g =
    ((u : Used) × Has p.used u × (u.gear ≡ g) × (get_or (with_used (replicate p.gear fresh) p.used) g fresh ≡ gear_of_used u))
    ⊎ (get_or (with_used (replicate p.gear fresh) p.used) g fresh ≡ fresh)

pub row_at : (p : Plan) (g : ℕ) → g < p.gear → IsUsedOrFresh p g
row_at p g there = go (used_or_same (replicate p.gear fresh) p.used g) where
  go : ((u : Used) × Has p.used u × (u.gear ≡ g)
      × ((g < length (replicate p.gear fresh)) → get_or (with_used (replicate p.gear fresh) p.used) g fresh ≡ gear_of_used u))
      ⊎ (get_or (with_used (replicate p.gear fresh) p.used) g fresh ≡ get_or (replicate p.gear fresh) g fresh)
      → IsUsedOrFresh p g
  go (inl k) = inl (k.0, k.1, k.2, k.3 (subst (λ n. g < n) (sym (length-replicate p.gear fresh)) there))
  go (inr k) = inr (k ∙ get_or-replicate p.gear g fresh fresh there)

pub start_count : (p : Plan) → length (with_used (replicate p.gear fresh) p.used) ≡ p.gear
start_count p = used_count (replicate p.gear fresh) p.used ∙ length-replicate p.gear fresh

pub drawn_at : (p : Plan) (u : Used) (g : ℕ) → Has p.used u → u.gear ≡ g → Has {A = ℕ × ℕ} (map earlier_draw p.used) (g, u.random)
drawn_at p u g h same = subst (λ n. Has {A = ℕ × ℕ} (map earlier_draw p.used) (n, u.random)) same (has_map earlier_draw p.used u h)

pub given_at : (p : Plan) (u : Used) (g a : ℕ) → Has p.used u → u.gear ≡ g → u.short ≡ a → Has {A = ℕ × ℕ} (map earlier_gift p.used) (g, a)
given_at p u g a h same short =
    subst (λ (x : ℕ × ℕ). Has (map earlier_gift p.used) x) (ap (λ n. (n, u.short)) same ∙ ap (λ b. (g, b)) short)
    (has_map earlier_gift p.used u h)

-- a used gear stands in its place
pub stands : (p : Plan) → AreUsed p → (u : Used) → Has p.used u → get_or (with_used (replicate p.gear fresh) p.used) u.gear fresh ≡ gear_of_used u
stands p is u h =
    used_at (replicate p.gear fresh) p.used u is.gear_once h
    (subst (λ n. u.gear < n) (sym (length-replicate p.gear fresh)) (is.there u.gear (has_map (λ x. x.gear) p.used u h)))

-- and so does that of a gift
pub stands_at : (p : Plan) → AreUsed p → (g a : ℕ) → Has {A = ℕ × ℕ} (map earlier_gift p.used) (g, a)
    → (u : Used) × Has p.used u × (u.gear ≡ g) × (u.short ≡ a)
    × (get_or (with_used (replicate p.gear fresh) p.used) g fresh ≡ gear_of_used u)
stands_at p is g a h =
    let from = gift_of_used p.used g a h in (
      from.0,
      from.1,
      from.2,
      from.3,
      subst (λ n. get_or (with_used (replicate p.gear fresh) p.used) n fresh ≡ gear_of_used from.0) from.2 (stands p is from.0 from.1),
    )

-- without used gear all come from the factory, and nothing was drawn or given before
pub from_factory : (p : Plan) (capacity : ℕ) → p.used ≡ []
    → ((start p capacity).gear ≡ replicate p.gear fresh) × ((start p capacity).drawn ≡ []) × ((start p capacity).gifts ≡ [])
from_factory p capacity none = (ap (with_used (replicate p.gear fresh)) none, ap (map earlier_draw) none, ap (map earlier_gift) none)
