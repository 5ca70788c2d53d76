use Rattle.std.proofs.Common.{◌≡◌, ℕ, ◌⊎◌, inl, inr, Bool, true, false, not, List, [], ◌∷◌, ◌++◌, refl, sym, ap, subst, arith, Option, Some, None, ◌&&◌}
use Rattle.std.proofs.Common.{if◌then◌else◌}
use Rattle.std.proofs.lemmas.Bool.Decides.{nat_tests}
use Rattle.dali_frame.specs.declared.frames.{Answer.Answer, Forward.Forward}
use Rattle.dali_special.specs.Command.{command_of}
use Rattle.dali_arbiter.specs.Arbiter.{Arbiter, owns, bus_lapsed}
use Rattle.dali_script.specs.{Stages.stage_of, Stages.may_follow, declared.orders.Input.Input, declared.orders.Order.Order}
use Rattle.dali_script.specs.declared.orders.Order.TheVariants.{Put, Commit, Done, Halt}
use Rattle.dali_script.specs.declared.trace.Entry.{Entry}
use Rattle.dali_script.specs.declared.orders.Input.TheVariants as input
use Rattle.dali_controller.specs.{Machine.Machine, Orders.machine_after}
use Rattle.dali_events.specs.{Allowed.IsDue, Happens.entry, Happens.controller_informed, Happens.controller_acted, Happens.gives_up, Happens.keeps_bus}
use Rattle.dali_events.specs.{Happens.bus_acted, Happens.told_sent, Happens.is_arc, World.World, World.Controller}
use Rattle.dali_standing.specs.Seats.{Seat, IsTied, MayAnswer, acted_at, told_at, trace_of}
use Rattle.dali_standing.specs.Settled.{IsOwning, IsApart, IsPlacedBy, IsPlaced}
use Rattle.dali_standing.proofs.Acts.{IsLeft, may_order, owner_is, owner_owns, other_owns}

-- WHERE THE CONTROLLERS ARE PLACED, once something happened.

pub placed_apart : (t u : List Entry) (p : Seat) → IsPlaced false t p → IsPlaced false u p
placed_apart t u p placed = go p.machine placed where
  go : (m : Option Machine) → IsPlacedBy false t p.controller m → IsPlacedBy false u p.controller m
  go None placed = placed
  go (Some m) placed = placed

-- the others, where the bus is as it was for them, or is another's before and after
pub placed_other : (b c : Bool) (t u : List Entry) (p q : Seat) → q ≡ p → ((c ≡ b) × (u ≡ t)) ⊎ ((b ≡ false) × (c ≡ false)) → IsPlaced b t p → IsPlaced c u q
placed_other b c t u p q same (inl is) placed =
    subst (λ (x : Seat). IsPlaced c u x) (sym same) (subst (λ v. IsPlaced c v p) (sym is.1) (subst (λ d. IsPlaced d t p) (sym is.0) placed))
placed_other b c t u p q same (inr is) placed =
    subst (λ (x : Seat). IsPlaced c u x) (sym same) (subst (λ d. IsPlaced d u p) (sym is.1) (placed_apart t u p (subst (λ d. IsPlaced d t p) is.0 placed)))

-- ---------------------------------------------------------------- a controller acts

-- an order that keeps the bus
pub kept_bus : (b : Arbiter) (c p : ℕ) (f : Forward) → p ≡ 1 → ((bus_acted b c (Put p f)).owner ≡ b.owner) × (gives_up b c (Put p f) ≡ false)
kept_bus b c p f e = rw e (go (owns b.owner c)) where
  go : (x : Bool) → ((if x && false then bus_lapsed b else b).owner ≡ b.owner) × ((x && false) ≡ false)
  go true = (refl, refl)
  go false = (refl, refl)

-- and any other
left_bus : (b : Arbiter) (c : ℕ) (o : Order) → keeps_bus o ≡ false → owns (bus_acted b c o).owner c ≡ false
left_bus b c o e = go o e (owns b.owner c) refl where
  freed_or : (x : Bool) → owns b.owner c ≡ x → owns (if x && true then bus_lapsed b else b).owner c ≡ false
  freed_or true own = refl
  freed_or false own = own

  go : (o : Order) → keeps_bus o ≡ false → (x : Bool) → owns b.owner c ≡ x → owns (bus_acted b c o).owner c ≡ false
  go (Put p f) e x own = rw (e, own) (freed_or x own)
  go _ e x own = rw own (freed_or x own)

placed_left : (w : World) (c : ℕ) (k : Controller) (m : Machine) (i : Input) (o : Order) → IsLeft w c (controller_informed k i) (machine_after m i o) o
    → IsPlacedBy (owns (bus_acted w.bus c o).owner c) (if gives_up w.bus c o then [] else w.trace) (controller_acted k i o) (Some (machine_after m i o))
placed_left w c k m i (Put p f) (scripted, inl is) =
    rw ((kept_bus w.bus c p f is.0).0, (kept_bus w.bus c p f is.0).1, owner_owns w.bus.owner c is.1) (is.0, is.2, is.3, scripted)
placed_left w c k m i (Put p f) (scripted, inr is) = rw (left_bus w.bus c (Put p f) (rw is.0 refl)) is
placed_left w c k m i (Commit x) is = rw (left_bus w.bus c (Commit x) refl) is
placed_left w c k m i (Done e) is = rw (left_bus w.bus c (Done e) refl) tt
placed_left w c k m i (Halt why) is = rw (left_bus w.bus c (Halt why) refl) tt

pub placed_acted : (w : World) (c : ℕ) (p : Seat) (i : Input) (o : Order) → IsDue p.controller i → IsTied p.controller p.machine → MayAnswer p.machine i o
    → IsPlaced (owns w.bus.owner c) w.trace p → IsPlaced (owns (bus_acted w.bus c o).owner c) (if gives_up w.bus c o then [] else w.trace) (acted_at p i o)
placed_acted w c p i o due tied answer placed = go p.machine tied answer placed where
  go : (m : Option Machine) → IsTied p.controller m → MayAnswer m i o → IsPlacedBy (owns w.bus.owner c) w.trace p.controller m
      → IsPlaced (owns (bus_acted w.bus c o).owner c) (if gives_up w.bus c o then [] else w.trace)
      (acted_at (record { controller = p.controller; machine = m }) i o)
  go None tied answer placed = elim answer [ ]
  go (Some m) tied answer placed = placed_left w c p.controller m i o (may_order w c p.controller m i o due tied answer.answered placed).left

-- the bus for another controller
pub owner_acted : (b : Arbiter) (c : ℕ) (o : Order) → (bus_acted b c o).owner ≡ (if gives_up b c o then None else b.owner)
owner_acted b c o = go o where
  freed : (x : Bool) → (if x then bus_lapsed b else b).owner ≡ (if x then None else b.owner)
  freed true = refl
  freed false = refl

  go : (o' : Order) → (bus_acted b c o').owner ≡ (if gives_up b c o' then None else b.owner)
  go (Put p f) = freed (gives_up b c (Put p f))
  go (Commit y) = freed (gives_up b c (Commit y))
  go (Done y) = freed (gives_up b c (Done y))
  go (Halt y) = freed (gives_up b c (Halt y))

first_holds : (x y : Bool) → (x && y) ≡ true → x ≡ true
first_holds true y e = refl
first_holds false y e = e

-- what another controller sees of the bus is as it was, or it owns it neither before nor after
abbrev pub IsOthers : Option ℕ → List Entry → Option ℕ → List Entry → ℕ → Type 0
IsOthers o t o' t' d = ((owns o' d ≡ owns o d) × (t' ≡ t)) ⊎ ((owns o d ≡ false) × (owns o' d ≡ false))

pub acted_other : (b : Arbiter) (t : List Entry) (c d : ℕ) (o : Order) → (d ≡ c → ⊥)
    → IsOthers b.owner t (bus_acted b c o).owner (if gives_up b c o then [] else t) d
acted_other b t c d o other =
    subst (λ q. IsOthers b.owner t q (if gives_up b c o then [] else t) d) (sym (owner_acted b c o))
    (go (gives_up b c o) (λ e. owner_is b.owner c (first_holds (owns b.owner c) (not (keeps_bus o)) e))) where
      go : (x : Bool) → (x ≡ true → b.owner ≡ Some c) → IsOthers b.owner t (if x then None else b.owner) (if x then [] else t) d
      go true own = inr (other_owns b.owner c d other (own refl), refl)
      go false own = inl (refl, refl)

-- ---------------------------------------------------------------- frames

-- the frames that the sender goes on with are its machine's
pub running_is : (b : Bool) (t : List Entry) (p : Seat) (q : ℕ) (f : Forward) → p.controller.told ≡ None → p.controller.last ≡ Some (Put q f) → IsPlaced b t p
    → (if b then t else []) ≡ trace_of p.machine
running_is b t p q f untold last placed = go b p.machine placed where
  go : (x : Bool) (m : Option Machine) → IsPlacedBy x t p.controller m → (if x then t else []) ≡ trace_of m
  go true None placed = absurd (let no : true ≡ false = placed.0 in cc)
  go false None placed = absurd (let no : p.controller.last ≡ None = placed.1 in cc)
  go true (Some m) placed =
      (subst (λ o. IsOwning t p.controller m (Some (Put q f)) o) untold (subst (λ l. IsOwning t p.controller m l p.controller.told) last placed)).1
  go false (Some m) placed =
      sym (subst (λ o. IsApart p.controller m (Some (Put q f)) o) untold (subst (λ l. IsApart p.controller m l p.controller.told) last placed)).1

-- the sender of a frame was told what was heard
heard_placed : (b : Bool) (u : List Entry) (k : Controller) (m : Option Machine) (q : ℕ) (f : Forward) (h : Answer) → k.told ≡ Some (input.Heard h)
    → k.last ≡ Some (Put q f)
    → (m ≡ None → ⊥) → u ≡ trace_of m ++ entry f h ∷ [] → may_follow k.records.block k.records.reserved (stage_of u) ≡ b
    → IsPlacedBy b (if b then u else []) k m
heard_placed b u k None q f h told last there is more = absurd (there refl)
heard_placed true u k (Some m) q f h told last there is more = rw (told, last) is
heard_placed false u k (Some m) q f h told last there is more =
    rw (told, last) (subst (λ v. may_follow k.records.block k.records.reserved (stage_of v) ≡ false) is more)

pub machine_there : (b : Bool) (t : List Entry) (p : Seat) (o : Order) → p.controller.last ≡ Some o → IsPlaced b t p → p.machine ≡ None → ⊥
machine_there b t p o last placed none = let no : p.controller.last ≡ None = (subst (λ m. IsPlacedBy b t p.controller m) none placed).1 in cc

owns_self : (x : Bool) (c : ℕ) → owns (if x then Some c else None) c ≡ x
owns_self true c = grind (arith, nat_tests)
owns_self false c = refl

pub placed_sent : (o : Option ℕ) (c : ℕ) (t : List Entry) (p : Seat) (q : ℕ) (f : Forward) (h : Answer) (more : Bool) → is_arc (command_of f) ≡ false
    → p.controller.told ≡ None → p.controller.last ≡ Some (Put q f)
    → IsPlaced (owns o c) t p
    → may_follow p.controller.records.block p.controller.records.reserved (stage_of ((if owns o c then t else []) ++ entry f h ∷ [])) ≡ more
    → IsPlaced (owns (if more then Some c else None) c) (if more then (if owns o c then t else []) ++ entry f h ∷ [] else [])
    (told_at (told_sent (if owns o c then t else []) f h) p)
placed_sent o c t p q f h more scripted untold last placed goes =
    subst (λ b. IsPlaced b (if more then (if owns o c then t else []) ++ entry f h ∷ [] else []) (told_at (told_sent (if owns o c then t else []) f h) p))
    (sym (owns_self more c))
    (heard_placed more _ (told_sent (if owns o c then t else []) f h p.controller) p.machine q f h (rw scripted refl) last
    (machine_there (owns o c) t p (Put q f) last placed)
    (ap (λ u. u ++ entry f h ∷ []) (running_is (owns o c) t p q f untold last placed)) goes)

-- a controller that was told that it lost its frame, or the bus, owns no bus
pub placed_told : (t u : List Entry) (b : Bool) (p p' : Seat) (q : ℕ) (f : Forward) (i : Input) → IsPlaced b t p → p.controller.last ≡ Some (Put q f)
    → p'.machine ≡ p.machine → p'.controller.last ≡ p.controller.last
    → p'.controller.told ≡ Some i → (i ≡ input.Destroyed) ⊎ (i ≡ input.Lapsed) → IsPlaced false u p'
placed_told t u b p p' q f i placed last same_m same_l told which =
    subst (λ m. IsPlacedBy false u p'.controller m) (sym same_m) (go p.machine (machine_there b t p (Put q f) last placed)) where
      over : (m : Machine) → (i ≡ input.Destroyed) ⊎ (i ≡ input.Lapsed) → IsApart p'.controller m (Some (Put q f)) (Some i)
      over m (inl e) = rw e tt
      over m (inr e) = rw e tt

      go : (m : Option Machine) → (m ≡ None → ⊥) → IsPlacedBy false u p'.controller m
      go None there = absurd (there refl)
      go (Some m) there = rw (same_l, last, told) (over m which)
