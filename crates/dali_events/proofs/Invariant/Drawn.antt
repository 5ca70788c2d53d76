use Rattle.std.proofs.Common.{◌≡◌, ℕ, ◌<◌, ◌⊎◌, inl, inr, Bool, true, false, List, [], ◌∷◌, ◌++◌, refl, sym, ap, subst, length, map, append_assoc, get_or}
use Rattle.std.proofs.{Common.{replicate, None, if◌then◌else◌}, lemmas.List.map-append}
use Rattle.dali_frame.specs.Random.{MASK24}
use Rattle.dali_special.specs.{Command.command_of, declared.command.Command.Command}
use Rattle.dali_gear.specs.{Gear.{Gear, fresh, draws_a_number, gear_expired, gear_quieted}, Row.{row_after, row_left, drawn_of}, declared.row.Reach.Reach}
use Rattle.dali_gear.specs.declared.row.Reach.TheVariants.{Everyone, Only}
use Rattle.dali_script.{specs.Records.{Has, IsOnce}, proofs.{Lists.has_map, Members.{has_left, has_right, has_either, once_front, Each, each_changed}}}
use Rattle.dali_script.proofs.Members.{each_map}
use Rattle.dali_events.specs.{Happens.{happens, gear_powered, gear_interrupted}, Plan.{Plan, IsPlan, numbers_of}, Runs.{after, after_all, IsRun, AreDrawn}}
use Rattle.dali_events.specs.{Used.{used_randoms, earlier_draw, with_used}, World.{World, gear_at, start}, declared.event.Event.Event}
use Rattle.dali_events.proofs.Invariant.{Starting.{IsUsedOrFresh, row_at, start_count, used_numbers, drawn_at}, Takes.{Moved, stays, goes, moves_at}}
use Rattle.dali_events.proofs.Invariant.Takes.{row_length, numbers_stay}
use Rattle.dali_events.specs.declared.event.Event.TheVariants as event

-- gear k has no random address, or drew it
abbrev pub HasDrawn : List (ℕ × ℕ) → ℕ → Gear → Type 0
HasDrawn ds k g = (g.random ≡ MASK24) ⊎ Has ds (k, g.random)

-- WHAT HOLDS OF THE DRAWS, whatever happens
pub record Draws (plan : List ℕ) (gs : List Gear) (ds : List (ℕ × ℕ)) (left : List ℕ) : Type 0 where
  pub each : Each fresh (HasDrawn ds) gs
  pub numbers : map (λ draw. draw.1) ds ++ left ≡ plan

pub drawn_more : (ds es : List (ℕ × ℕ)) (k : ℕ) (g : Gear) → HasDrawn ds k g → HasDrawn (ds ++ es) k g
drawn_more ds es k g (inl e) = inl e
drawn_more ds es k g (inr h) = inr (has_left ds es (k, g.random) h)

drawn_moved : (reach : Reach) (c : Command) (ds es : List (ℕ × ℕ)) (k : ℕ) (g h : Gear) → HasDrawn ds k g → Moved reach c es k g h → HasDrawn (ds ++ es) k h
drawn_moved reach c ds es k g _ had (stays e) = drawn_more ds es k g had
drawn_moved reach c ds es k g _ had (goes r e drew) = go (draws_a_number c g) refl where
  from : (r ≡ g.random) ⊎ Has es (k, r) → (r ≡ MASK24) ⊎ Has (ds ++ es) (k, r)
  from (inl s) = subst (λ n. (n ≡ MASK24) ⊎ Has (ds ++ es) (k, n)) (sym s) (drawn_more ds es k g had)
  from (inr h) = inr (has_right ds es (k, r) h)

  go : (b : Bool) → draws_a_number c g ≡ b → ((if b then r else g.random) ≡ MASK24) ⊎ Has (ds ++ es) (k, if b then r else g.random)
  go true w = from (drew w)
  go false w = drawn_more ds es k g had

draws_taken : (plan : List ℕ) (reach : Reach) (c : Command) (gs : List Gear) (ds : List (ℕ × ℕ)) (left : List ℕ) → Draws plan gs ds left
    → Draws plan (row_after reach c 0 gs left) (ds ++ drawn_of reach c 0 gs left) (row_left reach c 0 gs left)
draws_taken plan reach c gs ds left d = record {
  each = λ i h.
      let there : i < length gs = subst (λ n. i < n) (row_length reach c 0 gs left) h in
      drawn_moved reach c ds (drawn_of reach c 0 gs left) i (get_or gs i fresh) (get_or (row_after reach c 0 gs left) i fresh) (d.each i there)
      (moves_at reach c gs left i there);
  numbers = rw (map-append, append_assoc, numbers_stay) d.numbers;
}

drawn_powered : (on : Bool) (ds : List (ℕ × ℕ)) (k : ℕ) (g : Gear) → HasDrawn ds k g → HasDrawn ds k (gear_powered on g)
drawn_powered false ds k g d = d
drawn_powered true ds k g d = go (g.powered) where
  go : (b : Bool) → HasDrawn ds k (if b then g else record g { powered = true; state = fresh.state; search = fresh.search; half = None })
  go true = d
  go false = d

-- they hold after each event
pub draws_step : (p : Plan) (w : World) (e : Event) → Draws (numbers_of p) w.gear w.drawn w.left
    → Draws (numbers_of p) (happens w e).gear (happens w e).drawn (happens w e).left
draws_step p w (event.Sent c f h) d = draws_taken (numbers_of p) Everyone (command_of f) w.gear w.drawn w.left d
draws_step p w (event.Destroyed c f set) d = draws_taken (numbers_of p) (Only set) (command_of f) w.gear w.drawn w.left d
draws_step p w event.Quiet d = record { each = each_map fresh (HasDrawn w.drawn) gear_quieted w.gear (λ k g h. h) d.each; numbers = d.numbers }
draws_step p w (event.Foreign f) d = record { each = each_map fresh (HasDrawn w.drawn) gear_interrupted w.gear (λ k g h. h) d.each; numbers = d.numbers }
draws_step p w (event.Power g on) d =
    record {
      each = each_changed fresh (HasDrawn w.drawn) (gear_powered on) w.gear g (λ there h. drawn_powered on w.drawn g (gear_at w g) h) d.each;
      numbers = d.numbers;
    }
draws_step p w (event.Expired g) d = record { each = each_changed fresh (HasDrawn w.drawn) gear_expired w.gear g (λ there h. h) d.each; numbers = d.numbers }
draws_step p w _ d = d

pub draws_start : (p : Plan) (capacity : ℕ) → Draws (numbers_of p) (start p capacity).gear (start p capacity).drawn p.draws
draws_start p capacity = record {
  each = λ g h. go g (row_at p g (subst (λ n. g < n) (start_count p) h));
  numbers = ap (λ xs. xs ++ p.draws) (used_numbers p.used);
} where
  go : (g : ℕ) → IsUsedOrFresh p g → HasDrawn (map earlier_draw p.used) g (get_or (with_used (replicate p.gear fresh) p.used) g fresh)
  go g (inl k) = rw k.3 (inr (drawn_at p k.0 g k.1 k.2))
  go g (inr k) = rw k (inl refl)

pub draws_all : (p : Plan) (w : World) (es : List Event) → Draws (numbers_of p) w.gear w.drawn w.left
    → Draws (numbers_of p) (after_all w es).gear (after_all w es).drawn (after_all w es).left
draws_all p w [] d = d
draws_all p w (e ∷ es) d = draws_all p (happens w e) es (draws_step p w e d)

pub draws_after : (p : Plan) (capacity : ℕ) (es : List Event)
    → Draws (numbers_of p) (after p capacity es).gear (after p capacity es).drawn (after p capacity es).left
draws_after p capacity es = draws_all p (start p capacity) es (draws_start p capacity)

-- no number of a plan is FFFFFF
number_below : (p : Plan) → IsPlan p → (r : ℕ) → Has (numbers_of p) r → r < MASK24
number_below p plan r h = go (has_either (used_randoms p.used) p.draws r h) where
  go : Has (used_randoms p.used) r ⊎ Has p.draws r → r < MASK24
  go (inl k) = plan.used.random_below r k
  go (inr k) = plan.draws_below r k

-- NUMBERS ARE DRAWN ONCE, and none is FFFFFF
pub are_drawn : (p : Plan) (w : World) → IsPlan p → Draws (numbers_of p) w.gear w.drawn w.left → AreDrawn w
are_drawn p w plan d = record {
  random = d.each;
  once = once_front (map (λ draw. draw.1) w.drawn) w.left (subst IsOnce (sym d.numbers) plan.used.random_once);
  below = λ g r h. number_below p plan r (subst (λ ns. Has ns r) d.numbers
      (has_left (map (λ draw. draw.1) w.drawn) w.left r (has_map (λ draw. draw.1) w.drawn (g, r) h)));
}

pub drawn_in_front : (p : Plan) (capacity : ℕ) (front rest : List Event) → IsRun p capacity (front ++ rest) → AreDrawn (after p capacity front)
drawn_in_front p capacity front rest run = are_drawn p (after p capacity front) run.plan (draws_after p capacity front)
