use Rattle.std.proofs.Common.{◌≡◌, ℕ, ◌+◌, Bool, true, false, List, [], ◌∷◌, map, None, refl, ap, ◌∙◌, zero-add, append-nil, ◌&&◌, if◌then◌else◌}
use Rattle.dali_frame.specs.declared.frames.Forward.{Forward}
use Rattle.dali_special.specs.{Command.command_of, declared.command.Command.{Command, TheVariants.{Arc, Other, Randomise, Program}}}
use Rattle.dali_gear.specs.{Gear.{Gear, draws_a_number, gear_taken}, Row.{takes, next_draw, one_after, left_after, row_after, row_left, draws_needed}}
use Rattle.dali_gear.specs.{Row.{drawn_one, drawn_of, stored_short, stored_one, stored_of}, declared.row.Reach.TheVariants.Everyone}
use Rattle.dali_events.specs.{Foreign.{is_foreign, is_foreign_as}, Happens.{taken_by, gear_interrupted, after_foreign}, World.World}

-- A FRAME OF ANOTHER DEVICE: what gear with power do when they take it is what the event says.
taken_one : (c : Command) (f : Forward) (r : ℕ) (g : Gear) → is_foreign_as c f ≡ true → gear_taken c r g ≡ record g { half = None }
taken_one (Arc h) f r g foreign = refl
taken_one (Other h) f r g foreign = refl
taken_one _ f r g foreign = absurd (cc)

no_draw : (t : Bool) (c : Command) (f : Forward) (g : Gear) → is_foreign_as c f ≡ true → (t && draws_a_number c g) ≡ false
no_draw true Randomise f g foreign = absurd (cc)
no_draw _ _ f g foreign = refl

not_stored : (t : Bool) (c : Command) (f : Forward) (g : Gear) → is_foreign_as c f ≡ true → (if t then stored_short c g else None) ≡ None
not_stored true (Program short) f g foreign = absurd (cc)
not_stored _ _ f g foreign = refl

one_interrupted : (c : Command) (f : Forward) (k : ℕ) (g : Gear) (left : List ℕ) → is_foreign_as c f ≡ true
    → one_after (takes Everyone k g) c left g ≡ gear_interrupted g
one_interrupted c f k g left foreign = go g.powered where
  go : (p : Bool) → one_after (p && true) c left g ≡ record g { half = if p then None else g.half }
  go true = taken_one c f (next_draw g left) g foreign
  go false = refl

row_by : (c : Command) (f : Forward) (k : ℕ) (gs : List Gear) (left : List ℕ) → is_foreign_as c f ≡ true
    → row_after Everyone c k gs left ≡ map gear_interrupted gs
row_by c f k [] left foreign = refl
row_by c f k (g ∷ gs) left foreign =
    ap (λ h. h ∷ row_after Everyone c (k + 1) gs (left_after (takes Everyone k g && draws_a_number c g) left)) (one_interrupted c f k g left foreign)
    ∙ ap (λ hs. gear_interrupted g ∷ hs) (row_by c f (k + 1) gs (left_after (takes Everyone k g && draws_a_number c g) left) foreign)

draws_by : (c : Command) (f : Forward) (k : ℕ) (gs : List Gear) → is_foreign_as c f ≡ true → draws_needed Everyone c k gs ≡ 0
draws_by c f k [] foreign = refl
draws_by c f k (g ∷ gs) foreign =
    ap (λ d. (if d then 1 else 0) + draws_needed Everyone c (k + 1) gs) (no_draw (takes Everyone k g) c f g foreign)
    ∙ (zero-add (draws_needed Everyone c (k + 1) gs) ∙ draws_by c f (k + 1) gs foreign)

left_by : (c : Command) (f : Forward) (k : ℕ) (gs : List Gear) (left : List ℕ) → is_foreign_as c f ≡ true → row_left Everyone c k gs left ≡ left
left_by c f k [] left foreign = refl
left_by c f k (g ∷ gs) left foreign =
    ap (λ d. row_left Everyone c (k + 1) gs (left_after d left)) (no_draw (takes Everyone k g) c f g foreign) ∙ left_by c f (k + 1) gs left foreign

drawn_by : (c : Command) (f : Forward) (k : ℕ) (gs : List Gear) (left : List ℕ) → is_foreign_as c f ≡ true → drawn_of Everyone c k gs left ≡ []
drawn_by c f k [] left foreign = refl
drawn_by c f k (g ∷ gs) left foreign =
    ap (λ d. drawn_one d k left (drawn_of Everyone c (k + 1) gs (left_after d left))) (no_draw (takes Everyone k g) c f g foreign)
    ∙ drawn_by c f (k + 1) gs left foreign

stored_by : (c : Command) (f : Forward) (k : ℕ) (gs : List Gear) → is_foreign_as c f ≡ true → stored_of Everyone c k gs ≡ []
stored_by c f k [] foreign = refl
stored_by c f k (g ∷ gs) foreign =
    ap (λ s. stored_one k s (stored_of Everyone c (k + 1) gs)) (not_stored (takes Everyone k g) c f g foreign) ∙ stored_by c f (k + 1) gs foreign

pub row : (f : Forward) (gs : List Gear) (left : List ℕ) → is_foreign f ≡ true → row_after Everyone (command_of f) 0 gs left ≡ map gear_interrupted gs
row f gs left foreign = row_by (command_of f) f 0 gs left foreign

pub draws : (f : Forward) (gs : List Gear) → is_foreign f ≡ true → draws_needed Everyone (command_of f) 0 gs ≡ 0
draws f gs foreign = draws_by (command_of f) f 0 gs foreign

pub foreign_taken : (w : World) (f : Forward) → is_foreign f ≡ true → taken_by w Everyone (command_of f) ≡ after_foreign w
foreign_taken w f foreign =
    rw (
      row_by (command_of f) f 0 w.gear w.left foreign,
      left_by (command_of f) f 0 w.gear w.left foreign,
      drawn_by (command_of f) f 0 w.gear w.left foreign,
      stored_by (command_of f) f 0 w.gear foreign,
      append-nil w.drawn,
      append-nil w.gifts,
    ) refl
