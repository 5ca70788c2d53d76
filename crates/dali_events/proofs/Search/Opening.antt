use Rattle.std.proofs.Common.{◌≡◌, ℕ, ◌+◌, ◌<◌, ◌≤◌, ◌⊎◌, inl, inr, Bool, true, false, zero, suc, List, [], ◌∷◌, refl, sym, subst, arith, length, get_or}
use Rattle.std.{proofs.Common.{Option, Some, None, add-zero, zero-add, ◌-◌, ◌&&◌, ◌==◌, if◌then◌else◌}, specs.Prelude.unwrap_or}
use Rattle.dali_frame.specs.{Random.{value_of, MASK24}, Short.short_of, declared.frames.Answer.{Answer, TheVariants.{Silence, Byte}}}
use Rattle.dali_frame.specs.declared.numbers.SearchAddress.{SearchAddress}
use Rattle.dali_special.specs.{Command.MASK, declared.command.Command.{Command, TheVariants.{Terminate, Initialise, Randomise, Withdraw, SearchHigh}}}
use Rattle.dali_special.specs.declared.command.{Command.TheVariants.{SearchMiddle, SearchLow, Program, QueryShort, Compare, RandomByte}, Part.TheVariants.High}
use Rattle.dali_special.specs.declared.command.{Part.TheVariants.{Middle, Low}, Target.TheVariants.Unaddressed}
use Rattle.dali_gear.specs.Gear.{Gear, fresh, is_active, is_enabled, is_found, is_second, concerns, draws_a_number, gear_taken, state_after, short_after}
use Rattle.dali_gear.specs.{Gear.half_after, Row.{takes, left_after, row_after, drawn_one, drawn_of, draws_needed}, declared.row.Reach.Reach}
use Rattle.dali_gear.specs.declared.state.InitialisationState.TheVariants.{Enabled, Withdrawn}
use Rattle.dali_script.specs.{Records.{Assignment, Has}, Scripts.is_asking, Stages.{Follows, next_stage, hunted, doubted, queried, named, verified, answered}}
use Rattle.dali_script.{specs.{Stages.{bytes_heard, number_heard}, declared.{block.Block.Block, stage.Stage.Stage}}, proofs.Transactions.asks_hunting}
use Rattle.dali_events.proofs.Invariant.Known.{Knows, IsActive, found_random}
use Rattle.dali_script.specs.declared.stage.Stage.TheVariants as stage

-- WITH NUMBERS ENOUGH, who would draw draws one of them
record DrawsNumber (reach : Reach) (c : Command) (k : ℕ) (gs : List Gear) (left : List ℕ) (i : ℕ) : Type 0 where
  pub number : ℕ
  pub drawn : Has (drawn_of reach c k gs left) (k + i, number)
  pub moved : get_or (row_after reach c k gs left) i fresh ≡ gear_taken c number (get_or gs i fresh)

draws_here : (reach : Reach) (c : Command) (k : ℕ) (g : Gear) (gs : List Gear) (left : List ℕ) → takes reach k g ≡ true → draws_a_number c g ≡ true
    → draws_needed reach c k (g ∷ gs) ≤ length left → DrawsNumber reach c k (g ∷ gs) left 0
draws_here reach c k g gs [] t w enough = absurd (let more : 1 + draws_needed reach c (k + 1) gs ≤ 0 = rw (t, w) at enough in omega arith)
draws_here reach c k g gs (r ∷ left) t w enough = record { number = r; drawn = rw (t, w, add-zero) (inl refl); moved = rw t refl }

has_drawn_one : (b : Bool) (k : ℕ) (left : List ℕ) (more : List (ℕ × ℕ)) (x : ℕ × ℕ) → Has more x → Has (drawn_one b k left more) x
has_drawn_one true k (r ∷ left) more x h = inr h
has_drawn_one _ k _ more x h = h

enough_left : (b : Bool) (n : ℕ) (left : List ℕ) → (if b then 1 else 0) + n ≤ length left → n ≤ length (left_after b left)
enough_left true n [] h = omega arith
enough_left _ n _ h = omega arith

draws_from : (reach : Reach) (c : Command) (k : ℕ) (gs : List Gear) (left : List ℕ) (i : ℕ) → i < length gs → draws_needed reach c k gs ≤ length left
    → takes reach (k + i) (get_or gs i fresh) ≡ true → draws_a_number c (get_or gs i fresh) ≡ true → DrawsNumber reach c k gs left i
draws_from reach c k [] left i h enough t w = absurd (omega arith)
draws_from reach c k (g ∷ gs) left zero h enough t w = draws_here reach c k g gs left (rw add-zero at t) w enough
draws_from reach c k (g ∷ gs) left (suc i) h enough t w =
    let b : Bool = takes reach k g && draws_a_number c g in
    let same : k + suc i ≡ k + 1 + i = omega arith in
    let fewer : draws_needed reach c (k + 1) gs ≤ length (left_after (takes reach k g && draws_a_number c g) left) =
    enough_left (takes reach k g && draws_a_number c g) (draws_needed reach c (k + 1) gs) left enough in
    let d = draws_from reach c (k + 1) gs (left_after (takes reach k g && draws_a_number c g) left) i (omega arith) fewer
    (subst (λ n. takes reach n (get_or gs i fresh) ≡ true) same t) w in
    record {
      number = d.number;
      drawn = has_drawn_one (takes reach k g && draws_a_number c g) k left
          (drawn_of reach c (k + 1) gs (left_after (takes reach k g && draws_a_number c g) left)) (k + suc i, d.number)
          (subst (λ n. Has (drawn_of reach c (k + 1) gs (left_after (takes reach k g && draws_a_number c g) left)) (n, d.number)) (sym same) d.drawn);
      moved = d.moved;
    }

pub draws_at : (reach : Reach) (c : Command) (gs : List Gear) (left : List ℕ) (i : ℕ) → i < length gs → draws_needed reach c 0 gs ≤ length left
    → takes reach i (get_or gs i fresh) ≡ true → draws_a_number c (get_or gs i fresh) ≡ true
    → (r : ℕ) × Has (drawn_of reach c 0 gs left) (i, r) × (get_or (row_after reach c 0 gs left) i fresh ≡ gear_taken c r (get_or gs i fresh))
draws_at reach c gs left i h enough t w =
    let d = draws_from reach c 0 gs left i h enough (subst (λ n. takes reach n (get_or gs i fresh) ≡ true) (sym (zero-add i)) t) w in
    (d.number, subst (λ n. Has (drawn_of reach c 0 gs left) (n, d.number)) (zero-add i) d.drawn, d.moved)

-- WHAT AN OPENING SAYS of each powered gear without short address
abbrev pub Opens : Stage → Gear → Type 0
Opens stage.Terminated g = g.half ≡ None
Opens stage.InitialisedOnce g = g.half ≡ Some (Initialise Unaddressed)
Opens stage.Initialised g = (g.half ≡ None) × (g.state ≡ Enabled)
Opens (stage.WokenHigh high) g = (g.half ≡ None) × (g.state ≡ Enabled)
Opens (stage.WokenMiddle high middle) g = (g.half ≡ None) × (g.state ≡ Enabled)
Opens stage.DrawFree g = (g.half ≡ None) × (g.state ≡ Enabled)
Opens stage.RandomisedOnce g = (g.half ≡ Some Randomise) × (g.state ≡ Enabled)
Opens _ g = Unit {0}

opens_doubted : (h : Answer) (g : Gear) → (g.half ≡ None) × (g.state ≡ Enabled) → Opens (doubted h) g
opens_doubted Silence g k = k
opens_doubted _ g k = tt

opens_queried : (r : SearchAddress) (h : Answer) (g : Gear) → Opens (queried r h) g
opens_queried r (Byte v) g = go (short_of v) (v == MASK) where
  go : (o : Option ℕ) (m : Bool) → Opens (named r o m) g
  go None true = tt
  go _ _ = tt
opens_queried r _ g = tt

opens_verified : (r : SearchAddress) (a : ℕ) (h : Answer) (g : Gear) → Opens (verified r a h) g
opens_verified r a (Byte v) g = go (short_of v) where
  go : (o : Option ℕ) → Opens (answered r a o) g
  go None = tt
  go (Some b) = same (b == a) where
    same : (m : Bool) → Opens (if m then stage.Confirmed r a else stage.Inconclusive r (Some b)) g
    same true = tt
    same false = tt
opens_verified r a _ g = tt

opens_middle : (a d : ℕ) (high : Option ℕ) (h : Answer) (g : Gear) → Opens (next_stage (stage.HighAsked a high) (RandomByte d Middle) h) g
opens_middle a d high h g = go (d == a) where
  go : (t : Bool) → Opens (unwrap_or (if t then Some (stage.MiddleAsked a (bytes_heard high h)) else None) stage.Over) g
  go true = tt
  go false = tt

opens_low : (a d : ℕ) (bytes : Option (ℕ × ℕ)) (h : Answer) (g : Gear) → Opens (next_stage (stage.MiddleAsked a bytes) (RandomByte d Low) h) g
opens_low a d bytes h g = go (d == a) where
  go : (t : Bool) → Opens (unwrap_or (if t then Some (stage.Spelled a (number_heard bytes h)) else None) stage.Over) g
  go true = tt
  go false = tt

-- the second INITIALISE enables it
enables : (g : Gear) → g.half ≡ Some (Initialise Unaddressed) → g.short ≡ None
    → (half_after (Initialise Unaddressed) g ≡ None) × (state_after (Initialise Unaddressed) g ≡ Enabled)
enables g half none = rw (half, none) (refl, refl)

remembers_initialise : (g : Gear) → g.half ≡ None → half_after (Initialise Unaddressed) g ≡ Some (Initialise Unaddressed)
remembers_initialise g half = rw half refl

remembers_randomise : (g : Gear) → g.half ≡ None → half_after Randomise g ≡ Some Randomise
remembers_randomise g half = rw half refl

opens_hunted : (r : SearchAddress) (last : Option Answer) (left : ℕ) (c : Command) (h : Answer) (g : Gear) → Opens (next_stage (stage.Hunted r last left) c h) g
opens_hunted r last left c h g = go (left == 0) where
  asked : (c : Command) → Opens (unwrap_or (hunted r (left - 1) c h) stage.Over) g
  asked (SearchHigh high) = tt
  asked _ = tt

  go : (t : Bool) → Opens (unwrap_or (if t then None else hunted r (left - 1) c h) stage.Over) g
  go true = tt
  go false = asked c

pub opens_step : (b : Block) (xs : List Assignment) (s : Stage) (c : Command) (h : Answer) (g : Gear) (x : ℕ)
    → Follows b xs s c → (g.short ≡ None → Opens s g) → short_after c g ≡ None → Opens (next_stage s c h) (gear_taken c x g)
opens_step b xs stage.Free Terminate h g x on k none = refl
opens_step b xs stage.Terminated (Initialise Unaddressed) h g x on k none = remembers_initialise g (k none)
opens_step b xs stage.InitialisedOnce (Initialise Unaddressed) h g x on k none = enables g (k none) none
opens_step b xs stage.Initialised Randomise h g x on k none = (remembers_randomise g (k none).0, (k none).1)
opens_step b xs stage.Initialised (SearchHigh high) h g x on k none = (refl, (k none).1)
opens_step b xs (stage.WokenHigh high) (SearchMiddle middle) h g x on k none = (refl, (k none).1)
opens_step b xs (stage.WokenLow high low) (SearchMiddle middle) h g x on k none = tt
opens_step b xs (stage.WokenMiddle high middle) Compare h g x on k none = opens_doubted h (gear_taken Compare x g) (refl, (k none).1)
opens_step b xs stage.DrawFree Randomise h g x on k none = (remembers_randomise g (k none).0, (k none).1)
opens_step b xs (stage.NumberSent r) QueryShort h g x on k none = opens_queried r h (gear_taken QueryShort x g)
opens_step b xs (stage.Programmed r a) QueryShort h g x on k none = opens_verified r a h (gear_taken QueryShort x g)
opens_step b xs stage.RandomisedOnce Randomise h g x on k none = tt
opens_step b xs (stage.HighSent high) (SearchMiddle middle) h g x on k none = tt
opens_step b xs (stage.MiddleSent high middle) (SearchLow low) h g x on k none = tt
opens_step b xs (stage.LowSent high low) (SearchMiddle middle) h g x on k none = tt
opens_step b xs (stage.Hunted r last left) c h g x on k none = opens_hunted r last left c h (gear_taken c x g)
opens_step b xs stage.Free (RandomByte a High) h g x on k none = tt
opens_step b xs (stage.HighAsked a high) (RandomByte d Middle) h g x on k none = opens_middle a d high h (gear_taken (RandomByte d Middle) x g)
opens_step b xs (stage.MiddleAsked a bytes) (RandomByte d Low) h g x on k none = opens_low a d bytes h (gear_taken (RandomByte d Low) x g)
opens_step b xs (stage.Found r a) Withdraw h g x on k none = tt
opens_step b xs (stage.Unnamed r) (Program (Some a)) h g x on k none = tt
opens_step b xs (stage.Confirmed r a) Withdraw h g x on k none = tt
opens_step b xs _ _ h g x on k none = tt

-- READY: a gear without short address that was opened to a search takes part in it, and has drawn a number
abbrev pub Ready : Gear → Type 0
Ready g = g.short ≡ None → (g.state ≡ Enabled) × (g.random < MASK24)

pub draws_ready : (g : Gear) → (g.half ≡ Some Randomise) × (g.state ≡ Enabled) → draws_a_number Randomise g ≡ true
draws_ready g k = rw (k.0, k.1) refl

pub drawn_ready : (g : Gear) (r : ℕ) → (g.half ≡ Some Randomise) × (g.state ≡ Enabled) → r < MASK24 → Ready (gear_taken Randomise r g)
drawn_ready g r k below = λ none. (k.1, rw (draws_ready g k) below)

-- a frame that is no TERMINATE leaves it ready
randomised_ready : (g : Gear) (r : ℕ) → (draws_a_number Randomise g ≡ true → (r ≡ g.random) ⊎ (r < MASK24)) → Ready g → Ready (gear_taken Randomise r g)
randomised_ready g r drew k = λ none. ((k none).0, go (draws_a_number Randomise g) refl (k none).1) where
  go : (b : Bool) → draws_a_number Randomise g ≡ b → g.random < MASK24 → (if b then r else g.random) < MASK24
  go false e below = below
  go true e below = from (drew e) where
    from : (r ≡ g.random) ⊎ (r < MASK24) → r < MASK24
    from (inl same) = subst (λ n. n < MASK24) (sym same) below
    from (inr h) = h

initialised_ready : (g : Gear) → Ready g → g.short ≡ None → state_after (Initialise Unaddressed) g ≡ Enabled
initialised_ready g k none = go (is_second (Initialise Unaddressed) g.half && concerns Unaddressed g.short) where
  go : (b : Bool) → (if b then Enabled else g.state) ≡ Enabled
  go true = refl
  go false = (k none).0

-- only gear with a short address withdraw
withdrawn_ready : (g : Gear) (r : SearchAddress) (a : ℕ) → (IsActive g → (g.search ≡ r) × (g.random ≡ value_of r → g.short ≡ Some a)) → Ready g → g.short ≡ None
    → state_after Withdraw g ≡ Enabled
withdrawn_ready g r a knows k none = go (is_enabled g.state && is_found g) refl where
  active : is_active g.state ≡ true
  active = rw (k none).0 refl

  second : (t f : Bool) → (t && f) ≡ true → f ≡ true
  second true f e = e
  second false f e = absurd (cc)

  go : (b : Bool) → (is_enabled g.state && is_found g) ≡ b → (if b then Withdrawn else g.state) ≡ Enabled
  go false e = (k none).0
  go true e =
      let found : is_found g ≡ true = second (is_enabled g.state) (is_found g) e in
      let short : g.short ≡ Some a = (knows active).1 (found_random g r (knows active).0 found) in
      absurd (cc)

programmed_ready : (g : Gear) (a : ℕ) → Ready g → short_after (Program (Some a)) g ≡ None → (g.state ≡ Enabled) × (g.random < MASK24)
programmed_ready g a k none = go (is_active g.state && is_found g) none where
  go : (b : Bool) → (if b then Some a else g.short) ≡ None → (g.state ≡ Enabled) × (g.random < MASK24)
  go true e = absurd (cc)
  go false e = k e

ready_asking : (c : Command) (g : Gear) (r : ℕ) → is_asking c ≡ true → Ready g → Ready (gear_taken c r g)
ready_asking (SearchHigh high) g r asks k = k
ready_asking (SearchMiddle middle) g r asks k = k
ready_asking (SearchLow low) g r asks k = k
ready_asking Compare g r asks k = k
ready_asking _ g r asks k = absurd (cc)

pub ready_step : (b : Block) (xs : List Assignment) (s : Stage) (c : Command) (g : Gear) (r : ℕ)
    → Follows b xs s c → (c ≡ Terminate → ⊥) → ((n : SearchAddress) → c ≡ Withdraw → s ≡ stage.NumberSent n → ⊥)
    → (draws_a_number c g ≡ true → (r ≡ g.random) ⊎ (r < MASK24)) → Knows s g → Ready g → Ready (gear_taken c r g)
ready_step b xs stage.Terminated (Initialise Unaddressed) g r on calm stays drew knows k = λ none. (initialised_ready g k none, (k none).1)
ready_step b xs stage.InitialisedOnce (Initialise Unaddressed) g r on calm stays drew knows k = λ none. (initialised_ready g k none, (k none).1)
ready_step b xs (stage.NumberSent n) Withdraw g r on calm stays drew knows k = absurd (stays n refl refl)
ready_step b xs (stage.Found n a) Withdraw g r on calm stays drew knows k = λ none. (withdrawn_ready g n a knows k none, (k none).1)
ready_step b xs (stage.Unnamed n) (Program (Some a)) g r on calm stays drew knows k = programmed_ready g a k
ready_step b xs (stage.Confirmed n a) Withdraw g r on calm stays drew knows k = λ none. (withdrawn_ready g n a knows k none, (k none).1)
ready_step b xs (stage.Hunted n last left) c g r on calm stays drew knows k = ready_asking c g r (asks_hunting n last left c on.leads_on).1 k
ready_step b xs _ Terminate g r on calm stays drew knows k = absurd (calm refl)
ready_step b xs _ (Initialise target) g r on calm stays drew knows k = absurd (let none = on.leads_on in cc)
ready_step b xs _ Randomise g r on calm stays drew knows k = randomised_ready g r drew k
ready_step b xs _ (Program short) g r on calm stays drew knows k = absurd (let none = on.leads_on in cc)
ready_step b xs _ Withdraw g r on calm stays drew knows k = absurd (let none = on.leads_on in cc)
ready_step b xs _ _ g r on calm stays drew knows k = k
