use Rattle.std.proofs.Common.{◌≡◌, ℕ, ◌<◌, ◌⊎◌, inl, inr, Bool, true, false, List, refl, sym, ap, subst, ◌∙◌, arith, Option, Some, None, ◌-◌, ◌&&◌, ◌==◌}
use Rattle.std.{proofs.{Common.{if◌then◌else◌, rules}, lemmas.Bool.Decides.nat_tests}, specs.Prelude.unwrap_or}
use Rattle.dali_frame.specs.{Random.value_of, Short.{code_of, short_of}, declared.frames.Answer.{Answer, TheVariants.{Silence, Byte}}}
use Rattle.dali_frame.specs.declared.numbers.SearchAddress.{SearchAddress}
use Rattle.dali_special.specs.{Command.{MASK, program_data, IsSpelled}, declared.command.Command.{Command, TheVariants.{Terminate, Initialise, Randomise}}}
use Rattle.dali_special.specs.declared.command.Command.TheVariants.{Withdraw, SearchHigh, SearchMiddle, SearchLow, Program, QueryShort, Compare, RandomByte}
use Rattle.dali_special.{specs.declared.command.{Part.TheVariants.{High, Middle, Low}, Target.TheVariants.Unaddressed}, proofs.Table.short_of_code}
use Rattle.dali_gear.specs.{Gear.{Gear, is_active, is_found, is_second, concerns, random_after, state_after, short_after, gear_taken, answer}, Row.stored_short}
use Rattle.dali_gear.specs.declared.state.InitialisationState.TheVariants.{Enabled}
use Rattle.dali_script.specs.{Records.Assignment, Stages.{Follows, next_stage, hunted, doubted, queried, named, verified, answered, bytes_heard, number_heard}}
use Rattle.dali_script.specs.{Stages.IsSearched, declared.{block.Block.Block, stage.Stage.Stage}}
use Rattle.dali_script.specs.declared.stage.Stage.TheVariants as stage

-- WHAT A STAGE SAYS OF EACH POWERED GEAR that takes part in the initialisation
abbrev pub IsActive : Gear → Type 0
IsActive g = is_active g.state ≡ true

abbrev pub Unnumbered : Gear → Type 0
Unnumbered g = IsActive g → g.short ≡ None

abbrev pub Seeks : SearchAddress → Gear → Type 0
Seeks r g = IsActive g → g.search ≡ r

abbrev pub Knows : Stage → Gear → Type 0
Knows stage.Terminated g = Unnumbered g
Knows stage.InitialisedOnce g = Unnumbered g
Knows stage.Initialised g = Unnumbered g
Knows (stage.WokenHigh high) g = IsActive g → (g.short ≡ None) × (g.search.high ≡ high)
Knows (stage.WokenLow high low) g = IsActive g → (g.search.high ≡ high) × (g.search.low ≡ low)
Knows (stage.WokenMiddle high middle) g = Unnumbered g
Knows stage.DrawFree g = Unnumbered g
Knows stage.RandomisedOnce g = Unnumbered g
Knows (stage.HighSent high) g = IsActive g → g.search.high ≡ high
Knows (stage.MiddleSent high middle) g = IsActive g → (g.search.high ≡ high) × (g.search.middle ≡ middle)
Knows (stage.NumberSent r) g = Seeks r g
Knows (stage.LowSent high low) g = IsActive g → (g.search.high ≡ high) × (g.search.low ≡ low)
Knows (stage.Hunted r last left) g = Seeks r g
Knows (stage.Found r b) g = IsActive g → (g.search ≡ r) × (g.random ≡ value_of r → g.short ≡ Some b)
Knows (stage.Unnamed r) g = IsActive g → (g.search ≡ r) × (g.random ≡ value_of r → g.short ≡ None)
Knows (stage.Programmed r a) g = Seeks r g
Knows (stage.Confirmed r a) g = IsActive g → (g.search ≡ r) × (g.random ≡ value_of r → g.short ≡ Some a)
Knows _ g = Unit {0}

-- a byte that is heard is what the gear answered, if it answered
abbrev pub Agrees : Command → Gear → Answer → Type 0
Agrees c g h = (u v : ℕ) → h ≡ Byte u → answer c g ≡ Some v → v ≡ u

-- its short address is one
abbrev pub IsShort : Gear → Type 0
IsShort g = (a : ℕ) → g.short ≡ Some a → a < 64

-- a gear that is heard to have none has none
none_of_code : (o : Option ℕ) (v : ℕ) → ((a : ℕ) → o ≡ Some a → a < 64) → short_of v ≡ None → program_data o ≡ v → o ≡ None
none_of_code None v small short e = refl
none_of_code (Some a) v small short e =
    absurd (let read : short_of (code_of a) ≡ Some a = short_of_code a (small a refl) in let at : short_of (code_of a) ≡ None = ap short_of e ∙ short in cc)

-- a gear that is heard to have one has it
pub some_of_code : (o : Option ℕ) (v b : ℕ) → ((a : ℕ) → o ≡ Some a → a < 64) → short_of v ≡ Some b → program_data o ≡ v → o ≡ Some b
some_of_code None v b small short e = absurd (let at : short_of 255 ≡ Some b = ap short_of e ∙ short in cc)
some_of_code (Some a) v b small short e = sym (short_of_code a (small a refl)) ∙ ap short_of e ∙ short

query_answer : (g : Gear) → IsActive g → is_found g ≡ true → answer QueryShort g ≡ Some (program_data g.short)
query_answer g active found = rw (active, found) refl

found_at : (g : Gear) (r : SearchAddress) → g.search ≡ r → g.random ≡ value_of r → is_found g ≡ true
found_at g r search random = test (g.random) (value_of g.search) (random ∙ ap value_of (sym search)) where
  test : (m n : ℕ) → m ≡ n → (m == n) ≡ true
  test m n e = grind (arith, nat_tests)

pub found_random : (g : Gear) (r : SearchAddress) → g.search ≡ r → is_found g ≡ true → g.random ≡ value_of r
found_random g r search found = test (g.random) (value_of g.search) found ∙ ap value_of search where
  test : (m n : ℕ) → (m == n) ≡ true → m ≡ n
  test m n e = grind (arith, nat_tests)

knows_doubted : (h : Answer) (g : Gear) → Unnumbered g → Knows (doubted h) g
knows_doubted Silence g k = k
knows_doubted _ g k = tt

knows_queried : (r : SearchAddress) (h : Answer) (g : Gear) (x : ℕ) → IsShort g → Agrees QueryShort g h → Seeks r g
    → Knows (queried r h) (gear_taken QueryShort x g)
knows_queried r (Byte v) g x small agrees k = go (short_of v) (v == MASK) refl where
  go : (o : Option ℕ) (m : Bool) → short_of v ≡ o → Knows (named r o m) (gear_taken QueryShort x g)
  go (Some b) m short = λ active.
      (k active, λ random. some_of_code g.short v b small short (agrees v (program_data g.short) refl (query_answer g active (found_at g r (k active) random))))
  go None true short = λ active. (
    k active,
    λ random. none_of_code g.short v small short (agrees v (program_data g.short) refl (query_answer g active (found_at g r (k active) random))),
  )
  go None false short = tt
knows_queried r _ g x small agrees k = tt

knows_verified : (r : SearchAddress) (a : ℕ) (h : Answer) (g : Gear) (x : ℕ) → IsShort g → Agrees QueryShort g h → Seeks r g
    → Knows (verified r a h) (gear_taken QueryShort x g)
knows_verified r a (Byte v) g x small agrees k = go (short_of v) refl where
  go : (o : Option ℕ) → short_of v ≡ o → Knows (answered r a o) (gear_taken QueryShort x g)
  go None short = tt
  go (Some b) short = same (b == a) refl where
    same : (m : Bool) → (b == a) ≡ m → Knows (if m then stage.Confirmed r a else stage.Inconclusive r (Some b)) (gear_taken QueryShort x g)
    same true is = λ active.
        let number : b ≡ a = grind (arith, nat_tests) in (
          k active,
          λ random. some_of_code g.short v b small short
              (agrees v (program_data g.short) refl (query_answer g active (found_at g r (k active) random))) ∙ ap (λ n. Some n) number,
        )
    same false is = tt
knows_verified r a _ g x small agrees k = tt

both_true : (a b : Bool) → (a && b) ≡ true → (a ≡ true) × (b ≡ true)
both_true true b e = (refl, e)
both_true false b e = absurd (cc)

concerned_none : (short : Option ℕ) → concerns Unaddressed short ≡ true → short ≡ None
concerned_none None e = refl
concerned_none (Some a) e = absurd (cc)

-- who becomes active at INITIALISE for gear without short address has none
initialised_none : (g : Gear) → Unnumbered g → is_active (state_after (Initialise Unaddressed) g) ≡ true → g.short ≡ None
initialised_none g k active = go (is_second (Initialise Unaddressed) g.half && concerns Unaddressed g.short) refl active where
  go : (b : Bool) → (is_second (Initialise Unaddressed) g.half && concerns Unaddressed g.short) ≡ b → is_active (if b then Enabled else g.state) ≡ true
      → g.short ≡ None
  go true e a = concerned_none g.short (both_true (is_second (Initialise Unaddressed) g.half) (concerns Unaddressed g.short) e).1
  go false e a = k a

-- queries of a random address say nothing here
knows_middle : (a d : ℕ) (high : Option ℕ) (h : Answer) (g : Gear) → Knows (next_stage (stage.HighAsked a high) (RandomByte d Middle) h) g
knows_middle a d high h g = go (d == a) where
  go : (t : Bool) → Knows (unwrap_or (if t then Some (stage.MiddleAsked a (bytes_heard high h)) else None) stage.Over) g
  go true = tt
  go false = tt

knows_low : (a d : ℕ) (bytes : Option (ℕ × ℕ)) (h : Answer) (g : Gear) → Knows (next_stage (stage.MiddleAsked a bytes) (RandomByte d Low) h) g
knows_low a d bytes h g = go (d == a) where
  go : (t : Bool) → Knows (unwrap_or (if t then Some (stage.Spelled a (number_heard bytes h)) else None) stage.Over) g
  go true = tt
  go false = tt

-- one more frame of a hunt
knows_hunted : (r : SearchAddress) (last : Option Answer) (left : ℕ) (c : Command) (h : Answer) (g : Gear) (x : ℕ) → Seeks r g
    → Knows (next_stage (stage.Hunted r last left) c h) (gear_taken c x g)
knows_hunted r last left c h g x k = go (left == 0) where
  asked : (c : Command) → Knows (unwrap_or (hunted r (left - 1) c h) stage.Over) (gear_taken c x g)
  asked (SearchHigh high) = λ active. rw active (ap (λ (n : SearchAddress). record n { high = high }) (k active))
  asked (SearchMiddle middle) = λ active. rw active (ap (λ (n : SearchAddress). record n { middle = middle }) (k active))
  asked (SearchLow low) = λ active. rw active (ap (λ (n : SearchAddress). record n { low = low }) (k active))
  asked Compare = k
  asked _ = tt

  go : (t : Bool) → Knows (unwrap_or (if t then None else hunted r (left - 1) c h) stage.Over) (gear_taken c x g)
  go true = tt
  go false = asked c

pub knows_step : (b : Block) (xs : List Assignment) (s : Stage) (c : Command) (h : Answer) (g : Gear) (x : ℕ)
    → Follows b xs s c → IsShort g → Agrees c g h → Knows s g → Knows (next_stage s c h) (gear_taken c x g)
knows_step b xs stage.Free Terminate h g x on small agrees k = λ active. absurd (cc)
knows_step b xs stage.Free (SearchHigh high) h g x on small agrees k = λ active. rw active refl
knows_step b xs stage.Terminated (Initialise Unaddressed) h g x on small agrees k = initialised_none g k
knows_step b xs stage.InitialisedOnce (Initialise Unaddressed) h g x on small agrees k = initialised_none g k
knows_step b xs stage.Initialised Randomise h g x on small agrees k = k
knows_step b xs stage.Initialised (SearchHigh high) h g x on small agrees k = λ active. rw active (k active, refl)
knows_step b xs (stage.WokenHigh high) (SearchLow low) h g x on small agrees k = λ active. rw active ((k active).1, refl)
knows_step b xs (stage.WokenHigh high) (SearchMiddle middle) h g x on small agrees k = λ active. (k active).0
knows_step b xs (stage.WokenLow high low) (SearchMiddle middle) h g x on small agrees k = λ active.
    rw active (ap (λ n. record { high = n; middle = middle; low = g.search.low }) (k active).0
    ∙ ap (λ n. record { high = high; middle = middle; low = n }) (k active).1)
knows_step b xs (stage.WokenMiddle high middle) Compare h g x on small agrees k = knows_doubted h (gear_taken Compare x g) k
knows_step b xs stage.DrawFree Randomise h g x on small agrees k = k
knows_step b xs (stage.HighSent high) (SearchMiddle middle) h g x on small agrees k = λ active. rw active (k active, refl)
knows_step b xs (stage.MiddleSent high middle) (SearchLow low) h g x on small agrees k = λ active.
    rw active (ap (λ n. record { high = n; middle = g.search.middle; low = low }) (k active).0
    ∙ ap (λ n. record { high = high; middle = n; low = low }) (k active).1)
knows_step b xs (stage.HighSent high) (SearchLow low) h g x on small agrees k = λ active. rw active (k active, refl)
knows_step b xs (stage.LowSent high low) (SearchMiddle middle) h g x on small agrees k = λ active.
    rw active (ap (λ n. record { high = n; middle = middle; low = g.search.low }) (k active).0
    ∙ ap (λ n. record { high = high; middle = middle; low = n }) (k active).1)
knows_step b xs (stage.Hunted r last left) c h g x on small agrees k = knows_hunted r last left c h g x k
knows_step b xs (stage.NumberSent r) QueryShort h g x on small agrees k = knows_queried r h g x small agrees k
knows_step b xs (stage.Unnamed r) (Program (Some a)) h g x on small agrees k = λ active. (k active).0
knows_step b xs (stage.Programmed r a) QueryShort h g x on small agrees k = knows_verified r a h g x small agrees k
knows_step b xs stage.RandomisedOnce Randomise h g x on small agrees k = tt
knows_step b xs stage.Free (RandomByte a High) h g x on small agrees k = tt
knows_step b xs (stage.HighAsked a high) (RandomByte d Middle) h g x on small agrees k = knows_middle a d high h (gear_taken (RandomByte d Middle) x g)
knows_step b xs (stage.MiddleAsked a bytes) (RandomByte d Low) h g x on small agrees k = knows_low a d bytes h (gear_taken (RandomByte d Low) x g)
knows_step b xs (stage.Found r a) Withdraw h g x on small agrees k = tt
knows_step b xs (stage.Confirmed r a) Withdraw h g x on small agrees k = tt
knows_step b xs _ _ h g x on small agrees k = tt

-- of a gear that takes no part a stage says nothing
pub knows_inactive : (s : Stage) (g : Gear) → is_active g.state ≡ false → Knows s g
knows_inactive stage.Terminated g off = λ active. absurd (cc)
knows_inactive _ g off = search rules

-- a stage says nothing of half pairs here
pub knows_halved : (s : Stage) (g : Gear) (half : Option Command) → Knows s g → Knows s (record g { half = half })
knows_halved stage.Terminated g half k = k
knows_halved _ g half k = k

-- ONE GEAR AND ONE FRAME. What a gear stores, and what it keeps.
pub short_from : (c : Command) (g : Gear) (a : ℕ) → short_after c g ≡ Some a → (g.short ≡ Some a) ⊎ (stored_short c g ≡ Some a)
short_from (Program short) g a e = go (is_active g.state && is_found g) e where
  go : (t : Bool) → (if t then short else g.short) ≡ Some a → (g.short ≡ Some a) ⊎ ((if t then short else None) ≡ Some a)
  go true e = inr e
  go false e = inl e
short_from _ g a e = inl e

pub short_stored : (c : Command) (g : Gear) (a : ℕ) → stored_short c g ≡ Some a → short_after c g ≡ Some a
short_stored (Program short) g a e = go (is_active g.state && is_found g) e where
  go : (t : Bool) → (if t then short else None) ≡ Some a → (if t then short else g.short) ≡ Some a
  go true e = e
  go false e = absurd (cc)
short_stored _ g a e = absurd (cc)

pub short_taken : (c : Command) (g : Gear) (x : ℕ) → IsSpelled c → IsShort g → IsShort (gear_taken c x g)
short_taken c g x spelled small a e = go (short_from c g a e) where
  of_program : (d : Command) → IsSpelled d → stored_short d g ≡ Some a → a < 64
  of_program (Program (Some b)) is e = from (is_active g.state && is_found g) e where
    from : (t : Bool) → (if t then Some b else None) ≡ Some a → a < 64
    from true e = subst (λ n. n < 64) (let same : b ≡ a = cc in same) is
    from false e = absurd (cc)
  of_program (Program None) is e = from (is_active g.state && is_found g) e where
    from : (t : Bool) → (if t then None else None) ≡ Some a → a < 64
    from true e = absurd (cc)
    from false e = absurd (cc)
  of_program _ is e = absurd (cc)

  go : (g.short ≡ Some a) ⊎ (stored_short c g ≡ Some a) → a < 64
  go (inl e) = small a e
  go (inr e) = of_program c spelled e

-- the random address of a gear that stores one stays
pub random_stored : (c : Command) (g : Gear) (x a : ℕ) → stored_short c g ≡ Some a → random_after c x g ≡ g.random
random_stored (Program short) g x a e = refl
random_stored _ g x a e = absurd (cc)

-- at QUERY SHORT ADDRESS the gear have the search address that was sent
pub search_known : (b : Block) (xs : List Assignment) (s : Stage) (c : Command) (g : Gear) (r : SearchAddress) → Follows b xs s c → c ≡ QueryShort
    → IsSearched s r → Knows s g → IsActive g → g.search ≡ r
search_known b xs (stage.NumberSent n) QueryShort g r on is searched k active = k active ∙ sym searched
search_known b xs (stage.Programmed n a) QueryShort g r on is searched k active = k active ∙ sym searched
search_known b xs (stage.Hunted n last left) QueryShort g r on is searched k active = k active ∙ sym searched
search_known b xs _ _ g r on is searched k active = absurd (let none = on.leads_on in cc)
