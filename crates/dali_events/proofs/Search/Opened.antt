use Rattle.std.{proofs.Common.{◌≡◌, ℕ, ◌<◌, ◌≤◌, true, false, List, refl, sym, subst, ◌∙◌, length, Option, Some, None}, specs.List.count_by}
use Rattle.dali_frame.specs.Random.{MASK24}
use Rattle.dali_special.specs.declared.command.{Command.{Command, TheVariants.{Terminate, Initialise, Randomise}}, Target.TheVariants.Unaddressed}
use Rattle.dali_gear.specs.{Gear.{Gear, is_active, draws_a_number, gear_taken, state_after, half_after}, Row.{row_after, drawn_of, draws_needed}}
use Rattle.dali_gear.specs.declared.{row.Reach.TheVariants.Everyone, state.InitialisationState.TheVariants.{Disabled, Enabled}}
use Rattle.dali_script.specs.{Records.Has, declared.stage.Stage.Stage}
use Rattle.dali_events.{specs.Wanted.{is_wanted, is_bare, gear_of, OfPowered, IsOpened, NoneNamed}, proofs.Invariant.{Sending.powered_takes, Takes.row_length}}
use Rattle.dali_events.proofs.Search.{Opening.draws_at, Wanted.{wanted_count, after_at}}
use Rattle.dali_script.specs.declared.stage.Stage.TheVariants as stage

-- WHAT AN OPENING SAYS of each powered gear: one without short address is ENABLED, and one with it DISABLED
abbrev pub OpenedBy : Gear → Type 0
OpenedBy g = (g.short ≡ None → g.state ≡ Enabled) × ((a : ℕ) → g.short ≡ Some a → g.state ≡ Disabled)

-- stage by stage
abbrev pub IsOpening : Stage → Gear → Type 0
IsOpening stage.Terminated g = (g.half ≡ None) × (g.state ≡ Disabled)
IsOpening stage.InitialisedOnce g = (g.half ≡ Some (Initialise Unaddressed)) × (g.state ≡ Disabled)
IsOpening stage.Initialised g = (g.half ≡ None) × OpenedBy g
IsOpening stage.RandomisedOnce g = (g.half ≡ Some Randomise) × OpenedBy g
IsOpening stage.Opened g = (g.short ≡ None → g.random < MASK24) × OpenedBy g
IsOpening _ g = Unit {0}

abbrev pub AreOpening : Stage → List Gear → Type 0
AreOpening s gs = OfPowered gs (IsOpening s)

-- from one stage to the next
opening_step : (c : Command) (s t : Stage) → ((g : Gear) (x : ℕ) → IsOpening s g → IsOpening t (gear_taken c x g)) → (gs : List Gear) (left : List ℕ)
    → AreOpening s gs → AreOpening t (row_after Everyone c 0 gs left)
opening_step c s t step gs left all k in_row on =
    let there : k < length gs = subst (λ n. k < n) (row_length Everyone c 0 gs left) in_row in
    after_at c (λ g h. (g.powered ≡ true → IsOpening s g) → h.powered ≡ true → IsOpening t h) (λ g off was up. absurd (off up))
    (λ g x up was still. step g x (was up)) gs left k there (all k there) on

pub opening_terminated : (gs : List Gear) (left : List ℕ) → AreOpening stage.Terminated (row_after Everyone Terminate 0 gs left)
opening_terminated gs left = opening_step Terminate stage.Free stage.Terminated (λ g x was. (refl, refl)) gs left (λ k h on. tt)

initialised_once : (g : Gear) (x : ℕ) → IsOpening stage.Terminated g → IsOpening stage.InitialisedOnce (gear_taken (Initialise Unaddressed) x g)
initialised_once g x was = rw (was.0) (refl, was.1)

pub opening_initialised_once : (gs : List Gear) (left : List ℕ) → AreOpening stage.Terminated gs
    → AreOpening stage.InitialisedOnce (row_after Everyone (Initialise Unaddressed) 0 gs left)
opening_initialised_once = opening_step (Initialise Unaddressed) stage.Terminated stage.InitialisedOnce initialised_once

initialised_twice : (g : Gear) (x : ℕ) → IsOpening stage.InitialisedOnce g → IsOpening stage.Initialised (gear_taken (Initialise Unaddressed) x g)
initialised_twice g x was = (half, (λ none. enabled none, λ a short. disabled a short)) where
  half : half_after (Initialise Unaddressed) g ≡ None
  half = rw (was.0) refl

  enabled : g.short ≡ None → state_after (Initialise Unaddressed) g ≡ Enabled
  enabled none = rw (was.0, none) refl

  disabled : (a : ℕ) → g.short ≡ Some a → state_after (Initialise Unaddressed) g ≡ Disabled
  disabled a short = rw (was.0, short) was.1

pub opening_initialised : (gs : List Gear) (left : List ℕ) → AreOpening stage.InitialisedOnce gs
    → AreOpening stage.Initialised (row_after Everyone (Initialise Unaddressed) 0 gs left)
opening_initialised = opening_step (Initialise Unaddressed) stage.InitialisedOnce stage.Initialised initialised_twice

randomised_once : (g : Gear) (x : ℕ) → IsOpening stage.Initialised g → IsOpening stage.RandomisedOnce (gear_taken Randomise x g)
randomised_once g x was = (half, was.1) where
  half : half_after Randomise g ≡ Some Randomise
  half = rw (was.0) refl

pub opening_randomised_once : (gs : List Gear) (left : List ℕ) → AreOpening stage.Initialised gs
    → AreOpening stage.RandomisedOnce (row_after Everyone Randomise 0 gs left)
opening_randomised_once = opening_step Randomise stage.Initialised stage.RandomisedOnce randomised_once

-- the second RANDOMISE, with numbers enough
abbrev SameState : Gear → Gear → Type 0
SameState g h = (h.powered ≡ g.powered) × (h.state ≡ g.state) × (h.short ≡ g.short)

opened_one : (g h : Gear) → SameState g h → OpenedBy g → OpenedBy h
opened_one g h same was = (λ none. same.1 ∙ was.0 (sym same.2 ∙ none), λ a short. same.1 ∙ was.1 a (sym same.2 ∙ short))

drew_below : (g : Gear) (x : ℕ) → draws_a_number Randomise g ≡ true → x < MASK24 → (gear_taken Randomise x g).random < MASK24
drew_below g x would below = rw would below

pub opening_opened : (gs : List Gear) (left : List ℕ) → draws_needed Everyone Randomise 0 gs ≤ length left
    → ((x : ℕ × ℕ) → Has (drawn_of Everyone Randomise 0 gs left) x → x.1 < MASK24) → AreOpening stage.RandomisedOnce gs
    → AreOpening stage.Opened (row_after Everyone Randomise 0 gs left)
opening_opened gs left enough below all k in_row on =
    (λ none. random none, opened_one (gear_of gs k) (gear_of (row_after Everyone Randomise 0 gs left) k) same was.1) where
      there : k < length gs
      there = subst (λ n. k < n) (row_length Everyone Randomise 0 gs left) in_row

      same : SameState (gear_of gs k) (gear_of (row_after Everyone Randomise 0 gs left) k)
      same = after_at Randomise SameState (λ g off. (refl, refl, refl)) (λ g x on. (refl, refl, refl)) gs left k there

      up : (gear_of gs k).powered ≡ true
      up = sym same.0 ∙ on

      was : IsOpening stage.RandomisedOnce (gear_of gs k)
      was = all k there up

      random : (gear_of (row_after Everyone Randomise 0 gs left) k).short ≡ None → (gear_of (row_after Everyone Randomise 0 gs left) k).random < MASK24
      random none =
          let enabled : (gear_of gs k).state ≡ Enabled = was.1.0 (sym same.2 ∙ none) in
          let would : draws_a_number Randomise (gear_of gs k) ≡ true = rw (was.0, enabled) refl in
          let d = draws_at Everyone Randomise gs left k there enough (powered_takes k (gear_of gs k) up) would in
          subst (λ g. g.random < MASK24) (sym d.2) (drew_below (gear_of gs k) d.0 would (below (k, d.0) d.1))

-- AT THE END OF AN OPENING the gear without short address are wanted, and no other
opened_named : (g : Gear) → OpenedBy g → g.state ≡ Enabled → g.short ≡ None
opened_named g opened enabled = go g.short refl where
  go : (o : Option ℕ) → g.short ≡ o → g.short ≡ None
  go None e = e
  go (Some a) e = absurd (let disabled : g.state ≡ Disabled = opened.1 a e in cc)

opened_active : (g : Gear) → OpenedBy g → is_active g.state ≡ true → g.short ≡ None
opened_active g opened active = go g.short refl where
  go : (o : Option ℕ) → g.short ≡ o → g.short ≡ None
  go None e = e
  go (Some a) e = absurd (let disabled : g.state ≡ Disabled = opened.1 a e in let off : is_active g.state ≡ false = rw disabled refl in cc)

pub opened_is : (gs : List Gear) → AreOpening stage.Opened gs → IsOpened gs
opened_is gs all = record {
  bare = λ k h on none. (all k h on).1.0 none;
  drawn = λ k h on active. (all k h on).0 (opened_active (gear_of gs k) (all k h on).1 active);
}

pub opened_none_named : (gs : List Gear) → AreOpening stage.Opened gs → NoneNamed gs
opened_none_named gs all k h on enabled = opened_named (gear_of gs k) (all k h on).1 enabled

-- as many are wanted as have no short address
pub opened_count : (gs : List Gear) → AreOpening stage.Opened gs → count_by is_wanted gs ≡ count_by is_bare gs
opened_count gs all = wanted_count gs (opened_is gs all) (opened_none_named gs all)
