use Rattle.std.{proofs.Common.{◌≡◌, ◌≢◌, ℕ, ◌<◌, Bool, true, false, List, refl, sym, subst, ◌∙◌, length, Some, None, ◌&&◌, if◌then◌else◌}, specs.List.count_by}
use Rattle.dali_frame.specs.{Random.{value_of, MASK24}, declared.numbers.SearchAddress.SearchAddress}
use Rattle.dali_special.specs.declared.command.Command.TheVariants.{Program}
use Rattle.dali_gear.specs.{Gear.{Gear, is_active, is_found, gear_taken, short_after}, Row.row_after, declared.row.Reach.TheVariants.Everyone}
use Rattle.dali_events.{specs.Wanted.{is_wanted, wants, gear_of, Seek, IsOpened, NoneNamedBut}, proofs.Invariant.{Known.found_random, Takes.row_length}}
use Rattle.dali_events.proofs.Search.{Heard.random_found, Wanted.{count_same, Enabling, Drawing, UnnamedBut, powered_over, wants_same, after_at}}

-- PROGRAM SHORT ADDRESS: the gear after it
abbrev pub after_program : ℕ → List Gear → List ℕ → List Gear
after_program a gs left = row_after Everyone (Program (Some a)) 0 gs left

-- one gear before and after: who has power, is not DISABLED and has this random address stores a
pub record Programs (n a : ℕ) (g h : Gear) : Type 0 where
  pub same_powered : h.powered ≡ g.powered
  pub same_state : h.state ≡ g.state
  pub same_random : h.random ≡ g.random
  pub programmed : g.powered ≡ true → is_active g.state ≡ true → g.random ≡ n → h.short ≡ Some a
  pub others : (g.powered ≡ true → is_active g.state ≡ true → g.random ≡ n → ⊥) → h.short ≡ g.short

programs_on : (r : SearchAddress) (a : ℕ) (g : Gear) (x : ℕ) → g.powered ≡ true → (g.powered ≡ true → is_active g.state ≡ true → g.search ≡ r)
    → Programs (value_of r) a g (gear_taken (Program (Some a)) x g)
programs_on r a g x on seek = record { same_powered = refl; same_state = refl; same_random = refl; programmed = programmed; others = others } where
  programmed : g.powered ≡ true → is_active g.state ≡ true → g.random ≡ value_of r → short_after (Program (Some a)) g ≡ Some a
  programmed up active random =
      let found : is_found g ≡ true = random_found g r (seek up active) random in
      rw (active, found) refl

  others : (g.powered ≡ true → is_active g.state ≡ true → g.random ≡ value_of r → ⊥) → short_after (Program (Some a)) g ≡ g.short
  others other = go (is_active g.state) (is_found g) refl refl where
    go : (b c : Bool) → is_active g.state ≡ b → is_found g ≡ c → (if is_active g.state && is_found g then Some a else g.short) ≡ g.short
    go false c active found = rw active refl
    go true false active found = rw (active, found) refl
    go true true active found = absurd (other on active (found_random g r (seek on active) found))

pub programs_at : (gs : List Gear) (left : List ℕ) (r : SearchAddress) (a : ℕ) → Seek gs r → (k : ℕ) → k < length gs
    → Programs (value_of r) a (gear_of gs k) (gear_of (after_program a gs left) k)
programs_at gs left r a seek k h =
    after_at (Program (Some a)) (λ g h. (g.powered ≡ true → is_active g.state ≡ true → g.search ≡ r) → Programs (value_of r) a g h)
    (λ g off was. record {
      same_powered = refl;
      same_state = refl;
      same_random = refl;
      programmed = λ on active random. absurd (off on);
      others = λ other. refl;
    })
    (λ g x on was. programs_on r a g x on was) gs left k h (seek k h)

-- the same are wanted
programs_wanted : (n a : ℕ) (g h : Gear) → Programs n a g h → is_wanted h ≡ is_wanted g
programs_wanted n a g h p = rw (p.same_powered, p.same_state) refl

pub programmed_wants : (gs : List Gear) (left : List ℕ) (r : SearchAddress) (a n : ℕ) → Seek gs r → wants (after_program a gs left) n ≡ wants gs n
programmed_wants gs left r a n seek =
    wants_same gs (after_program a gs left) n (row_length Everyone (Program (Some a)) 0 gs left)
    (λ k h. programs_wanted (value_of r) a (gear_of gs k) (gear_of (after_program a gs left) k) (programs_at gs left r a seek k h))
    (λ k h. (programs_at gs left r a seek k h).same_random)

pub programmed_count : (gs : List Gear) (left : List ℕ) (r : SearchAddress) (a : ℕ) → Seek gs r
    → count_by is_wanted (after_program a gs left) ≡ count_by is_wanted gs
programmed_count gs left r a seek =
    count_same is_wanted is_wanted gs (after_program a gs left) (row_length Everyone (Program (Some a)) 0 gs left)
    (λ k h. programs_wanted (value_of r) a (gear_of gs k) (gear_of (after_program a gs left) k) (programs_at gs left r a seek k h))

-- who is bare then was so before
programs_bare : (n a : ℕ) (g h : Gear) → Programs n a g h → h.short ≡ None → g.short ≡ None
programs_bare n a g h p none = sym (p.others (λ on active random. let never : None ≡ Some a = sym none ∙ p.programmed on active random in absurd (cc))) ∙ none

-- what the search stands on
pub programmed_opened : (gs : List Gear) (left : List ℕ) (r : SearchAddress) (a : ℕ) → Seek gs r → IsOpened gs → IsOpened (after_program a gs left)
programmed_opened gs left r a seek opened = record {
  bare = powered_over Enabling Enabling gs (after_program a gs left) (row_length Everyone (Program (Some a)) 0 gs left)
      (λ k h. (programs_at gs left r a seek k h).same_powered)
      (λ k h on was none. (programs_at gs left r a seek k h).same_state
      ∙ was (programs_bare (value_of r) a (gear_of gs k) (gear_of (after_program a gs left) k) (programs_at gs left r a seek k h) none)) opened.bare;
  drawn = powered_over Drawing Drawing gs (after_program a gs left) (row_length Everyone (Program (Some a)) 0 gs left)
      (λ k h. (programs_at gs left r a seek k h).same_powered)
      (λ k h on was active. subst (λ n. n < MASK24) (sym (programs_at gs left r a seek k h).same_random)
      (was (subst (λ s. is_active s ≡ true) (programs_at gs left r a seek k h).same_state active))) opened.drawn;
}

pub programmed_none_named : (gs : List Gear) (left : List ℕ) (r : SearchAddress) (a : ℕ) → Seek gs r → NoneNamedBut gs (value_of r)
    → NoneNamedBut (after_program a gs left) (value_of r)
programmed_none_named gs left r a seek named =
    powered_over (UnnamedBut (value_of r)) (UnnamedBut (value_of r)) gs (after_program a gs left) (row_length Everyone (Program (Some a)) 0 gs left)
    (λ k h. (programs_at gs left r a seek k h).same_powered)
    (λ k h on was enabled other.
    let p = programs_at gs left r a seek k h in
    let elsewhere : (gear_of gs k).random ≢ value_of r = λ random. other (p.same_random ∙ random) in
    p.others (λ up active random. elsewhere random) ∙ was (sym p.same_state ∙ enabled) elsewhere) named
