use Rattle.std.{proofs.Common.{◌≡◌, ◌≢◌, ℕ, ◌<◌, Bool, true, false, List, refl, sym, subst, ◌∙◌, length, Some, None, ◌&&◌, if◌then◌else◌}, specs.List.count_by}
use Rattle.dali_frame.specs.{Random.{value_of, MASK24}, declared.numbers.SearchAddress.SearchAddress}
use Rattle.dali_special.specs.declared.command.Command.TheVariants.{Withdraw}
use Rattle.dali_gear.specs.{Gear.{Gear, is_enabled, is_active, is_found, gear_taken, state_after}, Row.row_after, declared.row.Reach.TheVariants.Everyone}
use Rattle.dali_gear.specs.declared.state.InitialisationState.{InitialisationState, TheVariants.{Disabled, Enabled, Withdrawn}}
use Rattle.dali_events.specs.{Searching.HasShort, Wanted.{is_wanted, wants, gear_of, Seek, IsOpened, NoneNamed, NoneNamedBut, AreNamed}}
use Rattle.dali_events.proofs.{Invariant.{Known.found_random, Takes.row_length}, Search.{Heard.random_found, Wanted.{enabled_is, wanted_powered}}}
use Rattle.dali_events.proofs.Search.Wanted.{wanted_enabled, is_wanted_by, wants_by, wants_at, count_less, Enabling, Drawing, Unnamed, UnnamedBut, powered_over}
use Rattle.dali_events.proofs.Search.Wanted.{after_at}

-- WITHDRAW: the gear after it
abbrev pub after_withdraw : List Gear → List ℕ → List Gear
after_withdraw gs left = row_after Everyone Withdraw 0 gs left

-- one gear before and after: who has power, is ENABLED and has this random address is WITHDRAWN
pub record Withdraws (n : ℕ) (g h : Gear) : Type 0 where
  pub same_powered : h.powered ≡ g.powered
  pub same_random : h.random ≡ g.random
  pub same_short : h.short ≡ g.short
  pub withdrawn : g.powered ≡ true → g.state ≡ Enabled → g.random ≡ n → h.state ≡ Withdrawn
  pub others : (g.powered ≡ true → g.state ≡ Enabled → g.random ≡ n → ⊥) → h.state ≡ g.state

withdraws_on : (r : SearchAddress) (g : Gear) (x : ℕ) → g.powered ≡ true → (g.powered ≡ true → is_active g.state ≡ true → g.search ≡ r)
    → Withdraws (value_of r) g (gear_taken Withdraw x g)
withdraws_on r g x on seek = record { same_powered = refl; same_random = refl; same_short = refl; withdrawn = withdrawn; others = others } where
  seeks : g.state ≡ Enabled → g.search ≡ r
  seeks enabled = seek on (rw enabled refl)

  withdrawn : g.powered ≡ true → g.state ≡ Enabled → g.random ≡ value_of r → state_after Withdraw g ≡ Withdrawn
  withdrawn up enabled random =
      let found : is_found g ≡ true = random_found g r (seeks enabled) random in
      rw (enabled, found) refl

  others : (g.powered ≡ true → g.state ≡ Enabled → g.random ≡ value_of r → ⊥) → state_after Withdraw g ≡ g.state
  others other = go (is_enabled g.state) (is_found g) refl refl where
    go : (a b : Bool) → is_enabled g.state ≡ a → is_found g ≡ b → (if is_enabled g.state && is_found g then Withdrawn else g.state) ≡ g.state
    go false b enabled found = rw enabled refl
    go true false enabled found = rw (enabled, found) refl
    go true true enabled found =
        let is : g.state ≡ Enabled = enabled_is g.state enabled in
        absurd (other on is (found_random g r (seeks is) found))

pub withdraws_at : (gs : List Gear) (left : List ℕ) (r : SearchAddress) → Seek gs r → (k : ℕ) → k < length gs
    → Withdraws (value_of r) (gear_of gs k) (gear_of (after_withdraw gs left) k)
withdraws_at gs left r seek k h =
    after_at Withdraw (λ g h. (g.powered ≡ true → is_active g.state ≡ true → g.search ≡ r) → Withdraws (value_of r) g h)
    (λ g off was. record {
      same_powered = refl;
      same_random = refl;
      same_short = refl;
      withdrawn = λ on enabled random. absurd (off on);
      others = λ other. refl;
    })
    (λ g x on was. withdraws_on r g x on was) gs left k h (seek k h)

-- who is ENABLED then was so before, and has another random address
still_enabled : (n : ℕ) (g h : Gear) → Withdraws n g h → g.powered ≡ true → h.state ≡ Enabled → (g.state ≡ Enabled) × (g.random ≢ n)
still_enabled n g h w on enabled = go g.state refl where
  go : (s : InitialisationState) → g.state ≡ s → (g.state ≡ Enabled) × (g.random ≢ n)
  go Enabled is = (
    is,
    λ random. let gone : h.state ≡ Withdrawn = w.withdrawn on is random in let never : Enabled ≡ Withdrawn = sym enabled ∙ gone in
        absurd (cc),
  )
  go Disabled is = absurd (let same : h.state ≡ g.state = w.others (λ up e random. let never : Disabled ≡ Enabled = sym is ∙ e in absurd (cc)) in
      let never : Enabled ≡ Disabled = sym enabled ∙ same ∙ is in cc)
  go Withdrawn is = absurd (let same : h.state ≡ g.state = w.others (λ up e random. let never : Withdrawn ≡ Enabled = sym is ∙ e in absurd (cc)) in
      let never : Enabled ≡ Withdrawn = sym enabled ∙ same ∙ is in cc)

still_wanted : (n : ℕ) (g h : Gear) → Withdraws n g h → is_wanted h ≡ true → (is_wanted g ≡ true) × (g.random ≢ n)
still_wanted n g h w wanted =
    let on : g.powered ≡ true = sym w.same_powered ∙ wanted_powered h wanted in
    let still = still_enabled n g h w on (wanted_enabled h wanted) in
    (is_wanted_by g on still.0, still.1)

unwanted : (n : ℕ) (g h : Gear) → Withdraws n g h → is_wanted g ≡ true → g.random ≡ n → is_wanted h ≡ false
unwanted n g h w wanted random =
    let gone : h.state ≡ Withdrawn = w.withdrawn (wanted_powered g wanted) (wanted_enabled g wanted) random in
    let on : h.powered ≡ true = w.same_powered ∙ wanted_powered g wanted in
    rw (on, gone) refl

pub withdrawn_wants : (gs : List Gear) (left : List ℕ) (r : SearchAddress) (n : ℕ) → Seek gs r → wants (after_withdraw gs left) n ≡ true
    → (wants gs n ≡ true) × (n ≡ value_of r → ⊥)
withdrawn_wants gs left r n seek wants =
    let there = wants_at (after_withdraw gs left) n wants in
    let inside : there.0 < length gs = subst (λ m. there.0 < m) (row_length Everyone Withdraw 0 gs left) there.1 in
    let w = withdraws_at gs left r seek there.0 inside in
    let was = still_wanted (value_of r) (gear_of gs there.0) (gear_of (after_withdraw gs left) there.0) w there.2 in
    let random : (gear_of gs there.0).random ≡ n = sym w.same_random ∙ there.3 in
    (wants_by gs n there.0 inside was.0 random, λ e. was.1 (random ∙ e))

pub withdrawn_count : (gs : List Gear) (left : List ℕ) (r : SearchAddress) → Seek gs r → wants gs (value_of r) ≡ true
    → count_by is_wanted (after_withdraw gs left) < count_by is_wanted gs
withdrawn_count gs left r seek wants =
    let there = wants_at gs (value_of r) wants in
    count_less is_wanted is_wanted gs (after_withdraw gs left) there.0 (row_length Everyone Withdraw 0 gs left)
    (λ k h e. (still_wanted (value_of r) (gear_of gs k) (gear_of (after_withdraw gs left) k) (withdraws_at gs left r seek k h) e).0) there.1 there.2
    (unwanted (value_of r) (gear_of gs there.0) (gear_of (after_withdraw gs left) there.0) (withdraws_at gs left r seek there.0 there.1) there.2 there.3)

-- what the search stands on
withdraws_active : (n : ℕ) (g h : Gear) → Withdraws n g h → is_active h.state ≡ true → is_active g.state ≡ true
withdraws_active n g h w active = go g.state refl where
  go : (s : InitialisationState) → g.state ≡ s → is_active g.state ≡ true
  go Disabled is =
      let same : h.state ≡ g.state = w.others (λ up e random. let never : Disabled ≡ Enabled = sym is ∙ e in absurd (cc)) in
      subst (λ s. is_active s ≡ true) same active
  go _ is = rw is refl

withdraws_enabling : (n : ℕ) (g h : Gear) → Withdraws n g h → (g.state ≡ Enabled → g.random ≡ n → HasShort g) → Enabling g → Enabling h
withdraws_enabling n g h w named was none =
    let bare : g.short ≡ None = sym w.same_short ∙ none in
    w.others (λ on enabled random. let short = named enabled random in let never : None ≡ Some short.0 = sym bare ∙ short.1 in absurd (cc)) ∙ was bare

pub withdrawn_opened : (gs : List Gear) (left : List ℕ) (r : SearchAddress) → Seek gs r → AreNamed gs (value_of r) → IsOpened gs
    → IsOpened (after_withdraw gs left)
withdrawn_opened gs left r seek named opened = record {
  bare = powered_over Enabling Enabling gs (after_withdraw gs left) (row_length Everyone Withdraw 0 gs left)
      (λ k h. (withdraws_at gs left r seek k h).same_powered)
      (λ k h on was. withdraws_enabling (value_of r) (gear_of gs k) (gear_of (after_withdraw gs left) k) (withdraws_at gs left r seek k h) (named k h on) was)
      opened.bare;
  drawn = powered_over Drawing Drawing gs (after_withdraw gs left) (row_length Everyone Withdraw 0 gs left)
      (λ k h. (withdraws_at gs left r seek k h).same_powered)
      (λ k h on was active. subst (λ n. n < MASK24) (sym (withdraws_at gs left r seek k h).same_random)
      (was (withdraws_active (value_of r) (gear_of gs k) (gear_of (after_withdraw gs left) k) (withdraws_at gs left r seek k h) active))) opened.drawn;
}

pub none_named_but : (gs : List Gear) (n : ℕ) → NoneNamed gs → NoneNamedBut gs n
none_named_but gs n named k h on enabled other = named k h on enabled

pub withdrawn_none_named : (gs : List Gear) (left : List ℕ) (r : SearchAddress) → Seek gs r → NoneNamedBut gs (value_of r) → NoneNamed (after_withdraw gs left)
withdrawn_none_named gs left r seek named =
    powered_over (UnnamedBut (value_of r)) Unnamed gs (after_withdraw gs left) (row_length Everyone Withdraw 0 gs left)
    (λ k h. (withdraws_at gs left r seek k h).same_powered)
    (λ k h on was enabled.
    let w = withdraws_at gs left r seek k h in
    let still = still_enabled (value_of r) (gear_of gs k) (gear_of (after_withdraw gs left) k) w on enabled in
    w.same_short ∙ was still.0 still.1) named
