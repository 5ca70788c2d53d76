use Rattle.std.proofs.Common.{◌≡◌, ◌⊎◌, ⊎_elim, ℕ, Bool, true, List, refl, sym, subst, inl, inr}
use Rattle.dali_script.specs.{Records.Kept, declared.records.Record.Record}
use Rattle.dali_statement.specs.Own.{Own, Act, AreOwn, IsProgram, Follows, rest_all_allowed}
use Rattle.dali_statement.specs.Page.{IsPlan, KeepsPromise, Moment, Plan, start}
use Rattle.dali_commissioning.specs.{Acts.sender_of, Drivers.Talk, Rules.AsksByRules}
use Rattle.dali_commission_program.specs.Ruled.{Fits, KeepPromise, AsksOnBus, WhatWasPutKeepsPromise}

-- WHAT A TASK PUTS KEEPS THE PROMISE, as a program of the page.

-- what `programs_keep_the_promise` says
abbrev ProgramsKeep : Type 0
ProgramsKeep = (p : Plan) (ours : ℕ → Bool) (own : ℕ → Own) (acts : ℕ → List Act) (ms : List Moment)
    → IsPlan p → ((c : ℕ) → ours c ≡ true → IsProgram p c (own c) (acts c) ms)
    → rest_all_allowed p ours (start p) ms ≡ true → KeepsPromise p ms

keep_promise : ProgramsKeep → (k : Kept) (acts : List Act) → AreOwn (sender_of k) acts → KeepPromise k acts
keep_promise law k acts lawful p c ours own all ms plan fits follows is are others rest =
    law p ours own all ms plan (λ d of.
    ⊎_elim (λ same. subst (λ e. IsProgram p e (own e) (all e) ms) (sym same) (program p c own all ms fits follows is are)) (λ it. it) (others d of)) rest where
      program : (p : Plan) (c : ℕ) (own : ℕ → Own) (all : ℕ → List Act) (ms : List Moment) → Fits p c k → Follows c (sender_of k) acts ms
          → own c ≡ sender_of k → all c ≡ acts → IsProgram p c (own c) (all c) ms
      program p c own all ms fits follows is are =
          subst (λ v. IsProgram p c v (all c) ms) (sym is)
          (subst (λ a. IsProgram p c (sender_of k) a ms) (sym are) (record {
            block = fits.block;
            reserved = fits.reserved;
            idle = refl;
            untold = refl;
            own = lawful;
            follows = follows;
          }))

pub asks_on_bus : ProgramsKeep → (x y : Talk) → AsksByRules x y → AsksOnBus x y
asks_on_bus law x y it = (it.acts, it.done, λ k. keep_promise law k it.acts (it.own (sender_of k)))

pub puts_on_bus : ProgramsKeep → {K : Type 0} (is_up is_sound : K → Type 0) (holds : K → List Record → Type 0)
    → WhatWasPutKeepsPromise is_up is_sound holds
puts_on_bus law is_up is_sound holds block was keep x y it = (
  it.acts,
  it.done,
  λ sound up xs held.
      let (k, replay, own) = it.own sound up xs held in
      (k, replay, keep_promise law k it.acts own),
)
