use Rattle.std.proofs.Common.{◌≡◌, ℕ, suc, ◌+◌, ◌<◌, ◌≤◌, inl, inr, Bool, true, false, List, [], ◌++◌, Option, Some, None, Ok, Err, refl, sym, ap, subst, ◌∙◌}
use Rattle.std.proofs.Common.{add-one, arith, if◌then◌else◌, ◌||◌}
use Rattle.std.proofs.lemmas.List.{append-nil}
use mathlib.Core.List.{append_assoc}
use Rattle.dali_replay.specs.{Installation.Installation, Rounds.IsTurn, Rounds.Turns, Rounds.controllers, Rounds.AreTurns, Rounds.IsRoundOf, Rounds.Rounds}
use Rattle.dali_replay.{specs.Rounds.Ends, specs.Rounds.Ran, specs.Text.Writes, specs.declared.rounds.Round.Round, proofs.InstallationLemmas.goes_plan}
use Rattle.dali_replay.specs.declared.rounds.Round.TheVariants as round

-- ---------------------------------------------------------------- texts

-- nothing was written
pub writes_none : (old : List ℕ) (Is : List ℕ → Type 0) → Is [] → Writes old old Is
writes_none old Is is = ([], sym (append-nil old), is)

-- a text, and one more
pub writes_more : (old between new : List ℕ) (front last : List ℕ) (Is : List ℕ → Type 0) → between ≡ old ++ front → new ≡ between ++ last → Is (front ++ last)
    → Writes old new Is
writes_more old between new front last Is first second is =
    (front ++ last, second ∙ ap (λ xs. xs ++ last) first ∙ append_assoc old front last, is)

-- ---------------------------------------------------------------- a turn

-- a turn leaves the plan
pub turn_plan : (n m : Installation) (c : ℕ) (went : Option Bool) (text : List ℕ) → IsTurn n c went text m → m.site.plan ≡ n.site.plan
turn_plan n m c (Some false) text is = ap (λ (x : Installation). x.site.plan) is.2
turn_plan n m c (Some true) text is = goes_plan n m c (Ok is.1) is.2
turn_plan n m c None text is = goes_plan n m c (Err is.1) is.2

-- ---------------------------------------------------------------- turns

-- the turns so far, after which texts and plan are these
pub record AreSoFar (n : Installation) (c : ℕ) (acted : Bool) (m : Installation) (old new : List ℕ) : Type 0 where
  pub turns : Writes old new (λ more. Turns n c acted more m)
  pub plan : m.site.plan ≡ n.site.plan

pub so_far_none : (n : Installation) (text : List ℕ) → AreSoFar n 0 false n text text
so_far_none n text = record { turns = writes_none text (λ more. Turns n 0 false more n) (refl, refl, refl); plan = refl }

-- one turn more
pub so_far_more : (n u m : Installation) (c : ℕ) (before went : Bool) (turn : Option Bool) (old between new : List ℕ) → AreSoFar n c before u old between
    → turn ≡ Some went → Writes between new (λ more. IsTurn u c turn more m) → AreSoFar n (c + 1) (before || went) m old new
so_far_more n u m c before went turn old between new so_far is wrote = rw add-one (record {
  turns = writes_more old between new so_far.turns.0 wrote.0 (λ more. Turns n (suc c) (before || went) more m) so_far.turns.1 wrote.1
      (before, so_far.turns.0, u, so_far.turns.2, went, wrote.0, subst (λ (x : Option Bool). IsTurn u c x wrote.0 m) is wrote.2, refl, refl);
  plan = turn_plan u m c turn wrote.0 wrote.2 ∙ so_far.plan;
})

-- a turn that is refused
pub so_far_refused : (n u m : Installation) (c : ℕ) (before : Bool) (turn : Option Bool) (old between new : List ℕ) → AreSoFar n c before u old between
    → c < controllers n
    → turn ≡ None → Writes between new (λ more. IsTurn u c turn more m) → Writes old new (λ more. AreTurns n None more m)
so_far_refused n u m c before turn old between new so_far known is wrote =
    writes_more old between new so_far.turns.0 wrote.0 (λ more. AreTurns n None more m) so_far.turns.1 wrote.1 (record {
      c = c;
      acted = before;
      front = so_far.turns.0;
      between = u;
      last = wrote.0;
      known = known;
      turns = so_far.turns.2;
      refused = subst (λ (x : Option Bool). IsTurn u c x wrote.0 m) is wrote.2;
      whole = refl;
    })

-- all had their turns
pub so_far_all : (n m : Installation) (c : ℕ) (acted : Bool) (old new : List ℕ) → AreSoFar n c acted m old new → c ≡ controllers n
    → Writes old new (λ more. AreTurns n (Some acted) more m)
so_far_all n m c acted old new so_far is = subst (λ (k : ℕ). Writes old new (λ more. Turns n k acted more m)) is so_far.turns

-- ---------------------------------------------------------------- a round

-- ---------------------------------------------------------------- rounds

pub rounds_more : (n u m : Installation) (k frames added : ℕ) (sent : Bool) (came : Round) (old between new : List ℕ)
    → Writes old between (λ more. Rounds n k frames more u)
    → added ≡ (if sent then 1 else 0) → came ≡ round.Played sent → Writes between new (λ more. IsRoundOf u came more m)
    → Writes old new (λ more. Rounds n (k + 1) (frames + added) more m)
rounds_more n u m k frames added sent came old between new so_far is played wrote = rw (add-one, is)
    (writes_more old between new so_far.0 wrote.0 (λ more. Rounds n (suc k) (frames + (if sent then 1 else 0)) more m) so_far.1 wrote.1
    (frames, so_far.0, u, so_far.2, sent, wrote.0, subst (λ (x : Round). IsRoundOf u x wrote.0 m) played wrote.2, refl, refl))

-- a round counts one frame at the most
pub counts_one : (sent : Bool) (added : ℕ) → added ≡ (if sent then 1 else 0) → added ≤ 1
counts_one true added is = omega arith
counts_one false added is = omega arith

-- they end after a round, or at the limit
ran_then : (n u m : Installation) (limit k frames : ℕ) (old between new : List ℕ) → Writes old between (λ more. Rounds n k frames more u)
    → Writes between new (λ more. Ends limit k u more m)
    → Writes old new (λ more. Ran limit n frames more m)
ran_then n u m limit k frames old between new so_far wrote =
    writes_more old between new so_far.0 wrote.0 (λ more. Ran limit n frames more m) so_far.1 wrote.1 (record {
      rounds = k;
      front = so_far.0;
      between = u;
      last = wrote.0;
      played = so_far.2;
      ends = wrote.2;
      whole = refl;
    })

pub ran_over : (n u m : Installation) (limit k frames : ℕ) (came : Round) (old between new : List ℕ) → Writes old between (λ more. Rounds n k frames more u)
    → k < limit → came ≡ round.Over
    → Writes between new (λ more. IsRoundOf u came more m) → Writes old new (λ more. Ran limit n frames more m)
ran_over n u m limit k frames came old between new so_far below is wrote =
    ran_then n u m limit k frames old between new so_far
    (wrote.0, wrote.1, inr (below, inl (subst (λ (x : Round). IsRoundOf u x wrote.0 m) is wrote.2)))

pub ran_refused : (n u m : Installation) (limit k frames : ℕ) (came : Round) (old between new : List ℕ) → Writes old between (λ more. Rounds n k frames more u)
    → k < limit → came ≡ round.Refused
    → Writes between new (λ more. IsRoundOf u came more m) → Writes old new (λ more. Ran limit n frames more m)
ran_refused n u m limit k frames came old between new so_far below is wrote =
    ran_then n u m limit k frames old between new so_far
    (wrote.0, wrote.1, inr (below, inr (subst (λ (x : Round). IsRoundOf u x wrote.0 m) is wrote.2)))
