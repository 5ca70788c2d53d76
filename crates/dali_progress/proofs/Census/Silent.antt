use Rattle.dali_progress.proofs.Below.{◌≡◌, ℕ, ◌<◌, ◌≤◌, ◌⊎◌, inl, inr, true, false, List, [], ◌∷◌, refl, sym, ap, subst, ◌∙◌, arith, Option, Some, None, ◌==◌}
use Rattle.dali_progress.proofs.Below.{zero, suc, AllByRecursion, Answer, Silence, Byte, Damaged, Forward, Command, due_after, accepts, frame_put, stage_of}
use Rattle.dali_progress.proofs.Below.{given, byte_heard, finding_at, Order, Put, Commit, Done, Halt, Reserve, Enrol, Machine, machine_told, machine_heard}
use Rattle.dali_progress.proofs.Below.{asked_at, begins_at, asked_once, IsGiven, IsAllowed, machine_after, machine_ordered, IsWhole, Asking, Fresh}
use Rattle.dali_progress.proofs.Below.{BeginsBySurvey, AreWhole, WasSilent, Step, IsTaken, IsCourse, IsPlain, ArePlain, IsAccounted, stage_told, heard_at}
use Rattle.dali_progress.proofs.{Below.heard_by, Accounted.{accounted_by, accounted_stays, unreserved}, Census.{Asked.{Asks, later_asks}, Coming.IsToCome}}
use Rattle.dali_progress.proofs.Census.Coming.{IsEnded, Hearing, hearing_of, again, Looks, Watched, watched}
use Rattle.dali_script.specs.declared.orders.Input.TheVariants as input
use Rattle.dali_script.specs.declared.stage.Stage.TheVariants as stage

-- WHAT IS GIVEN WAS SILENT: once a census is over, each short address was silent or is accounted for.

-- what came of a question: it was silent for the third time, or some gear was heard, or it is asked again
abbrev Third : Machine → Machine → Answer → ℕ → Type 0
Third m t h a = (h ≡ Silence) × (stage_of t.trace ≡ stage.HighAsked a None) × (m.asked ≡ 2)

third_of : (k j : ℕ) (b : ℕ) → k ≤ 2 → j ≡ asked_at (stage.HighAsked b None) Silence k → (k ≡ 2) ⊎ ((j == 0) ≡ false)
third_of zero j b small is = inr (rw is refl)
third_of (suc zero) j b small is = inr (rw is refl)
third_of (suc (suc zero)) j b small is = inl refl
third_of (suc (suc (suc k))) j b small is = absurd (omega (arith, small))

silent_or : (h : Answer) (b : ℕ) → (h ≡ Silence) ⊎ (heard_at (stage.HighAsked b (byte_heard h)) h ≡ Some b)
silent_or Silence b = inl refl
silent_or (Byte v) b = inr refl
silent_or Damaged b = inr refl

came_of : (m t : Machine) (h : Answer) (a b p : ℕ) (f : Forward) → m.asked ≤ 2 → t.course.purpose ≡ Asking b → b ≡ a → m.last ≡ Some (Put p f) → Hearing m t b h
    → (o : Order) → IsAllowed t o → IsWhole (machine_ordered t o)
    → Third m t h a ⊎ ((heard_at (stage_of t.trace) h ≡ Some b) ⊎ (IsEnded (machine_ordered t o) ⊎ IsToCome (machine_ordered t o) a))
came_of m t h a b p f small purpose here last hears o may whole = go hears.at where
  go : ((stage_of t.trace ≡ stage.HighAsked b (byte_heard h)) × (t.asked ≡ asked_at (stage.HighAsked b (byte_heard h)) h m.asked))
      ⊎ (((y : Option (ℕ × ℕ)) × (stage_of t.trace ≡ stage.MiddleAsked b y)) ⊎ ((y : Option ℕ) × (stage_of t.trace ≡ stage.Spelled b y)))
      → Third m t h a ⊎ ((heard_at (stage_of t.trace) h ≡ Some b) ⊎ (IsEnded (machine_ordered t o) ⊎ IsToCome (machine_ordered t o) a))
  go (inr (inl (y, at))) = inr (inl (rw at refl))
  go (inr (inr (y, at))) = inr (inl (rw at refl))
  go (inl (at, asked)) = by (silent_or h b) where
    by : (h ≡ Silence) ⊎ (heard_at (stage.HighAsked b (byte_heard h)) h ≡ Some b)
        → Third m t h a ⊎ ((heard_at (stage_of t.trace) h ≡ Some b) ⊎ (IsEnded (machine_ordered t o) ⊎ IsToCome (machine_ordered t o) a))
    by (inr heard) = inr (inl (rw at heard))
    by (inl silent) = which (third_of m.asked t.asked b small count) where
      none : stage_of t.trace ≡ stage.HighAsked b None
      none = at ∙ ap (λ k. stage.HighAsked b (byte_heard k)) silent

      count : t.asked ≡ asked_at (stage.HighAsked b None) Silence m.asked
      count = asked ∙ ap (λ k. asked_at (stage.HighAsked b (byte_heard k)) k m.asked) silent

      which : (m.asked ≡ 2) ⊎ ((t.asked == 0) ≡ false)
          → Third m t h a ⊎ ((heard_at (stage_of t.trace) h ≡ Some b) ⊎ (IsEnded (machine_ordered t o) ⊎ IsToCome (machine_ordered t o) a))
      which (inl two) = inl (silent, none ∙ ap (λ c. stage.HighAsked c None) here, two)
      which (inr more) =
          inr (inr (again t a b (stage.HighAsked b None) purpose here (ap (begins_at t) none ∙ ap (asked_once t) more) none (λ n e. cc)
          (hears.finding ∙ ap finding_at none) (λ c n e. let other : Some (Put p f) ≡ Some (Commit (Enrol c n)) = sym last ∙ (sym hears.last ∙ e) in cc)
          (λ g running after. never (later_asks t g b (stage.HighAsked b None) purpose none tt after)) o may whole)) where
            never : {c : Command} → Asks b (stage.HighAsked b None) c → ⊥
            never (inl is) = let other = is.0 in cc
            never (inr (inl is)) = let other = is.2 in cc
            never (inr (inr is)) = let other = is.2 in cc

-- ---------------------------------------------------------------- a course

abbrev pub IsLooked : List Step → Machine → ℕ → Type 0
IsLooked steps n a = WasSilent steps a ⊎ IsAccounted n a

abbrev Anything : Step → Type 0
Anything s = Unit {0}

looked_now : (s : Step) (earlier : List Step) (a b p : ℕ) (f : Forward) (h : Answer) → a < 64 → s.before.asked ≤ 2 → s.told ≡ input.Heard h
    → s.before.course.purpose ≡ Asking b → b ≡ a → s.before.last ≡ Some (Put p f) → accepts (due_after s.before.last) (input.Heard h) ≡ true
    → IsGiven s.before (input.Heard h) s.order → IsPlain (stage_of (machine_told s.before (input.Heard h)).trace) → IsWhole s.before
    → IsWhole (machine_after s.before (input.Heard h) s.order) → IsLooked (s ∷ earlier) (machine_after s.before (input.Heard h) s.order) a ⊎
    (IsEnded (machine_after s.before (input.Heard h) s.order) ⊎ IsToCome (machine_after s.before (input.Heard h) s.order) a)
looked_now s earlier a b p f h small count is purpose here last due given plain whole after =
    by (came_of s.before (machine_heard s.before (Some f) h) h a b p f count purpose here last hears s.order
    (subst (λ t. IsAllowed t s.order) told given.answered.allowed) (subst (λ t. IsWhole (machine_ordered t s.order)) told after)) where
      told : machine_told s.before (input.Heard h) ≡ machine_heard s.before (Some f) h
      told = ap (λ l. machine_heard s.before (frame_put l) h) last

      hears : Hearing s.before (machine_heard s.before (Some f) h) b h
      hears = hearing_of s.before h p f b purpose last whole

      by : Third s.before (machine_heard s.before (Some f) h) h a ⊎ ((heard_at (stage_of (machine_heard s.before (Some f) h).trace) h ≡ Some b)
          ⊎ (IsEnded (machine_ordered (machine_heard s.before (Some f) h) s.order) ⊎ IsToCome (machine_ordered (machine_heard s.before (Some f) h) s.order) a))
          → IsLooked (s ∷ earlier) (machine_after s.before (input.Heard h) s.order) a
          ⊎ (IsEnded (machine_after s.before (input.Heard h) s.order) ⊎ IsToCome (machine_after s.before (input.Heard h) s.order) a)
      by (inl third) =
          inl (inl (inl (record {
            told = is ∙ ap (λ k. input.Heard k) third.0;
            asking = purpose ∙ ap (λ c. Asking c) here;
            question = ap (λ i. stage_of (machine_told s.before i).trace) is ∙ ap (λ (t : Machine). stage_of t.trace) told ∙ third.1;
            twice = third.2;
          })))
      by (inr (inl heard)) =
          let at : heard_at (stage_of (machine_told s.before (input.Heard h)).trace) h ≡ Some a =
          ap (λ (t : Machine). heard_at (stage_of t.trace) h) told ∙ heard ∙ ap (λ c. Some c) here in
          inl (inr (accounted_by s.before (input.Heard h) s.order a small plain due given
          (subst (λ q. heard_by (input.Heard h) q (stage_of (machine_told s.before (input.Heard h)).trace) ≡ Some a) (sym purpose) at)))
      by (inr (inr k)) = inr (subst (λ t. IsEnded (machine_ordered t s.order) ⊎ IsToCome (machine_ordered t s.order) a) (sym told) k)

looked_stays : (s : Step) (earlier : List Step) (n : Machine) (a : ℕ) → a < 64 → IsTaken s n → IsPlain (stage_told s) → IsLooked earlier s.before a
    → IsLooked (s ∷ earlier) n a
looked_stays s earlier n a small taken plain (inl silent) = inl (inr silent)
looked_stays s earlier n a small taken plain (inr counts) = inr (accounted_stays s n a small taken plain counts)

looks : (a : ℕ) → a < 64 → Looks Anything IsLooked a
looks a small = record {
  stays = λ s earlier n taken plain k. looked_stays s earlier n a small taken plain k;
  tabled = λ steps n table. inr (inr (inl table));
  now = λ s earlier h b p f supposed count is purpose here last due given plain whole after.
      looked_now s earlier a b p f h small count is purpose here last due given plain whole after;
}

anything : (steps : List Step) → AllByRecursion Anything steps
anything [] = tt
anything (s ∷ steps) = (tt, anything steps)

pub watched_looked : (steps : List Step) (n : Machine) (a : ℕ) → a < 64 → IsCourse steps n → BeginsBySurvey steps → ArePlain steps → AreWhole steps → IsWhole n
    → Watched IsLooked steps n a
watched_looked steps n a small course begins plain are whole =
    watched Anything IsLooked a small (looks a small) steps n course begins plain (anything steps) are whole

-- WHAT IS RESERVED WAS SILENT
pub reserved_silent : (s : Step) (earlier : List Step) (n : Machine) (a r : ℕ) → a < 64 → IsCourse (s ∷ earlier) n → BeginsBySurvey (s ∷ earlier)
    → ArePlain (s ∷ earlier) → AreWhole (s ∷ earlier) → IsWhole n → s.order ≡ Commit (Reserve a r) → (n.course.way ≡ Fresh → ⊥) → WasSilent (s ∷ earlier) a
reserved_silent s earlier n a r small course begins plain are whole is surveys = go w.seen where
  w : Watched IsLooked (s ∷ earlier) n a
  w = watched_looked (s ∷ earlier) n a small course begins plain are whole

  last : n.last ≡ Some (Commit (Reserve a r))
  last = ap (λ (x : Machine). x.last) course.1.after ∙ ap (λ o. Some o) is

  go : IsEnded n ⊎ (IsLooked (s ∷ earlier) n a ⊎ IsToCome n a) → WasSilent (s ∷ earlier) a
  go (inl (inl ends)) = absurd (let other : Some (Done ends.0) ≡ Some (Commit (Reserve a r)) = sym ends.1 ∙ last in cc)
  go (inl (inr ends)) = absurd (let other : Some (Halt ends.0) ≡ Some (Commit (Reserve a r)) = sym ends.1 ∙ last in cc)
  go (inr (inl (inl silent))) = silent
  go (inr (inl (inr counts))) = absurd (unreserved s n a r course.1 is surveys counts)
  go (inr (inr comes)) = absurd (w.unreserving comes.0 comes.1 a r last)
