use Rattle.dali_progress.proofs.Below.{◌≡◌, ℕ, ◌<◌, inl, inr, true, List, [], ◌∷◌, sym, subst, Some, ◌≤◌, ◌⊎◌, Bool, false, refl, ap, ◌∙◌, arith, ◌==◌}
use Rattle.dali_progress.proofs.Below.{nat_tests, AllByRecursion, MASK24, Answer, Byte, Forward, due_after, accepts, frame_put, stage_of, given, Put, Stage}
use Rattle.dali_progress.proofs.Below.{Machine, machine_told, machine_heard, IsGiven, machine_after, machine_ordered, turn_of, IsWhole, Asking, Spells}
use Rattle.dali_progress.proofs.Below.{WasSpelled, IsNamed, IsClean, HasTakenCensus, BeginsBySurvey, AreWhole, Step, IsTaken, IsCourse, IsPlain, ArePlain}
use Rattle.dali_progress.proofs.{Below.{Command, RandomByte, Middle, Low}, Accounted.{told_enrolled, never_due, named_by, enrolling}, Census.Coming.IsTabled}
use Rattle.dali_progress.proofs.{Census.Coming.{IsToCome, IsEnded, Hearing, hearing_of, Looks, watched}, Later.{IsUnasked, course_stays, turn_unasked}}
use Rattle.dali_script.specs.declared.stage.Stage.TheVariants as stage
use Rattle.dali_script.specs.declared.orders.Input.TheVariants as input

-- WHO TOLD ITS RANDOM ADDRESS IS IN THE TABLE.

stays_named : (s : Step) (n : Machine) (a r : ℕ) → IsTaken s n → IsNamed s.before a r → IsNamed n a r
stays_named s n a r taken was = subst (λ (x : Machine). IsNamed x a r) (sym taken.after) (go was) where
  go : IsNamed s.before a r → IsNamed (machine_after s.before s.told s.order) a r
  go (inl has) = inl (told_enrolled s.before s.told (a, r) has)
  go (inr (inl last)) = enrolling s.before s.told s.order a r last taken.due taken.given
  go (inr (inr (w, last))) = absurd (never_due s.before.last w s.told last taken.due)

told_named : (s : Step) (n : Machine) (a r : ℕ) → IsTaken s n → r < MASK24 → Spells s a r → IsNamed n a r
told_named s n a r taken drawn tells =
    subst (λ (x : Machine). IsNamed x a r) (sym taken.after) (subst (λ i. accepts (due_after s.before.last) i ≡ true → IsGiven s.before i s.order
    → stage_of (machine_told s.before i).trace ≡ stage.Spelled a (Some r) → IsNamed (machine_after s.before i s.order) a r) (sym tells.heard.1)
    (λ due given number. named_by s.before tells.heard.0 s.order a tells.asking.0 r due given tells.asking.1 number drawn)
    taken.due taken.given tells.number)

pub who_told : (steps : List Step) (n : Machine) (a r : ℕ) → IsCourse steps n → r < MASK24 → WasSpelled steps a r → IsNamed n a r
who_told [] n a r course drawn spelled = elim spelled [ ]
who_told (s ∷ earlier) n a r course drawn (inl here) = told_named s n a r course.1 drawn here
who_told (s ∷ earlier) n a r course drawn (inr before) = stays_named s n a r course.1 (who_told earlier s.before a r course.0 drawn before)

-- WHO ANSWERS IS NAMED: once a census is over, an address under which each answer was a byte is in the table, or told FFFFFF.

abbrev IsSpelled : ℕ → List Step → Machine → ℕ → Type 0
IsSpelled a steps n b = ((r : ℕ) × WasSpelled steps a r) ⊎ IsTabled n b

-- a byte was heard: more of the number is asked, or it is whole
spelled_now : (s : Step) (earlier : List Step) (a b p v : ℕ) (f : Forward) (h : Answer) → h ≡ Byte v → s.told ≡ input.Heard h
    → s.before.course.purpose ≡ Asking b → b ≡ a → s.before.last ≡ Some (Put p f) → IsGiven s.before (input.Heard h) s.order → IsWhole s.before
    → IsSpelled a (s ∷ earlier) (machine_after s.before (input.Heard h) s.order) a
    ⊎ (IsEnded (machine_after s.before (input.Heard h) s.order) ⊎ IsToCome (machine_after s.before (input.Heard h) s.order) a)
spelled_now s earlier a b p v f h byte is purpose here last given whole = by (hears.clean v byte) where
  told : machine_told s.before (input.Heard h) ≡ machine_heard s.before (Some f) h
  told = ap (λ l. machine_heard s.before (frame_put l) h) last

  hears : Hearing s.before (machine_heard s.before (Some f) h) b h
  hears = hearing_of s.before h p f b purpose last whole

  asks : (machine_told s.before (input.Heard h)).course.purpose ≡ Asking b
  asks = ap (λ (t : Machine). t.course.purpose) told ∙ purpose

  stage_is : (r : Stage) → stage_of (machine_heard s.before (Some f) h).trace ≡ r → stage_of (machine_told s.before (input.Heard h)).trace ≡ r
  stage_is r at = ap (λ (t : Machine). stage_of t.trace) told ∙ at

  -- the next frame is that of the turn
  goes : (r : Stage) (c : Command) → stage_of (machine_heard s.before (Some f) h).trace ≡ r → turn_of (Asking b) s.before.course.number r ≡ Some c
      → IsToCome (machine_after s.before (input.Heard h) s.order) a
  goes r c at turn =
      let number : (machine_told s.before (input.Heard h)).course.number ≡ s.before.course.number = ap (λ (t : Machine). t.course.number) told in
      let turns : turn_of (machine_told s.before (input.Heard h)).course.purpose (machine_told s.before (input.Heard h)).course.number
      (stage_of (machine_told s.before (input.Heard h)).trace) ≡ Some c = rw (asks, number, stage_is r at) turn in
      subst (λ o. IsToCome (machine_ordered (machine_told s.before (input.Heard h)) o) a) (sym (given.followed.sent c turns)) (
        b,
        ap (λ c. c.purpose) (course_stays (machine_told s.before (input.Heard h)) r (stage_is r at)
            (subst (IsUnasked r) (sym asks) (turn_unasked (Asking b) s.before.course.number r c turn))) ∙ asks,
        inr (here, λ x e. cc),
      )

  by : (stage_of (machine_heard s.before (Some f) h).trace ≡ stage.HighAsked b (Some v))
      ⊎ (((y : ℕ × ℕ) × (stage_of (machine_heard s.before (Some f) h).trace ≡ stage.MiddleAsked b (Some y)))
      ⊎ ((r : ℕ) × (stage_of (machine_heard s.before (Some f) h).trace ≡ stage.Spelled b (Some r))))
      → IsSpelled a (s ∷ earlier) (machine_after s.before (input.Heard h) s.order) a
      ⊎ (IsEnded (machine_after s.before (input.Heard h) s.order) ⊎ IsToCome (machine_after s.before (input.Heard h) s.order) a)
  by (inl at) = inr (inr (goes (stage.HighAsked b (Some v)) (RandomByte b Middle) at refl))
  by (inr (inl (y, at))) = inr (inr (goes (stage.MiddleAsked b (Some y)) (RandomByte b Low) at refl))
  by (inr (inr (r, at))) =
      inl (inl (
        r,
        inl (record {
          heard = (h, is);
          asking = (b, purpose);
          number = ap (λ i. stage_of (machine_told s.before i).trace) is ∙ stage_is (stage.Spelled b (Some r)) at ∙ ap (λ c. stage.Spelled c (Some r)) here;
        }),
      ))

spelled_stays : (s : Step) (earlier : List Step) (n : Machine) (a : ℕ) → IsTaken s n → IsSpelled a earlier s.before a → IsSpelled a (s ∷ earlier) n a
spelled_stays s earlier n a taken (inl was) = inl (was.0, inr was.1)
spelled_stays s earlier n a taken (inr table) =
    inr (subst (λ (x : Machine). IsTabled x a) (sym taken.after) (table.0, told_enrolled s.before s.told (a, table.0) table.1))

looks : (a : ℕ) → Looks (IsClean a) (IsSpelled a) a
looks a = record {
  stays = λ s earlier n taken plain k. spelled_stays s earlier n a taken k;
  tabled = λ steps n table. inr table;
  now = λ s earlier h b p f clean count is purpose here last due given plain whole after.
      let byte = clean h is (purpose ∙ ap (λ c. Asking c) here) in
      spelled_now s earlier a b p byte.0 f h byte.1 is purpose here last given whole;
}

-- what was told is a number
plain_number : (steps : List Step) (a r : ℕ) → ArePlain steps → WasSpelled steps a r → r ≤ MASK24
plain_number [] a r plain spelled = elim spelled [ ]
plain_number (s ∷ earlier) a r plain (inl here) = (subst IsPlain here.number plain.0).1
plain_number (s ∷ earlier) a r plain (inr before) = plain_number earlier a r plain.1 before

pub who_answers : (steps : List Step) (n : Machine) (a : ℕ) → a < 64 → IsCourse steps n → BeginsBySurvey steps → ArePlain steps → AreWhole steps → IsWhole n
    → AllByRecursion (IsClean a) steps → HasTakenCensus n → ((r : ℕ) × IsNamed n a r) ⊎ WasSpelled steps a MASK24
who_answers steps n a small course begins plain are whole clean swept =
    go (watched (IsClean a) (IsSpelled a) a small (looks a) steps n course begins plain clean are whole).seen where
      go : IsEnded n ⊎ (IsSpelled a steps n a ⊎ IsToCome n a) → ((r : ℕ) × IsNamed n a r) ⊎ WasSpelled steps a MASK24
      go (inl (inl ends)) = absurd (swept.runs ends.0 ends.1)
      go (inl (inr ends)) = absurd (swept.whole ends.0 ends.1)
      go (inr (inr comes)) = absurd (swept.quiet comes.0 comes.1)
      go (inr (inl (inr table))) = inl (table.0, inl table.1)
      go (inr (inl (inl (r, was)))) = by (r == MASK24) refl where
        by : (t : Bool) → (r == MASK24) ≡ t → ((q : ℕ) × IsNamed n a q) ⊎ WasSpelled steps a MASK24
        by true top = inr (subst (λ q. WasSpelled steps a q) (let at : r ≡ MASK24 = grind (arith, nat_tests) in at) was)
        by false low =
            let most : r ≤ MASK24 = plain_number steps a r plain was in
            let apart : r ≡ MASK24 → ⊥ = grind (arith, nat_tests) in
            inl (r, who_told steps n a r course (omega (arith, most, apart)) was)
