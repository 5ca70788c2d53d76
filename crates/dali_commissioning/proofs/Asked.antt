use Rattle.std.proofs.Common.{◌≡◌, ◌<◌, ◌≤◌, arith, ℕ, suc, ◌+◌, ◌*◌, List, [], ◌∷◌, ◌++◌, length, true, Option, Some, None, is_some, refl, ◌∙◌, ap, sym, subst}
use Rattle.dali_frame.specs.declared.frames.Answer.{Answer}
use Rattle.dali_script.specs.{Records.Kept, declared.block.Block.Block, declared.orders.Input.Input, declared.sending.Half.TheVariants.Whole}
use Rattle.dali_commissioning.specs.Census.{query_at, answer_told, IsPut, IsAsked, answers_heard, answers_told, AreAsked, heard_in, heard_after}
use Rattle.dali_commissioning.specs.Census.{IsHeard, AreLost, lost_after, IsGivenUpOf, IsCounted, AreCounted}
use Rattle.dali_commissioning.specs.{Drivers.Talk, declared.census.Answers.Answers, declared.census.Reply.Reply, declared.hearing.Hearing.Hearing}

-- a frame that was heard
pub is_heard : (heard : Option Answer) (told : Input) (h : Answer) → heard ≡ answer_told told → heard ≡ Some h
    → is_some (answer_told told) ≡ true
is_heard heard told h told_so is = ap is_some (sym told_so ∙ is)

-- the three frames of a question, one after the other
pub first : (a : ℕ) (i : Input) (x y : Talk) → IsPut 3 (query_at a 0) Whole i x y → IsAsked a (i ∷ []) x y
first a i x y put = (x, refl, tt, omega arith, put)

pub second : (a : ℕ) (h i : Input) (x y z : Talk) → IsPut 3 (query_at a 0) Whole h x y → is_some (answer_told h) ≡ true
    → IsPut 1 (query_at a 1) Whole i y z → IsAsked a (i ∷ h ∷ []) x z
second a h i x y z put heard more = (y, first a h x y put, (heard, tt), omega arith, more)

pub third : (a : ℕ) (h m i : Input) (w x y z : Talk) → IsPut 3 (query_at a 0) Whole h w x → is_some (answer_told h) ≡ true
    → IsPut 1 (query_at a 1) Whole m x y → is_some (answer_told m) ≡ true
    → IsPut 1 (query_at a 2) Whole i y z → IsAsked a (i ∷ m ∷ h ∷ []) w z
third a h m i w x y z put heard more heard_too last = (y, second a h m w x y put heard more, (heard_too, (heard, tt)), omega arith, last)

-- what is told if all three are heard, or the last one is not
pub all_told : (o p q : Option Answer) (h m l : Answer) → o ≡ Some h → p ≡ Some m → q ≡ Some l
    → Some (record { high = h; middle = m; low = l }) ≡ answers_heard o p q
all_told o p q h m l high middle low =
    sym (ap (λ x. answers_heard x p q) high ∙ ap (λ x. answers_heard (Some h) x q) middle ∙ ap (λ x. answers_heard (Some h) (Some m) x) low)

pub not_told : (o p q : Option Answer) (h m : Answer) → o ≡ Some h → p ≡ Some m → q ≡ None
    → None ≡ answers_heard o p q
not_told o p q h m high middle low =
    sym (ap (λ x. answers_heard x p q) high ∙ ap (λ x. answers_heard (Some h) x q) middle ∙ ap (λ x. answers_heard (Some h) (Some m) x) low)

-- the questions of one short address, one more
pub record HasAsked (a : ℕ) (x y : Talk) (it : Hearing) (lost : ℕ) : Type 0 where
  pub questions : List (List Input)
  pub are : AreAsked a questions x y
  pub told : it ≡ heard_in questions
  pub are_lost : AreLost lost questions

lost_more : (lost : ℕ) (told : Option Answers) (inputs : List Input) (before : List (List Input)) → told ≡ answers_told inputs
    → AreLost lost before → AreLost (lost_after lost told) (inputs ∷ before)
lost_more lost (Some r) inputs before says so_far = tt
lost_more lost None inputs before says so_far =
    let suc_lost : suc lost ≡ lost + 1 = omega arith in
    subst (λ n. AreLost n (inputs ∷ before)) suc_lost (sym says, so_far)

pub asked_more : (a : ℕ) (x y z : Talk) (old new : Hearing) (lost later : ℕ) (told : Option Answers)
    → HasAsked a x y old lost
    → (inputs : List Input) × IsAsked a inputs y z × (told ≡ answers_told inputs)
    → new ≡ heard_after old told → later ≡ lost_after lost told → HasAsked a x z new later
asked_more a x y z old new lost later told so_far (inputs, is_asked, says) joined counted = record {
  questions = inputs ∷ so_far.questions;
  are = (y, so_far.are, is_asked);
  told = joined ∙ ap (λ h. heard_after h told) so_far.told ∙ ap (λ t. heard_after (heard_in so_far.questions) t) says;
  are_lost = subst (λ n. AreLost n (inputs ∷ so_far.questions)) (sym counted) (lost_more lost told inputs so_far.questions says so_far.are_lost);
}

pub heard : (a n : ℕ) (x y : Talk) (it : Hearing) (lost : ℕ) → HasAsked a x y it lost → it.asked ≡ n → IsHeard n a it x y
heard a n x y it lost so_far is = (so_far.questions, so_far.are, so_far.told, is)

pub given_up : (a n : ℕ) (x y : Talk) (it : Hearing) (lost : ℕ) → HasAsked a x y it lost → it.asked < n → lost ≡ 8
    → IsGivenUpOf n a x y
given_up a n x y it lost so_far few is = (
  so_far.questions,
  so_far.are,
  subst (λ h. h.asked < n) so_far.told few,
  subst (λ n. AreLost n so_far.questions) is so_far.are_lost,
)

-- each question that is told whole comes behind seven lost ones at most
pub tried_more : (count : ℕ) (old new : Hearing) (lost later : ℕ) (told : Option Answers) → count ≤ 8 * old.asked + lost → lost < 8
    → new ≡ heard_after old told → later ≡ lost_after lost told → count + 1 ≤ 8 * new.asked + later
tried_more count old new lost later (Some r) tried few added counted =
    let more : new.asked ≡ old.asked + 1 = ap (λ h. h.asked) added in
    omega (arith, tried, few, more, counted)
tried_more count old new lost later None tried few added counted =
    let same : new.asked ≡ old.asked = ap (λ h. h.asked) added in
    omega (arith, tried, few, same, counted)

-- one short address more
pub counted_more : (k : Kept) (others : List Block) (a n : ℕ) (rs : List Reply) (r : Reply) (x y z : Talk)
    → AreCounted k others a rs x y → length rs + a ≡ n → IsCounted k others n r y z
    → AreCounted k others a (rs ++ r ∷ []) x z
counted_more k others a n [] r x y z so_far at one =
    (z, subst (λ b. IsCounted k others b r x z) (omega (arith, at)) (subst (λ t. IsCounted k others n r t z) so_far one), refl)
counted_more k others a n (s ∷ rs) r x y z (mid, first_one, rest) at one =
    (mid, first_one, counted_more k others (a + 1) n rs r mid y z rest (omega (arith, at)) one)
