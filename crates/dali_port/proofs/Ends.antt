use Rattle.std.proofs.Common.{◌≡◌, ℕ, ◌+◌, Bool, true, false, ◌&&◌, not, List, [], ◌∷◌, refl}
use Rattle.std.proofs.Common.{sym, ◌∙◌, ap}
use Rattle.std.proofs.Common.{arith, is_some}
use Rattle.std.specs.Prelude.{Ok, Err}
use Rattle.dali_port.specs.State.{Port}
use Rattle.dali_port.specs.Calls.{Answered, timer_told}
use Rattle.dali_port.specs.Calls.{is_free, send_after, send_told}
use Rattle.dali_port.specs.Laws.{is_busy, TellsOne, HandsIn}
use Rattle.dali_port.specs.Runs.{Call, Sends, Times, Turns, Loses, after, after_all, told_by, one_if, word_in, words, done_in, taken_by, frames, under_way}
use Rattle.dali_port.proofs.Words.{send_one, timer_one, edge_one, lost_one}

-- A WORD FOR EACH FRAME, over a run

count_bool : (w a b : Bool) → w ≡ a && not b → b && not a ≡ false → one_if w + one_if b ≡ one_if a
count_bool true true true one two = absurd (cc)
count_bool true true false one two = refl
count_bool true false b one two = absurd (cc)
count_bool false true true one two = refl
count_bool false true false one two = absurd (cc)
count_bool false false true one two = absurd (cc)
count_bool false false false one two = refl

none : (n : ℕ) → 0 + n ≡ n
none n = omega arith

tells_one : (told : Answered) (p q : Port) → TellsOne p q told → word_in told + under_way q ≡ under_way p
tells_one (Ok e) p q one = count_bool (is_some e.word) (is_busy p.phase) (is_busy q.phase) one.0 one.1
tells_one (Err r) p q is = none (under_way q) ∙ ap (λ x. under_way x) is

free_bool : (w f g : Bool) → f ≡ true → w ≡ g → one_if w + one_if (not g) ≡ 1 + one_if (not f)
free_bool true true true one two = refl
free_bool true true false one two = absurd (cc)
free_bool false true true one two = absurd (cc)
free_bool false true false one two = refl
free_bool w false g one two = absurd (cc)

hands_one : (told : Answered) (p q : Port) → HandsIn p q told → word_in told + under_way q ≡ done_in told + under_way p
hands_one (Ok e) p q one = free_bool (is_some e.word) (is_free p.phase) (is_free q.phase) one.0 one.1
hands_one (Err r) p q is = ap (λ x. 0 + under_way x) is

each_one : (p : Port) (c : Call) → word_in (told_by p c) + under_way (after p c) ≡ taken_by p c + under_way p
each_one p (Sends order now) = hands_one (send_told p order now) p (send_after p order now) (send_one p order now)
each_one p (Times now) = tells_one (timer_told p now) p _ (timer_one p now) ∙ sym (none (under_way p))
each_one p (Turns low now) = tells_one (told_by p (Turns low now)) p _ (edge_one p low now) ∙ sym (none (under_way p))
each_one p (Loses low now) = tells_one (told_by p (Loses low now)) p _ (lost_one p low now) ∙ sym (none (under_way p))

add : (w ws e f fs a b : ℕ) → ws + e ≡ fs + a → w + a ≡ f + b → (w + ws) + e ≡ (f + fs) + b
add w ws e f fs a b more one = omega (arith, more, one)

pub words_are : (p : Port) (calls : List Call) → words p calls + under_way (after_all p calls) ≡ frames p calls + under_way p
words_are p [] = refl
words_are p (c ∷ calls) =
    add (word_in (told_by p c)) (words (after p c) calls) (under_way (after_all (after p c) calls)) (taken_by p c) (frames (after p c) calls)
    (under_way (after p c)) (under_way p) (words_are (after p c) calls) (each_one p c)
