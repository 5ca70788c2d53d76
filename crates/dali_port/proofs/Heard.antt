use Rattle.std.proofs.Common.{◌≡◌, ℕ, Bool, true, false, ◌&&◌, Option, Some, None, refl, sym, ◌∙◌, if◌then◌else◌}
use Rattle.std.specs.Prelude.{Ok, Err}
use Rattle.dali_port.specs.declared.orders.{Order.Order, Refusal.Refusal, Word.Word}
use Rattle.dali_port.specs.State.{Port, Phase, Free, Waiting, Sending, Breaking, Listening}
use Rattle.dali_port.specs.declared.state.Event.{Event}
use Rattle.dali_port.specs.Orders.{is_later}
use Rattle.dali_port.specs.Ports.{has_no_power, is_broken_off, lapsed_in, lapsed_word, event_in, event_until, until}
use Rattle.dali_port.specs.Calls.{is_backwards, also, may_begin, is_too_late, timed_word, same_level, refused, is_gone, taken_word, send_told_by}
use Rattle.dali_port.specs.Runs.{Call, Sends, Times, Turns, Loses, told_by}
use Rattle.dali_port.specs.Stretches.{is_heard, is_listening, TellsHeard}

-- WHAT WAS HEARD IS TOLD of a frame alone that was sent whole.

not_both : (x : Bool) (ph : Phase) → x ≡ false → x ≡ true → is_listening ph ≡ true
not_both x ph one two = let off : false ≡ true = sym one ∙ two in absurd (cc)

either : (b : Bool) (e f : Event) → is_heard e.word ≡ false → is_heard f.word ≡ false → is_heard (if b then e else f).word ≡ false
either true e f one two = one
either false e f one two = two

word_of : (b : Bool) (v w : Option Word) → is_heard v ≡ false → is_heard w ≡ false → is_heard (if b then v else w) ≡ false
word_of true v w one two = one
word_of false v w one two = two

lapsed_is : (ph : Phase) → is_heard (lapsed_in ph) ≡ false
lapsed_is Free = refl
lapsed_is (Waiting order) = refl
lapsed_is (Sending s) = refl
lapsed_is (Breaking since) = refl
lapsed_is (Listening l) = refl

lapses_is : (ph : Phase) → is_heard (lapsed_word ph) ≡ false
lapses_is Free = refl
lapses_is (Waiting order) = word_of (is_later order) _ _ refl refl
lapses_is (Sending s) = refl
lapses_is (Breaking since) = refl
lapses_is (Listening l) = refl

timed_is : (ph : Phase) (p : Port) (now : ℕ) → is_heard (timed_word ph p now) ≡ false
timed_is Free p now = refl
timed_is (Waiting order) p now = word_of (may_begin p order now && is_too_late p order now) _ _ refl refl
timed_is (Sending s) p now = refl
timed_is (Breaking since) p now = refl
timed_is (Listening l) p now = refl

heard_event : (ph : Phase) (p : Port) (now : ℕ) → is_heard (event_in ph p now).word ≡ true → is_listening ph ≡ true
heard_event Free p now heard = not_both _ Free (either (has_no_power p now) _ _ (lapsed_is p.phase) refl) heard
heard_event (Waiting order) p now heard = not_both _ (Waiting order) (either (has_no_power p now) _ _ (lapsed_is p.phase) refl) heard
heard_event (Sending s) p now heard = absurd (cc)
heard_event (Breaking since) p now heard = not_both _ (Breaking since) (word_of (is_broken_off since now) _ _ refl refl) heard
heard_event (Listening l) p now heard = refl

also_heard : (e : Event) (w : Option Word) (ph : Phase) → is_heard w ≡ false → (is_heard e.word ≡ true → is_listening ph ≡ true)
    → is_heard (also e w).word ≡ true → is_listening ph ≡ true
also_heard e None ph none so heard = so heard
also_heard e (Some w) ph none so heard = not_both (is_heard (Some w)) ph none heard

in_time : (b : Bool) (r : Refusal) (e : Event) (ph : Phase) → (is_heard e.word ≡ true → is_listening ph ≡ true)
    → TellsHeard (if b then Err r else Ok e) → is_listening ph ≡ true
in_time true r e ph so heard = absurd heard
in_time false r e ph so heard = so heard

in_edge : (b gone : Bool) (r : Refusal) (e f : Event) (ph : Phase) → (is_heard e.word ≡ true → is_listening ph ≡ true)
    → (is_heard f.word ≡ true → is_listening ph ≡ true) → TellsHeard (if b then Err r else (if gone then Ok e else Ok f)) → is_listening ph ≡ true
in_edge true gone r e f ph one two heard = absurd heard
in_edge false true r e f ph one two heard = one heard
in_edge false false r e f ph one two heard = two heard

handed_in : (o : Option Refusal) (p : Port) (order : Order) (now : ℕ) → TellsHeard (send_told_by o p order now) → is_listening p.phase ≡ true
handed_in None p order now heard =
    also_heard (event_until p now) (taken_word (until p now) order) p.phase (word_of (is_gone (until p now) order) _ _ refl refl)
    (heard_event p.phase p now) heard
handed_in (Some refusal) p order now heard = absurd heard

pub heard_is : (p : Port) (c : Call) → TellsHeard (told_by p c) → is_listening p.phase ≡ true
heard_is p (Sends order now) heard = handed_in (refused p order now) p order now heard
heard_is p (Times now) heard =
    in_time (is_backwards p now) _ (also (event_until p now) (timed_word (until p now).phase (until p now) now)) p.phase
    (also_heard (event_until p now) (timed_word (until p now).phase (until p now) now) p.phase (timed_is (until p now).phase (until p now) now)
    (heard_event p.phase p now))
    heard
heard_is p (Turns low now) heard =
    in_edge (is_backwards p now) (same_level p.is_low low) _ _ (also (event_until p now) (lapsed_word (until p now).phase)) p.phase
    (not_both (is_heard (lapsed_word p.phase)) p.phase (lapses_is p.phase))
    (also_heard (event_until p now) (lapsed_word (until p now).phase) p.phase (lapses_is (until p now).phase) (heard_event p.phase p now))
    heard
heard_is p (Loses low now) heard =
    in_time (is_backwards p now) _ _ p.phase (not_both (is_heard (lapsed_word p.phase)) p.phase (lapses_is p.phase)) heard
