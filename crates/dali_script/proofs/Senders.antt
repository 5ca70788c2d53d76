use Rattle.std.proofs.Common.{◌≡◌, ℕ, ◌+◌, ◌<◌, ◌≤◌, ◌∙◌, Bool, true, false, Option, Some, None, List, [], ◌∷◌, ◌++◌, refl, sym, subst, arith, length}
use Rattle.std.proofs.Common.{length-append, append-nil, get_or, take, inl, zero, suc, IfSome, nat_lt, is_some, ◌==◌, ◌&&◌, ◌-◌, if◌then◌else◌}
use Rattle.std.proofs.lemmas.Bool.Decides.{nat_tests}
use mathlib.Core.List.{append_assoc}
use Rattle.dali_frame.specs.Random.{value_of, MASK24}
use Rattle.dali_frame.specs.declared.{frames.Answer.Answer, frames.Answer.TheVariants.Silence, frames.Forward.Forward, numbers.SearchAddress.SearchAddress}
use Rattle.dali_special.specs.{Command.command_of, declared.command.Command.Command}
use Rattle.dali_special.specs.declared.command.Command.TheVariants.{Arc, Compare, Initialise, Program, QueryShort, RandomByte, Randomise, SearchHigh, SearchLow}
use Rattle.dali_special.specs.declared.command.Command.TheVariants.{SearchMiddle, Terminate, Withdraw}
use Rattle.dali_special.specs.declared.command.{Part.TheVariants.High, Part.TheVariants.Middle, Part.TheVariants.Low, Target.TheVariants.Unaddressed}
use Rattle.dali_script.specs.{Records.Assignment, Scripts.MayGive, Scripts.IsLawful, Scripts.AreSent, Scripts.IsTransaction}
use Rattle.dali_script.specs.Stages.{leads, given, hunted, bytes_heard, number_heard, is_drawn_if, may_come, stage_of, Follows}
use Rattle.dali_script.specs.declared.{block.Block.Block, stage.Stage.Stage, stage.Stage.TheVariants.Confirmed, stage.Stage.TheVariants.DrawFree}
use Rattle.dali_script.specs.declared.stage.Stage.TheVariants.{Found, Free, HighAsked, HighSent, Hunted, Initialised, InitialisedOnce, LowSent, MiddleAsked}
use Rattle.dali_script.specs.declared.stage.Stage.TheVariants.{MiddleSent, NumberSent, Programmed, RandomisedOnce, Spelled, Terminated, Unnamed, WokenHigh}
use Rattle.dali_script.specs.declared.{stage.Stage.TheVariants.WokenLow, stage.Stage.TheVariants.WokenMiddle, trace.Entry.Entry}
use Rattle.dali_script.proofs.{Giving.first_of_both, Giving.second_of_both, Transactions.follows_lawful, Transactions.lawful_follows, Transactions.room}

-- SOME SENDER may send a command: one that has reserved what is given, in a block of that one address.
drawn_by : (b : Block) (xs : List Assignment) (o : Option (SearchAddress × ℕ)) → IfSome o (λ g. MayGive b xs g.0 g.1) → is_drawn_if o ≡ true
drawn_by b xs None may = refl
drawn_by b xs (Some g) may = below (value_of g.0) MASK24 may.drawn where
  below : (n m : ℕ) → n < m → nat_lt n m ≡ true
  below n m h = grind (arith, nat_tests)

pub comes_by : (b : Block) (xs : List Assignment) (s : Stage) (c : Command) → Follows b xs s c → may_come s c ≡ true
comes_by b xs s c on = rw (on.leads_on, drawn_by b xs (given s c) on.may) refl

abbrev block_for : Option (SearchAddress × ℕ) → Block
block_for (Some g) = record { first = g.1; last = g.1 }
block_for None = record { first = 0; last = 0 }

abbrev reserved_for : Option (SearchAddress × ℕ) → List Assignment
reserved_for (Some g) = (g.1, value_of g.0) ∷ []
reserved_for None = []

may_for : (o : Option (SearchAddress × ℕ)) → is_drawn_if o ≡ true → IfSome o (λ g. MayGive (block_for o) (reserved_for o) g.0 g.1)
may_for None e = tt
may_for (Some g) e = record { drawn = below (value_of g.0) MASK24 e; within = (omega arith, omega arith); reserved_for = inl refl } where
  below : (n m : ℕ) → nat_lt n m ≡ true → n < m
  below n m t = grind (arith, nat_tests)

pub comes_from : (s : Stage) (c : Command) → may_come s c ≡ true → Follows (block_for (given s c)) (reserved_for (given s c)) s c
comes_from s c e = record { leads_on = first_of_both _ _ e; may = may_for (given s c) (second_of_both _ _ e) }

-- whether a command leads on does not depend on what is heard after it
pub leads_heard : (s : Stage) (c : Command) (h : Answer) → is_some (leads s c h) ≡ is_some (leads s c Silence)
leads_heard (Hunted r last left) c h = go (left == 0) c where
  go : (b : Bool) (c : Command) → is_some (if b then None else hunted r (left - 1) c h) ≡ is_some (if b then None else hunted r (left - 1) c Silence)
  go true c = refl
  go false (SearchHigh high) = refl
  go false (SearchMiddle middle) = refl
  go false (SearchLow low) = refl
  go false Compare = refl
  go false _ = refl
leads_heard (HighAsked b high) (RandomByte a Middle) h = go (a == b) where
  go : (t : Bool) → is_some (if t then Some (MiddleAsked b (bytes_heard high h)) else None)
      ≡ is_some (if t then Some (MiddleAsked b (bytes_heard high Silence)) else None)
  go true = refl
  go false = refl
leads_heard (MiddleAsked b bytes) (RandomByte a Low) h = go (a == b) where
  go : (t : Bool) → is_some (if t then Some (Spelled b (number_heard bytes h)) else None)
      ≡ is_some (if t then Some (Spelled b (number_heard bytes Silence)) else None)
  go true = refl
  go false = refl
leads_heard Free Terminate h = refl
leads_heard Free (SearchHigh high) h = refl
leads_heard Free (RandomByte a High) h = refl
leads_heard Free (Arc f) h = refl
leads_heard Terminated (Initialise Unaddressed) h = refl
leads_heard InitialisedOnce (Initialise Unaddressed) h = refl
leads_heard Initialised Randomise h = refl
leads_heard Initialised (SearchHigh high) h = refl
leads_heard (WokenHigh high) (SearchLow low) h = refl
leads_heard (WokenHigh high) (SearchMiddle middle) h = refl
leads_heard (WokenLow high low) (SearchMiddle middle) h = refl
leads_heard (WokenMiddle high middle) Compare h = refl
leads_heard DrawFree Randomise h = refl
leads_heard RandomisedOnce Randomise h = refl
leads_heard (HighSent high) (SearchMiddle middle) h = refl
leads_heard (HighSent high) (SearchLow low) h = refl
leads_heard (LowSent high low) (SearchMiddle middle) h = refl
leads_heard (MiddleSent high middle) (SearchLow low) h = refl
leads_heard (NumberSent r) Compare h = refl
leads_heard (NumberSent r) QueryShort h = refl
leads_heard (NumberSent r) Withdraw h = refl
leads_heard (Found r b) Withdraw h = refl
leads_heard (Unnamed r) (Program (Some a)) h = refl
leads_heard (Programmed r a) QueryShort h = refl
leads_heard (Confirmed r a) Withdraw h = refl
leads_heard _ _ h = refl

pub comes_if : (s : Stage) (c : Command) (h : Answer) → is_drawn_if (given s c) ≡ true → may_come s c ≡ is_some (leads s c h)
comes_if s c h drawn = rw drawn (both (is_some (leads s c Silence)) ∙ sym (leads_heard s c h)) where
  both : (b : Bool) → (b && true) ≡ b
  both true = refl
  both false = refl

pub comes_not : (s : Stage) (c : Command) → is_drawn_if (given s c) ≡ false → may_come s c ≡ false
comes_not s c drawn = rw drawn (both (is_some (leads s c Silence))) where
  both : (b : Bool) → (b && false) ≡ false
  both true = refl
  both false = refl

pub lawful_comes : (t : List Entry) (f : Forward) → IsLawful t f → may_come (stage_of t) (command_of f) ≡ true
lawful_comes t f lawful = comes_by lawful.0 lawful.1 (stage_of t) (command_of f) (follows_lawful lawful.0 lawful.1 t f lawful.2)

pub comes_lawful : (t : List Entry) (f : Forward) → may_come (stage_of t) (command_of f) ≡ true → IsLawful t f
comes_lawful t f e =
    let o : Option (SearchAddress × ℕ) = given (stage_of t) (command_of f) in
    (block_for o, reserved_for o, lawful_follows (block_for o) (reserved_for o) t f (comes_from (stage_of t) (command_of f) e))

-- ONE MORE FRAME of a transaction
append_step : (before : List Entry) (e : Entry) (t : List Entry) → (before ++ e ∷ []) ++ t ≡ before ++ e ∷ t
append_step before e t = append_assoc before (e ∷ []) t

sent_from_more : (before t : List Entry) (e : Entry) → AreSent before t → IsLawful (before ++ t) e.frame → AreSent before (t ++ e ∷ [])
sent_from_more before [] e sent lawful = (subst (λ r. IsLawful r e.frame) (append-nil before) lawful, tt)
sent_from_more before (x ∷ t) e sent lawful =
    (sent.0, sent_from_more (before ++ x ∷ []) t e sent.1 (subst (λ r. IsLawful r e.frame) (sym (append_step before x t)) lawful))

pub sent_more : (t : List Entry) (e : Entry) → IsTransaction t → IsLawful t e.frame → IsTransaction (t ++ e ∷ [])
sent_more t e sent lawful = sent_from_more [] t e sent lawful

-- and each frame is lawful after those before it
sent_from_at : (before t : List Entry) (i : ℕ) (d : Entry) → AreSent before t → i < length t → IsLawful (before ++ take i t) (get_or t i d).frame
sent_from_at before [] i d sent inside = absurd (omega arith)
sent_from_at before (x ∷ t) zero d sent inside = subst (λ r. IsLawful r x.frame) (sym (append-nil before)) sent.0
sent_from_at before (x ∷ t) (suc i) d sent inside =
    subst (λ r. IsLawful r (get_or t i d).frame) (append_step before x (take i t)) (sent_from_at (before ++ x ∷ []) t i d sent.1 (omega arith))

pub sent_at : (t : List Entry) (i : ℕ) (d : Entry) → IsTransaction t → i < length t → IsLawful (take i t) (get_or t i d).frame
sent_at t i d sent inside = sent_from_at [] t i d sent inside

-- a transaction has at most eight frames
sent_from_short : (before t : List Entry) → length before ≤ 8 → AreSent before t → length before + length t ≤ 8
sent_from_short before [] short sent = omega arith
sent_from_short before (e ∷ t) short sent =
    let less : length before < 8 = room sent.0.0 sent.0.1 before e.frame sent.0.2 in
    let more : length (before ++ e ∷ []) ≡ length before + 1 = length-append before (e ∷ []) in
    let rest : length (before ++ e ∷ []) + length t ≤ 8 = sent_from_short (before ++ e ∷ []) t (omega arith) sent.1 in
    omega arith

pub sent_short : (t : List Entry) → IsTransaction t → length t ≤ 8
sent_short t sent = let short : 0 + length t ≤ 8 = sent_from_short [] t (omega arith) sent in omega arith
