use Rattle.std.proofs.Common.{◌≡◌, inl, inr, refl, sym, ap, subst, ◌∙◌, arith, ℕ, ◌+◌, ◌<◌, ◌≤◌, Bool, true, false, List, [], ◌∷◌, ◌++◌, length}
use Rattle.std.proofs.lemmas.{Bool.false≢true, List.append_assoc, List.append-nil}
use Rattle.dali_frame.specs.declared.frames.{Answer.Answer, Forward.Forward}
use Rattle.dali_special.specs.Command.{command_of}
use Rattle.dali_special.specs.declared.command.Command.TheVariants.{Arc}
use Rattle.dali_script.specs.{Records.Kept, Records.Assignment, Scripts.Lawful, Scripts.ArcPower, declared.block.Block.Block, declared.trace.Entry.Entry}
use Rattle.dali_script.specs.declared.{orders.Input.Input, sending.Half.Half}
use Rattle.dali_script.specs.declared.orders.Input.TheVariants.{Start, Survey, Heard, Destroyed, Lapsed, Committed, CommitFailed}
use Rattle.dali_statement.specs.Own.{Own, Act, Puts, Loses, Begins, own_after, own_all, IsOwn, AreOwn}
use Rattle.dali_controller.proofs.Acts.{own_both}
use Rattle.dali_commissioning.specs.{Acts.records_of, Drivers.Talk, Done.AreDone, Rules.AsksByRules, declared.census.Reply.Reply}
use Rattle.dali_commissioning.specs.Census.{IsPut, IsAsked, AreHeard, AreAsked, IsHeard, IsAnswered, IsAskedMore, IsCleared, IsCounted, AreCounted}
use Rattle.dali_commissioning.specs.Census.{entries_of, query_at}
use Rattle.dali_commissioning.proofs.{Acts.records_both, Lawfully.lawful, Outstanding.own_joined}
use Rattle.dali_commissioning.proofs.Done.{done_both, none_done, anew_done, act_told, put_done}

-- QUESTIONS KEEP THE RULES, whoever asks.

-- ---------------------------------------------------------------- one after the other

pub asks_both : (x m y : Talk) → AsksByRules x m → AsksByRules m y → AsksByRules x y
asks_both x m y first rest = record {
  acts = first.acts ++ rest.acts;
  done = done_both first.acts rest.acts x m y first.done rest.done;
  none = records_both first.acts rest.acts ∙ ap (λ xs. xs ++ records_of rest.acts) first.none ∙ rest.none;
  own = λ v. own_both v first.acts rest.acts (first.own v) (rest.own (own_all v first.acts));
}

pub asks_none : (x y : Talk) → y ≡ x → AsksByRules x y
asks_none x y same = record { acts = []; done = none_done x y same; none = refl; own = λ v. tt }

-- ---------------------------------------------------------------- a question

pub told_keeps_none : (f : Forward) (told : Input) → records_of (act_told f told ∷ []) ≡ []
told_keeps_none f (Heard h) = refl
told_keeps_none f Lapsed = refl
told_keeps_none f Destroyed = refl
told_keeps_none f Start = refl
told_keeps_none f Survey = refl
told_keeps_none f Committed = refl
told_keeps_none f CommitFailed = refl

-- a frame that is lawful may come to anything
pub told_own : (f : Forward) (told : Input) (v : Own) → Lawful v.kept.block v.kept.reserved v.trace f → IsOwn v (act_told f told)
told_own f (Heard h) v is_lawful = is_lawful
told_own f Lapsed v is_lawful = tt
told_own f Destroyed v is_lawful = is_lawful
told_own f Start v is_lawful = is_lawful
told_own f Survey v is_lawful = is_lawful
told_own f Committed v is_lawful = is_lawful
told_own f CommitFailed v is_lawful = is_lawful

pub told_kept : (f : Forward) (told : Input) (v : Own) → (own_after v (act_told f told)).kept ≡ v.kept
told_kept f (Heard h) v = refl
told_kept f Lapsed v = refl
told_kept f Destroyed v = refl
told_kept f Start v = refl
told_kept f Survey v = refl
told_kept f Committed v = refl
told_kept f CommitFailed v = refl

-- what was told of it stands last first
abbrev acts_asked : ℕ → List Input → List Act
acts_asked a [] = Begins ∷ []
acts_asked a (told ∷ before) = acts_asked a before ++ act_told (query_at a (length before)) told ∷ []

asked_done : (a : ℕ) (told : List Input) (x y : Talk) → IsAsked a told x y → AreDone (acts_asked a told) x y
asked_done a [] x y same = anew_done [] x y (none_done x y same)
asked_done a (told ∷ before) x y (mid, so_far, heard, few, put) =
    done_both (acts_asked a before) (act_told (query_at a (length before)) told ∷ []) x mid y (asked_done a before x mid so_far) (put_done put)

asked_none : (a : ℕ) (told : List Input) → records_of (acts_asked a told) ≡ []
asked_none a [] = refl
asked_none a (told ∷ before) =
    records_both (acts_asked a before) (act_told (query_at a (length before)) told ∷ [])
    ∙ ap (λ xs. xs ++ records_of (act_told (query_at a (length before)) told ∷ [])) (asked_none a before)
    ∙ told_keeps_none (query_at a (length before)) told

-- the trace of what was heard so far, by the records as they were
asked_trace : (a : ℕ) (told : List Input) (v : Own) → AreHeard told
    → ((own_all v (acts_asked a told)).trace ≡ entries_of a told) × ((own_all v (acts_asked a told)).kept ≡ v.kept)
asked_trace a [] v heard = (refl, refl)
asked_trace a (Heard h ∷ before) v heard =
    let so_far = asked_trace a before v heard.1 in
    let joined = own_joined v (acts_asked a before) (Puts (query_at a (length before)) h ∷ []) in (
      ap (λ w. w.trace) joined ∙ ap (λ t. t ++ (record { frame = query_at a (length before); heard = h }) ∷ []) so_far.0,
      ap (λ w. w.kept) joined ∙ so_far.1,
    )
asked_trace a (Start ∷ before) v heard = absurd (false≢true heard.0)
asked_trace a (Survey ∷ before) v heard = absurd (false≢true heard.0)
asked_trace a (Destroyed ∷ before) v heard = absurd (false≢true heard.0)
asked_trace a (Lapsed ∷ before) v heard = absurd (false≢true heard.0)
asked_trace a (Committed ∷ before) v heard = absurd (false≢true heard.0)
asked_trace a (CommitFailed ∷ before) v heard = absurd (false≢true heard.0)

asked_own : (a : ℕ) (told : List Input) (x y : Talk) → a < 64 → IsAsked a told x y → (v : Own) → AreOwn v (acts_asked a told)
asked_own a [] x y short same v = (tt, tt)
asked_own a (told ∷ before) x y short (mid, so_far, heard, few, put) v =
    let now = own_all v (acts_asked a before) in
    let is_lawful : Lawful now.kept.block now.kept.reserved now.trace (query_at a (length before)) =
    subst (λ t. Lawful now.kept.block now.kept.reserved t (query_at a (length before))) (sym (asked_trace a before v heard).0)
    (lawful now.kept.block now.kept.reserved a before short heard few) in
    own_both v (acts_asked a before) (act_told (query_at a (length before)) told ∷ []) (asked_own a before x mid short so_far v)
    (told_own (query_at a (length before)) told now is_lawful, tt)

asked : (a : ℕ) (told : List Input) (x y : Talk) → a < 64 → IsAsked a told x y → AsksByRules x y
asked a told x y short is = record {
  acts = acts_asked a told;
  done = asked_done a told x y is;
  none = asked_none a told;
  own = asked_own a told x y short is;
}

-- ---------------------------------------------------------------- the questions of an address

all_asked : (a : ℕ) (questions : List (List Input)) (x y : Talk) → a < 64 → AreAsked a questions x y → AsksByRules x y
all_asked a [] x y short same = asks_none x y same
all_asked a (told ∷ before) x y short (mid, so_far, last) =
    asks_both x mid y (all_asked a before x mid short so_far) (asked a told mid y short last)

pub answered : (a : ℕ) (r : Reply) (x y : Talk) → a < 64 → IsAnswered a r x y → AsksByRules x y
answered a r x y short (h, (questions, are, is, counted), so) = all_asked a questions x y short are

asked_on : (a : ℕ) (first r : Reply) (x y : Talk) → a < 64 → IsAskedMore a first r x y → AsksByRules x y
asked_on a first r x y short (inl (clear, is, same)) = asks_none x y same
asked_on a first r x y short (inr (unclear, (h, (questions, are, so, counted), is))) = all_asked a questions x y short are

pub cleared : (a : ℕ) (r : Reply) (x y : Talk) → a < 64 → IsCleared a r x y → AsksByRules x y
cleared a r x y short it = asks_both x it.mid y (answered a it.first x it.mid short it.answered) (asked_on a it.first r it.mid y short it.more)

counted_one : (k : Kept) (others : List Block) (a : ℕ) (r : Reply) (x y : Talk) → a < 64 → IsCounted k others a r x y → AsksByRules x y
counted_one k others a r x y short (inl (known, is, same)) = asks_none x y same
counted_one k others a r x y short (inr (unknown, it)) = cleared a r x y short it

counted_from : (k : Kept) (others : List Block) (a : ℕ) (replies : List Reply) (x y : Talk) → a + length replies ≤ 64
    → AreCounted k others a replies x y → AsksByRules x y
counted_from k others a [] x y few same = asks_none x y same
counted_from k others a (r ∷ more) x y few (mid, first, rest) =
    asks_both x mid y (counted_one k others a r x mid (omega (arith, few)) first) (counted_from k others (a + 1) more mid y (omega (arith, few)) rest)

pub counted : (k : Kept) (others : List Block) (replies : List Reply) (x y : Talk) → length replies ≤ 64
    → AreCounted k others 0 replies x y → AsksByRules x y
counted k others replies x y few are = counted_from k others 0 replies x y (omega (arith, few)) are

-- ---------------------------------------------------------------- direct arc power

pub arc_power : (p : ℕ) (f : Forward) (half : Half) (told : Input) (x y : Talk) → command_of f ≡ Arc f → IsPut p f half told x y → AsksByRules x y
arc_power p f half told x y arc put = record {
  acts = Begins ∷ act_told f told ∷ [];
  done = anew_done (act_told f told ∷ []) x y (put_done put);
  none = told_keeps_none f told;
  own = λ v. (tt, (told_own f told (own_after v Begins) (ArcPower f, tt, arc), tt));
}
