use Rattle.std.proofs.Common.{◌≡◌, ℕ, Bool, true, false, List, [], ◌∷◌, ◌++◌, refl, sym, ap, subst, ◌∙◌, Option, Some, None, ◌<◌, ◌-◌, ◌==◌, if◌then◌else◌}
use Rattle.std.{proofs.Common.option_map, specs.Prelude.unwrap_or}
use Rattle.dali_frame.specs.{Random.value_of, Short.short_of, declared.frames.Answer.Answer}
use Rattle.dali_frame.specs.declared.frames.Answer.TheVariants.{Silence, Byte, Damaged}
use Rattle.dali_frame.specs.declared.{frames.Forward.Forward, numbers.SearchAddress.SearchAddress}
use Rattle.dali_special.specs.Command.{MASK, command_of, IsSpelled}
use Rattle.dali_special.specs.declared.command.Command.{Command, TheVariants.Terminate, TheVariants.Initialise, TheVariants.Randomise, TheVariants.Compare}
use Rattle.dali_special.specs.declared.command.Command.TheVariants.{Withdraw, SearchHigh, SearchMiddle, SearchLow, Program, QueryShort, RandomByte, Arc}
use Rattle.dali_special.specs.declared.command.Part.TheVariants.{High, Middle, Low}
use Rattle.dali_special.{specs.declared.command.Target.TheVariants.Unaddressed, proofs.Table.read_spelled}
use Rattle.dali_script.specs.Findings.{search_after, at_power_on, search_from, search_of, Asked, nothing, asked_after, asked_from, asked_of, found_by, later}
use Rattle.dali_script.specs.{Findings.finding_from, Findings.finding_of, Records.Assignment}
use Rattle.dali_script.specs.Scripts.{is_asking, Step, steps, IsFront, Lawful, IsLawful}
use Rattle.dali_script.specs.Stages.{hunted, doubted, named, queried, answered, verified, byte_heard, bytes_heard, number_heard, next_stage, stage_from}
use Rattle.dali_script.specs.{Stages.stage_of, Stages.Follows, Stages.finding_at, Stages.IsSearched, Stages.IsAsked, Stages.IsTrace, declared.block.Block.Block}
use Rattle.dali_script.specs.declared.{finding.Finding.Finding, finding.Finding.TheVariants.Queried, finding.Finding.TheVariants.Resolved, stage.Stage.Stage}
use Rattle.dali_script.specs.declared.stage.Stage.TheVariants.{Free, Terminated, InitialisedOnce, Initialised, RandomisedOnce, HighSent, MiddleSent, LowSent}
use Rattle.dali_script.specs.declared.stage.Stage.TheVariants.{Hunted, NumberSent, WokenHigh, WokenLow, WokenMiddle, DrawFree, Found, Unnamed, Inconclusive}
use Rattle.dali_script.specs.declared.stage.Stage.TheVariants.{Programmed, Confirmed, HighAsked, MiddleAsked, Spelled, Over}
use Rattle.dali_script.{specs.declared.trace.Entry.Entry, proofs.Senders.sent_more, proofs.Transactions.positive, proofs.Transactions.asks_hunting}
use Rattle.dali_script.proofs.Transactions.{self, equal, middle_next, low_next, middle_same, low_same, Tracks, tracks, follows_lawful, stage_none, stage_more}

-- What is kept beside the stage of a trace: the search address, what queries of a random address were heard as, and the
-- finding. They grow by a frame, and the stage of a lawful trace says them.
searched_from_more : (r : SearchAddress) (t : List Entry) (e : Entry) → search_from r (t ++ e ∷ []) ≡ search_after (command_of e.frame) (search_from r t)
searched_from_more r [] e = refl
searched_from_more r (x ∷ t) e = searched_from_more (search_after (command_of x.frame) r) t e

pub searched_more : (t : List Entry) (e : Entry) → search_of (t ++ e ∷ []) ≡ search_after (command_of e.frame) (search_of t)
searched_more t e = searched_from_more at_power_on t e

asked_from_more : (q : Asked) (t : List Entry) (e : Entry) → asked_from q (t ++ e ∷ []) ≡ asked_after (command_of e.frame) e.heard (asked_from q t)
asked_from_more q [] e = refl
asked_from_more q (x ∷ t) e = asked_from_more (asked_after (command_of x.frame) x.heard q) t e

pub asked_more : (t : List Entry) (e : Entry) → asked_of (t ++ e ∷ []) ≡ asked_after (command_of e.frame) e.heard (asked_of t)
asked_more t e = asked_from_more nothing t e

none_later : (o : Option Finding) → later None o ≡ o
none_later None = refl
none_later (Some x) = refl

later_later : (o p q : Option Finding) → later o (later p q) ≡ later (later o p) q
later_later o p None = refl
later_later o p (Some x) = refl

finding_from_more : (r : SearchAddress) (q : Asked) (t : List Entry) (e : Entry)
    → finding_from r q (t ++ e ∷ []) ≡ later (finding_from r q t) (found_by (search_from r t) (asked_from q t) (command_of e.frame) e.heard)
finding_from_more r q [] e = sym (none_later (found_by r q (command_of e.frame) e.heard))
finding_from_more r q (x ∷ t) e =
    let n : SearchAddress = search_after (command_of x.frame) r in
    let p : Asked = asked_after (command_of x.frame) x.heard q in
    ap (λ o. later (found_by r q (command_of x.frame) x.heard) o) (finding_from_more n p t e)
    ∙ later_later (found_by r q (command_of x.frame) x.heard) (finding_from n p t) (found_by (search_from n t) (asked_from p t) (command_of e.frame) e.heard)

pub finding_more : (t : List Entry) (e : Entry)
    → finding_of (t ++ e ∷ []) ≡ later (finding_of t) (found_by (search_of t) (asked_of t) (command_of e.frame) e.heard)
finding_more t e = finding_from_more at_power_on nothing t e

-- what a stage says, after one more frame
pub record Says (s : Stage) (r : SearchAddress) (q : Asked) (found : Option Finding) : Type 0 where
  pub searched : IsSearched s r
  pub asked : IsAsked s q
  pub finding : found ≡ finding_at s

doubted_says : (h : Answer) (r : SearchAddress) (q : Asked) (found : Option Finding) → found ≡ None → Says (doubted h) r q found
doubted_says Silence r q found none = record { searched = tt; asked = tt; finding = none }
doubted_says (Byte v) r q found none = record { searched = tt; asked = tt; finding = none }
doubted_says Damaged r q found none = record { searched = tt; asked = tt; finding = none }

queried_says : (r : SearchAddress) (p q : Asked) (h : Answer) → Says (queried r h) r q (found_by r p QueryShort h)
queried_says r p q Silence = record { searched = refl; asked = tt; finding = refl }
queried_says r p q Damaged = record { searched = refl; asked = tt; finding = refl }
queried_says r p q (Byte v) = go (short_of v) (v == MASK) where
  go : (o : Option ℕ) (m : Bool) → Says (named r o m) r q (option_map (λ c. Queried c (value_of r)) o)
  go (Some c) m = record { searched = refl; asked = tt; finding = refl }
  go None true = record { searched = refl; asked = tt; finding = refl }
  go None false = record { searched = refl; asked = tt; finding = refl }

verified_says : (r : SearchAddress) (p q : Asked) (a : ℕ) (h : Answer) → Says (verified r a h) r q (found_by r p QueryShort h)
verified_says r p q a Silence = record { searched = refl; asked = tt; finding = refl }
verified_says r p q a Damaged = record { searched = refl; asked = tt; finding = refl }
verified_says r p q a (Byte v) = go (short_of v) where
  go : (o : Option ℕ) → Says (answered r a o) r q (option_map (λ c. Queried c (value_of r)) o)
  go None = record { searched = refl; asked = tt; finding = refl }
  go (Some c) = same (c == a) refl where
    same : (m : Bool) → (c == a) ≡ m → Says (if m then Confirmed r a else Inconclusive r (Some c)) r q (Some (Queried c (value_of r)))
    same true is = record { searched = refl; asked = tt; finding = ap (λ n. Some (Queried n (value_of r))) (equal c a is) }
    same false is = record { searched = refl; asked = tt; finding = refl }

says_at : (s : Stage) (r n : SearchAddress) (p q : Asked) (found : Option Finding) (h : Answer) → r ≡ n → found ≡ None → Says s n q (found_by n p QueryShort h)
    → Says s r q (later found (found_by r p QueryShort h))
says_at s r n p q found h is none says =
    let at : Says s r q (found_by r p QueryShort h) = subst (λ m. Says s m q (found_by m p QueryShort h)) (sym is) says in
    subst (λ o. Says s r q o) (sym (none_later (found_by r p QueryShort h)) ∙ ap (λ o. later o (found_by r p QueryShort h)) (sym none)) at

-- the queries of a random address, byte by byte
high_says : (a : ℕ) (h : Answer) (q : Asked) → IsAsked (HighAsked a (byte_heard h)) (asked_after (RandomByte a High) h q)
high_says a (Byte v) q = refl
high_says a Silence q = refl
high_says a Damaged q = refl

middle_says : (a : ℕ) (high : Option ℕ) (h : Answer) (q : Asked) → IsAsked (HighAsked a high) q
    → IsAsked (MiddleAsked a (bytes_heard high h)) (asked_after (RandomByte a Middle) h q)
middle_says a (Some high) (Byte v) q is = rw (is, self a) refl
middle_says a (Some high) Silence q is = refl
middle_says a (Some high) Damaged q is = refl
middle_says a None (Byte v) q is = rw is refl
middle_says a None Silence q is = refl
middle_says a None Damaged q is = refl

low_says : (r : SearchAddress) (a : ℕ) (bytes : Option (ℕ × ℕ)) (h : Answer) (q : Asked) → IsAsked (MiddleAsked a bytes) q
    → found_by r q (RandomByte a Low) h ≡ option_map (λ n. Resolved a n) (number_heard bytes h)
low_says r a (Some bytes) (Byte v) q is = rw (is, self a) refl
low_says r a (Some bytes) Silence q is = refl
low_says r a (Some bytes) Damaged q is = refl
low_says r a None (Byte v) q is = rw is refl
low_says r a None Silence q is = refl
low_says r a None Damaged q is = refl

says_middle : (a c : ℕ) (high : Option ℕ) (h : Answer) (r : SearchAddress) (q : Asked) (found : Option Finding) → c ≡ a → Says (HighAsked a high) r q found
    → Says (next_stage (HighAsked a high) (RandomByte c Middle) h) r (asked_after (RandomByte c Middle) h q) found
says_middle a c high h r q found same k =
    let at : Says (MiddleAsked a (bytes_heard high h)) r (asked_after (RandomByte a Middle) h q) found =
    record { searched = tt; asked = middle_says a high h q k.asked; finding = k.finding } in
    subst (λ n. Says (next_stage (HighAsked a high) (RandomByte n Middle) h) r (asked_after (RandomByte n Middle) h q) found) (sym same)
    (subst (λ s. Says s r (asked_after (RandomByte a Middle) h q) found) (sym (middle_next a high h)) at)

says_low : (a c : ℕ) (bytes : Option (ℕ × ℕ)) (h : Answer) (r : SearchAddress) (q : Asked) (found : Option Finding) → c ≡ a
    → Says (MiddleAsked a bytes) r q found
    → Says (next_stage (MiddleAsked a bytes) (RandomByte c Low) h) r (asked_after (RandomByte c Low) h q) (later found (found_by r q (RandomByte c Low) h))
says_low a c bytes h r q found same k =
    let is : later found (found_by r q (RandomByte a Low) h) ≡ option_map (λ n. Resolved a n) (number_heard bytes h) =
    ap (λ o. later o (found_by r q (RandomByte a Low) h)) k.finding ∙ none_later (found_by r q (RandomByte a Low) h) ∙ low_says r a bytes h q k.asked in
    let at : Says (Spelled a (number_heard bytes h)) r (asked_after (RandomByte a Low) h q) (later found (found_by r q (RandomByte a Low) h)) =
    record { searched = tt; asked = tt; finding = is } in
    subst (λ n. Says (next_stage (MiddleAsked a bytes) (RandomByte n Low) h) r (asked_after (RandomByte n Low) h q)
    (later found (found_by r q (RandomByte n Low) h))) (sym same)
    (subst (λ s. Says s r (asked_after (RandomByte a Low) h q) (later found (found_by r q (RandomByte a Low) h))) (sym (low_next a bytes h)) at)

-- one more frame of a hunt
says_asking : (b : Block) (xs : List Assignment) (n : SearchAddress) (last : Option Answer) (left : ℕ) (c : Command) (h : Answer) (r : SearchAddress)
    (q : Asked)
    (found : Option Finding)
    → Follows b xs (Hunted n last left) c → Says (Hunted n last left) r q found
    → Says (next_stage (Hunted n last left) c h) (search_after c r) (asked_after c h q) (later found (found_by r q c h))
says_asking b xs n last left c h r q found on k = rw (positive left asks.0) (asked c asks.1) where
  asks : (0 < left) × (is_asking c ≡ true)
  asks = asks_hunting n last left c on.leads_on

  asked : (c : Command) → is_asking c ≡ true
      → Says (unwrap_or (hunted n (left - 1) c h) Over) (search_after c r) (asked_after c h q) (later found (found_by r q c h))
  asked (SearchHigh high) asks = record { searched = ap (λ (m : SearchAddress). record m { high = high }) k.searched; asked = tt; finding = k.finding }
  asked (SearchMiddle middle) asks = record { searched = ap (λ (m : SearchAddress). record m { middle = middle }) k.searched; asked = tt; finding = k.finding }
  asked (SearchLow low) asks = record { searched = ap (λ (m : SearchAddress). record m { low = low }) k.searched; asked = tt; finding = k.finding }
  asked Compare asks = record { searched = k.searched; asked = tt; finding = k.finding }
  asked _ asks = absurd (cc)

says_more : (b : Block) (xs : List Assignment) (s : Stage) (c : Command) (h : Answer) (r : SearchAddress) (q : Asked) (found : Option Finding)
    → Follows b xs s c → Says s r q found → Says (next_stage s c h) (search_after c r) (asked_after c h q) (later found (found_by r q c h))
says_more b xs Free Terminate h r q found on k = record { searched = tt; asked = tt; finding = k.finding }
says_more b xs Free (SearchHigh high) h r q found on k = record { searched = refl; asked = tt; finding = k.finding }
says_more b xs Free (RandomByte a High) h r q found on k = record { searched = tt; asked = high_says a h q; finding = k.finding }
says_more b xs Free (Arc f) h r q found on k = record { searched = tt; asked = tt; finding = k.finding }
says_more b xs Terminated (Initialise Unaddressed) h r q found on k = record { searched = tt; asked = tt; finding = k.finding }
says_more b xs InitialisedOnce (Initialise Unaddressed) h r q found on k = record { searched = tt; asked = tt; finding = k.finding }
says_more b xs Initialised Randomise h r q found on k = record { searched = tt; asked = tt; finding = k.finding }
says_more b xs Initialised (SearchHigh high) h r q found on k = record { searched = refl; asked = tt; finding = k.finding }
says_more b xs (WokenHigh high) (SearchLow low) h r q found on k = record { searched = (k.searched, refl); asked = tt; finding = k.finding }
says_more b xs (WokenHigh high) (SearchMiddle middle) h r q found on k = record { searched = (k.searched, refl); asked = tt; finding = k.finding }
says_more b xs (WokenLow high low) (SearchMiddle middle) h r q found on k = record {
  searched = ap (λ n. record { high = n; middle = middle; low = r.low }) k.searched.0 ∙ ap (λ n. record { high = high; middle = middle; low = n }) k.searched.1;
  asked = tt;
  finding = k.finding;
}
says_more b xs (WokenMiddle high middle) Compare h r q found on k = doubted_says h r (asked_after Compare h q) found k.finding
says_more b xs DrawFree Randomise h r q found on k = record { searched = tt; asked = tt; finding = k.finding }
says_more b xs RandomisedOnce Randomise h r q found on k = record { searched = tt; asked = tt; finding = k.finding }
says_more b xs (HighSent high) (SearchMiddle middle) h r q found on k = record { searched = (k.searched, refl); asked = tt; finding = k.finding }
says_more b xs (MiddleSent high middle) (SearchLow low) h r q found on k = record {
  searched = ap (λ n. record { high = n; middle = r.middle; low = low }) k.searched.0 ∙ ap (λ n. record { high = high; middle = n; low = low }) k.searched.1;
  asked = tt;
  finding = k.finding;
}
says_more b xs (HighSent high) (SearchLow low) h r q found on k = record { searched = (k.searched, refl); asked = tt; finding = k.finding }
says_more b xs (LowSent high low) (SearchMiddle middle) h r q found on k = record {
  searched = ap (λ n. record { high = n; middle = middle; low = r.low }) k.searched.0 ∙ ap (λ n. record { high = high; middle = middle; low = n }) k.searched.1;
  asked = tt;
  finding = k.finding;
}
says_more b xs (Hunted n last left) c h r q found on k = says_asking b xs n last left c h r q found on k
says_more b xs (NumberSent n) Compare h r q found on k = record { searched = k.searched; asked = tt; finding = k.finding }
says_more b xs (NumberSent n) QueryShort h r q found on k = says_at (queried n h) r n q nothing found h k.searched k.finding (queried_says n q nothing h)
says_more b xs (NumberSent n) Withdraw h r q found on k = record { searched = k.searched; asked = tt; finding = k.finding }
says_more b xs (Found n c) Withdraw h r q found on k = record { searched = k.searched; asked = tt; finding = k.finding }
says_more b xs (Unnamed n) (Program (Some a)) h r q found on k = record { searched = k.searched; asked = tt; finding = k.finding }
says_more b xs (Programmed n a) QueryShort h r q found on k =
    says_at (verified n a h) r n q nothing found h k.searched k.finding (verified_says n q nothing a h)
says_more b xs (Confirmed n a) Withdraw h r q found on k = record { searched = k.searched; asked = tt; finding = k.finding }
says_more b xs (HighAsked a high) (RandomByte c Middle) h r q found on k = says_middle a c high h r q found (middle_same a c high on.leads_on) k
says_more b xs (MiddleAsked a bytes) (RandomByte c Low) h r q found on k = says_low a c bytes h r q found (low_same a c bytes on.leads_on) k
says_more b xs _ _ h r q found on k = absurd (let none = on.leads_on in cc)

pub trace_none : IsTrace Free []
trace_none = record { stage = sym stage_none; searched = tt; asked = tt; finding = refl; sent = tt }

pub trace_more : (s : Stage) (t : List Entry) (f : Forward) (h : Answer) → IsLawful t f → IsTrace s t
    → IsTrace (next_stage s (command_of f) h) (t ++ (record { frame = f; heard = h }) ∷ [])
trace_more s t f h lawful k =
    let b : Block = lawful.0 in
    let xs : List Assignment = lawful.1 in
    let follows : Follows b xs s (command_of f) = subst (λ x. Follows b xs x (command_of f)) (sym k.stage) (follows_lawful b xs t f lawful.2) in
    let says : Says s (search_of t) (asked_of t) (finding_of t) = record { searched = k.searched; asked = k.asked; finding = k.finding } in
    let more = says_more b xs s (command_of f) h (search_of t) (asked_of t) (finding_of t) follows says in
    let e : Entry = record { frame = f; heard = h } in
    record {
      stage = ap (λ x. next_stage x (command_of f) h) k.stage ∙ sym (stage_more t e);
      searched = subst (λ r. IsSearched (next_stage s (command_of f) h) r) (sym (searched_more t e)) more.searched;
      asked = subst (λ q. IsAsked (next_stage s (command_of f) h) q) (sym (asked_more t e)) more.asked;
      finding = finding_more t e ∙ more.finding;
      sent = sent_more t e k.sent lawful;
    }

-- WHAT A FRONT OF A SCRIPT SAYS
says_from : (b : Block) (xs : List Assignment) (t : List Entry) (s : Stage) (f : Forward) (ss : List Step) (r : SearchAddress) (q : Asked)
    (found : Option Finding)
    → IsFront t f ss → Tracks b xs s ss → Says s r q found → Says (stage_from s t) (search_from r t) (asked_from q t) (later found (finding_from r q t))
unfolding Tracks
says_from b xs [] s f [] r q found front tr k = absurd front
says_from b xs (e ∷ t) s f [] r q found front tr k = absurd front
says_from b xs [] s f (step ∷ more) r q found front tr k = k
says_from b xs (e ∷ t) s f (step ∷ more) r q found front tr k =
    let spelled : IsSpelled step.command = subst IsSpelled front.0 (read_spelled e.frame) in
    let rest : Tracks b xs (next_stage s step.command e.heard) more = tr.1 spelled e.heard front.1 in
    let here : Follows b xs s (command_of e.frame) = subst (λ c. Follows b xs s c) (sym front.0) tr.0 in
    let next = says_more b xs s (command_of e.frame) e.heard r q found here k in
    let n : SearchAddress = search_after (command_of e.frame) r in
    let p : Asked = asked_after (command_of e.frame) e.heard q in
    let later_on = says_from b xs t (next_stage s (command_of e.frame) e.heard) f more n p (later found (found_by r q (command_of e.frame) e.heard))
    front.2 (subst (λ d. Tracks b xs (next_stage s d e.heard) more) (sym front.0) rest) next in
    record {
      searched = later_on.searched;
      asked = later_on.asked;
      finding = later_later found (found_by r q (command_of e.frame) e.heard) (finding_from n p t) ∙ later_on.finding;
    }

says_lawful : (b : Block) (xs : List Assignment) (t : List Entry) (f : Forward) → Lawful b xs t f → Says (stage_of t) (search_of t) (asked_of t) (finding_of t)
unfolding stage_of
says_lawful b xs t f lawful =
    let says = says_from b xs t Free f (steps lawful.0) at_power_on nothing None lawful.2 (tracks b xs lawful.0 lawful.1)
    (record { searched = tt; asked = tt; finding = refl }) in
    record { searched = says.searched; asked = says.asked; finding = sym (none_later (finding_of t)) ∙ says.finding }

-- the stage's search address is what the frames have set
pub searched_lawful : (b : Block) (xs : List Assignment) (t : List Entry) (f : Forward) → Lawful b xs t f → IsSearched (stage_of t) (search_of t)
searched_lawful b xs t f lawful = (says_lawful b xs t f lawful).searched

-- its bytes are what queries of a random address were heard as
pub asked_lawful : (b : Block) (xs : List Assignment) (t : List Entry) (f : Forward) → Lawful b xs t f → IsAsked (stage_of t) (asked_of t)
asked_lawful b xs t f lawful = (says_lawful b xs t f lawful).asked

-- the stage's finding is that of the trace
pub finding_lawful : (b : Block) (xs : List Assignment) (t : List Entry) (f : Forward) → Lawful b xs t f → finding_of t ≡ finding_at (stage_of t)
finding_lawful b xs t f lawful = (says_lawful b xs t f lawful).finding

-- the same after one more frame
says_after : (b : Block) (xs : List Assignment) (t : List Entry) (e : Entry) → Lawful b xs t e.frame
    → Says (next_stage (stage_of t) (command_of e.frame) e.heard) (search_of (t ++ e ∷ [])) (asked_of (t ++ e ∷ [])) (finding_of (t ++ e ∷ []))
says_after b xs t e lawful =
    let more = says_more b xs (stage_of t) (command_of e.frame) e.heard (search_of t) (asked_of t) (finding_of t) (follows_lawful b xs t e.frame lawful)
    (says_lawful b xs t e.frame lawful) in
    rw (searched_more t e, asked_more t e, finding_more t e) more

pub searched_after : (b : Block) (xs : List Assignment) (t : List Entry) (e : Entry) → Lawful b xs t e.frame
    → IsSearched (stage_of (t ++ e ∷ [])) (search_of (t ++ e ∷ []))
searched_after b xs t e lawful = rw (stage_more t e) (says_after b xs t e lawful).searched

pub finding_after : (b : Block) (xs : List Assignment) (t : List Entry) (e : Entry) → Lawful b xs t e.frame
    → finding_of (t ++ e ∷ []) ≡ finding_at (stage_of (t ++ e ∷ []))
finding_after b xs t e lawful = rw (stage_more t e) (says_after b xs t e lawful).finding
