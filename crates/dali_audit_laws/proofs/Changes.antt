use Rattle.std.proofs.Common.{◌≡◌, ℕ, ◌<◌, inl, inr, Bool, true, false, List, refl, sym, ap, subst, ◌∙◌, arith, length, get_or, Option, Some, None}
use Rattle.std.proofs.Common.{if◌then◌else◌, ◌==◌, option_map}
use Rattle.dali_frame.specs.{Random.value_of, Random.number_of, Random.MASK24, Short.short_of, declared.frames.Answer.Answer}
use Rattle.dali_frame.specs.declared.frames.Answer.TheVariants.{Silence, Byte, Damaged}
use Rattle.dali_frame.specs.declared.numbers.SearchAddress.{SearchAddress}
use Rattle.dali_special.specs.declared.command.Command.{Command}
use Rattle.dali_special.specs.declared.command.Command.TheVariants.{Compare, Verify, QueryShort, RandomByte, Program, Randomise, Other}
use Rattle.dali_special.specs.declared.command.Part.{Part, TheVariants.High, TheVariants.Middle, TheVariants.Low}
use Rattle.dali_gear.specs.{Gear.fresh, Row.answers_of, Row.heard_of, declared.row.Reach.TheVariants.Everyone}
use Rattle.dali_script.specs.Findings.{Asked, found_by, assigned}
use Rattle.dali_script.specs.{Records.Assignment, Records.Has, Stages.Follows, Stages.IsSearched, Stages.IsAsked, declared.block.Block.Block}
use Rattle.dali_script.specs.declared.{finding.Finding.Finding, finding.Finding.TheVariants.Queried, finding.Finding.TheVariants.Resolved, stage.Stage.Stage}
use Rattle.dali_script.proofs.{Members.same_member, Transactions.asks_hunting, Transactions.low_same, Transactions.self}
use Rattle.dali_script.specs.declared.stage.Stage.TheVariants as stage
use Rattle.dali_audit.specs.{Bus.number, Findings.asks_one}
use Rattle.dali_audit.specs.Holders.{change_by_command, short_change, pair_told, low_change, number_told}
use Rattle.dali_audit.specs.declared.{bus.Bus.Bus, bus.Search.Search, bus.Spelled.Spelled, holders.Change.Change}
use Rattle.dali_audit.specs.declared.bus.Spelled.TheVariants as spelled
use Rattle.dali_audit.specs.declared.holders.Change.TheVariants as change
use Rattle.dali_events.specs.{Plan.Plan, Plan.IsPlan, Promise.Names, Wanted.gear_of, World.World}
use Rattle.dali_events.proofs.Invariant.{Drawn.HasDrawn, Drawn.are_drawn, Known.found_random, Known.search_known, Safe.Holds as HoldsAll, Sending.KnowsAll}
use Rattle.dali_audit_laws.{specs.Tables.Holds, proofs.Grammar.IsAt, proofs.Grammar.Fits, proofs.Replies.Replies, proofs.Replies.Two}
use Rattle.dali_audit_laws.proofs.{Replies.several, Replies.somebody, Replies.query_replies, Replies.byte_replies, Standing.AreApart, Standing.IsTold}

-- ---------------------------------------------------------------- gear of a run
module _ (p : Plan) (plan : IsPlan p) (w : World) (k : HoldsAll p w) where
  drawn_once : (g h : ℕ) → Has w.drawn (g, (gear_of w.gear g).random) → h < length w.gear → (gear_of w.gear h).random ≡ (gear_of w.gear g).random → h ≡ g
  drawn_once g h has there e = go (k.draws.each h there) where
    go : HasDrawn w.drawn h (get_or w.gear h fresh) → h ≡ g
    go (inl mask) = absurd (
        let below : (gear_of w.gear g).random < 16777215 = (are_drawn p w plan k.draws).below g _ has in
        let at : (gear_of w.gear h).random ≡ 16777215 = mask in
        let same : (gear_of w.gear h).random ≡ (gear_of w.gear g).random = e in
        omega arith)
    go (inr d) = ap (λ x. x.0) (same_member (λ draw. draw.1) w.drawn (h, (gear_of w.gear h).random) (g, (gear_of w.gear g).random)
        (are_drawn p w plan k.draws).once d has e)

  -- gear with one random address that gear draw are one
  pub one_drawer : (g h : ℕ) → g < length w.gear → h < length w.gear → (gear_of w.gear g).random < MASK24
      → (gear_of w.gear h).random ≡ (gear_of w.gear g).random → h ≡ g
  one_drawer g h here there below e = go (k.draws.each g here) where
    go : HasDrawn w.drawn g (get_or w.gear g fresh) → h ≡ g
    go (inl mask) = absurd (
        let at : (gear_of w.gear g).random ≡ 16777215 = mask in
        let less : (gear_of w.gear g).random < 16777215 = below in
        omega arith)
    go (inr d) = drawn_once g h d there e

  pub apart : AreApart w.gear
  apart = record {
    one = λ g h a one two.
        ap (λ gift. gift.0) (same_member (λ gift. gift.1) w.gifts (g, a) (h, a) k.gifts.address_once ((k.gifts.holds g a one.0).0 one.1)
        ((k.gifts.holds h a two.0).0 two.1) refl);
    random = λ g h a has there e. drawn_once g h (k.gifts.drawn g a ((k.gifts.holds g a has.0).0 has.1)) there e;
  }

  pub told_by_name : (a r : ℕ) → Names w (a, r) → IsTold w.gear a r
  told_by_name a r n = record { gear = n.0; has = (n.1, (k.gifts.holds n.0 a n.1).1 n.2.given); random = n.2.random }

  -- ONE GEAR ANSWERS A QUERY
  pub one_answers : (b : Block) (xs : List Assignment) (s : Stage) (c : Command) (r : SearchAddress) → Follows b xs s c → IsSearched s r → KnowsAll s w.gear
      → (c ≡ QueryShort → value_of r < MASK24) → Damaged ≡ heard_of (answers_of Everyone c 0 w.gear) → asks_one c ≡ false
  one_answers b xs s c r on searched knows below e = go c refl where
    queried : c ≡ QueryShort → Two QueryShort w.gear → ⊥
    queried is two =
        let random_of : (i : ℕ) → Replies QueryShort w.gear i → (gear_of w.gear i).random ≡ value_of r =
        λ i k. let q = query_replies (gear_of w.gear i) k.byte k.reply in
        found_random (gear_of w.gear i) r (search_known b xs s c (gear_of w.gear i) r on is searched (knows i k.in_row k.powered) q.0) q.1 in
        let one : (gear_of w.gear two.first).random ≡ value_of r = random_of two.first two.replies in
        let other : (gear_of w.gear two.second).random ≡ value_of r = random_of two.second two.replies_too in
        let same : two.second ≡ two.first = one_drawer two.first two.second two.replies.in_row two.replies_too.in_row
        (subst (λ n. n < MASK24) (sym one) (below is)) (other ∙ sym one) in
        let order : two.first < two.second = two.order in
        omega arith

    resolved : (a : ℕ) (part : Part) → Two (RandomByte a part) w.gear → ⊥
    resolved a part two =
        let one : (gear_of w.gear two.first).short ≡ Some a = byte_replies (gear_of w.gear two.first) a two.replies.byte part two.replies.reply in
        let other : (gear_of w.gear two.second).short ≡ Some a = byte_replies (gear_of w.gear two.second) a two.replies_too.byte part two.replies_too.reply in
        let same : two.first ≡ two.second = apart.one two.first two.second a (two.replies.in_row, one) (two.replies_too.in_row, other) in
        let order : two.first < two.second = two.order in
        omega arith

    verifying : (s : Stage) (a : ℕ) → Follows b xs s (Verify a) → ⊥
    verifying (stage.Hunted r last left) a on = let asks = asks_hunting r last left (Verify a) on.leads_on in let other = asks.1 in cc
    verifying _ a on = let none = on.leads_on in cc

    go : (d : Command) → c ≡ d → asks_one d ≡ false
    go Compare is = refl
    go QueryShort is = absurd (queried is (several QueryShort w.gear (subst (λ d. Damaged ≡ heard_of (answers_of Everyone d 0 w.gear)) is e)))
    go (RandomByte a part) is =
        absurd (resolved a part (several (RandomByte a part) w.gear (subst (λ d. Damaged ≡ heard_of (answers_of Everyone d 0 w.gear)) is e)))
    go (Verify a) is = absurd (verifying s a (subst (λ d. Follows b xs s d) is on))
    go _ is = refl

  -- WHAT A FRAME TELLS IS TRUE
  abbrev pub IsTrueChange : Change → Type 0
  IsTrueChange change.Nothing = Unit {0}
  IsTrueChange (change.Told a r) = IsTold w.gear a r
  IsTrueChange (change.Answered a) = (g : ℕ) × Holds w.gear g a
  IsTrueChange _ = ⊥

  holder_of : (a : ℕ) (part : Part) (h : Answer) → h ≡ heard_of (answers_of Everyone (RandomByte a part) 0 w.gear) → (h ≡ Silence → ⊥)
      → (g : ℕ) × Holds w.gear g a
  holder_of a part Silence e some = absurd (some refl)
  holder_of a part (Byte v) e some =
      let k = somebody (RandomByte a part) w.gear v e in
      (k.0, (k.1.in_row, byte_replies (gear_of w.gear k.0) a v part k.2))
  holder_of a part Damaged e some =
      let two = several (RandomByte a part) w.gear e in
      (two.first, (two.replies.in_row, byte_replies (gear_of w.gear two.first) a two.replies.byte part two.replies.reply))

  pub number_at : (r : SearchAddress) (s : Search) → IsAt r s → number s ≡ Some (value_of r)
  number_at r s at = rw (at.0, at.1, at.2) refl

  short_true : (r n : SearchAddress) (q : Asked) (s : Search) (h : Answer) → IsAt n s → r ≡ n
      → ((x : Finding) → found_by r q QueryShort h ≡ Some x → Names w (assigned x)) → IsTrueChange (short_change (number s) h)
  short_true r n q s Silence at same found = tt
  short_true r n q s Damaged at same found = tt
  short_true r n q s (Byte v) at same found = rw (number_at n s at) (go (short_of v) (λ x e. found x e)) where
    go : (o : Option ℕ) → ((x : Finding) → option_map (λ b. Queried b (value_of r)) o ≡ Some x → Names w (assigned x))
        → IsTrueChange (pair_told (Some (value_of n)) o)
    go None found = tt
    go (Some a) found = told_by_name a (value_of n) (subst (λ m. Names w (a, value_of m)) same (found (Queried a (value_of r)) refl))

  low_true : (a high middle v : ℕ) → (g : ℕ) × Holds w.gear g a → Names w (a, number_of high middle v) → IsTrueChange (number_told a (number_of high middle v))
  low_true a high middle v has named = go (number_of high middle v == MASK24) where
    go : (m : Bool) → IsTrueChange (if m then change.Answered a else change.Told a (number_of high middle v))
    go true = has
    go false = told_by_name a (number_of high middle v) named

  byte_true : (b a : ℕ) (bytes : Option (ℕ × ℕ)) (q : Asked) (sp : Spelled) (r : SearchAddress) (v : ℕ) → a ≡ b
      → (g : ℕ) × Holds w.gear g a
      → IsAsked (stage.MiddleAsked b bytes) q → ((x : Finding) → found_by r q (RandomByte a Low) (Byte v) ≡ Some x → Names w (assigned x))
      → ((x : ℕ × ℕ) → bytes ≡ Some x → sp ≡ spelled.Middle b x.0 x.1) → (bytes ≡ None → sp ≡ spelled.Nothing)
      → IsTrueChange (low_change sp a v)
  byte_true b a None q sp r v same has asked found some none = rw (none refl) has
  byte_true b a (Some x) q sp r v same has asked found some none =
      rw (some x refl, same, self b) (subst (λ n. IsTrueChange (number_told n (number_of x.0 x.1 v))) same
      (low_true a x.0 x.1 v has (found (Resolved a (number_of x.0 x.1 v)) (rw (asked, same, self b) refl))))

  pub true_change : (b : Block) (xs : List Assignment) (s : Stage) (c : Command) (now : ℕ) (drew second : Bool) (h : Answer) (bus : Bus) (r : SearchAddress)
      (q : Asked)
      → (Q : Type 0) (F : SearchAddress → Type 0) (L : SearchAddress → ℕ → Type 0) → Follows b xs s c → Fits Q F L s now drew bus → IsSearched s r → IsAsked s q
      → h ≡ heard_of (answers_of Everyone c 0 w.gear)
      → ((x : Finding) → found_by r q c h ≡ Some x → Names w (assigned x)) → ((o : Option ℕ) → c ≡ Program o → ⊥)
      → IsTrueChange (change_by_command c second h bus)
  true_change b xs s (Program o) now drew second h bus r q Q F L on fits searched asked e found other = absurd (other o refl)
  true_change b xs (stage.NumberSent n) QueryShort now drew second h bus r q Q F L on fits searched asked e found other =
      short_true r n q bus.search h fits.search searched found
  true_change b xs (stage.Programmed n a) QueryShort now drew second h bus r q Q F L on fits searched asked e found other =
      short_true r n q bus.search h fits.search searched found
  true_change b xs (stage.Hunted n last left) QueryShort now drew second h bus r q Q F L on fits searched asked e found other =
      absurd (let asks = asks_hunting n last left QueryShort on.leads_on in let no = asks.1 in cc)
  true_change b xs _ QueryShort now drew second h bus r q Q F L on fits searched asked e found other = absurd (let none = on.leads_on in cc)
  true_change b xs stage.Free (RandomByte a High) now drew second Silence bus r q Q F L on fits searched asked e found other = tt
  true_change b xs stage.Free (RandomByte a High) now drew second (Byte v) bus r q Q F L on fits searched asked e found other =
      holder_of a High (Byte v) e (λ s. cc)
  true_change b xs stage.Free (RandomByte a High) now drew second Damaged bus r q Q F L on fits searched asked e found other = tt
  true_change b xs (stage.HighAsked d x) (RandomByte a Middle) now drew second Silence bus r q Q F L on fits searched asked e found other = tt
  true_change b xs (stage.HighAsked d x) (RandomByte a Middle) now drew second (Byte v) bus r q Q F L on fits searched asked e found other =
      holder_of a Middle (Byte v) e (λ s. cc)
  true_change b xs (stage.HighAsked d x) (RandomByte a Middle) now drew second Damaged bus r q Q F L on fits searched asked e found other = tt
  true_change b xs (stage.MiddleAsked d bytes) (RandomByte a Low) now drew second Silence bus r q Q F L on fits searched asked e found other = tt
  true_change b xs (stage.MiddleAsked d bytes) (RandomByte a Low) now drew second Damaged bus r q Q F L on fits searched asked e found other = tt
  true_change b xs (stage.MiddleAsked d None) (RandomByte a Low) now drew second (Byte v) bus r q Q F L on fits searched asked e found other =
      byte_true d a None q bus.spelled r v (low_same d a None on.leads_on) (holder_of a Low (Byte v) e (λ s. cc)) asked found (λ x k. cc) (λ k. fits.spelled)
  true_change b xs (stage.MiddleAsked d (Some x)) (RandomByte a Low) now drew second (Byte v) bus r q Q F L on fits searched asked e found other =
      byte_true d a (Some x) q bus.spelled r v (low_same d a (Some x) on.leads_on) (holder_of a Low (Byte v) e (λ s. cc)) asked found
      (λ y k. fits.spelled ∙ (let same : x ≡ y = cc in ap (λ z. spelled.Middle d z.0 z.1) same)) (λ k. cc)
  true_change b xs (stage.Hunted n last left) (RandomByte a part) now drew second h bus r q Q F L on fits searched asked e found other =
      absurd (let asks = asks_hunting n last left (RandomByte a part) on.leads_on in let no = asks.1 in cc)
  true_change b xs _ (RandomByte a part) now drew second h bus r q Q F L on fits searched asked e found other = absurd (let none = on.leads_on in cc)
  true_change b xs stage.Initialised Randomise now drew second h bus r q Q F L on fits searched asked e found other = rw fits.redraw tt
  true_change b xs stage.DrawFree Randomise now drew second h bus r q Q F L on fits searched asked e found other = rw fits.redraw tt
  true_change b xs stage.RandomisedOnce Randomise now drew second h bus r q Q F L on fits searched asked e found other = rw fits.redraw tt
  true_change b xs (stage.Hunted n last left) Randomise now drew second h bus r q Q F L on fits searched asked e found other =
      absurd (let asks = asks_hunting n last left Randomise on.leads_on in let no = asks.1 in cc)
  true_change b xs _ Randomise now drew second h bus r q Q F L on fits searched asked e found other = absurd (let none = on.leads_on in cc)
  true_change b xs (stage.Hunted n last left) (Verify a) now drew second h bus r q Q F L on fits searched asked e found other =
      absurd (let asks = asks_hunting n last left (Verify a) on.leads_on in let no = asks.1 in cc)
  true_change b xs _ (Verify a) now drew second h bus r q Q F L on fits searched asked e found other = absurd (let none = on.leads_on in cc)
  true_change b xs (stage.Hunted n last left) (Other f) now drew second h bus r q Q F L on fits searched asked e found other =
      absurd (let asks = asks_hunting n last left (Other f) on.leads_on in let no = asks.1 in cc)
  true_change b xs _ (Other f) now drew second h bus r q Q F L on fits searched asked e found other = absurd (let none = on.leads_on in cc)
  true_change b xs _ _ now drew second h bus r q Q F L on fits searched asked e found other = tt
