use Rattle.std.proofs.Common.{◌≡◌, ◌∙◌, ◌⊎◌, ◌≤◌, ◌+◌, arith, ℕ, zero, suc, length, List, [], ◌∷◌, ◌++◌, Option, Some, None, Bool, Result, Ok, Err, OnOk, true}
use Rattle.std.proofs.Common.{OnErr, false, refl, ap, inl, inr, subst, sym}
use Rattle.std.proofs.lemmas.{Bool.false≢true, List.length_push}
use Rattle.std.specs.Prelude.{◌↔◌, IsTrue, IfOk, IfErr, IsErr, IsErrAnd}
use Rattle.std.specs.declared.{alloc.Global.Global, string.String.String}
use Rattle.dali_script.specs.{declared.block.Block.Block, declared.records.Record.Record, Records.Kept, Records.HasAddress}
use Rattle.dali_commissioning.specs.declared.census.Reply.TheVariants as heard
use Rattle.dali_commissioning.specs.declared.driver.DriverLink.{DriverLink}
use Rattle.dali_commissioning.specs.{Census.IsAnswered, Drivers.{Talk, talk_of, has_heard, lines_of}}
use Rattle.dali_replacement.specs.declared.{come.Come.{Come, TheVariants.Given}, refusal.ReplaceFault.ReplaceFault, swapping.Swap.Swap}
use Rattle.dali_replacement.specs.Permit.{HasLooked, IsNotLooked, IsNotConfirmed, alone, confirmed_random}
use Rattle.dali_replacement.specs.declared.confirmed.Confirmed.{Confirmed}
use Rattle.dali_commissioning.specs.{Places.{place_at, places, places_below}, declared.{census.Reply.Reply, verdict.Place.Place}}
use Rattle.dali_replacement.specs.{Standing.AreThere, Swapping.names_of, Tables.{AreGiven, IsGathered}}
use Rattle.dali_commission_said.specs.{declared.failure.Failure.Failure, declared.said.Said.Said, Failures.{fault_of, although_exchanged}}
use Rattle.dali_commission_said.specs.declared.{failure.Failure.TheVariants.NobodyAnswered, report.{Report.Report, Session.Session}}
use Rattle.dali_commission_tasks.specs.declared.tasks.Replacement.{Replacement}
use Rattle.dali_commission_stores.specs.{Calls.{Call, Look, Read}, declared.records.Seen.Seen, Lent.{IsLent, IsOpened, IsHeld, AreRead}}
use Rattle.dali_commission_stores.specs.{Settled.IsExchangedInPart, Settling.new_at}
use Rattle.dali_commission_replaced.specs.{declared.replacing.DueSwap.DueSwap, Due.{Dues, EndsDue}, Cut.{HasNotAskedOthers, IsMissing}}
use Rattle.dali_commission_replaced.specs.Replacing.{IsDue, AreAtPlaces, AreApart, AreUnannounced}
use Rattle.dali_commission_replaced.specs.Finishing.{AreFinished, AreFinishedInPart}
use Rattle.dali_commission_replaced.specs.Asking.{HasAskedOthers, HasNotConfirmed, IsNotConfirmedBy, GivesSo, is_given, IsGivenIn, GivesFirst, GivesNone}
use Rattle.dali_commission_replaced.specs.Asking.{IsNamed, HasNotGivenFirst, AreRenewed, IsNotDue, EndsCut, GivesCut, IsPlanned}
use Rattle.dali_commission_replaced.specs.Asking.{HasReplacedSo, HasNotReplacedSo, FailsSo, FailsAfter, HasNotReplaced}
use Rattle.dali_commission_replaced.proofs.Given.{given_in, err_ok, ok_same}

-- WHAT A CALL PUTS THAT FAILS

-- what was lent, if that is handed on as a failure, or something fails behind it
pub lent_badly : {K D T : Type 0} (opens : K → Type 0) (came : K → K → D → D → Result (Unit {0}) Failure → Type 0) (x y : D)
    (done : Result (Unit {0}) Failure) (r : Result T Failure) → IsLent opens came x y done → IfErr r (λ e. IsLent opens came x y (Err e))
lent_badly opens came x y done (Ok out) lent = tt
lent_badly opens came x y done (Err e) (inl (err, same)) = inl (refl, same)
lent_badly opens came x y done (Err e) (inr (from, to, did, opened, does, well)) = inr (from, to, did, opened, does, tt)

with_same : {A B F : Type 0} (at : F) → A ⊎ B → (A × (at ≡ at)) ⊎ ((at ≡ at) × B)
with_same at (inl it) = inl (it, refl)
with_same at (inr it) = inr (refl, it)

abbrev failure_or : {T : Type 0} → Failure → Result T Failure → Failure
failure_or e (Ok it) = e
failure_or e (Err failure) = failure

pub err_same : {T : Type 0} (a b : Failure) (r : Result T Failure) → r ≡ Err a → failure_or a r ≡ a
err_same a b r is = ap (λ it. failure_or a it) is

-- sixty-four short addresses stand
counted : (n : ℕ) (k : Kept) (others : List Block) (replies : List Reply) → length (places_below n k others replies) ≡ n
unfolding places_below
counted zero k others replies = refl
counted (suc n) k others replies =
    let more : length (places_below n k others replies ++ place_at k others replies n ∷ []) ≡ length (places_below n k others replies) + 1 =
    length_push (places_below n k others replies) (place_at k others replies n) in
    omega (arith, more, counted n k others replies)

pub few : (ps : List Place) (k : Kept) (replies : List Reply) → ps ≡ places k [] replies → length ps ≤ 64
few ps k replies is = omega (arith, ap (λ l. length l) is, counted 64 k [] replies)

pub missing : (a : ℕ) (heard : Bool) (ps qs : List Place) (failure : Failure) (before after : Report) → heard ≡ true → ps ≡ qs
    → IsMissing true a ps failure before after → IsMissing heard a qs failure before after
missing a heard ps qs failure before after is same it =
    subst (λ h. IsMissing h a qs failure before after) (sym is) (subst (λ l. IsMissing true a l failure before after) same it)

pub missing_unheard : (a : ℕ) (heard : Bool) (ps : List Place) (before after : Report) → after ≡ before → heard ≡ false
    → IsMissing heard a ps NobodyAnswered before after
missing_unheard a heard ps before after same is = subst (λ h. IsMissing h a ps NobodyAnswered before after) (sym is) (refl, same)

-- one is missing that is not known to be gone
pub not_there : (there : Bool) (gone known : List ℕ) (ps qs : List Place) → IsTrue there ↔ AreThere 0 gone ps → there ≡ false → gone ≡ known → ps ≡ qs
    → AreThere 0 known qs → ⊥
not_there there gone known ps qs is none same stand are =
    false≢true (sym none ∙ is.1 (subst (λ g. AreThere 0 g ps) (sym same) (subst (λ l. AreThere 0 known l) (sym stand) are)))

-- what holds of what ended well, if that is handed on
pub done_well : {T : Type 0} (P : Type 0) (done said : Result (Unit {0}) Failure) (out : Unit {0}) (r : Result T Failure) → said ≡ done → said ≡ Ok out
    → OnOk done P → OnOk r P
done_well P done said out (Ok k) same is it = subst (λ d. OnOk d P) (sym same ∙ is) it
done_well P done said out (Err e) same is it = tt

module _ {F K : Type 0} (kept_of : K → Kept) (block_of : K → Block) (made : F → F → Call → Type 0) (saw : F → Look → Type 0)
    (opens : F → Seen → K → Type 0) where
  -- no exchange is due: the new gear is not heard, or something fails once it was
  pub not_heard : {T : Type 0} (a asked : ℕ) (names : List (String Global)) (all : List Kept) (first : Kept) (given at : F)
      (none news tabled : List Kept) (x y : Talk) (why : Failure) (r : Result T Failure) → IsErrAnd r (λ e. e ≡ why) → tabled ≡ news
      → none ≡ [] → AreRenewed kept_of block_of made saw opens first names all given at none news
      → (w : ReplaceFault) × (line : ℕ) × (why ≡ fault_of a w line) × IsNotConfirmed asked tabled w x y → asked ≡ a
      → IfErr r (λ e. IsNotDue kept_of block_of made saw opens a names all first given e x y)
  not_heard a asked names all first given at none news tabled x y why (Ok it) fails same none_is renewed cut is = tt
  not_heard a asked names all first given at none news tabled x y why (Err e) fails same none_is renewed (w, line, so, not) is = inr (
    at,
    news,
    subst (λ l. AreRenewed kept_of block_of made saw opens first names all given at l news) none_is renewed,
    inl (
      w,
      line,
      subst (λ f. f ≡ fault_of a w line) (sym fails) so,
      subst (λ ts. IsNotConfirmed a ts w x y) same (subst (λ n. IsNotConfirmed n tabled w x y) is not),
    ),
  )

  pub not_due : {T : Type 0} (a asked : ℕ) (names : List (String Global)) (all : List Kept) (first : Kept) (given at : F)
      (none news tabled : List Kept) (x y : Talk) (random : ℕ) (r : Result T Failure) → tabled ≡ news
      → none ≡ [] → AreRenewed kept_of block_of made saw opens first names all given at none news → AreGiven asked random tabled
      → IsAnswered asked (heard.Random random) x y → asked ≡ a → IfErr r (λ e. IsNotDue kept_of block_of made saw opens a names all first given e x y)
  not_due a asked names all first given at none news tabled x y random (Ok it) same none_is renewed has answered is = tt
  not_due a asked names all first given at none news tabled x y random (Err e) same none_is renewed has answered is = inr (
    at,
    news,
    subst (λ l. AreRenewed kept_of block_of made saw opens first names all given at l news) none_is renewed,
    inr (
      random,
      subst (λ ts. AreGiven a random ts) same (subst (λ n. AreGiven n random tabled) is has),
      subst (λ n. IsAnswered n (heard.Random random) x y) is answered,
    ),
  )

  pub ends_due : {T : Type 0} (a : ℕ) (names : List (String Global)) (all : List Kept) (first : Kept) (given : F) (x y : Talk) (r : Result T Failure)
      → HasAddress first.enrolled a → IfErr r (λ e. IsNotDue kept_of block_of made saw opens a names all first given e x y)
      → IfErr r (λ e. EndsCut kept_of block_of made saw opens a names all first given e x y)
  ends_due a names all first given x y (Ok it) has cut = tt
  ends_due a names all first given x y (Err e) has cut = inr (has, cut)

module _ {F K R W : Type 0} (is_up is_sound : K → Type 0) (holds : K → List Record → Type 0) (kept_of : K → Kept) (block_of : K → Block)
    (saw : F → Look → Type 0) (opens : F → Seen → K → Type 0) (remaining : R → Option (List ℕ)) (contents : W → Option (List ℕ)) (told : Said → Type 0)
  where
    -- the address is not given in the giver's new file: gear were looked for, or it was lent
    pub not_looked : (a asked : ℕ) (come : Come) (table : Kept) (stores : F) (name : List ℕ) (failure : Failure) (x y : DriverLink R W)
        (why : ReplaceFault) (line : ℕ) → failure ≡ fault_of a why line
        → IsNotLooked asked table come why (talk_of remaining contents x) (talk_of remaining contents y) → asked ≡ a
        → GivesNone is_up is_sound holds kept_of block_of saw opens remaining contents told a come table stores name failure x y
    not_looked a asked come table stores name failure x y why line is not same = inl (
      why,
      line,
      is,
      subst (λ n. IsNotLooked n table come why (talk_of remaining contents x) (talk_of remaining contents y)) same not,
    )

    pub given_badly : {T : Type 0} (a asked permitted : ℕ) (block : Block) (come : Come) (table others : Kept) (stores : F) (name : List ℕ)
        (x mid y : DriverLink R W) (r : Result T Failure) → permitted ≡ asked → table ≡ others → block ≡ alone permitted
        → HasLooked asked others come (talk_of remaining contents x) (talk_of remaining contents mid)
        → IfErr r (λ e. IsLent (IsOpened block_of saw opens stores (new_at name) block)
        (λ from to p q done. GivesSo is_up is_sound holds kept_of (block_of from) told permitted table to
        (talk_of remaining contents p) (talk_of remaining contents q) done) mid y (Err e)) → asked ≡ a
        → IfErr r (λ e. GivesNone is_up is_sound holds kept_of block_of saw opens remaining contents told a come others stores name e x y)
    given_badly a asked permitted block come table others stores name x mid y (Ok it) is same of looked lent at = tt
    given_badly a asked permitted block come table others stores name x mid y (Err e) is same of looked lent at =
        inr (subst (λ n. IsGivenIn is_up is_sound holds kept_of block_of saw opens remaining contents told n come others stores name x y (Err e)) at
        (given_in is_up is_sound holds kept_of block_of saw opens remaining contents told asked permitted block come table others stores name x mid y (Err e)
        is same of looked lent))

    pub not_first : {T : Type 0} (a asked : ℕ) (come : Come) (table : Kept) (names : List (String Global)) (giver : ℕ) (stores : F) (name : List ℕ)
        (x y : DriverLink R W) (r : Result T Failure) → IsNamed names giver name → is_given come ≡ false
        → (asked ≡ a → IfErr r (λ e. GivesNone is_up is_sound holds kept_of block_of saw opens remaining contents told a come table stores name e x y))
        → asked ≡ a
        → IfErr r (λ e. HasNotGivenFirst is_up is_sound holds kept_of block_of saw opens remaining contents told a come table names giver stores e x y)
    not_first a asked come table names giver stores name x y (Ok it) named none cut at = tt
    not_first a asked come table names giver stores name x y (Err e) named none cut at = inr (name, named, none, cut at)

module _ {F K R W : Type 0} (is_up is_sound : K → Type 0) (holds : K → List Record → Type 0) (kept_of : K → Kept) (block_of : K → Block)
    (made : F → F → Call → Type 0) (saw : F → Look → Type 0) (opens : F → Seen → K → Type 0) (remaining : R → Option (List ℕ))
    (contents : W → Option (List ℕ)) (told : Said → Type 0) (wanted : Replacement) where
  -- A REPLACEMENT FAILS: the others are not all there,
  pub without_others : {T : Type 0} (names : List (String Global)) (all : List Kept) (was : F) (before after : Report) (x y : DriverLink R W)
      (why : Failure) (r : Result T Failure) (plan : IsPlanned made saw told wanted names all was) → IsErrAnd r (λ e. e ≡ why)
      → HasNotAskedOthers (has_heard y) wanted.short plan.come plan.table wanted.missing.items why before after
      (talk_of remaining contents x) (talk_of remaining contents y)
      → IfErr r (λ e. ((y ≡ x) × (after ≡ before))
      ⊎ HasNotReplacedSo is_up is_sound holds kept_of block_of made saw opens remaining contents told wanted names all e was before after x y)
  without_others names all was before after x y why (Ok it) plan fails cut = tt
  without_others names all was before after x y why (Err e) plan fails cut = inr (record {
    plan = plan;
    puts =
        inl (subst (λ f. HasNotAskedOthers (has_heard y) wanted.short plan.come plan.table wanted.missing.items f before after
        (talk_of remaining contents x) (talk_of remaining contents y)) (sym fails) cut);
  })

  -- or the address is not given, or what follows fails
  gives_cut : {T : Type 0} (names : List (String Global)) (all : List Kept) (was : F) (before after : Report) (x mid y : DriverLink R W)
      (r : Result T Failure) (plan : IsPlanned made saw told wanted names all was) → after ≡ before
      → HasAskedOthers wanted.short plan.come plan.table wanted.missing.items (talk_of remaining contents x) (talk_of remaining contents mid)
      → IfErr r (λ e. GivesCut is_up is_sound holds kept_of block_of made saw opens remaining contents told wanted.short plan.come plan.table names all
      plan.giver plan.stores e mid y)
      → IfErr r (λ e. ((y ≡ x) × (after ≡ before))
      ⊎ HasNotReplacedSo is_up is_sound holds kept_of block_of made saw opens remaining contents told wanted names all e was before after x y)
  gives_cut names all was before after x mid y (Ok it) plan none asked cut = tt
  gives_cut names all was before after x mid y (Err e) plan none asked cut = inr (record { plan = plan; puts = inr (mid, asked, cut, none) })

  first_of : (names : List (String Global)) (giver a : ℕ) (come came : Come) (table others : Kept) (stores : F) (e : Failure) (x y : DriverLink R W)
      → came ≡ come → others ≡ table
      → HasNotGivenFirst is_up is_sound holds kept_of block_of saw opens remaining contents told a came others names giver stores e x y
      → HasNotGivenFirst is_up is_sound holds kept_of block_of saw opens remaining contents told a come table names giver stores e x y
  first_of names giver a come came table others stores e x y same of cut =
      subst (λ t. HasNotGivenFirst is_up is_sound holds kept_of block_of saw opens remaining contents told a come t names giver stores e x y) of
      (subst (λ c. HasNotGivenFirst is_up is_sound holds kept_of block_of saw opens remaining contents told a c others names giver stores e x y) same cut)

  pub without_first : {T : Type 0} (names : List (String Global)) (all : List Kept) (came : Come) (others : Kept) (was : F) (was_so after : Report)
      (x before y : DriverLink R W) (why : Failure) (did : Result Kept Failure) (r : Result T Failure) (plan : IsPlanned made saw told wanted names all was)
      → after ≡ was_so → IsErrAnd r (λ e. e ≡ why) → did ≡ Err why
      → HasAskedOthers wanted.short plan.come plan.table wanted.missing.items (talk_of remaining contents x) (talk_of remaining contents before)
      → came ≡ plan.come → others ≡ plan.table
      → IfErr did (λ e. HasNotGivenFirst is_up is_sound holds kept_of block_of saw opens remaining contents told wanted.short came others names
      plan.giver plan.stores e before y)
      → IfErr r (λ e. ((y ≡ x) × (after ≡ was_so))
      ⊎ HasNotReplacedSo is_up is_sound holds kept_of block_of made saw opens remaining contents told wanted names all e was was_so after x y)
  without_first names all came others was was_so after x before y why did (Ok it) plan none fails is asked same of cut = tt
  without_first names all came others was was_so after x before y why did (Err e) plan none fails is asked same of cut =
      gives_cut {T = Kept} names all was was_so after x before y (Err e) plan none asked
      (inl (first_of names plan.giver wanted.short plan.come came plan.table others plan.stores
      e before y same of
      (subst (λ f. HasNotGivenFirst is_up is_sound holds kept_of block_of saw opens remaining contents told wanted.short came others names
      plan.giver plan.stores f before y) (sym fails)
      (subst (λ d. IfErr d (λ f. HasNotGivenFirst is_up is_sound holds kept_of block_of saw opens remaining contents told wanted.short came others names
      plan.giver plan.stores f before y)) is cut))))

  pub ends_cut : {T : Type 0} (names : List (String Global)) (all : List Kept) (a : ℕ) (came : Come) (others : Kept) (was given : F)
      (was_so noted : Report) (x before after y : DriverLink R W) (first : Kept) (r : Result T Failure)
      (plan : IsPlanned made saw told wanted names all was) → noted ≡ was_so
      → HasAskedOthers wanted.short plan.come plan.table wanted.missing.items (talk_of remaining contents x) (talk_of remaining contents before)
      → a ≡ wanted.short → came ≡ plan.come → others ≡ plan.table
      → (name : List ℕ) × IsNamed names plan.giver name × saw given (Read (new_at name) first)
      × GivesFirst is_up is_sound holds kept_of block_of made saw opens remaining contents told a came others name plan.stores given before after
      → IfErr r (λ e. EndsCut kept_of block_of made saw opens wanted.short names all first given e
      (talk_of remaining contents after) (talk_of remaining contents y))
      → IfErr r (λ e. ((y ≡ x) × (noted ≡ was_so))
      ⊎ HasNotReplacedSo is_up is_sound holds kept_of block_of made saw opens remaining contents told wanted names all e was was_so noted x y)
  ends_cut names all a came others was given was_so noted x before after y first (Ok it) plan none asked short same of gives cut = tt
  ends_cut names all a came others was given was_so noted x before after y first (Err e) plan none asked short same of (name, named, read, gave) cut =
      gives_cut {T = Kept} names all was was_so noted x before y (Err e) plan none asked (inr (
        name,
        named,
        given,
        after,
        subst (λ t. GivesFirst is_up is_sound holds kept_of block_of made saw opens remaining contents told wanted.short plan.come t name
            plan.stores given before after) of
            (subst (λ c. GivesFirst is_up is_sound holds kept_of block_of made saw opens remaining contents told wanted.short c others name
            plan.stores given before after) same
            (subst (λ n. GivesFirst is_up is_sound holds kept_of block_of made saw opens remaining contents told n came others name
            plan.stores given before after) short gave)),
        first,
        read,
        cut,
      ))

  -- so it is while the records are held
  pub unput : (names : List (String Global)) (all : List Kept) (was at : F) (x y : Session R W) (r : Result DueSwap Failure) → IsErr r → y ≡ x → at ≡ was
      → Dues is_up is_sound holds kept_of block_of made saw opens remaining contents told wanted names all was at x y r
  unput names all was at x y (Ok due) fails same stays = absurd (false≢true fails)
  unput names all was at x y (Err e) fails same stays = inl (same, stays)

  dues_so : (names : List (String Global)) (all : List Kept) (was at : F) (x y : DriverLink R W) (before mid after : Report) (r : Result DueSwap Failure)
      → AreUnannounced saw was names → IfOk r (IsDue saw at wanted.short names all)
      → IfOk r (λ due. HasReplacedSo is_up is_sound holds kept_of block_of made saw opens remaining contents told wanted names all due.news.items
      (confirmed_random due.confirmed) was at x y) → IfOk r (λ _. mid ≡ before)
      → IfErr r (λ e. ((y ≡ x) × (mid ≡ before))
      ⊎ HasNotReplacedSo is_up is_sound holds kept_of block_of made saw opens remaining contents told wanted names all e was before mid x y)
      → after ≡ record mid { frames = lines_of y }
      → Dues is_up is_sound holds kept_of block_of made saw opens remaining contents told wanted names all was at
      (record { driver = x; report = before }) (record { driver = y; report = after }) r
  dues_so names all was at x y before mid after (Ok due) bare is so none cut noted =
      (bare, is, so, noted ∙ ap (λ (r : Report). record r { frames = lines_of y }) none)
  dues_so names all was at x y before mid after (Err e) bare is so none (inl (same, unnoted)) noted =
      inr (bare, inl (same, noted ∙ ap (λ (r : Report). record r { frames = lines_of y }) unnoted))
  dues_so names all was at x y before mid after (Err e) bare is so none (inr cut) noted = inr (bare, inr (mid, cut, noted))

  pub dues_noted : (names : List (String Global)) (all : List Kept) (was at : F) (x y : DriverLink R W) (before mid after : Report)
      (gave r : Result DueSwap Failure) → r ≡ gave
      → AreUnannounced saw was names → IfOk gave (IsDue saw at wanted.short names all)
      → IfOk gave (λ due. HasReplacedSo is_up is_sound holds kept_of block_of made saw opens remaining contents told wanted names all due.news.items
      (confirmed_random due.confirmed) was at x y) → IfOk gave (λ _. mid ≡ before)
      → IfErr gave (λ e. ((y ≡ x) × (mid ≡ before))
      ⊎ HasNotReplacedSo is_up is_sound holds kept_of block_of made saw opens remaining contents told wanted names all e was before mid x y)
      → after ≡ record mid { frames = lines_of y }
      → Dues is_up is_sound holds kept_of block_of made saw opens remaining contents told wanted names all was at
      (record { driver = x; report = before }) (record { driver = y; report = after }) r
  dues_noted names all was at x y before mid after gave r same bare is so none cut noted =
      rw same (dues_so names all was at x y before mid after gave bare is so none cut noted)

  -- and of the files of records
  fails_held : (began : F → F → Call → Type 0) (H : Type 0) (names : List (String Global)) (was now : F) (x y : Session R W) (failure : Failure)
      → IsHeld {H = H} saw names (Dues is_up is_sound holds kept_of block_of made saw opens remaining contents told wanted names)
      (λ _ from to due r. EndsDue made began saw from to due r) was now x y (Err failure)
      → ((y ≡ x) × (now ≡ was)) ⊎ FailsAfter is_up is_sound holds kept_of block_of made began saw opens remaining contents told wanted names failure None was
      now x y
  fails_held began H names was now x y failure (inl (err, same, besides)) = inl (besides, same)
  fails_held began H names was now x y failure (inr (all, held, at, Ok due, (bare, is, so, noted), inl (fails, same))) = absurd (err_ok _ _ (sym fails))
  fails_held began H names was now x y failure (inr (all, held, at, Ok due, (bare, is, so, noted), inr (did, done, inl same))) =
      inr (all, held, bare, inr (due, at, is, so, inl same, noted))
  fails_held began H names was now x y failure (inr (all, held, at, Ok due, (bare, is, so, noted), inr (did, done, inr (by, part)))) =
      inr (
        all,
        held,
        bare,
        inr (
          due,
          at,
          is,
          so,
          inr (subst (λ (d : DueSwap). IsExchangedInPart made began saw d.swap at now) (sym (ok_same due did (Ok due) done)) part),
          noted,
        ),
      )
  fails_held began H names was now x y failure (inr (all, held, at, Err e, inl (same, stays), inl (fails, after))) = inl (same, after ∙ stays)
  fails_held began H names was now x y failure (inr (all, held, at, Err e, inl same, inr (did, done, ends))) = absurd (err_ok _ _ done)
  fails_held began H names was now x y failure (inr (all, held, at, Err e, inr (bare, cut), inr (did, done, ends))) = absurd (err_ok _ _ done)
  fails_held began H names was now x y failure (inr (all, held, at, Err e, inr (bare, cut), inl (fails, same))) =
      inr (
        all,
        held,
        bare,
        inl (subst (λ (f : Failure). FailsSo is_up is_sound holds kept_of block_of made saw opens remaining contents told wanted
            names all f was x y) (err_same failure e (Err e) fails) cut),
      )

  after_all : (began : F → F → Call → Type 0) (records names apart ended : List (String Global)) (earlier : Option Swap) (was at now : F) (x y : Session R W)
      (failure : Failure)
      → AreAtPlaces saw was records [] names → apart ≡ names → AreApart apart → ended ≡ names → AreFinished made saw told wanted.short ended was at earlier
      → ((y ≡ x) × (now ≡ at))
      ⊎ FailsAfter is_up is_sound holds kept_of block_of made began saw opens remaining contents told wanted names failure earlier at now x y
      → HasNotReplaced is_up is_sound holds kept_of block_of made began saw opens remaining contents told wanted records failure was now x y
  after_all began records names apart ended earlier was at now x y failure places apart_is are_apart ended_is finished (inl (same, stays)) = inl (
    same,
    inr (
      names,
      places,
      subst (λ (l : List (String Global)). AreApart l) apart_is are_apart,
      inr (
        earlier,
        subst (λ (z : F). AreFinished made saw told wanted.short names was z earlier) (sym stays)
            (subst (λ (l : List (String Global)). AreFinished made saw told wanted.short l was at earlier) ended_is finished),
      ),
    ),
  )
  after_all began records names apart ended earlier was at now x y failure places apart_is are_apart ended_is finished (inr fails) = inr (
    names,
    at,
    earlier,
    places,
    subst (λ (l : List (String Global)). AreApart l) apart_is are_apart,
    subst (λ (l : List (String Global)). AreFinished made saw told wanted.short l was at earlier) ended_is finished,
    fails,
  )

  -- An earlier exchange fails, or the files cannot be read then.
  pub stopped : {T : Type 0} (began : F → F → Call → Type 0) (records names apart ended : List (String Global)) (was now : F) (x : Session R W)
      (why : Failure) (did : Result (Option Swap) Failure) (r : Result T Failure) → did ≡ Err why → AreAtPlaces saw was records [] names → apart ≡ names
      → AreApart apart → ended ≡ names → OnErr did (AreFinishedInPart made began saw told wanted.short ended was now)
      → IfErr r (λ e. HasNotReplaced is_up is_sound holds kept_of block_of made began saw opens remaining contents told wanted records e was now x x)
  stopped began records names apart ended was now x why did (Ok it) fails places apart_is are_apart ended_is left = tt
  stopped began records names apart ended was now x why did (Err e) fails places apart_is are_apart ended_is left = inl (
    refl,
    inr (
      names,
      places,
      subst (λ (l : List (String Global)). AreApart l) apart_is are_apart,
      inl (subst (λ (l : List (String Global)). AreFinishedInPart made began saw told wanted.short l was now) ended_is
          (subst (λ (d : Result (Option Swap) Failure). OnErr d (AreFinishedInPart made began saw told wanted.short ended was now)) fails left)),
    ),
  )

  pub unread : {T : Type 0} (began : F → F → Call → Type 0) (records names apart ended : List (String Global)) (earlier : Option Swap) (was at : F)
      (x : Session R W) (r : Result T Failure) → AreAtPlaces saw was records [] names → apart ≡ names → AreApart apart → ended ≡ names
      → AreFinished made saw told wanted.short ended was at earlier
      → IfErr r (λ e. HasNotReplaced is_up is_sound holds kept_of block_of made began saw opens remaining contents told wanted records e was at x x)
  unread began records names apart ended earlier was at x (Ok it) places apart_is are_apart ended_is finished = tt
  unread began records names apart ended earlier was at x (Err e) places apart_is are_apart ended_is finished =
      after_all began records names apart ended earlier was at at x x e places apart_is are_apart ended_is finished (inl (refl, refl))

  pub not_replaced : {T : Type 0} (began : F → F → Call → Type 0) (H : Type 0) (records names apart ended meant held : List (String Global))
      (earlier : Option Swap) (was at now : F) (x y : Session R W) (why : Failure) (done : Result DueSwap Failure) (r : Result T Failure)
      → IsErrAnd r (λ e. e ≡ why) → done ≡ Err why
      → AreAtPlaces saw was records [] names → apart ≡ names → AreApart apart → ended ≡ names → AreFinished made saw told wanted.short ended was at earlier
      → earlier ≡ None → meant ≡ names → held ≡ names
      → IsHeld {H = H} saw held (Dues is_up is_sound holds kept_of block_of made saw opens remaining contents told wanted meant)
      (λ _ from to due r. EndsDue made began saw from to due r) at now x y done
      → IfErr r (λ e. HasNotReplaced is_up is_sound holds kept_of block_of made began saw opens remaining contents told wanted records e was now x y)
  not_replaced began H records names apart ended meant held earlier was at now x y why done (Ok it) fails is places apart_is are_apart ended_is finished none
      meant_is held_is holding =
      tt
  not_replaced began H records names apart ended meant held earlier was at now x y why done (Err e) fails is places apart_is are_apart ended_is finished none
      meant_is held_is holding =
      let dues : List (String Global) → List Kept → F → F → Session R W → Session R W → Result DueSwap Failure → Type 0 =
      λ l. Dues is_up is_sound holds kept_of block_of made saw opens remaining contents told wanted l in
      let ends : H → F → F → DueSwap → Result DueSwap Failure → Type 0 = λ _ from to due r. EndsDue made began saw from to due r in
      let hold_all : IsHeld {H = H} saw names (dues names) ends at now x y (Err e) =
      subst (λ (f : Failure). IsHeld {H = H} saw names (dues names) ends at now x y (Err f)) (sym fails)
      (subst (λ (d : Result DueSwap Failure). IsHeld {H = H} saw names (dues names) ends at now x y d) is
      (subst (λ (l : List (String Global)). IsHeld {H = H} saw names (dues l) ends at now x y done) meant_is
      (subst (λ (l : List (String Global)). IsHeld {H = H} saw l (dues meant) ends at now x y done) held_is holding))) in
      after_all began records names apart ended None was at now x y e places apart_is are_apart ended_is
      (subst (λ (o : Option Swap). AreFinished made saw told wanted.short ended was at o) none finished)
      (fails_held began H names at now x y e hold_all)

  -- or of those whose exchange was brought to its end
  pub not_confirmed : {T : Type 0} (began : F → F → Call → Type 0) (records names apart ended : List (String Global)) (earlier : Option Swap) (swap : Swap)
      (was at : F) (x y : Session R W) (why : Failure) (did : Result Confirmed Failure) (r : Result T Failure) → IsErrAnd r (λ e. e ≡ why)
      → did ≡ Err why → AreAtPlaces saw was records [] names → apart ≡ names → AreApart apart → ended ≡ names
      → AreFinished made saw told wanted.short ended was at earlier → earlier ≡ Some swap
      → IfErr did (λ e. (y ≡ x) ⊎ IsNotConfirmedBy saw remaining contents wanted.short wanted.missing.items at (names_of swap) e x y)
      → IfErr r (λ e. HasNotReplaced is_up is_sound holds kept_of block_of made began saw opens remaining contents told wanted records e was at x y)
  not_confirmed began records names apart ended earlier swap was at x y why did (Ok it) fails is places apart_is are_apart ended_is finished some cut = tt
  not_confirmed began records names apart ended earlier swap was at x y why did (Err e) fails is places apart_is are_apart ended_is finished some cut =
      let cut_so : (y ≡ x) ⊎ IsNotConfirmedBy saw remaining contents wanted.short wanted.missing.items at (names_of swap) e x y =
      subst (λ (f : Failure). (y ≡ x) ⊎ IsNotConfirmedBy saw remaining contents wanted.short wanted.missing.items at (names_of swap) f x y) (sym fails)
      (subst (λ (d : Result Confirmed Failure). IfErr d (λ f. (y ≡ x)
      ⊎ IsNotConfirmedBy saw remaining contents wanted.short wanted.missing.items at (names_of swap) f x y)) is cut) in
      after_all began records names apart ended (Some swap) was at at x y e places apart_is are_apart ended_is
      (subst (λ (o : Option Swap). AreFinished made saw told wanted.short ended was at o) some finished) (with_same at cut_so)

-- AN EXCHANGE THAT WAS BROUGHT TO ITS END IS NOT CONFIRMED
pub others_away : {T : Type 0} (heard : Bool) (a : ℕ) (gone : List ℕ) (tables : List Kept) (table : Kept) (given : ℕ) (before after : Report)
    (x y : Talk) (why : Failure) (r : Result T Failure) → IsErrAnd r (λ e. e ≡ why) → IsGathered a tables table
    → HasNotAskedOthers heard a (Given given) table gone why before after x y
    → IfErr r (λ e. HasNotConfirmed heard a gone tables e before after x y)
others_away heard a gone tables table given before after x y why (Ok it) fails gathered cut = tt
others_away heard a gone tables table given before after x y why (Err e) fails gathered cut =
    inr (table, given, gathered, inl (subst (λ f. HasNotAskedOthers heard a (Given given) table gone f before after x y) (sym fails) cut))

pub last_away : {T : Type 0} (heard : Bool) (a at : ℕ) (gone : List ℕ) (tables : List Kept) (table : Kept) (given : ℕ) (before after : Report)
    (x mid y : Talk) (r : Result T Failure) → at ≡ a → after ≡ before → IsGathered a tables table → HasAskedOthers a (Given given) table gone x mid
    → IfErr r (λ e. (why : ReplaceFault) × (line : ℕ) × (e ≡ fault_of a why line) × IsNotConfirmed at tables why mid y)
    → IfErr r (λ e. HasNotConfirmed heard a gone tables e before after x y)
last_away heard a at gone tables table given before after x mid y (Ok it) is none gathered asked cut = tt
last_away heard a at gone tables table given before after x mid y (Err e) is none gathered asked (why, line, so, not) =
    inr (table, given, gathered, inr (mid, asked, (why, line, so, subst (λ n. IsNotConfirmed n tables why mid y) is not), none))

pub confirmed_badly : {F D R W : Type 0} (saw : F → Look → Type 0) (remaining : R → Option (List ℕ)) (contents : W → Option (List ℕ)) (a : ℕ)
    (gone : List ℕ) (stores : F) (names : List (String Global)) (tables read : List Kept) (x y : DriverLink R W) (before mid after : Report)
    (why failed : Failure) (did noted : Result D Failure) → why ≡ although_exchanged failed → noted ≡ Err failed → noted ≡ did → read ≡ tables
    → AreRead saw stores names [] tables
    → IfErr did (λ e. HasNotConfirmed (has_heard y) a gone read e before mid (talk_of remaining contents x) (talk_of remaining contents y))
    → after ≡ record mid { frames = lines_of y }
    → IsNotConfirmedBy saw remaining contents a gone stores names why (record { driver = x; report = before }) (record { driver = y; report = after })
confirmed_badly {D = D} saw remaining contents a gone stores names tables read x y before mid after why failed did noted is err same same_read are cut counts =
    let not : Result D Failure → List Kept → Type 0 =
    λ h ts. IfErr h (λ f. HasNotConfirmed (has_heard y) a gone ts f before mid (talk_of remaining contents x) (talk_of remaining contents y)) in (
      tables,
      failed,
      mid,
      are,
      subst (λ h. not h tables) err (subst (λ h. not h tables) (sym same) (subst (λ ts. not did ts) same_read cut)),
      is,
      counts,
    )
