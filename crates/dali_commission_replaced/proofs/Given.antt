use Rattle.std.proofs.Common.{◌≡◌, ◌∙◌, ℕ, List, [], ◌∷◌, ◌++◌, Option, Some, None, Result, Ok, Err, OnOk, refl, ap, inl, inr, subst, sym}
use Rattle.std.proofs.lemmas.Bool.{false≢true}
use Rattle.std.specs.Prelude.{IfOk, IfErr, IsErr, is_ok, map, string_bytes}
use Rattle.std.specs.declared.{alloc.Global.Global, string.String.String}
use Rattle.dali_script.specs.{declared.block.Block.Block, declared.records.Record.Record, Records.Kept, Records.HasAddress}
use Rattle.dali_commissioning.specs.declared.census.Reply.TheVariants as heard
use Rattle.dali_commissioning.specs.declared.{conducting.PassEnd.PassEnd, driver.DriverLink.DriverLink}
use Rattle.dali_commissioning.specs.{Census.IsAnswered, Drivers.{Talk, talk_of, lines_of}, Runs.IsRead}
use Rattle.dali_replacement.specs.declared.come.Come.{Come}
use Rattle.dali_replacement.specs.{Permit.{HasGiven, HasLooked, alone, confirmed_at, confirmed_random}, Tables.{IsComplete, IsGathered}}
use Rattle.dali_replacement.specs.{declared.swapping.Swap.Swap, Swapping.{address_of, names_of, number_of, texts_of}}
use Rattle.dali_commission_said.specs.declared.{failure.Failure.Failure, progress.Aim.Aim, report.{Report.Report, Session.Session}, said.Said.Said}
use Rattle.dali_commission_said.specs.{Reports.heard_of, Said.{AreTold, WhySaid, heard_said}}
use Rattle.dali_commission_tasks.specs.declared.tasks.Replacement.{Replacement}
use Rattle.dali_commission_stores.specs.{Calls.{Call, Look, Read}, declared.records.Seen.Seen, Settling.new_at}
use Rattle.dali_commission_stores.specs.{Keeping.AreFree, Lent.{IsLent, IsOpened, IsHeld, AreRead}, Settled.IsExchanged}
use Rattle.dali_commission_asked.specs.{declared.ending.AtLast.AtLast, Ending.{HasAskedAtLast, pass_at_last}}
use Rattle.dali_commission_replaced.specs.{declared.replacing.DueSwap.DueSwap, Due.{Dues, EndsDue}}
use Rattle.dali_commission_replaced.specs.Replacing.{IsGiver, FirstUnknown, HasCome, AreAsideIf, AreAtPlaces, AreApart}
use Rattle.dali_commission_replaced.specs.Finishing.{AreFinished}
use Rattle.dali_commission_replaced.specs.Asking.{HasAskedOthers, given_as, HasGivenSo, GivesSo, IsGivenIn, GivesFirst, IsNamed, IsRenewed, AreRenewed}
use Rattle.dali_commission_replaced.specs.Asking.{IsPlanned, HasReplacedSo, HasReplacedAnew, HasReplaced, first_table, NotesFirst, IsConfirmed}
use Rattle.dali_commission_replaced.specs.Asking.{HasNotReplaced, IsReplacement}
use Rattle.dali_commission_replaced.specs.Tellings.{ConfirmedTold}

pub err_ok : {T : Type 0} (e : Failure) (it : T) → Err e ≡ Ok it → ⊥
err_ok e it is = false≢true (ap (λ r. is_ok r) is)

abbrev pub value_or : {T : Type 0} → T → Result T Failure → T
value_or a (Ok it) = it
value_or a (Err e) = a

pub ok_same : {T : Type 0} (a b : T) (r : Result T Failure) → r ≡ Ok b → value_or a r ≡ b
ok_same a b r is = ap (λ it. value_or a it) is

-- THE ADDRESS WAS GIVEN, and that was said; or it was given, and the records could not be read then.
module _ {S : Type 0} (is_up is_sound : S → Type 0) (holds : S → List Record → Type 0) (kept_of : S → Kept) (block : Block) (told : Said → Type 0) where
  gives_so : (a : ℕ) (table : Kept) (keep : S) (x y : Talk) (r : Result (Unit {0}) Failure)
      → HasGivenSo is_up is_sound holds kept_of block told a table keep x y r → GivesSo is_up is_sound holds kept_of block told a table keep x y r
  gives_so a table keep x y (Ok done) it = it
  gives_so a table keep x y (Err e) it = inl it

  pub given_so : (a : ℕ) (table : Kept) (mid keep : S) (x at y : Talk) (pass said : PassEnd) (after : Kept) (of : Block) (last : AtLast) (aim : Aim)
      (lines : List Said) (r : Result (Unit {0}) Failure) → HasGiven is_up is_sound holds kept_of block a table mid x at pass
      → IsRead is_up is_sound holds of mid keep after → HasAskedAtLast pass after.enrolled last at y → said ≡ pass_at_last pass last
      → WhySaid (heard_said (heard_of said.heard)) said after aim lines → AreTold told lines → r ≡ given_as said.ended last.is_there
      → GivesSo is_up is_sound holds kept_of block told a table keep x y r
  given_so a table mid keep x at y pass said after of last aim lines r gave reads asked is why tells so = gives_so a table keep x y r (record {
    pass = pass;
    mid = mid;
    at = at;
    gave = gave;
    after = after;
    of = of;
    reads = reads;
    last = last;
    asked = asked;
    aim = aim;
    lines = lines;
    why = subst (λ p. WhySaid (heard_said (heard_of p.heard)) p after aim lines) is why;
    said = tells;
    so = subst (λ p. r ≡ given_as p.ended last.is_there) is so;
  })

  pub not_read : (a : ℕ) (table : Kept) (mid keep : S) (x at y : Talk) (pass : PassEnd) (r : Result (Unit {0}) Failure) → IsErr r
      → HasGiven is_up is_sound holds kept_of block a table mid x at pass → y ≡ at → GivesSo is_up is_sound holds kept_of block told a table keep x y r
  not_read a table mid keep x at y pass (Ok done) fails gave same = absurd (false≢true fails)
  not_read a table mid keep x at y pass (Err e) fails gave same = inr (inr (pass, mid, at, gave, inl same))

-- NEW FILES are filled, one after the other
pub one_renewed : {F K : Type 0} (kept_of : K → Kept) (block_of : K → Block) (made : F → F → Call → Type 0) (saw : F → Look → Type 0)
    (opens : F → Seen → K → Type 0) (first : Kept) (at : List ℕ) (name : String Global) (names more : List (String Global)) (old : Kept)
    (olds others : List Kept) (x z y : F) (new : Kept) (before mid after : List Kept) (r : Result (Unit {0}) Failure) → names ≡ name ∷ more
    → olds ≡ old ∷ others → at ≡ string_bytes name → IsRenewed kept_of block_of made saw opens first old at x z new → mid ≡ before ++ new ∷ []
    → OnOk r (AreRenewed kept_of block_of made saw opens first more others z y mid after)
    → OnOk r (AreRenewed kept_of block_of made saw opens first names olds x y before after)
one_renewed kept_of block_of made saw opens first at name names more old olds others x z y new before mid after (Err e) begins first_of is one adds rest = tt
one_renewed kept_of block_of made saw opens first at name names more old olds others x z y new before mid after (Ok done) begins first_of is one adds rest =
    rw begins (rw first_of (
      z,
      new,
      subst (λ (n : List ℕ). IsRenewed kept_of block_of made saw opens first old n x z new) is one,
      subst (λ (l : List Kept). AreRenewed kept_of block_of made saw opens first more others z y l after) adds rest,
    ))

module _ {F K R W : Type 0} (is_up is_sound : K → Type 0) (holds : K → List Record → Type 0) (kept_of : K → Kept) (block_of : K → Block)
    (saw : F → Look → Type 0) (opens : F → Seen → K → Type 0) (remaining : R → Option (List ℕ)) (contents : W → Option (List ℕ)) (told : Said → Type 0)
  where
    -- It was given in the giver's new file.
    pub given_in : (a permitted : ℕ) (block : Block) (come : Come) (table others : Kept) (stores : F) (name : List ℕ) (x mid y : DriverLink R W)
        (r : Result (Unit {0}) Failure) → permitted ≡ a → table ≡ others → block ≡ alone permitted
        → HasLooked a others come (talk_of remaining contents x) (talk_of remaining contents mid)
        → IsLent (IsOpened block_of saw opens stores (new_at name) block)
        (λ from to p q done. GivesSo is_up is_sound holds kept_of (block_of from) told permitted table to
        (talk_of remaining contents p) (talk_of remaining contents q) done) mid y r
        → IsGivenIn is_up is_sound holds kept_of block_of saw opens remaining contents told a come others stores name x y r
    given_in a permitted block come table others stores name x mid y r is same of looked lent =
        subst (λ (n : ℕ). IsGivenIn is_up is_sound holds kept_of block_of saw opens remaining contents told n come others stores name x y r) is
        (subst (λ (t : Kept). IsGivenIn is_up is_sound holds kept_of block_of saw opens remaining contents told permitted come t stores name x y r) same (
          mid,
          subst (λ (n : ℕ). HasLooked n table come (talk_of remaining contents x) (talk_of remaining contents mid)) (sym is)
              (subst (λ (t : Kept). HasLooked a t come (talk_of remaining contents x) (talk_of remaining contents mid)) (sym same) looked),
          subst (λ (b : Block). IsLent (IsOpened block_of saw opens stores (new_at name) b)
              (λ from to p q done. GivesSo is_up is_sound holds kept_of (block_of from) told permitted table to
              (talk_of remaining contents p) (talk_of remaining contents q) done) mid y r) of lent,
        ))

    pub given_well : (a permitted : ℕ) (block : Block) (come : Come) (table others : Kept) (stores : F) (name : List ℕ) (x mid y : DriverLink R W)
        (r : Result Kept Failure) → permitted ≡ a → table ≡ others → block ≡ alone permitted
        → HasLooked a others come (talk_of remaining contents x) (talk_of remaining contents mid)
        → OnOk r (IsLent (IsOpened block_of saw opens stores (new_at name) block)
        (λ from to p q done. GivesSo is_up is_sound holds kept_of (block_of from) told permitted table to
        (talk_of remaining contents p) (talk_of remaining contents q) done) mid y (Ok (tt {0})))
        → OnOk r (IsGivenIn is_up is_sound holds kept_of block_of saw opens remaining contents told a come others stores name x y (Ok (tt {0})))
    given_well a permitted block come table others stores name x mid y (Ok k) is same of looked lent =
        given_in a permitted block come table others stores name x mid y (Ok (tt {0})) is same of looked lent
    given_well a permitted block come table others stores name x mid y (Err e) is same of looked lent = tt

-- WHAT WAS DECIDED before the bus was asked
abbrev pub planned : {F : Type 0} (made : F → F → Call → Type 0) (saw : F → Look → Type 0) (told : Said → Type 0) (wanted : Replacement)
    (names : List (String Global)) (all : List Kept) (giver : ℕ) (come : Come) (table : Kept) (was stores : F)
    → AreAsideIf wanted.is_again made saw told names was stores → IsGiver wanted all giver → HasCome saw stores names all giver wanted.short come
    → IsGathered wanted.short all table → FirstUnknown wanted.short all wanted.missing.items None → IsPlanned made saw told wanted names all was
planned made saw told wanted names all giver come table was stores aside gives comes gathered known = record {
  stores = stores;
  aside = aside;
  giver = giver;
  gives = gives;
  come = come;
  comes = comes;
  table = table;
  gathered = gathered;
  known = known;
}

module _ {F K R W : Type 0} (is_up is_sound : K → Type 0) (holds : K → List Record → Type 0) (kept_of : K → Kept) (block_of : K → Block)
    (made : F → F → Call → Type 0) (saw : F → Look → Type 0) (opens : F → Seen → K → Type 0) (remaining : R → Option (List ℕ))
    (contents : W → Option (List ℕ)) (told : Said → Type 0) (wanted : Replacement) where
  -- A LUMINAIRE WAS REPLACED: the others were asked, the address was given, and the new gear was heard.
  pub replaced_so : (names : List (String Global)) (all : List Kept) (a : ℕ) (came : Come) (others : Kept) (was given at : F)
      (x before after y : DriverLink R W) (first : Kept) (r : Result DueSwap Failure) (plan : IsPlanned made saw told wanted names all was)
      → HasAskedOthers wanted.short plan.come plan.table wanted.missing.items (talk_of remaining contents x) (talk_of remaining contents before)
      → a ≡ wanted.short → came ≡ plan.come → others ≡ plan.table
      → (name : List ℕ) × IsNamed names plan.giver name × saw given (Read (new_at name) first)
      × GivesFirst is_up is_sound holds kept_of block_of made saw opens remaining contents told a came others name plan.stores given before after
      → HasAddress first.enrolled wanted.short
      → IfOk r (λ due. AreRenewed kept_of block_of made saw opens first names all given at [] due.news.items)
      → IfOk r (λ due. IsAnswered a (heard.Random (confirmed_random due.confirmed)) (talk_of remaining contents after) (talk_of remaining contents y))
      → IfOk r (λ due. HasReplacedSo is_up is_sound holds kept_of block_of made saw opens remaining contents told wanted names all due.news.items
      (confirmed_random due.confirmed) was at x y)
  replaced_so names all a came others was given at x before after y first (Err e) plan asked short same of gives has renews last = tt
  replaced_so names all a came others was given at x before after y first (Ok due) plan asked short same of gives has renews last = record {
    plan = plan;
    before = before;
    others = asked;
    name = gives.0;
    named = gives.1;
    given = given;
    after = after;
    gave =
        subst (λ (t : Kept). GivesFirst is_up is_sound holds kept_of block_of made saw opens remaining contents told wanted.short plan.come t gives.0
        plan.stores given before after) of
        (subst (λ (c : Come). GivesFirst is_up is_sound holds kept_of block_of made saw opens remaining contents told wanted.short c others gives.0
        plan.stores given before after) same
        (subst (λ (n : ℕ). GivesFirst is_up is_sound holds kept_of block_of made saw opens remaining contents told n came others gives.0
        plan.stores given before after) short gives.3));
    first = first;
    read = gives.2;
    has = has;
    renewed = renews;
    last =
        subst (λ (n : ℕ). IsAnswered n (heard.Random (confirmed_random due.confirmed)) (talk_of remaining contents after) (talk_of remaining contents y))
        short last;
  }

  -- IT WAS REPLACED IN ALL RECORDS OF A SITE, while they were held.
  pub replaced_anew : (began : F → F → Call → Type 0) {H : Type 0} (names : List (String Global)) (was now : F) (x y : Session R W) (noted : Report)
      (copies : List Kept) (out : DueSwap) → AreRead saw was names [] copies
      → IsHeld {H = H} saw names (Dues is_up is_sound holds kept_of block_of made saw opens remaining contents told wanted names)
      (λ _ from to due r. EndsDue made began saw from to due r) was now x y (Ok out)
      → ConfirmedTold told (confirmed_at out.confirmed) (confirmed_random out.confirmed) out.news.items → noted ≡ first_table out.news.items y.report
      → HasReplacedAnew is_up is_sound holds kept_of block_of made saw opens remaining contents told wanted names (confirmed_random out.confirmed)
      was now x (record { driver = y.driver; report = noted })
  replaced_anew began names was now x y noted copies out read (inl (err, same, besides)) says notes = absurd (false≢true err)
  replaced_anew began names was now x y noted copies out read (inr (all, held, at, Err e, dues, (by, due, is, ends))) says notes = absurd (err_ok e due is)
  replaced_anew began names was now x y noted copies out read
      (inr (all, held, at, Ok did, (bare, (swap, short, files, (n, complete), free), so, counts), (by, due, is, (exchanged, same)))) says notes =
      let same_due : did ≡ out = ok_same did due (Ok did) is ∙ sym same in
      record {
        copies = copies;
        read = read;
        all = all;
        held = held;
        bare = bare;
        news = out.news.items;
        at = at;
        replaced =
            subst (λ (d : DueSwap). HasReplacedSo is_up is_sound holds kept_of block_of made saw opens remaining contents told wanted names all
            d.news.items (confirmed_random d.confirmed) was at x.driver y.driver) same_due so;
        swap = out.swap;
        of = subst (λ (d : DueSwap). address_of d.swap ≡ wanted.short) same_due swap;
        files = subst (λ (d : DueSwap). texts_of d.swap ≡ map string_bytes names) same_due files;
        free = subst (λ (d : DueSwap). AreFree saw at [] (number_of d.swap) names) same_due free;
        count = n;
        complete = subst (λ (d : DueSwap). IsComplete n wanted.short (confirmed_random d.confirmed) all d.news.items) same_due complete;
        exchanged = subst (λ (d : DueSwap). IsExchanged made saw d.swap at now) (sym same) exchanged;
        says =
            subst (λ (a : ℕ). ConfirmedTold told a (confirmed_random out.confirmed) out.news.items)
            (subst (λ (d : DueSwap). confirmed_at d.confirmed ≡ wanted.short) same_due short) says;
        reports = notes ∙ ap (λ (r : Report). first_table out.news.items r) counts;
      }

  -- and so it is of the files of records, if no exchange of an earlier call was brought to its end
  pub replaced : (began : F → F → Call → Type 0) {H : Type 0} (records names apart ended copied meant held : List (String Global)) (earlier : Option Swap)
      (was at now : F) (x y : Session R W) (noted : Report) (none copies news tables : List Kept) (out : DueSwap)
      → AreAtPlaces saw was records [] names → apart ≡ names → AreApart apart → ended ≡ names → AreFinished made saw told wanted.short ended was at earlier
      → earlier ≡ None → copied ≡ names → none ≡ [] → AreRead saw at copied none copies → meant ≡ names → held ≡ names
      → IsHeld {H = H} saw held (Dues is_up is_sound holds kept_of block_of made saw opens remaining contents told wanted meant)
      (λ _ from to due r. EndsDue made began saw from to due r) at now x y (Ok out)
      → news ≡ out.news.items → ConfirmedTold told (confirmed_at out.confirmed) (confirmed_random out.confirmed) news
      → tables ≡ out.news.items → noted ≡ first_table tables y.report
      → HasReplaced is_up is_sound holds kept_of block_of made saw opens remaining contents told wanted records (confirmed_random out.confirmed) was now x
      (record { driver = y.driver; report = noted })
  replaced began {H = H} records names apart ended copied meant held earlier was at now x y noted none copies news tables out places apart_is are_apart
      ended_is finished without copied_is none_is read meant_is held_is holding news_is says tables_are notes =
      let dues : List (String Global) → List Kept → F → F → Session R W → Session R W → Result DueSwap Failure → Type 0 =
      λ l. Dues is_up is_sound holds kept_of block_of made saw opens remaining contents told wanted l in
      let ends : H → F → F → DueSwap → Result DueSwap Failure → Type 0 = λ _ from to due r. EndsDue made began saw from to due r in
      let hold_all : IsHeld {H = H} saw names (dues names) ends at now x y (Ok out) =
      subst (λ (l : List (String Global)). IsHeld {H = H} saw names (dues l) ends at now x y (Ok out)) meant_is
      (subst (λ (l : List (String Global)). IsHeld {H = H} saw l (dues meant) ends at now x y (Ok out)) held_is holding) in
      let read_all : AreRead saw at names [] copies =
      subst (λ (l : List (String Global)). AreRead saw at l [] copies) copied_is
      (subst (λ (l : List Kept). AreRead saw at copied l copies) none_is read) in
      let tells : ConfirmedTold told (confirmed_at out.confirmed) (confirmed_random out.confirmed) out.news.items =
      subst (λ (l : List Kept). ConfirmedTold told (confirmed_at out.confirmed) (confirmed_random out.confirmed) l) news_is says in (
        names,
        at,
        None,
        places,
        subst (λ (l : List (String Global)). AreApart l) apart_is are_apart,
        subst (λ (l : List (String Global)). AreFinished made saw told wanted.short l was at None) ended_is
            (subst (λ (o : Option Swap). AreFinished made saw told wanted.short ended was at o) without finished),
        replaced_anew began {H = H} names at now x y noted copies out read_all hold_all tells
            (notes ∙ ap (λ (l : List Kept). first_table l y.report) tables_are),
      )

  -- or one was, and is confirmed
  pub replaced_before : (records names apart ended : List (String Global)) (earlier : Option Swap) (swap : Swap) (random : ℕ) (was at : F)
      (x y : Session R W) (noted : Report) → AreAtPlaces saw was records [] names → apart ≡ names → AreApart apart → ended ≡ names
      → AreFinished made saw told wanted.short ended was at earlier → earlier ≡ Some swap
      → IsConfirmed saw told wanted.short wanted.missing.items at (names_of swap) random (talk_of remaining contents x.driver)
      (talk_of remaining contents y.driver) → y.report ≡ record x.report { frames = lines_of y.driver } → NotesFirst saw at records y.report noted
      → HasReplaced is_up is_sound holds kept_of block_of made saw opens remaining contents told wanted records random was at x
      (record { driver = y.driver; report = noted })
  replaced_before records names apart ended earlier swap random was at x y noted places apart_is are_apart ended_is finished some confirms counts notes = (
    names,
    at,
    Some swap,
    places,
    subst (λ (l : List (String Global)). AreApart l) apart_is are_apart,
    subst (λ (l : List (String Global)). AreFinished made saw told wanted.short l was at (Some swap)) ended_is
        (subst (λ (o : Option Swap). AreFinished made saw told wanted.short ended was at o) some finished),
    (refl, confirms, subst (λ (r : Report). NotesFirst saw at records r noted) counts notes),
  )

  -- It ends so, well or not.
  pub replacement : (began : F → F → Call → Type 0) (records : List (String Global)) (was now : F) (x y : Session R W) (r : Result (Unit {0}) Failure)
      → OnOk r ((random : ℕ)
      × HasReplaced is_up is_sound holds kept_of block_of made saw opens remaining contents told wanted records random was now x y)
      → IfErr r (λ e. HasNotReplaced is_up is_sound holds kept_of block_of made began saw opens remaining contents told wanted records e was now x y)
      → IsReplacement is_up is_sound holds kept_of block_of made began saw opens remaining contents told wanted records was now x y r
  replacement began records was now x y (Ok done) so not = so
  replacement began records was now x y (Err e) so not = not
