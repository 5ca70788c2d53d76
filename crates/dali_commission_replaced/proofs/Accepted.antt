use Rattle.std.proofs.Common.{◌≡◌, ◌∙◌, ◌⊎◌, Bool, ℕ, List, [], Option, Some, None, Result, Ok, Err, ap, refl, inl, inr, subst, sym}
use Rattle.std.proofs.lemmas.Bool.{false≢true}
use Rattle.std.specs.Prelude.{IfOk, IfErr, IsErr, IsErrAnd, OnOk, map, string_bytes}
use Rattle.std.specs.declared.{alloc.Global.Global, string.String.String}
use Rattle.dali_script.specs.{declared.block.Block.Block, declared.records.Record.TheVariants.Enrol, Records.Kept, Records.with_record}
use Rattle.dali_commissioning.specs.declared.census.Reply.TheVariants as heard
use Rattle.dali_commissioning.specs.declared.driver.DriverLink.{DriverLink}
use Rattle.dali_commissioning.specs.{Census.IsAnswered, Drivers.{Talk, talk_of, has_heard, lines_of}}
use Rattle.dali_replacement.specs.declared.{come.Come.TheVariants.Given, confirmed.Confirmed.Confirmed, swapping.Swap.Swap}
use Rattle.dali_replacement.specs.Permit.{confirmed_at, confirmed_random}
use Rattle.dali_replacement.specs.{Swapping.{address_of, names_of, number_of, texts_of}, Tables.{IsGathered, IsComplete}}
use Rattle.dali_commission_said.specs.declared.{failure.Failure.Failure, report.Report.Report, report.Session.Session, said.Said.Said}
use Rattle.dali_commission_tasks.specs.declared.tasks.Replacement.{Replacement}
use Rattle.dali_commission_stores.specs.{Calls.{Call, Look}, declared.records.Seen.Seen, Keeping.AreFree, Lent.IsHeld}
use Rattle.dali_commission_stores.specs.Settled.{IsExchanged, IsExchangedInPart}
use Rattle.dali_commission_replaced.specs.{declared.replacing.DueSwap.DueSwap, Due.EndsDue, Finishing.AreFinished, Tellings.ConfirmedTold}
use Rattle.dali_commission_replaced.specs.Replacing.{IsDue, AreAsideIf, AreAtPlaces, AreApart, AreBehind, AreUnannounced}
use Rattle.dali_commission_replaced.specs.Asking.{HasAskedOthers, AreRenewed, IsNotDue, IsConfirmed, IsNotConfirmedBy, first_table, NotesFirst}
use Rattle.dali_commission_replaced.specs.Accepting.{IsAcceptCut, HasAcceptedSo, HasNotAcceptedSo, AcceptDues, AcceptFailsSo, AcceptFailsAfter}
use Rattle.dali_commission_replaced.specs.Accepting.{HasAcceptedAnew, HasAccepted, HasNotAccepted, IsAcceptance}
use Rattle.dali_commission_replaced.proofs.Given.{err_ok, ok_same}
use Rattle.dali_commission_replaced.proofs.Cut.{err_same}

beside_same : {A B F : Type 0} (at : F) → A ⊎ B → A ⊎ ((at ≡ at) × B)
beside_same at (inl it) = inl it
beside_same at (inr it) = inr (refl, it)

-- A LUMINAIRE IS ACCEPTED: it and all others were heard, the new files were filled, and it was heard again.
module _ {F K : Type 0} (kept_of : K → Kept) (block_of : K → Block) (made : F → F → Call → Type 0) (saw : F → Look → Type 0)
    (opens : F → Seen → K → Type 0) (told : Said → Type 0) (wanted : Replacement) (names : List (String Global)) (all : List Kept) (was stores : F)
    (table : Kept) (aside : AreAsideIf wanted.is_again made saw told names was stores) (gathered : IsGathered wanted.short all table)
  where
    pub accepted_so : (a given : ℕ) (others first : Kept) (at : F) (x mid before y : Talk) (r : Result DueSwap Failure)
        → IsAnswered wanted.short (heard.Random given) x mid → HasAskedOthers wanted.short (Given given) table wanted.missing.items mid before
        → a ≡ wanted.short → others ≡ table → first ≡ with_record others (Enrol wanted.short given)
        → AreBehind saw stores wanted.short (Given given) names all
        → IfOk r (λ due. AreRenewed kept_of block_of made saw opens first names all stores at [] due.news.items)
        → IfOk r (λ due. IsAnswered a (heard.Random (confirmed_random due.confirmed)) before y)
        → IfOk r (λ due. HasAcceptedSo kept_of block_of made saw opens told wanted names all due.news.items (confirmed_random due.confirmed) was at x y)
    accepted_so a given others first at x mid before y (Err e) answered asked short same of behind renews last = tt
    accepted_so a given others first at x mid before y (Ok due) answered asked short same of behind renews last = record {
      stores = stores;
      aside = aside;
      table = table;
      gathered = gathered;
      given = given;
      behind = behind;
      before = before;
      there = (mid, answered, asked);
      renewed =
          subst (λ (t : Kept). AreRenewed kept_of block_of made saw opens (with_record t (Enrol wanted.short given)) names all stores at []
          due.news.items) same
          (subst (λ (t : Kept). AreRenewed kept_of block_of made saw opens t names all stores at [] due.news.items) of renews);
      last = subst (λ (n : ℕ). IsAnswered n (heard.Random (confirmed_random due.confirmed)) before y) short last;
    }

    -- It fails.
    pub cut_short : {T : Type 0} (P : Type 0) (hears : Bool) (before after : Report) (x y : Talk) (why : Failure) (r : Result T Failure)
        → IsErrAnd r (λ e. e ≡ why)
        → IsAcceptCut kept_of block_of made saw opens wanted names all stores table hears why before after x y
        → IfErr r (λ e. P ⊎ HasNotAcceptedSo kept_of block_of made saw opens told wanted names all hears e was before after x y)
    cut_short P hears before after x y why (Ok it) fails puts = tt
    cut_short P hears before after x y why (Err e) fails puts = inr (record {
      stores = stores;
      aside = aside;
      table = table;
      gathered = gathered;
      puts = subst (λ (f : Failure). IsAcceptCut kept_of block_of made saw opens wanted names all stores table hears f before after x y) (sym fails) puts;
    })

    pub due_cut : {T : Type 0} (P : Type 0) (hears : Bool) (reported report : Report) (given : ℕ) (others first : Kept) (x mid before y : Talk)
        (r : Result T Failure) → report ≡ reported
        → IsAnswered wanted.short (heard.Random given) x mid → HasAskedOthers wanted.short (Given given) table wanted.missing.items mid before
        → others ≡ table → first ≡ with_record others (Enrol wanted.short given)
        → IfErr r (λ e. IsNotDue kept_of block_of made saw opens wanted.short names all first stores e before y)
        → IfErr r (λ e. P ⊎ HasNotAcceptedSo kept_of block_of made saw opens told wanted names all hears e was reported report x y)
    due_cut P hears reported report given others first x mid before y (Ok it) none answered asked same of cut = tt
    due_cut P hears reported report given others first x mid before y (Err e) none answered asked same of cut =
        cut_short {T = Kept} P hears reported report x y e (Err e) refl (inr (
          given,
          before,
          (mid, answered, asked),
          subst (λ (t : Kept). IsNotDue kept_of block_of made saw opens wanted.short names all (with_record t (Enrol wanted.short given)) stores e before y)
              same (subst (λ (t : Kept). IsNotDue kept_of block_of made saw opens wanted.short names all t stores e before y) of cut),
          none,
        ))

module _ {F K R W : Type 0} (kept_of : K → Kept) (block_of : K → Block) (made : F → F → Call → Type 0) (saw : F → Look → Type 0)
    (opens : F → Seen → K → Type 0) (remaining : R → Option (List ℕ)) (contents : W → Option (List ℕ)) (told : Said → Type 0) (wanted : Replacement)
  where
    -- So it is while the records are held.
    pub unput : (names : List (String Global)) (all : List Kept) (was at : F) (x y : Session R W) (r : Result DueSwap Failure) → IsErr r → y ≡ x
        → AcceptDues kept_of block_of made saw opens remaining contents told wanted names all was at x y r
    unput names all was at x y (Ok due) fails same = absurd (false≢true fails)
    unput names all was at x y (Err e) fails same = inl same

    dues_so : (names : List (String Global)) (all : List Kept) (was at : F) (x y : DriverLink R W) (before mid after : Report) (r : Result DueSwap Failure)
        → AreUnannounced saw was names → IfOk r (IsDue saw at wanted.short names all)
        → IfOk r (λ due. HasAcceptedSo kept_of block_of made saw opens told wanted names all due.news.items (confirmed_random due.confirmed) was at
        (talk_of remaining contents x) (talk_of remaining contents y)) → IfOk r (λ _. mid ≡ before)
        → IfErr r (λ e. ((y ≡ x) × (mid ≡ before)) ⊎ HasNotAcceptedSo kept_of block_of made saw opens told wanted names all (has_heard y) e was
        before mid (talk_of remaining contents x) (talk_of remaining contents y))
        → after ≡ record mid { frames = lines_of y }
        → AcceptDues kept_of block_of made saw opens remaining contents told wanted names all was at (record { driver = x; report = before })
        (record { driver = y; report = after }) r
    dues_so names all was at x y before mid after (Ok due) bare is so none cut noted =
        (bare, is, so, noted ∙ ap (λ (r : Report). record r { frames = lines_of y }) none)
    dues_so names all was at x y before mid after (Err e) bare is so none (inl (same, unnoted)) noted =
        inr (bare, inl (same, noted ∙ ap (λ (r : Report). record r { frames = lines_of y }) unnoted))
    dues_so names all was at x y before mid after (Err e) bare is so none (inr cut) noted = inr (bare, inr (mid, cut, noted))

    pub dues_noted : (names : List (String Global)) (all : List Kept) (was at : F) (x y : DriverLink R W) (before mid after : Report)
        (did r : Result DueSwap Failure) → r ≡ did
        → AreUnannounced saw was names → IfOk did (IsDue saw at wanted.short names all)
        → IfOk did (λ due. HasAcceptedSo kept_of block_of made saw opens told wanted names all due.news.items (confirmed_random due.confirmed) was at
        (talk_of remaining contents x) (talk_of remaining contents y)) → IfOk did (λ _. mid ≡ before)
        → IfErr did (λ e. ((y ≡ x) × (mid ≡ before)) ⊎ HasNotAcceptedSo kept_of block_of made saw opens told wanted names all (has_heard y) e was
        before mid (talk_of remaining contents x) (talk_of remaining contents y))
        → after ≡ record mid { frames = lines_of y }
        → AcceptDues kept_of block_of made saw opens remaining contents told wanted names all was at (record { driver = x; report = before })
        (record { driver = y; report = after }) r
    dues_noted names all was at x y before mid after did r same bare is so none cut noted =
        rw same (dues_so names all was at x y before mid after did bare is so none cut noted)

    -- IT WAS ACCEPTED IN ALL RECORDS OF A SITE, while they were held.
    accepted_anew : (began : F → F → Call → Type 0) {H : Type 0} (names : List (String Global)) (was now : F) (x y : Session R W) (noted : Report)
        (out : DueSwap) → IsHeld {H = H} saw names (AcceptDues kept_of block_of made saw opens remaining contents told wanted names)
        (λ _ from to due r. EndsDue made began saw from to due r) was now x y (Ok out)
        → ConfirmedTold told (confirmed_at out.confirmed) (confirmed_random out.confirmed) out.news.items → noted ≡ first_table out.news.items y.report
        → HasAcceptedAnew kept_of block_of made saw opens remaining contents told wanted names (confirmed_random out.confirmed) was now x
        (record { driver = y.driver; report = noted })
    accepted_anew began names was now x y noted out (inl (err, same, besides)) says notes = absurd (false≢true err)
    accepted_anew began names was now x y noted out (inr (all, held, at, Err e, dues, (by, due, is, ends))) says notes = absurd (err_ok e due is)
    accepted_anew began names was now x y noted out
        (inr (all, held, at, Ok did, (bare, (swap, short, files, (n, complete), free), so, counts), (by, due, is, (exchanged, same)))) says notes =
        let same_due : did ≡ out = ok_same did due (Ok did) is ∙ sym same in
        record {
          all = all;
          held = held;
          bare = bare;
          news = out.news.items;
          at = at;
          accepted =
              subst (λ (d : DueSwap). HasAcceptedSo kept_of block_of made saw opens told wanted names all d.news.items (confirmed_random d.confirmed)
              was at (talk_of remaining contents x.driver) (talk_of remaining contents y.driver)) same_due so;
          swap = out.swap;
          of = subst (λ (d : DueSwap). address_of d.swap ≡ wanted.short) same_due swap;
          files = subst (λ (d : DueSwap). texts_of d.swap ≡ map string_bytes names) same_due files;
          free = subst (λ (d : DueSwap). AreFree saw at [] (number_of d.swap) names) same_due free;
          count = n;
          complete = subst (λ (d : DueSwap). IsComplete n wanted.short (confirmed_random d.confirmed) all d.news.items) same_due complete;
          exchanged = subst (λ (d : DueSwap). IsExchanged made saw d.swap at now) (sym same) exchanged;
          says =
              subst (λ (a : ℕ). ConfirmedTold told a (confirmed_random out.confirmed) out.news.items)
              (subst (λ (d : DueSwap). confirmed_at d.confirmed ≡ wanted.short) same_due short) says;
          reports = notes ∙ ap (λ (r : Report). first_table out.news.items r) counts;
        }

    hold_all : (began : F → F → Call → Type 0) (H : Type 0) (names meant held : List (String Global)) (at now : F) (x y : Session R W)
        (r : Result DueSwap Failure) → meant ≡ names → held ≡ names
        → IsHeld {H = H} saw held (AcceptDues kept_of block_of made saw opens remaining contents told wanted meant)
        (λ _ from to due r. EndsDue made began saw from to due r) at now x y r
        → IsHeld {H = H} saw names (AcceptDues kept_of block_of made saw opens remaining contents told wanted names)
        (λ _ from to due r. EndsDue made began saw from to due r) at now x y r
    hold_all began H names meant held at now x y r meant_is held_is holding =
        let dues : List (String Global) → List Kept → F → F → Session R W → Session R W → Result DueSwap Failure → Type 0 =
        λ l. AcceptDues kept_of block_of made saw opens remaining contents told wanted l in
        let ends : H → F → F → DueSwap → Result DueSwap Failure → Type 0 = λ _ from to due r. EndsDue made began saw from to due r in
        subst (λ (l : List (String Global)). IsHeld {H = H} saw names (dues l) ends at now x y r) meant_is
        (subst (λ (l : List (String Global)). IsHeld {H = H} saw l (dues meant) ends at now x y r) held_is holding)

    -- and so it is of the files of records, if no exchange of an earlier call was brought to its end
    pub accepted : (began : F → F → Call → Type 0) {H : Type 0} (records names apart ended meant held : List (String Global)) (earlier : Option Swap)
        (was at now : F) (x y : Session R W) (noted : Report) (news tables : List Kept) (out : DueSwap)
        → AreAtPlaces saw was records [] names → apart ≡ names → AreApart apart → ended ≡ names → AreFinished made saw told wanted.short ended was at earlier
        → earlier ≡ None → meant ≡ names → held ≡ names
        → IsHeld {H = H} saw held (AcceptDues kept_of block_of made saw opens remaining contents told wanted meant)
        (λ _ from to due r. EndsDue made began saw from to due r) at now x y (Ok out)
        → news ≡ out.news.items → ConfirmedTold told (confirmed_at out.confirmed) (confirmed_random out.confirmed) news
        → tables ≡ out.news.items → noted ≡ first_table tables y.report
        → HasAccepted kept_of block_of made saw opens remaining contents told wanted records (confirmed_random out.confirmed) was now x
        (record { driver = y.driver; report = noted })
    accepted began {H = H} records names apart ended meant held earlier was at now x y noted news tables out places apart_is are_apart ended_is finished
        without meant_is held_is holding news_is says tables_are notes = (
          names,
          at,
          None,
          places,
          subst (λ (l : List (String Global)). AreApart l) apart_is are_apart,
          subst (λ (l : List (String Global)). AreFinished made saw told wanted.short l was at None) ended_is
              (subst (λ (o : Option Swap). AreFinished made saw told wanted.short ended was at o) without finished),
          accepted_anew began {H = H} names at now x y noted out (hold_all began H names meant held at now x y (Ok out) meant_is held_is holding)
              (subst (λ (l : List Kept). ConfirmedTold told (confirmed_at out.confirmed) (confirmed_random out.confirmed) l) news_is says)
              (notes ∙ ap (λ (l : List Kept). first_table l y.report) tables_are),
        )

    -- or one was, and is confirmed
    pub accepted_before : (records names apart ended : List (String Global)) (earlier : Option Swap) (swap : Swap) (random : ℕ) (was at : F)
        (x y : Session R W) (noted : Report) → AreAtPlaces saw was records [] names → apart ≡ names → AreApart apart → ended ≡ names
        → AreFinished made saw told wanted.short ended was at earlier → earlier ≡ Some swap
        → IsConfirmed saw told wanted.short wanted.missing.items at (names_of swap) random (talk_of remaining contents x.driver)
        (talk_of remaining contents y.driver) → y.report ≡ record x.report { frames = lines_of y.driver } → NotesFirst saw at records y.report noted
        → HasAccepted kept_of block_of made saw opens remaining contents told wanted records random was at x (record { driver = y.driver; report = noted })
    accepted_before records names apart ended earlier swap random was at x y noted places apart_is are_apart ended_is finished some confirms counts notes = (
      names,
      at,
      Some swap,
      places,
      subst (λ (l : List (String Global)). AreApart l) apart_is are_apart,
      subst (λ (l : List (String Global)). AreFinished made saw told wanted.short l was at (Some swap)) ended_is
          (subst (λ (o : Option Swap). AreFinished made saw told wanted.short ended was at o) some finished),
      (refl, confirms, subst (λ (r : Report). NotesFirst saw at records r noted) counts notes),
    )

    -- It fails: it was held, or not; or an exchange was brought to its end, and is not confirmed.
    fails_held : (began : F → F → Call → Type 0) (H : Type 0) (names : List (String Global)) (was now : F) (x y : Session R W) (failure : Failure)
        → IsHeld {H = H} saw names (AcceptDues kept_of block_of made saw opens remaining contents told wanted names)
        (λ _ from to due r. EndsDue made began saw from to due r) was now x y (Err failure)
        → (y ≡ x) ⊎ AcceptFailsAfter kept_of block_of made began saw opens remaining contents told wanted names failure None was now x y
    fails_held began H names was now x y failure (inl (err, same, besides)) = inl besides
    fails_held began H names was now x y failure (inr (all, held, at, Ok due, (bare, is, so, noted), inl (fails, same))) = absurd (err_ok _ _ (sym fails))
    fails_held began H names was now x y failure (inr (all, held, at, Ok due, (bare, is, so, noted), inr (did, done, inl same))) =
        inr (all, held, bare, inr (due, at, is, so, inl same, noted))
    fails_held began H names was now x y failure (inr (all, held, at, Ok due, (bare, is, so, noted), inr (did, done, inr (by, part)))) =
        inr (
          all,
          held,
          bare,
          inr (
            due,
            at,
            is,
            so,
            inr (subst (λ (d : DueSwap). IsExchangedInPart made began saw d.swap at now) (sym (ok_same due did (Ok due) done)) part),
            noted,
          ),
        )
    fails_held began H names was now x y failure (inr (all, held, at, Err e, inl same, ends)) = inl same
    fails_held began H names was now x y failure (inr (all, held, at, Err e, inr (bare, cut), inr (did, done, ends))) = absurd (err_ok _ _ done)
    fails_held began H names was now x y failure (inr (all, held, at, Err e, inr (bare, cut), inl (fails, same))) =
        inr (
          all,
          held,
          bare,
          inl (subst (λ (f : Failure). AcceptFailsSo kept_of block_of made saw opens remaining contents told wanted
              names all f was x y) (err_same failure e (Err e) fails) cut),
        )

    after_all : (began : F → F → Call → Type 0) (records names apart ended : List (String Global)) (earlier : Option Swap) (was at now : F)
        (x y : Session R W) (failure : Failure)
        → AreAtPlaces saw was records [] names → apart ≡ names → AreApart apart → ended ≡ names → AreFinished made saw told wanted.short ended was at earlier
        → (y ≡ x) ⊎ AcceptFailsAfter kept_of block_of made began saw opens remaining contents told wanted names failure earlier at now x y
        → HasNotAccepted kept_of block_of made began saw opens remaining contents told wanted records failure was now x y
    after_all began records names apart ended earlier was at now x y failure places apart_is are_apart ended_is finished (inl same) = inl same
    after_all began records names apart ended earlier was at now x y failure places apart_is are_apart ended_is finished (inr fails) = inr (
      names,
      at,
      earlier,
      places,
      subst (λ (l : List (String Global)). AreApart l) apart_is are_apart,
      subst (λ (l : List (String Global)). AreFinished made saw told wanted.short l was at earlier) ended_is finished,
      fails,
    )

    pub not_accepted : {T : Type 0} (began : F → F → Call → Type 0) (H : Type 0) (records names apart ended meant held : List (String Global))
        (earlier : Option Swap) (was at now : F) (x y : Session R W) (why : Failure) (done : Result DueSwap Failure) (r : Result T Failure)
        → IsErrAnd r (λ e. e ≡ why) → done ≡ Err why
        → AreAtPlaces saw was records [] names → apart ≡ names → AreApart apart → ended ≡ names → AreFinished made saw told wanted.short ended was at earlier
        → earlier ≡ None → meant ≡ names → held ≡ names
        → IsHeld {H = H} saw held (AcceptDues kept_of block_of made saw opens remaining contents told wanted meant)
        (λ _ from to due r. EndsDue made began saw from to due r) at now x y done
        → IfErr r (λ e. HasNotAccepted kept_of block_of made began saw opens remaining contents told wanted records e was now x y)
    not_accepted began H records names apart ended meant held earlier was at now x y why done (Ok it) fails is places apart_is are_apart ended_is finished
        none meant_is held_is holding =
        tt
    not_accepted began H records names apart ended meant held earlier was at now x y why done (Err e) fails is places apart_is are_apart ended_is finished
        none meant_is held_is holding =
        let holds_so : Result DueSwap Failure → Type 0 =
        λ d. IsHeld {H = H} saw names (AcceptDues kept_of block_of made saw opens remaining contents told wanted names)
        (λ _ from to due r. EndsDue made began saw from to due r) at now x y d in
        after_all began records names apart ended None was at now x y e places apart_is are_apart ended_is
        (subst (λ (o : Option Swap). AreFinished made saw told wanted.short ended was at o) none finished)
        (fails_held began H names at now x y e (subst (λ (f : Failure). holds_so (Err f)) (sym fails)
        (subst (λ (d : Result DueSwap Failure). holds_so d) is (hold_all began H names meant held at now x y done meant_is held_is holding))))

    pub not_confirmed : {T : Type 0} (began : F → F → Call → Type 0) (records names apart ended : List (String Global)) (earlier : Option Swap)
        (swap : Swap) (was at : F) (x y : Session R W) (why : Failure) (did : Result Confirmed Failure) (r : Result T Failure) → IsErrAnd r (λ e. e ≡ why)
        → did ≡ Err why → AreAtPlaces saw was records [] names → apart ≡ names → AreApart apart → ended ≡ names
        → AreFinished made saw told wanted.short ended was at earlier → earlier ≡ Some swap
        → IfErr did (λ e. (y ≡ x) ⊎ IsNotConfirmedBy saw remaining contents wanted.short wanted.missing.items at (names_of swap) e x y)
        → IfErr r (λ e. HasNotAccepted kept_of block_of made began saw opens remaining contents told wanted records e was at x y)
    not_confirmed began records names apart ended earlier swap was at x y why did (Ok it) fails is places apart_is are_apart ended_is finished some cut = tt
    not_confirmed began records names apart ended earlier swap was at x y why did (Err e) fails is places apart_is are_apart ended_is finished some cut =
        let cut_so : (y ≡ x) ⊎ IsNotConfirmedBy saw remaining contents wanted.short wanted.missing.items at (names_of swap) e x y =
        subst (λ (f : Failure). (y ≡ x) ⊎ IsNotConfirmedBy saw remaining contents wanted.short wanted.missing.items at (names_of swap) f x y) (sym fails)
        (subst (λ (d : Result Confirmed Failure). IfErr d (λ f. (y ≡ x)
        ⊎ IsNotConfirmedBy saw remaining contents wanted.short wanted.missing.items at (names_of swap) f x y)) is cut) in
        after_all began records names apart ended (Some swap) was at at x y e places apart_is are_apart ended_is
        (subst (λ (o : Option Swap). AreFinished made saw told wanted.short ended was at o) some finished) (beside_same at cut_so)

    -- It ends so, well or not.
    pub acceptance : (began : F → F → Call → Type 0) (records : List (String Global)) (was now : F) (x y : Session R W) (r : Result (Unit {0}) Failure)
        → OnOk r ((random : ℕ) × HasAccepted kept_of block_of made saw opens remaining contents told wanted records random was now x y)
        → IfErr r (λ e. HasNotAccepted kept_of block_of made began saw opens remaining contents told wanted records e was now x y)
        → IsAcceptance kept_of block_of made began saw opens remaining contents told wanted records was now x y r
    acceptance began records was now x y (Ok done) so not = so
    acceptance began records was now x y (Err e) so not = not
