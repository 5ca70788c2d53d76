use Rattle.std.proofs.Common.{◌≡◌, ◌⊎◌, true, ℕ, ◌+◌, ◌-◌, ◌^◌, List, [], ◌∷◌, ◌++◌, Option, None, Result, Ok, Err, sym, subst, ap, ◌∙◌, inl, inr, refl}
use Rattle.std.{proofs.lemmas.Bool.false≢true, specs.Prelude.{IsErr, min}}
use Rattle.std.specs.declared.{alloc.Global.Global, string.String.String}
use Rattle.dali_script.specs.{declared.block.Block.Block, declared.records.Record.Record, Records.Kept}
use Rattle.dali_commissioning.specs.{Drivers.{Talk, talk_of, lines_of}, Runs.IsRead}
use Rattle.dali_mending.specs.Mending.{Mending}
use Rattle.dali_replacement.specs.Tables.{IsGathered, AreOf}
use Rattle.dali_commission_said.specs.declared.{failure.Failure.Failure, report.Report.Report, report.Session.Session, said.Said.Said}
use Rattle.dali_commission_said.specs.declared.failure.Failure.TheVariants.{Shared}
use Rattle.dali_commission_said.specs.{Reports.no_report, Said.AreTold}
use Rattle.dali_commission_tasks.specs.declared.tasks.{Mend.Mend, Setup.Setup}
use Rattle.dali_commission_stores.specs.{Calls.Look, declared.records.Seen.Seen, Lent.{IsLent, IsOpened, IsUnread, AreRead}}
use Rattle.dali_commission_asked.specs.Sharing.{reserved_in}
use Rattle.dali_commission_mended.specs.{Cut.EndsMend, Cut.FromCut, Mends.MendsFrom}
use Rattle.dali_commission_mended.specs.Tellings.{AreMendsTold, IsReported, HasMended, HasNotMended, MendsOver, HasMendedAll, HasRun, HasRunOver, IsMendBeside}
use Rattle.dali_commission_mended.specs.Tellings.{with_enrolled}

-- what a mend comes to, well or not
pub ends_so : {S : Type 0} (is_up is_sound : S → Type 0) (holds : S → List Record → Type 0) (kept_of : S → Kept) (block : Block) (table before : Kept)
    (others : List Block) (wanted : Mend) (ms : List Mending) (was keep : S) (x y : Talk) (frames : ℕ) (report : Report) (ended : Result (Unit {0}) Failure)
    → MendsFrom is_up is_sound holds kept_of block table before others wanted ms was keep x y frames report ended
    → EndsMend is_up is_sound holds kept_of block table before others wanted ms was keep x y frames report ended
ends_so is_up is_sound holds kept_of block table before others wanted ms was keep x y frames report (Ok done) is = is
ends_so is_up is_sound holds kept_of block table before others wanted ms was keep x y frames report (Err e) is = inl is

-- A MEND over records that were read first, and last if it ended well.
module _ {S : Type 0} (is_up is_sound : S → Type 0) (holds : S → List Record → Type 0) (kept_of : S → Kept) (block at : Block) where
  pub not_mended : (told : Said → Type 0) (others : List Block) (wanted : Mend) (tables : List Kept) (was opened mid : S) (x y : Talk) (frames : ℕ)
      (old report : Report)
      (failure : Failure) (before table : Kept) (ms : List Mending) (came : Report) (ended : Result (Unit {0}) Failure) → at ≡ block
      → IsRead is_up is_sound holds block was opened before
      → IsGathered 64 (tables ++ before ∷ []) table → AreOf table.enrolled [] (tables ++ before ∷ [])
      → EndsMend is_up is_sound holds kept_of at table before others wanted ms opened mid x y frames came ended
      → IsReported told ms failure old came ended frames report
      → HasNotMended is_up is_sound holds kept_of block told others wanted tables was x y frames old report failure
  not_mended told others wanted tables was opened mid x y frames old report failure before table ms came ended same reads gathered of_these mends reports =
      record {
        before = before;
        opened = opened;
        reads = reads;
        table = table;
        gathered = gathered;
        of_these = of_these;
        ms = ms;
        mid = mid;
        came = came;
        ended = ended;
        ends = subst (λ b. EndsMend is_up is_sound holds kept_of b table before others wanted ms opened mid x y frames came ended) same mends;
        reports = reports;
      }

  mended : (told : Said → Type 0) (others : List Block) (wanted : Mend) (tables : List Kept) (was opened mid keep : S) (x y : Talk) (frames : ℕ)
      (report : Report) (before table after : Kept) (ms : List Mending) (of : Block) (came : Report) → at ≡ block
      → IsRead is_up is_sound holds block was opened before
      → IsGathered 64 (tables ++ before ∷ []) table → AreOf table.enrolled [] (tables ++ before ∷ [])
      → MendsFrom is_up is_sound holds kept_of at table before others wanted ms opened mid x y frames came (Ok tt)
      → IsRead is_up is_sound holds of mid keep after → AreMendsTold told after ms → AreTold told came.said.items
      → report ≡ record came { frames = frames }
      → HasMended is_up is_sound holds kept_of block told others wanted tables was keep x y frames report
  mended told others wanted tables was opened mid keep x y frames report before table after ms of came same reads gathered of_these mends last said
      tells reports = record {
        before = before;
        opened = opened;
        reads = reads;
        table = table;
        gathered = gathered;
        of_these = of_these;
        ms = ms;
        mid = mid;
        came = came;
        mends = subst (λ b. MendsFrom is_up is_sound holds kept_of b table before others wanted ms opened mid x y frames came (Ok tt)) same mends;
        after = after;
        of = of;
        reads_last = last;
        said = said;
        tells = tells;
        reports = reports;
      }

  module _ {R W : Type 0} (remaining : R → Option (List ℕ)) (contents : W → Option (List ℕ)) (told : Said → Type 0) where
    pub unread_over : (others : List Block) (wanted : Mend) (tables : List Kept) (was opened mid keep : S) (x y : Session R W)
        (result : Result (Unit {0}) Failure) (before table : Kept) (ms : List Mending) (came : Report) (ended : Result (Unit {0}) Failure)
        (why : Failure) → at ≡ block → IsRead is_up is_sound holds block was opened before
        → IsGathered 64 (tables ++ before ∷ []) table → AreOf table.enrolled [] (tables ++ before ∷ [])
        → EndsMend is_up is_sound holds kept_of at table before others wanted ms opened mid (talk_of remaining contents x.driver)
        (talk_of remaining contents y.driver) (lines_of y.driver) came ended → result ≡ Err why → IsUnread why
        → y.report ≡ record x.report { frames = lines_of y.driver }
        → MendsOver is_up is_sound holds kept_of block remaining contents told others wanted tables was keep x y result
    unread_over others wanted tables was opened mid keep x y result before table ms came ended why same reads gathered of_these mends fails unread
        reports =
        rw fails (inr (not_mended told others wanted tables was opened mid _ _ _ _ _ why before table ms came ended same reads gathered of_these mends
        (inr (unread, reports))))

    pub mended_so : (others : List Block) (wanted : Mend) (tables : List Kept) (was opened mid keep : S) (x y : Session R W)
        (result : Result (Unit {0}) Failure) (before table after : Kept)
        (ms : List Mending) (of : Block) (came : Report) (ended : Result (Unit {0}) Failure) → at ≡ block → IsRead is_up is_sound holds block was opened before
        → IsGathered 64 (tables ++ before ∷ []) table → AreOf table.enrolled [] (tables ++ before ∷ [])
        → EndsMend is_up is_sound holds kept_of at table before others wanted ms opened mid (talk_of remaining contents x.driver)
        (talk_of remaining contents y.driver) (lines_of y.driver) came ended
        → IsRead is_up is_sound holds of mid keep after → AreMendsTold told after ms → AreTold told came.said.items → result ≡ ended
        → y.report ≡ record came { frames = lines_of y.driver }
        → MendsOver is_up is_sound holds kept_of block remaining contents told others wanted tables was keep x y result
    mended_so others wanted tables was opened mid keep x y result before table after ms of came (Err e) same reads
        gathered of_these mends last said tells is reports =
        rw is (inr (not_mended told others wanted tables was opened mid _ _ _ _ _ e before table ms came (Err e) same reads gathered of_these mends
        (inl (refl, reports, tells, (after, said)))))
    mended_so others wanted tables was opened mid keep x y result before table after ms of came (Ok tt) same reads
        gathered of_these mends last said tells is reports =
        rw is (mended told others wanted tables was opened mid keep _ _ _ _ before table after ms of came same reads gathered of_these mends last said
        tells reports)

-- all gear that share a short address are mended, if none is named and none is missing
pub all_mended : {S R W : Type 0} (is_up is_sound : S → Type 0) (holds : S → List Record → Type 0) (kept_of : S → Kept) (block mended : Block)
    (remaining : R → Option (List ℕ)) (contents : W → Option (List ℕ)) (told : Said → Type 0) (others : List Block) (wanted : Mend) (tables : List Kept)
    (was keep : S) (x z y : Session R W) (r : Result (Unit {0}) Failure)
    → wanted.named.items ≡ [] → wanted.missing.items ≡ [] → wanted.block ≡ mended → tables ≡ []
    → MendsOver is_up is_sound holds kept_of block remaining contents told others wanted tables was keep (with_enrolled x 0) z r
    → y ≡ with_enrolled z (min (z.report.enrolled + x.report.enrolled) (2 ^ 64 - 1))
    → HasMendedAll is_up is_sound holds kept_of block remaining contents told others mended was keep x y r
all_mended is_up is_sound holds kept_of block mended remaining contents told others wanted tables was keep x z y r named missing is none mends counts = (
  wanted,
  named,
  missing,
  is,
  (
    z,
    subst (λ t. MendsOver is_up is_sound holds kept_of block remaining contents told others wanted t was keep (with_enrolled x 0) z r) none mends,
    counts,
  ),
)

-- A MEND beside other tables, as it is lent.
pub mends_beside : {F K R W : Type 0} (is_up is_sound : K → Type 0) (holds : K → List Record → Type 0) (kept_of : K → Kept) (block_of : K → Block)
    (saw : F → Look → Type 0) (opens : F → Seen → K → Type 0) (remaining : R → Option (List ℕ)) (contents : W → Option (List ℕ)) (told : Said → Type 0)
    (others : List Block) (wanted : Mend) (stores : F) (name : List ℕ) (more : List (String Global)) (none tables : List Kept) (x y : Session R W)
    (done result : Result (Unit {0}) Failure) → none ≡ [] → AreRead saw stores more none tables → reserved_in wanted.block tables ≡ None
    → IsLent (IsOpened block_of saw opens stores name wanted.block)
    (λ from to p q done. MendsOver is_up is_sound holds kept_of (block_of from) remaining contents told others wanted tables from to p q done) x y done
    → result ≡ done
    → IsMendBeside is_up is_sound holds kept_of block_of saw opens remaining contents told others wanted stores name more x y result
unfolding IsMendBeside
mends_beside is_up is_sound holds kept_of block_of saw opens remaining contents told others wanted stores name more none tables x y done result empty
    reads reserved lent is =
    rw is (inr (tables, subst (λ ts. AreRead saw stores more ts tables) empty reads, reserved, lent))

-- A RUN that mends nothing.
pub ran_only : {S R W : Type 0} (is_up is_sound : S → Type 0) (holds : S → List Record → Type 0) (kept_of : S → Kept) (block first : Block)
    (remaining : R → Option (List ℕ)) (contents : W → Option (List ℕ)) (told : Said → Type 0) (others : List Block) (setup : Setup)
    (was opened mid : S) (x at : Session R W) (before : Kept) (ended : Result (Unit {0}) Failure) → first ≡ block
    → IsRead is_up is_sound holds block was opened before
    → HasRun is_up is_sound holds first remaining contents told others setup before opened mid x at ended
    → (setup.mends ≡ true → ended ≡ Err Shared → ⊥)
    → HasRunOver is_up is_sound holds kept_of block remaining contents told others setup was mid x at ended
ran_only is_up is_sound holds kept_of block first remaining contents told others setup was opened mid x at before ended same reads ran not =
    inr (
      before,
      opened,
      ended,
      mid,
      at,
      reads,
      subst (λ b. HasRun is_up is_sound holds b remaining contents told others setup before opened mid x at ended) same ran,
      inl (not, refl, refl, refl),
    )

-- A RUN that ended with gear that share short addresses, and mended these.
pub ran_and_mended : {S R W : Type 0} (is_up is_sound : S → Type 0) (holds : S → List Record → Type 0) (kept_of : S → Kept) (block first last : Block)
    (remaining : R → Option (List ℕ)) (contents : W → Option (List ℕ)) (told : Said → Type 0) (others : List Block) (setup : Setup)
    (was opened mid keep : S) (x at y : Session R W) (before : Kept)
    (ended result : Result (Unit {0}) Failure) → first ≡ block → last ≡ block → IsRead is_up is_sound holds block was opened before
    → HasRun is_up is_sound holds first remaining contents told others setup before opened mid x at ended → setup.mends ≡ true → ended ≡ Err Shared
    → HasMendedAll is_up is_sound holds kept_of last remaining contents told others setup.block mid keep at y result
    → HasRunOver is_up is_sound holds kept_of block remaining contents told others setup was keep x y result
ran_and_mended is_up is_sound holds kept_of block first last remaining contents told others setup was opened mid keep x at y before ended result same so
    reads ran mends is mended =
    inr (
      before,
      opened,
      ended,
      mid,
      at,
      reads,
      subst (λ b. HasRun is_up is_sound holds b remaining contents told others setup before opened mid x at ended) same ran,
      inr (
        mends,
        is,
        subst (λ b. HasMendedAll is_up is_sound holds kept_of b remaining contents told others setup.block mid keep at y result) so mended,
      ),
    )
