use Rattle.std.specs.Prelude.{◌≡◌, ◌⊎◌, ℕ, Bool, List, [], ◌∷◌, Option, Some, None, Result, Ok, Err}
use Rattle.std.specs.Prelude.{map, string_bytes}
use Rattle.std.specs.declared.alloc.Global.{Global}
use Rattle.std.specs.declared.string.String.{String}
use Rattle.dali_script.specs.declared.block.Block.{Block}
use Rattle.dali_script.specs.declared.records.Record.TheVariants.{Enrol}
use Rattle.dali_script.specs.Records.{Kept, Has, with_record}
use Rattle.dali_commissioning.specs.declared.census.Reply.{Reply}
use Rattle.dali_commissioning.specs.declared.census.Reply.TheVariants as heard
use Rattle.dali_commissioning.specs.Census.{IsAnswered}
use Rattle.dali_commissioning.specs.Drivers.{Talk, talk_of, has_heard, lines_of}
use Rattle.dali_replacement.specs.declared.come.Come.TheVariants.{Given}
use Rattle.dali_replacement.specs.declared.refusal.ReplaceRefusal.{ReplaceRefusal}
use Rattle.dali_replacement.specs.declared.refusal.ReplaceRefusal.TheVariants as refusal
use Rattle.dali_replacement.specs.declared.swapping.Swap.{Swap}
use Rattle.dali_replacement.specs.Permit.{confirmed_random}
use Rattle.dali_replacement.specs.Swapping.{address_of, names_of, number_of, texts_of}
use Rattle.dali_replacement.specs.Tables.{IsGathered, IsComplete}
use Rattle.dali_commission_said.specs.declared.failure.Failure.{Failure}
use Rattle.dali_commission_said.specs.declared.failure.Failure.TheVariants.{NotReplaced}
use Rattle.dali_commission_said.specs.declared.report.Report.{Report}
use Rattle.dali_commission_said.specs.declared.report.Session.{Session}
use Rattle.dali_commission_said.specs.declared.said.Said.{Said}
use Rattle.dali_commission_stores.specs.Calls.{Call, Look}
use Rattle.dali_commission_stores.specs.declared.records.Seen.{Seen}
use Rattle.dali_commission_stores.specs.Keeping.{AreFree}
use Rattle.dali_commission_stores.specs.Lent.{AreRead}
use Rattle.dali_commission_stores.specs.Settled.{IsExchanged}
use Rattle.dali_commission_asked.specs.Came.{IsCutAs}
use Rattle.dali_commission_tasks.specs.declared.tasks.Replacement.{Replacement}
use Rattle.dali_commission_replaced.specs.declared.replacing.DueSwap.{DueSwap}
use Rattle.dali_commission_replaced.specs.Asking.{HasAskedOthers, AreRenewed, IsNotDue, IsConfirmed}
use Rattle.dali_commission_replaced.specs.Asking.{IsNotConfirmedBy, first_table, NotesFirst}
use Rattle.dali_commission_replaced.specs.Asking.{IsLeftAt}
use Rattle.dali_commission_replaced.specs.Cut.{HasNotAskedOthers}
use Rattle.dali_commission_replaced.specs.Finishing.{AreFinished}
use Rattle.dali_commission_replaced.specs.Replacing.{AreAsideIf, AreAtPlaces, AreApart}
use Rattle.dali_commission_replaced.specs.Replacing.{AreUnannounced, AreBehind, IsDue}
use Rattle.dali_commission_replaced.specs.Tellings.{ConfirmedTold}

-- WHAT `replace --accept` PUTS: questions alone, which change no gear. The short address is asked,
-- and one gear answers there with its number. Then all is asked as in a replacement that has given
-- the address to this gear: it answers there again, and all others of the table are there, but
-- those that are known to be gone.
abbrev pub HasHeardThere : ℕ → Kept → List ℕ → ℕ → Talk → Talk → Type 0
HasHeardThere a table gone given x y =
    (at : Talk)
    × IsAnswered a (heard.Random given) x at
    × HasAskedOthers a (Given given) table gone at y

-- It fails: no gear answers there alone, or one that a table has; or the question is cut short.
abbrev pub IsKnown : ℕ → ℕ → List Kept → Type 0
IsKnown a r [] = ⊥
IsKnown a r (k ∷ more) = Has k.enrolled (a, r) ⊎ IsKnown a r more

abbrev pub NotAlone : ℕ → List Kept → Reply → ReplaceRefusal → Type 0
NotAlone a all heard.Silence why = why ≡ refusal.NewSilent
NotAlone a all (heard.Random r) why = IsKnown a r all × (why ≡ refusal.Answered)
NotAlone a all heard.Noise why = why ≡ refusal.SeveralAnswer
NotAlone a all heard.Unclear why = why ≡ refusal.SeveralAnswer
NotAlone a all heard.Several why = why ≡ refusal.SeveralAnswer

abbrev pub IsNotAlone : ℕ → List Kept → Failure → Talk → Talk → Type 0
IsNotAlone a all failure x y =
    ((reply : Reply)
    × IsAnswered a reply x y
    × ((why : ReplaceRefusal) × NotAlone a all reply why × (failure ≡ NotReplaced a why)))
    ⊎ ((line : ℕ) × IsCutAs failure line y)

-- Or the others are not all there.
abbrev pub HasNotHeardThere : Bool → ℕ → List Kept → Kept → List ℕ → Failure → Report → Report
    → Talk → Talk → Type 0
HasNotHeardThere hears a all table gone failure before after x y =
    (IsNotAlone a all failure x y × (after ≡ before))
    ⊎ ((given : ℕ)
    × (at : Talk)
    × IsAnswered a (heard.Random given) x at
    × HasNotAskedOthers hears a (Given given) table gone failure before after at y)

-- THE NEW FILES ARE FILLED with the gear of all tables but that of the address, and with the gear
-- that was heard there; and then it is asked for at last.
pub record HasAcceptedSo {F K : Type 0} (kept_of : K → Kept) (block_of : K → Block)
    (made : F → F → Call → Type 0) (saw : F → Look → Type 0) (opens : F → Seen → K → Type 0)
    (told : Said → Type 0) (wanted : Replacement) (names : List (String Global))
    (all news : List Kept) (random : ℕ) (was at : F) (x y : Talk) : Type 0 where
  pub stores : F
  pub aside : AreAsideIf wanted.is_again made saw told names was stores
  pub table : Kept
  pub gathered : IsGathered wanted.short all table
  pub given : ℕ
  pub behind : AreBehind saw stores wanted.short (Given given) names all
  pub before : Talk
  pub there : HasHeardThere wanted.short table wanted.missing.items given x before
  pub renewed : AreRenewed kept_of block_of made saw opens
      (with_record table (Enrol wanted.short given)) names all stores at [] news
  pub last : IsAnswered wanted.short (heard.Random random) before y

-- It fails: not all is heard; or it is, and no exchange is due then.
abbrev pub IsAcceptCut : {F K : Type 0} (kept_of : K → Kept) (block_of : K → Block)
    → (F → F → Call → Type 0) → (F → Look → Type 0) → (F → Seen → K → Type 0) → Replacement
    → List (String Global) → List Kept → F → Kept → Bool → Failure → Report → Report → Talk → Talk
    → Type 0
IsAcceptCut kept_of block_of made saw opens wanted names all stores table hears failure reported
    report x y =
    HasNotHeardThere hears wanted.short all table wanted.missing.items failure reported report x y
    ⊎ ((given : ℕ)
    × (before : Talk)
    × HasHeardThere wanted.short table wanted.missing.items given x before
    × IsNotDue kept_of block_of made saw opens wanted.short names all
    (with_record table (Enrol wanted.short given)) stores failure before y
    × (report ≡ reported))

pub record HasNotAcceptedSo {F K : Type 0} (kept_of : K → Kept) (block_of : K → Block)
    (made : F → F → Call → Type 0) (saw : F → Look → Type 0) (opens : F → Seen → K → Type 0)
    (told : Said → Type 0) (wanted : Replacement) (names : List (String Global)) (all : List Kept)
    (hears : Bool) (failure : Failure) (was : F) (reported report : Report) (x y : Talk)
    : Type 0 where
  pub stores : F
  pub aside : AreAsideIf wanted.is_again made saw told names was stores
  pub table : Kept
  pub gathered : IsGathered wanted.short all table
  pub puts : IsAcceptCut kept_of block_of made saw opens wanted names all stores table hears failure
      reported report x y

-- and that is reported
abbrev pub AcceptFailsSo : {F K R W : Type 0} (kept_of : K → Kept) (block_of : K → Block)
    → (F → F → Call → Type 0) → (F → Look → Type 0) → (F → Seen → K → Type 0)
    → (R → Option (List ℕ)) → (W → Option (List ℕ)) → (Said → Type 0) → Replacement
    → List (String Global) → List Kept → Failure → F → Session R W → Session R W → Type 0
AcceptFailsSo kept_of block_of made saw opens remaining contents told wanted names all failure was x
    y =
    ((y.driver ≡ x.driver) × (y.report ≡ record x.report { frames = lines_of y.driver }))
    ⊎ ((after : Report)
    × HasNotAcceptedSo kept_of block_of made saw opens told wanted names all (has_heard y.driver)
    failure was x.report after (talk_of remaining contents x.driver)
    (talk_of remaining contents y.driver)
    × (y.report ≡ record after { frames = lines_of y.driver }))

-- So it is while the records are held: an exchange is due then, or nothing is put, or a beginning.
abbrev pub AcceptDues : {F K R W : Type 0} (kept_of : K → Kept) (block_of : K → Block)
    → (F → F → Call → Type 0) → (F → Look → Type 0) → (F → Seen → K → Type 0)
    → (R → Option (List ℕ)) → (W → Option (List ℕ)) → (Said → Type 0) → Replacement
    → List (String Global) → List Kept → F → F → Session R W → Session R W
    → Result DueSwap Failure → Type 0
AcceptDues kept_of block_of made saw opens remaining contents told wanted names all was at x y
    (Ok due) =
    AreUnannounced saw was names
    × IsDue saw at wanted.short names all due
    × HasAcceptedSo kept_of block_of made saw opens told wanted names all due.news.items
    (confirmed_random due.confirmed) was at (talk_of remaining contents x.driver)
    (talk_of remaining contents y.driver)
    × (y.report ≡ record x.report { frames = lines_of y.driver })
AcceptDues kept_of block_of made saw opens remaining contents told wanted names all was at x y
    (Err failure) =
    (y ≡ x)
    ⊎ (AreUnannounced saw was names
    × AcceptFailsSo kept_of block_of made saw opens remaining contents told wanted names all failure
    was x y)

-- A LUMINAIRE IS ACCEPTED in all records of a site: the new tables are complete, the files are
-- exchanged, and it is said which gear has the address now.
pub record HasAcceptedAnew {F K R W : Type 0} (kept_of : K → Kept) (block_of : K → Block)
    (made : F → F → Call → Type 0) (saw : F → Look → Type 0) (opens : F → Seen → K → Type 0)
    (remaining : R → Option (List ℕ)) (contents : W → Option (List ℕ)) (told : Said → Type 0)
    (wanted : Replacement) (names : List (String Global)) (random : ℕ) (was now : F)
    (x y : Session R W) : Type 0 where
  pub all : List Kept
  pub held : AreRead saw was names [] all
  pub bare : AreUnannounced saw was names
  pub news : List Kept
  pub at : F
  pub accepted : HasAcceptedSo kept_of block_of made saw opens told wanted names all news random
      was at (talk_of remaining contents x.driver) (talk_of remaining contents y.driver)
  pub swap : Swap
  pub of : address_of swap ≡ wanted.short
  pub files : texts_of swap ≡ map string_bytes names
  pub free : AreFree saw at [] (number_of swap) names
  pub count : ℕ
  pub complete : IsComplete count wanted.short random all news
  pub exchanged : IsExchanged made saw swap at now
  pub says : ConfirmedTold told wanted.short random news
  pub reports : y.report ≡ first_table news (record x.report { frames = lines_of y.driver })

-- so it is if no exchange of an earlier call was brought to its end; else that one is confirmed
abbrev pub IsAcceptedAfter : {F K R W : Type 0} (kept_of : K → Kept) (block_of : K → Block)
    → (F → F → Call → Type 0) → (F → Look → Type 0) → (F → Seen → K → Type 0)
    → (R → Option (List ℕ)) → (W → Option (List ℕ)) → (Said → Type 0) → Replacement
    → List (String Global) → List (String Global) → ℕ → Option Swap → F → F → Session R W
    → Session R W → Type 0
IsAcceptedAfter kept_of block_of made saw opens remaining contents told wanted records names random
    None was now x y =
    HasAcceptedAnew kept_of block_of made saw opens remaining contents told wanted names random was
    now x y
IsAcceptedAfter kept_of block_of made saw opens remaining contents told wanted records names random
    (Some swap) was now x y =
    (now ≡ was)
    × IsConfirmed saw told wanted.short wanted.missing.items was (names_of swap) random
    (talk_of remaining contents x.driver) (talk_of remaining contents y.driver)
    × NotesFirst saw was records (record x.report { frames = lines_of y.driver }) y.report

abbrev pub HasAccepted : {F K R W : Type 0} (kept_of : K → Kept) (block_of : K → Block)
    → (F → F → Call → Type 0) → (F → Look → Type 0) → (F → Seen → K → Type 0)
    → (R → Option (List ℕ)) → (W → Option (List ℕ)) → (Said → Type 0) → Replacement
    → List (String Global) → ℕ → F → F → Session R W → Session R W → Type 0
HasAccepted {F = F} kept_of block_of made saw opens remaining contents told wanted records random
    was now x y =
    (names : List (String Global))
    × (at : F)
    × (earlier : Option Swap)
    × AreAtPlaces saw was records [] names
    × AreApart names
    × AreFinished made saw told wanted.short names was at earlier
    × IsAcceptedAfter kept_of block_of made saw opens remaining contents told wanted records names
    random earlier at now x y

-- WHAT A CALL PUTS THAT FAILED: nothing; or a beginning of the above, for what it answers; or all
-- of it, and the files could not be closed, or were exchanged in part.
abbrev pub AcceptFailsAfter : {F K R W : Type 0} (kept_of : K → Kept) (block_of : K → Block)
    (made began : F → F → Call → Type 0)
    → (F → Look → Type 0) → (F → Seen → K → Type 0)
    → (R → Option (List ℕ)) → (W → Option (List ℕ)) → (Said → Type 0) → Replacement
    → List (String Global) → Failure → Option Swap → F → F → Session R W → Session R W → Type 0
AcceptFailsAfter {F = F} kept_of block_of made began saw opens remaining contents told wanted names
    failure None was now x y =
    (all : List Kept)
    × AreRead saw was names [] all
    × AreUnannounced saw was names
    × (AcceptFailsSo kept_of block_of made saw opens remaining contents told wanted names all
    failure was x y
    ⊎ ((due : DueSwap)
    × (at : F)
    × IsDue saw at wanted.short names all due
    × HasAcceptedSo kept_of block_of made saw opens told wanted names all due.news.items
    (confirmed_random due.confirmed) was at (talk_of remaining contents x.driver)
    (talk_of remaining contents y.driver)
    × IsLeftAt made began saw due at now
    × (y.report ≡ record x.report { frames = lines_of y.driver })))
AcceptFailsAfter kept_of block_of made began saw opens remaining contents told wanted names failure
    (Some swap) was now x y =
    (now ≡ was)
    × IsNotConfirmedBy saw remaining contents wanted.short wanted.missing.items was (names_of swap)
    failure x y

abbrev pub HasNotAccepted : {F K R W : Type 0} (kept_of : K → Kept) (block_of : K → Block)
    (made began : F → F → Call → Type 0)
    → (F → Look → Type 0) → (F → Seen → K → Type 0)
    → (R → Option (List ℕ)) → (W → Option (List ℕ)) → (Said → Type 0) → Replacement
    → List (String Global) → Failure → F → F → Session R W → Session R W → Type 0
HasNotAccepted {F = F} kept_of block_of made began saw opens remaining contents told wanted records
    failure was now x y =
    (y ≡ x)
    ⊎ ((names : List (String Global))
    × (at : F)
    × (earlier : Option Swap)
    × AreAtPlaces saw was records [] names
    × AreApart names
    × AreFinished made saw told wanted.short names was at earlier
    × AcceptFailsAfter kept_of block_of made began saw opens remaining contents told wanted names
    failure earlier at now x y)

-- A LUMINAIRE IS ACCEPTED SO, or not
abbrev pub IsAcceptance : {F K R W : Type 0} (kept_of : K → Kept) (block_of : K → Block)
    (made began : F → F → Call → Type 0)
    → (F → Look → Type 0) → (F → Seen → K → Type 0)
    → (R → Option (List ℕ)) → (W → Option (List ℕ)) → (Said → Type 0) → Replacement
    → List (String Global) → F → F → Session R W → Session R W → Result (Unit {0}) Failure
    → Type 0
IsAcceptance kept_of block_of made began saw opens remaining contents told wanted records was now x
    y (Ok done) =
    (random : ℕ)
    × HasAccepted kept_of block_of made saw opens remaining contents told wanted records random was
    now x y
IsAcceptance kept_of block_of made began saw opens remaining contents told wanted records was now x
    y (Err failure) =
    HasNotAccepted kept_of block_of made began saw opens remaining contents told wanted records
    failure was now x y
