use Rattle.std.specs.Prelude.{◌≡◌, ◌⊎◌, ℕ, Bool, true, false, List, [], ◌∷◌, ◌++◌, length, map}
use Rattle.std.specs.Prelude.{Option, Some, None, option_map, slice_get, Result, Ok, Err, OnOk}
use Rattle.std.specs.Prelude.{string_bytes}
use Rattle.std.specs.declared.alloc.Global.{Global}
use Rattle.std.specs.declared.string.String.{String}
use Rattle.dali_script.specs.declared.block.Block.{Block}
use Rattle.dali_script.specs.declared.orders.End.TheVariants.{BlockFull}
use Rattle.dali_script.specs.declared.records.Record.{Record}
use Rattle.dali_script.specs.Records.{Kept, HasAddress}
use Rattle.dali_commissioning.specs.declared.census.Reply.{Reply}
use Rattle.dali_commissioning.specs.declared.census.Reply.TheVariants as heard
use Rattle.dali_commissioning.specs.declared.conducting.Ended.{Ended}
use Rattle.dali_commissioning.specs.declared.conducting.Ended.TheVariants.{Done}
use Rattle.dali_commissioning.specs.declared.conducting.PassEnd.{PassEnd}
use Rattle.dali_commissioning.specs.declared.driver.DriverLink.{DriverLink}
use Rattle.dali_commissioning.specs.Census.{IsAnswered}
use Rattle.dali_commissioning.specs.Drivers.{Talk, talk_of, has_heard, lines_of}
use Rattle.dali_commissioning.specs.Places.{places}
use Rattle.dali_commissioning.specs.Runs.{IsRead}
use Rattle.dali_replacement.specs.declared.come.Come.{Come}
use Rattle.dali_replacement.specs.declared.come.Come.TheVariants.{Nowhere, Reserved, Given}
use Rattle.dali_replacement.specs.declared.refusal.ReplaceFault.{ReplaceFault}
use Rattle.dali_replacement.specs.declared.refusal.ReplaceRefusal.TheVariants as refusal
use Rattle.dali_replacement.specs.Come.{may_be_heard}
use Rattle.dali_replacement.specs.Permit.{HasGiven, HasLooked, IsNotLooked, alone}
use Rattle.dali_replacement.specs.Permit.{confirmed_random}
use Rattle.dali_replacement.specs.Standing.{AreHeard, AreThere}
use Rattle.dali_replacement.specs.Swapping.{address_of, number_of, names_of, texts_of}
use Rattle.dali_replacement.specs.declared.swapping.Swap.{Swap}
use Rattle.dali_replacement.specs.Tables.{AreGiven, IsGathered, IsComplete, Keeps, Reserves}
use Rattle.dali_commission_said.specs.declared.failure.Failure.{Failure}
use Rattle.dali_commission_said.specs.declared.failure.Failure.TheVariants.{NotReplaced}
use Rattle.dali_commission_said.specs.declared.report.Report.{Report}
use Rattle.dali_commission_said.specs.declared.report.Session.{Session}
use Rattle.dali_commission_said.specs.declared.progress.Aim.{Aim}
use Rattle.dali_commission_said.specs.declared.said.Said.{Said}
use Rattle.dali_commission_said.specs.Failures.{ended_as, fault_of, although_exchanged}
use Rattle.dali_commission_said.specs.Reports.{heard_of, table_of}
use Rattle.dali_commission_said.specs.Said.{AreTold, WhySaid, heard_said}
use Rattle.dali_commission_stores.specs.Calls.{Call, Look, Read, AreMade}
use Rattle.dali_commission_stores.specs.declared.records.Seen.{Seen}
use Rattle.dali_commission_stores.specs.Keeping.{AreFree}
use Rattle.dali_commission_stores.specs.Lent.{IsLent, IsOpened, AreRead, lent_calls}
use Rattle.dali_commission_stores.specs.Settled.{IsExchanged, IsExchangedInPart}
use Rattle.dali_commission_stores.specs.Settling.{new_at}
use Rattle.dali_commission_asked.specs.declared.ending.AtLast.{AtLast}
use Rattle.dali_commission_asked.specs.Ending.{HasAskedAtLast, pass_at_last}
use Rattle.dali_commission_tasks.specs.declared.tasks.Replacement.{Replacement}
use Rattle.dali_commission_replaced.specs.declared.replacing.DueSwap.{DueSwap}
use Rattle.dali_commission_replaced.specs.Cut.{HasNotAskedOthers, IsGivingCut, IsNotInFirst}
use Rattle.dali_commission_replaced.specs.Cut.{IsNotHeardOf}
use Rattle.dali_commission_replaced.specs.Finishing.{AreFinished, AreFinishedInPart}
use Rattle.dali_commission_replaced.specs.Replacing.{IsGiver, HasCome, AreAsideIf, AreAtPlaces}
use Rattle.dali_commission_replaced.specs.Replacing.{AreApart, AreUnannounced, IsDue, FirstUnknown}
use Rattle.dali_commission_replaced.specs.Tellings.{ConfirmedTold}

-- WHAT `replace` PUTS. First the short address is asked, and then each gear of the table: what is
-- heard there may be, given how far an earlier call has come, and all others are there but those
-- that are known to be gone.
abbrev pub HasAskedOthers : ℕ → Come → Kept → List ℕ → Talk → Talk → Type 0
HasAskedOthers a come table gone x y =
    (reply : Reply)
    × (at : Talk)
    × (replies : List Reply)
    × IsAnswered a reply x at
    × (may_be_heard come reply ≡ true)
    × (length replies ≡ 64)
    × AreHeard table 0 replies at y
    × AreThere 0 gone (places table [] replies)

-- An exchange that an earlier call has begun is confirmed: the gear of its tables is asked for.
abbrev pub HasConfirmed : ℕ → List ℕ → List Kept → ℕ → Talk → Talk → Type 0
HasConfirmed a gone tables random x y =
    (table : Kept)
    × (given : ℕ)
    × (at : Talk)
    × IsGathered a tables table
    × HasAskedOthers a (Given given) table gone x at
    × IsAnswered a (heard.Random random) at y

abbrev pub IsConfirmed : {F : Type 0} → (F → Look → Type 0) → (Said → Type 0) → ℕ → List ℕ → F
    → List (String Global) → ℕ → Talk → Talk → Type 0
IsConfirmed saw told a gone stores names random x y =
    (tables : List Kept)
    × AreRead saw stores names [] tables
    × HasConfirmed a gone tables random x y
    × ConfirmedTold told a random tables

-- If that fails: no gear has the address by the first table, or two disagree, and nothing is put;
-- or the others are not all there, or the gear is not heard.
abbrev pub LacksFirst : ℕ → List Kept → Type 0
LacksFirst a [] = Unit {0}
LacksFirst a (table ∷ more) = HasAddress table.enrolled a → ⊥

abbrev pub HasNotConfirmed : Bool → ℕ → List ℕ → List Kept → Failure → Report → Report → Talk
    → Talk → Type 0
HasNotConfirmed heard a gone tables failure before after x y =
    ((y ≡ x)
    × (after ≡ before)
    × ((LacksFirst a tables × (failure ≡ NotReplaced a refusal.NotGiven))
    ⊎ ((other : ℕ) × (failure ≡ NotReplaced other refusal.Disagree))))
    ⊎ ((table : Kept)
    × (given : ℕ)
    × IsGathered a tables table
    × (HasNotAskedOthers heard a (Given given) table gone failure before after x y
    ⊎ ((at : Talk)
    × HasAskedOthers a (Given given) table gone x at
    × IsNotHeardOf a tables failure at y
    × (after ≡ before))))

abbrev pub IsNotConfirmedBy : {F R W : Type 0} → (F → Look → Type 0) → (R → Option (List ℕ))
    → (W → Option (List ℕ)) → ℕ → List ℕ → F → List (String Global) → Failure → Session R W
    → Session R W → Type 0
IsNotConfirmedBy saw remaining contents a gone stores names failure x y =
    (tables : List Kept)
    × (failed : Failure)
    × (after : Report)
    × AreRead saw stores names [] tables
    × HasNotConfirmed (has_heard y.driver) a gone tables failed x.report after
    (talk_of remaining contents x.driver) (talk_of remaining contents y.driver)
    × (failure ≡ although_exchanged failed)
    × (y.report ≡ record after { frames = lines_of y.driver })

-- THE ADDRESS IS GIVEN by surveys over new records that are open; then gear are asked at last, and
-- it is said how the surveys ended, by the records then. A full block is no failure: the records
-- say whether the new gear has the address.
abbrev pub given_as : Ended → Bool → Result (Unit {0}) Failure
given_as (Done BlockFull) heard = Ok tt
given_as ended heard = ended_as ended heard

pub record HasGivenSo {S : Type 0} (is_up is_sound : S → Type 0)
    (holds : S → List Record → Type 0) (kept_of : S → Kept) (block : Block) (told : Said → Type 0)
    (a : ℕ) (table : Kept) (keep : S) (x y : Talk) (result : Result (Unit {0}) Failure)
    : Type 0 where
  pub pass : PassEnd
  pub mid : S
  pub at : Talk
  pub gave : HasGiven is_up is_sound holds kept_of block a table mid x at pass
  pub after : Kept
  pub of : Block
  pub reads : IsRead is_up is_sound holds of mid keep after
  pub last : AtLast
  pub asked : HasAskedAtLast pass after.enrolled last at y
  pub aim : Aim
  pub lines : List Said
  pub why : WhySaid (heard_said (heard_of (pass_at_last pass last).heard)) (pass_at_last pass last)
      after aim lines
  pub said : AreTold told lines
  pub so : result ≡ given_as (pass_at_last pass last).ended last.is_there

abbrev pub GivesSo : {S : Type 0} (is_up is_sound : S → Type 0) (holds : S → List Record → Type 0)
    (kept_of : S → Kept) → Block → (Said → Type 0) → ℕ → Kept → S → Talk → Talk
    → Result (Unit {0}) Failure → Type 0
GivesSo is_up is_sound holds kept_of block told a table keep x y (Ok done) =
    HasGivenSo is_up is_sound holds kept_of block told a table keep x y (Ok done)
GivesSo is_up is_sound holds kept_of block told a table keep x y (Err failure) =
    HasGivenSo is_up is_sound holds kept_of block told a table keep x y (Err failure)
    ⊎ IsGivingCut is_up is_sound holds kept_of block a table failure keep x y

-- In the giver's new file it is given only once one gear alone has no short address; nothing is put
-- if an earlier call has given it.
abbrev pub is_given : Come → Bool
is_given Nowhere = false
is_given (Reserved r) = false
is_given (Given r) = true

abbrev pub IsGivenIn : {F K R W : Type 0} (is_up is_sound : K → Type 0)
    (holds : K → List Record → Type 0) (kept_of : K → Kept) (block_of : K → Block)
    → (F → Look → Type 0) → (F → Seen → K → Type 0) → (R → Option (List ℕ))
    → (W → Option (List ℕ)) → (Said → Type 0) → ℕ → Come → Kept → F → List ℕ → DriverLink R W
    → DriverLink R W → Result (Unit {0}) Failure → Type 0
IsGivenIn {R = R} {W = W} is_up is_sound holds kept_of block_of saw opens remaining contents told a
    come table stores name x y result =
    (mid : DriverLink R W)
    × HasLooked a table come (talk_of remaining contents x) (talk_of remaining contents mid)
    × IsLent (IsOpened block_of saw opens stores (new_at name) (alone a))
    (λ from to p q done. GivesSo is_up is_sound holds kept_of (block_of from) told a table to
    (talk_of remaining contents p) (talk_of remaining contents q) done)
    mid y result

abbrev pub GivesFirst : {F K R W : Type 0} (is_up is_sound : K → Type 0)
    (holds : K → List Record → Type 0) (kept_of : K → Kept) (block_of : K → Block)
    → (F → F → Call → Type 0) → (F → Look → Type 0) → (F → Seen → K → Type 0)
    → (R → Option (List ℕ)) → (W → Option (List ℕ)) → (Said → Type 0) → ℕ → Come → Kept → List ℕ
    → F → F → DriverLink R W → DriverLink R W → Type 0
GivesFirst is_up is_sound holds kept_of block_of made saw opens remaining contents told a come table
    name stores given x y =
    ((is_given come ≡ true) × (given ≡ stores) × (y ≡ x))
    ⊎ ((is_given come ≡ false)
    × AreMade made (lent_calls (new_at name)) stores given
    × IsGivenIn is_up is_sound holds kept_of block_of saw opens remaining contents told a come table
    stores name x y (Ok (tt {0})))

-- If that fails: nothing is put, or no gear alone has no short address, or records are not lent.
abbrev pub GivesNone : {F K R W : Type 0} (is_up is_sound : K → Type 0)
    (holds : K → List Record → Type 0) (kept_of : K → Kept) (block_of : K → Block)
    → (F → Look → Type 0) → (F → Seen → K → Type 0) → (R → Option (List ℕ))
    → (W → Option (List ℕ)) → (Said → Type 0) → ℕ → Come → Kept → F → List ℕ → Failure
    → DriverLink R W → DriverLink R W → Type 0
GivesNone is_up is_sound holds kept_of block_of saw opens remaining contents told a come table
    stores name failure x y =
    ((why : ReplaceFault)
    × (line : ℕ)
    × (failure ≡ fault_of a why line)
    × IsNotLooked a table come why (talk_of remaining contents x) (talk_of remaining contents y))
    ⊎ IsGivenIn is_up is_sound holds kept_of block_of saw opens remaining contents told a come table
    stores name x y (Err failure)

abbrev pub IsNamed : List (String Global) → ℕ → List ℕ → Type 0
IsNamed names giver name =
    option_map (λ it. string_bytes it) (slice_get names giver) ≡ Some name

abbrev pub HasNotGivenFirst : {F K R W : Type 0} (is_up is_sound : K → Type 0)
    (holds : K → List Record → Type 0) (kept_of : K → Kept) (block_of : K → Block)
    → (F → Look → Type 0) → (F → Seen → K → Type 0) → (R → Option (List ℕ))
    → (W → Option (List ℕ)) → (Said → Type 0) → ℕ → Come → Kept → List (String Global) → ℕ → F
    → Failure → DriverLink R W → DriverLink R W → Type 0
HasNotGivenFirst is_up is_sound holds kept_of block_of saw opens remaining contents told a come
    table names giver stores failure x y =
    (y ≡ x)
    ⊎ ((name : List ℕ)
    × IsNamed names giver name
    × (is_given come ≡ false)
    × GivesNone is_up is_sound holds kept_of block_of saw opens remaining contents told a come table
    stores name failure x y)

-- THE OTHER NEW FILES ARE FILLED with the gear of the giver's, one after the other, and with what
-- the old ones have reserved for these; and then they are read.
abbrev pub all_shorts : Block
all_shorts = record { first = 0; last = 63 }

abbrev pub IsRenewed : {F K : Type 0} (kept_of : K → Kept) (block_of : K → Block)
    → (F → F → Call → Type 0) → (F → Look → Type 0) → (F → Seen → K → Type 0) → Kept → Kept
    → List ℕ → F → F → Kept → Type 0
IsRenewed kept_of block_of made saw opens first old name x y new =
    AreMade made (lent_calls (new_at name)) x y
    × saw y (Read (new_at name) new)
    × IsLent (IsOpened block_of saw opens x (new_at name) all_shorts)
    (λ from to p q done. (q ≡ p) × OnOk done (Keeps first (kept_of to)
    × Reserves old.reserved first (kept_of to)))
    (tt {0}) (tt {0}) (Ok (tt {0}))

abbrev pub AreRenewed : {F K : Type 0} (kept_of : K → Kept) (block_of : K → Block)
    → (F → F → Call → Type 0) → (F → Look → Type 0) → (F → Seen → K → Type 0) → Kept
    → List (String Global) → List Kept → F → F → List Kept → List Kept → Type 0
AreRenewed kept_of block_of made saw opens first [] olds x y before after =
    (x ≡ y) × (after ≡ before)
AreRenewed kept_of block_of made saw opens first (name ∷ more) [] x y before after =
    (x ≡ y) × (after ≡ before)
AreRenewed {F = F} kept_of block_of made saw opens first (name ∷ more) (old ∷ olds) x y before
    after =
    (z : F)
    × (new : Kept)
    × IsRenewed kept_of block_of made saw opens first old (string_bytes name) x z new
    × AreRenewed kept_of block_of made saw opens first more olds z y (before ++ new ∷ []) after

-- WHAT IS DECIDED before the bus is asked: a replacement goes on where an earlier call has come to,
-- by the new files that lie there once these are put aside, if it is to begin again.
pub record IsPlanned {F : Type 0} (made : F → F → Call → Type 0) (saw : F → Look → Type 0)
    (told : Said → Type 0) (wanted : Replacement) (names : List (String Global)) (all : List Kept)
    (was : F) : Type 0 where
  pub stores : F
  pub aside : AreAsideIf wanted.is_again made saw told names was stores
  pub giver : ℕ
  pub gives : IsGiver wanted all giver
  pub come : Come
  pub comes : HasCome saw stores names all giver wanted.short come
  pub table : Kept
  pub gathered : IsGathered wanted.short all table
  pub known : FirstUnknown wanted.short all wanted.missing.items None

-- A REPLACEMENT asks for all others, gives the address in the giver's new file, fills the others,
-- and asks for the new gear at last.
pub record HasReplacedSo {F K R W : Type 0} (is_up is_sound : K → Type 0)
    (holds : K → List Record → Type 0) (kept_of : K → Kept) (block_of : K → Block)
    (made : F → F → Call → Type 0) (saw : F → Look → Type 0) (opens : F → Seen → K → Type 0)
    (remaining : R → Option (List ℕ)) (contents : W → Option (List ℕ)) (told : Said → Type 0)
    (wanted : Replacement) (names : List (String Global)) (all news : List Kept) (random : ℕ)
    (was at : F) (x y : DriverLink R W) : Type 0 where
  pub plan : IsPlanned made saw told wanted names all was
  pub before : DriverLink R W
  pub others : HasAskedOthers wanted.short plan.come plan.table wanted.missing.items
      (talk_of remaining contents x) (talk_of remaining contents before)
  pub name : List ℕ
  pub named : IsNamed names plan.giver name
  pub given : F
  pub after : DriverLink R W
  pub gave : GivesFirst is_up is_sound holds kept_of block_of made saw opens remaining contents told
      wanted.short plan.come plan.table name plan.stores given before after
  pub first : Kept
  pub read : saw given (Read (new_at name) first)
  pub has : HasAddress first.enrolled wanted.short
  pub renewed : AreRenewed kept_of block_of made saw opens first names all given at [] news
  pub last : IsAnswered wanted.short (heard.Random random) (talk_of remaining contents after)
      (talk_of remaining contents y)

-- If that fails once the address was given: others are not filled, and nothing is put; or the new
-- gear is not heard; or it is, and no exchange is due. Or the giver's new records do not have it,
-- and it is asked why.
abbrev pub IsNotDue : {F K : Type 0} (kept_of : K → Kept) (block_of : K → Block)
    → (F → F → Call → Type 0) → (F → Look → Type 0) → (F → Seen → K → Type 0) → ℕ
    → List (String Global) → List Kept → Kept → F → Failure → Talk → Talk → Type 0
IsNotDue {F = F} kept_of block_of made saw opens a names all first given failure x y =
    (y ≡ x)
    ⊎ ((at : F)
    × (news : List Kept)
    × AreRenewed kept_of block_of made saw opens first names all given at [] news
    × (IsNotHeardOf a news failure x y
    ⊎ ((random : ℕ) × AreGiven a random news × IsAnswered a (heard.Random random) x y)))

abbrev pub EndsCut : {F K : Type 0} (kept_of : K → Kept) (block_of : K → Block)
    → (F → F → Call → Type 0) → (F → Look → Type 0) → (F → Seen → K → Type 0) → ℕ
    → List (String Global) → List Kept → Kept → F → Failure → Talk → Talk → Type 0
EndsCut kept_of block_of made saw opens a names all first given failure x y =
    ((HasAddress first.enrolled a → ⊥) × IsNotInFirst a failure x y)
    ⊎ (HasAddress first.enrolled a
    × IsNotDue kept_of block_of made saw opens a names all first given failure x y)

abbrev pub GivesCut : {F K R W : Type 0} (is_up is_sound : K → Type 0)
    (holds : K → List Record → Type 0) (kept_of : K → Kept) (block_of : K → Block)
    → (F → F → Call → Type 0) → (F → Look → Type 0) → (F → Seen → K → Type 0)
    → (R → Option (List ℕ)) → (W → Option (List ℕ)) → (Said → Type 0) → ℕ → Come → Kept
    → List (String Global) → List Kept → ℕ → F → Failure → DriverLink R W → DriverLink R W
    → Type 0
GivesCut {F = F} {R = R} {W = W} is_up is_sound holds kept_of block_of made saw opens remaining
    contents told a come table names all giver stores failure x y =
    HasNotGivenFirst is_up is_sound holds kept_of block_of saw opens remaining contents told a come
    table names giver stores failure x y
    ⊎ ((name : List ℕ)
    × IsNamed names giver name
    × (given : F)
    × (after : DriverLink R W)
    × GivesFirst is_up is_sound holds kept_of block_of made saw opens remaining contents told a come
    table name stores given x after
    × (first : Kept)
    × saw given (Read (new_at name) first)
    × EndsCut kept_of block_of made saw opens a names all first given failure
    (talk_of remaining contents after) (talk_of remaining contents y))

-- before that the others are not all there
pub record HasNotReplacedSo {F K R W : Type 0} (is_up is_sound : K → Type 0)
    (holds : K → List Record → Type 0) (kept_of : K → Kept) (block_of : K → Block)
    (made : F → F → Call → Type 0) (saw : F → Look → Type 0) (opens : F → Seen → K → Type 0)
    (remaining : R → Option (List ℕ)) (contents : W → Option (List ℕ)) (told : Said → Type 0)
    (wanted : Replacement) (names : List (String Global)) (all : List Kept) (failure : Failure)
    (was : F) (reported report : Report) (x y : DriverLink R W) : Type 0 where
  pub plan : IsPlanned made saw told wanted names all was
  pub puts : HasNotAskedOthers (has_heard y) wanted.short plan.come plan.table wanted.missing.items
      failure reported report (talk_of remaining contents x) (talk_of remaining contents y)
      ⊎ ((before : DriverLink R W)
      × HasAskedOthers wanted.short plan.come plan.table wanted.missing.items
      (talk_of remaining contents x) (talk_of remaining contents before)
      × GivesCut is_up is_sound holds kept_of block_of made saw opens remaining contents told
      wanted.short plan.come plan.table names all plan.giver plan.stores failure before y
      × (report ≡ reported))

-- WHAT IS REPORTED: how many frames were put, and the table of the first file
abbrev pub first_table : List Kept → Report → Report
first_table [] report = report
first_table (table ∷ more) report =
    record report { table = record { items = table_of table } }

-- A LUMINAIRE IS REPLACED in all records of a site, once a copy of each was read and while they are
-- held: no journal lies beside any then, and the new tables are complete. The files are exchanged,
-- and it is said which gear has the address now.
pub record HasReplacedAnew {F K R W : Type 0} (is_up is_sound : K → Type 0)
    (holds : K → List Record → Type 0) (kept_of : K → Kept) (block_of : K → Block)
    (made : F → F → Call → Type 0) (saw : F → Look → Type 0) (opens : F → Seen → K → Type 0)
    (remaining : R → Option (List ℕ)) (contents : W → Option (List ℕ)) (told : Said → Type 0)
    (wanted : Replacement) (names : List (String Global)) (random : ℕ) (was now : F)
    (x y : Session R W) : Type 0 where
  pub copies : List Kept
  pub read : AreRead saw was names [] copies
  pub all : List Kept
  pub held : AreRead saw was names [] all
  pub bare : AreUnannounced saw was names
  pub news : List Kept
  pub at : F
  pub replaced : HasReplacedSo is_up is_sound holds kept_of block_of made saw opens remaining
      contents told wanted names all news random was at x.driver y.driver
  pub swap : Swap
  pub of : address_of swap ≡ wanted.short
  pub files : texts_of swap ≡ map string_bytes names
  pub free : AreFree saw at [] (number_of swap) names
  pub count : ℕ
  pub complete : IsComplete count wanted.short random all news
  pub exchanged : IsExchanged made saw swap at now
  pub says : ConfirmedTold told wanted.short random news
  pub reports : y.report ≡ first_table news (record x.report { frames = lines_of y.driver })

-- the table of the first file is read, or none is reported if it cannot be
abbrev pub NotesFirst : {F : Type 0} → (F → Look → Type 0) → F → List (String Global) → Report
    → Report → Type 0
NotesFirst saw stores [] before after = after ≡ before
NotesFirst saw stores (name ∷ more) before after =
    (after ≡ before)
    ⊎ ((kept : Kept)
    × saw stores (Read (string_bytes name) kept)
    × (after ≡ first_table (kept ∷ []) before))

-- so it is if no exchange of an earlier call was brought to its end; else that one is confirmed
abbrev pub IsReplacedAfter : {F K R W : Type 0} (is_up is_sound : K → Type 0)
    (holds : K → List Record → Type 0) (kept_of : K → Kept) (block_of : K → Block)
    → (F → F → Call → Type 0) → (F → Look → Type 0) → (F → Seen → K → Type 0)
    → (R → Option (List ℕ)) → (W → Option (List ℕ)) → (Said → Type 0) → Replacement
    → List (String Global) → List (String Global) → ℕ → Option Swap → F → F → Session R W
    → Session R W → Type 0
IsReplacedAfter is_up is_sound holds kept_of block_of made saw opens remaining contents told wanted
    records names random None was now x y =
    HasReplacedAnew is_up is_sound holds kept_of block_of made saw opens remaining contents told
    wanted names random was now x y
IsReplacedAfter is_up is_sound holds kept_of block_of made saw opens remaining contents told wanted
    records names random (Some swap) was now x y =
    (now ≡ was)
    × IsConfirmed saw told wanted.short wanted.missing.items was (names_of swap) random
    (talk_of remaining contents x.driver) (talk_of remaining contents y.driver)
    × NotesFirst saw was records (record x.report { frames = lines_of y.driver }) y.report

-- WHAT A CALL PUTS that ended well, with the new gear that was heard. The files of these records
-- are apart where they lie; each exchange that an earlier call has begun is brought to its end, or
-- taken back; and then the new gear is confirmed, or the luminaire is replaced.
abbrev pub HasReplaced : {F K R W : Type 0} (is_up is_sound : K → Type 0)
    (holds : K → List Record → Type 0) (kept_of : K → Kept) (block_of : K → Block)
    → (F → F → Call → Type 0) → (F → Look → Type 0) → (F → Seen → K → Type 0)
    → (R → Option (List ℕ)) → (W → Option (List ℕ)) → (Said → Type 0) → Replacement
    → List (String Global) → ℕ → F → F → Session R W → Session R W → Type 0
HasReplaced {F = F} is_up is_sound holds kept_of block_of made saw opens remaining contents told
    wanted records random was now x y =
    (names : List (String Global))
    × (at : F)
    × (earlier : Option Swap)
    × AreAtPlaces saw was records [] names
    × AreApart names
    × AreFinished made saw told wanted.short names was at earlier
    × IsReplacedAfter is_up is_sound holds kept_of block_of made saw opens remaining contents told
    wanted records names random earlier at now x y

-- WHAT A CALL PUTS THAT FAILED: nothing; or, with the same files and once each earlier exchange was
-- brought to its end, a beginning of the above, for what it answers. Or all of it was put, and the
-- files could not be closed, or were exchanged in part.
abbrev pub IsLeftAt : {F : Type 0} (made began : F → F → Call → Type 0) → (F → Look → Type 0)
    → DueSwap → F → F → Type 0
IsLeftAt made began saw due at now =
    (now ≡ at) ⊎ IsExchangedInPart made began saw due.swap at now

abbrev pub FailsSo : {F K R W : Type 0} (is_up is_sound : K → Type 0)
    (holds : K → List Record → Type 0) (kept_of : K → Kept) (block_of : K → Block)
    → (F → F → Call → Type 0) → (F → Look → Type 0) → (F → Seen → K → Type 0)
    → (R → Option (List ℕ)) → (W → Option (List ℕ)) → (Said → Type 0) → Replacement
    → List (String Global) → List Kept → Failure → F → Session R W → Session R W → Type 0
FailsSo is_up is_sound holds kept_of block_of made saw opens remaining contents told wanted names
    all failure was x y =
    ((y.driver ≡ x.driver) × (y.report ≡ record x.report { frames = lines_of y.driver }))
    ⊎ ((after : Report)
    × HasNotReplacedSo is_up is_sound holds kept_of block_of made saw opens remaining contents told
    wanted names all failure was x.report after x.driver y.driver
    × (y.report ≡ record after { frames = lines_of y.driver }))

abbrev pub FailsAfter : {F K R W : Type 0} (is_up is_sound : K → Type 0)
    (holds : K → List Record → Type 0) (kept_of : K → Kept) (block_of : K → Block)
    (made began : F → F → Call → Type 0)
    → (F → Look → Type 0) → (F → Seen → K → Type 0)
    → (R → Option (List ℕ)) → (W → Option (List ℕ)) → (Said → Type 0) → Replacement
    → List (String Global) → Failure → Option Swap → F → F → Session R W → Session R W → Type 0
FailsAfter {F = F} is_up is_sound holds kept_of block_of made began saw opens remaining contents
    told wanted names failure None was now x y =
    (all : List Kept)
    × AreRead saw was names [] all
    × AreUnannounced saw was names
    × (FailsSo is_up is_sound holds kept_of block_of made saw opens remaining contents told wanted
    names all failure was x y
    ⊎ ((due : DueSwap)
    × (at : F)
    × IsDue saw at wanted.short names all due
    × HasReplacedSo is_up is_sound holds kept_of block_of made saw opens remaining contents told
    wanted names all due.news.items (confirmed_random due.confirmed) was at x.driver y.driver
    × IsLeftAt made began saw due at now
    × (y.report ≡ record x.report { frames = lines_of y.driver })))
FailsAfter is_up is_sound holds kept_of block_of made began saw opens remaining contents told wanted
    names failure (Some swap) was now x y =
    (now ≡ was)
    × IsNotConfirmedBy saw remaining contents wanted.short wanted.missing.items was (names_of swap)
    failure x y

-- Nothing is put if the files cannot be told apart, an earlier exchange fails, or they are not had.
abbrev pub StopsBefore : {F : Type 0} (made began : F → F → Call → Type 0) → (F → Look → Type 0)
    → (Said → Type 0) → ℕ → List (String Global) → F → F → Type 0
StopsBefore {F = F} made began saw told a records was now =
    (now ≡ was)
    ⊎ ((names : List (String Global))
    × AreAtPlaces saw was records [] names
    × AreApart names
    × (AreFinishedInPart made began saw told a names was now
    ⊎ ((earlier : Option Swap) × AreFinished made saw told a names was now earlier)))

abbrev pub HasNotReplaced : {F K R W : Type 0} (is_up is_sound : K → Type 0)
    (holds : K → List Record → Type 0) (kept_of : K → Kept) (block_of : K → Block)
    (made began : F → F → Call → Type 0)
    → (F → Look → Type 0) → (F → Seen → K → Type 0)
    → (R → Option (List ℕ)) → (W → Option (List ℕ)) → (Said → Type 0) → Replacement
    → List (String Global) → Failure → F → F → Session R W → Session R W → Type 0
HasNotReplaced {F = F} is_up is_sound holds kept_of block_of made began saw opens remaining contents
    told wanted records failure was now x y =
    ((y ≡ x) × StopsBefore made began saw told wanted.short records was now)
    ⊎ ((names : List (String Global))
    × (at : F)
    × (earlier : Option Swap)
    × AreAtPlaces saw was records [] names
    × AreApart names
    × AreFinished made saw told wanted.short names was at earlier
    × FailsAfter is_up is_sound holds kept_of block_of made began saw opens remaining contents told
    wanted names failure earlier at now x y)

-- A REPLACEMENT ENDS SO, well or not
abbrev pub IsReplacement : {F K R W : Type 0} (is_up is_sound : K → Type 0)
    (holds : K → List Record → Type 0) (kept_of : K → Kept) (block_of : K → Block)
    (made began : F → F → Call → Type 0)
    → (F → Look → Type 0) → (F → Seen → K → Type 0)
    → (R → Option (List ℕ)) → (W → Option (List ℕ)) → (Said → Type 0) → Replacement
    → List (String Global) → F → F → Session R W → Session R W → Result (Unit {0}) Failure
    → Type 0
IsReplacement is_up is_sound holds kept_of block_of made began saw opens remaining contents told
    wanted records was now x y (Ok done) =
    (random : ℕ)
    × HasReplaced is_up is_sound holds kept_of block_of made saw opens remaining contents told
    wanted records random was now x y
IsReplacement is_up is_sound holds kept_of block_of made began saw opens remaining contents told
    wanted records was now x y (Err failure) =
    HasNotReplaced is_up is_sound holds kept_of block_of made began saw opens remaining contents
    told wanted records failure was now x y
