use Rattle.std.specs.Prelude.{ℕ, zero, suc, Bool, true, false, List, [], ◌∷◌, ◌++◌, Option, Some}
use Rattle.std.specs.Prelude.{None, ◌==◌, length, count_by, ◌≡◌, ◌-◌}
use Rattle.dali_controller.specs.declared.shorts.Shorts.{Shorts}
use Rattle.dali_controller.specs.Shorts.{has_short}
use Rattle.dali_script.specs.Records.{Kept, Assignment}
use Rattle.dali_script.specs.declared.block.Block.{Block}
use Rattle.dali_commissioning.specs.declared.beginning.Checked.{Checked}
use Rattle.dali_commissioning.specs.declared.verdict.Place.{Place}
use Rattle.dali_commissioning.specs.Places.{random_at, places}
use Rattle.dali_commission_said.specs.Said.{is_wanted, places_said, heard_said, WhySaid}
use Rattle.dali_commission_said.specs.Tables.{rows}
use Rattle.dali_commission_said.specs.declared.report.Report.{Report}
use Rattle.dali_commission_said.specs.declared.reports.Which.TheVariants as which
use Rattle.dali_commission_said.specs.declared.said.Said.{Said}
use Rattle.dali_commission_said.specs.declared.said.Said.TheVariants as said
use Rattle.dali_commissioning.specs.declared.conducting.PassEnd.{PassEnd}
use Rattle.dali_commission_said.specs.declared.progress.Aim.{Aim}
use Rattle.dali_commission_said.specs.declared.said.Said.TheVariants.{Commissioned}

-- A ROW OF THE TABLE, and whether the controller has reserved the short address for the gear
abbrev pub is_same : Option ℕ → ℕ → Bool
is_same None r = false
is_same (Some other) r = other == r

abbrev pub own_row : List Assignment → Assignment → ℕ × ℕ × Bool
own_row reserved p = (p.0, p.1, is_same (random_at reserved p.0) p.1)

abbrev pub own_rows : List Assignment → List Assignment → List (ℕ × ℕ × Bool)
own_rows reserved [] = []
own_rows reserved (p ∷ more) = own_row reserved p ∷ own_rows reserved more

abbrev pub table_of : Kept → List (ℕ × ℕ × Bool)
table_of k = own_rows k.reserved (rows k.enrolled)

-- A REPORT of so many gear that were enrolled, this table, who was left alone, what stands where,
-- whether gear have no short address, and what is said: no frame is counted yet
abbrev pub reported : ℕ → List (ℕ × ℕ × Bool) → List ℕ → List Place → Option Bool → List Said
    → Report
reported enrolled table left_alone places has_unaddressed lines = record {
  frames = 0;
  enrolled = enrolled;
  table = record { items = table };
  left_alone = record { items = left_alone };
  places = record { items = places };
  has_unaddressed = has_unaddressed;
  said = record { items = lines };
}

-- of a task that has not begun, and of gear that stand so
abbrev pub no_report : Report
no_report = reported 0 [] [] [] None []

abbrev pub places_reported : List Place → List Said → Report
places_reported places lines = reported 0 [] [] places None lines

-- WHAT IS SAID OF A CHECK: each place at which there is something, gear without short address, and
-- how many gear there are
abbrev pub unaddressed_said : Bool → List Said
unaddressed_said true = said.Unaddressed ∷ []
unaddressed_said false = []

abbrev pub checked_said : Kept → List Place → Bool → List Said
checked_said k places has_unaddressed =
    places_said which.All 0 places
    ++ (unaddressed_said has_unaddressed
    ++ said.Counted (length k.enrolled) (count_by (λ p. is_wanted which.Wrong p) places)
    (count_by (λ p. is_wanted which.Strange p) places) (length k.reserved) ∷ [])

abbrev pub check_reported : Checked → List Block → Report
check_reported found others =
    reported 0 (table_of found.kept) [] (places found.kept others found.replies.items)
    (Some found.has_unaddressed) (checked_said found.kept
    (places found.kept others found.replies.items) found.has_unaddressed)

-- of a run that was not begun: each place at which a gear answers that no record names
abbrev pub addressed_said : List Place → List Said
addressed_said places = places_said which.Strange 0 places ++ said.Advice ∷ []

-- WHOM A SURVEY LEFT ALONE: the short addresses of a set, from 0 on
abbrev pub heard_if : ℕ → Bool → List ℕ
heard_if a true = a ∷ []
heard_if a false = []

unfoldable pub heard_below : ℕ → Shorts → List ℕ
heard_below zero heard = []
heard_below (suc n) heard = heard_below n heard ++ heard_if n (has_short heard n)

abbrev pub heard_of : Shorts → List ℕ
heard_of heard = heard_below 64 heard

-- WHAT IS SAID OF A RUN: whom its last survey left alone, why it ended so, and how many gear were
-- enrolled, from one table to another
abbrev pub RunSaid : PassEnd → Kept → Kept → Aim → ℕ → List Said → Type 0
RunSaid pass before after aim frames lines =
    (so_far : List Said)
    × WhySaid (heard_said (heard_of pass.heard)) pass after aim so_far
    × (lines ≡ so_far ++ Commissioned (length after.enrolled - length before.enrolled)
    (length after.enrolled) frames ∷ [])

-- and what is reported of it
abbrev pub run_reported : PassEnd → Kept → Kept → List Said → Report
run_reported pass before after lines =
    reported (length after.enrolled - length before.enrolled) (table_of after) (heard_of pass.heard)
    [] None lines
