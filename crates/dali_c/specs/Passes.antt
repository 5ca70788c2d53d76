use Rattle.std.specs.Prelude.{ℕ, ◌+◌, ◌==◌, nat_le, Bool, true, false, not, if◌then◌else◌}
use Rattle.dali_script.specs.declared.orders.Order.{Order}
use Rattle.dali_script.specs.declared.orders.Order.TheVariants.{Put, Commit, Done, Halt}
use Rattle.dali_script.specs.declared.orders.End.TheVariants.{AllFound, BlockFull, GaveUp}
use Rattle.dali_c.specs.declared.passes.PlainPasses.{PlainPasses}

-- THE RUNS OF A CONTROLLER, one machine after the other. A byte of struct dali_passes that is no
-- count says no if it is 0.
abbrev pub is_so : ℕ → Bool
is_so byte = not (byte == 0)

-- how many runs in a row have committed nothing, with one more: as a run of dali_commission counts
abbrev pub quiet_after : ℕ → Bool → ℕ
quiet_after n true = 0
quiet_after n false = n + 1

-- whether a byte was heard in this run, with what the machine is told now
abbrev pub has_heard_with : PlainPasses → ℕ → ℕ
has_heard_with p input = if input == 2 then 1 else p.has_heard

-- A MACHINE WAS TOLD THIS, AND HAS ORDERED THAT. Only a run that found all gear counts.
abbrev pub passes_after : PlainPasses → ℕ → Order → PlainPasses
passes_after p input (Put priority frame) = record p { has_heard = has_heard_with p input }
passes_after p input (Commit r) =
    record p { has_committed = 1; has_heard = has_heard_with p input }
passes_after p input (Done AllFound) = record {
  quiet = quiet_after p.quiet (is_so p.has_committed);
  has_committed = 0;
  has_heard = 0;
}
passes_after p input (Done BlockFull) = record p { has_heard = has_heard_with p input }
passes_after p input (Done GaveUp) = record p { has_heard = has_heard_with p input }
passes_after p input (Halt fault) = record p { has_heard = has_heard_with p input }

-- WHAT IS TO BE DONE THEN, by enum dali_next: 0 what was ordered, 1 another run. Once three runs in
-- a row were quiet: 2 nothing, if a byte was heard in the last one; 3 to ask gear, if none was.
-- 4 nothing, since a run ended otherwise.
abbrev pub once_quiet : ℕ → ℕ → ℕ
once_quiet quiet heard =
    if not (nat_le 3 quiet) then 1 else
    (if is_so heard then 2 else 3)

abbrev pub next_after : PlainPasses → ℕ → Order → ℕ
next_after p input (Put priority frame) = 0
next_after p input (Commit r) = 0
next_after p input (Done AllFound) =
    once_quiet (quiet_after p.quiet (is_so p.has_committed)) (has_heard_with p input)
next_after p input (Done BlockFull) = 4
next_after p input (Done GaveUp) = 4
next_after p input (Halt fault) = 4
