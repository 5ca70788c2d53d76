use Rattle.std.specs.Prelude.{ℕ, ◌==◌, nat_lt, Option, Some, None, option_map, if◌then◌else◌}
use Rattle.dali_controller.specs.declared.purpose.Purpose.{Purpose}
use Rattle.dali_controller.specs.declared.purpose.Purpose.TheVariants.{Opening, Probing, Visiting}
use Rattle.dali_controller.specs.declared.purpose.Purpose.TheVariants.{Resolving, Closing}
use Rattle.dali_controller.specs.declared.purpose.Purpose.TheVariants.{Asking, Calling, Hunting}
use Rattle.dali_controller.specs.declared.purpose.Purpose.TheVariants.{Drawing, PassingOver}
use Rattle.dali_script.specs.Names.{end_by}

-- what a transaction is for: the short address that is asked, or the end of a close, is a byte of
-- its own
abbrev pub resolving : ℕ → Option Purpose
resolving a = if nat_lt a 64 then Some (Resolving a) else None

abbrev pub asking : ℕ → Option Purpose
asking a = if nat_lt a 64 then Some (Asking a) else None

abbrev pub purpose_of : ℕ → ℕ → Option Purpose
purpose_of c detail =
    if c == 0 then Some Opening else
    (if c == 1 then Some Probing else
    (if c == 2 then Some Visiting else
    (if c == 3 then resolving detail else
    (if c == 4 then option_map (λ e. Closing e) (end_by detail) else
    (if c == 5 then asking detail else
    (if c == 6 then Some Calling else
    (if c == 7 then Some Hunting else
    (if c == 8 then Some Drawing else
    (if c == 9 then Some PassingOver else None)))))))))
