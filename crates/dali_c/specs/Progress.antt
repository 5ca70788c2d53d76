use Rattle.std.specs.Prelude.{◌≡◌, ℕ, Option, Some, None, length}
use Rattle.dali_frame.specs.Random.{value_of}
use Rattle.dali_script.specs.declared.orders.Order.{Order}
use Rattle.dali_script.specs.declared.orders.Order.TheVariants.{Put, Commit, Done, Halt}
use Rattle.dali_controller.specs.declared.purpose.Purpose.{Purpose}
use Rattle.dali_controller.specs.declared.purpose.Purpose.TheVariants.{Opening, Probing, Visiting}
use Rattle.dali_controller.specs.declared.purpose.Purpose.TheVariants.{Resolving, Closing}
use Rattle.dali_controller.specs.declared.purpose.Purpose.TheVariants.{Asking, Hunting, Calling}
use Rattle.dali_controller.specs.declared.purpose.Purpose.TheVariants.{Drawing, PassingOver}
use Rattle.dali_controller.specs.Course.{address_for}
use Rattle.dali_controller.specs.Machine.{Machine}
use Rattle.dali_c.specs.declared.progress.PlainProgress.{PlainProgress}

-- HOW FAR A MACHINE IS, by enum dali_phase: what its transaction is for
abbrev pub phase_by : Purpose → ℕ
phase_by (Asking a) = 1
phase_by (Resolving a) = 1
phase_by Opening = 2
phase_by Probing = 2
phase_by Hunting = 2
phase_by Calling = 2
phase_by Drawing = 2
phase_by PassingOver = 2
phase_by Visiting = 3
phase_by (Closing e) = 4

-- before its first order, and after its last one
abbrev pub phase_of : Option Order → Purpose → ℕ
phase_of None p = 0
phase_of (Some (Put q f)) p = phase_by p
phase_of (Some (Commit x)) p = phase_by p
phase_of (Some (Done e)) p = 5
phase_of (Some (Halt w)) p = 5

-- WHICH SHORT ADDRESS it is about: the one that is asked, or that is reserved for the gear that is
-- visited; 64 is none
abbrev pub or_none : Option ℕ → ℕ
or_none (Some a) = a
or_none None = 64

abbrev pub address_about : Machine → Purpose → ℕ
address_about m (Asking a) = a
address_about m (Resolving a) = a
address_about m Visiting = or_none (address_for m.kept.reserved (value_of m.course.number))
address_about m _ = 64

-- and how many gear are enrolled
pub record IsProgress (x : PlainProgress) (m : Machine) : Type 0 where
  pub phase : x.phase ≡ phase_of m.last m.course.purpose
  pub address : x.short_address ≡ address_about m m.course.purpose
  pub gear : x.gear ≡ length m.kept.enrolled
