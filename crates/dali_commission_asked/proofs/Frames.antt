use Rattle.std.proofs.Common.{◌≡◌, List, ◌∷◌, Option, Some, true}
use Rattle.std.specs.Io.KnownBytes.{Appends}
use Rattle.dali_script.specs.{Due.accepts, declared.orders.Input.Input}
use Rattle.dali_script.specs.declared.orders.Due.TheVariants as due
use Rattle.dali_commissioning.{specs.Drivers.Talk, specs.Lines.Tells, specs.Lines.put_text, proofs.Steps.line_told}
use Rattle.dali_mending.specs.{declared.mending.Put.Put}
use Rattle.dali_commission_asked.specs.Frames.{AreFrames}

pub one_more : {M : Type 0} (next : M → Option Put) (after : M → Input → M) (m mid n : M) (put : Put) (told : Input) (x at y : Talk)
    → ((before : List Input) × AreFrames next after m before mid x at) → next mid ≡ Some put → accepts due.Bus told ≡ true
    → Appends at.written y.written (put_text put.priority put.frame put.half) → Tells at.left y.left told
    → n ≡ after mid told → (all : List Input) × AreFrames next after m all n x y
one_more next after m mid n put told x at y (so_far, are) is bus wrote tells goes_on =
    (told ∷ so_far, (mid, at, are, (put, is, record { wrote = wrote; hears = line_told at.left y.left told bus tells }, goes_on)))
