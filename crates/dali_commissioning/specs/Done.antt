use Rattle.std.specs.Prelude.{◌≡◌, ◌⊎◌, ℕ, List, [], ◌∷◌, ◌++◌}
use Rattle.std.specs.Io.KnownBytes.{Appends, Consumes}
use Rattle.dali_frame.specs.declared.frames.Forward.{Forward}
use Rattle.dali_script.specs.declared.orders.Input.TheVariants.{Heard, Destroyed, Lapsed}
use Rattle.dali_script.specs.declared.sending.Half.{Half}
use Rattle.dali_statement.specs.Own.{Act, Puts, Loses, Begins, Keeps}
use Rattle.dali_commissioning.specs.Drivers.{Talk}
use Rattle.dali_commissioning.specs.Lines.{put_text}
use Rattle.dali_commissioning.specs.Steps.{AreTold}

-- WHAT IS WRITTEN TO A DRIVER, as acts of a sender of `dali_statement`: each line that puts a frame
-- is the line of one act, and no line is of none.

-- a line puts this frame
abbrev pub PutsFrame : Forward → List ℕ → Type 0
PutsFrame f text = (p : ℕ) × (half : Half) × (text ≡ put_text p f half)

-- what was written for an act, and what was read of it. A frame that nothing is told of may have
-- been sent. One that lapsed was not sent: its transaction is over.
abbrev pub HasLines : Act → List ℕ → List ℕ → Type 0
HasLines (Puts f h) text bytes = PutsFrame f text × AreTold (Heard h) bytes
HasLines (Loses f) text bytes = PutsFrame f text × (AreTold Destroyed bytes ⊎ (bytes ≡ []))
HasLines Begins text bytes =
    ((text ≡ []) × (bytes ≡ [])) ⊎ ((f : Forward) × PutsFrame f text × AreTold Lapsed bytes)
HasLines (Keeps x) text bytes = (text ≡ []) × (bytes ≡ [])

abbrev pub HaveLines : List Act → List ℕ → List ℕ → Type 0
HaveLines [] text bytes = (text ≡ []) × (bytes ≡ [])
HaveLines (a ∷ acts) text bytes =
    (t : List ℕ) × (u : List ℕ) × (b : List ℕ) × (c : List ℕ)
    × (text ≡ t ++ u) × (bytes ≡ b ++ c) × HasLines a t b × HaveLines acts u c

-- THESE ACTS ARE ALL THAT WAS DONE from one moment of a talk with a driver to another.
pub record AreDone (acts : List Act) (x y : Talk) : Type 0 where
  pub text : List ℕ
  pub wrote : Appends x.written y.written text
  pub bytes : List ℕ
  pub read : Consumes x.left y.left bytes
  pub lines : HaveLines acts text bytes
