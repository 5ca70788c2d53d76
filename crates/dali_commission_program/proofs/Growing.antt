use Rattle.std.proofs.Common.{◌≡◌, ◌<◌, ◌≤◌, arith, ℕ, ◌+◌, List, ◌++◌, length, Option, Some, None, refl, sym, ap, ◌∙◌}
use Rattle.std.proofs.lemmas.{List.length-append, Option.none-some, Option.same_Some}
use Rattle.std.specs.{Io.KnownBytes.Appends, Prelude.codes}
use Rattle.dali_frame.specs.declared.frames.Forward.{Forward}
use Rattle.dali_script.specs.declared.{orders.Input.Input, sending.Half.Half}
use Rattle.dali_commissioning.specs.{Census.IsPut, Drivers.Talk, Lines.put_text}
use Rattle.dali_commission_program.specs.Nothing.{IsNothingPut}

-- WHAT IS WRITTEN TO A DRIVER GROWS, if it is known; and it is more where a frame was put.
pub record Grows (x y : Talk) : Type 0 where
  pub known : (bytes : List ℕ) → x.written ≡ Some bytes
      → (more : List ℕ) × (y.written ≡ Some more) × (length bytes ≤ length more)

pub record IsMore (x y : Talk) : Type 0 where
  pub known : (bytes : List ℕ) → x.written ≡ Some bytes
      → (more : List ℕ) × (y.written ≡ Some more) × (length bytes < length more)

pub stays : (x y : Talk) → y ≡ x → Grows x y
stays x y same = record { known = λ bytes is. (bytes, ap (λ t. t.written) same ∙ is, omega arith) }

pub joined : {x y z : Talk} → Grows x y → Grows y z → Grows x z
joined first next = record {
  known = λ bytes is.
      let (mid, is_mid, grows) = first.known bytes is in
      let (more, is_more, grows_on) = next.known mid is_mid in
      (more, is_more, omega (arith, grows, grows_on));
}

pub more_then : {x y z : Talk} → IsMore x y → Grows y z → IsMore x z
more_then first next = record {
  known = λ bytes is.
      let (mid, is_mid, grows) = first.known bytes is in
      let (more, is_more, grows_on) = next.known mid is_mid in
      (more, is_more, omega (arith, grows, grows_on));
}

pub then_more : {x y z : Talk} → Grows x y → IsMore y z → IsMore x z
then_more first next = record {
  known = λ bytes is.
      let (mid, is_mid, grows) = first.known bytes is in
      let (more, is_more, grows_on) = next.known mid is_mid in
      (more, is_more, omega (arith, grows, grows_on));
}

pub grown : {x y : Talk} → IsMore x y → Grows x y
grown is_more = record {
  known = λ bytes is.
      let (more, is_so, grows) = is_more.known bytes is in
      (more, is_so, omega (arith, grows));
}

-- and then it is not nothing that was put
pub more_is_not_nothing : (x y : Talk) → IsMore x y → IsNothingPut x y → ⊥
more_is_not_nothing x y is_more (bytes, before, after) =
    let (more, is, grows) = is_more.known bytes before in
    let same : length more ≡ length bytes = ap length (same_Some more bytes (sym is ∙ after)) in
    absurd (omega (arith, same, grows))

-- a text that is appended
appended : (o n : Option (List ℕ)) (text : List ℕ) → Appends o n text → (bytes : List ℕ) → o ≡ Some bytes
    → (more : List ℕ) × (n ≡ Some more) × (length bytes + length text ≤ length more)
appended None n text is bytes known = absurd (none-some bytes known)
appended (Some was) None text is bytes known = absurd is
appended (Some was) (Some now) text is bytes known =
    (now, refl, omega (arith, ap length is, length-append was text, ap length (same_Some was bytes known)))

pub grows_by : (x y : Talk) (text : List ℕ) → Appends x.written y.written text → Grows x y
grows_by x y text is = record {
  known = λ bytes known.
      let (more, is_so, grows) = appended x.written y.written text is bytes known in
      (more, is_so, omega (arith, grows));
}

more_by : (x y : Talk) (text : List ℕ) → 0 < length text → Appends x.written y.written text → IsMore x y
more_by x y text some is = record {
  known = λ bytes known.
      let (more, is_so, grows) = appended x.written y.written text is bytes known in
      (more, is_so, omega (arith, grows, some));
}

-- the line of a frame is not empty
behind : (head tail : List ℕ) → 0 < length head → 0 < length (head ++ tail)
behind head tail some = omega (arith, length-append head tail, some)

some_put : (p : ℕ) (f : Forward) (half : Half) → 0 < length (put_text p f half)
some_put p f half = behind (codes "put ") _ (omega arith)

pub put_more : {p : ℕ} {f : Forward} {half : Half} {told : Input} {x y : Talk} → IsPut p f half told x y → IsMore x y
put_more {p} {f} {half} {told} {x} {y} put = more_by x y (put_text p f half) (some_put p f half) put.wrote
