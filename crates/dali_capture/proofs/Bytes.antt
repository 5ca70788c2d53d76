use Rattle.std.proofs.Common.{◌≡◌, ℕ, ◌+◌, Bool, List, [], ◌∷◌, ◌++◌, length, Option, Some, None, Result, Ok, Err, IfSome, refl, ap, ◌∙◌, length-append, arith}
use Rattle.std.specs.Io.KnownBytes.{Consumes}
use Rattle.dali_capture.specs.Captures.{SoFar, so_far_at_first, read_byte, read_bytes, capture_of, IsFaultOf, IsFaultAmid}
use Rattle.dali_capture.specs.{Results.then_ok, declared.fault.CaptureFault.CaptureFault, declared.fault.CaptureFault.TheVariants.Bad}
use Rattle.dali_capture.specs.declared.fault.{CaptureFault.TheVariants.Memory, CaptureFault.TheVariants.Read, CaptureFault.TheVariants.TooLong, Mistake.Mistake}

-- a text in two parts is read part by part
pub read_parts : (wanted : Option (List ℕ)) (inverted : Bool) (r : SoFar) (first second : List ℕ)
    → read_bytes wanted inverted r (first ++ second)
    ≡ then_ok (read_bytes wanted inverted r first) (λ next. read_bytes wanted inverted next second)
read_parts wanted inverted r [] second = refl
read_parts wanted inverted r (b ∷ bs) second =
    go (read_byte wanted inverted r b) (λ next. read_parts wanted inverted next bs second)
  where
    go : (x : Result SoFar Mistake)
        → ((next : SoFar) → read_bytes wanted inverted next (bs ++ second)
        ≡ then_ok (read_bytes wanted inverted next bs) (λ n. read_bytes wanted inverted n second))
        → then_ok x (λ next. read_bytes wanted inverted next (bs ++ second))
        ≡ then_ok (then_ok x (λ next. read_bytes wanted inverted next bs)) (λ next. read_bytes wanted inverted next second)
    go (Ok next) rest = rest next
    go (Err mistake) rest = refl

-- what was read of a reader's bytes, and how many they were
abbrev pub Follows : Option (List ℕ) → Bool → Option (List ℕ) → Option (List ℕ) → SoFar → ℕ → Type 0
Follows wanted inverted None now r read = Unit {0}
Follows wanted inverted (Some text) None r read = ⊥
Follows wanted inverted (Some text) (Some rest) r read =
    (read_bytes wanted inverted so_far_at_first text ≡ read_bytes wanted inverted r rest)
    × (read + length rest ≡ length text)

-- more bytes of the reader were read
pub follows_more : (wanted : Option (List ℕ)) (inverted : Bool) (text old new : Option (List ℕ)) (r next : SoFar) (read : ℕ) (chunk : List ℕ)
    → Follows wanted inverted text old r read → Consumes old new chunk → read_bytes wanted inverted r chunk ≡ Ok next
    → Follows wanted inverted text new next (read + length chunk)
follows_more wanted inverted None old new r next read chunk f c h = tt
follows_more wanted inverted (Some text) None new r next read chunk f c h = absurd f
follows_more wanted inverted (Some text) (Some ys) None r next read chunk f c h = absurd c
follows_more wanted inverted (Some text) (Some ys) (Some zs) r next read chunk f c h =
    (f.0 ∙ parts, omega (arith, f.1, simp length-append at (ap length c)))
  where
    parts : read_bytes wanted inverted r ys ≡ read_bytes wanted inverted next zs
    parts = rw (c, read_parts wanted inverted r chunk zs, h) refl

-- a mistake among the bytes that were read is the first one of the text
pub follows_fault : (wanted : Option (List ℕ)) (inverted : Bool) (text old new : Option (List ℕ)) (r : SoFar) (read : ℕ) (chunk : List ℕ) (fault : CaptureFault)
    → Follows wanted inverted text old r read → Consumes old new chunk → IsFaultAmid (read_bytes wanted inverted r chunk) fault
    → IfSome text (λ t. IsFaultOf (capture_of wanted inverted t) t fault)
follows_fault wanted inverted None old new r read chunk fault f c h = tt
follows_fault wanted inverted (Some text) None new r read chunk fault f c h = absurd f
follows_fault wanted inverted (Some text) (Some ys) None r read chunk fault f c h = absurd c
follows_fault wanted inverted (Some text) (Some ys) (Some zs) r read chunk (Bad mistake) f c h =
    rw (f.0, c, read_parts wanted inverted r chunk zs, h) refl
follows_fault wanted inverted (Some text) (Some ys) (Some zs) r read chunk Memory f c h = tt
follows_fault wanted inverted (Some text) (Some ys) (Some zs) r read chunk Read f c h = absurd h
follows_fault wanted inverted (Some text) (Some ys) (Some zs) r read chunk TooLong f c h = absurd h
