use Rattle.std.proofs.Common.{◌≡◌, ◌<◌, ◌≤◌, ◌+◌, arith, ℕ, Bool, true, false, Option, Some, None, Result, Ok, Err, ◌/◌, ◌%◌, List, [], ◌∷◌, ◌++◌, codes, refl}
use Rattle.std.proofs.Common.{ap, sym, subst, ◌∙◌}
use Rattle.std.{proofs.lemmas.Bool.false≢true, proofs.lemmas.Fmt.decimal_digit, specs.Fmt.digit_glyph}
use Rattle.dali_frame.specs.{Hex.forward_text, Hex.forward_of, Hex.joined, Hex.byte_of, declared.frames.Answer.TheVariants.Silence}
use Rattle.dali_frame.specs.declared.{frames.Answer.TheVariants.Byte, frames.Answer.TheVariants.Damaged, frames.Forward.Forward, hex.HexError.HexError}
use Rattle.dali_special.specs.Command.{command_of, is_question}
use Rattle.dali_script.specs.{Due.accepts, declared.orders.Input.Input}
use Rattle.dali_script.specs.declared.orders.Input.TheVariants.{Start, Survey, Heard, Destroyed, Lapsed, Committed, CommitFailed}
use Rattle.dali_script.specs.declared.sending.Half.{Half, TheVariants.Whole, TheVariants.First, TheVariants.Second}
use Rattle.dali_script.specs.declared.orders.Due.TheVariants as due
use Rattle.dali_commissioning.specs.Lines.{asked_text, half_text, put_text, Says, told_text, told_of, IsByte}

-- that a frame is read back from its four digits
abbrev pub Reads : Type 0
Reads = (f : Forward) → f.address_byte < 256 → f.opcode_byte < 256 → forward_of (forward_text f) ≡ Ok f

-- so a byte is read back from its two
first_of : Result Forward HexError → Option ℕ
first_of (Ok f) = Some f.address_byte
first_of (Err e) = None

first_is : (o : Option ℕ) → first_of (joined o o) ≡ o
unfolding first_of
first_is None = refl
first_is (Some x) = refl

byte_back : Reads → (byte : ℕ) → byte < 256 → byte_of (digit_glyph true (byte / 16)) (digit_glyph true (byte % 16)) ≡ Some byte
unfolding first_of
byte_back reads byte is =
    sym (first_is (byte_of (digit_glyph true (byte / 16)) (digit_glyph true (byte % 16))))
    ∙ ap first_of (reads (record { address_byte = byte; opcode_byte = byte }) is is)

-- the answers of a driver
pub told_back : Reads → (told : Input) → accepts due.Bus told ≡ true → IsByte told → told_of (told_text told) ≡ Some told
told_back reads (Heard Silence) bus is = refl
told_back reads (Heard (Byte byte)) bus is = rw (byte_back reads byte is) refl
told_back reads (Heard Damaged) bus is = refl
told_back reads Destroyed bus is = refl
told_back reads Lapsed bus is = refl
told_back reads Start bus is = absurd (false≢true bus)
told_back reads Survey bus is = absurd (false≢true bus)
told_back reads Committed bus is = absurd (false≢true bus)
told_back reads CommitFailed bus is = absurd (false≢true bus)

-- a line of the program, by its digit and by what is asked
line : ℕ → Forward → Bool → Half → List ℕ
line digit f asks half =
    codes "put " ++ ((digit ∷ []) ++ (codes " " ++ (forward_text f ++ (asked_text asks ++ (half_text half ++ codes "\n")))))

put_is_line : (p : ℕ) (f : Forward) (half : Half) → p ≤ 5 → put_text p f half ≡ line (48 + p) f (is_question (command_of f)) half
unfolding line
put_is_line p f half most =
    ap (λ d. codes "put " ++ (d ++ (codes " " ++ (forward_text f ++ (asked_text (is_question (command_of f)) ++ (half_text half ++ codes "\n"))))))
    (decimal_digit p (omega (arith, most)))

line_says : Reads → (p : ℕ) (f : Forward) (asks : Bool) (half : Half) → f.address_byte < 256 → f.opcode_byte < 256
    → Says (line (48 + p) f asks half) p f half
unfolding line
line_says reads p f true Whole a o = record { priority = refl; frame = reads f a o; half_so = refl }
line_says reads p f true First a o = record { priority = refl; frame = reads f a o; half_so = refl }
line_says reads p f true Second a o = record { priority = refl; frame = reads f a o; half_so = refl }
line_says reads p f false Whole a o = record { priority = refl; frame = reads f a o; half_so = refl }
line_says reads p f false First a o = record { priority = refl; frame = reads f a o; half_so = refl }
line_says reads p f false Second a o = record { priority = refl; frame = reads f a o; half_so = refl }

pub put_back : Reads → (p : ℕ) (f : Forward) (half : Half) → p ≤ 5 → f.address_byte < 256 → f.opcode_byte < 256
    → Says (put_text p f half) p f half
put_back reads p f half most a o =
    subst (λ l. Says l p f half) (sym (put_is_line p f half most)) (line_says reads p f (is_question (command_of f)) half a o)
