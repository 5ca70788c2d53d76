use Rattle.std.proofs.Common.{◌≡◌, ℕ, ◌+◌, ◌-◌, ◌/◌, ◌%◌, ◌^◌, ◌<◌, ◌≤◌, min, Bool, true, false, List, [], ◌∷◌, ◌++◌, Option, Some, None, Ok, refl, arith}
use Rattle.std.proofs.Common.{append_assoc, ◌∙◌, nat_lt, decimal, codes, ◌==◌}
use Rattle.std.{proofs.lemmas.Bool.Decides.nat_tests, proofs.lemmas.Fmt.decimal_nonempty, specs.Fmt.digit_glyph, specs.List.AllByRecursion}
use Rattle.dali_frame.specs.{Hex.byte_text, Hex.forward_text, declared.frames.Forward.Forward as Frame}
use Rattle.dali_capture.specs.{Captures.read_bytes, Captures.capture_of, Captures.read_end, Items.length_of, Items.heard_text, Logs.line_word, Logs.logged}
use Rattle.dali_capture.specs.{Logs.frame_in, Logs.answer_in, Results.then_ok, Sources.source_word, Spelled.log_text, Spelled.AreBytes, Spelled.AreLogged}
use Rattle.dali_capture.specs.declared.{fault.Reason.TheVariants.BadLine, item.Heard.Heard}
use Rattle.dali_capture.specs.declared.item.Heard.TheVariants.{Forward, Backward, Device, Damaged}
use Rattle.dali_capture.specs.declared.{item.Item.Item, source.Source.Source, source.Source.TheVariants.Unknown, source.Source.TheVariants.Log}
use Rattle.dali_capture.proofs.Texts.{IsInWord, after_word, after_line, decimal_in_word, decimal_is_number, decimal_has_no_mark, glyph_in_word, no_glyph}
use Rattle.dali_capture.proofs.Texts.{no_answer, text_is_byte}
use Rattle.dali_capture.specs.declared.log.LogLine.TheVariants as line

not_less : (a b : ℕ) → b ≤ a → nat_lt a b ≡ false
not_less a b h = grind (arith, nat_tests)

less : (a b : ℕ) → a < b → nat_lt a b ≡ true
less a b h = grind (arith, nat_tests)

-- the time of a line
time_word : (last at : ℕ) → last ≤ at → at < 2 ^ 64
    → line_word line.Fresh last (decimal at) ≡ Ok (record { line = line.Time at; last = last }, None)
time_word last at order small =
    let plain = decimal_has_no_mark at 35 small (omega arith) in
    let number = decimal_is_number BadLine at small in
    let later : nat_lt at last ≡ false = not_less at last order in
    rw (plain, number, later) refl

-- an item that a line may tell
item_told : (at until : ℕ) (what : Heard) → until ≡ at + length_of what → until < 2 ^ 64
    → logged at (Some what) ≡ Ok (record { line = line.Told; last = at }, Some (record { at = at; until = until; what = what }))
item_told at until what is small =
    let within : at + length_of what < 2 ^ 64 = rw is at small in
    let test : nat_lt (at + length_of what) (2 ^ 64) ≡ true = less (at + length_of what) (2 ^ 64) within in
    rw (test, is) refl

frame_word : (f : Frame) → f.address_byte < 256 → f.opcode_byte < 256 → frame_in (forward_text f) ≡ Some (Forward f)
frame_word f first second =
    let small : f.address_byte / 16 < 16 = omega arith in
    let other : (digit_glyph true (f.address_byte / 16) == 100) ≡ false = no_glyph (f.address_byte / 16) 100 small (omega arith) in
    let address = text_is_byte f.address_byte first in
    let opcode = text_is_byte f.opcode_byte second in
    rw (other, address, opcode) refl

answer_word : (byte : ℕ) → byte < 256 → answer_in (byte_text byte) ≡ Some (Backward byte)
answer_word byte small =
    let high : byte / 16 < 16 = omega arith in
    let other : (digit_glyph true (byte / 16) == 100) ≡ false = no_glyph (byte / 16) 100 high (omega arith) in
    let value = text_is_byte byte small in
    rw (other, value) refl

frame_inside : (f : Frame) → f.address_byte < 256 → f.opcode_byte < 256 → AllByRecursion IsInWord (forward_text f)
frame_inside f first second = (
  glyph_in_word (f.address_byte / 16) (omega arith),
  (
    glyph_in_word (f.address_byte % 16) (omega arith),
    (glyph_in_word (f.opcode_byte / 16) (omega arith), (glyph_in_word (f.opcode_byte % 16) (omega arith), tt)),
  ),
)

byte_inside : (byte : ℕ) → byte < 256 → AllByRecursion IsInWord (byte_text byte)
byte_inside byte small = (glyph_in_word (byte / 16) (omega arith), (glyph_in_word (byte % 16) (omega arith), tt))

-- a line, word by word
module _ (wanted : Option (List ℕ)) (inverted : Bool) where
  first_word : (last at : ℕ) → last ≤ at → at < 2 ^ 64
      → source_word (Log (record { line = line.Fresh; last = last })) wanted inverted (decimal at)
      ≡ Ok (Log (record { line = line.Time at; last = last }), None)
  first_word last at order small = rw (time_word last at order small) refl

  very_first_word : (at : ℕ) → at < 2 ^ 64
      → source_word Unknown wanted inverted (decimal at) ≡ Ok (Log (record { line = line.Time at; last = 0 }), None)
  very_first_word at small =
      let plain = decimal_has_no_mark at 36 small (omega arith) in
      rw (plain, time_word 0 at (omega arith) small) refl

  frame_told : (last at until : ℕ) (f : Frame) → f.address_byte < 256 → f.opcode_byte < 256 → until ≡ at + 14167 → until < 2 ^ 64
      → source_word (Log (record { line = line.Time at; last = last })) wanted inverted (forward_text f)
      ≡ Ok (Log (record { line = line.Told; last = at }), Some (record { at = at; until = until; what = Forward f }))
  frame_told last at until f first second is small =
      let high : f.address_byte / 16 < 16 = omega arith in
      let other : (digit_glyph true (f.address_byte / 16) == 60) ≡ false = no_answer (f.address_byte / 16) high in
      rw (other, frame_word f first second, item_told at until (Forward f) is small) refl

  answer_told : (last at until byte : ℕ) → byte < 256 → until ≡ at + 7500 → until < 2 ^ 64
      → source_word (Log (record { line = line.Answer at; last = last })) wanted inverted (byte_text byte)
      ≡ Ok (Log (record { line = line.Told; last = at }), Some (record { at = at; until = until; what = Backward byte }))
  answer_told last at until byte bounded is small =
      rw (answer_word byte bounded, item_told at until (Backward byte) is small) refl

  device_told : (last at until : ℕ) → until ≡ at + 20833 → until < 2 ^ 64
      → source_word (Log (record { line = line.Time at; last = last })) wanted inverted (codes "device")
      ≡ Ok (Log (record { line = line.Told; last = at }), Some (record { at = at; until = until; what = Device }))
  device_told last at until is small = rw (item_told at until Device is small) refl

  damaged_told : (last at until : ℕ) → until ≡ at + 7500 → until < 2 ^ 64
      → source_word (Log (record { line = line.Answer at; last = last })) wanted inverted (codes "damaged")
      ≡ Ok (Log (record { line = line.Told; last = at }), Some (record { at = at; until = until; what = Damaged }))
  damaged_told last at until is small = rw (item_told at until Damaged is small) refl

  line_read : (source : Source) (last k at until : ℕ) (what : Heard) (done : List Item) (more : List ℕ)
      → source_word source wanted inverted (decimal at) ≡ Ok (Log (record { line = line.Time at; last = last }), None)
      → at < 2 ^ 64 → until ≡ at + length_of what → until < 2 ^ 64 → AreBytes what
      → read_bytes wanted inverted (record { source = source; line = k; word = []; items = done })
      ((decimal at ++ heard_text what) ++ (10 ∷ more))
      ≡ read_bytes wanted inverted (record {
        source = Log (record { line = line.Fresh; last = at });
        line = min (k + 1) (2 ^ 64 - 1);
        word = [];
        items = done ++ (record { at = at; until = until; what = what } ∷ []);
      }) more
  line_read source last k at until (Forward f) done more h early is small bytes =
      rw (append_assoc (decimal at) (heard_text (Forward f)) (10 ∷ more))
      (after_word wanted inverted source k done (Log (record { line = line.Time at; last = last })) (decimal at) (forward_text f ++ (10 ∷ more))
      (decimal_in_word at early) (decimal_nonempty at early) h
      ∙ after_line wanted inverted (Log (record { line = line.Time at; last = last })) k done (Log (record { line = line.Told; last = at }))
      (Log (record { line = line.Fresh; last = at })) (Some (record { at = at; until = until; what = Forward f })) (forward_text f) more
      (frame_inside f bytes.0 bytes.1) (omega arith) (frame_told last at until f bytes.0 bytes.1 is small) refl)
  line_read source last k at until (Backward byte) done more h early is small bytes =
      rw (append_assoc (decimal at) (heard_text (Backward byte)) (10 ∷ more))
      (after_word wanted inverted source k done (Log (record { line = line.Time at; last = last })) (decimal at)
      (codes "<" ++ (32 ∷ (byte_text byte ++ (10 ∷ more)))) (decimal_in_word at early) (decimal_nonempty at early) h
      ∙ after_word wanted inverted (Log (record { line = line.Time at; last = last })) k done (Log (record { line = line.Answer at; last = last }))
      (codes "<") (byte_text byte ++ (10 ∷ more)) (refl, tt) (omega arith) refl
      ∙ after_line wanted inverted (Log (record { line = line.Answer at; last = last })) k done (Log (record { line = line.Told; last = at }))
      (Log (record { line = line.Fresh; last = at })) (Some (record { at = at; until = until; what = Backward byte })) (byte_text byte) more
      (byte_inside byte bytes) (omega arith) (answer_told last at until byte bytes is small) refl)
  line_read source last k at until Device done more h early is small bytes =
      rw (append_assoc (decimal at) (heard_text Device) (10 ∷ more))
      (after_word wanted inverted source k done (Log (record { line = line.Time at; last = last })) (decimal at) (codes "device" ++ (10 ∷ more))
      (decimal_in_word at early) (decimal_nonempty at early) h
      ∙ after_line wanted inverted (Log (record { line = line.Time at; last = last })) k done (Log (record { line = line.Told; last = at }))
      (Log (record { line = line.Fresh; last = at })) (Some (record { at = at; until = until; what = Device })) (codes "device") more
      (refl, (refl, (refl, (refl, (refl, (refl, tt)))))) (omega arith) (device_told last at until is small) refl)
  line_read source last k at until Damaged done more h early is small bytes =
      rw (append_assoc (decimal at) (heard_text Damaged) (10 ∷ more))
      (after_word wanted inverted source k done (Log (record { line = line.Time at; last = last })) (decimal at)
      (codes "<" ++ (32 ∷ (codes "damaged" ++ (10 ∷ more)))) (decimal_in_word at early) (decimal_nonempty at early) h
      ∙ after_word wanted inverted (Log (record { line = line.Time at; last = last })) k done (Log (record { line = line.Answer at; last = last }))
      (codes "<") (codes "damaged" ++ (10 ∷ more)) (refl, tt) (omega arith) refl
      ∙ after_line wanted inverted (Log (record { line = line.Answer at; last = last })) k done (Log (record { line = line.Told; last = at }))
      (Log (record { line = line.Fresh; last = at })) (Some (record { at = at; until = until; what = Damaged })) (codes "damaged") more
      (refl, (refl, (refl, (refl, (refl, (refl, (refl, tt))))))) (omega arith) (damaged_told last at until is small) refl)

  lines_read : (items : List Item) (last k : ℕ) (done : List Item) → AreLogged last items
      → then_ok (read_bytes wanted inverted
      (record { source = Log (record { line = line.Fresh; last = last }); line = k; word = []; items = done }) (log_text items))
      (read_end wanted inverted) ≡ Ok (done ++ items)
  lines_read [] last k done h = refl
  lines_read (item ∷ items) last k done h =
      let early : item.at < 2 ^ 64 = omega (arith, h.1, h.2) in
      rw (line_read (Log (record { line = line.Fresh; last = last })) last k item.at item.until item.what done (log_text items)
      (first_word last item.at h.0 early) early h.1 h.2 h.3)
      (lines_read items item.at (min (k + 1) (2 ^ 64 - 1)) (done ++ (item ∷ [])) h.4 ∙ simp append_assoc)

pub read_back : (wanted : Option (List ℕ)) (inverted : Bool) (items : List Item) → AreLogged 0 items
    → capture_of wanted inverted (log_text items) ≡ Ok items
read_back wanted inverted [] h = refl
read_back wanted inverted (item ∷ items) h =
    let early : item.at < 2 ^ 64 = omega (arith, h.1, h.2) in
    rw (line_read wanted inverted Unknown 0 1 item.at item.until item.what [] (log_text items)
    (very_first_word wanted inverted item.at early) early h.1 h.2 h.3)
    (lines_read wanted inverted items item.at (min (1 + 1) (2 ^ 64 - 1)) (item ∷ []) h.4)
