use Rattle.std.proofs.Common.{◌≡◌, ℕ, ◌*◌, ◌^◌, ◌<◌, ◌≤◌, Bool, true, false, List, [], ◌∷◌, ◌++◌, Option, Some, None, Ok, refl, arith, append_assoc, ◌∙◌}
use Rattle.std.proofs.{Common.nat_lt, Common.decimal, Common.codes, Common.option_to_list, lemmas.Bool.Decides.nat_tests}
use Rattle.dali_capture.specs.Captures.{so_far_at_first, read_bytes, capture_of, read_end}
use Rattle.dali_capture.specs.{Ears.is_same, Ears.ear_after_level, Ears.level_told, Results.then_ok, Sources.source_word}
use Rattle.dali_capture.specs.Spelled.{head_text, level_text, levels_text, dump_text, AreTimes, heard_of_levels}
use Rattle.dali_capture.specs.declared.{dump.Dump.Dump as Read, dump.Section.TheVariants.Open, ear.Ear.Ear, fault.Reason.TheVariants.BadWord}
use Rattle.dali_capture.specs.declared.{header.Unit.TheVariants.Microsecond, item.Item.Item, source.Source.TheVariants.Dump}
use Rattle.dali_capture.proofs.Texts.{after_word, after_told, decimal_in_word, decimal_is_number}

-- a dump whose head was read
abbrev behind_head : ℕ → Option Ear → Read
behind_head now ear = record {
  section = Open;
  timescale = Some (record { times = 1; unit = Microsecond });
  wire = Some 289;
  now = now;
  ear = ear;
}

not_less : (a b : ℕ) → b ≤ a → nat_lt a b ≡ false
not_less a b h = grind (arith, nat_tests)

less : (a b : ℕ) → a < b → nat_lt a b ≡ true
less a b h = grind (arith, nat_tests)

module _ (inverted : Bool) where
  head_read : (rest : List ℕ) → read_bytes None inverted so_far_at_first (head_text ++ rest)
      ≡ read_bytes None inverted (record { source = Dump (behind_head 0 None); line = 1; word = []; items = [] }) rest
  head_read rest = refl

  time_word : (now at : ℕ) (ear : Option Ear) → now ≤ at → at < 2 ^ 64
      → source_word (Dump (behind_head now ear)) None inverted (35 ∷ decimal at) ≡ Ok (Dump (behind_head at ear), None)
  time_word now at ear order small =
      let number = decimal_is_number BadWord at small in
      let one : at * 1 ≡ at = omega arith in
      let fits : nat_lt at (2 ^ 64) ≡ true = less at (2 ^ 64) small in
      let later : nat_lt at now ≡ false = not_less at now order in
      rw (number, one, fits, later) refl

  level_read : (now at : ℕ) (high : Bool) (ear : Option Ear) (done : List Item) (more : List ℕ) → now ≤ at → at < 2 ^ 64
      → read_bytes None inverted (record { source = Dump (behind_head now ear); line = 1; word = []; items = done })
      (level_text (at, high) ++ more)
      ≡ read_bytes None inverted (record {
        source = Dump (behind_head at (ear_after_level ear (is_same high inverted) at));
        line = 1;
        word = [];
        items = done ++ option_to_list (level_told ear (is_same high inverted) at);
      }) more
  level_read now at true ear done more order small =
      rw (append_assoc (decimal at) (codes " 1! ") more)
      (after_word None inverted (Dump (behind_head now ear)) 1 done (Dump (behind_head at ear)) (35 ∷ decimal at) (codes "1!" ++ (32 ∷ more))
      (refl, decimal_in_word at small) (omega arith) (time_word now at ear order small)
      ∙ after_told None inverted (Dump (behind_head at ear)) 1 done (Dump (behind_head at (ear_after_level ear (is_same true inverted) at)))
      (level_told ear (is_same true inverted) at) (codes "1!") more (refl, (refl, tt)) (omega arith) refl)
  level_read now at false ear done more order small =
      rw (append_assoc (decimal at) (codes " 0! ") more)
      (after_word None inverted (Dump (behind_head now ear)) 1 done (Dump (behind_head at ear)) (35 ∷ decimal at) (codes "0!" ++ (32 ∷ more))
      (refl, decimal_in_word at small) (omega arith) (time_word now at ear order small)
      ∙ after_told None inverted (Dump (behind_head at ear)) 1 done (Dump (behind_head at (ear_after_level ear (is_same false inverted) at)))
      (level_told ear (is_same false inverted) at) (codes "0!") more (refl, (refl, tt)) (omega arith) refl)

  levels_read : (levels : List (ℕ × Bool)) (now : ℕ) (ear : Option Ear) (done : List Item) → AreTimes now levels
      → then_ok (read_bytes None inverted (record { source = Dump (behind_head now ear); line = 1; word = []; items = done }) (levels_text levels))
      (read_end None inverted) ≡ Ok (done ++ heard_of_levels ear inverted now levels)
  levels_read [] now ear done h = refl
  levels_read (level ∷ levels) now ear done h =
      rw (level_read now level.0 level.1 ear done (levels_text levels) h.0 h.1)
      (levels_read levels level.0 (ear_after_level ear (is_same level.1 inverted) level.0)
      (done ++ option_to_list (level_told ear (is_same level.1 inverted) level.0)) h.2
      ∙ simp append_assoc)

pub read_back : (inverted : Bool) (levels : List (ℕ × Bool)) → AreTimes 0 levels
    → capture_of None inverted (dump_text levels) ≡ Ok (heard_of_levels None inverted 0 levels)
read_back inverted levels h = rw (head_read inverted (levels_text levels)) (levels_read inverted levels 0 None [] h)
