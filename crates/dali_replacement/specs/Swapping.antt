use Rattle.std.specs.Prelude.{ℕ, ◌<◌, ◌≤◌, ◌^◌, List, [], ◌∷◌, ◌++◌, codes, decimal, length, map}
use Rattle.std.specs.Prelude.{string_bytes}
use Rattle.std.specs.declared.alloc.Global.{Global}
use Rattle.std.specs.declared.string.String.{String}
use Rattle.dali_script.specs.Records.{Has}
use Rattle.dali_replacement.specs.declared.swapping.Swap.{Swap}

-- what a swap of files is of: the short address that was given anew, the number under which the old
-- files are kept, and the names of the files
abbrev pub address_of : Swap → ℕ
address_of s = s.short

abbrev pub number_of : Swap → ℕ
number_of s = s.number

abbrev pub names_of : Swap → List (String Global)
names_of s = s.names.items

-- the names, each by its bytes
abbrev pub texts_of : Swap → List (List ℕ)
texts_of s = map string_bytes (names_of s)

-- THE TEXT OF A JOURNAL: its first line; the short address and the number, with a space between
-- them; and each name; each on a line of its own
abbrev pub newline : List ℕ
newline = 10 ∷ []

abbrev pub lines_of : List (List ℕ) → List ℕ
lines_of [] = []
lines_of (line ∷ more) = line ++ newline ++ lines_of more

abbrev pub first_line : List ℕ
first_line =
    codes "dali_commission: a replacement is not finished; call ./dali_commission replace again"

abbrev pub numbers_line : ℕ → ℕ → List ℕ
numbers_line a n = decimal a ++ codes " " ++ decimal n

abbrev pub swap_text : Swap → List ℕ
swap_text s = lines_of (first_line ∷ numbers_line (address_of s) (number_of s) ∷ texts_of s)

-- A JOURNAL THAT CAN BE READ: its numbers are of their kinds, and there are one name at least and
-- 64 at most, none of which has the byte that ends a line
abbrev pub IsWithout : ℕ → List ℕ → Type 0
IsWithout byte text = Has text byte → ⊥

abbrev pub AreWithout : ℕ → List (List ℕ) → Type 0
AreWithout byte [] = Unit {0}
AreWithout byte (text ∷ more) = IsWithout byte text × AreWithout byte more

pub record IsReadable (s : Swap) : Type 0 where
  pub short : address_of s < 64
  pub number : number_of s < 2 ^ 32
  pub some : 0 < length (texts_of s)
  pub few : length (texts_of s) ≤ 64
  pub whole : AreWithout 10 (texts_of s)
