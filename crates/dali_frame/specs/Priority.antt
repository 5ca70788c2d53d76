use Rattle.std.specs.Prelude.{ℕ}

-- THE PRIORITIES of this project's profile: of a transaction's first frame, of its later ones, and
-- of direct arc power.
abbrev pub FIRST : ℕ
FIRST = 3

abbrev pub LATER : ℕ
LATER = 1

abbrev pub ARC : ℕ
ARC = 2
