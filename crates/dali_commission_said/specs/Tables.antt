use Rattle.std.specs.Prelude.{ℕ, zero, suc, Bool, true, false, List, [], ◌∷◌, ◌++◌, Option, Some}
use Rattle.std.specs.Prelude.{None, codes, decimal, string_bytes}
use Rattle.std.specs.declared.alloc.Global.{Global}
use Rattle.std.specs.declared.string.String.{String}
use Rattle.dali_frame.specs.Hex.{random_text}
use Rattle.dali_script.specs.Records.{Assignment}
use Rattle.dali_commissioning.specs.Places.{random_at}
use Rattle.dali_commission_tasks.specs.declared.tasks.TableForm.{TableForm}
use Rattle.dali_commission_tasks.specs.declared.tasks.TableForm.TheVariants.{Text, Csv, Json}

-- its records: the first name, or an empty one
abbrev pub only : List (String Global) → List ℕ
only [] = []
only (name ∷ more) = string_bytes name

-- THE ROWS of a table: what is enrolled, by short address from 0 on.
abbrev pub at_if : ℕ → Option ℕ → List Assignment
at_if a None = []
at_if a (Some r) = (a, r) ∷ []

unfoldable pub rows_below : ℕ → List Assignment → List Assignment
rows_below zero xs = []
rows_below (suc n) xs = rows_below n xs ++ at_if n (random_at xs n)

abbrev pub rows : List Assignment → List Assignment
rows xs = rows_below 64 xs

-- ITS TEXT
abbrev pub head : TableForm → List ℕ
head Text = []
head Csv = codes "address,random\n"
head Json = codes "["

abbrev pub separator : TableForm → Bool → List ℕ
separator Json true = codes "\n"
separator Json false = codes ",\n"
separator form is_first = []

abbrev pub tail : TableForm → List ℕ
tail Json = codes "\n]\n"
tail form = []

abbrev pub row_text : TableForm → Assignment → List ℕ
row_text Text p = decimal p.0 ++ (codes " " ++ (random_text p.1 ++ codes "\n"))
row_text Csv p = decimal p.0 ++ (codes ",0x" ++ (random_text p.1 ++ codes "\n"))
row_text Json p =
    codes "{\"address\":"
    ++ (decimal p.0 ++ (codes ",\"random\":\"" ++ (random_text p.1 ++ codes "\"}")))

abbrev pub rows_text : TableForm → Bool → List Assignment → List ℕ
rows_text form is_first [] = []
rows_text form is_first (p ∷ more) =
    separator form is_first ++ (row_text form p ++ rows_text form false more)

abbrev pub table_text : TableForm → List Assignment → List ℕ
table_text form xs = head form ++ (rows_text form true (rows xs) ++ tail form)
