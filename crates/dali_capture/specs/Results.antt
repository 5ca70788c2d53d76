use Rattle.std.specs.Prelude.{Result, Ok, Err}

-- what comes of a value, if there is one
abbrev pub then_ok : {A B E : Type 0} → Result A E → (A → Result B E) → Result B E
then_ok (Ok a) next = next a
then_ok (Err e) next = Err e

abbrev pub map_ok : {A B E : Type 0} → (A → B) → Result A E → Result B E
map_ok f (Ok a) = Ok (f a)
map_ok f (Err e) = Err e
