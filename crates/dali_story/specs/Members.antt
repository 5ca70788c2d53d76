use Rattle.std.specs.Prelude.{ℕ, List, [], ◌∷◌, ◌++◌, Bool, ◌==◌, ◌&&◌, nat_le, codes, decimal}
use Rattle.std.specs.Prelude.{if◌then◌else◌}
use Rattle.std.specs.List.{flat_map}

-- MEMBERS OF OBJECTS.

-- `,"KEY":N`, `,"KEY":"VALUE"` and `,"KEY":[ITEMS]`
unfoldable pub number_member : List ℕ → ℕ → List ℕ
number_member key n = codes ",\"" ++ (key ++ (codes "\":" ++ decimal n))

unfoldable pub text_member : List ℕ → List ℕ → List ℕ
text_member key value = codes ",\"" ++ (key ++ (codes "\":\"" ++ (value ++ codes "\"")))

unfoldable pub list_member : List ℕ → List ℕ → List ℕ
list_member key items = codes ",\"" ++ (key ++ (codes "\":[" ++ (items ++ codes "]")))

-- A TEXT FROM OUTSIDE as the content of a string: the marks of JSON, and `<`, `>` and `&`, with
-- which an element of a page begins or ends, by escapes; line feeds and tabs too; other printable
-- bytes are themselves; and a mark stands for each further byte.
abbrev pub is_printable : ℕ → Bool
is_printable b = nat_le 32 b && nat_le b 126

abbrev pub json_byte : ℕ → List ℕ
json_byte b =
    if b == 34 then codes "\\\""
    else if b == 92 then codes "\\\\"
    else if b == 38 then codes "\\u0026"
    else if b == 60 then codes "\\u003c"
    else if b == 62 then codes "\\u003e"
    else if b == 10 then codes "\\n"
    else if b == 9 then codes "\\t"
    else if is_printable b then b ∷ [] else codes "?"

abbrev pub json_text : List ℕ → List ℕ
json_text bytes = flat_map json_byte bytes
