use Rattle.std.specs.Prelude.{◌≡◌, ℕ, ◌+◌, Bool, List, [], ◌∷◌, ◌++◌, Option, Some, None, codes}
use Rattle.std.specs.Prelude.{decimal}
use Rattle.std.specs.Borrow.{Bor}
use Rattle.json.specs.Print.{print}
use Rattle.json.specs.Token.{Token, begin_object, end_object, begin_array, end_array, key, string}
use Rattle.json.specs.Token.{number, boolean, null}
use Rattle.json.specs.Written.{Written}
use Rattle.dali_frame.specs.Hex.{random_text}
use Rattle.dali_commissioning.specs.declared.verdict.Place.{Place}
use Rattle.dali_commissioning.specs.declared.verdict.Place.TheVariants as place
use Rattle.dali_commission_program.specs.declared.object.Value.{Value}
use Rattle.dali_commission_program.specs.declared.object.Value.TheVariants as value
use Rattle.dali_commission_said.specs.declared.report.Report.{Report}

-- WHAT A WRITER HAS AFTER A CALL: these tokens, after those before
abbrev pub IsPut : Written → Written → List Token → Type 0
IsPut old new ts = (new.before ≡ old.before) × (new.tokens ≡ old.tokens ++ ts)

-- a value of a member: null, if there is none
abbrev pub value_token : Value → Token
value_token (value.Text text) = string text.now
value_token (value.Number n) = number (decimal n)
value_token (value.Random (Some r)) = string (random_text r)
value_token (value.Random None) = null
value_token (value.Truth (Some is)) = boolean is
value_token (value.Truth None) = null

abbrev pub member_tokens : Bor (List ℕ) × Value → List Token
member_tokens it = key it.0.now ∷ value_token it.1 ∷ []

-- A LIST begins with its name, and has the tokens of each entry
unfoldable pub begin_list : List ℕ → List Token
begin_list name = key name ∷ begin_array ∷ []

abbrev pub entries : {T : Type 0} → (T → List Token) → List T → List Token
entries tokens [] = end_array ∷ []
entries tokens (x ∷ more) = tokens x ++ entries tokens more

-- a gear in the table
unfoldable pub gear_tokens : ℕ × ℕ × Bool → List Token
gear_tokens row =
    begin_object
    ∷ key (codes "address") ∷ number (decimal row.0)
    ∷ key (codes "random") ∷ string (random_text row.1)
    ∷ key (codes "given") ∷ boolean row.2
    ∷ end_object ∷ []

-- a short address that was left alone
abbrev pub number_tokens : ℕ → List Token
number_tokens a = number (decimal a) ∷ []

-- EACH SHORT ADDRESS WHOSE GEAR IS MISSING, from one on
abbrev pub missing_tokens : ℕ → List Place → List Token
missing_tokens a [] = end_array ∷ []
missing_tokens a (place.Missing r ∷ more) = number (decimal a) ∷ missing_tokens (a + 1) more
missing_tokens a (_ ∷ more) = missing_tokens (a + 1) more

-- WHAT IS NOT AS RECORDED: why, and the random address that was heard, or is reserved
abbrev pub oddity : Place → Option (List ℕ × Option ℕ)
oddity (place.Another r heard) = Some (codes "another", Some heard)
oddity (place.Several r) = Some (codes "several", None)
oddity (place.Unclear r) = Some (codes "unclear", None)
oddity (place.Unfinished r) = Some (codes "unfinished", Some r)
oddity (place.Stranger heard) = Some (codes "stranger", Some heard)
oddity place.Strangers = Some (codes "strangers", None)
oddity place.Garbled = Some (codes "unclear-strangers", None)
oddity place.Noise = Some (codes "unclear-strangers", None)
oddity _ = None

abbrev pub oddity_tokens : ℕ → Option (List ℕ × Option ℕ) → List Token
oddity_tokens a None = []
oddity_tokens a (Some it) =
    begin_object
    ∷ key (codes "address") ∷ number (decimal a)
    ∷ key (codes "is") ∷ string it.0
    ∷ key (codes "random") ∷ value_token (value.Random it.1)
    ∷ end_object ∷ []

abbrev pub strangers_tokens : ℕ → List Place → List Token
strangers_tokens a [] = end_array ∷ []
strangers_tokens a (p ∷ more) = oddity_tokens a (oddity p) ++ strangers_tokens (a + 1) more

-- THE OBJECT, with how the task ended and its exit status
unfoldable pub head_tokens : List ℕ → ℕ → Report → List Token
head_tokens end status report =
    key (codes "end") ∷ string end
    ∷ key (codes "status") ∷ number (decimal status)
    ∷ key (codes "frames") ∷ number (decimal report.frames)
    ∷ key (codes "enrolled") ∷ number (decimal report.enrolled) ∷ []

unfoldable pub list_tokens : Report → List Token
list_tokens report =
    begin_list (codes "table") ++ entries gear_tokens report.table.items
    ++ begin_list (codes "left_alone") ++ entries number_tokens report.left_alone.items
    ++ begin_list (codes "missing") ++ missing_tokens 0 report.places.items
    ++ begin_list (codes "strangers") ++ strangers_tokens 0 report.places.items
    ++ key (codes "unaddressed") ∷ value_token (value.Truth report.has_unaddressed) ∷ []

unfoldable pub report_tokens : List ℕ → ℕ → Report → List Token
report_tokens end status report =
    begin_object ∷ (head_tokens end status report ++ list_tokens report ++ end_object ∷ [])

abbrev pub report_text : List ℕ → ℕ → Report → List ℕ
report_text end status report = print (report_tokens end status report) ++ codes "\n"
