use Rattle.std.proofs.Common.{◌≡◌, ◌<◌, ◌+◌, ℕ, zero, suc, arith, refl, sym, subst, ap, ◌∙◌, List, [], ◌∷◌, ◌++◌, length, take, get_or, Option, Some, None}
use Rattle.std.proofs.lemmas.{List.append_assoc, List.append-nil, List.take_more}
use Rattle.std.specs.Io.KnownBytes.{Appends, Keeps}
use Rattle.std.specs.Prelude.{Bool, IfSome, option_map, Ok}
use Rattle.dali_capture.specs.declared.item.Item.{Item}
use Rattle.dali_capture.specs.Items.{item_text}
use Rattle.dali_capture.specs.Captures.{capture_of}
use Rattle.dali_capture.specs.Spelled.{log_text}
use Rattle.dali_audit_program.specs.declared.asked.Asked.{Asked}
use Rattle.dali_audit_program.specs.declared.asked.Form.{Form}
use Rattle.dali_audit_program.specs.declared.asked.Form.TheVariants as form
use Rattle.dali_audit_program.specs.Tells.{IsTold, Tells}

-- WHAT IS WRITTEN, one text after the other
pub appends_as : (old new : Option (List ℕ)) (xs ys : List ℕ) → xs ≡ ys → Appends old new xs → Appends old new ys
appends_as old new xs ys same = subst (λ ts. Appends old new ts) same

pub appends_none : (old : Option (List ℕ)) → Appends old old []
appends_none None = tt
appends_none (Some xs) = sym (append-nil xs)

pub appends_further : (old mid new : Option (List ℕ)) (xs ys : List ℕ) → Appends old mid xs → Appends mid new ys → Appends old new (xs ++ ys)
appends_further None mid new xs ys one two = tt
appends_further (Some a) None new xs ys one two = elim one [ ]
appends_further (Some a) (Some b) None xs ys one two = elim two [ ]
appends_further (Some a) (Some b) (Some c) xs ys one two = two ∙ ap (λ ts. ts ++ ys) one ∙ append_assoc a xs ys

-- a log of one item more
log_append : (xs ys : List Item) → log_text (xs ++ ys) ≡ log_text xs ++ log_text ys
log_append [] ys = refl
log_append (x ∷ xs) ys =
    ap (λ ts. item_text x ++ 10 ∷ ts) (log_append xs ys) ∙ sym (append_assoc (item_text x) (10 ∷ log_text xs) (log_text ys))

pub log_more : (items : List Item) (i : ℕ) (d : Item) → i < length items
    → log_text (take (i + 1) items) ≡ log_text (take i items) ++ (item_text (get_or items i d) ++ 10 ∷ [])
log_more items i d below = ap log_text (take_more items i d below) ∙ log_append (take i items) (get_or items i d ∷ [])

-- WHAT IS PASSED ON is told as it was
appends_on : (old mid new : Option (List ℕ)) (xs : List ℕ) → Appends old mid xs → Keeps mid new → Appends old new xs
appends_on None mid new xs one two = tt
appends_on (Some a) None new xs one two = elim one [ ]
appends_on (Some a) (Some b) None xs one two = elim two [ ]
appends_on (Some a) (Some b) (Some c) xs one two = two ∙ one

passed_on : (what : Form) (items : List Item) (old mid new : Option (List ℕ)) (clean : Bool) → IsTold what items old mid clean → Keeps mid new
    → IsTold what items old new clean
passed_on form.Lines items old mid new clean (j, is, writes, same) keeps = (j, is, appends_on old mid new _ writes keeps, same)
passed_on form.Json items old mid new clean (j, is, writes, same) keeps = (j, is, appends_on old mid new _ writes keeps, same)
passed_on form.Items items old mid new clean (writes, same) keeps = (appends_on old mid new _ writes keeps, same)
passed_on form.Bench items old mid new clean ((b, is, writes), same) keeps = ((b, is, appends_on old mid new _ writes keeps), same)

pub tells : (text : Option (List ℕ)) (asked : Asked) (items named : List Item) (old mid new : Option (List ℕ)) (clean : Bool)
    → IfSome text (λ text. capture_of (option_map (λ w. w.now) asked.wire) asked.is_inverted text ≡ Ok items) → named ≡ items
    → IsTold asked.form named old mid clean → Keeps mid new → IfSome text (λ text. Tells asked text old new clean)
tells None asked items named old mid new clean reads same told keeps = tt
tells (Some text) asked items named old mid new clean reads same told keeps =
    (items, reads, passed_on asked.form items old mid new clean (subst (λ xs. IsTold asked.form xs old mid clean) same told) keeps)
