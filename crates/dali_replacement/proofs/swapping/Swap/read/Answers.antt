use Rattle.std.proofs.{Common.sym, Common.◌∙◌, lemmas.Bool.false≢true}
use Rattle.dali_replacement.specs.Swapping.{address_of, number_of, texts_of}
use Rattle.dali_replacement.proofs.Reading.{text_parts, same_text, not_none, of_some}
use Rattle.dali_replacement.proofs.swapping.Swap.read.Goals as goal

pub returns-in_default : goal.returns-in_default
returns-in_default c = λ swap readable is.
    absurd (not_none _ _ (c.numbers_in.ensures (address_of swap) (number_of swap) _ readable.short readable.number
    (sym is ∙ text_parts (address_of swap) (number_of swap) (texts_of swap))) c.in_default.is)

pub returns-in_default-2 : goal.returns-in_default-2
returns-in_default-2 c = λ swap readable is.
    let numbers = of_some _ _ _ (c.numbers_in.ensures (address_of swap) (number_of swap) _ readable.short readable.number
    (sym is ∙ text_parts (address_of swap) (number_of swap) (texts_of swap))) c.in-Some.is in
    absurd (not_none _ _ (c.in_ok-names.ensures (texts_of swap) readable.whole readable.some readable.few numbers.2) c.in_default-2.is)

pub returns-else-is_text : goal.returns-else-is_text
returns-else-is_text c = λ swap readable is.
    let numbers = of_some _ _ _ (c.numbers_in.ensures (address_of swap) (number_of swap) _ readable.short readable.number
    (sym is ∙ text_parts (address_of swap) (number_of swap) (texts_of swap))) c.in-Some.is in
    let names = of_some _ _ _ (c.in_ok-names.ensures (texts_of swap) readable.whole readable.some readable.few numbers.2) c.in-Some-2.is in
    absurd (false≢true (sym c.if-is_text.false
    ∙ c.is_text.ensures.1 (c.in_ok-own.ensures ∙ same_text _ _ _ _ _ _ numbers.0 numbers.1 names ∙ is)))
