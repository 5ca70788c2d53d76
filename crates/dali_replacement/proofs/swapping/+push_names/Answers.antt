use Rattle.std.proofs.Common.{ap, map, string_bytes, refl, ◌∙◌}
use Rattle.dali_replacement.proofs.Reading.{none_added, first_found, more_added, is_none, is_some, names_pushed, not_none}
use Rattle.dali_replacement.proofs.swapping.+push_names.Goals as goal

pub returns-then-is_empty : goal.returns-then-is_empty
returns-then-is_empty t c = λ lines without few is. (refl, none_added _ lines c.args.text.now (is_none _ _ c.is_empty.ensures c.if-is_empty.true) is)

pub returns-in_default : goal.returns-in_default
returns-in_default t c = λ lines without few is.
    let (line, more, begins, without_too, here) =
    first_found c.args.text.now lines c.line_in.result c.line_in.ensures (is_some _ _ c.is_empty.ensures c.if-is_empty.false) without is in
    absurd (not_none _ _ here c.in_default.is)

pub returns : goal.returns
returns t c = more_added c.args.text.now _ _ _ c.args.most c.line_in.result c.push_names.result _ c.line_in.ensures
    (is_some _ _ c.is_empty.ensures c.if-is_empty.false) c.in-Some.is
    (ap (λ ns. map string_bytes ns) c.in_ok-push.ensures.items
    ∙ names_pushed c.args.names.now.items c.in_ok-from_str.field-0 c.in-Some.name.now c.in_ok-from_str.ensures.ok) c.push_names.ensures
