use Rattle.std.proofs.Common.{◌≡◌, drop, bytes_eq}
use Rattle.std.specs.List.{list_any}
use Rattle.dali_grammar.proofs.reason.forms.has.Given as goal

abbrev pub invariant-loop-form : goal.invariant-loop-form
invariant-loop-form l = list_any (λ form. bytes_eq form.0.now l.name) (drop l.form-index l.forms) ≡ list_any (λ form. bytes_eq form.0.now l.name) l.forms
