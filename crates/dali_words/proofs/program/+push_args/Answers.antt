use Rattle.std.proofs.Common.{◌≡◌, ◌≤◌, ◌-◌, arith, ◌++◌, ◌∷◌, [], List, drop, take, length, length-drop, Result, Ok, Err, OnOk, get_or, subst}
use Rattle.std.proofs.lemmas.List.{take_all}
use Rattle.clap.specs.declared.builder.arg.Arg.{Arg}
use Rattle.dali_words.specs.declared.program.Word.{Word}
use Rattle.dali_words.specs.Arguments.{IsArgument, AddsArguments}
use Rattle.dali_words.proofs.program.+push_args.Goals as goal

on_ok : {E : Type 0} (r : Result (Unit {0}) E) (P Q : Type 0) → (P → Q) → OnOk r P → OnOk r Q
on_ok (Ok x) P Q f h = f h
on_ok (Err e) P Q f h = tt

one_more : (words tail : List Word) (word : Word) (args mid more : List Arg) (arg : Arg) → 1 ≤ length words
    → tail ≡ drop 1 words → IsArgument (get_or words 0 word) arg → mid ≡ args ++ arg ∷ [] → AddsArguments mid tail more
    → AddsArguments args words more
one_more [] tail word args mid more arg some behind is added rest = absurd (omega arith)
one_more (w ∷ ws) tail word args mid more arg some behind is added rest =
    (arg, is, subst (λ (m : List Arg). AddsArguments m ws more) added (subst (λ (t : List Word). AddsArguments mid t more) behind rest))

all_behind : (words : List Word) → 1 ≤ length words → take (length words - 1) (drop 1 words) ≡ drop 1 words
all_behind words some = take_all (length words - 1) (drop 1 words) (omega (arith, length-drop 1 words))

pub returns : goal.returns
returns t c =
    on_ok c.push_args.result _ _ (λ rest. one_more c.args.words.now _ _ _ _ _ c.in_ok-arg.arg c.in-len1-up.len_at_least
    (all_behind c.args.words.now c.in-len1-up.len_at_least) c.in_ok-arg.ensures c.in_ok-push.ensures.items rest) c.push_args.ensures
