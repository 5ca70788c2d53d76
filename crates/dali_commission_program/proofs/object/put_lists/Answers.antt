use Rattle.std.proofs.Common.{◌≡◌, ℕ, ◌++◌, OnOk, List, Result, Ok, Err, append_assoc, ap, ◌∙◌}
use Rattle.json.specs.Token.{Token}
use Rattle.dali_commission_program.specs.Object.{list_tokens}
use Rattle.dali_commission_program.proofs.object.put_lists.Goals as goal

-- tokens after tokens
then : (k l m : List ℕ) (a b c xs ys : List Token) → (l ≡ k) × (b ≡ a ++ xs) → (m ≡ l) × (c ≡ b ++ ys) → (m ≡ k) × (c ≡ a ++ (xs ++ ys))
then k l m a b c xs ys (kept, was) (same, is) = (same ∙ kept, is ∙ ap (λ ts. ts ++ ys) was ∙ append_assoc a xs ys)

last : {E : Type 0} (r : Result (Unit {0}) E) (k l m : List ℕ) (a b c xs ys : List Token) → (l ≡ k) × (b ≡ a ++ xs)
    → OnOk r ((m ≡ l) × (c ≡ b ++ ys)) → OnOk r ((m ≡ k) × (c ≡ a ++ (xs ++ ys)))
last (Ok done) k l m a b c xs ys first more = then k l m a b c xs ys first more
last (Err e) k l m a b c xs ys first more = tt

pub returns : goal.returns
unfolding list_tokens
returns c =
    let table = then _ _ _ _ _ _ _ _ c.in_ok-begin_list.ensures (rw c.deref.ensures.0 at c.in_ok-put_rows.ensures) in
    let left = then _ _ _ _ _ _ _ _ (then _ _ _ _ _ _ _ _ table c.in_ok-begin_list-2.ensures) (rw c.deref-2.ensures.0 at c.in_ok-put_numbers.ensures) in
    let missing = then _ _ _ _ _ _ _ _ (then _ _ _ _ _ _ _ _ left c.in_ok-begin_list-3.ensures) (rw c.deref-3.ensures.0 at c.in_ok-put_missing.ensures) in
    let strange = then _ _ _ _ _ _ _ _ (then _ _ _ _ _ _ _ _ missing c.in_ok-begin_list-4.ensures) (rw c.deref-4.ensures.0 at c.in_ok-put_strangers.ensures) in
    last _ _ _ _ _ _ _ _ _ strange c.put.ensures
