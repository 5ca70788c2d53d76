use Rattle.std.proofs.Common.{◌≡◌, ℕ, ◌+◌, ◌<◌, List, ◌∷◌, ◌++◌, length, get_or, drop, sym, ap, ◌∙◌}
use Rattle.std.proofs.lemmas.List.{drop_more}
use mathlib.Core.List.{append_assoc}
use Rattle.dali_gear.specs.Gear.{Gear, fresh}
use Rattle.dali_replay.specs.Text.{gear_text, gear_texts}

-- one more gear's line
pub gear_texts_more : (old new whole : List ℕ) (n : ℕ) (gs : List Gear) (g : Gear)
    → n < length gs → g ≡ get_or gs n fresh → new ≡ old ++ gear_text n g
    → old ++ gear_texts n (drop n gs) ≡ whole
    → new ++ gear_texts (n + 1) (drop (n + 1) gs) ≡ whole
gear_texts_more old new whole n gs g here here_is is so_far =
    let next : drop n gs ≡ g ∷ drop (n + 1) gs = drop_more gs n fresh here ∙ ap (λ x. x ∷ drop (n + 1) gs) (sym here_is) in
    let known = rw next at so_far in
    ap (λ xs. xs ++ gear_texts (n + 1) (drop (n + 1) gs)) is
    ∙ append_assoc old (gear_text n g) (gear_texts (n + 1) (drop (n + 1) gs)) ∙ known

-- one more line at the end
pub line_more : (old new whole front one : List ℕ) → new ≡ old ++ one → old ≡ whole ++ front → new ≡ whole ++ (front ++ one)
line_more old new whole front one is so_far = is ∙ ap (λ xs. xs ++ one) so_far ∙ append_assoc whole front one

-- one text after the other
pub then_one : (old mid new first second : List ℕ) → mid ≡ old ++ first → new ≡ mid ++ second → new ≡ old ++ (first ++ second)
then_one old mid new first second is so_far = so_far ∙ ap (λ xs. xs ++ second) is ∙ append_assoc old first second

pub then_two : (old one two new first second third : List ℕ) → one ≡ old ++ first → two ≡ one ++ second → new ≡ two ++ third
    → new ≡ old ++ (first ++ (second ++ third))
then_two old one two new first second third is then so_far = then_one old one new first (second ++ third) is (then_one one two new second third then so_far)

-- two texts, and then a third one, at the end
pub two_more : (old mid new first second third : List ℕ) → mid ≡ old ++ (first ++ second) → new ≡ mid ++ third → new ≡ old ++ (first ++ (second ++ third))
two_more old mid new first second third is so_far =
    so_far ∙ ap (λ xs. xs ++ third) is ∙ append_assoc old (first ++ second) third ∙ ap (λ xs. old ++ xs) (append_assoc first second third)

-- one item more of a list whose items are counted, where each has its text
pub one_more : {A : Type 0} (item : ℕ → A → List ℕ) (items : ℕ → List A → List ℕ)
    → ((k : ℕ) (x : A) (xs : List A) → items k (x ∷ xs) ≡ item k x ++ items (k + 1) xs)
    → (old new whole : List ℕ) (n : ℕ) (xs : List A) (other x : A) → n < length xs → x ≡ get_or xs n other → new ≡ old ++ item n x
    → old ++ items n (drop n xs) ≡ whole → new ++ items (n + 1) (drop (n + 1) xs) ≡ whole
one_more item items first old new whole n xs other x here here_is is so_far =
    let next : drop n xs ≡ x ∷ drop (n + 1) xs = drop_more xs n other here ∙ ap (λ y. y ∷ drop (n + 1) xs) (sym here_is) in
    let known = rw (next, first) at so_far in
    ap (λ ys. ys ++ items (n + 1) (drop (n + 1) xs)) is
    ∙ append_assoc old (item n x) (items (n + 1) (drop (n + 1) xs)) ∙ known
