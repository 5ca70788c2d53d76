use Rattle.std.proofs.Common.{◌≡◌, ◌≢◌, ◌⊎◌, ◌≤◌, ◌<◌, ◌-◌, ◌^◌, ℕ, zero, suc, arith, inl, inr, refl, sym, subst, ap, ◌∙◌, ◌↔◌, Bool, true, false, ◌||◌, Bor}
use Rattle.std.proofs.Common.{List, [], ◌∷◌, ◌++◌, length, map, get_or, nat_eq, Option, Some, None, Result, Ok, Err, IfOk, codes, decimal, string_bytes, Global}
use Rattle.std.proofs.Common.{String}
use Rattle.std.proofs.lemmas.{Bool.false≢true, Bool.Decides.Decides-eqb, Fmt.decimal_is_IsNumeral, Fmt.parse-decimal, List.append_assoc, List.append-nil}
use Rattle.std.proofs.lemmas.{List.length-append, List.map-append}
use Rattle.std.proofs.lemmas.Str.Pattern.{IsSplitOnceResult, split_after}
use Rattle.std.specs.Char.{digit_value}
use Rattle.std.specs.List.{list_any}
use Rattle.std.specs.Option.{MatchOption, IsSome, IsSomeAnd}
use Rattle.std.specs.Result.{result_ok}
use Rattle.std.specs.Str.Parse.{AllDigits, ParsesUnsigned}
use Rattle.dali_script.specs.Records.{Has}
use Rattle.dali_script.proofs.Members.{has_either}
use Rattle.dali_replacement.specs.Swapping.{first_line, newline, numbers_line, lines_of, IsWithout, AreWithout}

-- A VALUE THAT IS THERE
pub found : {A : Type 0} (r : Option A) (P : A → Type 0) → MatchOption r ⊥ P → IsSomeAnd r P
found None P h = h
found (Some x) P h = h

pub not_none : {A : Type 0} (r : Option A) (P : A → Type 0) → IsSomeAnd r P → r ≡ None → ⊥
not_none r P here is = subst (λ o. IsSomeAnd o P) is here

pub of_some : {A : Type 0} (r : Option A) (P : A → Type 0) (x : A) → IsSomeAnd r P → r ≡ Some x → P x
of_some r P x here is = subst (λ o. IsSomeAnd o P) is here

pub not_both : {A : Type 0} (r : Option A) (x : A) → r ≡ Some x → r ≡ None → ⊥
not_both r x here gone = not_none r (λ _. Unit {0}) (subst (λ o. IsSomeAnd o (λ _. Unit {0})) (sym here) tt) gone

pub one_value : {A : Type 0} (r : Option A) (x y : A) → r ≡ Some x → r ≡ Some y → y ≡ x
one_value r x y here also = of_some r (λ z. z ≡ x) y (subst (λ o. IsSomeAnd o (λ z. z ≡ x)) (sym here) refl) also

-- A BYTE THAT A TEXT IS WITHOUT
not_at : (c : ℕ) (xs : List ℕ) → IsWithout c xs → (i : ℕ) → i < length xs → get_or xs i 0 ≢ c
not_at c [] none i below = absurd (omega (arith, below))
not_at c (x ∷ xs) none zero below = λ is. none (inl is)
not_at c (x ∷ xs) none (suc i) below = not_at c xs (λ has. none (inr has)) i (omega (arith, below))

or_false_left : (a b : Bool) → (a || b) ≡ false → a ≡ false
or_false_left true b is = is
or_false_left false b is = refl

or_false_right : (a b : Bool) → (a || b) ≡ false → b ≡ false
or_false_right true b is = absurd (false≢true (sym is))
or_false_right false b is = is

lacks : (c : ℕ) (xs : List ℕ) → list_any (λ b. nat_eq b c) xs ≡ false → IsWithout c xs
lacks c [] none has = has
lacks c (x ∷ xs) none (inl is) = false≢true (sym (or_false_left _ _ none) ∙ (Decides-eqb x c).1 is)
lacks c (x ∷ xs) none (inr has) = lacks c xs (or_false_right _ _ none) has

no_digit : (c : ℕ) (ds : List ℕ) → AllDigits 10 ds → 10 ≤ digit_value c → IsWithout c ds
no_digit c [] all not has = has
no_digit c (d ∷ ds) all not (inl is) = absurd (omega (arith, subst (λ x. digit_value x < 10) is all.0, not))
no_digit c (d ∷ ds) all not (inr has) = no_digit c ds all.1 not has

decimal_without : (c n : ℕ) → n < 2 ^ 64 → 10 ≤ digit_value c → IsWithout c (decimal n)
decimal_without c n small not = no_digit c (decimal n) (decimal_is_IsNumeral n small).0.1 not

pub line_first : (c : ℕ) (bs line rest : List ℕ) (r : Option (Bor (List ℕ) × Bor (List ℕ))) → IsSplitOnceResult c bs r → c < 128
    → IsWithout c line → bs ≡ line ++ c ∷ rest → IsSomeAnd r (λ x. (x.0.now ≡ line) × (x.1.now ≡ rest))
line_first c bs line rest r splits small none is = found r _ (split_after c bs line rest r splits small is (not_at c line none))

-- THE NUMBERS OF A JOURNAL, on either side of a space
pub halves : (bs : List ℕ) (r : Option (Bor (List ℕ) × Bor (List ℕ))) (a n : ℕ) → IsSplitOnceResult 32 bs r → a < 64 → n < 2 ^ 32
    → bs ≡ numbers_line a n → IsSomeAnd r (λ x. (x.0.now ≡ decimal a) × (x.1.now ≡ decimal n))
halves bs r a n splits below small is =
    line_first 32 bs (decimal a) (decimal n) r splits (omega arith) (decimal_without 32 a (omega (arith, below)) (omega arith))
    (is ∙ append_assoc (decimal a) (codes " ") (decimal n))

pub short_there : (n : ℕ) (o : Option ℕ) → (IsSome o ↔ (n < 64)) → n < 64 → o ≡ None → ⊥
short_there n o range below gone = false≢true (subst (λ p. IsSome p) gone (range.1 below))

pub parsed : {E : Type 0} (k n : ℕ) (bs : List ℕ) (r : Result ℕ E) (o : Option ℕ) → n < 2 ^ k → n < 2 ^ 64 → bs ≡ decimal n → ParsesUnsigned k 10 bs r
    → o ≡ result_ok r → o ≡ Some n
parsed k n bs r o small fits is parses named = named ∙ ap result_ok (parse-decimal k n bs r small fits is parses)

numbers_without : (a n : ℕ) → a < 64 → n < 2 ^ 32 → IsWithout 10 (numbers_line a n)
numbers_without a n below small has = go (has_either (decimal a ++ codes " ") (decimal n) 10 has) where
  space : IsWithout 10 (codes " ")
  space = lacks 10 (codes " ") refl

  first : Has (decimal a) 10 ⊎ Has (codes " ") 10 → ⊥
  first (inl here) = decimal_without 10 a (omega (arith, below)) (omega arith) here
  first (inr here) = space here

  go : Has (decimal a ++ codes " ") 10 ⊎ Has (decimal n) 10 → ⊥
  go (inl here) = first (has_either (decimal a) (codes " ") 10 here)
  go (inr here) = decimal_without 10 n (omega (arith, small)) (omega arith) here

head_without : IsWithout 10 first_line
head_without = lacks 10 first_line refl

pub head_found : (text rest : List ℕ) (r : Option (Bor (List ℕ) × Bor (List ℕ)))
    → ((line more : List ℕ) → IsWithout 10 line → text ≡ line ++ 10 ∷ more → IsSomeAnd r (λ x. (x.0.now ≡ line) × (x.1.now ≡ more)))
    → text ≡ first_line ++ 10 ∷ rest → IsSomeAnd r (λ x. (x.0.now ≡ first_line) × (x.1.now ≡ rest))
head_found text rest r finds is = finds first_line rest head_without is

pub numbers_found : (text rest : List ℕ) (a n : ℕ) (r : Option (Bor (List ℕ) × Bor (List ℕ)))
    → ((line more : List ℕ) → IsWithout 10 line → text ≡ line ++ 10 ∷ more → IsSomeAnd r (λ x. (x.0.now ≡ line) × (x.1.now ≡ more)))
    → a < 64 → n < 2 ^ 32 → text ≡ numbers_line a n ++ 10 ∷ rest → IsSomeAnd r (λ x. (x.0.now ≡ numbers_line a n) × (x.1.now ≡ rest))
numbers_found text rest a n r finds below small is = finds (numbers_line a n) rest (numbers_without a n below small) is

-- THE NAMES OF A JOURNAL, line by line
not_empty : (line more : List ℕ) → line ++ 10 ∷ more ≡ [] → ⊥
not_empty line more is =
    let none : length (line ++ 10 ∷ more) ≡ 0 = ap length is in
    absurd (omega (arith, none, length-append line (10 ∷ more)))

pub no_lines : (lines : List (List ℕ)) → lines_of lines ≡ [] → lines ≡ []
no_lines [] is = refl
no_lines (line ∷ more) is = absurd (not_empty line (lines_of more) (sym (append_assoc line newline (lines_of more)) ∙ is))

pub none_added : (before : List (List ℕ)) (lines : List (List ℕ)) (text : List ℕ) → length text ≡ 0 → text ≡ lines_of lines → before ≡ before ++ lines
none_added before lines text empty is =
    subst (λ ls. before ≡ before ++ ls) (sym (no_lines lines (sym is ∙ nothing text empty))) (sym (append-nil before))
  where
    nothing : (xs : List ℕ) → length xs ≡ 0 → xs ≡ []
    nothing [] none = refl
    nothing (x ∷ xs) none = absurd (omega (arith, none))

-- the first of some lines
pub first_found : (text : List ℕ) (lines : List (List ℕ)) (r : Option (Bor (List ℕ) × Bor (List ℕ)))
    → ((line more : List ℕ) → IsWithout 10 line → text ≡ line ++ 10 ∷ more → IsSomeAnd r (λ x. (x.0.now ≡ line) × (x.1.now ≡ more)))
    → (length text ≡ 0 → ⊥) → AreWithout 10 lines → text ≡ lines_of lines
    → (line : List ℕ) × (more : List (List ℕ)) × (lines ≡ line ∷ more) × AreWithout 10 more
    × IsSomeAnd r (λ x. (x.0.now ≡ line) × (x.1.now ≡ lines_of more))
first_found text [] r finds some without is = absurd (some (ap length is))
first_found text (line ∷ more) r finds some without is =
    (line, more, refl, without.1, finds line (lines_of more) without.0 (is ∙ append_assoc line newline (lines_of more)))

pub more_added : {E : Type 0} (text : List ℕ) (before mid after : List (List ℕ)) (most : ℕ) (r : Option (Bor (List ℕ) × Bor (List ℕ)))
    (added : Result Bool E) (x : Bor (List ℕ) × Bor (List ℕ))
    → ((line more : List ℕ) → IsWithout 10 line → text ≡ line ++ 10 ∷ more → IsSomeAnd r (λ x. (x.0.now ≡ line) × (x.1.now ≡ more)))
    → (length text ≡ 0 → ⊥) → r ≡ Some x → mid ≡ before ++ x.0.now ∷ []
    → IfOk added (λ are. (lines : List (List ℕ)) → AreWithout 10 lines → length lines ≤ most - 1 → x.1.now ≡ lines_of lines
    → (are ≡ true) × (after ≡ mid ++ lines))
    → IfOk added (λ are. (lines : List (List ℕ)) → AreWithout 10 lines → length lines ≤ most → text ≡ lines_of lines
    → (are ≡ true) × (after ≡ before ++ lines))
more_added text before mid after most r (Err e) x finds some is puts adds = tt
more_added text before mid after most r (Ok are) x finds some is puts adds = λ lines without few same.
    let (line, more, begins, without_too, here) = first_found text lines r finds some without same in
    let both = of_some r _ x here is in
    let (are_all, after_is) = adds more without_too (omega (arith, few, ap length begins)) both.1 in (
      are_all,
      after_is ∙ ap (λ ls. ls ++ more) puts ∙ append_assoc before (x.0.now ∷ []) more
          ∙ ap (λ l. before ++ l ∷ more) both.0 ∙ ap (λ ls. before ++ ls) (sym begins),
    )

-- THE PARTS OF A JOURNAL
pub text_parts : (a n : ℕ) (names : List (List ℕ))
    → lines_of (first_line ∷ numbers_line a n ∷ names) ≡ first_line ++ 10 ∷ (numbers_line a n ++ 10 ∷ lines_of names)
text_parts a n names =
    append_assoc first_line newline (lines_of (numbers_line a n ∷ names))
    ∙ ap (λ rest. first_line ++ 10 ∷ rest) (append_assoc (numbers_line a n) newline (lines_of names))

-- a text is empty, or is not
pub is_none : (b : Bool) (n : ℕ) → b ≡ (nat_eq n 0) → b ≡ true → n ≡ 0
is_none b n says is = (Decides-eqb n 0).0 (sym says ∙ is)

pub is_some : (b : Bool) (n : ℕ) → b ≡ (nat_eq n 0) → b ≡ false → n ≡ 0 → ⊥
is_some b n says not is = false≢true (sym not ∙ says ∙ (Decides-eqb n 0).1 is)

-- one name more
pub names_pushed : (names : List (String Global)) (name : String Global) (text : List ℕ) → string_bytes name ≡ text
    → map string_bytes (names ++ name ∷ []) ≡ map string_bytes names ++ text ∷ []
names_pushed names name text is = map-append string_bytes names (name ∷ []) ∙ ap (λ t. map string_bytes names ++ t ∷ []) is

pub same_text : (a b n m : ℕ) (names others : List (List ℕ)) → a ≡ b → n ≡ m → names ≡ others
    → lines_of (first_line ∷ numbers_line a n ∷ names) ≡ lines_of (first_line ∷ numbers_line b m ∷ others)
same_text a b n m names others one two three =
    ap (λ x. lines_of (first_line ∷ numbers_line x n ∷ names)) one ∙ ap (λ x. lines_of (first_line ∷ numbers_line b x ∷ names)) two
    ∙ ap (λ x. lines_of (first_line ∷ numbers_line b m ∷ x)) three
