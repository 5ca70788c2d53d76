use Rattle.std.proofs.Common.{◌≡◌, ◌≤◌, ◌-◌, take, drop, arith, Bool, ℕ, ◌+◌, suc, List, [], ◌∷◌, length, Option, None, Some, refl, subst, sym, ◌∙◌, ap, inl}
use Rattle.std.proofs.{Common.inr, Math.ListN.get_or, lemmas.List.take_all}
use Rattle.dali_frame.specs.declared.frames.Answer.{Answer}
use Rattle.dali_script.specs.declared.orders.Input.{Input}
use Rattle.dali_commissioning.specs.{Census.answer_told, Drivers.Talk}
use Rattle.dali_commissioning.specs.Unaddressed.{IsPutSo, ArePut, is_yes, joined_yes, found_at, found_by, AreTried}
use Rattle.dali_commissioning.{specs.declared.unaddressed.Putting.Putting, proofs.Asked.is_heard}

-- all was tried so often, and lost
pub record HaveTried (puttings : List Putting) (count : ℕ) (x y : Talk) : Type 0 where
  pub tried : List (List Input)
  pub are : AreTried puttings tried x y
  pub counted : length tried ≡ count

-- what putting the frames once came to
abbrev pub ComesTo : List Putting → Option Bool → Talk → Talk → Type 0
ComesTo puttings found x y = (told : List Input) × ArePut puttings told x y × (found ≡ found_by puttings told)

-- a first frame and the others
pub split : (all : List Putting) (p : Putting) → p ≡ get_or all 0 p → 1 ≤ length all
    → all ≡ p ∷ take (length all - 1) (drop 1 all)
split [] p is some = absurd (omega (arith, some))
split (x ∷ more) p is some = ap (λ q. q ∷ more) (sym is) ∙ ap (λ l. p ∷ l) (sym (take_all (length (x ∷ more) - 1) more (omega arith)))

-- one frame that was heard, and then the others
pub put_one : (p : Putting) (puttings : List Putting) (told : Input) (x y z : Talk) (heard : Option Answer) (h : Answer)
    (later : Option Bool) → IsPutSo p told x y → heard ≡ answer_told told → heard ≡ Some h → ComesTo puttings later y z
    → ComesTo (p ∷ puttings) (joined_yes (is_yes p.asks h) later) x z
put_one p puttings told x y z heard h later put told_so is (more, are, says) = (
  told ∷ more,
  (y, put, inl (is_heard heard told h told_so is), are),
  ap (joined_yes (is_yes p.asks h)) says
      ∙ ap (λ a. found_at p.asks a (found_by puttings more)) (sym is ∙ told_so),
)

pub put_first : (all puttings : List Putting) (p : Putting) (told : Input) (x y z : Talk) (heard : Option Answer) (h : Answer)
    (here : Bool) (later found : Option Bool) → all ≡ p ∷ puttings → IsPutSo p told x y → heard ≡ answer_told told
    → heard ≡ Some h → here ≡ is_yes p.asks h → ComesTo puttings later y z → found ≡ joined_yes here later
    → ComesTo all found x z
put_first all puttings p told x y z heard h here later found are put told_so is says comes so =
    subst (λ l. ComesTo l found x z) (sym are)
    (subst (λ f. ComesTo (p ∷ puttings) f x z) (sym (so ∙ ap (λ b. joined_yes b later) says))
    (put_one p puttings told x y z heard h later put told_so is comes))

-- one that was lost
pub put_lost : (p : Putting) (puttings : List Putting) (told : Input) (x y : Talk) (heard : Option Answer)
    → IsPutSo p told x y → heard ≡ answer_told told → heard ≡ None → ComesTo (p ∷ puttings) None x y
put_lost p puttings told x y heard put told_so is = (
  told ∷ [],
  (y, put, inr refl, refl),
  ap (λ a. found_at p.asks a (found_by puttings [])) (sym is ∙ told_so),
)

pub lost_first : (all puttings : List Putting) (p : Putting) (told : Input) (x y : Talk) (heard : Option Answer)
    → all ≡ p ∷ puttings → IsPutSo p told x y → heard ≡ answer_told told → heard ≡ None → ComesTo all None x y
lost_first all puttings p told x y heard are put told_so is =
    subst (λ l. ComesTo l None x y) (sym are) (put_lost p puttings told x y heard put told_so is)

pub tried_more : (count : ℕ) (puttings : List Putting) (x y z : Talk) (found : Option Bool) → HaveTried puttings count x y
    → ComesTo puttings found y z → found ≡ None → HaveTried puttings (count + 1) x z
tried_more count puttings x y z found so_far (told, put, says) none =
    let one : suc (length so_far.tried) ≡ length so_far.tried + 1 = omega arith in
    record {
      tried = told ∷ so_far.tried;
      are = (y, so_far.are, put, sym says ∙ none);
      counted = one ∙ ap (λ n. n + 1) so_far.counted;
    }
