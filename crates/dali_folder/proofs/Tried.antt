use Rattle.std.proofs.Common.{arith, ◌≡◌, ◌⊎◌, inl, inr, refl, sym, ap, subst, List, [], ◌∷◌, ◌++◌, Result, Ok, Err, IsErr, IfOk, OnOk, OnErr}
use Rattle.dali_folder.specs.Events.{Event, AreDone, AreBegun, HaveBegun, AreTried, IsPart}

all_begun : (es fs begun : List Event) → AreBegun begun fs → AreBegun (es ++ begun) (es ++ fs)
all_begun [] fs begun b = b
all_begun (e ∷ es) fs begun b = inl (refl, all_begun es fs begun b)

each_begun : (es : List Event) → AreBegun es es
each_begun [] = tt
each_begun (e ∷ es) = inl (refl, each_begun es)

still_begun : (es fs begun : List Event) → AreBegun begun es → AreBegun begun (es ++ fs)
still_begun es fs [] b = tt
still_begun [] fs (d ∷ begun) b = absurd b
still_begun (e ∷ es) fs (d ∷ begun) (inl (same, more)) = inl (same, still_begun es fs begun more)
still_begun (e ∷ es) fs (d ∷ begun) (inr part) = inr part

module _ {F : Type 0} (did : F → F → Event → Type 0) where
  done_more : (es fs : List Event) (x y z : F) → AreDone did es x y → AreDone did fs y z → AreDone did (es ++ fs) x z
  done_more [] fs x y z same more = subst (λ (w : F). AreDone did fs w z) (sym same) more
  done_more (e ∷ es) fs x y z (w, first, rest) more = (w, first, done_more es fs w y z rest more)

  -- some are done, and then others are tried
  pub goes_on : {T E : Type 0} (es fs : List Event) (x y z : F) (r : Result T E) → AreDone did es x y → AreTried did fs y z r
      → AreTried did (es ++ fs) x z r
  goes_on es fs x y z (Ok it) done more = done_more es fs x y z done more
  goes_on es fs x y z (Err e) done (begun, b, more) = (es ++ begun, all_begun es fs begun b, done_more es begun x y z done more)

  -- some have only begun
  pub stops : {T E : Type 0} (es fs : List Event) (x y : F) (r : Result T E) → IsErr r → HaveBegun did es x y
      → AreTried did (es ++ fs) x y r
  stops es fs x y (Ok it) is begun = absurd (grind (arith, is))
  stops es fs x y (Err e) is (begun, b, done) = (begun, still_begun es fs begun b, done)

  -- another result, which is `Ok` only if all is done
  pub all_done : {T E U D : Type 0} (es : List Event) (x y : F) (r : Result T E) (s : Result U D) (it : U → T) → IfOk s (λ u. r ≡ Ok (it u))
      → AreTried did es x y r → OnOk s (AreDone did es x y)
  all_done es x y r (Ok u) it is tried = subst (λ (q : Result _ _). AreTried did es x y q) is tried
  all_done es x y r (Err d) it is tried = tt

  pub some_begun : {T E U D : Type 0} (es : List Event) (x y : F) (r : Result T E) (s : Result U D) → AreTried did es x y r
      → OnErr s (HaveBegun did es x y)
  some_begun es x y r (Ok u) tried = tt
  some_begun es x y (Ok t) (Err d) tried = (es, each_begun es, tried)
  some_begun es x y (Err e) (Err d) tried = tried

-- what does nothing is anything
pub any : {F T E : Type 0} (event : Event) (x : F) (r : Result T E) → AreTried (λ _ _ _. Unit {0}) (event ∷ []) x x r
any event x (Ok it) = (x, tt, refl)
any event x (Err e) = ([], tt, refl)
