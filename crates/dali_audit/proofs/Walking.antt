use Rattle.std.proofs.Common.{◌≡◌, ℕ, ◌+◌, ◌<◌, List, [], ◌∷◌, length, get_or, drop, Option, Some, sym, ap, subst, ◌∙◌, arith}
use Rattle.dali_capture.specs.declared.item.Item.{Item}
use Rattle.dali_audit.specs.declared.{places.Place.Place, places.Reading.Reading, seen.Seen.Seen}
use Rattle.dali_audit.specs.Seen.{seen_of}
use Rattle.dali_audit.specs.Findings.{first_of}
use Rattle.dali_audit.specs.Places.{places_from, placed_with, revealed, reading_after}

-- one item more of a capture is walked over
pub count : (n m : ℕ) (rest xs : List Item) → 0 < length rest → xs ≡ drop 1 rest → n + length rest ≡ m → n + 1 + length xs ≡ m
count n m [] xs some xs-is all = absurd (omega arith)
count n m (x ∷ ys) xs some xs-is all = rw xs-is (omega arith)

module _ (before : Option Item) (d : Item) where
  seen : (x : Item) (ys xs : List Item) (f : Option Item) (s : Seen) → xs ≡ ys → f ≡ first_of xs → s ≡ seen_of before x f → seen_of before x (first_of ys) ≡ s
  seen x ys xs f s xs-is f-is s-is = sym (s-is ∙ ap (λ g. seen_of before x g) (f-is ∙ ap (λ zs. first_of zs) xs-is))

  pub places : (rd rd2 : Reading) (n : ℕ) (rest xs : List Item) (f : Option Item) (s : Seen) (r : Option Place) (ps ps2 all : List Place)
      → 0 < length rest → xs ≡ drop 1 rest → f ≡ first_of xs → s ≡ seen_of before (get_or rest 0 d) f → r ≡ revealed (get_or rest 0 d) s rd
      → ps2 ≡ placed_with r ps → rd2 ≡ reading_after n (get_or rest 0 d) s rd → places_from rd before n rest ps ≡ all
      → places_from rd2 (Some (get_or rest 0 d)) (n + 1) xs ps2 ≡ all
  places rd rd2 n [] xs f s r ps ps2 all some xs-is f-is s-is r-is ps-is rd-is known = absurd (omega arith)
  places rd rd2 n (x ∷ ys) xs f s r ps ps2 all some xs-is f-is s-is r-is ps-is rd-is known =
      subst (λ zs. places_from rd2 (Some x) (n + 1) zs ps2 ≡ all) (sym xs-is)
      (subst (λ qs. places_from rd2 (Some x) (n + 1) ys qs ≡ all) (sym (ps-is ∙ ap (λ q. placed_with q ps) r-is))
      (subst (λ t. places_from t (Some x) (n + 1) ys (placed_with (revealed x s rd) ps) ≡ all) (sym rd-is)
      (subst (λ t. places_from (reading_after n x t rd) (Some x) (n + 1) ys (placed_with (revealed x t rd) ps) ≡ all)
      (seen x ys xs f s xs-is f-is s-is) known)))
