use Rattle.std.proofs.Common.{◌≡◌, ℕ, ◌+◌, ◌<◌, ◌⊎◌, inl, inr, Bool, true, false, zero, suc, List, [], ◌∷◌, ◌++◌, refl, ap, subst, arith, length, map, get_or}
use Rattle.std.proofs.Common.{add-zero, zero-add, ◌&&◌}
use Rattle.dali_special.specs.declared.command.Command.{Command}
use Rattle.dali_gear.specs.{Gear.Gear, Gear.fresh, Gear.draws_a_number, Gear.gear_taken, Row.takes, Row.next_draw, Row.one_after, Row.left_after, Row.row_after}
use Rattle.dali_gear.specs.{Row.row_left, Row.drawn_one, Row.drawn_of, declared.row.Reach.Reach}
use Rattle.dali_script.specs.Records.{Has}

-- WHAT A FRAME DOES TO GEAR k OF A ROW: it stays as it was, or takes the command and the number r, which it draws
-- from those left where it draws.
pub data Moved (reach : Reach) (c : Command) (draws : List (ℕ × ℕ)) (k : ℕ) (g : Gear) : Gear → Type 0 where
  stays : takes reach k g ≡ false → Moved reach c draws k g g
  goes : (r : ℕ) → takes reach k g ≡ true → (draws_a_number c g ≡ true → (r ≡ g.random) ⊎ Has draws (k, r)) → Moved reach c draws k g (gear_taken c r g)

moved_more : (reach : Reach) (c : Command) (ds es : List (ℕ × ℕ)) (k : ℕ) (g h : Gear) → ((x : ℕ × ℕ) → Has ds x → Has es x) → Moved reach c ds k g h
    → Moved reach c es k g h
moved_more reach c ds es k g _ more (stays e) = stays e
moved_more reach c ds es k g _ more (goes r e drew) = goes r e (λ w. go (drew w)) where
  go : (r ≡ g.random) ⊎ Has ds (k, r) → (r ≡ g.random) ⊎ Has es (k, r)
  go (inl s) = inl s
  go (inr h) = inr (more (k, r) h)

drawn_before : (b : Bool) (k : ℕ) (left : List ℕ) (more : List (ℕ × ℕ)) (x : ℕ × ℕ) → Has more x → Has (drawn_one b k left more) x
drawn_before true k (r ∷ left) more x h = inr h
drawn_before _ k _ more x h = h

moves_here : (reach : Reach) (c : Command) (k : ℕ) (g : Gear) (left : List ℕ) (more : List (ℕ × ℕ)) (t : Bool) → takes reach k g ≡ t
    → Moved reach c (drawn_one (t && draws_a_number c g) k left more) k g (one_after t c left g)
moves_here reach c k g left more false e = stays e
moves_here reach c k g left more true e = goes (next_draw g left) e (λ w. go (draws_a_number c g) left w) where
  go : (b : Bool) (left : List ℕ) → b ≡ true → (next_draw g left ≡ g.random) ⊎ Has (drawn_one b k left more) (k, next_draw g left)
  go false left w = absurd (cc)
  go true [] w = inl refl
  go true (r ∷ left) w = inr (inl refl)

moves_from : (reach : Reach) (c : Command) (gs : List Gear) (k : ℕ) (left : List ℕ) (i : ℕ) → i < length gs
    → Moved reach c (drawn_of reach c k gs left) (k + i) (get_or gs i fresh) (get_or (row_after reach c k gs left) i fresh)
moves_from reach c [] k left i h = absurd (omega arith)
moves_from reach c (g ∷ gs) k left zero h =
    rw add-zero (moves_here reach c k g left (drawn_of reach c (k + 1) gs (left_after (takes reach k g && draws_a_number c g) left)) (takes reach k g) refl)
moves_from reach c (g ∷ gs) k left (suc i) h =
    let same : k + 1 + i ≡ k + suc i = omega arith in
    let more : List (ℕ × ℕ) = drawn_of reach c (k + 1) gs (left_after (takes reach k g && draws_a_number c g) left) in
    let there = moves_from reach c gs (k + 1) (left_after (takes reach k g && draws_a_number c g) left) i (omega arith) in
    moved_more reach c _ _ (k + suc i) _ _ (drawn_before (takes reach k g && draws_a_number c g) k left _)
    (subst (λ n. Moved reach c (drawn_of reach c (k + 1) gs (left_after (takes reach k g && draws_a_number c g) left)) n (get_or gs i fresh)
    (get_or (row_after reach c (k + 1) gs (left_after (takes reach k g && draws_a_number c g) left)) i fresh)) same there)

pub moves_at : (reach : Reach) (c : Command) (gs : List Gear) (left : List ℕ) (i : ℕ) → i < length gs
    → Moved reach c (drawn_of reach c 0 gs left) i (get_or gs i fresh) (get_or (row_after reach c 0 gs left) i fresh)
moves_at reach c gs left i h =
    let start : 0 + i ≡ i = zero-add i in
    subst (λ n. Moved reach c (drawn_of reach c 0 gs left) n (get_or gs i fresh) (get_or (row_after reach c 0 gs left) i fresh)) start
    (moves_from reach c gs 0 left i h)

-- as many gear as before
pub row_length : (reach : Reach) (c : Command) (k : ℕ) (gs : List Gear) (left : List ℕ) → length (row_after reach c k gs left) ≡ length gs
row_length reach c k [] left = refl
row_length reach c k (g ∷ gs) left = ap suc (row_length reach c (k + 1) gs (left_after (takes reach k g && draws_a_number c g) left))

-- THE NUMBERS DRAWN, AND THEN THOSE LEFT, ARE THOSE BEFORE
pub numbers_stay : (reach : Reach) (c : Command) (k : ℕ) (gs : List Gear) (left : List ℕ)
    → map (λ draw. draw.1) (drawn_of reach c k gs left) ++ row_left reach c k gs left ≡ left
numbers_stay reach c k [] left = refl
numbers_stay reach c k (g ∷ gs) left =
    go (takes reach k g && draws_a_number c g) left (drawn_of reach c (k + 1) gs (left_after (takes reach k g && draws_a_number c g) left))
    (row_left reach c (k + 1) gs (left_after (takes reach k g && draws_a_number c g) left))
    (numbers_stay reach c (k + 1) gs (left_after (takes reach k g && draws_a_number c g) left)) where
      go : (b : Bool) (xs : List ℕ) (more : List (ℕ × ℕ)) (rest : List ℕ) → map (λ draw. draw.1) more ++ rest ≡ left_after b xs
          → map (λ draw. draw.1) (drawn_one b k xs more) ++ rest ≡ xs
      go true (r ∷ xs) more rest e = ap (λ ys. r ∷ ys) e
      go _ _ more rest e = e
