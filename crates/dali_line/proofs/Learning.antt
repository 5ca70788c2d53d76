use Rattle.std.proofs.Common.{◌≡◌, inl, inr, List, [], ◌∷◌, ◌++◌, refl, sym, ◌∙◌, subst, ⊎_elim}
use Rattle.std.{proofs.lemmas.List.append_assoc, specs.Option.IsSomeAnd, specs.Option.IfSome}
use Rattle.std.specs.declared.option.Option.{Option, TheVariants.None, TheVariants.Some}
use Rattle.dali_script.specs.{Records.Has, Table.Enrolled, declared.records.Record.Record, declared.records.Record.TheVariants.Enrol}
use Rattle.dali_enrol.specs.Directory.{Pass, Keeps, known_at}
use Rattle.dali_line.{specs.Leaves.Leaves, specs.Leaves.Learns, specs.Leaves.Posts, proofs.Leaving.leaves_none, proofs.Leaving.leaves_more}

-- WHAT A WORKER'S PASS LEARNS, turn by turn.

pub has_left : {A : Type 0} (xs ys : List A) (x : A) → Has xs x → Has (xs ++ ys) x
has_left [] ys x has = elim has [ ]
has_left (z ∷ xs) ys x (inl here) = inl here
has_left (z ∷ xs) ys x (inr there) = inr (has_left xs ys x there)

some_then : {X : Type 0} (o : Option X) (P Q : X → Type 0) → ((x : X) → P x → Q x) → IsSomeAnd o P → IsSomeAnd o Q
some_then None P Q f p = elim p [ ]
some_then (Some x) P Q f p = f x p

-- of longer lists too
pub learns_wider : (was is : Pass) (xs ys : List Record) → ((x : Record) → Has xs x → Has ys x) → Learns was is xs → Learns was is ys
learns_wider was is xs ys wider learned a = ⊎_elim (λ same. inl same)
    (λ some. inr (some_then (known_at is a) _ _ (λ e has. wider _ has) some)) (learned a)

-- first these, then those
pub learns_more : (was between is : Pass) (xs : List Record) → Learns was between xs → Learns between is xs → Learns was is xs
learns_more was between is xs first second a = ⊎_elim
    (λ same. ⊎_elim (λ before. inl (same ∙ before))
    (λ some. inr (subst (λ o. IsSomeAnd o (λ e. Has xs (Enrol e.short e.random))) (sym same) some)) (first a))
    (λ some. inr some)
    (second a)

-- what was known is known still, later too
pub known_then : (o n m : Option Enrolled) → IfSome o (λ e. n ≡ Some e) → IfSome n (λ e. m ≡ Some e) → IfSome o (λ e. m ≡ Some e)
known_then None n m one two = tt
known_then (Some e) n m one two = subst (λ (x : Option Enrolled). IfSome x (λ f. m ≡ Some f)) one two

pub keeps_more : (was between is : Pass) → Keeps was between → Keeps between is → Keeps was is
keeps_more was between is one two a = known_then (known_at was a) (known_at between a) (known_at is a) (one a) (two a)

module _ {S : Type 0} (is_up is_sound : S → Type 0) (holds : S → List Record → Type 0) where
  -- where the pass is as it was
  pub posts_none : (old new : S) (p : Pass) → Leaves is_up is_sound holds old new → Posts is_up is_sound holds old new p p
  posts_none old new p left = record {
    list = λ s u xs held. let l = left.list s u xs held in (l.0, l.1, λ a. inl refl);
  }

  -- and then more
  pub posts_more : (old between new : S) (was then_ is : Pass)
      → Leaves is_up is_sound holds old between → Leaves is_up is_sound holds between new
      → Posts is_up is_sound holds old between was then_ → Posts is_up is_sound holds between new then_ is
      → Posts is_up is_sound holds old new was is
  posts_more old between new was then_ is left rest first second = record {
    list = λ s u xs held.
        let one = first.list s (rest.up u) xs held in
        let two = second.list (left.sound s (rest.up u)) u (xs ++ one.0) one.1 in
        let all = append_assoc xs one.0 two.0 in
        let before = learns_wider was then_ (xs ++ one.0) ((xs ++ one.0) ++ two.0) (λ y has. has_left (xs ++ one.0) two.0 y has) one.2 in
        let learned = learns_more was then_ is ((xs ++ one.0) ++ two.0) before two.2 in
        (one.0 ++ two.0, subst (holds new) all two.1, subst (Learns was is) all learned);
  }

-- how turns follow each other
pub ruleset turns = (leaves_none, leaves_more, posts_none, posts_more)
