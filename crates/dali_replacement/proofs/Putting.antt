use Rattle.std.proofs.Common.{◌≡◌, ◌⊎◌, ◌≤◌, ◌-◌, ℕ, arith, inl, inr, refl, sym, subst, ap, ◌∙◌, true, List, [], ◌∷◌, ◌++◌, length, take, drop, get_or}
use Rattle.std.proofs.Common.{Bool, Result, Ok, Err, OnOk, IfErr}
use Rattle.std.proofs.lemmas.{List.append_assoc, List.append-nil, List.take_all}
use Rattle.dali_script.specs.declared.records.Record.{Record}
use Rattle.dali_script.specs.declared.records.Record.TheVariants.{Reserve, Enrol, Release}
use Rattle.dali_script.specs.Records.{Assignment, Has}
use Rattle.dali_reserve.specs.declared.error.KeepError.{KeepError}
use Rattle.dali_reserve.specs.declared.error.KeepError.TheVariants.{NoMemory, StoreFailed}
use Rattle.dali_reserve.specs.Refusals.{RefusesRecord, RefusesCommit, IsRefused, HasFailed}
use Rattle.dali_commissioning.specs.Conducted.{Stays}
use Rattle.dali_replacement.specs.Filling.{Fills, PutsOnly}

-- WHAT A STORE IS PUT, by what each call puts
module _ {S : Type 0} (is_up is_sound : S → Type 0) (holds : S → List Record → Type 0) where
  abbrev Up : S → S → Type 0
  Up old new = is_up new → is_up old

  abbrev Sound : S → S → Type 0
  Sound old new = is_sound old → is_up new → is_sound new

  abbrev Adds : S → S → List Record → Type 0
  Adds old new more = is_sound old → is_up new → (xs : List Record) → holds old xs → holds new (xs ++ more)

  abbrev Same : S → S → Type 0
  Same old new = is_sound old → is_up new → (xs : List Record) → holds old xs → holds new xs

  abbrev AddsOrNot : S → S → Record → Type 0
  AddsOrNot old new x =
      is_sound old → is_up new → (xs : List Record) → holds old xs → holds new xs ⊎ holds new (xs ++ x ∷ [])

  -- a store that was read, or was not called
  pub puts_same : (may : Record → Type 0) (was keep : S) → Up was keep → Sound was keep → Same was keep
      → PutsOnly is_up is_sound holds may was keep
  puts_same may was keep up sound same = record {
    only = λ is here xs held. ([], (λ x none. elim none [ ]), subst (holds keep) (sym (append-nil xs)) (same is here xs held));
    stays = record { up = up; sound = sound };
  }

  pub puts_none : (may : Record → Type 0) (was : S) → PutsOnly is_up is_sound holds may was was
  puts_none may was = puts_same may was was (λ up. up) (λ sound up. sound) (λ sound up xs held. held)

  -- a commit of such a record, whatever came of it
  one : (may : Record → Type 0) (x : Record) → may x → (y : Record) → Has (x ∷ []) y → may y
  one may x is y (inl same) = subst may same is
  one may x is y (inr none) = elim none [ ]

  pub puts_one : (may : Record → Type 0) (was keep : S) (x : Record) (due : Bool) (r : Result (Unit {0}) KeepError) → may x
      → IfErr r RefusesCommit → OnOk r (Adds was keep (x ∷ [])) → ((due ≡ true) ⊎ IsRefused r → Same was keep)
      → (HasFailed r → AddsOrNot was keep x) → Up was keep → Sound was keep → PutsOnly is_up is_sound holds may was keep
  puts_one may was keep x due (Ok _) is refusal adds none maybe up sound = record {
    only = λ sound up xs held. (x ∷ [], one may x is, adds sound up xs held);
    stays = record { up = up; sound = sound };
  }
  puts_one may was keep x due (Err e) is (inl refused) adds none maybe up sound =
      puts_same may was keep up sound (none (inr (as_refused refused)))
    where
      as_refused : RefusesRecord e → IsRefused {A = Unit {0}} (Err e)
      as_refused (inl a) = inl (ap Err a)
      as_refused (inr (inl a)) = inr (inl (ap Err a))
      as_refused (inr (inr a)) = inr (inr (ap Err a))
  puts_one may was keep x due (Err e) is (inr failed) adds none maybe up sound = record {
    only = λ sound up xs held. go xs (maybe (as_failed failed) sound up xs held);
    stays = record { up = up; sound = sound };
  }
    where
      as_failed : (e ≡ StoreFailed) ⊎ (e ≡ NoMemory) → HasFailed {A = Unit {0}} (Err e)
      as_failed (inl a) = inl (ap Err a)
      as_failed (inr a) = inr (ap Err a)

      go : (xs : List Record) → holds keep xs ⊎ holds keep (xs ++ x ∷ [])
          → (more : List Record) × ((y : Record) → Has more y → may y) × holds keep (xs ++ more)
      go xs (inl held) = ([], (λ y no. elim no [ ]), subst (holds keep) (sym (append-nil xs)) held)
      go xs (inr held) = (x ∷ [], one may x is, held)

  -- of one thing after the other
  either : (may : Record → Type 0) (xs ys : List Record) → ((x : Record) → Has xs x → may x) → ((x : Record) → Has ys x → may x)
      → (x : Record) → Has (xs ++ ys) x → may x
  either may [] ys first second x has = second x has
  either may (z ∷ xs) ys first second x (inl same) = first x (inl same)
  either may (z ∷ xs) ys first second x (inr has) = either may xs ys (λ y here. first y (inr here)) second x has

  pub puts_further : (may : Record → Type 0) (was mid keep : S) → PutsOnly is_up is_sound holds may was mid
      → PutsOnly is_up is_sound holds may mid keep → PutsOnly is_up is_sound holds may was keep
  puts_further may was mid keep first second = record {
    only = λ sound up xs held.
        let (more, are, has) = first.only sound (second.stays.up up) xs held in
        let (again, are_too, has_too) = second.only (first.stays.sound sound (second.stays.up up)) up (xs ++ more) has in
        (more ++ again, either may more again are are_too, subst (holds keep) (append_assoc xs more again) has_too);
    stays = record {
      up = λ up. first.stays.up (second.stays.up up);
      sound = λ sound up. second.stays.sound (first.stays.sound sound (second.stays.up up)) up;
    };
  }

  pub puts_wider : (may wide : Record → Type 0) (was keep : S) → ((x : Record) → may x → wide x)
      → PutsOnly is_up is_sound holds may was keep → PutsOnly is_up is_sound holds wide was keep
  puts_wider may wide was keep wider puts = record {
    only = λ sound up xs held.
        let (more, are, has) = puts.only sound up xs held in
        (more, (λ x here. wider x (are x here)), has);
    stays = puts.stays;
  }

pub split : {A : Type 0} (all : List A) (x : A) → x ≡ get_or all 0 x → 1 ≤ length all → all ≡ x ∷ take (length all - 1) (drop 1 all)
split [] x is some = absurd (omega (arith, some))
split (y ∷ more) x is some = ap (λ z. z ∷ more) (sym is) ∙ ap (λ l. x ∷ l) (sym (take_all (length (y ∷ more) - 1) more (omega arith)))

-- what fills from fewer fills from more: from the first of a list, from its others, and from a list and no reservations
among_first : {A : Type 0} (x : A) (xs all : List A) → all ≡ x ∷ xs → (y : A) → Has (x ∷ []) y → Has all y
among_first x xs all is y (inl same) = subst (λ zs. Has zs y) (sym is) (inl same)
among_first x xs all is y (inr none) = elim none [ ]

among_more : {A : Type 0} (x : A) (xs all : List A) → all ≡ x ∷ xs → (y : A) → Has xs y → Has all y
among_more x xs all is y has = subst (λ zs. Has zs y) (sym is) (inr has)

fills_wider : (gear all reserved more : List Assignment) → ((p : Assignment) → Has gear p → Has all p)
    → ((p : Assignment) → Has reserved p → Has more p) → (x : Record) → Fills gear reserved x → Fills all more x
fills_wider gear all reserved more one two (Enrol a r) has = one (a, r) has
fills_wider gear all reserved more one two (Reserve a r) has = (two (a, r) has.0, one (a, r) has.1)
fills_wider gear all reserved more one two (Release a r) has = elim has [ ]

pub enrols_first : (p : Assignment) (ps all : List Assignment) → all ≡ p ∷ ps → (x : Record) → Fills (p ∷ []) [] x → Fills all [] x
enrols_first p ps all is = fills_wider (p ∷ []) all [] [] (among_first p ps all is) (λ q none. none)

pub enrols_more : (p : Assignment) (ps all : List Assignment) → all ≡ p ∷ ps → (x : Record) → Fills ps [] x → Fills all [] x
enrols_more p ps all is = fills_wider ps all [] [] (among_more p ps all is) (λ q none. none)

pub reserves_first : (gear : List Assignment) (p : Assignment) (ps all : List Assignment) → all ≡ p ∷ ps → (x : Record)
    → Fills gear (p ∷ []) x → Fills gear all x
reserves_first gear p ps all is = fills_wider gear gear (p ∷ []) all (λ q has. has) (among_first p ps all is)

pub reserves_more : (gear : List Assignment) (p : Assignment) (ps all : List Assignment) → all ≡ p ∷ ps → (x : Record)
    → Fills gear ps x → Fills gear all x
reserves_more gear p ps all is = fills_wider gear gear ps all (λ q has. has) (among_more p ps all is)

pub enrols_also : (named gear reserved : List Assignment) → named ≡ gear → (x : Record) → Fills named [] x → Fills gear reserved x
enrols_also named gear reserved is =
    fills_wider named gear [] reserved (λ q has. subst (λ zs. Has zs q) is has) (λ q none. elim none [ ])
