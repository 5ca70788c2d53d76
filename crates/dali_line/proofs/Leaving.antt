use Rattle.std.proofs.Common.{◌⊎◌, inl, inr, List, [], ◌∷◌, ◌++◌, sym, subst}
use Rattle.std.proofs.lemmas.List.{append-nil, append_assoc}
use Rattle.dali_script.specs.declared.records.Record.{Record}
use Rattle.dali_line.specs.Leaves.{Leaves}

-- A STORE THAT IS LEFT AS `Leaves` SAYS, and so on.

-- as it was
pub leaves_none : {S : Type 0} (is_up is_sound : S → Type 0) (holds : S → List Record → Type 0) (s : S) → Leaves is_up is_sound holds s s
leaves_none is_up is_sound holds s = record {
  up = λ up. up;
  sound = λ sound up. sound;
  list = λ sound up xs held. ([], subst (holds s) (sym (append-nil xs)) held);
}

-- with one record more, or not
pub leaves_one : {S : Type 0} (is_up is_sound : S → Type 0) (holds : S → List Record → Type 0) (old new : S) (x : Record) → (is_up new → is_up old)
    → (is_sound old → is_up new → is_sound new)
    → (is_sound old → is_up new → (xs : List Record) → holds old xs → holds new xs ⊎ holds new (xs ++ x ∷ [])) → Leaves is_up is_sound holds old new
leaves_one is_up is_sound holds old new x up sound list = record { up = up; sound = sound; list = λ s u xs held. go xs (list s u xs held) } where
  go : (xs : List Record) → holds new xs ⊎ holds new (xs ++ x ∷ []) → (more : List Record) × holds new (xs ++ more)
  go xs (inl held) = ([], subst (holds new) (sym (append-nil xs)) held)
  go xs (inr held) = (x ∷ [], held)

-- and then with more
pub leaves_more : {S : Type 0} (is_up is_sound : S → Type 0) (holds : S → List Record → Type 0) (old between new : S) → Leaves is_up is_sound holds old between
    → Leaves is_up is_sound holds between new
    → Leaves is_up is_sound holds old new
leaves_more is_up is_sound holds old between new first second = record {
  up = λ u. first.up (second.up u);
  sound = λ s u. second.sound (first.sound s (second.up u)) u;
  list = λ s u xs held. go xs (first.list s (second.up u) xs held) (first.sound s (second.up u)) u;
} where
  go : (xs : List Record) → (more : List Record) × holds between (xs ++ more) → is_sound between → is_up new → (more : List Record) × holds new (xs ++ more)
  go xs held sound u = let rest = second.list sound u (xs ++ held.0) held.1 in (held.0 ++ rest.0, subst (holds new) (append_assoc xs held.0 rest.0) rest.1)
