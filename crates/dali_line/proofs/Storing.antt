use Rattle.std.proofs.Common.{◌⊎◌, inl, inr, List, [], ◌∷◌, ◌++◌, ◌≡◌, refl, sym, subst, ◌∙◌}
use Rattle.std.{proofs.lemmas.List.append-nil, specs.declared.option.Option.TheVariants.Some}
use Rattle.dali_script.specs.Records.{Kept, Has, Shows, TakesAway, with_record, without_records}
use Rattle.dali_script.specs.declared.{block.Block.Block, records.Record.Record}
use Rattle.dali_script.proofs.Lists.{has_last, shown_by, shown_none}
use Rattle.dali_script.specs.declared.orders.Input.TheVariants as input
use Rattle.dali_reserve.specs.Store.{replay_of, IsReplay}
use Rattle.dali_line.specs.{Leaves.IsStored, Leaves.Stores, Steps.TakesIn}

-- A RECORD THAT THE RECORDS OF A STORE SHOW STANDS IN ITS LIST, unless it takes away.

-- what is shown after a list was shown before it, or stands in it
shown_from : (xs : List Record) (k : Kept) (y : Record) → Shows (replay_of k xs) y → TakesAway y ⊎ (Shows k y ⊎ Has xs y)
shown_from [] k y shows = inr (inl shows)
shown_from (x ∷ xs) k y shows = go (shown_from xs (with_record k x) y shows) where
  first : TakesAway y ⊎ (Shows k y ⊎ (x ≡ y)) → TakesAway y ⊎ (Shows k y ⊎ Has (x ∷ xs) y)
  first (inl takes) = inl takes
  first (inr (inl before)) = inr (inl before)
  first (inr (inr same)) = inr (inr (inl same))

  go : TakesAway y ⊎ (Shows (with_record k x) y ⊎ Has xs y) → TakesAway y ⊎ (Shows k y ⊎ Has (x ∷ xs) y)
  go (inl takes) = inl takes
  go (inr (inl with_first)) = first (shown_by k x y with_first)
  go (inr (inr has)) = inr (inr (inr has))

pub there_stored : (b : Block) (xs : List Record) (k : Kept) (x : Record) → IsReplay b xs k → Shows k x → IsStored b xs x
there_stored b xs k x replay shows = go (shown_from xs (without_records b) x (subst (λ (j : Kept). Shows j x) replay.value shows)) where
  gone : TakesAway x → IsStored b xs x
  gone takes = inr (takes, λ j other. subst (λ (i : Kept). Shows i x) (replay.value ∙ sym other.value) shows)

  go : TakesAway x ⊎ (Shows (without_records b) x ⊎ Has xs x) → IsStored b xs x
  go (inl takes) = gone takes
  go (inr (inl none)) = gone (shown_none b x none)
  go (inr (inr has)) = inl has

-- a store that is left with its list, which shows the record, or with the record at the end
pub stores_one : {S : Type 0} (is_up is_sound : S → Type 0) (holds : S → List Record → Type 0) (block : S → Block) (old new : S) (x : Record)
    → (is_sound old → is_up new → (xs : List Record) → holds old xs → (holds new xs × IsStored (block new) xs x) ⊎ holds new (xs ++ x ∷ []))
    → Stores is_up is_sound holds block old new x
stores_one is_up is_sound holds block old new x left s u xs held = go (left s u xs held) where
  go : (holds new xs × IsStored (block new) xs x) ⊎ holds new (xs ++ x ∷ [])
      → (more : List Record) × holds new (xs ++ more) × IsStored (block new) (xs ++ more) x
  go (inl there) =
      let same = sym (append-nil xs) in
      ([], subst (holds new) same there.0, subst (λ (ys : List Record). IsStored (block new) ys x) same there.1)
  go (inr held) = (x ∷ [], held, inl (has_last xs x))

-- what a store took in of the record that was due, where it has it then, and where it may
pub takes_stored : {S : Type 0} (holds : S → List Record → Type 0) (b : Block) (new : S) (xs : List Record) (x : Record)
    → (holds new xs × IsStored b xs x) ⊎ holds new (xs ++ x ∷ []) → (more : List Record) × TakesIn b xs (Some x) input.Committed more × holds new (xs ++ more)
takes_stored holds b new xs x (inl there) =
    let same = sym (append-nil xs) in
    ([], (inl refl, subst (λ (ys : List Record). IsStored b ys x) same there.1), subst (holds new) same there.0)
takes_stored holds b new xs x (inr held) = (x ∷ [], (inr refl, inl (has_last xs x)), held)

pub takes_failed : {S : Type 0} (holds : S → List Record → Type 0) (b : Block) (new : S) (xs : List Record) (x : Record)
    → holds new xs ⊎ holds new (xs ++ x ∷ []) → (more : List Record) × TakesIn b xs (Some x) input.CommitFailed more × holds new (xs ++ more)
takes_failed holds b new xs x (inl held) = ([], inl refl, subst (holds new) (sym (append-nil xs)) held)
takes_failed holds b new xs x (inr held) = (x ∷ [], inr refl, held)
