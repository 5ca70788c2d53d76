use Rattle.std.proofs.Common.{◌≡◌, ◌⊎◌, inl, inr, sym, ◌∙◌, ap, subst, ℕ, List, [], ◌∷◌}
use Rattle.dali_folder.specs.Events.{Event, Writes, AreBegun, IsPart}

abbrev pub IsWhole : Event → Type 0
IsWhole (Writes name bytes) = ⊥
IsWhole _ = Unit {0}

whole : (part event : Event) → IsWhole event → IsPart part event → part ≡ event
whole part event is (inl same) = same
whole part event is (inr (name, written, more, _, writes)) = absurd (subst IsWhole writes is)

-- of an event that does nothing in part
pub begun_one : (event part : Event) (events begun : List Event) → IsWhole event → AreBegun (part ∷ begun) (event ∷ events)
    → (part ≡ event) × AreBegun begun events
begun_one event part events begun is (inl both) = both
begun_one event part events begun is (inr (end, in_part)) =
    (whole part event is in_part, subst (λ (b : List Event). AreBegun b events) (sym end) tt)

-- of a text that is written
pub begun_writing : (name bytes : List ℕ) (part : Event) (events begun : List Event) → AreBegun (part ∷ begun) (Writes name bytes ∷ events)
    → ((part ≡ Writes name bytes) × AreBegun begun events) ⊎ ((begun ≡ []) × ((some : List ℕ) × (part ≡ Writes name some)))
begun_writing name bytes part events begun (inl both) = inl both
begun_writing name bytes part events begun (inr (end, inl same)) = inr (end, (bytes, same))
begun_writing name bytes part events begun (inr (end, inr (other, some, more, is, writes))) =
    inr (end, (some, is ∙ ap (λ n. Writes n some) (sym (ap name_of writes)))) where
      name_of : Event → List ℕ
      name_of (Writes n b) = n
      name_of _ = []
