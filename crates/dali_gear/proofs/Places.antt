use Rattle.std.proofs.Common.{◌≡◌, ◌≢◌, ℕ, ◌<◌, ◌⊎◌, map, length, get_or, set, refl, sym, ap, ◌∙◌, zero-add, inl, inr, length-set}
use Rattle.std.proofs.lemmas.{Bool.cases_eq, List.same_lists, List.get_or-set_same, List.get_or-set_other, List.FromFn.length-map-range_with_len}
use Rattle.std.{proofs.lemmas.List.FromFn.get_or-map-range_with_len, specs.List.range_with_len}
use Rattle.dali_frame.specs.declared.numbers.SearchAddress.{SearchAddress}
use Rattle.dali_gear.specs.{Addresses.address_in, Addresses.all_addresses, declared.addresses.Addresses.TheInside.Inside}

-- a list by numbers, if one place has changed, and no other has
pub places_set : {A : Type 0} (f new : ℕ → A) (n i : ℕ) (g : A) → i < n → new i ≡ g → ((k : ℕ) → k ≢ i → new k ≡ f k)
    → map new (range_with_len 0 n) ≡ set (map f (range_with_len 0 n)) i g
places_set {A} f new n i g here is others =
    same_lists _ _ (length-map-range_with_len new 0 n ∙ sym (length-set (map f (range_with_len 0 n)) i g ∙ length-map-range_with_len f 0 n)) (λ k d below.
    let inside : k < n = rw (length-map-range_with_len new 0 n) at below in
    get_or-map-range_with_len new 0 n k k d inside (zero-add k) ∙ at k d inside (cases_eq k i))
  where
    len : i < length (map f (range_with_len 0 n))
    len = rw (length-map-range_with_len f 0 n) here

    at : (k : ℕ) (d : A) → k < n → (k ≡ i) ⊎ (k ≢ i) → new k ≡ get_or (set (map f (range_with_len 0 n)) i g) k d
    at k d inside (inl same) =
        ap new same ∙ is ∙ sym (ap (λ j. get_or (set (map f (range_with_len 0 n)) i g) j d) same ∙ get_or-set_same (map f (range_with_len 0 n)) i g d len)
    at k d inside (inr other) =
        others k other ∙ sym (get_or-set_other (map f (range_with_len 0 n)) i k g d other ∙ get_or-map-range_with_len f 0 n k k d inside (zero-add k))

-- there is one address for each gear that a row may have
pub addresses_len : (a : Inside) → length (all_addresses a) ≡ 128
addresses_len a = length-map-range_with_len (address_in a) 0 128

pub address_is : (a : Inside) (k : ℕ) (d : SearchAddress) → k < 128 → address_in a k ≡ get_or (all_addresses a) k d
address_is a k d here = sym (get_or-map-range_with_len (address_in a) 0 128 k k d here (zero-add k))

-- the address of a gear is written
pub address_set : (a : Inside) (i : ℕ) (s : SearchAddress) → i < 128 → i < length a.high → i < length a.middle → i < length a.low
    → all_addresses (record { high = set a.high i s.high; middle = set a.middle i s.middle; low = set a.low i s.low }) ≡ set (all_addresses a) i s
address_set a i s here high middle low =
    places_set (address_in a) (address_in (record { high = set a.high i s.high; middle = set a.middle i s.middle; low = set a.low i s.low })) 128 i s here
    (rw (get_or-set_same a.high i s.high 0 high, get_or-set_same a.middle i s.middle 0 middle, get_or-set_same a.low i s.low 0 low) refl)
    (λ k other. rw (get_or-set_other a.high i k s.high 0 other, get_or-set_other a.middle i k s.middle 0 other, get_or-set_other a.low i k s.low 0 other) refl)
