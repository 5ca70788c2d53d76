use Rattle.std.proofs.Common.{◌≡◌, ◌≢◌, ℕ, ◌+◌, ◌*◌, ◌<◌, ◌≤◌, ◌⊎◌, Bool, true, false, ◌&&◌, ◌||◌, List, [], ◌∷◌, ◌++◌, take, length, get_or, set, drop}
use Rattle.std.proofs.Common.{replicate, refl, sym, ap, ◌∙◌, arith, add-zero, zero-add, add_assoc, inl, inr, Option, Some, None, IsSome, if◌then◌else◌, is_some}
use Rattle.std.proofs.{Math.Seq.set_out, lemmas.Bool.cases_eq, lemmas.Bool.cases_lt, lemmas.Bool.false≢true, lemmas.Bool.true≢false}
use Rattle.std.proofs.lemmas.List.{drop-drop, drop_more, drop-set-lt, take_more_set, same_lists, get_or-set_same, get_or-set_other, get_or_default}
use Rattle.std.proofs.lemmas.List.{get_or-replicate, length-replicate, get_or_past, set-set, FromFn.length-map-range_with_len, FromFn.get_or-map-range_with_len}
use Rattle.std.specs.Prelude.{unwrap_or}
use mathlib.Core.List.{append_assoc}
use mir.Val.{bool_byte}
use Rattle.dali_frame.specs.{Random.value_of, declared.numbers.SearchAddress.SearchAddress}
use Rattle.dali_special.specs.Command.{is_send_twice}
use Rattle.dali_special.specs.declared.command.Command.{Command, TheVariants.Randomise, TheVariants.Terminate}
use Rattle.dali_gear.specs.Columns.{gear_in, all_gear, IsRow, IsUnpaired}
use Rattle.dali_gear.specs.{Gear.Gear, Gear.fresh, Gear.search_mask, Gear.draws_a_number, Gear.answer, Row.reaches, Row.takes, Row.one_after, Row.row_after}
use Rattle.dali_gear.specs.{Row.draws_needed, Row.answers_of, Row.option_cons, Row.left_after, declared.row.Reach.Reach, declared.row.Row.TheInside.Inside}
use Rattle.dali_gear.{specs.declared.state.InitialisationState.TheVariants.Disabled, proofs.Places.places_set}

-- ---------------------------------------------------------------- the columns

-- there are as many gear as are counted
pub row_len : (r : Inside) → length (all_gear r) ≡ r.count
row_len r = length-map-range_with_len (gear_in r) 0 r.count

gear_at : (r : Inside) (k : ℕ) → k < r.count → get_or (all_gear r) k fresh ≡ gear_in r k
gear_at r k here = get_or-map-range_with_len (gear_in r) 0 r.count k k fresh here (zero-add k)

-- a gear is read from the columns
pub gear_is : (r : Inside) (k random : ℕ) (search : SearchAddress) (short : Option ℕ) (half : Option Command) → k < r.count → k < length r.short
    → random ≡ (gear_in r k).random → search ≡ (gear_in r k).search → half ≡ (gear_in r k).half
    → record {
      powered = get_or r.powered k false;
      state = get_or r.state k Disabled;
      random = random;
      search = search;
      short = get_or r.short k short;
      half = half;
    }
    ≡ get_or (all_gear r) k fresh
gear_is r k random search short half here in_short random_is search_is half_is =
    rw (gear_at r k here, random_is, search_is, half_is, get_or_default r.short k short None in_short) refl

pub half_there : (paired : List Bool) (first : List Command) (i : ℕ) (c : Command) → i < length first → get_or paired i false ≡ true
    → Some (get_or first i c) ≡ (if get_or paired i false then Some (get_or first i Terminate) else None)
half_there paired first i c here set = rw set (ap (λ x. Some x) (get_or_default first i c Terminate here))

pub half_gone : (paired : List Bool) (first : List Command) (i : ℕ) → get_or paired i false ≡ false
    → None ≡ (if get_or paired i false then Some (get_or first i Terminate) else None)
half_gone paired first i unset = rw unset refl

-- a half pair that stays was there
pair_stays : (stays paired : Bool) (first : Command) → (stays ≡ true → IsSome (if paired then Some first else None))
    → (if stays then Some first else None) ≡ (if stays then (if paired then Some first else None) else None)
pair_stays false paired first one = refl
pair_stays true true first one = refl
pair_stays true false first one = absurd (false≢true (one refl))

no_pair_stays : (stays paired : Bool) (first : Command) → (stays ≡ true → IsSome (if paired then Some first else None)) → paired ≡ false → stays ≡ false
no_pair_stays false paired first one none = refl
no_pair_stays true true first one none = none
no_pair_stays true false first one none = absurd (false≢true (one refl))

-- there is a place for each gear in all columns
pub record Wide (r : Inside) (i : ℕ) : Type 0 where
  pub powered : i < length r.powered
  pub state : i < length r.state
  pub random : i < length r.random
  pub search : i < length r.search
  pub short : i < length r.short
  pub paired : i < length r.paired
  pub first : i < length r.first

module _ (r : Inside) (i : ℕ) (here : i < r.count) (wide : Wide r i) where
  -- the variables of a gear are written, but its half pair
  pub put_variables_is : (g : Gear) (number : SearchAddress) (random search : List SearchAddress) → value_of number ≡ g.random
      → random ≡ set r.random i number → search ≡ set r.search i g.search → all_gear (record {
        count = r.count;
        powered = set r.powered i g.powered;
        state = set r.state i g.state;
        random = random;
        search = search;
        short = set r.short i g.short;
        paired = r.paired;
        first = r.first;
        some_paired = r.some_paired;
      }) ≡ set (all_gear r) i (record g { half = (get_or (all_gear r) i fresh).half })
  put_variables_is g number random search is random_is search_is = places_set (gear_in r) _ r.count i _ here
      (rw (
        gear_at r i here,
        random_is,
        search_is,
        get_or-set_same r.powered i g.powered false wide.powered,
        get_or-set_same r.state i g.state Disabled wide.state,
        get_or-set_same r.random i number search_mask wide.random,
        is,
        get_or-set_same r.search i g.search search_mask wide.search,
        get_or-set_same r.short i g.short None wide.short,
      ) refl)
      (λ k other. rw (
        random_is,
        search_is,
        get_or-set_other r.powered i k g.powered false other,
        get_or-set_other r.state i k g.state Disabled other,
        get_or-set_other r.random i k number search_mask other,
        get_or-set_other r.search i k g.search search_mask other,
        get_or-set_other r.short i k g.short None other,
      ) refl)

  -- the half pair of a gear stays or is gone
  pub put_pair_is : (stays : Bool) → (stays ≡ true → IsSome (get_or (all_gear r) i fresh).half) → all_gear (record {
    count = r.count;
    powered = r.powered;
    state = r.state;
    random = r.random;
    search = r.search;
    short = r.short;
    paired = set r.paired i stays;
    first = r.first;
    some_paired = r.some_paired;
  }) ≡ set (all_gear r) i (record (get_or (all_gear r) i fresh) { half = if stays then (get_or (all_gear r) i fresh).half else None })
  put_pair_is stays one =
      let there : stays ≡ true → IsSome (gear_in r i).half = rw (gear_at r i here) at one in
      places_set (gear_in r) _ r.count i _ here
      (rw (
        gear_at r i here,
        get_or-set_same r.paired i stays false wide.paired,
        ← pair_stays stays (get_or r.paired i false)
            (get_or r.first i Terminate) there,
      ) refl)
      (λ k other. rw (get_or-set_other r.paired i k stays false other) refl)

  pub put_pair_unpaired : (stays : Bool) → (stays ≡ true → IsSome (get_or (all_gear r) i fresh).half) → IsRow r
      → r.some_paired ≡ false → (k : ℕ) → k < r.count → get_or (set r.paired i stays) k false ≡ false
  put_pair_unpaired stays one row none k below = at (cases_eq k i)
    where
      there : stays ≡ true → IsSome (gear_in r i).half
      there = rw (gear_at r i here) at one

      at : (k ≡ i) ⊎ (k ≢ i) → get_or (set r.paired i stays) k false ≡ false
      at (inl same) = ap (λ j. get_or (set r.paired i stays) j false) same ∙ get_or-set_same r.paired i stays false wide.paired
          ∙ no_pair_stays stays (get_or r.paired i false) (get_or r.first i Terminate) there (row.unpaired none i here)
      at (inr other) = get_or-set_other r.paired i k stays false other ∙ row.unpaired none k below

  -- a gear has another half pair
  pub pair_is : (c : Command) → all_gear (record {
    count = r.count;
    powered = r.powered;
    state = r.state;
    random = r.random;
    search = r.search;
    short = r.short;
    paired = set r.paired i true;
    first = set r.first i c;
    some_paired = true;
  }) ≡ set (all_gear r) i (record (get_or (all_gear r) i fresh) { half = Some c })
  pair_is c = places_set (gear_in r) _ r.count i _ here
      (rw (gear_at r i here, get_or-set_same r.paired i true false wide.paired, get_or-set_same r.first i c Terminate wide.first) refl)
      (λ k other. rw (get_or-set_other r.paired i k true false other, get_or-set_other r.first i k c Terminate other) refl)

half_kept : (half : Option Command) → (if is_some half then half else None) ≡ half
half_kept None = refl
half_kept (Some first) = refl

-- the variables of a gear are written, and then its half pair
module _ (gs now : List Gear) (i : ℕ) (g : Gear) (here : i < length gs) (now_is : now ≡ set gs i (record g { half = (get_or gs i fresh).half }))
    (stays_or_goes : (g.half ≡ None) ⊎ (g.half ≡ (get_or gs i fresh).half)) where
  pub put_whole : (stays : Bool) → stays ≡ is_some g.half
      → set now i (record (get_or now i fresh) { half = if stays then (get_or now i fresh).half else None }) ≡ set gs i g
  put_whole stays is =
      let there : get_or now i fresh ≡ record g { half = (get_or gs i fresh).half } = ap (λ xs. get_or xs i fresh) now_is ∙ get_or-set_same gs i _ fresh here in
      ap {B = List Gear} (λ x. set now i (record x { half = if stays then x.half else None })) there
      ∙ ap (λ xs. set xs i (record g { half = if stays then (get_or gs i fresh).half else None })) now_is
      ∙ set-set gs i _ _
      ∙ ap (λ o. set gs i (record g { half = o })) (kept stays_or_goes)
    where
      kept : (g.half ≡ None) ⊎ (g.half ≡ (get_or gs i fresh).half) → (if stays then (get_or gs i fresh).half else None) ≡ g.half
      kept (inl none) = ap (λ b. if b then (get_or gs i fresh).half else None) (is ∙ ap (λ o. is_some o) none) ∙ sym none
      kept (inr same) = ap (λ b. if b then (get_or gs i fresh).half else None) (is ∙ ap (λ o. is_some o) same) ∙ half_kept (get_or gs i fresh).half ∙ sym same

-- one gear more was looked at
pub seen_more : (some : Bool) (paired : List Bool) (n : ℕ) → (some ≡ false → (k : ℕ) → k < n → get_or paired k false ≡ false)
    → (some || get_or paired n false) ≡ false → (k : ℕ) → k < n + 1 → get_or paired k false ≡ false
seen_more true paired n seen none k below = absurd (true≢false none)
seen_more false paired n seen none k below = at (cases_lt k n)
  where
    at : (k < n) ⊎ (n ≤ k) → get_or paired k false ≡ false
    at (inl before) = seen refl k before
    at (inr beyond) =
        let same : k ≡ n = omega arith in
        ap (λ j. get_or paired j false) same ∙ none

-- if no gear may have a half pair, none has
pub none_paired : (r : Inside) → IsRow r → r.some_paired ≡ false → IsUnpaired (all_gear r)
none_paired r row none k = at (cases_lt k r.count)
  where
    at : (k < r.count) ⊎ (r.count ≤ k) → (get_or (all_gear r) k fresh).half ≡ None
    at (inl below) = ap (λ g. g.half) (gear_at r k below) ∙ rw (row.unpaired none k below) refl
    at (inr beyond) = ap (λ g. g.half) (get_or_past (all_gear r) k fresh (rw (row_len r) beyond))

-- a command that is not send-twice leaves no half pair
pub one_unpaired : (taken : Bool) (c : Command) (left : List ℕ) (g : Gear) → is_send_twice c ≡ false → g.half ≡ None → (one_after taken c left g).half ≡ None
one_unpaired false c left g once none = none
one_unpaired true c left g once none = rw once refl

pub unpaired_set : (gs : List Gear) (i : ℕ) (g : Gear) → IsUnpaired gs → g.half ≡ None → IsUnpaired (set gs i g)
unpaired_set gs i g before none k = at (cases_eq k i) (cases_lt i (length gs))
  where
    at : (k ≡ i) ⊎ (k ≢ i) → (i < length gs) ⊎ (length gs ≤ i) → (get_or (set gs i g) k fresh).half ≡ None
    at (inl same) (inl below) = ap (λ j. (get_or (set gs i g) j fresh).half) same ∙ ap (λ x. x.half) (get_or-set_same gs i g fresh below) ∙ none
    at (inl same) (inr beyond) = ap (λ xs. (get_or xs k fresh).half) (set_out gs i g beyond) ∙ before k
    at (inr other) there = ap (λ x. x.half) (get_or-set_other gs i k g fresh other) ∙ before k

-- ---------------------------------------------------------------- a frame

-- no gear draws at a command other than RANDOMISE
no_draw : (c : Command) → (c ≡ Randomise → ⊥) → (g : Gear) → draws_a_number c g ≡ false
no_draw Randomise other g = absurd (other refl)
no_draw _ other g = refl

draws_none : (taken draws : Bool) → draws ≡ false → ◌≡◌ {A = ℕ} (if taken && draws then 1 else 0) 0
draws_none true draws none = rw none refl
draws_none false draws none = refl

pub needs_none : (reach : Reach) (c : Command) (k : ℕ) (gs : List Gear) → (c ≡ Randomise → ⊥) → draws_needed reach c k gs ≡ 0
needs_none reach c k [] other = refl
needs_none reach c k (g ∷ gs) other =
    ap (λ n. n + draws_needed reach c (k + 1) gs) (draws_none (takes reach k g) (draws_a_number c g) (no_draw c other g))
    ∙ zero-add (draws_needed reach c (k + 1) gs) ∙ needs_none reach c (k + 1) gs other

-- what is left after gear that draws, or doesn't
pub left_is : (drew : Bool) (drawn : ℕ) (draws : List ℕ) → drop (drawn + bool_byte drew) draws ≡ left_after drew (drop drawn draws)
left_is true drawn draws = sym (drop-drop 1 drawn draws)
left_is false drawn draws = rw add-zero refl

-- the gear that the loop has not come to yet are as they were
pub next_is : {A : Type 0} (now before : List A) (n : ℕ) (d : A) → n < length now → drop n now ≡ drop n before
    → drop n before ≡ get_or now n d ∷ drop (n + 1) before
next_is now before n d here same =
    let cons : drop n now ≡ get_or now n d ∷ drop (n + 1) now = drop_more now n d here in
    let one : drop (n + 1) now ≡ drop (n + 1) before = sym (drop-drop 1 n now) ∙ ap (λ xs. drop 1 xs) same ∙ drop-drop 1 n before in
    sym same ∙ cons ∙ rw one refl

pub rest_is : {A : Type 0} (now before : List A) (n : ℕ) (g : A) → drop n now ≡ drop n before → drop (n + 1) (set now n g) ≡ drop (n + 1) before
rest_is now before n g same =
    let beyond : n < n + 1 = omega arith in
    drop-set-lt (n + 1) now n g beyond ∙ sym (drop-drop 1 n now) ∙ ap (λ xs. drop 1 xs) same ∙ drop-drop 1 n before

-- One turn of the loop over a row: gear n, which is `old`, has been reached or not, and is now `new`.
pub record Turn (reach : Reach) (c : Command) (now before : List Gear) (n : ℕ) (left : List ℕ) (old new : Gear) (drew : Bool) : Type 0 where
  pub here : n < length now
  pub untouched : drop n now ≡ drop n before
  pub next : drop n before ≡ old ∷ drop (n + 1) before
  pub reached : Bool
  pub reaches_it : reached ≡ reaches reach n
  pub takes_it : new ≡ one_after ((old).powered && reached) c left (old)
  pub draws_it : drew ≡ (((old).powered && reached) && draws_a_number c (old))

pub gear_more : (reach : Reach) (c : Command) (now before : List Gear) (n drawn : ℕ) (draws : List ℕ) (old new : Gear) (drew : Bool) (whole : List Gear)
    → Turn reach c now before n (drop drawn draws) old new drew
    → take n now ++ row_after reach c n (drop n before) (drop drawn draws) ≡ whole
    → take (n + 1) (set now n new) ++ row_after reach c (n + 1) (drop (n + 1) before) (drop (drawn + bool_byte drew) draws) ≡ whole
gear_more reach c now before n drawn draws old new drew whole t so_far =
    let here : n < length now = t.here in
    let known = rw (t.next, ← t.reaches_it, ← t.draws_it, ← t.takes_it) at so_far in
    rw (take_more_set now n new here, append_assoc, left_is drew drawn draws) known

pub drawn_more : (reach : Reach) (c : Command) (now before : List Gear) (n drawn : ℕ) (left : List ℕ) (old new : Gear) (drew : Bool) (whole : ℕ)
    → Turn reach c now before n left old new drew
    → drawn + draws_needed reach c n (drop n before) ≡ whole
    → drawn + bool_byte drew + draws_needed reach c (n + 1) (drop (n + 1) before) ≡ whole
drawn_more reach c now before n drawn left old new drew whole t so_far =
    let known = rw (t.next, ← t.reaches_it, ← t.draws_it) at so_far in
    add_assoc drawn (bool_byte drew) (draws_needed reach c (n + 1) (drop (n + 1) before))
    ∙ ap (λ k. drawn + (k + draws_needed reach c (n + 1) (drop (n + 1) before))) (one drew) ∙ known
  where
    one : (b : Bool) → bool_byte b ≡ (if b then 1 else 0)
    one true = refl
    one false = refl

-- ---------------------------------------------------------------- what is heard

-- one more answer, or none, counts
counted_cons : (o : Option ℕ) (bytes : List ℕ) → length (option_cons o bytes) ≡ bool_byte (is_some o) + length bytes
counted_cons None bytes = sym (zero-add (length bytes))
counted_cons (Some byte) bytes = omega arith

abbrev pub total : List ℕ → ℕ
total [] = 0
total (byte ∷ bytes) = byte + total bytes

summed_cons : (o : Option ℕ) (bytes : List ℕ) → total (option_cons o bytes) ≡ unwrap_or o 0 + total bytes
summed_cons None bytes = sym (zero-add (total bytes))
summed_cons (Some byte) bytes = refl

module _ (reach : Reach) (c : Command) (now before : List Gear) (n : ℕ) (left : List ℕ) (old new : Gear) (drew : Bool)
    (t : Turn reach c now before n left old new drew) (o : Option ℕ) (answered : o ≡ (if (old).powered && t.reached then answer c (old) else None)) where
  answers_next : answers_of reach c n (drop n before) ≡ option_cons o (answers_of reach c (n + 1) (drop (n + 1) before))
  answers_next = rw (t.next, ← t.reaches_it, ← answered) refl

  pub counted_more : (answers whole : ℕ) → answers + length (answers_of reach c n (drop n before)) ≡ whole
      → answers + bool_byte (is_some o) + length (answers_of reach c (n + 1) (drop (n + 1) before)) ≡ whole
  counted_more answers whole so_far =
      let more = ap (λ xs. length xs) answers_next ∙ counted_cons o (answers_of reach c (n + 1) (drop (n + 1) before)) in
      omega arith

  pub summed_more : (bytes whole : ℕ) → bytes + total (answers_of reach c n (drop n before)) ≡ whole
      → bytes + unwrap_or o 0 + total (answers_of reach c (n + 1) (drop (n + 1) before)) ≡ whole
  summed_more bytes whole so_far =
      let more = ap (λ xs. total xs) answers_next ∙ summed_cons o (answers_of reach c (n + 1) (drop (n + 1) before)) in
      omega arith

pub bit_bound : (b : Bool) → bool_byte b ≤ 1
bit_bound true = omega arith
bit_bound false = omega arith

-- who does not answer adds nothing
pub byte_bound : (o : Option ℕ) → unwrap_or o 0 < 256 → unwrap_or o 0 ≤ 255 * bool_byte (is_some o)
byte_bound None small = omega arith
byte_bound (Some byte) small = omega arith

-- ---------------------------------------------------------------- gear from the factory

pub factory_is : (r : Inside) (n : ℕ) → r.count ≡ n → n ≤ 128
    → r.powered ≡ replicate 128 true → r.state ≡ replicate 128 Disabled → r.random ≡ replicate 128 search_mask → r.search ≡ replicate 128 search_mask
    → r.short ≡ replicate 128 None → r.paired ≡ replicate 128 false
    → all_gear r ≡ replicate n fresh
factory_is r n count few powered state random search_is short paired =
    same_lists _ _ (row_len r ∙ count ∙ sym (length-replicate n fresh)) (λ k d below.
    let inside : k < r.count = rw (row_len r) at below in
    let there : k < 128 = omega arith in
    get_or-map-range_with_len (gear_in r) 0 r.count k k d inside (zero-add k)
    ∙ rw (
      powered,
      state,
      random,
      search_is,
      short,
      paired,
      get_or-replicate 128 k true false there,
      get_or-replicate 128 k Disabled Disabled there,
      get_or-replicate 128 k search_mask search_mask there,
      get_or-replicate {A = Option ℕ} 128 k None None there,
      get_or-replicate 128 k false false there,
      get_or-replicate n k fresh d (omega arith),
    ) refl)
