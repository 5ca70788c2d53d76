-- The places of a block, one by one. Assumes `Logic`.
--     origin_is, places_is, release_is     the machine values of the three parts;  makes_origin, makes_mark, makes_three     they are made
--     shown       a `&` to the places shows each value
--     taken       the place of a value, or the first behind them, as room; `put` is the way back with another value in it
--     emptied     places forget what they hold
use Rattle.std.specs.{Mem.type_size, Prelude.Some, Prelude.length, Prelude.slice_get}
use Rattle.core.{proofs.mem.Param.El, proofs.mem.Param.R, proofs.mem.Param.el_x, proofs.mem.Param.elτ, specs.declared.alloc.Allocator.Ghosts}
use Rattle.std_alloc.proofs.{RawLayout.as_raw, RawLayout.as_written, RcSteps.word}
use Prim.Native.Nat.{ℕ, zero, suc, ◌+◌, ◌<◌, ◌≤◌}
use base.{Fml.Fml, Fml.Lft, Fml.ftrue, Fml.fsep, Fml.fat, Fml.froom, Fraction.full_share}
use base.Logic.{ent, emp, sep, via, fst∗, snd∗, id⊢, never_e}
use borrow.Table.OneValue.{part_out}
use denote.{Index.place, Laws.Is, Memory.part_at, Memory.shared_of, RattleType.RattleType, RattleType.Valss, RattleType.owns, RawPtr.Ptr, RawPtr.RawPtr}
use denote.{RawPtr.ptr_val, Shadow.makes_shadow, Slice.elements_shared}
use denote.Struct.{Declared.shape, Struct.Struct, Struct.within, Tuple.Tuple, Tuple.tuple_type}
use mathlib.Core.List.{List, [], ◌∷◌, ◌++◌}
use mathlib.Core.Path.{◌≡◌, refl, ◌∙◌}
use mir.{Syntax.Ty, Syntax.ty_array, Val.Val, Val.vstruct, Val.vcons, Val.vnil, Val.of_list}
use native.Mathlib.Nat.{not-suc-le-zero, le_of_suc-le-suc}
use seplogic.Ra.Ura.{Ura}
use types.Kit.{‵, ◌⊛◌, some, ◌$◌, ◌∵◌, !, qed, by, move, keep, use1, use2, pick, split, fsplit, fjoin, feq_i, fpack, frame, done}
use types.Logic.{Logic, sem}
use Rattle.dali_ring.specs.Block.{put_at, filled}
use Rattle.dali_ring.specs.contracts.block.Origin as origin
use Rattle.dali_ring.specs.contracts.block.Places as places
use Rattle.dali_ring.specs.contracts.block.Release as release

-- a struct of a marker
abbrev pub mark : Val
mark = vstruct (vcons (vstruct vnil) vnil)

-- what is owned of a struct of a marker, and of a struct of a pointer, whatever their names
abbrev pub marked : RattleType
marked = Struct (record { name = []; args = []; types = []; fields = Struct (record { name = []; args = []; types = []; fields = [] }) ∷ [] })

abbrev pub pointed : RattleType
pointed = Struct (record { name = []; args = []; types = []; fields = RawPtr ∷ [] })

pub origin_is : (T : RattleType) (x : (origin.the_row T).Denot) (vs : List Val) → Is (origin.the_row T) x vs → vs ≡ word x.pointer ∷ []
origin_is T x vs is = is.1.0 ∙ (λ i. vstruct (of_list (is.1.1.0 i ++ [])) ∷ [])

pub places_is : (T : RattleType) (x : (places.the_row T).Denot) (vs : List Val) → Is (places.the_row T) x vs → vs ≡ mark ∷ []
places_is T x vs is = is.0.1.0 ∙ (λ i. vstruct (of_list (is.0.1.1.0.1.0 i ++ [])) ∷ [])

pub release_is : (T A : RattleType) (g : Ghosts A.Denot) (x : (release.the_row T A g).Denot) (vs : List Val) → Is (release.the_row T A g) x vs → vs ≡ mark ∷ []
release_is T A g x vs is = is.0.1.0 ∙ (λ i. vstruct (of_list (is.0.1.1.0.1.0 i ++ [])) ∷ [])

module _ {M : Type 1} {𝓤 : Ura M} (𝓛 : Logic 𝓤) where
  pub makes_origin : (p : Ptr) → ent 𝓤 (emp 𝓤) (sem 𝓛 (pointed.own_val (p, tt) (word p ∷ [])))
  makes_origin p = makes_shadow 𝓛 (pointed.own_val (p, tt) (word p ∷ [])) (λ _. (tt, (tt, tt))) ((ptr_val p ∷ [], tt), (refl, (refl, tt)))

  pub makes_mark : ent 𝓤 (emp 𝓤) (sem 𝓛 (marked.own_val (tt, tt) (mark ∷ [])))
  makes_mark = makes_shadow 𝓛 (marked.own_val (tt, tt) (mark ∷ [])) (λ _. (tt, ((λ _. (tt, tt)), tt))) ((vstruct vnil ∷ [], tt), (refl, ((tt, (refl, tt)), tt)))

abbrev pub three_val : Val → Val → Val → Val
three_val u v w = vstruct (vcons u (vcons v (vcons w vnil)))

-- a tuple is its three values, each of which is one machine value
pub makes_three : {M : Type 1} {𝓤 : Ura M} (𝓛 : Logic 𝓤) (A B C : RattleType) (x : A.Denot) (y : B.Denot) (z : C.Denot) (u v w : Val)
    → ent 𝓤 (sem 𝓛 (owns (A ∷ B ∷ C ∷ []) (x, (y, (z, tt))) (u ∷ [], (v ∷ [], (w ∷ [], tt)))))
    (sem 𝓛 ((Tuple (A ∷ B ∷ C ∷ [])).own_val (x, y, z) (three_val u v w ∷ [])))
makes_three 𝓛 A B C x y z u v w =
    let all : List Val = three_val u v w ∷ [] in
    let values : Valss (A ∷ B ∷ C ∷ []) = (u ∷ [], (v ∷ [], (w ∷ [], tt))) in
    qed 𝓛 (‵ (owns (A ∷ B ∷ C ∷ []) (x, (y, (z, tt))) values) ∷ []) ∵ feq_i ! (List Val) all all refl $ fjoin ! $
    fpack ! (Valss (A ∷ B ∷ C ∷ [])) (within (shape (tuple_type (A ∷ B ∷ C ∷ []))) (x, (y, (z, tt))) all) values $ done !

abbrev pub item_of : {X : Type 0} (xs : List X) (i : ℕ) → i < length xs → (x : X) × (slice_get xs i ≡ Some x)
item_of [] i inside = absurd (not-suc-le-zero inside)
item_of (x ∷ xs) zero inside = (x, refl)
item_of (x ∷ xs) (suc i) inside = item_of xs i (le_of_suc-le-suc inside)

module _ (E : El) where
  abbrev pub step : ℕ
  step = type_size (R E)

  -- n places from o on without the i-th
  abbrev pub besides : ℕ → ℕ → ℕ → ℕ → List (el_x E) → Fml
  besides b o zero i xs = ftrue
  besides b o (suc n) zero [] = filled (R E) b (o + step) n []
  besides b o (suc n) zero (x ∷ xs) = filled (R E) b (o + step) n xs
  besides b o (suc n) (suc i) [] = ftrue
  besides b o (suc n) (suc i) (x ∷ xs) = fsep (part_at (R E) full_share x b o) (besides b (o + step) n i xs)

module _ (E : El) {M : Type 1} {𝓤 : Ura M} (𝓛 : Logic 𝓤) (b : ℕ) where
  open 𝓛 use {H}

  abbrev τ : Ty
  τ = elτ E

  abbrev s : ℕ
  s = step E

  abbrev value : el_x E → ℕ → Fml
  value x o = part_at (R E) full_share x b o

  abbrev all : ℕ → ℕ → List (el_x E) → Fml
  all o n xs = filled (R E) b o n xs

  forgotten : (x : el_x E) (o : ℕ) → ent 𝓤 (sem 𝓛 (value x o)) (H.room τ b o)
  forgotten x o = qed 𝓛 (‵ (value x o) ∷ []) ∵
      use1 𝓛 (some (λ (v : Val). ‵ (fat full_share τ b o v) ⊛ ‵ (E.row.own_val x (v ∷ [])))) (part_out 𝓛 (R E) refl full_share x b o) $
      pick ! (λ v. split ! $ keep ! (0 ∷ []) $ by ! (𝓛.laws.at_room τ b o v))

  pub emptied : (o n : ℕ) (xs : List (el_x E)) → ent 𝓤 (sem 𝓛 (all o n xs)) (sem 𝓛 (all o n []))
  emptied o n [] = id⊢ 𝓤 _
  emptied o zero (x ∷ xs) = never_e 𝓤 _
  emptied o (suc n) (x ∷ xs) = qed 𝓛 (‵ (value x o) ∷ ‵ (all (o + s) n xs) ∷ []) ∵
      use1 𝓛 (‵ (froom τ b o)) (forgotten x o) $ move ! (1 ∷ []) $
      use1 𝓛 (‵ (all (o + s) n [])) (emptied (o + s) n xs) $ as_written ! (ty_array τ n) b (o + s) $ move ! (1 ∷ []) $
      use2 𝓛 (‵ (froom (ty_array τ (suc n)) b o)) (𝓛.laws.room_cons τ n b o) $ as_raw ! (ty_array τ (suc n)) b o $ done !

  pub taken : (o n i : ℕ) (xs : List (el_x E)) → i < n → i ≤ length xs
      → ent 𝓤 (sem 𝓛 (all o n xs)) (sep 𝓤 (H.room τ b (place s o i)) (sem 𝓛 (besides E b o n i xs)))
  taken o zero i xs inside reach = absurd (not-suc-le-zero inside)
  taken o (suc n) zero [] inside reach = qed 𝓛 (‵ (all o (suc n) []) ∷ []) ∵ as_written ! (ty_array τ (suc n)) b o $
      use1 𝓛 (‵ (froom τ b o) ⊛ ‵ (froom (ty_array τ n) b (o + s))) (𝓛.laws.room_uncons τ n b o) $ split ! $ move ! (1 ∷ []) $
      as_raw ! (ty_array τ n) b (o + s) $ move ! (1 ∷ []) $ done !
  taken o (suc n) zero (x ∷ xs) inside reach = qed 𝓛 (‵ (value x o) ∷ ‵ (all (o + s) n xs) ∷ []) ∵ use1 𝓛 (‵ (froom τ b o)) (forgotten x o) $ done !
  taken o (suc n) (suc i) [] inside reach = absurd (not-suc-le-zero reach)
  taken o (suc n) (suc i) (x ∷ xs) inside reach = qed 𝓛 (‵ (value x o) ∷ ‵ (all (o + s) n xs) ∷ []) ∵ move ! (1 ∷ []) $
      use1 𝓛 (‵ (froom τ b (place s (o + s) i)) ⊛ ‵ (besides E b (o + s) n i xs)) (taken (o + s) n i xs (le_of_suc-le-suc inside) (le_of_suc-le-suc reach)) $
      split ! $ frame ! $ move ! (1 ∷ 0 ∷ []) $ done !

  pub put : (o n i : ℕ) (xs : List (el_x E)) (y : el_x E) → i < n → i ≤ length xs
      → ent 𝓤 (sep 𝓤 (sem 𝓛 (value y (place s o i))) (sem 𝓛 (besides E b o n i xs))) (sem 𝓛 (all o n (put_at i y xs)))
  put o zero i xs y inside reach = absurd (not-suc-le-zero inside)
  put o (suc n) zero [] y inside reach = id⊢ 𝓤 _
  put o (suc n) zero (x ∷ xs) y inside reach = id⊢ 𝓤 _
  put o (suc n) (suc i) [] y inside reach = absurd (not-suc-le-zero reach)
  put o (suc n) (suc i) (x ∷ xs) y inside reach = qed 𝓛 (‵ (value y (place s (o + s) i)) ∷ ‵ (besides E b o (suc n) (suc i) (x ∷ xs)) ∷ []) ∵
      move ! (1 ∷ []) $ fsplit ! $ move ! (2 ∷ 1 ∷ []) $
      use2 𝓛 (‵ (all (o + s) n (put_at i y xs))) (put (o + s) n i xs y (le_of_suc-le-suc inside) (le_of_suc-le-suc reach)) $ move ! (1 ∷ 0 ∷ []) $ done !

  pub shown : (κ : Lft) (o i : ℕ) (xs : List (el_x E)) (inside : i < length xs)
      → ent 𝓤 (sem 𝓛 (elements_shared (R E) xs b o κ)) (sem 𝓛 (shared_of (R E) (item_of xs i inside).0 b (place s o i) κ))
  shown κ o i [] inside = absurd (not-suc-le-zero inside)
  shown κ o zero (x ∷ xs) inside = fst∗ 𝓤 (sem 𝓛 (shared_of (R E) x b o κ)) (sem 𝓛 (elements_shared (R E) xs b (o + s) κ))
  shown κ o (suc i) (x ∷ xs) inside =
      via 𝓤 (sem 𝓛 (elements_shared (R E) xs b (o + s) κ)) (snd∗ 𝓤 (sem 𝓛 (shared_of (R E) x b o κ)) (sem 𝓛 (elements_shared (R E) xs b (o + s) κ)))
      (shown κ (o + s) i xs (le_of_suc-le-suc inside))
