use Rattle.std.proofs.Common.{◌≡◌, inl, inr, refl, sym, ap, subst, ◌∙◌, List, [], ◌∷◌, ◌++◌, ℕ, Bor, arith}
use Rattle.std.proofs.Common.{◌≤◌, ◌-◌, length, take, drop, OnOk}
use Rattle.std.proofs.{Math.ListN.get_or, lemmas.List.take_all}
use Rattle.std.proofs.Common.{Bool, false, IsTrue, ◌↔◌}
use Rattle.std.proofs.Common.{Result, Ok, Err, IfErr, IsErr, Option, Some, None, IfSome}
use Rattle.std.proofs.lemmas.List.{map-append}
use Rattle.sqlite.specs.declared.error.Error.{Error}
use Rattle.dali_reserve.specs.declared.error.KeepError.TheVariants.{NoMemory}
use Rattle.dali_commission_said.specs.declared.failure.Failure.{Failure}
use Rattle.dali_commission_said.specs.declared.failure.StoreFault.{StoreFault}
use Rattle.dali_commission_said.specs.declared.failure.StoreFault.TheVariants.{Store}
use Rattle.std.specs.declared.alloc.Global.{Global}
use Rattle.std.specs.declared.string.String.{String}
use Rattle.std.specs.Prelude.{IsErrAnd, string_bytes}
use Rattle.dali_script.specs.Records.{Kept}
use Rattle.dali_commission_stores.specs.Calls.{Look, Read}
use Rattle.dali_commission_stores.specs.Lent.{AreRead, HeldSo}
use Rattle.dali_commission_files.specs.Faults.{closed_fault, IsUnread, IsUnwritten, IsUnopened}
use Rattle.dali_commission_files.specs.Logs.{IsDamaged}
use Rattle.dali_commission_files.specs.Opened.{names_of}

pub no_memory : {T : Type 0} (r : Result T StoreFault) → IfErr r (λ it. it ≡ Store NoMemory) → IfErr r IsUnread
no_memory (Ok it) told = tt
no_memory (Err it) told = inr (inl told)

-- what SQLite says of a file that it does not open, or what the system does
pub closed : (error : Error) (it : StoreFault) → IfSome (closed_fault error) (λ said. it ≡ said)
    → (closed_fault error ≡ None → IsUnwritten it) → IsUnopened it
closed error it = go (closed_fault error) refl where
  go : (o : Option StoreFault) → closed_fault error ≡ o → IfSome o (λ said. it ≡ said) → (o ≡ None → IsUnwritten it) → IsUnopened it
  go (Some said) e same other = inr (inr (inl (error, e ∙ ap Some (sym same))))
  go None e same other = inr (inr (inr (other refl)))

pub one_more : {C : Type 0} (xs ys : List (Bor (List ℕ) × C)) (name : Bor (List ℕ)) (c : C) → ys ≡ xs ++ (name, c) ∷ []
    → names_of ys ≡ names_of xs ++ name.now ∷ []
one_more xs ys name c e = ap names_of e ∙ map-append (λ it. it.0.now) xs ((name, c) ∷ [])

-- a log that is said not to be damaged, by bytes that are its own
pub whole : (b : Bool) (log own : List ℕ) → b ≡ false → (IsTrue b ↔ IsDamaged log) → own ≡ log → IsDamaged own → ⊥
whole b log own e says same is = let so = says.1 (subst (λ l. IsDamaged l) same is) in grind (arith, e, so)

-- what was held, if it failed, or the files cannot be closed, or what was due is done then
module _ {F H Due Out : Type 0} (ends : H → F → F → Due → Result Out Failure → Type 0) (at now : F) (did shown : Result Due Failure) where
  pub held_badly : (why : Failure) (r : Result Out Failure) → IsErr r → IsErrAnd r (λ e. e ≡ why) → shown ≡ Err why → shown ≡ did → now ≡ at
      → HeldSo ends at now did r
  held_badly why (Ok out) err fails is same stays = absurd (grind (arith, err))
  held_badly why (Err e) err fails is same stays = inl (sym same ∙ is ∙ ap (λ f. Err f) (sym fails), stays)

  pub not_closed : (due : Due) (r : Result Out Failure) → IsErr r → shown ≡ Ok due → shown ≡ did → now ≡ at → HeldSo ends at now did r
  not_closed due (Ok out) err is same stays = absurd (grind (arith, err))
  not_closed due (Err e) err is same stays = inr (due, sym same ∙ is, inl stays)

pub then_done : {F H Due Out : Type 0} (ends : H → F → F → Due → Result Out Failure → Type 0) (at now : F) (did : Result Due Failure) (by : H) (due : Due)
    (r : Result Out Failure) → did ≡ Ok due → ends by at now due r → HeldSo ends at now did r
then_done ends at now did by due (Ok out) is so = (by, due, is, so)
then_done ends at now did by due (Err e) is so = inr (due, is, inr (by, so))

abbrev pub IsFine : {T E : Type 0} → Result T E → Type 0
IsFine (Ok it) = Unit {0}
IsFine (Err error) = ⊥

pub not_both : {T E : Type 0} (r : Result T E) (it : T) (error : E) → r ≡ Ok it → r ≡ Err error → ⊥
not_both r it error ok err = subst IsFine (sym ok ∙ err) tt

-- records that were read are those of a look that shows them
module _ {F G : Type 0} (saw : F → Look → Type 0) (at : F) (seen : G → Look → Type 0) (x : G)
    (so : (name : List ℕ) (kept : Kept) → seen x (Read name kept) → saw at (Read name kept)) where
  read_so : (names : List (String Global)) (before after : List Kept) → AreRead seen x names before after → AreRead saw at names before after
  read_so [] before after read = read
  read_so (name ∷ names) before after (kept, one, read) = (kept, so (string_bytes name) kept one, read_so names (before ++ kept ∷ []) after read)

  pub read_held : (names : List (String Global)) (before after all : List Kept) → before ≡ [] → all ≡ after → AreRead seen x names before after
      → AreRead saw at names [] all
  read_held names before after all none is read =
      subst (λ (kept : List Kept). AreRead saw at names [] kept) (sym is)
      (subst (λ (kept : List Kept). AreRead saw at names kept after) none (read_so names before after read))

-- a first name and the others
pub split : (all : List (String Global)) (name : String Global) → name ≡ get_or all 0 name → 1 ≤ length all
    → all ≡ name ∷ take (length all - 1) (drop 1 all)
split [] name is some = absurd (omega (arith, some))
split (x ∷ more) name is some =
    ap (λ n. n ∷ more) (sym is) ∙ ap (λ l. name ∷ l) (sym (take_all (length (x ∷ more) - 1) more (omega arith)))

-- the records of a first name were read, and then those of the others
pub one_read : {F E : Type 0} (saw : F → Look → Type 0) (x : F) (name : String Global) (bytes : List ℕ) (all more : List (String Global))
    (before mid after : List Kept) (r : Result (Unit {0}) E) → all ≡ name ∷ more → bytes ≡ string_bytes name
    → (k : Kept) × (mid ≡ before ++ k ∷ []) × saw x (Read bytes k) → OnOk r (AreRead saw x more mid after)
    → OnOk r (AreRead saw x all before after)
one_read saw x name bytes all more before mid after (Ok done) begins is (k, added, seen) rest =
    subst (λ (l : List (String Global)). AreRead saw x l before after) (sym begins) (
      k,
      subst (λ (b : List ℕ). saw x (Read b k)) is seen,
      subst (λ (l : List Kept). AreRead saw x more l after) added rest,
    )
one_read saw x name bytes all more before mid after (Err e) begins is read rest = tt
