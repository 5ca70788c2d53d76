use Rattle.std.proofs.Common.{rules, ◌≡◌, ◌⊎◌, inl, inr, ℕ, true, false, sym, ap, subst, List, [], ◌∷◌, ◌++◌, map, Some}
use Rattle.dali_frame.specs.{Random.value_of, declared.frames.{Answer.Answer, Forward.Forward}}
use Rattle.dali_special.specs.{Command.command_of, declared.command.Command.Command as Read}
use Rattle.dali_script.specs.Scripts.{Step, sends, is_asking, AreAsking, Script, Call, Hunt, Give}
use Rattle.dali_script.specs.{Scripts.{steps, MaySend, IsFront, Lawful}, Records.{Assignment, Has}, declared.{block.Block.Block, trace.Entry.Entry}}
use Rattle.dali_script.proofs.Members.{has_either}
use Rattle.dali_statement.{specs.Own.{Own, Act, Puts, Loses, Keeps, own_after, own_all, AreOwn}, proofs.Own.filtered}
use Rattle.dali_special.specs.declared.command.Command.TheVariants as read
use Rattle.dali_script.specs.declared.records.Record.TheVariants as record_of

-- A RECORD IS KEPT BEFORE ITS FRAME.

-- what PROGRAM SHORT ADDRESS gives is reserved
abbrev IsReserved : List Assignment → Read → Type 0
IsReserved reserved (read.Program (Some a)) = (r : ℕ) × Has reserved (a, r)
IsReserved reserved _ = Unit {0}

abbrev AreReserved : List Assignment → List Step → Type 0
AreReserved reserved [] = Unit {0}
AreReserved reserved (st ∷ ss) = IsReserved reserved st.command × AreReserved reserved ss

along : (reserved : List Assignment) (t : List Entry) (f : Forward) (ss : List Step) → IsFront t f ss → AreReserved reserved ss
    → IsReserved reserved (command_of f)
along reserved t f [] front are = elim front [ ]
along reserved [] f (st ∷ ss) front are = subst (IsReserved reserved) (sym front) are.0
along reserved (e ∷ t) f (st ∷ ss) front are = along reserved t f ss front.2 are.1

never : {A : Type 0} → false ≡ true → A
never {A} e = absurd (cc)

asking : (reserved : List Assignment) (c : Read) → is_asking c ≡ true → IsReserved reserved c
asking reserved (read.Program o) e = never e
asking reserved _ e = tt

all_asking : (reserved : List Assignment) (cs : List Read) → AreAsking cs → AreReserved reserved (map sends cs)
all_asking reserved [] are = tt
all_asking reserved (c ∷ cs) are = (asking reserved c are.0, all_asking reserved cs are.1)

each_script : (b : Block) (reserved : List Assignment) (s : Script) → MaySend b reserved s → AreReserved reserved (steps s)
each_script b reserved (Call r cs) may = (tt, (tt, (tt, (tt, (tt, (tt, all_asking reserved cs may.0))))))
each_script b reserved (Hunt r cs) may = (tt, (tt, (tt, all_asking reserved cs may.0)))
each_script b reserved (Give r a) may = (tt, (tt, (tt, (tt, ((value_of r, may.reserved_for), (tt, (tt, tt)))))))
each_script b reserved _ may = search rules

given_reserved : (b : Block) (reserved : List Assignment) (t : List Entry) (f : Forward) (a : ℕ) → Lawful b reserved t f
    → command_of f ≡ read.Program (Some a) → (r : ℕ) × Has reserved (a, r)
given_reserved b reserved t f a lawful is =
    subst (IsReserved reserved) is (along reserved t f (steps lawful.0) lawful.2 (each_script b reserved lawful.0 lawful.1))

-- ---------------------------------------------------------------- what is reserved was reserved before

abbrev HasPair : List Assignment → ℕ → ℕ → Type 0
HasPair xs a r = Has xs (a, r)

abbrev KeptBefore : Own → List Act → ℕ → ℕ → Type 0
KeptBefore v before a r = Has v.kept.reserved (a, r) ⊎ Has before (Keeps (record_of.Reserve a r))

sooner : (v : Own) (act : Act) (before : List Act) (a r : ℕ) → KeptBefore (own_after v act) before a r → KeptBefore v (act ∷ before) a r
sooner v act before a r (inr kept) = inr (inr kept)
sooner v (Keeps (record_of.Release b n)) before a r (inl has) = inl (filtered _ v.kept.reserved (a, r) has).0
sooner v (Keeps (record_of.Reserve b n)) before a r (inl has) = go (has_either v.kept.reserved ((b, n) ∷ []) (a, r) has) where
  go : HasPair v.kept.reserved a r ⊎ HasPair ((b, n) ∷ []) a r → KeptBefore v (Keeps (record_of.Reserve b n) ∷ before) a r
  go (inl old) = inl old
  go (inr (inl same)) = inr (inl (ap (λ x. Keeps (record_of.Reserve x.0 x.1)) same))
  go (inr (inr none)) = elim none [ ]
sooner v _ before a r (inl has) = inl has

kept_before : (v : Own) (before : List Act) (a r : ℕ) → Has (own_all v before).kept.reserved (a, r) → KeptBefore v before a r
kept_before v [] a r has = inl has
kept_before v (act ∷ before) a r has = sooner v act before a r (kept_before (own_after v act) before a r has)

after_front : (v : Own) (before rest : List Act) → AreOwn v (before ++ rest) → AreOwn (own_all v before) rest
after_front v [] rest own = own
after_front v (act ∷ before) rest own = after_front (own_after v act) before rest own.1

pub sent : (v : Own) (before later : List Act) (f : Forward) (h : Answer) (a : ℕ) → AreOwn v (before ++ (Puts f h ∷ later))
    → command_of f ≡ read.Program (Some a) → (r : ℕ) × KeptBefore v before a r
sent v before later f h a own is =
    let w = own_all v before in
    let own_then : AreOwn (own_all v before) (Puts f h ∷ later) = after_front v before (Puts f h ∷ later) own in
    let has = given_reserved w.kept.block w.kept.reserved w.trace f a own_then.0 is in
    (has.0, kept_before v before a has.0 has.1)

pub destroyed : (v : Own) (before later : List Act) (f : Forward) (a : ℕ) → AreOwn v (before ++ (Loses f ∷ later))
    → command_of f ≡ read.Program (Some a) → (r : ℕ) × KeptBefore v before a r
destroyed v before later f a own is =
    let w = own_all v before in
    let own_then : AreOwn (own_all v before) (Loses f ∷ later) = after_front v before (Loses f ∷ later) own in
    let has = given_reserved w.kept.block w.kept.reserved w.trace f a own_then.0 is in
    (has.0, kept_before v before a has.0 has.1)
