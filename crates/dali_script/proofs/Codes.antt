use Rattle.std.proofs.Common.{◌≡◌, ℕ, Bool, true, false, refl, subst, arith, Option, Some, None, rules, ◌==◌, if◌then◌else◌}
use Rattle.std.proofs.lemmas.Bool.Decides.{nat_tests}
use Rattle.dali_script.specs.Names.{record_code, record_by, IsRecordOf, end_code, end_by, fault_code, fault_by}
use Rattle.dali_script.specs.{Records.address_of, Records.random_of, declared.orders.End.End, declared.orders.End.TheVariants.AllFound}
use Rattle.dali_script.specs.declared.{orders.Fault.Fault, orders.Fault.TheVariants.Conflict, records.Record.Record, records.Record.TheVariants.Reserve}

-- CODES ARE READ BACK.

pub record_there : (x : Record) → record_by (record_code x) (address_of x) (random_of x) ≡ Some x
record_there (Reserve a r) = refl
record_there _ = refl

-- What a test of numbers chooses has what each of the choices has: the value of the number that it is compared with, if
-- the two are equal, and the others.
record Each {A : Type 0} (P : A → Type 0) (chosen : Option A) : Type 0 where
  each : (x : A) → chosen ≡ Some x → P x

each_tested : {A : Type 0} (P : A → Type 0) (code n : ℕ) (own : A) (rest : Option A) → (code ≡ n → P own) → Each P rest
    → Each P (if code == n then Some own else rest)
each_tested {A = A} P code n own rest is others = record { each = λ x. go x (code == n) refl } where
  go : (x : A) (b : Bool) → (code == n) ≡ b → (if b then Some own else rest) ≡ Some x → P x
  go x true same found =
      let equal : code ≡ n = grind (arith, nat_tests) in
      let this : own ≡ x = cc in
      subst P this (is equal)
  go x false other found = others.each x found

each_none : {A : Type 0} (P : A → Type 0) → Each P None
each_none P = record { each = λ x e. absurd (let no = e in cc) }

pub record_back : (code a r : ℕ) (x : Record) → record_by code a r ≡ Some x → IsRecordOf code a r x
record_back code a r x e =
    let all : Each (IsRecordOf code a r) (record_by code a r) = search (rules, each_tested, each_none) in
    all.each x e

pub end_there : (e : End) → end_by (end_code e) ≡ Some e
end_there AllFound = refl
end_there _ = refl

pub end_back : (code : ℕ) (e : End) → end_by code ≡ Some e → end_code e ≡ code
end_back code x e =
    let all : Each (λ (y : End). end_code y ≡ code) (end_by code) = search (rules, each_tested, each_none) in
    all.each x e

pub fault_there : (w : Fault) → fault_by (fault_code w) ≡ Some w
fault_there Conflict = refl
fault_there _ = refl

pub fault_back : (code : ℕ) (w : Fault) → fault_by code ≡ Some w → fault_code w ≡ code
fault_back code x e =
    let all : Each (λ (y : Fault). fault_code y ≡ code) (fault_by code) = search (rules, each_tested, each_none) in
    all.each x e
