use Rattle.std.proofs.Common.{◌≡◌, ◌↔◌, ◌⊎◌, inl, inr, ℕ, ◌<◌, true, false, nat_eq, List, Bool, Some, sym, refl, subst, ap, arith, is_some, IfSome}
use Rattle.std.proofs.lemmas.Bool.Decides.{nat_tests}
use Rattle.dali_frame.specs.{Random.value_of, declared.{frames.{Answer.TheVariants.Silence, Forward.Forward}, numbers.SearchAddress.SearchAddress}}
use Rattle.dali_special.specs.{Command.{IsSpelled, command_of}, declared.command.Command.{Command, TheVariants.Program}}
use Rattle.dali_script.specs.{Records.{Assignment, Kept, Has, HasAddress, IsMap, IsOnce, addresses}, Scripts.{MayGive, Lawful}, Stages.{leads, given, stage_of}}
use Rattle.dali_script.specs.{Stages.Follows, declared.{stage.Stage.{Stage, TheVariants.{Free, Unnamed, HighAsked, MiddleAsked, Hunted}}, trace.Entry.Entry}}
use Rattle.dali_script.proofs.{Lists.has_map, Members.same_member, Transactions.{follows_lawful, lawful_follows}}
use Rattle.dali_search.specs.{Ascending.Ascent, Least.Search}
use Rattle.dali_controller.specs.{Whole.{Sends, Knows, IsChosen}, declared.{purpose.Purpose.{Purpose, TheVariants.{Resolving, Asking}}, way.Way.Way}}
use Rattle.dali_controller.proofs.Steps.{first_spelled, sends_follow}

-- what a transaction sends it has chosen
pub sends_chosen : (k : Kept) (n : SearchAddress) (p : Purpose) (s : Stage) (c : Command) → Sends k n p s c → IsChosen n p s c
sends_chosen k n p Free c e = e.0
sends_chosen k n p (Unnamed r) c e = (e.0, e.1)
sends_chosen k n p (HighAsked b high) c e = (e.0, e.1.0)
sends_chosen k n p (MiddleAsked b bytes) c e = (e.0, e.1.0)
sends_chosen k n p (Hunted r last left) c e = e
sends_chosen k n p _ c e = (e.0, e.1)

-- only PROGRAM SHORT ADDRESS follows MASK
programs : (r : SearchAddress) (c : Command) → is_some (leads (Unnamed r) c Silence) ≡ true → (a : ℕ) × (c ≡ Program (Some a))
programs r (Program (Some a)) e = (a, refl)
programs r _ e = absurd (cc)

asked_small : (y : Way) (k : Kept) (n : SearchAddress) (x : Search) (v : Ascent) (o : Bool) (p : Purpose) (b : ℕ) → Knows y k n x v o p
    → (p ≡ Resolving b) ⊎ (p ≡ Asking b) → b < 64
asked_small y k n x v o p b knows (inl is) = let known = subst (Knows y k n x v o) is knows in known.2
asked_small y k n x v o p b knows (inr is) = let known = subst (Knows y k n x v o) is knows in known.2

given_small : (k : Kept) (a : ℕ) (n : ℕ) → IsMap k.reserved → Has k.reserved (a, n) → a < 64
given_small k a n map has = map.short a (has_map (λ q. q.0) k.reserved (a, n) has)

-- and what it has chosen, if it may be sent, it sends
pub chosen_sends : (y : Way) (k : Kept) (n : SearchAddress) (x : Search) (v : Ascent) (o : Bool) (p : Purpose) (s : Stage) (c : Command) → IsMap k.reserved
    → Knows y k n x v o p → Follows k.block k.reserved s c → IsChosen n p s c → Sends k n p s c
chosen_sends y k n x v o p Free c map knows follows e = (e, subst IsSpelled (sym e) (first_spelled y k n x v o p knows))
chosen_sends y k n x v o p (Unnamed r) c map knows follows e =
    let program = programs r c follows.leads_on in
    let may : MayGive k.block k.reserved r program.0 =
    subst (λ d. IfSome (given (Unnamed r) d) (λ g. MayGive k.block k.reserved g.0 g.1)) program.1 follows.may in
    (e.0, e.1, (program.0, given_small k program.0 (value_of r) map may.reserved_for, may, program.1))
chosen_sends y k n x v o p (HighAsked b high) c map knows follows e = (e.0, (e.1, asked_small y k n x v o p b knows e.1), follows.may)
chosen_sends y k n x v o p (MiddleAsked b bytes) c map knows follows e = (e.0, (e.1, asked_small y k n x v o p b knows e.1), follows.may)
chosen_sends y k n x v o p (Hunted r last left) c map knows follows e = e
chosen_sends y k n x v o p _ c map knows follows e = (e.0, e.1, follows.may)

-- what is reserved at an address
pub reserved_is : (xs : List Assignment) (a r n : ℕ) → IsOnce (addresses xs) → Has xs (a, r) → (nat_eq r n ≡ true) ↔ Has xs (a, n)
reserved_is xs a r n once has = (
  λ e. let same : r ≡ n = grind (arith, nat_tests) in subst (λ m. Has xs (a, m)) same has,
  λ h. test (ap (λ q. q.1) (same_member (λ q. q.0) xs (a, r) (a, n) once has h refl)),
) where
  test : r ≡ n → nat_eq r n ≡ true
  test e = grind (arith, nat_tests)

pub reserved_none : (xs : List Assignment) (a n : ℕ) → (HasAddress xs a → ⊥) → (false ≡ true) ↔ Has xs (a, n)
reserved_none xs a n none = (λ e. absurd (cc), λ h. absurd (none (has_map (λ q. q.0) xs (a, n) h)))

-- so whether it sends a frame is told by whether the frame may be sent, and whether it has chosen it
pub sends_allowed : (y : Way) (k : Kept) (n : SearchAddress) (x : Search) (v : Ascent) (o : Bool) (p : Purpose) (t : List Entry) (f : Forward) (chosen : Bool)
    → IsMap k.reserved → Knows y k n x v o p → Lawful k.block k.reserved t f
    → ((chosen ≡ true) ↔ IsChosen n p (stage_of t) (command_of f)) → (chosen ≡ true) ↔ Sends k n p (stage_of t) (command_of f)
sends_allowed y k n x v o p t f chosen map knows lawful test = (
  λ e. chosen_sends y k n x v o p (stage_of t) (command_of f) map knows (follows_lawful k.block k.reserved t f lawful) (test.0 e),
  λ s. test.1 (sends_chosen k n p (stage_of t) (command_of f) s),
)

pub sends_refused : (k : Kept) (n : SearchAddress) (p : Purpose) (t : List Entry) (f : Forward) → (Lawful k.block k.reserved t f → ⊥)
    → (false ≡ true) ↔ Sends k n p (stage_of t) (command_of f)
sends_refused k n p t f refused =
    (λ e. absurd (cc), λ s. absurd (refused (lawful_follows k.block k.reserved t f (sends_follow k n p (stage_of t) (command_of f) s))))
