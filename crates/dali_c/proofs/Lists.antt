use Rattle.std.proofs.Common.{◌≡◌, ℕ, ◌<◌, Option, Some, None, List, [], ◌∷◌, refl, sym, ap, ◌∙◌, arith, subst, length, map, take, get_or, slice_index_or, zero}
use Rattle.std.proofs.{Common.suc, Common.IsSome, Common.IfNone, lemmas.List.same_lists, lemmas.List.length-map, lemmas.List.get_or-map}
use Rattle.dali_script.{specs.Scripts.IsLawful, specs.Scripts.IsTransaction, specs.declared.trace.Entry.Entry, proofs.Senders.sent_at}
use Rattle.dali_c.specs.{Entries.entry_of, Entries.AreEntries, declared.entries.PlainEntry.PlainEntry}

-- An entry that cannot be read is in no list of entries,
pub unread_entry : (plain : List PlainEntry) (entries : List Entry) (i : ℕ) (d : PlainEntry) → i < length plain → entry_of (get_or plain i d) ≡ None
    → AreEntries plain entries → ⊥
unread_entry [] entries i d inside none are = absurd (omega arith)
unread_entry (p ∷ ps) [] i d inside none are = cc
unread_entry (p ∷ ps) (e ∷ es) zero d inside none are = cc
unread_entry (p ∷ ps) (e ∷ es) (suc i) d inside none are = unread_entry ps es i d (omega arith) none (cc)

-- and a list is of these entries alone.
somes_once : (a b : List Entry) → map (λ e. Some e) a ≡ map (λ e. Some e) b → a ≡ b
somes_once [] [] same = refl
somes_once [] (y ∷ ys) same = absurd (cc)
somes_once (x ∷ xs) [] same = absurd (cc)
somes_once (x ∷ xs) (y ∷ ys) same =
    let first : x ≡ y = cc in
    let rest : xs ≡ ys = somes_once xs ys (cc) in
    cc

pub entries_once : (plain : List PlainEntry) (a b : List Entry) → AreEntries plain a → AreEntries plain b → a ≡ b
entries_once plain a b one other = somes_once a b (sym one ∙ other)

-- The first of them are the first, and each is the one of its place.
pub entries_front : (plain : List PlainEntry) (entries : List Entry) (i : ℕ) → AreEntries plain entries → AreEntries (take i plain) (take i entries)
entries_front plain entries zero are = refl
entries_front [] [] (suc i) are = refl
entries_front [] (e ∷ es) (suc i) are = absurd (cc)
entries_front (p ∷ ps) [] (suc i) are = absurd (cc)
entries_front (p ∷ ps) (e ∷ es) (suc i) are = let rest : AreEntries (take i ps) (take i es) = entries_front ps es i (cc) in cc

pub entry_there : (plain : List PlainEntry) (entries : List Entry) (i : ℕ) (d : PlainEntry) (e : Entry) → i < length plain
    → entry_of (get_or plain i d) ≡ Some e → AreEntries plain entries → (i < length entries) × (get_or entries i e ≡ e)
entry_there [] entries i d e inside is are = absurd (omega arith)
entry_there (p ∷ ps) [] i d e inside is are = absurd (cc)
entry_there (p ∷ ps) (x ∷ xs) zero d e inside is are = (omega arith, cc)
entry_there (p ∷ ps) (x ∷ xs) (suc i) d e inside is are =
    let rest = entry_there ps xs i d e (omega arith) is (cc) in (omega (arith, rest.0), rest.1)

-- An entry that may not follow those before it is in no transaction.
pub unlawful_entry : (plain : List PlainEntry) (before entries : List Entry) (i : ℕ) (d : PlainEntry) (e : Entry) → i < length plain
    → entry_of (get_or plain i d) ≡ Some e → AreEntries (take i plain) before
    → (IsLawful before e.frame → ⊥) → AreEntries plain entries → IsTransaction entries → ⊥
unlawful_entry plain before entries i d e inside is first unlawful are sent =
    let there = entry_there plain entries i d e inside is are in
    let front : take i entries ≡ before = entries_once (take i plain) (take i entries) before (entries_front plain entries i are) first in
    let lawful = subst (λ t. IsLawful t (get_or entries i e).frame) front (sent_at entries i e sent there.0) in
    unlawful (subst (λ f. IsLawful before f) (ap (λ x. x.frame) there.1) lawful)

-- what there is not, by what would follow if there were
pub if_none : {A : Type 0} {Q : Type 0} (o : Option A) → ((IsSome o → ⊥) → Q) → IfNone o Q
if_none None f = f (λ some. cc)
if_none (Some x) f = tt

-- a list of eight that was made of another, place by place
pub mapped : {A B : Type 0} (f : A → B) (xs : List A) (ys : List B) (d : A) → length xs ≡ 8 → length ys ≡ 8
    → ((i : ℕ) (e : B) → i < 8 → slice_index_or ys i e ≡ f (slice_index_or xs i d)) → ys ≡ map f xs
mapped f xs ys d long same at =
    same_lists ys (map f xs) (same ∙ sym (length-map xs f ∙ long))
    (λ i e less. at i e (subst (λ n. i < n) same less) ∙ sym (get_or-map f xs i d e (subst (λ n. i < n) (same ∙ sym long) less)))
