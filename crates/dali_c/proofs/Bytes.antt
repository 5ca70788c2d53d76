use Rattle.std.proofs.Common.{◌≡◌, ℕ, ◌<◌, ◌≤◌, ◌⊎◌, inl, inr, sym, ap, subst, ◌∙◌, length, get_or}
use Rattle.std.proofs.lemmas.{Bool.cases_lt, List.same_lists, List.length-take-le, List.get_or-take, List.get_or_default}
use Rattle.dali_script.specs.{Pairs.pairs_in, Pairs.IsCleared, Records.Assignment, declared.pairs.Pairs.Pairs}
use Rattle.dali_c.specs.Records.{RecordsHaveTheirBytes}

-- the same pairs, and nothing behind them, are the same bytes
list_once : (p q : Pairs) → p.count ≤ 64 → q.count ≤ 64 → length p.pairs ≡ 64 → length q.pairs ≡ 64 → IsCleared p → IsCleared q → pairs_in p ≡ pairs_in q
    → p ≡ q
list_once p q few few' room room' blank blank' same = whole count pairs where
  count : p.count ≡ q.count
  count =
      sym (length-take-le p.count p.pairs (subst (λ n. p.count ≤ n) (sym room) few))
      ∙ ap length same
      ∙ length-take-le q.count q.pairs (subst (λ n. q.count ≤ n) (sym room') few')

  at : (k : ℕ) (d : Assignment) → k < length p.pairs → (k < p.count) ⊎ (p.count ≤ k) → get_or p.pairs k d ≡ get_or q.pairs k d
  at k d inside (inl before) =
      sym (get_or-take p.count p.pairs k d before)
      ∙ ap (λ xs. get_or xs k d) same
      ∙ get_or-take q.count q.pairs k d (subst (λ n. k < n) count before)
  at k d inside (inr past) =
      get_or_default p.pairs k d (0, 0) inside
      ∙ blank k past
      ∙ sym (blank' k (subst (λ n. n ≤ k) count past))
      ∙ get_or_default q.pairs k (0, 0) d (subst (λ n. k < n) (room ∙ sym room') inside)

  pairs : p.pairs ≡ q.pairs
  pairs = same_lists p.pairs q.pairs (room ∙ sym room') (λ k d inside. at k d inside (cases_lt k p.count))

  whole : p.count ≡ q.count → p.pairs ≡ q.pairs → p ≡ q
  whole e f = ap (λ n. record { count = n; pairs = p.pairs }) e ∙ ap (λ xs. record { count = q.count; pairs = xs }) f

pub records_once : RecordsHaveTheirBytes
records_once r s are are' room room' blank blank' same =
    let first : r.first ≡ s.first = ap (λ k. k.block.first) same in
    let last : r.last ≡ s.last = ap (λ k. k.block.last) same in
    let reserved : r.reserved ≡ s.reserved =
    list_once r.reserved s.reserved are.reserved are'.reserved room.reserved room'.reserved blank.reserved blank'.reserved (ap (λ k. k.reserved) same) in
    let enrolled : r.enrolled ≡ s.enrolled =
    list_once r.enrolled s.enrolled are.enrolled are'.enrolled room.enrolled room'.enrolled blank.enrolled blank'.enrolled (ap (λ k. k.enrolled) same) in
    ap (λ n. record { first = n; last = r.last; reserved = r.reserved; enrolled = r.enrolled }) first
    ∙ ap (λ n. record { first = s.first; last = n; reserved = r.reserved; enrolled = r.enrolled }) last
    ∙ ap (λ p. record { first = s.first; last = s.last; reserved = p; enrolled = r.enrolled }) reserved
    ∙ ap (λ p. record { first = s.first; last = s.last; reserved = s.reserved; enrolled = p }) enrolled
