-- The rows of a list rise by their first value, so a list is known from its rows, and from them in any order.
use Rattle.std.proofs.Common.{◌≡◌, ℕ, zero, suc, ◌+◌, ◌<◌, ◌≤◌, pos, List, [], ◌∷◌, ◌++◌, map, length, Ordering, Less, is_lt, IsPermutation, IsSorted, refl}
use Rattle.std.proofs.Common.{sym, ap, ◌∙◌, arith, Some}
use Rattle.std.proofs.lemmas.{Bool.Decides.nat_tests, Int.ints, List.Sorted.IsPermutation-sym, List.Sorted.IsPermutation-map, List.Sorted.IsPermutation-trans}
use Rattle.std.specs.{Cmp.IsTotalOrder, List.AllByRecursion, Ordering.ordering_reverse}
use Rattle.sqlite.specs.Order.{Row, column, value_cmp}
use Rattle.sqlite.specs.{Query.Output, Query.output_cmp, Tree.Trees, Tree.IsAscending, declared.types.Value.TheVariants.Int}
use Rattle.sqlite_keyed.proofs.SortLemmas.{sorted_unique}
use Rattle.sqlite_sql.proofs.QueryLemmas.{output_cmp_total}
use Rattle.sqlite_value.proofs.OrderLemmas.{value_cmp-Int}
use Rattle.dali_script.specs.{Names.record_code, Records.address_of, Records.random_of, declared.records.Record.Record}
use Rattle.dali_script.proofs.Codes.{record_there}
use Rattle.dali_sqlite.{specs.Rows.row_of, specs.Rows.rows_after, specs.Stored.Lists, proofs.Texts.query}

-- a row as ORDER BY seq sees it
abbrev pub keyed : Row → Output
keyed row = (column row 0 ∷ [], row)

abbrev pub by_seq : Output → Output → Ordering
by_seq = output_cmp query

pub unkeyed : (rows : List Row) → map (λ (o : Output). o.1) (map keyed rows) ≡ rows
unkeyed [] = refl
unkeyed (row ∷ rows) = ap (λ more. row ∷ more) (unkeyed rows)

lower : (m n : ℕ) → m < n → value_cmp (Int (pos m)) (Int (pos n)) ≡ Less
lower m n less = value_cmp-Int (pos m) (pos n) ∙ grind (arith, ints, nat_tests)

earlier : (m n : ℕ) (x y : Record) → m < n → by_seq (keyed (row_of m x)) (keyed (row_of n y)) ≡ Less
earlier m n x y less = rw (lower m n less) refl

before_all : (m n : ℕ) (x : Record) (ys : List Record) → m ≤ n → AllByRecursion (λ o. by_seq (keyed (row_of m x)) o ≡ Less) (map keyed (rows_after n ys))
before_all m n x [] most = tt
before_all m n x (y ∷ ys) most = (earlier m (n + 1) x y (omega arith), before_all m (n + 1) x ys (omega arith))

pub rows_rise : (n : ℕ) (xs : List Record) → IsAscending (λ a b. by_seq a b ≡ Less) (map keyed (rows_after n xs))
rows_rise n [] = tt
rows_rise n (x ∷ xs) = (before_all (n + 1) (n + 1) x xs (omega arith), rows_rise (n + 1) xs)

-- what rises is sorted
module _ {A : Type 0} (cmp : A → A → Ordering) (total : IsTotalOrder cmp) where
  sorted_from : (xs : List A) → IsAscending (λ a b. cmp a b ≡ Less) xs → IsSorted cmp xs
  sorted_from [] up k d low high = absurd (omega arith)
  sorted_from (x ∷ []) up k d low high = absurd (omega arith)
  sorted_from (x ∷ y ∷ xs) up zero d low high = ap is_lt (total.antisymm y x ∙ ap ordering_reverse up.0.0)
  sorted_from (x ∷ y ∷ xs) up (suc k) d low high =
      let next : suc k + 1 ≡ suc (k + 1) = omega arith in rw next (sorted_from (y ∷ xs) up.1 k d (omega arith) (omega arith))

pub same_record : (n : ℕ) (x y : Record) → row_of n x ≡ row_of n y → x ≡ y
same_record n x y is =
    let code : record_code x ≡ record_code y = cc in
    let address : address_of x ≡ address_of y = cc in
    let random : random_of x ≡ random_of y = cc in
    let same : Some x ≡ Some y = sym (record_there x) ∙ (rw (code, address, random) (record_there y)) in
    cc

pub same_records : (n : ℕ) (xs ys : List Record) → rows_after n xs ≡ rows_after n ys → xs ≡ ys
same_records n [] [] is = refl
same_records n [] (y ∷ ys) is = cc
same_records n (x ∷ xs) [] is = cc
same_records n (x ∷ xs) (y ∷ ys) is =
    let first : row_of (n + 1) x ≡ row_of (n + 1) y = cc in
    let more : rows_after (n + 1) xs ≡ rows_after (n + 1) ys = cc in
    let one = same_record (n + 1) x y first in
    let others = same_records (n + 1) xs ys more in
    cc

-- the rows of a list, keyed and in an order that is sorted, are in the order of the list
pub in_order : (xs : List Record) (ordered : List Output) → IsPermutation (map keyed (rows_after 0 xs)) ordered → IsSorted by_seq ordered
    → map (λ (o : Output). o.1) ordered ≡ rows_after 0 xs
in_order xs ordered same sorted =
    ap (map (λ (o : Output). o.1)) (sorted_unique by_seq (output_cmp_total query) (map keyed (rows_after 0 xs)) ordered (rows_rise 0 xs) same sorted)
    ∙ unkeyed (rows_after 0 xs)

-- ONE LIST has the rows of a table.
pub one_list : (trees : Trees) (xs ys : List Record) → Lists trees xs → Lists trees ys → xs ≡ ys
one_list trees xs ys held also =
    let same = IsPermutation-map keyed _ _ (IsPermutation-trans _ _ _ (IsPermutation-sym _ _ held) also) in
    let sorted = sorted_from by_seq (output_cmp_total query) (map keyed (rows_after 0 ys)) (rows_rise 0 ys) in
    same_records 0 xs ys (sym (in_order xs (map keyed (rows_after 0 ys)) same sorted) ∙ unkeyed (rows_after 0 ys))

-- one record more is one row more
pub rows_more : (n : ℕ) (xs : List Record) (x : Record) → rows_after n (xs ++ x ∷ []) ≡ rows_after n xs ++ row_of (n + length xs + 1) x ∷ []
rows_more n [] x = let place : n + 1 ≡ n + length {A = Record} [] + 1 = omega arith in ap (λ at. row_of at x ∷ []) place
rows_more n (y ∷ xs) x =
    let place : n + 1 + length xs + 1 ≡ n + length (y ∷ xs) + 1 = omega arith in
    ap (λ rows. row_of (n + 1) y ∷ rows) (rows_more (n + 1) xs x ∙ ap (λ at. rows_after (n + 1) xs ++ row_of at x ∷ []) place)
