use Rattle.std.proofs.Common.{◌≡◌, ◌≤◌, List, [], ◌∷◌, refl, ◌∙◌, ap, sym, subst}
use Rattle.dali_script.specs.{Records.Kept, Records.with_record, Records.without_records, declared.block.Block.Block, declared.records.Record.Record}
use Rattle.dali_script.proofs.Lists.{block_stays, record_wider, fits_wider, may_wider}
use Rattle.dali_reserve.specs.Store.{replay_of, IsGood, AreGood, IsReplay}

-- THE SAME RECORDS WITH A LARGER BLOCK
abbrev wider : Block → Kept → Kept
wider wide k = record k { block = wide }

good_wider : (wide : Block) (k : Kept) (x : Record) → wide.first ≤ k.block.first → k.block.last ≤ wide.last
    → IsGood k x → IsGood (wider wide k) x
good_wider wide k x below above good = record {
  short = good.short;
  fits = fits_wider k.block wide x below above good.fits;
  may = may_wider wide k x good.may;
}

are_good_wider : (wide : Block) (k : Kept) (xs : List Record) → wide.first ≤ k.block.first → k.block.last ≤ wide.last
    → AreGood k xs → AreGood (wider wide k) xs
are_good_wider wide k [] below above good = tt
are_good_wider wide k (x ∷ xs) below above (first, rest) =
    let same = block_stays k x in (
      good_wider wide k x below above first,
      subst (λ j. AreGood j xs) (sym (record_wider wide k x))
          (are_good_wider wide (with_record k x) xs (subst (λ b. wide.first ≤ b.first) (sym same) below)
          (subst (λ b. b.last ≤ wide.last) (sym same) above) rest),
    )

replay_wider : (wide : Block) (k : Kept) (xs : List Record) → replay_of (wider wide k) xs ≡ wider wide (replay_of k xs)
replay_wider wide k [] = refl
replay_wider wide k (x ∷ xs) =
    ap (λ j. replay_of j xs) (record_wider wide k x) ∙ replay_wider wide (with_record k x) xs

pub replays : (b wide : Block) (xs : List Record) (k : Kept) → wide.first ≤ b.first → b.last ≤ wide.last
    → IsReplay b xs k → IsReplay wide xs (record k { block = wide })
replays b wide xs k below above replay = record {
  good = are_good_wider wide (without_records b) xs below above replay.good;
  value = ap (wider wide) replay.value ∙ sym (replay_wider wide (without_records b) xs);
}
