use Rattle.std.proofs.Common.{◌≡◌, ℕ, List, ◌∷◌, Result, Ok, Err, IfErr, sym, subst, inl, inr}
use Rattle.dali_script.specs.Records.{Kept, without_records}
use Rattle.dali_script.specs.declared.{block.Block.Block, records.Record.Record}
use Rattle.dali_commissioning.specs.{Census.AreCounted, Drivers.Talk}
use Rattle.dali_commissioning.specs.declared.census.Reply.{Reply}
use Rattle.dali_mending.specs.Mending.{Mending}
use Rattle.dali_commission_said.specs.declared.failure.Failure.{Failure}
use Rattle.dali_commission_tasks.specs.declared.tasks.Mend.{Mend}
use Rattle.dali_commission_mended.specs.{Cut.AreMendsCut, Cut.FromCut, Cut.ToCut, Mends.IsMended}

-- A MEND OF SHORT ADDRESSES fails behind the first one: there is no memory for what came of it,
pub unnoted : (table : Kept) (all : List ℕ) (a : ℕ) (more : List ℕ) (m : Mending) (x at y : Talk) (r : Result (Unit {0}) Failure) → all ≡ a ∷ more
    → IsMended table a m x at → y ≡ at → IfErr r (λ failure. AreMendsCut table all failure x y)
unnoted table all a more m x at y (Ok done) are mended same = tt
unnoted table all a more m x at y (Err failure) are mended same = rw are (inr (m, at, mended, inl same))

-- or the others are cut short
pub later_cut : (table : Kept) (all : List ℕ) (a : ℕ) (more : List ℕ) (m : Mending) (x at y : Talk) (r : Result (Unit {0}) Failure)
    → all ≡ a ∷ more → IsMended table a m x at → IfErr r (λ failure. AreMendsCut table more failure at y)
    → IfErr r (λ failure. AreMendsCut table all failure x y)
later_cut table all a more m x at y (Ok done) are mended cut = tt
later_cut table all a more m x at y (Err failure) are mended cut = rw are (inr (m, at, mended, inr cut))

-- WHAT FAILS BEHIND THE CENSUS
module _ {S : Type 0} (is_up is_sound : S → Type 0) (holds : S → List Record → Type 0) where
  pub to_cut : {T : Type 0} (kept_of : S → Kept) (block : Block) (table records : Kept) (others : List Block) (wanted : Mend) (none : Kept)
      (counted heard : List Reply) (keep : S) (x at y : Talk) (r : Result T Failure) → none ≡ without_records table.block
      → AreCounted none others 0 counted x at → heard ≡ counted
      → IfErr r (λ failure. ToCut is_up is_sound holds kept_of block table records others wanted heard failure keep at y)
      → IfErr r (λ failure. FromCut is_up is_sound holds kept_of block table records others wanted failure keep x y)
  to_cut kept_of block table records others wanted none counted heard keep x at y (Ok came) is are same cut = tt
  to_cut kept_of block table records others wanted none counted heard keep x at y (Err failure) is are same cut =
      inr (
        heard,
        at,
        subst (λ rs. AreCounted (without_records table.block) others 0 rs x at) (sym same) (subst (λ k. AreCounted k others 0 counted x at) is are),
        inr cut,
      )
