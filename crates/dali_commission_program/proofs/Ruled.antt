use Rattle.std.proofs.Common.{◌≡◌, ℕ, List, false, Option, Result, Ok, inl, inr}
use Rattle.std.proofs.lemmas.Bool.{false≢true}
use Rattle.dali_script.specs.{Records.Kept, declared.block.Block.Block, declared.records.Record.Record}
use Rattle.dali_commissioning.specs.Drivers.{talk_of}
use Rattle.dali_commission_said.specs.declared.{report.Session.Session, said.Said.Said}
use Rattle.dali_commission_tasks.specs.declared.tasks.Setup.{Setup}
use Rattle.dali_commission_stores.specs.Lent.{IsLent}
use Rattle.dali_commission_mended.{specs.Tellings.HasRunOver, proofs.Ruled.over}
use Rattle.dali_commission_program.specs.Ruled.{PutsOver}

-- A RUN OVER RECORDS THAT ARE LENT keeps the rules of the page.

pub run : {K R W : Type 0} (is_up is_sound : K → Type 0) (holds : K → List Record → Type 0) (kept_of : K → Kept) (block_of : K → Block)
    (opens : K → Type 0) (remaining : R → Option (List ℕ)) (contents : W → Option (List ℕ)) (told : Said → Type 0) (others : List Block) (setup : Setup)
    (x y : Session R W) → setup.mends ≡ false
    → IsLent opens (λ from to p q done. HasRunOver is_up is_sound holds kept_of (block_of from) remaining contents told others setup from to p q done)
    x y (Ok (tt {0})) → PutsOver is_up is_sound holds block_of opens (talk_of remaining contents x.driver) (talk_of remaining contents y.driver)
run is_up is_sound holds kept_of block_of opens remaining contents told others setup x y none (inl (err, same)) = absurd (false≢true err)
run is_up is_sound holds kept_of block_of opens remaining contents told others setup x y none (inr (from, to, done, open_so, came, well)) =
    (from, to, open_so, over is_up is_sound holds kept_of (block_of from) remaining contents told others setup from to x y done well none came)
