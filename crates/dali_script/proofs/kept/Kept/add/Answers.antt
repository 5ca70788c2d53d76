use Rattle.std.proofs.Common.{◌<◌, ℕ, subst, sym}
use Rattle.dali_frame.specs.Random.{MASK24}
use Rattle.dali_script.{specs.Records.InBlock, specs.Records.HasAddress, proofs.Lists.all_after, proofs.Lists.all_left}
use Rattle.dali_script.proofs.kept.Kept.add.Goals as goal

pub invariant_of-self : goal.invariant_of-self
invariant_of-self c =
    let k = c.self.inside in
    let kept = c.self.invariant in
    let fits = rw (← c.self.view_is, c.in-Reserve.is) at c.requires in
    record {
      reserved = c.insert.ensures.map;
      enrolled = kept.enrolled;
      reserved_drawn = all_after (λ p. p.1) (λ n. n < MASK24) k.reserved c.insert.new.self
          (c.in-Reserve.address, c.in-Reserve.random) c.insert.result kept.reserved_drawn fits.1 c.insert.ensures.ok c.insert.ensures.err;
      enrolled_drawn = kept.enrolled_drawn;
      within = all_after (λ p. p.0) (InBlock k.table.block) k.reserved c.insert.new.self
          (c.in-Reserve.address, c.in-Reserve.random) c.insert.result kept.within fits.0 c.insert.ensures.ok c.insert.ensures.err;
    }

pub invariant_of-self-in-Enrol : goal.invariant_of-self-in-Enrol
invariant_of-self-in-Enrol c =
    let k = c.self.inside in
    let kept = c.self.invariant in
    let fits = rw (← c.self.view_is, c.in-Enrol.is) at c.requires in
    record {
      reserved = kept.reserved;
      enrolled = c.insert-in-Enrol.ensures.map;
      reserved_drawn = kept.reserved_drawn;
      enrolled_drawn = all_after (λ p. p.1) (λ n. n < MASK24) k.table.entries c.insert-in-Enrol.new.self.entries
          (c.in-Enrol.address, c.in-Enrol.random) c.insert-in-Enrol.result kept.enrolled_drawn fits c.insert-in-Enrol.ensures.added
          c.insert-in-Enrol.ensures.unchanged;
      within = subst (λ b. (a : ℕ) → HasAddress k.reserved a → InBlock b a) (sym c.insert-in-Enrol.ensures.block) kept.within;
    }

pub invariant_of-self-in-Release : goal.invariant_of-self-in-Release
invariant_of-self-in-Release c =
    let k = c.self.inside in
    let kept = c.self.invariant in
    record {
      reserved = c.take_out.ensures.map;
      enrolled = kept.enrolled;
      reserved_drawn = all_left (λ p. p.1) (λ n. n < MASK24) k.reserved c.take_out.new.self
          (c.in-Release.address, c.in-Release.random) c.take_out.result kept.reserved_drawn c.take_out.ensures.ok c.take_out.ensures.err;
      enrolled_drawn = kept.enrolled_drawn;
      within = all_left (λ p. p.0) (InBlock k.table.block) k.reserved c.take_out.new.self
          (c.in-Release.address, c.in-Release.random) c.take_out.result kept.within c.take_out.ensures.ok c.take_out.ensures.err;
    }
