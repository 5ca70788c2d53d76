use Rattle.std.proofs.Common.{◌≡◌, ◌<◌, ◌++◌, ◌∷◌, [], sym, ap, subst, ◌∙◌}
use Rattle.dali_script.specs.{Pairs.pairs_in, Records.IsKept, Records.Fits, Records.MayAdd, Records.Assignment, Records.without_pair}
use Rattle.dali_script.specs.declared.records.Record.TheVariants.{Reserve, Enrol, Release}
use Rattle.dali_script.proofs.Lists.{kept_more}
use Rattle.dali_c.specs.Records.{kept_of}
use Rattle.dali_c.proofs.records.PlainRecords.add.Goals as goal

pub returns-in-Reserve-clause-kept : goal.returns-in-Reserve-clause-kept
returns-in-Reserve-clause-kept c =
    let k = kept_of c.args.self.now in
    let a = c.in-Reserve.address in
    let r = c.in-Reserve.random in
    let fits : Fits k.block (Reserve a r) = subst (Fits k.block) c.in-Reserve.is c.requires.fits in
    let may : MayAdd k (Reserve a r) = subst (MayAdd k) c.in-Reserve.is c.requires.may in
    let small : a < 64 = rw c.of.ensures.pair at c.of.ensures.short in
    let pairs : pairs_in c.insert.new.self ≡ k.reserved ++ (a, r) ∷ [] =
    c.insert.ensures.pairs ∙ ap (λ (p : Assignment). k.reserved ++ p ∷ []) c.of.ensures.pair in
    record {
      first = c.requires.records.first;
      last = c.requires.records.last;
      reserved = c.insert.ensures.room;
      enrolled = c.requires.records.enrolled;
      kept = subst IsKept (ap (λ xs. record { block = k.block; reserved = xs; enrolled = k.enrolled }) (sym pairs))
          (kept_more k (Reserve a r) c.requires.records.kept fits small may);
    }

pub returns-in-Enrol-clause-kept : goal.returns-in-Enrol-clause-kept
returns-in-Enrol-clause-kept c =
    let k = kept_of c.args.self.now in
    let a = c.in-Enrol.address in
    let r = c.in-Enrol.random in
    let fits : Fits k.block (Enrol a r) = subst (Fits k.block) c.in-Enrol.is c.requires.fits in
    let may : MayAdd k (Enrol a r) = subst (MayAdd k) c.in-Enrol.is c.requires.may in
    let small : a < 64 = rw c.of-in-Enrol.ensures.pair at c.of-in-Enrol.ensures.short in
    let pairs : pairs_in c.insert-in-Enrol.new.self ≡ k.enrolled ++ (a, r) ∷ [] =
    c.insert-in-Enrol.ensures.pairs ∙ ap (λ (p : Assignment). k.enrolled ++ p ∷ []) c.of-in-Enrol.ensures.pair in
    record {
      first = c.requires.records.first;
      last = c.requires.records.last;
      reserved = c.requires.records.reserved;
      enrolled = c.insert-in-Enrol.ensures.room;
      kept = subst IsKept (ap (λ xs. record { block = k.block; reserved = k.reserved; enrolled = xs }) (sym pairs))
          (kept_more k (Enrol a r) c.requires.records.kept fits small may);
    }

pub returns-in-Release-clause-kept : goal.returns-in-Release-clause-kept
returns-in-Release-clause-kept c =
    let k = kept_of c.args.self.now in
    let a = c.in-Release.address in
    let r = c.in-Release.random in
    let fits : Fits k.block (Release a r) = subst (Fits k.block) c.in-Release.is c.requires.fits in
    let may : MayAdd k (Release a r) = subst (MayAdd k) c.in-Release.is c.requires.may in
    let small : a < 64 = rw c.of-in-Release.ensures.pair at c.of-in-Release.ensures.short in
    let pairs : pairs_in c.take_out.new.self ≡ without_pair (a, r) k.reserved =
    c.take_out.ensures.pairs ∙ ap (λ (p : Assignment). without_pair p k.reserved) c.of-in-Release.ensures.pair in
    record {
      first = c.requires.records.first;
      last = c.requires.records.last;
      reserved = c.take_out.ensures.room;
      enrolled = c.requires.records.enrolled;
      kept = subst IsKept (ap (λ xs. record { block = k.block; reserved = xs; enrolled = k.enrolled }) (sym pairs))
          (kept_more k (Release a r) c.requires.records.kept fits small may);
    }
