use Rattle.std.proofs.Common.{◌≡◌, ◌<◌, ◌∙◌, ℕ, zero, suc, min, Bool, List, [], ◌∷◌, map, length, slice_index_or, Option, Some, None, refl, sym, ap, subst}
use Rattle.std.proofs.{Common.arith, Common.inl, lemmas.List.length-take, lemmas.List.get_or-take, lemmas.List.get_or-map, lemmas.List.length-map}
use Rattle.dali_script.specs.declared.{block.Block.Block, orders.Order.Order, records.Record.Record}
use Rattle.dali_enrol.specs.Directory.{Pass}
use Rattle.dali_world.specs.Site.{SiteState, share_of}
use Rattle.dali_line.specs.{Calls.PumpsFrom, Calls.LapsesFrom, Counts.others_of, Counts.share_in, Counts.shares_of, Driving.Drives, Facts.Facts}
use Rattle.dali_line.specs.Found.{FromDriver, IsStuck, IsGivenBack}
use Rattle.dali_line.specs.{Runs.Runs, Shares.PortShare, Shares.port_share, Shares.no_share, declared.outcome.Outcome.Outcome}
use Rattle.dali_line.specs.declared.outcome.Outcome.TheVariants as outcome
use Rattle.dali_threads.specs.Ran.{HasRun, EachHasRun, HaveRun, line_facts}

-- what a worker's contract says of its run, without its store and its pass
pub has_run : {S : Type 0} (is_up is_sound : S → Type 0) (holds : S → List Record → Type 0) (block_of : S → Block) (bus : Facts) (after : Option Order)
    (from to : PortShare) (old new : S) (was is : Pass) (most : ℕ) (end : Outcome)
    → Runs is_up is_sound holds block_of bus None after from to old new was is most (Some end) → HasRun bus from to most end
has_run is_up is_sound holds block_of bus after from to old new was is most end run =
    record { turns = run.turns; taken = run.taken; count = run.count; ends = run.ends }

-- a worker that had no memory for its store took no turn
pub has_not_begun : (bus : Facts) (from to : PortShare) (most : ℕ) → to ≡ from → HasRun bus from to most outcome.NoMemory
has_not_begun bus from to most same = record { turns = []; taken = same; count = omega arith; ends = inl (λ i d inside. absurd (omega arith)) }

-- ---------------------------------------------------------------- all runs over a line

four : (s : SiteState) (c : ℕ) (d : PortShare) → c < 4
    → slice_index_or (share_in s 0 ∷ share_in s 1 ∷ share_in s 2 ∷ share_in s 3 ∷ []) c d ≡ share_in s c
four s zero d few = refl
four s (suc zero) d few = refl
four s (suc (suc zero)) d few = refl
four s (suc (suc (suc zero))) d few = refl
four s (suc (suc (suc (suc c)))) d few = absurd (omega (arith, few))

length_shares : (s : SiteState) → length (shares_of s) ≡ min (length s.plan.blocks) 4
length_shares s = length-take (length s.plan.blocks) (share_in s 0 ∷ share_in s 1 ∷ share_in s 2 ∷ share_in s 3 ∷ [])

-- the port of each controller that a site has
share_there : (s : SiteState) (c : ℕ) (d : PortShare) → c < length (shares_of s) → slice_index_or (shares_of s) c d ≡ share_in s c
share_there s c d inside =
    let least : c < min (length s.plan.blocks) 4 = subst (λ n. c < n) (length_shares s) inside in
    get_or-take (length s.plan.blocks) (share_in s 0 ∷ share_in s 1 ∷ share_in s 2 ∷ share_in s 3 ∷ []) c d (omega (arith, least))
    ∙ four s c d (omega (arith, least))

no_steps : (s : SiteState) (c : ℕ) → s.log ≡ [] → share_in s c ≡ port_share c 0
no_steps s c empty = ap (λ log. port_share c (share_of c log)) empty

pub have_run : (turns : ℕ) (surveys : Bool) (site s : SiteState) (ended : List (Outcome × PortShare)) (outcomes : List Outcome)
    (ports : List PortShare) (driver : ℕ)
    → site.log ≡ [] → length ended ≡ length (shares_of site)
    → EachHasRun (line_facts surveys) (λ port. port) (shares_of site) turns ended
    → outcomes ≡ map (λ e. e.0) ended → ports ≡ map (λ e. e.1) ended → ports ≡ shares_of s → IsGivenBack s ports driver
    → Drives PumpsFrom (λ d. FromDriver d IsStuck) LapsesFrom 0 driver turns
    → HaveRun turns surveys outcomes s
have_run turns surveys site s ended outcomes ports driver empty all ran ends back shares given drives =
    let count : length outcomes ≡ length ended = ap length ends ∙ length-map ended (λ (e : Outcome × PortShare). e.0) in
    let same : length ended ≡ length (shares_of s) = sym (length-map ended (λ (e : Outcome × PortShare). e.1)) ∙ ap length (sym back ∙ shares) in
    record {
      given = subst (λ ps. IsGivenBack s ps (others_of s.log)) shares (subst (IsGivenBack s ports) (sym given.others) given);
      count = count ∙ same;
      ran = λ c end inside.
          let e : Outcome × PortShare = (end, no_share) in
          let within : c < length ended = omega (arith, inside, count) in
          let from : slice_index_or (shares_of site) c no_share ≡ port_share c 0 =
          share_there site c no_share (omega (arith, within, all)) ∙ no_steps site c empty in
          let to : (slice_index_or ended c e).1 ≡ share_in s c =
          sym (get_or-map (λ (e : Outcome × PortShare). e.1) ended c e no_share within) ∙ ap (λ ps. slice_index_or ps c no_share) (sym back ∙ shares)
          ∙ share_there s c no_share (omega (arith, within, same)) in
          let told : (slice_index_or ended c e).0 ≡ slice_index_or outcomes c end =
          sym (get_or-map (λ (e : Outcome × PortShare). e.0) ended c e end within) ∙ ap (λ os. slice_index_or os c end) (sym ends) in
          rw (sym from, sym to, sym told) (ran c no_share e within);
      driven = subst (λ d. Drives PumpsFrom (λ d. FromDriver d IsStuck) LapsesFrom 0 d turns) (sym given.others) drives;
    }
