use Rattle.std.proofs.Common.{◌≡◌, ℕ, ◌+◌, ◌<◌, ◌≤◌, get_or, vec_items, vec_len, rules, arith, below_more, refl, sym, subst, ap, ◌∙◌}
use Rattle.std.specs.Vec.Iter.{into_iter_items, into_iter_len}
use Rattle.dali_threads.proofs.workers.fn.all_run.scope.Goals as goal

-- The port of the thread that is started stood first among the rest, so it is the one at the next place.
pub loop-port-preserved : goal.loop-port-preserved
loop-port-preserved g c =
    let was = c.loop-port.invariant in let step = c.in-Some.ensures.steps in let done = vec_len c.loop-port.workers in
    let places = c.push.ensures.by_index in let port = c.in-Some.port in
    let ports = into_iter_items c.into_iter-port-iterator.result in
    let started = c.in-Ok-spawn_with.ensures.ok in
    let next : (d : _) → port ≡ get_or ports done d = (λ d. let h = was.1 0 d in grind rules) in
    let P : _ → ℕ → _ → Type 0 =
    λ w k d. (w.promise.port.value ≡ get_or ports k d) × (w.promise.bus.value ≡ c.captures.bus.now) × (w.promise.turns ≡ c.captures.turns)
    × (w.promise.surveys ≡ c.captures.surveys) in
    let here : (d : _) → P c.in-Ok-spawn_with.worker done d =
    (λ d. rw started (c.of-in-loop-port.ensures ∙ next d, c.of.ensures, refl, refl)) in (
      search rules,
      (λ k d below. let h = was.1 (k + 1) d in grind rules),
      (λ k w d below. below_more (λ i. P (get_or (vec_items c.push.new.self) i w) i d) done
          (λ i low. subst (λ v. P v i d) (sym (places.0 i w low)) (was.2 i w d low))
          (subst (λ v. P v done d) (sym (places.1 w (search rules))) (here d)) k (omega (arith, below, c.in-Ok-push.ensures.len))),
      search rules,
    )

-- The run with each port is what its thread promised.
pub returns-in-Ok-joined : goal.returns-in-Ok-joined
returns-in-Ok-joined g c =
    let was = c.loop-port.invariant in let ends = c.in-Ok-joined.ensures in
    let gives = c.into_iter-port-iterator.ensures.into_iter_gives in
    let all : vec_len c.loop-port.workers ≡ vec_len c.captures.ports = sym c.len-2.ensures ∙ c.if-are_all.true ∙ c.len-count.ensures in
    record {
      stopped = tt;
      count = ends.len ∙ all;
      ran = λ i p d below.
          let within : i < vec_len c.loop-port.workers = omega (arith, below, ends.len) in
          let keeps = (ends.each i d within).1 in
          let mine = was.2 i keeps.handle p within in
          let port : keeps.handle.promise.port.value ≡ get_or (vec_items c.captures.ports) i p =
          ap (λ w. w.promise.port.value) keeps.handle_is ∙ mine.0 ∙ ap (λ xs. get_or xs i p) gives.0 in
          let bus : keeps.handle.promise.bus.value ≡ c.captures.bus.now = ap (λ w. w.promise.bus.value) keeps.handle_is ∙ mine.1 in
          let turns : keeps.handle.promise.turns ≡ c.captures.turns = ap (λ w. w.promise.turns) keeps.handle_is ∙ mine.2 in
          let surveys : keeps.handle.promise.surveys ≡ c.captures.surveys = ap (λ w. w.promise.surveys) keeps.handle_is ∙ mine.3 in
          rw (sym port, sym bus, sym turns, sym surveys) keeps.kept;
      drives = rw (sym c.new.ensures) c.run-driver.ensures.drives;
    }
