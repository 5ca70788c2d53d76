use Rattle.dali_progress.proofs.Below.{◌≡◌, ℕ, ◌+◌, ◌<◌, inl, Bool, true, false, List, [], ◌∷◌, ◌++◌, append-nil, append_assoc, refl, sym, ap, subst, ◌∙◌}
use Rattle.dali_progress.proofs.Below.{length, arith, zero, suc, Some, None, map, get_or, ◌==◌, ◌&&◌, if◌then◌else◌, ◌≤◌, inr, Option, set, get_or-set_same}
use Rattle.dali_progress.proofs.Below.{get_or-set_other, nat_tests, AllByRecursion, option_map, Answer, Silence, Forward, command_of, Command, RandomByte, High}
use Rattle.dali_progress.proofs.Below.{answers_of, heard_of, Everyone, InBlock, without_records, Block, Input, Order, mapped_from, at_first, Machine}
use Rattle.dali_progress.proofs.Below.{machine_after, Allowed, IsActed, IsDue, Plan, IsPlan, block_at, KeepsPromise, IsRun, LeavesUsed, controller_at}
use Rattle.dali_progress.proofs.Below.{controller_begun, nobody, World, Controller, Event, come_up, used_kept, keeps_promise, nobody_answers, machines_at}
use Rattle.dali_progress.proofs.Below.{machine_in, machines_after, Waits, leaves_acted, SiteState, opened_site, world, site_logged, IsActRefused, machines}
use Rattle.dali_progress.proofs.Below.{machine_at, none_set, by_place, site_after, HearsUsed, IsOfCall, AreOfCalls, HasJustBegun, IsUsedOf, BeginsBySurveys}
use Rattle.dali_progress.proofs.Below.{asks_first, is_silence, silences_after, IsHeardInTime, AsksInPeace, AllAskInPeace, HasAsked, StaysBegun}
use Rattle.dali_progress.proofs.{Logged.{run_logged, machines_logged, some_within}, Spared.Calls.{IsLivedAt, counts_after, none_yet, lived_on, opened_lived}}
use Rattle.dali_progress.proofs.Spared.Calls.{start_block, lived_leaves, unrefused, Heeds, heeded_on, just_lived, lived_all, unrefused_now, counts_more}
use Rattle.dali_progress.proofs.{Spared.{Calls.counts_still, Lives.{lives_more, IsFair, IsFewAt, unstarted_unopened}}, Later.some_same}
use Rattle.dali_script.specs.declared.orders.Input.TheVariants as input
use Rattle.dali_events.specs.declared.event.Event.TheVariants as event
use Rattle.dali_standing.specs.declared.refusal.Refusal.TheVariants as refusal

-- WHO IS ASKED IN PEACE IS HEARD: a used gear that has power answers, and nothing disturbs its answer.

no_answer : (answers : List ℕ) → heard_of answers ≡ Silence → answers ≡ []
no_answer [] e = refl
no_answer (x ∷ []) e = absurd (cc)
no_answer (x ∷ (y ∷ more)) e = absurd (cc)

-- at each moment of a run used gear have their addresses
asked_hears : (s : SiteState) (c d : ℕ) (f : Forward) (h : Answer) (rest : List Event) → IsRun s.plan s.queue (s.log ++ rest)
    → AsksInPeace s c (event.Sent d f h) → (a : ℕ) → d ≡ c → IsUsedOf s.plan c a → command_of f ≡ RandomByte a High → h ≡ Silence → ⊥
asked_hears s c d f h rest run peace a same used asks silent =
    let whose = mapped_from (λ u. u.short) s.plan.used a used.1 in
    let asked : command_of f ≡ RandomByte whose.0.short High = asks ∙ ap (λ b. RandomByte b High) (sym whose.2) in
    let within : InBlock (block_at s.plan c) whose.0.short = subst (InBlock (block_at s.plan c)) (sym whose.2) used.0 in
    let on = peace whose.0 same whose.1 within asked in
    let kept = used_kept s.plan s.queue s.log rest whose.0 run whose.1 in
    let nobody_heard : answers_of Everyone (command_of f) 0 (world s).gear ≡ [] =
    no_answer (answers_of Everyone (command_of f) 0 (world s).gear) (sym on.1 ∙ silent) in
    let none : answers_of Everyone (RandomByte whose.0.short High) 0 (world s).gear ≡ [] =
    subst (λ x. answers_of Everyone x 0 (world s).gear ≡ []) asked nobody_heard in
    nobody_answers (world s) whose.0.short High none whose.0.gear kept.0.0 on.0 kept.0.1

peace_begins : (s : SiteState) (c : ℕ) (e : Event) → AsksInPeace s c e → BeginsBySurveys c e
peace_begins s c (event.Acted d i o) peace = peace
peace_begins s c _ peace = tt

question_by : (a : ℕ) (x : Command) → asks_first a x ≡ true → x ≡ RandomByte a High
question_by a (RandomByte b High) e = let same : b ≡ a = grind (arith, nat_tests) in ap (λ n. RandomByte n High) same
question_by a _ e = absurd (cc)

silence_by : (h : Answer) → is_silence h ≡ true → h ≡ Silence
silence_by Silence e = refl
silence_by _ e = absurd (cc)

-- so there is no silence to be counted
peace_counts : (s : SiteState) (c a : ℕ) (e : Event) (rest : List Event) → IsRun s.plan s.queue (s.log ++ rest) → AsksInPeace s c e → IsUsedOf s.plan c a
    → silences_after c a 0 e ≡ 0
peace_counts s c a (event.Sent d f h) rest run peace used = go (d == c) (asks_first a (command_of f)) (is_silence h) refl refl refl where
  go : (x y t : Bool) → (d == c) ≡ x → asks_first a (command_of f) ≡ y → is_silence h ≡ t → (if x && (y && t) then 0 + 1 else 0) ≡ 0
  go true true true mine asks silent =
      absurd (asked_hears s c d f h rest run peace a (let same : d ≡ c = grind (arith, nat_tests) in same) used (question_by a (command_of f) asks)
      (silence_by h silent))
  go true true false mine asks silent = refl
  go true false t mine asks silent = refl
  go false y t mine asks silent = refl
peace_counts s c a (event.Up d kept) rest run peace used = go (d == c) where
  go : (b : Bool) → ◌≡◌ {A = ℕ} (if b then 0 else 0) 0
  go true = refl
  go false = refl
peace_counts s c a _ rest run peace used = refl

all_begin : (s : SiteState) (c : ℕ) (es : List Event) → AllAskInPeace s c es → AllByRecursion (BeginsBySurveys c) es
all_begin s c [] peace = tt
all_begin s c (e ∷ es) peace = (peace_begins s c e peace.0, all_begin (site_logged s e) c es peace.1)

all_in_time : (s : SiteState) (c a : ℕ) (es : List Event) → IsRun s.plan s.queue (s.log ++ es) → AllAskInPeace s c es → IsUsedOf s.plan c a
    → IsHeardInTime c a 0 es
all_in_time s c a [] run peace used = tt
all_in_time s c a (e ∷ es) run peace used =
    let none : silences_after c a 0 e ≡ 0 = peace_counts s c a e (e ∷ es) run peace.0 used in (
      (omega (arith, none)),
      subst (λ n. IsHeardInTime c a n es) (sym none) (all_in_time (site_logged s e) c a es
          (subst (IsRun s.plan s.queue) (sym (append_assoc s.log (e ∷ []) es)) run) peace.1 used),
    )

log_after : (s : SiteState) (es : List Event) → (site_after s es).log ≡ s.log ++ es
log_after s [] = sym (append-nil s.log)
log_after s (e ∷ es) = log_after (site_logged s e) es ∙ append_assoc s.log (e ∷ []) es

pub unrefused_in_peace : (s : SiteState) (c : ℕ) (es : List Event) (i : Input) → HasJustBegun s c → AreOfCalls s es → IsRun s.plan s.queue (site_after s es).log
    → AllAskInPeace s c es → IsActRefused (site_after s es) c i refusal.AddressInUse → ⊥
unrefused_in_peace s c es i begun are run peace =
    unrefused s c es i run.plan begun are
    (all_begin s c es peace, λ a used. all_in_time s c a es (subst (IsRun s.plan s.queue) (log_after s es) run) peace used)

-- ---------------------------------------------------------------- if all controllers do so, without the site's refusal

-- if nothing was counted
lived_again : (s : SiteState) (c : ℕ) (v : ℕ → ℕ) → ((a : ℕ) → IsUsedOf s.plan c a → v a ≡ 0) → IsLivedAt s c v → IsLivedAt s c none_yet
lived_again s c v none l = record {
  block = l.block;
  lives = λ m there. lives_more (IsUsedOf s.plan c) (block_at s.plan c) v none_yet (controller_at (world s) c) m
      (λ a used. let is : v a ≡ 0 = none a used in omega (arith, is)) (λ a used. inl (λ early. omega arith)) (l.lives m there);
}

event_leaves : (s : SiteState) (e : Event) (v : ℕ → ℕ → ℕ) → IsPlan s.plan → ((c : ℕ) → IsLivedAt s c (v c)) → Allowed (world s) e → IsOfCall s e
    → LeavesUsed s.plan.used e
event_leaves s (event.Acted c i o) v plan l here of = leaves_acted s.plan.used c i o (λ used. lived_leaves s c (v c) i o plan (l c) here of.1 used)
event_leaves s _ v plan l here of = λ c i a r is used. cc

peaceful : (s : SiteState) (c : ℕ) (e : Event) → IsPlan s.plan → IsRun s.plan s.queue (s.log ++ []) → Allowed (world s) e → IsOfCall s e → AsksInPeace s c e
    → IsLivedAt s c none_yet → IsLivedAt (site_logged s e) c none_yet
peaceful s c e plan run here of peace l =
    lived_again (site_logged s e) c (counts_after c none_yet e) (λ a used. peace_counts s c a e [] run peace used)
    (lived_on s c none_yet e plan here of (peace_begins s c e peace)
    (λ a used. let none : silences_after c a 0 e ≡ 0 = peace_counts s c a e [] run peace used in omega (arith, none)) l)

runs_in_peace : (s : SiteState) (es : List Event) → IsRun s.plan s.queue s.log → ((c : ℕ) → IsLivedAt s c none_yet) → AreOfCalls s es
    → ((c : ℕ) → AllAskInPeace s c es) → IsRun s.plan s.queue (s.log ++ es)
runs_in_peace s [] run l are peace = subst (IsRun s.plan s.queue) (sym (append-nil s.log)) run
runs_in_peace s (e ∷ es) run l are peace =
    let on : IsRun s.plan s.queue (site_logged s e).log = run_logged s e run are.0 (event_leaves s e (λ c. none_yet) run.plan l are.0 are.1) in
    let whole : IsRun s.plan s.queue (s.log ++ []) = subst (IsRun s.plan s.queue) (sym (append-nil s.log)) run in
    subst (IsRun s.plan s.queue) (append_assoc s.log (e ∷ []) es)
    (runs_in_peace (site_logged s e) es on (λ c. peaceful s c e run.plan whole are.0 are.1 (peace c).0 (l c)) are.2 (λ c. (peace c).1))

pub run_in_peace : (p : Plan) (queue room : ℕ) (es : List Event) → IsPlan p → AreOfCalls (opened_site p queue room) es
    → ((c : ℕ) → AllAskInPeace (opened_site p queue room) c es) → IsRun p queue es
run_in_peace p queue room es plan are peace =
    runs_in_peace (opened_site p queue room) es (record { plan = plan; allowed = tt; leaves = tt }) (opened_lived p queue room) are peace

runs_heard : (s : SiteState) (es : List Event) (v : ℕ → ℕ → ℕ) → IsRun s.plan s.queue s.log → ((c : ℕ) → IsLivedAt s c (v c)) → AreOfCalls s es
    → ((c : ℕ) → AllByRecursion (BeginsBySurveys c) es) → ((c a : ℕ) → IsUsedOf s.plan c a → IsHeardInTime c a (v c a) es) → IsRun s.plan s.queue (s.log ++ es)
runs_heard s [] v run l are begin hear = subst (IsRun s.plan s.queue) (sym (append-nil s.log)) run
runs_heard s (e ∷ es) v run l are begin hear =
    let on : IsRun s.plan s.queue (site_logged s e).log = run_logged s e run are.0 (event_leaves s e v run.plan l are.0 are.1) in
    subst (IsRun s.plan s.queue) (append_assoc s.log (e ∷ []) es) (runs_heard (site_logged s e) es (λ c. counts_after c (v c) e) on
    (λ c. lived_on s c (v c) e run.plan are.0 are.1 (begin c).0 (λ a used. let few = (hear c a used).0 in omega (arith, few)) (l c)) are.2
    (λ c. (begin c).1) (λ c a used. (hear c a used).1))

pub run_heard : (p : Plan) (queue room : ℕ) (es : List Event) → IsPlan p → AreOfCalls (opened_site p queue room) es → ((c : ℕ) → HearsUsed p c es)
    → IsRun p queue es
run_heard p queue room es plan are hear =
    runs_heard (opened_site p queue room) es (λ c. none_yet) (record { plan = plan; allowed = tt; leaves = tt }) (opened_lived p queue room) are
    (λ c. (hear c).0) (λ c a used. (hear c).1 a used)

pub promise_heard : (p : Plan) (queue room : ℕ) (es : List Event) → IsPlan p → AreOfCalls (opened_site p queue room) es → ((c : ℕ) → HearsUsed p c es)
    → KeepsPromise p queue es
promise_heard p queue room es plan are hear = keeps_promise p queue es (run_heard p queue room es plan are hear)

-- ---------------------------------------------------------------- who has just begun

machine_begun : (bs : List Block) (d c : ℕ) → c < length bs
    → get_or (machines_at d bs) c None ≡ Some (at_first (d + c) (get_or (map controller_begun bs) c nobody).records)
machine_begun [] d c there = absurd (omega (arith, there))
machine_begun (b ∷ bs) d zero there = ap (λ n. Some (at_first n (without_records b))) (let same : d ≡ d + 0 = omega arith in same)
machine_begun (b ∷ bs) d (suc c) there =
    machine_begun bs (d + 1) c (omega (arith, there)) ∙ ap (λ n. Some (at_first n (get_or (map controller_begun bs) c nobody).records))
    (let same : d + 1 + c ≡ d + suc c = omega arith in same)

told_begun : (bs : List Block) (c : ℕ) → c < length bs
    → ((get_or (map controller_begun bs) c nobody).told ≡ Some input.Start) × ((get_or (map controller_begun bs) c nobody).last ≡ None)
told_begun [] c there = absurd (omega (arith, there))
told_begun (b ∷ bs) zero there = (refl, refl)
told_begun (b ∷ bs) (suc c) there = told_begun bs c (omega (arith, there))

pub begins_at_start : (p : Plan) (queue room c : ℕ) → c < length p.blocks → HasJustBegun (opened_site p queue room) c
begins_at_start p queue room c there = record {
  told = (told_begun p.blocks c there).0;
  last = (told_begun p.blocks c there).1;
  machine =
      machine_begun p.blocks 0 c there ∙ ap (λ n. Some (at_first n (get_or (map controller_begun p.blocks) c nobody).records))
      (let same : 0 + c ≡ c = omega arith in same);
  block = start_block p.blocks c;
}

-- ONCE ITS QUESTIONS ARE OVER the gear that has an address is accounted for, whatever the controller hears if it asks again, until it
-- begins anew.

abbrev HaveBegun : List (Option Machine) → ℕ → Type 0
HaveBegun ms c = (m : Machine) → machine_in ms c ≡ Some m → m.last ≡ None → ⊥

acted_begun : (ms : List (Option Machine)) (c : ℕ) (i : Input) (o : Order) (w : World) → HaveBegun (machines_after w ms (event.Acted c i o)) c
acted_begun ms c i o w n there = go (machine_in ms c) refl where
  go : (x : Option Machine) → machine_in ms c ≡ x → n.last ≡ None → ⊥
  go None has =
      let gone : machine_in (machines_after w ms (event.Acted c i o)) c ≡ None =
      ap (λ y. machine_in (set ms c (option_map (λ m. machine_after m i o) y)) c) has ∙ none_set ms c in
      absurd (let never : None ≡ Some n = sym gone ∙ there in cc)
  go (Some m) has =
      let next : machine_in (machines_after w ms (event.Acted c i o)) c ≡ Some (machine_after m i o) =
      get_or-set_same ms c (option_map (λ x. machine_after x i o) (machine_in ms c)) None (some_within ms c m has)
      ∙ ap (option_map (λ x. machine_after x i o)) has in
      subst (λ (x : Machine). x.last ≡ None → ⊥) (some_same (machine_after m i o) n (sym next ∙ there)) (λ e. cc)

begun_moved : (w : World) (ms : List (Option Machine)) (c : ℕ) (e : Event) → StaysBegun c e → HaveBegun ms c → HaveBegun (machines_after w ms e) c
begun_moved w ms c (event.Acted d i o) stays begun =
    by_place _ d c (λ same. subst (λ n. HaveBegun (machines_after w ms (event.Acted d i o)) n) same (acted_begun ms d i o w))
    (λ other m there. begun m (sym (get_or-set_other ms d c (option_map (λ x. machine_after x i o) (machine_in ms d)) None other) ∙ there))
begun_moved w ms c (event.Down d) stays begun =
    by_place _ d c (λ same. subst (λ n. HaveBegun (machines_after w ms (event.Down d)) n) same
    (λ m there. absurd (let never : None ≡ Some m = sym (none_set ms d) ∙ there in cc)))
    (λ other m there. begun m (sym (get_or-set_other ms d c None None other) ∙ there))
begun_moved w ms c (event.Up d kept) stays begun =
    by_place _ d c (λ same. absurd (stays same)) (λ other m there. begun m
    (sym (get_or-set_other ms d c (Some (at_first d (come_up kept (controller_at w d)).records)) None other) ∙ there))
begun_moved w ms c _ stays begun = begun

-- the silences are counted on from three, so that none of them counts: each address is safe
abbrev AreMany : (ℕ → ℕ) → Type 0
AreMany v = (a : ℕ) → 3 ≤ v a

many_more : (c : ℕ) (v : ℕ → ℕ) (e : Event) → StaysBegun c e → AreMany v → AreMany (counts_after c v e)
many_more c v (event.Sent d f h) stays many a =
    let more : v a ≤ counts_after c v (event.Sent d f h) a = counts_more c v d f h a in
    let three : 3 ≤ v a = many a in
    omega (arith, more, three)
many_more c v (event.Up d kept) stays many a =
    let still : counts_after c v (event.Up d kept) a ≡ v a = counts_still c v d kept a (λ e. stays (sym e)) in
    let three : 3 ≤ v a = many a in
    omega (arith, still, three)
many_more c v _ stays many a = many a

begun_heeds : (s : SiteState) (c : ℕ) (v : ℕ → ℕ) (e : Event) → Allowed (world s) e → IsLivedAt s c v → HaveBegun (machines s) c → AreMany v → IsOfCall s e
    → Heeds s c v e
begun_heeds s c v (event.Acted d i o) here l begun many of = λ same start. go same start (machine_at s d) refl of where
  due : d ≡ c → i ≡ input.Start → IsActed (world s) d i o → (controller_at (world s) c).told ≡ Some input.Start
  due same start acts = subst (λ n. (controller_at (world s) n).told ≡ Some input.Start) same (subst (λ j. IsDue (controller_at (world s) d) j) start acts.due)

  go : d ≡ c → i ≡ input.Start → (x : Option Machine) → machine_at s d ≡ x → IsOfCall s (event.Acted d i o) → ⊥
  go same start None has of = elim (subst (λ x. Waits x i) has of.0) [ ]
  go same start (Some m) has of =
      let there : machine_at s c ≡ Some m = subst (λ n. machine_at s n ≡ Some m) same has in
      let k : Controller = controller_at (world s) c in
      let told : k.told ≡ Some input.Start = due same start here in
      let none : k.last ≡ None = subst (λ t. IsFair (IsUsedOf s.plan c) v m.course.opened m.asked k.last t) told (l.lives m there).told in
      begun m there ((l.lives m there).last ∙ none)
begun_heeds s c v (event.Sent d f h) here l begun many of = λ m there a used. go m a ((l.lives m there).few a used) where
  go : (m : Machine) (a : ℕ) → IsFewAt v m a → IsFewAt (counts_after c v (event.Sent d f h)) m a
  go m a (inl few) = inl (λ early. absurd (let less : v a < 3 = few early in let three : 3 ≤ v a = many a in omega (arith, less, three)))
  go m a (inr safe) = inr safe
begun_heeds s c v _ here l begun many of = tt

unrefused_on : (s : SiteState) (c : ℕ) (v : ℕ → ℕ) (es : List Event) (i : Input) → IsPlan s.plan → IsLivedAt s c v → HaveBegun (machines s) c → AreMany v
    → AreOfCalls s es → AllByRecursion (StaysBegun c) es → IsActRefused (site_after s es) c i refusal.AddressInUse → ⊥
unrefused_on s c v [] i plan l begun many are stay refused = unrefused_now s c v i plan l refused
unrefused_on s c v (e ∷ es) i plan l begun many are stay refused =
    unrefused_on (site_logged s e) c (counts_after c v e) es i plan (heeded_on s c v e plan are.0 are.1 (begun_heeds s c v e are.0 l begun many are.1) l)
    (subst (λ ms. HaveBegun ms c) (sym (machines_logged s e)) (begun_moved (world s) (machines s) c e stay.0 begun)) (many_more c v e stay.0 many) are.2
    stay.1 refused

-- if its questions are over
lived_many : (s : SiteState) (c : ℕ) (v : ℕ → ℕ) (n : Machine) → machine_at s c ≡ Some n → n.course.opened ≡ true → IsLivedAt s c v
    → IsLivedAt s c (λ a. v a + 3)
lived_many s c v n has opened l = record {
  block = l.block;
  lives = λ m there. lives_more (IsUsedOf s.plan c) (block_at s.plan c) v (λ a. v a + 3) (controller_at (world s) c) m (λ a used. omega arith)
      (λ a used. inl (λ early. absurd (let is : m.course.opened ≡ true = subst (λ (x : Machine). x.course.opened ≡ true)
      (some_same n m (sym has ∙ there)) opened in let never : true ≡ false = sym is ∙ early in cc))) (l.lives m there);
}

begun_opened : (s : SiteState) (c : ℕ) (v : ℕ → ℕ) (n : Machine) → machine_at s c ≡ Some n → n.course.opened ≡ true → IsLivedAt s c v → HaveBegun (machines s) c
begun_opened s c v n has opened l m there none =
    unstarted_unopened m none (l.lives m there).whole (subst (λ (x : Machine). x.course.opened ≡ true) (some_same n m (sym has ∙ there)) opened)

-- NOR IS ANY LATER ACT REFUSED SO
pub unrefused_later : (s : SiteState) (c : ℕ) (es more : List Event) (i : Input) → IsPlan s.plan → HasJustBegun s c → AreOfCalls s es → HearsUsed s.plan c es
    → HasAsked (site_after s es) c → AreOfCalls (site_after s es) more → AllByRecursion (StaysBegun c) more
    → IsActRefused (site_after (site_after s es) more) c i refusal.AddressInUse → ⊥
unrefused_later s c es more i plan begun are hear =
    lived_all s c none_yet es plan (just_lived s c begun) are hear.0 hear.1 (λ t. HasAsked t c → AreOfCalls t more → AllByRecursion (StaysBegun c) more
    → IsActRefused (site_after t more) c i refusal.AddressInUse
    → ⊥) (λ t u plan l asked on stay. unrefused_on t c (λ a. u a + 3) more i plan (lived_many t c u asked.0 asked.1 asked.2 l)
    (begun_opened t c u asked.0 asked.1 asked.2 l) (λ a. omega arith) on stay)
