use Rattle.std.proofs.Common.{◌≡◌, ℕ, ◌<◌, Bool, true, false, List, [], ◌∷◌, ◌++◌, refl, sym, ap, subst, ◌∙◌, append_assoc, append-nil, arith, length}
use Rattle.std.{proofs.{Common.{length-set, get_or, None, Some, inl, inr, map, if◌then◌else◌}, lemmas.List.length-map}, specs.List.AllByRecursion}
use Rattle.dali_frame.specs.declared.frames.{Answer.Answer, Forward.Forward}
use Rattle.dali_special.specs.Command.{command_of}
use Rattle.dali_gear.specs.{Gear.{Gear, fresh, gear_expired, gear_quieted}, Row.{row_after, drawn_of, stored_of, stored_short}}
use Rattle.dali_gear.specs.declared.{gear_set.GearSet.GearSet, row.Reach.TheVariants.{Everyone, Only}}
use Rattle.dali_script.specs.{Findings.{asked_of, search_of, found_by, assigned}, Records.{Assignment, Has}, declared.finding.Finding.Finding}
use Rattle.dali_script.proofs.Members.{each_changed, each_map}
use Rattle.dali_statement.{specs.{Gear.gear_seen, Page.{Gear as PageGear, Moment, Site, start as page_start, after as page_after, are_apart}}, proofs.Moved.At}
use Rattle.dali_statement.proofs.{Steps.{Safe, told_gear}, Whole.{keeps_after, reserved_after}}
use Rattle.dali_events.specs.{Allowed.{Allowed, IsUp, MaySend}, Happens.{happens, trace_running, gear_powered, gear_interrupted}, Page.{plan_seen, IsMoment}}
use Rattle.dali_events.specs.{Page.{AreSeenAs, LeadsTo, IsReadAs}, Plan.{Plan, IsPlan, numbers_of}, Promise.{HoldsShort, KeepsPromiseNow, KeepsAddresses}}
use Rattle.dali_events.specs.{Promise.{KeepsPromiseFrom, KeepsPromise, Names, IsSafe, KeepsGifts, IsSafeFrom, IsSafeHistory}, Runs.{after, after_all}}
use Rattle.dali_events.specs.{Runs.{AllAllowed, IsRun, LeavesUsed}, World.{World, gear_at, controller_at, start, gear_changed}, declared.event.Event.Event}
use Rattle.dali_events.{specs.declared.used.Used.Used, proofs.Invariant.{Arrived.gifts_start, Controllers.controllers_count, Drawn.{Draws, HasDrawn}}}
use Rattle.dali_events.proofs.Invariant.{Drawn.{draws_step, draws_start, are_drawn}, Gifts.{Gifts, IsOwned, Change, SameAddresses, no_change, frame_changes}}
use Rattle.dali_events.proofs.Invariant.{Gifts.{gifts_step, gift_stays, one_holder}, Growing.{after_both, allowed_front, allowed_rest, all_front}}
use Rattle.dali_events.proofs.Invariant.{Growing.leaves_rest, Keeping.{AllKeep, AreShort, keeping_step, keeps_start, records_of}, Sending.{IsKnown, known_step}}
use Rattle.dali_events.proofs.{Invariant.Sending.known_start, Page.{Bridge.{Next, found_told}, Frames.{stores_reserved, found_gear}, Runs.{Leads, each_event}}}
use Rattle.dali_events.proofs.Page.{Runs.{begins, leads_on, leads_to, safe_so, gear_then, seen_both, to_page, from_page}, Sites.apart_seen}
use Rattle.dali_events.specs.declared.event.Event.TheVariants as event

-- THE INVARIANT of every run: its moments are a history of the page, from which the rest follows
pub record Holds (p : Plan) (w : World) : Type 0 where
  pub draws : Draws (numbers_of p) w.gear w.drawn w.left
  pub keeps : AllKeep p w.controllers
  pub known : IsKnown w
  pub gifts : Gifts (IsOwned p.used w.controllers) w.gear w.drawn w.gifts
  pub moments : List Moment
  pub page : Leads p w moments

-- ---------------------------------------------------------------- one moment

-- who holds a short address, with a random address, is named by the pair
names_holder : (p : Plan) (w : World) → Holds p w → (g a r : ℕ) → HoldsShort w g a → (gear_at w g).random ≡ r → Names w (a, r)
names_holder p w k g a r held random =
    let gift : Has w.gifts (g, a) = (k.gifts.holds g a held.0).0 held.1 in
    (g, held.0, record { drawer = subst (λ n. Has w.drawn (g, n)) random (k.gifts.drawn g a gift); given = gift; random = random })

module _ (p : Plan) (plan : IsPlan p) (w : World) (k : Holds p w) where
  abbrev pub site_of : Site
  site_of = page_after (page_start (plan_seen p)) k.moments

  pub safe_page : Safe (plan_seen p) site_of
  safe_page = safe_so p w k.moments plan k.page

  seen_named : (a r : ℕ) → (g : ℕ) × (x : PageGear) × At site_of.gear g x × (x.short ≡ Some a) × (x.random ≡ r) → Names w (a, r)
  seen_named a r who = let held = from_page w site_of.gear k.page.seen.gear who.0 a r who.1 who.2 who.3 who.4 in names_holder p w k who.0 a r held.0 held.1

  -- what a table says, and a finding
  pub table_named : (c : ℕ) (x : Assignment) → c < length w.controllers → Has (controller_at w c).records.enrolled x → Names w x
  table_named c x there has = seen_named x.0 x.1 (safe_page.sound.tables c x.0 x.1 ((k.page.seen.each c there).tables x.0 x.1 has))

  pub finding_named : (c : ℕ) (x : Finding) → c < length w.controllers → (controller_at w c).finding ≡ Some x → Names w (assigned x)
  finding_named c x there is =
      seen_named (assigned x).0 (assigned x).1 (told_gear (plan_seen p) site_of safe_page (assigned x).0 (assigned x).1
      (found_told (k.page.seen.each c there) x is))

  -- a gear that holds an address that is reserved has the number
  pub reserved_number : (c a r g : ℕ) → c < length w.controllers → Has (controller_at w c).records.reserved (a, r) → HoldsShort w g a → (gear_at w g).random ≡ r
  reserved_number c a r g there has held =
      safe_page.sound.for_gear c a r g (gear_seen (gear_at w g)) ((k.page.seen.each c there).sees.to a r has)
      (to_page w site_of.gear k.page.seen.gear g held.0) held.1

  small : AreShort w
  small c there y is = go (told_gear (plan_seen p) site_of safe_page (assigned y).0 (assigned y).1 (found_told (k.page.seen.each c there) y is)) where
    go : (g : ℕ) × (x : PageGear) × At site_of.gear g x × (x.short ≡ Some (assigned y).0) × (x.random ≡ (assigned y).1) → (assigned y).0 < 64
    go who = safe_page.sound.short who.0 who.1 who.2 (assigned y).0 who.3

-- ---------------------------------------------------------------- one event

abbrev ChangeOf : List Used → World → World → Type 0
ChangeOf us w v = Change (IsOwned us w.controllers) w.gear w.drawn w.gifts v.gear v.drawn v.gifts

module _ (p : Plan) (plan : IsPlan p) (w : World) (e : Event) (here : Allowed w e) (leaves : LeavesUsed p.used e) (k : Holds p w) where
  numbers : are_apart (map gear_seen w.gear) ≡ true
  numbers = apart_seen w (are_drawn p w plan k.draws)

  -- the moments of the page that it is
  pub next : Next p (happens w e) (site_of p plan w k) (IsMoment w e)
  next = each_event p plan w (site_of p plan w k) k.page.seen (safe_page p plan w k) (records_of p w k.keeps) e here leaves numbers

  numbers_then : are_apart (page_after (site_of p plan w k) next.moments).gear ≡ true
  numbers_then = ap are_apart next.seen.gear ∙ apart_seen (happens w e) (are_drawn p (happens w e) plan (draws_step p w e k.draws))

  page : Leads p (happens w e) (k.moments ++ next.moments)
  page = leads_on p w (happens w e) k.moments (IsMoment w e) k.page next

  -- who holds a short address keeps it, with the random address
  pub stays_at : (g a : ℕ) → HoldsShort w g a → HoldsShort (happens w e) g a × ((gear_at (happens w e) g).random ≡ (gear_at w g).random)
  stays_at g a held =
      let to = keeps_after (plan_seen p) next.moments (site_of p plan w k) (safe_page p plan w k) next.allow g a (gear_at w g).random
      (gear_seen (gear_at w g), to_page w (site_of p plan w k).gear k.page.seen.gear g held.0, held.1, refl) in
      from_page (happens w e) (page_after (site_of p plan w k) next.moments).gear next.seen.gear g a (gear_at w g).random to.0 to.1 to.2 to.3

  pub one_after : (g h a : ℕ) → HoldsShort (happens w e) g a → HoldsShort (happens w e) h a → g ≡ h
  one_after g h a first second =
      (safe_so p (happens w e) (k.moments ++ next.moments) plan page).sound.once g h a (gear_seen (gear_at (happens w e) g))
      (gear_seen (gear_at (happens w e) h))
      (to_page (happens w e) (page_after (page_start (plan_seen p)) (k.moments ++ next.moments)).gear page.seen.gear g first.0)
      (to_page (happens w e) (page_after (page_start (plan_seen p)) (k.moments ++ next.moments)).gear page.seen.gear h second.0) first.1 second.1

  -- what is reserved for a gear that holds the address then stays reserved
  pub stays_step : (c g a : ℕ) → c < length w.controllers → HoldsShort (happens w e) g a
      → Has (controller_at w c).records.reserved (a, (gear_at (happens w e) g).random)
      → Has (controller_at (happens w e) c).records.reserved (a, (gear_at (happens w e) g).random)
  stays_step c g a there held has =
      (next.seen.each c (subst (λ n. c < n) (sym (controllers_count w e)) there)).sees.from a (gear_at (happens w e) g).random
      (reserved_after (plan_seen p) next.moments (site_of p plan w k) (safe_page p plan w k) next.allow numbers_then c a g (gear_seen (gear_at (happens w e) g))
      ((k.page.seen.each c there).sees.to a (gear_at (happens w e) g).random has)
      (to_page (happens w e) (page_after (site_of p plan w k) next.moments).gear next.seen.gear g held.0) held.1)

-- A FRAME: what it stores, for the number that a gear has drawn
module _ (R : Assignment → Type 0) (p : Plan) (plan : IsPlan p) (w : World) (k : Holds p w) (c : ℕ) (f : Forward) (up : IsUp w c) (may : MaySend w c f)
    (sender : (a r : ℕ) → Has (controller_at w c).records.reserved (a, r) → R (a, r)) where
  news : (g a : ℕ) → g < length w.gear → (gear_at w g).powered ≡ true → stored_short (command_of f) (gear_at w g) ≡ Some a
      → ((gear_at w g).short ≡ None) × R (a, (gear_at w g).random) × Has w.drawn (g, (gear_at w g).random)
  news g a there on stores =
      let new = stores_reserved p w (site_of p plan w k) k.page.seen (safe_page p plan w k) c f up may g a there on stores in
      (new.0, sender a (gear_at w g).random new.1, drawn (k.draws.each g there) new.2) where
        drawn : HasDrawn w.drawn g (gear_at w g) → (gear_at w g).random < 0xFFFFFF → Has w.drawn (g, (gear_at w g).random)
        drawn (inl mask) less = absurd (let at : (gear_at w g).random ≡ 0xFFFFFF = mask in omega arith)
        drawn (inr h) less = h

  pub sent_changes : (h : Answer) → Allowed w (event.Sent c f h)
      → Change R w.gear w.drawn w.gifts (row_after Everyone (command_of f) 0 w.gear w.left)
      (w.drawn ++ drawn_of Everyone (command_of f) 0 w.gear w.left) (w.gifts ++ stored_of Everyone (command_of f) 0 w.gear)
  sent_changes h here = frame_changes R (command_of f) Everyone w.gear w.left w.drawn w.gifts
      (λ g a there is. let kept = stays_at p plan w (event.Sent c f h) here (λ d i b r e. absurd (cc)) k g a (there, is) in (kept.0.1, kept.1)) news

  pub destroyed_changes : (set : GearSet) → Allowed w (event.Destroyed c f set)
      → Change R w.gear w.drawn w.gifts (row_after (Only set) (command_of f) 0 w.gear w.left)
      (w.drawn ++ drawn_of (Only set) (command_of f) 0 w.gear w.left) (w.gifts ++ stored_of (Only set) (command_of f) 0 w.gear)
  destroyed_changes set here = frame_changes R (command_of f) (Only set) w.gear w.left w.drawn w.gifts
      (λ g a there is. let kept = stays_at p plan w (event.Destroyed c f set) here (λ d i b r e. absurd (cc)) k g a (there, is) in (kept.0.1, kept.1)) news

-- what a frame finds is there when it is sent
pub found_names : (p : Plan) (plan : IsPlan p) (w : World) (k : Holds p w) (c : ℕ) (f : Forward) (h : Answer) → Allowed w (event.Sent c f h)
    → (x : Finding) → found_by (search_of (trace_running w c)) (asked_of (trace_running w c)) (command_of f) h ≡ Some x → Names w (assigned x)
found_names p plan w k c f h here x e =
    seen_named p plan w k (assigned x).0 (assigned x).1
    (found_gear p w (site_of p plan w k) k.page.seen (safe_page p plan w k) c f here.up here.may (apart_seen w (are_drawn p w plan k.draws)) h here.heard x e)

powered_same : (on : Bool) (g : Gear) → ((gear_powered on g).short ≡ g.short) × ((gear_powered on g).random ≡ g.random)
powered_same false g = (refl, refl)
powered_same true g = go (g.powered) where
  go : (b : Bool) → ((if b then g else record g { powered = true; state = fresh.state; search = fresh.search; half = None }).short ≡ g.short)
      × ((if b then g else record g { powered = true; state = fresh.state; search = fresh.search; half = None }).random ≡ g.random)
  go true = (refl, refl)
  go false = (refl, refl)

one_change : (us : List Used) (w : World) (change : Gear → Gear) (g : ℕ) → ((x : Gear) → ((change x).short ≡ x.short) × ((change x).random ≡ x.random))
    → Change (IsOwned us w.controllers) w.gear w.drawn w.gifts (gear_changed w.gear g change) w.drawn w.gifts
one_change us w change g same =
    no_change (IsOwned us w.controllers) w.gear (gear_changed w.gear g change) w.drawn w.gifts (length-set w.gear g (change (gear_at w g)))
    (each_changed fresh (SameAddresses w.gear) change w.gear g (λ there h. same (gear_at w g)) (λ i h. (refl, refl)))

same_gear : (us : List Used) (w : World) → Change (IsOwned us w.controllers) w.gear w.drawn w.gifts w.gear w.drawn w.gifts
same_gear us w = no_change (IsOwned us w.controllers) w.gear w.gear w.drawn w.gifts refl (λ i h. (refl, refl))

change_of : (p : Plan) → IsPlan p → (w : World) (e : Event) → Allowed w e → Holds p w → ChangeOf p.used w (happens w e)
change_of p plan w (event.Sent c f h) here k =
    sent_changes (IsOwned p.used w.controllers) p plan w k c f here.up here.may (λ a r has. inl (c, here.up.known, has)) h here
change_of p plan w (event.Destroyed c f set) here k =
    destroyed_changes (IsOwned p.used w.controllers) p plan w k c f here.up here.may (λ a r has. inl (c, here.up.known, has)) set here
change_of p plan w event.Quiet here k =
    no_change (IsOwned p.used w.controllers) w.gear _ w.drawn w.gifts (length-map w.gear gear_quieted)
    (each_map fresh (SameAddresses w.gear) gear_quieted w.gear (λ i x h. h) (λ i h. (refl, refl)))
change_of p plan w (event.Foreign f) here k =
    no_change (IsOwned p.used w.controllers) w.gear _ w.drawn w.gifts (length-map w.gear gear_interrupted)
    (each_map fresh (SameAddresses w.gear) gear_interrupted w.gear (λ i x h. h) (λ i h. (refl, refl)))
change_of p plan w (event.Power g on) here k = one_change p.used w (gear_powered on) g (powered_same on)
change_of p plan w (event.Expired g) here k = one_change p.used w gear_expired g (λ x. (refl, refl))
change_of p plan w _ here k = same_gear p.used w

gifts_more : (R S : Assignment → Type 0) (gs : List Gear) (ds gf : List (ℕ × ℕ))
    → ((g a : ℕ) → Has gf (g, a) → R (a, (get_or gs g fresh).random) → S (a, (get_or gs g fresh).random))
    → Gifts R gs ds gf → Gifts S gs ds gf
gifts_more R S gs ds gf more k = record {
  there = k.there;
  holds = k.holds;
  drawn = k.drawn;
  reserved = λ g a h. more g a h (k.reserved g a h);
  gear_once = k.gear_once;
  address_once = k.address_once;
}

module _ (p : Plan) (plan : IsPlan p) (w : World) (e : Event) (here : Allowed w e) (leaves : LeavesUsed p.used e)
    (k : Holds p w) where
  ch : ChangeOf p.used w (happens w e)
  ch = change_of p plan w e here k

  gifts : Gifts (IsOwned p.used w.controllers) (happens w e).gear (happens w e).drawn (happens w e).gifts
  gifts = gifts_step (IsOwned p.used w.controllers) w.gear (happens w e).gear w.drawn w.gifts (happens w e).drawn (happens w e).gifts
      (λ g h a there other first second. one_after p plan w e here leaves k g h a (there, first) (other, second)) k.gifts ch

  pub keeps_step : KeepsGifts w (happens w e)
  keeps_step g a h = (
    gift_stays (IsOwned p.used w.controllers) w.gear (happens w e).gear w.drawn w.gifts (happens w e).drawn (happens w e).gifts
        (λ g h a there other first second. one_after p plan w e here leaves k g h a (there, first) (other, second)) k.gifts ch g a h,
    (stays_at p plan w e here leaves k g a (k.gifts.there g a h, (k.gifts.holds g a (k.gifts.there g a h)).1 h)).1,
  )

  owned_step : (g a : ℕ) → Has (happens w e).gifts (g, a) → IsOwned p.used w.controllers (a, (gear_at (happens w e) g).random)
      → IsOwned p.used (happens w e).controllers (a, (gear_at (happens w e) g).random)
  owned_step g a h (inl r) =
      let there : r.0 < length (happens w e).controllers = subst (λ n. r.0 < n) (sym (controllers_count w e)) r.1 in
      let in_row = gifts.there g a h in
      inl (r.0, there, stays_step p plan w e here leaves k r.0 g a r.1 (in_row, (gifts.holds g a in_row).1 h) r.2)
  owned_step g a h (inr r) = inr r

  pub holds_step : Holds p (happens w e)
  holds_step = record {
    draws = draws_step p w e k.draws;
    keeps = keeping_step p plan w e here (small p plan w k) k.keeps;
    known = known_step w e here k.known;
    gifts = gifts_more (IsOwned p.used w.controllers) (IsOwned p.used (happens w e).controllers) (happens w e).gear (happens w e).drawn
        (happens w e).gifts owned_step gifts;
    moments = k.moments ++ (next p plan w e here leaves k).moments;
    page = page p plan w e here leaves k;
  }

-- EVERY RUN
pub holds_all : (p : Plan) → IsPlan p → (w : World) (es : List Event) → AllAllowed w es
    → AllByRecursion (LeavesUsed p.used) es → Holds p w → Holds p (after_all w es)
holds_all p plan w [] all leave k = k
holds_all p plan w (e ∷ es) all leave k = holds_all p plan (happens w e) es all.1 leave.1 (holds_step p plan w e all.0 leave.0 k)

keeps_all : (p : Plan) → IsPlan p → (w : World) (es : List Event) → AllAllowed w es
    → AllByRecursion (LeavesUsed p.used) es → Holds p w → KeepsGifts w (after_all w es)
keeps_all p plan w [] all leave k = λ g a h. (h, refl)
keeps_all p plan w (e ∷ es) all leave k =
    both (keeps_step p plan w e all.0 leave.0 k)
    (keeps_all p plan (happens w e) es all.1 leave.1 (holds_step p plan w e all.0 leave.0 k)) where
      both : KeepsGifts w (happens w e) → KeepsGifts (happens w e) (after_all (happens w e) es) → KeepsGifts w (after_all (happens w e) es)
      both first rest g a h = let one = first g a h in let two = rest g a one.0 in (two.0, two.1 ∙ one.1)

-- later moments go on with the earlier ones, and are those of the later events
pub moments_all : (p : Plan) (plan : IsPlan p) (w : World) (es : List Event) (all : AllAllowed w es) (leave : AllByRecursion (LeavesUsed p.used) es)
    (k : Holds p w) → (more : List Moment) × ((holds_all p plan w es all leave k).moments ≡ k.moments ++ more) × AreSeenAs w es more
unfolding holds_all holds_step
moments_all p plan w [] all leave k = ([], sym (append-nil k.moments), refl)
moments_all p plan w (e ∷ es) all leave k =
    let first = next p plan w e all.0 leave.0 k in
    let later = moments_all p plan (happens w e) es all.1 leave.1 (holds_step p plan w e all.0 leave.0 k) in (
      first.moments ++ later.0,
      later.1 ∙ append_assoc k.moments first.moments later.0,
      (first.moments, later.0, refl, first.is, gear_then p w (happens w e) (site_of p plan w k) (IsMoment w e) k.page.seen first, later.2),
    )

-- A WORLD OF A RUN IS SAFE
pub safe : (p : Plan) → IsPlan p → (w : World) → Holds p w → IsSafe w
safe p plan w k = record {
  gear_once = k.gifts.gear_once;
  address_once = k.gifts.address_once;
  holds = k.gifts.holds;
  tables = λ c entry h. table_named p plan w k c entry h.0 h.1;
}

module _ (p : Plan) (plan : IsPlan p) (w : World) (first : Holds p w) where
  front_holds : (es more log : List Event) → es ++ more ≡ log → AllAllowed w log → AllByRecursion (LeavesUsed p.used) log → Holds p (after_all w es)
  front_holds es more log e all leave =
      holds_all p plan w es (allowed_front w es more (subst (AllAllowed w) (sym e) all))
      (all_front (LeavesUsed p.used) es more (subst (AllByRecursion (LeavesUsed p.used)) (sym e) leave)) first

  since : (earlier later rest : List Event) → AllAllowed w (earlier ++ (later ++ rest)) → AllByRecursion (LeavesUsed p.used) (earlier ++ (later ++ rest))
      → KeepsGifts (after_all w earlier) (after_all w (earlier ++ later))
  since earlier later rest all leave =
      let allowed : AllAllowed (after_all w earlier) later =
      allowed_front (after_all w earlier) later rest (allowed_rest w earlier (later ++ rest) all) in
      let leaves : AllByRecursion (LeavesUsed p.used) later = all_front (LeavesUsed p.used) later rest (leaves_rest p.used earlier (later ++ rest) leave) in
      subst (λ v. KeepsGifts (after_all w earlier) v) (sym (after_both w earlier later))
      (keeps_all p plan (after_all w earlier) later allowed leaves
      (front_holds earlier (later ++ rest) (earlier ++ (later ++ rest)) refl all leave))

  pub safe_from : (log : List Event) → AllAllowed w log → AllByRecursion (LeavesUsed p.used) log → IsSafeFrom w log
  safe_from log all leave = record {
    always = λ earlier more e. safe p plan (after_all w earlier) (front_holds earlier more log e all leave);
    ever_after = λ earlier later rest e. since earlier later rest (subst (AllAllowed w) (sym e) all) (subst (AllByRecursion (LeavesUsed p.used)) (sym e) leave);
  }

-- THE PROMISE, BY GEAR AND TABLES ALONE
promise_now : (p : Plan) → IsPlan p → (w : World) → Holds p w → KeepsPromiseNow w
promise_now p plan w k = record {
  one_gear = λ g h a one two. one_holder (IsOwned p.used w.controllers) w.gear w.drawn w.gifts k.gifts g h a one.0 two.0 one.1 two.1;
  tables = λ c entry h. let n = table_named p plan w k c entry h.0 h.1 in (n.0, (n.1, (k.gifts.holds n.0 entry.0 n.1).1 n.2.given), n.2.random);
}

keeps_addresses : (p : Plan) (w v : World) → Holds p w → Holds p v → KeepsGifts w v → KeepsAddresses w v
keeps_addresses p w v k m keeps g a h =
    let kept = keeps g a ((k.gifts.holds g a h.0).0 h.1) in
    let there : g < length v.gear = m.gifts.there g a kept.0 in
    ((there, (m.gifts.holds g a there).1 kept.0), kept.1)

pub promise_from : (p : Plan) → IsPlan p → (w : World) → Holds p w → (log : List Event)
    → AllAllowed w log → AllByRecursion (LeavesUsed p.used) log → KeepsPromiseFrom w log
promise_from p plan w first log all leave = record {
  always = λ earlier more e. promise_now p plan (after_all w earlier) (front earlier more e);
  ever_after = λ earlier later rest e. keeps_addresses p (after_all w earlier) (after_all w (earlier ++ later)) (front earlier (later ++ rest) e)
      (front (earlier ++ later) rest (append_assoc earlier later rest ∙ e)) ((safe_from p plan w first log all leave).ever_after earlier later rest e);
} where
  front : (es more : List Event) → es ++ more ≡ log → Holds p (after_all w es)
  front es more e = front_holds p plan w first es more log e all leave

-- ---------------------------------------------------------------- from the start

pub holds_start : (p : Plan) → IsPlan p → (capacity : ℕ) → Holds p (start p capacity)
holds_start p plan capacity = record {
  draws = draws_start p capacity;
  keeps = keeps_start p capacity;
  known = known_start p capacity plan.used;
  gifts = gifts_start p capacity plan.used;
  moments = [];
  page = record { allow = refl; seen = begins p capacity };
}

pub holds_after : (p : Plan) (capacity : ℕ) (log : List Event) → IsRun p capacity log → Holds p (after p capacity log)
holds_after p capacity log run = holds_all p run.plan (start p capacity) log run.allowed run.leaves (holds_start p run.plan capacity)

pub run_front : (p : Plan) (capacity : ℕ) (front rest : List Event) → IsRun p capacity (front ++ rest) → IsRun p capacity front
run_front p capacity front rest run = record {
  plan = run.plan;
  allowed = allowed_front (start p capacity) front rest run.allowed;
  leaves = all_front (LeavesUsed p.used) front rest run.leaves;
}

pub safe_history : (p : Plan) (capacity : ℕ) (log : List Event) → IsRun p capacity log → IsSafeHistory p capacity log
safe_history p capacity log run = safe_from p run.plan (start p capacity) (holds_start p run.plan capacity) log run.allowed run.leaves

pub keeps_promise : (p : Plan) (capacity : ℕ) (log : List Event) → IsRun p capacity log → KeepsPromise p capacity log
keeps_promise p capacity log run = promise_from p run.plan (start p capacity) (holds_start p run.plan capacity) log run.allowed run.leaves

-- A RUN IS A HISTORY OF THE PAGE, and its moments go on with those before
pub every_run_is_a_history : (p : Plan) (capacity : ℕ) (front rest : List Event) → IsRun p capacity (front ++ rest)
    → (ms : List Moment) × (more : List Moment) × IsReadAs p capacity front ms × IsReadAs p capacity (front ++ rest) (ms ++ more)
unfolding holds_start
every_run_is_a_history p capacity front rest run =
    let begun = holds_start p run.plan capacity in
    let all = allowed_front (start p capacity) front rest run.allowed in
    let leave = all_front (LeavesUsed p.used) front rest run.leaves in
    let k = holds_all p run.plan (start p capacity) front all leave begun in
    let first = moments_all p run.plan (start p capacity) front all leave begun in
    let allowed = allowed_rest (start p capacity) front rest run.allowed in
    let leaves = leaves_rest p.used front rest run.leaves in
    let later = holds_all p run.plan (after p capacity front) rest allowed leaves k in
    let more = moments_all p run.plan (after p capacity front) rest allowed leaves k in
    let seen : AreSeenAs (start p capacity) front k.moments = subst (AreSeenAs (start p capacity) front) (sym first.1) first.2 in (
      k.moments,
      more.0,
      record { moments = seen; leads = leads_to p (after p capacity front) k.moments run.plan k.page },
      record {
        moments = seen_both (start p capacity) front rest k.moments more.0 seen more.2;
        leads = subst (λ w. LeadsTo p w (k.moments ++ more.0)) (sym (after_both (start p capacity) front rest))
            (leads_to p (after_all (after p capacity front) rest) (k.moments ++ more.0) run.plan
            (subst (Leads p (after_all (after p capacity front) rest)) more.1 later.page));
      },
    )
