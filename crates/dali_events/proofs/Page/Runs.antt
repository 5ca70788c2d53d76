use Rattle.std.proofs.Common.{◌≡◌, ℕ, ◌<◌, true, refl, sym, subst, List, [], ◌∷◌, ◌++◌, append_assoc, map, get_or, length, ap, ◌∙◌, Option, None, Some}
use Rattle.std.proofs.{Common.{if◌then◌else◌, slice_get}, lemmas.List.{length-map, get_or-map}}
use Rattle.dali_gear.specs.Gear.{fresh}
use Rattle.dali_arbiter.specs.Arbiter.{owns}
use Rattle.dali_script.specs.declared.records.Record.{Record}
use Rattle.dali_statement.proofs.{Tests.{both, first_of_both, equals, second_of_both, mapped_at, at_index, placed}, Own.OnList, Steps.Safe, Whole.starts}
use Rattle.dali_statement.{proofs.Whole.{safe_after, after_both}, specs.{Gear.gear_seen, Page.{Moment, Sent, Destroyed, Reserves, Enrols, Releases, Power}}}
use Rattle.dali_statement.specs.Page.{Expires, Plan, Gear, Site, start, all_allowed, are_apart, after, happens}
use Rattle.dali_events.specs.{Allowed.Allowed, Happens.happens as site_after, Laws.KeepsRecords, Page.{plan_seen, LeadsTo, IsKeeping, kept_by, IsMoment}}
use Rattle.dali_events.specs.{Page.{gear_all, AreSeenAs, frames_in, frames_by, frames_of}, Plan.{Plan as SitePlan, IsPlan as IsSitePlan, no_block}}
use Rattle.dali_events.specs.{Promise.HoldsShort, Runs.{LeavesUsed, after_all}, World.{World, gear_at, controller_at, controller_begun, nobody}}
use Rattle.dali_events.{specs.{World.start as site_start, declared.event.Event.Event}, proofs.Page.{Bridge.{SeenBy, Seen, Next}, Events.{lapsed, down, power}}}
use Rattle.dali_events.proofs.Page.{Events.{expires, up, acted, collided, quiet, foreign, offered}, Frames.{sent, destroyed}, Sites.plan_is_seen}
use Rattle.dali_script.specs.declared.records.Record.TheVariants as record_of
use Rattle.dali_events.specs.declared.event.Event.TheVariants as event

-- EACH EVENT IS MOMENTS OF THE PAGE, and a run is a history.

pub each_event : (p : SitePlan) → IsSitePlan p → (w : World) (s : Site) → Seen p w s → Safe (plan_seen p) s → KeepsRecords p w → (e : Event) → Allowed w e
    → LeavesUsed p.used e → are_apart (map gear_seen w.gear) ≡ true → Next p (site_after w e) s (IsMoment w e)
each_event p plan w s seen safe records (event.Acted c i o) here leaves numbers = acted p plan w s seen records numbers c here.up.known i o here.order leaves
each_event p plan w s seen safe records (event.Offered c f) here leaves numbers = offered p plan w s seen c f
each_event p plan w s seen safe records (event.Sent c f h) here leaves numbers = sent p w s seen safe c f here.up here.may numbers h here.heard
each_event p plan w s seen safe records (event.Destroyed c f group) here leaves numbers = destroyed p w s seen safe c f here.up here.may numbers group
each_event p plan w s seen safe records (event.Collided c f d g) here leaves numbers = collided p plan w s seen numbers c d f g here
each_event p plan w s seen safe records event.Lapsed here leaves numbers = lapsed p plan w s seen
each_event p plan w s seen safe records event.Quiet here leaves numbers = quiet p plan w s seen
each_event p plan w s seen safe records (event.Foreign f) here leaves numbers = foreign p plan w s seen f
each_event p plan w s seen safe records (event.Power g on) here leaves numbers = power p plan w s seen numbers g on
each_event p plan w s seen safe records (event.Expired g) here leaves numbers = expires p plan w s seen numbers g
each_event p plan w s seen safe records (event.Down c) here leaves numbers = down p plan w s seen c
each_event p plan w s seen safe records (event.Up c kept) here leaves numbers = up p plan w s seen records numbers c here.0.known kept

-- ---------------------------------------------------------------- the beginning

pub begins : (p : SitePlan) (capacity : ℕ) → Seen p (site_start p capacity) (start (plan_seen p))
begins p capacity = record {
  count = length-map p.blocks controller_begun;
  gear = refl;
  owner = λ c e. absurd (unowned e);
  each = λ i h. let there = subst (λ n. i < n) (length-map p.blocks controller_begun) h in
      subst (λ k. SeenBy p.used (start (plan_seen p)) None [] i k) (sym (get_or-map controller_begun p.blocks i no_block nobody there)) (new i);
} where
  unowned : {c : ℕ} → None ≡ Some c → ⊥
  unowned {c} e = absurd (cc)

  new : (i : ℕ) → SeenBy p.used (start (plan_seen p)) None [] i (controller_begun (get_or p.blocks i no_block))
  new i = record {
    told = [];
    sees = record { list = ([], refl); to = λ a r h. elim h [ ]; from = λ a r e. absurd (cc); asked = tt; told = λ x h. elim h [ ] };
    tables = λ a r h. elim h [ ];
    found = λ x e. absurd (cc);
    ordered = λ x e. absurd (cc);
  }

-- ---------------------------------------------------------------- the moments of a run

allowed_both : (p : Plan) (ms ns : List Moment) (s : Site) → all_allowed p s ms ≡ true → all_allowed p (after s ms) ns ≡ true
    → all_allowed p s (ms ++ ns) ≡ true
allowed_both p [] ns s first second = second
allowed_both p (m ∷ ms) ns s first second = both (first_of_both _ _ first) (allowed_both p ms ns (happens s m) (second_of_both _ _ first) second)

pub record Leads (p : SitePlan) (w : World) (ms : List Moment) : Type 0 where
  pub allow : all_allowed (plan_seen p) (start (plan_seen p)) ms ≡ true
  pub seen : Seen p w (after (start (plan_seen p)) ms)

pub leads_on : (p : SitePlan) (w v : World) (ms : List Moment) (Is : List Moment → Type 0) → Leads p w ms
    → (next : Next p v (after (start (plan_seen p)) ms) Is)
    → Leads p v (ms ++ next.moments)
leads_on p w v ms Is leads next = record {
  allow = allowed_both (plan_seen p) ms next.moments (start (plan_seen p)) leads.allow next.allow;
  seen = subst (λ t. Seen p v t) (sym (after_both ms next.moments (start (plan_seen p)))) next.seen;
}

pub leads_to : (p : SitePlan) (w : World) (ms : List Moment) → IsSitePlan p → Leads p w ms → LeadsTo p w ms
leads_to p w ms plan leads = record {
  history = (plan_is_seen p plan, leads.allow);
  gear = leads.seen.gear;
  said = λ c e. subst (OnList ((after (start (plan_seen p)) ms).said c))
      (ap (λ o. if owns o c then w.trace else []) e ∙ ap (λ t. if t then w.trace else []) (equals c c refl))
      (leads.seen.each c (leads.seen.owner c e)).sees.list;
  reserved = λ c a r there. let sees = (leads.seen.each c there).sees in (sees.to a r, sees.from a r);
  enrolled = λ c a r there h. (leads.seen.each c there).tables a r h;
}

pub safe_so : (p : SitePlan) (w : World) (ms : List Moment) → IsSitePlan p → Leads p w ms → Safe (plan_seen p) (after (start (plan_seen p)) ms)
safe_so p w ms plan leads = safe_after (plan_seen p) ms (start (plan_seen p)) (starts (plan_seen p) (plan_is_seen p plan)) leads.allow

-- ---------------------------------------------------------------- gear of the page are gear of the world

gear_moved : (ms : List Moment) (s : Site) → (after s ms).gear ≡ gear_all ms s.gear
gear_moved [] s = refl
gear_moved (Sent x senders reach ∷ ms) s = gear_moved ms (happens s (Sent x senders reach))
gear_moved (Destroyed frames reach ∷ ms) s = gear_moved ms (happens s (Destroyed frames reach))
gear_moved (Reserves c a r ∷ ms) s = gear_moved ms (happens s (Reserves c a r))
gear_moved (Enrols c a r ∷ ms) s = gear_moved ms (happens s (Enrols c a r))
gear_moved (Releases c a r b ∷ ms) s = gear_moved ms (happens s (Releases c a r b))
gear_moved (Power reach ∷ ms) s = gear_moved ms (happens s (Power reach))
gear_moved (Expires reach ∷ ms) s = gear_moved ms (happens s (Expires reach))

-- the moments leave the gear as the site has them
pub gear_then : (p : SitePlan) (w v : World) (s : Site) (Is : List Moment → Type 0) → Seen p w s → (next : Next p v s Is)
    → gear_all next.moments (map gear_seen w.gear) ≡ map gear_seen v.gear
gear_then p w v s Is seen next = ap (gear_all next.moments) (sym seen.gear) ∙ sym (gear_moved next.moments s) ∙ next.seen.gear

-- ---------------------------------------------------------------- the frames of a log are those of its history

keeps_no_frame : (c : ℕ) (o : Option Record) (now later : List Moment) → IsKeeping c o now → frames_in (now ++ later) ≡ frames_in later
keeps_no_frame c (Some (record_of.Release a r)) now later is = ap (λ n. frames_in (n ++ later)) is.1
keeps_no_frame c _ now later is = ap (λ n. frames_in (n ++ later)) is

frames_then : (w : World) (e : Event) (now later : List Moment) → IsMoment w e now → frames_in (now ++ later) ≡ frames_by e ++ frames_in later
frames_then w (event.Acted c i o) now later is = keeps_no_frame c (kept_by (controller_at w c) i) now later is
frames_then w (event.Sent c f h) now later is = ap (λ n. frames_in (n ++ later)) is.1
frames_then w (event.Destroyed c f set) now later is = ap (λ n. frames_in (n ++ later)) is.1
frames_then w (event.Power g on) now later is = ap (λ n. frames_in (n ++ later)) is.1
frames_then w (event.Expired g) now later is = ap (λ n. frames_in (n ++ later)) is.1
frames_then w (event.Up c true) now later is = keeps_no_frame c (controller_at w c).outstanding now later is
frames_then w _ now later is = ap (λ n. frames_in (n ++ later)) is

pub frames_read : (w : World) (log : List Event) (ms : List Moment) → AreSeenAs w log ms → frames_in ms ≡ frames_of log
frames_read w [] ms none = ap frames_in none
frames_read w (e ∷ es) ms (now, later, is, one, moved, rest) =
    ap frames_in is ∙ frames_then w e now later one ∙ ap (λ fs. frames_by e ++ fs) (frames_read (site_after w e) es later rest)

-- ---------------------------------------------------------------- a log and more of it

pub seen_both : (w : World) (es fs : List Event) (ms ns : List Moment) → AreSeenAs w es ms → AreSeenAs (after_all w es) fs ns
    → AreSeenAs w (es ++ fs) (ms ++ ns)
seen_both w [] fs ms ns none more = subst (λ xs. AreSeenAs w fs (xs ++ ns)) (sym none) more
seen_both w (e ∷ es) fs ms ns (now, later, is, one, moved, rest) more =
    (now, later ++ ns, ap (λ xs. xs ++ ns) is ∙ append_assoc now later ns, one, moved, seen_both (site_after w e) es fs later ns rest more)

pub to_page : (w : World) (gs : List Gear) → gs ≡ map gear_seen w.gear → (g : ℕ) → g < length w.gear → slice_get gs g ≡ Some (gear_seen (gear_at w g))
to_page w gs is g there = ap (λ xs. slice_get xs g) is ∙ placed gear_seen fresh w.gear g there

pub from_page : (w : World) (gs : List Gear) → gs ≡ map gear_seen w.gear → (g a r : ℕ) (x : Gear) → slice_get gs g ≡ Some x → x.short ≡ Some a → x.random ≡ r
    → HoldsShort w g a × ((gear_at w g).random ≡ r)
from_page w gs is g a r x at short random =
    let from = mapped_at gear_seen w.gear g x (sym (ap (λ xs. slice_get xs g) is) ∙ at) in
    let there = at_index w.gear g from.0 fresh from.1 in (
      (there.0, ap (λ y. y.short) there.1 ∙ sym (ap (λ y. y.short) from.2) ∙ short),
      ap (λ y. y.random) there.1 ∙ sym (ap (λ y. y.random) from.2) ∙ random,
    )
