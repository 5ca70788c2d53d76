use Rattle.std.proofs.Common.{◌≡◌, ◌⊎◌, inl, inr, ℕ, zero, suc, ◌<◌, Bool, true, false, refl, sym, ap, subst, ◌∙◌, List, [], ◌∷◌, map, Option, Some, None}
use Rattle.std.proofs.Common.{length, get_or, set, length-set, if◌then◌else◌}
use Rattle.dali_frame.specs.declared.frames.Forward.{Forward}
use Rattle.dali_special.specs.Command.{command_of}
use Rattle.dali_gear.specs.Gear.{Gear as Real, fresh, with_power, without_power, gear_expired, gear_quieted}
use Rattle.dali_arbiter.specs.Arbiter.{Arbiter, owns, bus_freed, bus_muted, bus_lapsed}
use Rattle.dali_script.specs.{Findings.assigned, Records.{Assignment, Has, Kept}, declared.{finding.Finding.Finding, orders.{Input.Input, Order.Order}}}
use Rattle.dali_script.specs.{declared.{orders.Order.TheVariants.{Put, Commit}, records.Record.Record}, Scripts.IsFirst}
use Rattle.dali_script.proofs.{Firsts.first_for_all, Members.{Each, each_changed}}
use Rattle.dali_statement.{proofs.{Tests.{both, some_is}, Gear.{power_on, expired}, Own.may_put}, specs.{Gear.{command_seen, gear_seen}, Page.{Gear, Command}}}
use Rattle.dali_statement.specs.Page.{Moment, Destroyed, Power, Expires, Site, allowed, may_send, befalls, are_apart, after, happens}
use Rattle.dali_events.specs.{Allowed.{MayOrder, MayCommit, IsCollided}, Happens.{happens as site_after, with_outstanding, kept_after, outstanding_told}}
use Rattle.dali_events.specs.Happens.{outstanding_after, controller_acted, gives_up, put_after, owner_told, told_lapsed, told_destroyed, gone_down, come_up}
use Rattle.dali_events.specs.{Happens.{gear_interrupted, controller_informed}, Laws.KeepsRecords, Page.{plan_seen, IsKeeping, IsMoment, kept_by}}
use Rattle.dali_events.specs.{Plan.{Plan as SitePlan, IsPlan as IsSitePlan}, Runs.LeavesUsed, World.{World, Controller, controller_at, controllers_changed}}
use Rattle.dali_events.{specs.{World.nobody, declared.used.Used.Used}, proofs.Page.Bridge.{Ordered, own_of, SeenBy, ends, loses, stays, restarts, unordered}}
use Rattle.dali_events.proofs.Page.Bridge.{Seen, Next, Informed, each_of, uninformed, informed}
use Rattle.dali_script.specs.declared.orders.Input.TheVariants as input
use Rattle.dali_script.specs.declared.records.Record.TheVariants as record_of
use Rattle.dali_events.specs.declared.event.Event.TheVariants as event

-- EACH EVENT but frames, as moments of the page.

-- ---------------------------------------------------------------- gear

same_gear : (f : Real → Real) → ((g : Real) → gear_seen (f g) ≡ gear_seen g) → (gs : List Real) → map gear_seen (map f gs) ≡ map gear_seen gs
same_gear f same [] = refl
same_gear f same (g ∷ gs) = ap (λ x. x ∷ map gear_seen (map f gs)) (same g) ∙ ap (λ xs. gear_seen g ∷ xs) (same_gear f same gs)

-- a list that says that something befalls one gear
at_place : ℕ → List (Option ℕ)
at_place zero = Some 0 ∷ []
at_place (suc n) = None ∷ at_place n

one_gear : (f : Real → Real) (change : ℕ → Gear → Gear) → ((g : Real) → gear_seen (f g) ≡ change 0 (gear_seen g)) → (gs : List Real) (n : ℕ)
    → befalls change (at_place n) (map gear_seen gs) ≡ map gear_seen (set gs n (f (get_or gs n fresh)))
unfolding at_place
one_gear f change same [] zero = refl
one_gear f change same [] (suc n) = refl
one_gear f change same (g ∷ gs) zero = ap (λ x. x ∷ map gear_seen gs) (sym (same g))
one_gear f change same (g ∷ gs) (suc n) = ap (λ xs. gear_seen g ∷ xs) (one_gear f change same gs n)

no_gear : (f : Real → Real) → ((g : Real) → gear_seen (f g) ≡ gear_seen g) → (gs : List Real) (n : ℕ)
    → map gear_seen gs ≡ map gear_seen (set gs n (f (get_or gs n fresh)))
no_gear f same [] n = refl
no_gear f same (g ∷ gs) zero = ap (λ x. x ∷ map gear_seen gs) (sym (same g))
no_gear f same (g ∷ gs) (suc n) = ap (λ xs. gear_seen g ∷ xs) (no_gear f same gs n)

-- ---------------------------------------------------------------- nothing of the page

-- the bus is as it was, or the transaction ends
abbrev SameBus : World → World → Type 0
SameBus w v = ((v.bus.owner ≡ w.bus.owner) × (v.trace ≡ w.trace)) ⊎ (v.bus.owner ≡ None)

same_bus : (w v : World) → SameBus w v → (us : List Used) (s : Site) (c : ℕ) (k : Controller) → SeenBy us s w.bus.owner w.trace c k
    → SeenBy us s v.bus.owner v.trace c k
same_bus w v (inl same) us s c k one = subst (λ t. SeenBy us s v.bus.owner t c k) (sym same.1) (subst (λ o. SeenBy us s o w.trace c k) (sym same.0) one)
same_bus w v (inr over) us s c k one = subst (λ o. SeenBy us s o v.trace c k) (sym over) (ends one)

owner_then : (p : SitePlan) (w v : World) (s : Site) → Seen p w s → length v.controllers ≡ length w.controllers → SameBus w v
    → (c : ℕ) → v.bus.owner ≡ Some c → c < length v.controllers
owner_then p w v s seen count (inl same) c e = subst (λ n. c < n) (sym count) (seen.owner c (sym same.0 ∙ e))
owner_then p w v s seen count (inr over) c e = absurd (let no : None ≡ Some c = sym over ∙ e in cc)

-- the world is another, of which the page sees the same
unseen : (p : SitePlan) (w v : World) (s : Site) → Seen p w s → length v.controllers ≡ length w.controllers → map gear_seen v.gear ≡ map gear_seen w.gear
    → SameBus w v → Each nobody (SeenBy p.used s w.bus.owner w.trace) v.controllers → Next p v s (λ ms. ms ≡ [])
unseen p w v s seen count gear bus each = record {
  moments = [];
  is = refl;
  allow = refl;
  seen = record {
    count = count ∙ seen.count;
    gear = seen.gear ∙ sym gear;
    owner = owner_then p w v s seen count bus;
    each = λ i h. same_bus w v bus p.used s i (controller_at v i) (each i h);
  };
}

-- gear are live no more
stopped : (p : SitePlan) (w v : World) (s : Site) (m : Moment) → Seen p w s → are_apart (map gear_seen w.gear) ≡ true → allowed (plan_seen p) s m ≡ true
    → v.controllers ≡ w.controllers → SameBus w v → (change : ℕ → Gear → Gear) (reach : List (Option ℕ))
    → after s (m ∷ []) ≡ record s { gear = befalls change reach s.gear } → befalls change reach (map gear_seen w.gear) ≡ map gear_seen v.gear
    → (Is : List Moment → Type 0) → Is (m ∷ []) → Next p v s Is
stopped p w v s m seen numbers allow controllers bus change reach after_is gear Is is = record {
  moments = m ∷ [];
  is = is;
  allow = both (both (ap are_apart seen.gear ∙ numbers) allow) refl;
  seen = subst (λ t. Seen p v t) (sym after_is) (record {
    count = ap length controllers ∙ seen.count;
    gear = ap (befalls change reach) seen.gear ∙ gear;
    owner = owner_then p w v s seen (ap length controllers) bus;
    each = subst (λ ks. Each nobody (SeenBy p.used (record s { gear = befalls change reach s.gear }) v.bus.owner v.trace) ks) (sym controllers)
        (λ i h. stays (same_bus w v bus p.used s i (controller_at w i) (seen.each i h)) (befalls change reach s.gear));
  });
}

-- ---------------------------------------------------------------- controllers

module _ (p : SitePlan) (plan : IsSitePlan p) (w : World) (s : Site) (seen : Seen p w s) where
  pub lapsed : Next p (site_after w event.Lapsed) s (λ ms. ms ≡ [])
  lapsed = unseen p w (site_after w event.Lapsed) s seen (counted w.bus.owner) refl (inr refl) (told w.bus.owner) where
    told : (o : Option ℕ) → Each nobody (SeenBy p.used s w.bus.owner w.trace) (owner_told w.controllers o)
    told None = seen.each
    told (Some c) = each_changed nobody (SeenBy p.used s w.bus.owner w.trace) told_lapsed w.controllers c (λ h x. x) seen.each

    counted : (o : Option ℕ) → length (owner_told w.controllers o) ≡ length w.controllers
    counted None = refl
    counted (Some c) = length-set w.controllers c (told_lapsed (controller_at w c))

  pub down : (c : ℕ) → Next p (site_after w (event.Down c)) s (λ ms. ms ≡ [])
  down c = go (owns w.bus.owner c) where
    ks : Each nobody (SeenBy p.used s w.bus.owner w.trace) (controllers_changed w.controllers c gone_down)
    ks = each_changed nobody (SeenBy p.used s w.bus.owner w.trace) gone_down w.controllers c (λ h x. restarts x) seen.each

    go : (t : Bool) → Next p (record w {
      bus = (if t then bus_freed (bus_muted w.bus c) else bus_muted w.bus c);
      trace = (if t then [] else w.trace);
      controllers = controllers_changed w.controllers c gone_down;
    }) s (λ ms. ms ≡ [])
    go true = unseen p w (record w { bus = bus_freed (bus_muted w.bus c); trace = []; controllers = controllers_changed w.controllers c gone_down }) s seen
        (length-set w.controllers c (gone_down (controller_at w c))) refl (inr refl) ks
    go false = unseen p w (record w { bus = bus_muted w.bus c; controllers = controllers_changed w.controllers c gone_down }) s seen
        (length-set w.controllers c (gone_down (controller_at w c))) refl (inl (refl, refl)) ks

  pub power : are_apart (map gear_seen w.gear) ≡ true → (g : ℕ) (on : Bool) → Next p (site_after w (event.Power g on)) s (IsMoment w (event.Power g on))
  power numbers g true =
      stopped p w (site_after w (event.Power g true)) s (Power []) seen numbers refl refl (inl (refl, refl))
      (λ n x. record x { live = false; search = λ q. 0xFF }) [] refl (no_gear with_power power_on w.gear g) (IsMoment w (event.Power g true)) ([], refl)
  power numbers g false =
      stopped p w (site_after w (event.Power g false)) s (Power (at_place g)) seen numbers refl refl (inl (refl, refl))
      (λ n x. record x { live = false; search = λ q. 0xFF }) (at_place g) refl
      (one_gear without_power (λ n x. record x { live = false; search = λ q. 0xFF }) (λ x. refl) w.gear g)
      (IsMoment w (event.Power g false)) (at_place g, refl)

  pub expires : are_apart (map gear_seen w.gear) ≡ true → (g : ℕ) → Next p (site_after w (event.Expired g)) s (IsMoment w (event.Expired g))
  expires numbers g =
      stopped p w (site_after w (event.Expired g)) s (Expires (at_place g)) seen numbers refl refl (inl (refl, refl)) (λ n x. record x { live = false })
      (at_place g) refl (one_gear gear_expired (λ n x. record x { live = false }) expired w.gear g) (IsMoment w (event.Expired g)) (at_place g, refl)

  -- ---------------------------------------------------------------- what is kept

  module _ (records : KeepsRecords p w) (numbers : are_apart (map gear_seen w.gear) ≡ true) (c : ℕ) (there : c < length w.controllers) where
    outstanding_kept : (o : Option Record) → (controller_at w c).outstanding ≡ o → Informed p w s c o (with_outstanding (controller_at w c).records o) None
    outstanding_kept (Some x) is = informed p plan w s c seen records there numbers x is
    outstanding_kept None is = let none = uninformed p w s c seen there in record {
      moments = none.moments;
      is = none.is;
      allow = none.allow;
      gear = none.gear;
      own = unordered none.own;
      others = none.others;
    }

    -- a controller whose records are what the page has, in a world that differs by it alone
    goes_on : (v : World) (k : Controller) (x : Option Record) (kept : Kept) (o : Option Record) (one : Informed p w s c x kept o)
        → v.controllers ≡ set w.controllers c k
        → map gear_seen v.gear ≡ map gear_seen w.gear → SameBus w v → SeenBy p.used (after s one.moments) w.bus.owner w.trace c k
        → Next p v s (IsKeeping c x)
    goes_on v k x kept o one controllers gear bus new = record {
      moments = one.moments;
      is = one.is;
      allow = one.allow;
      seen = record {
        count = ap length controllers ∙ length-set w.controllers c k ∙ seen.count;
        gear = one.gear ∙ sym gear;
        owner = owner_then p w v s seen (ap length controllers ∙ length-set w.controllers c k) bus;
        each = subst (λ ks. Each nobody (SeenBy p.used (after s one.moments) v.bus.owner v.trace) ks) (sym controllers)
            (each_of (SeenBy p.used (after s one.moments) v.bus.owner v.trace) w.controllers c k
            (λ d h other. same_bus w v bus p.used (after s one.moments) d (controller_at w d) (one.others d h other))
            (λ h. same_bus w v bus p.used (after s one.moments) c k new));
      };
    }

    pub up : (kept : Bool) → Next p (site_after w (event.Up c kept)) s (IsMoment w (event.Up c kept))
    up true =
        let one = outstanding_kept (controller_at w c).outstanding refl in
        goes_on (site_after w (event.Up c true)) (come_up true (controller_at w c)) (controller_at w c).outstanding
        (with_outstanding (controller_at w c).records (controller_at w c).outstanding) None one refl refl (inl (refl, refl)) (restarts one.own)
    up false =
        let one = uninformed p w s c seen there in
        goes_on (site_after w (event.Up c false)) (come_up false (controller_at w c)) None (controller_at w c).records (controller_at w c).outstanding
        one refl refl (inl (refl, refl)) (restarts (unordered one.own))

    -- ---------------------------------------------------------------- an order

    put_owner : (b : Arbiter) (o : Order) → (put_after b c o).owner ≡ b.owner
    put_owner b (Put n f) = refl
    put_owner b _ = refl

    input_kept : (i : Input)
        → Informed p w s c (kept_by (controller_at w c) i) (kept_after (controller_at w c) i) (outstanding_told (controller_at w c).outstanding i)
    input_kept input.Committed = outstanding_kept (controller_at w c).outstanding refl
    input_kept _ = uninformed p w s c seen there

    -- what is ordered to be kept
    committed : (told : List Assignment) (i : Input) (x : Record) → ((y : Finding) → (controller_at w c).finding ≡ Some y → Has told (assigned y))
        → MayCommit (controller_informed (controller_at w c) i) x → LeavesUsed p.used (event.Acted c i (Commit x)) → Ordered p.used told x
    committed told i (record_of.Reserve a r) found may leaves = leaves c i a r refl
    committed told i (record_of.Enrol a r) found may leaves = subst (Has told) may.0.2 (found may.0.0 may.0.1)
    committed told i (record_of.Release a r) found may leaves = let other = may.1 in (other.2, subst (Has told) other.3 (found other.0 other.1), other.4)

    ordered : (told : List Assignment) (i : Input) (o : Order) (was : Option Record) → ((y : Finding) → (controller_at w c).finding ≡ Some y
        → Has told (assigned y)) → ((x : Record) → was ≡ Some x → Ordered p.used told x)
        → MayOrder w c (controller_informed (controller_at w c) i) o → LeavesUsed p.used (event.Acted c i o)
        → (x : Record) → outstanding_after was o ≡ Some x → Ordered p.used told x
    ordered told i (Commit y) was found old may leaves x is = subst (Ordered p.used told) (some_is is) (committed told i y found may.1 leaves)
    ordered told i _ was found old may leaves x is = old x is

    pub acted : (i : Input) (o : Order) → MayOrder w c (controller_informed (controller_at w c) i) o → LeavesUsed p.used (event.Acted c i o)
        → Next p (site_after w (event.Acted c i o)) s (IsKeeping c (kept_by (controller_at w c) i))
    acted i o may leaves = go (gives_up w.bus c o) where
      new : SeenBy p.used (after s (input_kept i).moments) w.bus.owner w.trace c (controller_acted (controller_at w c) i o)
      new = let own = (input_kept i).own in record {
        told = own.told;
        sees = own.sees;
        tables = own.tables;
        found = own.found;
        ordered = ordered own.told i o (outstanding_told (controller_at w c).outstanding i) own.found own.ordered may leaves;
      }

      go : (t : Bool) → Next p (record {
        gear = w.gear;
        bus = put_after (if t then bus_lapsed w.bus else w.bus) c o;
        trace = (if t then [] else w.trace);
        controllers = controllers_changed w.controllers c (λ k. controller_acted k i o);
        left = w.left;
        drawn = w.drawn;
        gifts = w.gifts;
      }) s (IsKeeping c (kept_by (controller_at w c) i))
      go true = goes_on _ (controller_acted (controller_at w c) i o) _ _ _ (input_kept i) refl refl (inr (put_owner (bus_lapsed w.bus) o)) new
      go false = goes_on _ (controller_acted (controller_at w c) i o) _ _ _ (input_kept i) refl refl (inl (put_owner w.bus o, refl)) new

  module _ (numbers : are_apart (map gear_seen w.gear) ≡ true) (c d : ℕ) (f g : Forward) (here : IsCollided w c f d g) where
    abbrev first : List Controller
    first = controllers_changed w.controllers c (told_destroyed f)

    -- each may begin a transaction, whatever it said before
    may : (k : ℕ) (x : Forward) → k < length w.controllers → IsFirst x → may_send s k (command_seen (command_of x)) ≡ true
    may k x there is =
        let one = ends (seen.each k there) in
        may_put s k (own_of (controller_at w k).records [] one.told) x one.sees
        (first_for_all (controller_at w k).records.block (controller_at w k).records.reserved x is)

    abbrev frames : List (ℕ × Command)
    frames = (c, command_seen (command_of f)) ∷ (d, command_seen (command_of g)) ∷ []

    abbrev empty : Site
    empty = happens s (Destroyed frames [])

    pub collided : Next p (site_after w (event.Collided c f d g)) s (IsMoment w (event.Collided c f d g))
    collided = record {
      moments = Destroyed frames [] ∷ [];
      is = refl;
      allow = both (both (ap are_apart seen.gear ∙ numbers) (both (may c f here.first_up.known here.first)
          (both (may d g here.second_up.known here.second) refl))) refl;
      seen = record {
        count = length-set first d (told_destroyed g (get_or first d nobody)) ∙ length-set w.controllers c (told_destroyed f (controller_at w c)) ∙ seen.count;
        gear = seen.gear;
        owner = λ k e. absurd (let no : None ≡ Some k = e in cc);
        each = each_changed nobody (SeenBy p.used empty None []) (told_destroyed g) first d (λ h x. x)
            (each_changed nobody (SeenBy p.used empty None []) (told_destroyed f) w.controllers c (λ h x. x)
            (λ i h. loses (seen.each i h) frames []));
      };
    }

  pub quiet : Next p (site_after w event.Quiet) s (λ ms. ms ≡ [])
  quiet = unseen p w (site_after w event.Quiet) s seen refl (same_gear gear_quieted (λ g. refl) w.gear) (inl (refl, refl)) seen.each

  pub foreign : (f : Forward) → Next p (site_after w (event.Foreign f)) s (λ ms. ms ≡ [])
  foreign f = unseen p w (site_after w (event.Foreign f)) s seen refl (same_gear gear_interrupted (λ g. refl) w.gear) (inl (refl, refl)) seen.each

  pub offered : (c : ℕ) (f : Forward) → Next p (site_after w (event.Offered c f)) s (λ ms. ms ≡ [])
  offered c f = unseen p w (site_after w (event.Offered c f)) s seen refl refl (inl (refl, refl)) seen.each
