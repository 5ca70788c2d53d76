use Rattle.std.proofs.Common.{◌≡◌, ◌⊎◌, length, inl, inr, ℕ, zero, suc, ◌<◌, Bool, true, false, refl, sym, ap, subst, ◌∙◌, List, [], ◌∷◌, ◌++◌, map, Option}
use Rattle.std.{proofs.Common.{Some, None, length-set, ◌==◌, ◌&&◌, ◌||◌, if◌then◌else◌, IfSome, slice_get}, specs.List.AllByRecursion}
use Rattle.dali_frame.specs.declared.frames.{Answer.Answer, Forward.Forward}
use Rattle.dali_special.{specs.{Command.{command_of, is_send_twice}, declared.command.Command.Command as Read}, proofs.Table.read_spelled}
use Rattle.dali_gear.specs.{Gear.{Gear as Real, fresh, is_active, is_found}, Row.{row_after, stored_short, answers_of}, declared.gear_set.GearSet.GearSet}
use Rattle.dali_gear.specs.declared.row.Reach.TheVariants.{Everyone, Only}
use Rattle.dali_arbiter.specs.Arbiter.{bus_sent}
use Rattle.dali_script.specs.{Findings.{asked_of, search_of, found_by, assigned, later}, Records.{Assignment, Has}, declared.finding.Finding.Finding}
use Rattle.dali_script.{specs.declared.{records.Record.Record, trace.Entry.Entry}, proofs.Members.{Each, each_changed}}
use Rattle.dali_statement.proofs.{Own.{another, Sees, may_put, forgets, emptied, puts}, Tests.{both, placed, either, first_of_either, equals, some_is}}
use Rattle.dali_statement.proofs.{Gear.found, Moved.At, One.{IsShort, vacant_by}, Rows.{sent_to_all, reached, heard, of_one, destroyed_one}, Steps.Safe}
use Rattle.dali_statement.{proofs.Steps.{told_so, IsTrue, told_by, told_true}, specs.{Gear.{command_seen, gear_seen, HasShort}, Own.{Own, told_more}}}
use Rattle.dali_statement.specs.Page.{byte, Command, Terminate, Gear, takes, Nothing}
use Rattle.dali_statement.specs.Page.{Destroyed, Moment, Sent, Site, allowed, befalls, gear_after, may_miss, may_send, hears, are_apart, tells, happens}
use Rattle.dali_statement.specs.Scripts.{heard_seen}
use Rattle.dali_events.specs.{Allowed.{IsUp, MaySend, Hears}, Happens.{happens as site_after, trace_running, entry, goes_on, taken_by, told_sent}}
use Rattle.dali_events.specs.{Happens.told_destroyed, Page.{plan_seen, IsMoment}, Plan.Plan as SitePlan, World.{World, gear_at, controller_at}}
use Rattle.dali_events.{specs.{World.{controllers_changed, nobody}, declared.used.Used.Used}, proofs.{Invariant.Sending.lawful_of, Page.Bridge.Ordered}}
use Rattle.dali_events.proofs.Page.Bridge.{own_of, By, SeenBy, ends, loses, Seen, Next, each_of}
use Rattle.dali_frame.specs.declared.frames.Answer.TheVariants as answer
use Rattle.dali_special.specs.declared.command.Command.TheVariants as read
use Rattle.dali_script.specs.declared.records.Record.TheVariants as record_of
use Rattle.dali_events.specs.declared.event.Event.TheVariants as event

-- FRAMES OF A SITE, as moments of the page.

-- ---------------------------------------------------------------- what the page asks

seen_miss : (x : Read) → may_miss (command_seen x) ≡ is_send_twice x
seen_miss (read.Initialise t) = refl
seen_miss _ = refl

hears_nothing : (m : Command) (gs : List Gear) → hears m Nothing gs ≡ true
hears_nothing Terminate gs = refl
hears_nothing _ gs = refl

hears_seen : (x : Read) (h : Answer) (gs : List Real) → Hears (answers_of Everyone x 0 gs) h → hears (command_seen x) (heard_seen h) (map gear_seen gs) ≡ true
hears_seen x (answer.Byte v) gs is = heard x v gs is.0 is.1
hears_seen x _ gs is = hears_nothing (command_seen x) (map gear_seen gs)

shorts_of : (gs : List Real) → ((g : ℕ) (x : Gear) → At (map gear_seen gs) g x → IsShort x) → AllByRecursion HasShort gs
shorts_of [] each = tt
shorts_of (g ∷ gs) each = (go g.short refl, shorts_of gs (λ n x at. each (suc n) x at)) where
  go : (o : Option ℕ) → g.short ≡ o → IfSome o (λ a. a < 64)
  go None is = tt
  go (Some a) is = each zero (gear_seen g) refl a is

none_stored : {a : ℕ} → None ≡ Some a → ⊥
none_stored {a} e = absurd (cc)

unowned : {a : ℕ} → None ≡ Some a → ⊥
unowned {a} e = absurd (cc)

-- ---------------------------------------------------------------- what is told

told_still : (o : Option Finding) (told : List Assignment) (x : Assignment) → Has told x → Has (told_more o told) x
told_still None told x has = has
told_still (Some y) told x has = inr has

ordered_still : (us : List Used) (o : Option Finding) (told : List Assignment) (x : Record) → Ordered us told x → Ordered us (told_more o told) x
ordered_still us o told (record_of.Reserve a r) is = is
ordered_still us o told (record_of.Enrol a r) is = told_still o told (a, r) is
ordered_still us o told (record_of.Release a r) is = (is.0, told_still o told (is.0, r) is.1, is.2)

found_now : (f o : Option Finding) (told : List Assignment) → ((y : Finding) → f ≡ Some y → Has told (assigned y))
    → (y : Finding) → later f o ≡ Some y → Has (told_more o told) (assigned y)
found_now f None told old y e = old y e
found_now f (Some z) told old y e = inl (ap assigned (some_is e))

module _ (p : SitePlan) (w : World) (s : Site) (seen : Seen p w s) (safe : Safe (plan_seen p) s) (c : ℕ) (f : Forward) (up : IsUp w c)
    (may : MaySend w c f) where
  known : SeenBy p.used s w.bus.owner w.trace c (controller_at w c)
  known = seen.each c up.known

  abbrev view : Own
  view = own_of (controller_at w c).records (trace_running w c) known.told

  may_page : may_send s c (command_seen (command_of f)) ≡ true
  may_page = may_put s c view f known.sees (lawful_of w c f may)

  shorts : AllByRecursion HasShort w.gear
  shorts = shorts_of w.gear (λ g x at. safe.sound.short g x (subst (λ gs. At gs g x) (sym seen.gear) at))

  -- who stores a short address has none, and the sender has reserved it for its number
  pub stores_reserved : (g a : ℕ) → g < length w.gear → (gear_at w g).powered ≡ true → stored_short (command_of f) (gear_at w g) ≡ Some a
      → ((gear_at w g).short ≡ None) × Has (controller_at w c).records.reserved (a, (gear_at w g).random) × ((gear_at w g).random < 0xFFFFFF)
  stores_reserved g a there on stores = go (command_of f) refl stores where
    by : (o : Option ℕ) → command_of f ≡ read.Program o → (t : Bool) → (is_active (gear_at w g).state && is_found (gear_at w g)) ≡ t
        → (if t then o else None) ≡ Some a
        → ((gear_at w g).short ≡ None) × Has (controller_at w c).records.reserved (a, (gear_at w g).random) × ((gear_at w g).random < 0xFFFFFF)
    by o is false met e = absurd (none_stored e)
    by o is true met e =
        let program : command_of f ≡ read.Program (Some a) = is ∙ ap (λ b. read.Program b) e in
        let vacant = vacant_by s c a (gear_seen (gear_at w g)) (λ b n e. (safe.sound.within c b n e).2)
        (safe.knows c g (gear_seen (gear_at w g)) (ap (λ gs. slice_get gs g) seen.gear ∙ placed gear_seen fresh w.gear g there))
        (subst (λ x. may_send s c (command_seen x) ≡ true) program may_page) (found (gear_at w g) on met) in
        (vacant.0, known.sees.from a (gear_at w g).random vacant.1, (safe.sound.within c a (gear_at w g).random vacant.1).2)

    go : (x : Read) → command_of f ≡ x → stored_short x (gear_at w g) ≡ Some a
        → ((gear_at w g).short ≡ None) × Has (controller_at w c).records.reserved (a, (gear_at w g).random) × ((gear_at w g).random < 0xFFFFFF)
    go (read.Program o) is e = by o is (is_active (gear_at w g).state && is_found (gear_at w g)) refl e
    go _ is e = absurd (none_stored e)

  module _ (numbers : are_apart (map gear_seen w.gear) ≡ true) where
    apart : are_apart s.gear ≡ true
    apart = ap are_apart seen.gear ∙ numbers

    -- ---------------------------------------------------------------- a frame that was destroyed

    pub destroyed : (group : GearSet) → Next p (site_after w (event.Destroyed c f group)) s (IsMoment w (event.Destroyed c f group))
    destroyed group = record {
      moments = Destroyed ((c, command_seen (command_of f)) ∷ []) (of_one to.0) ∷ [];
      is = (of_one to.0, refl);
      allow = both (both apart (both may_page refl)) refl;
      seen = record {
        count = length-set w.controllers c (told_destroyed f (controller_at w c)) ∙ seen.count;
        gear = destroyed_one c (command_seen (command_of f)) to.0 s.gear ∙ ap (befalls (takes (command_seen (command_of f))) to.0) seen.gear ∙ sym to.1;
        owner = λ d e. absurd (unowned e);
        each = each_changed nobody (SeenBy p.used (happens s (Destroyed ((c, command_seen (command_of f)) ∷ []) (of_one to.0))) None [])
            (told_destroyed f) w.controllers c (λ h x. x)
            (λ i h. loses (seen.each i h) ((c, command_seen (command_of f)) ∷ []) (of_one to.0));
      };
    } where
      to : (some : List (Option ℕ)) × (map gear_seen (row_after (Only group) (command_of f) 0 w.gear w.left)
          ≡ befalls (takes (command_seen (command_of f))) some (map gear_seen w.gear))
      to = reached (Only group) (command_of f) 0 w.gear w.left (read_spelled f) shorts

    -- ---------------------------------------------------------------- a frame that was sent

    module _ (h : Answer) (hearing : Hears (answers_of Everyone (command_of f) 0 w.gear) h) where
      some : (them : List (Option ℕ)) × (map gear_seen (row_after Everyone (command_of f) 0 w.gear w.left)
          ≡ befalls (takes (command_seen (command_of f))) them (map gear_seen w.gear))
      some = reached Everyone (command_of f) 0 w.gear w.left (read_spelled f) shorts

      abbrev moment : Moment
      moment = Sent (command_seen (command_of f)) ((c, heard_seen h) ∷ []) some.0

      row : gear_after moment s.gear ≡ map gear_seen (row_after Everyone (command_of f) 0 w.gear w.left)
      row = ap (gear_after moment) seen.gear ∙ go (is_send_twice (command_of f)) refl where
        go : (t : Bool) → is_send_twice (command_of f) ≡ t
            → (if may_miss (command_seen (command_of f)) then befalls (takes (command_seen (command_of f))) some.0 (map gear_seen w.gear)
            else map (takes (command_seen (command_of f)) 0) (map gear_seen w.gear)) ≡ map gear_seen (row_after Everyone (command_of f) 0 w.gear w.left)
        go true e = ap (λ t. if t then befalls (takes (command_seen (command_of f))) some.0 (map gear_seen w.gear)
            else map (takes (command_seen (command_of f)) 0) (map gear_seen w.gear)) (seen_miss (command_of f) ∙ e) ∙ sym some.1
        go false e = ap (λ t. if t then befalls (takes (command_seen (command_of f))) some.0 (map gear_seen w.gear)
            else map (takes (command_seen (command_of f)) 0) (map gear_seen w.gear)) (seen_miss (command_of f) ∙ e)
            ∙ sym (sent_to_all (command_of f) 0 w.gear w.left e)

      heard_page : hears (command_seen (command_of f)) (heard_seen h) s.gear ≡ true
      heard_page = subst (λ gs. hears (command_seen (command_of f)) (heard_seen h) gs ≡ true) (sym seen.gear) (hears_seen (command_of f) h w.gear hearing)

      allow : (are_apart s.gear && allowed (plan_seen p) s moment) ≡ true
      allow = both apart (both (both may_page heard_page) refl)

      abbrev next : Site
      next = happens s moment

      own : (c == c) ≡ true
      own = equals c c refl

      abbrev found_here : Option Finding
      found_here = found_by (search_of (trace_running w c)) (asked_of (trace_running w c)) (command_of f) h

      abbrev trace_now : List Entry
      trace_now = trace_running w c ++ entry f h ∷ []

      sees_now : Sees next c (own_of (controller_at w c).records trace_now (told_more found_here known.told))
      sees_now = puts (plan_seen p) s c view known.sees safe f h ((c, heard_seen h) ∷ []) some.0 (lawful_of w c f may)
          (ap (λ t. if t then Some (heard_seen h) else None) own) allow

      -- what it found was told
      found_so : (y : Finding) → found_here ≡ Some y → told_so next.told (assigned y).0 (assigned y).1 ≡ true
      found_so y e = sees_now.told (assigned y) (subst (λ o. Has (told_more o known.told) (assigned y)) (sym e) (inl refl))

      -- and the gear is there when the frame is sent
      pub found_gear : (y : Finding) → found_here ≡ Some y
          → (g : ℕ) × (x : Gear) × At s.gear g x × (x.short ≡ Some (assigned y).0) × (x.random ≡ (assigned y).1)
      found_gear y e = told_by (plan_seen p) s safe next.told true_now (assigned y).0 (assigned y).1 (found_so y e) where
        true_now : IsTrue next.told s.gear
        true_now q a v small told = go (either (s.told q a v) (tells (command_seen (command_of f)) (heard_seen h) (s.said c) q a v || false) told) where
          go : (s.told q a v ≡ true) ⊎ ((tells (command_seen (command_of f)) (heard_seen h) (s.said c) q a v || false) ≡ true)
              → (g : ℕ) × (x : Gear) × At s.gear g x × (x.short ≡ Some a) × (byte q x.random ≡ v)
          go (inl was) = safe.sound.told_of q a v small was
          go (inr new) = by (either (tells (command_seen (command_of f)) (heard_seen h) (s.said c) q a v) false new) where
            by : (tells (command_seen (command_of f)) (heard_seen h) (s.said c) q a v ≡ true) ⊎ (false ≡ true)
                → (g : ℕ) × (x : Gear) × At s.gear g x × (x.short ≡ Some a) × (byte q x.random ≡ v)
            by (inl e) = told_true (plan_seen p) s c (command_seen (command_of f)) (heard_seen h) safe heard_page q a v small e
            by (inr e) = absurd (cc)

      -- the sender, after it was told what was heard
      sender : By p.used next c trace_now (controller_at w c).records (controller_at w c).outstanding (later (controller_at w c).finding found_here)
      sender = record {
        told = told_more found_here known.told;
        sees = sees_now;
        tables = known.tables;
        found = found_now (controller_at w c).finding found_here known.told known.found;
        ordered = λ x e. ordered_still p.used found_here known.told x (known.ordered x e);
      }

      other : (d : ℕ) → d < length w.controllers → (d ≡ c → ⊥) → SeenBy p.used next None [] d (controller_at w d)
      other d here away = let one = seen.each d here in record {
        told = one.told;
        sees = emptied s next d (own_of (controller_at w d).records [] one.told) refl refl (λ q a v e. first_of_either (s.told q a v) _ e)
            (forgets s d (own_of (controller_at w d).records (trace_running w d) one.told) one.sees);
        tables = one.tables;
        found = one.found;
        ordered = one.ordered;
      }

      abbrev owner_now : Bool → Option ℕ
      owner_now more_come = if more_come then Some c else None

      each_now : (more_come : Bool) → Each nobody (SeenBy p.used next (owner_now more_come) (if more_come then trace_now else []))
          (controllers_changed w.controllers c (told_sent (trace_running w c) f h))
      each_now true = each_of (SeenBy p.used next (Some c) trace_now) w.controllers c (told_sent (trace_running w c) f h (controller_at w c))
          (λ d here away. subst (λ t. By p.used next d (if t then trace_now else []) (controller_at w d).records (controller_at w d).outstanding
          (controller_at w d).finding) (sym (another d c away)) (other d here away))
          (λ there. subst (λ t. By p.used next c (if t then trace_now else []) (controller_at w c).records (controller_at w c).outstanding
          (later (controller_at w c).finding found_here)) (sym own) sender)
      each_now false = each_of (SeenBy p.used next None []) w.controllers c (told_sent (trace_running w c) f h (controller_at w c)) other (λ there. ends sender)

      count_now : length (controllers_changed w.controllers c (told_sent (trace_running w c) f h)) ≡ length w.controllers
      count_now = length-set w.controllers c (told_sent (trace_running w c) f h (controller_at w c))

      owned_now : (more_come : Bool) (d : ℕ) → owner_now more_come ≡ Some d
          → d < length (controllers_changed w.controllers c (told_sent (trace_running w c) f h))
      owned_now true d e = subst (λ n. d < n) (sym count_now) (subst (λ k. k < length w.controllers) (some_is e) up.known)
      owned_now false d e = absurd (unowned e)

      -- the world afterwards, if more frames come and if not
      abbrev world_now : Bool → World
      world_now more_come = record (taken_by w Everyone (command_of f)) {
        bus = record { lists = (bus_sent w.bus more_come).lists; owner = owner_now more_come; capacity = w.bus.capacity };
        trace = (if more_come then trace_now else []);
        controllers = controllers_changed w.controllers c (told_sent (trace_running w c) f h);
      }

      pub sent : Next p (site_after w (event.Sent c f h)) s (IsMoment w (event.Sent c f h))
      sent = go (goes_on w c trace_now) where
        go : (more_come : Bool) → Next p (world_now more_come) s (IsMoment w (event.Sent c f h))
        go more_come = record {
          moments = moment ∷ [];
          is = (some.0, refl);
          allow = both allow refl;
          seen = record { count = count_now ∙ seen.count; gear = row; owner = owned_now more_come; each = each_now more_come };
        }
