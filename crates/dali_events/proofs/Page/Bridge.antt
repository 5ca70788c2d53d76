use Rattle.std.proofs.Common.{◌≡◌, ◌⊎◌, inl, inr, ℕ, ◌<◌, Bool, true, false, refl, sym, ap, subst, ◌∙◌, List, [], ◌∷◌, map, Option, Some, None, length, get_or}
use Rattle.std.proofs.{Common.{set, length-set, ◌==◌, ◌&&◌, ◌||◌, if◌then◌else◌}, lemmas.List.{get_or-set_same, get_or-set_other}}
use Rattle.dali_arbiter.specs.Arbiter.{owns}
use Rattle.dali_script.specs.{Findings.assigned, Records.{Assignment, Kept, Has, with_record}, declared.{finding.Finding.Finding, records.Record.Record}}
use Rattle.dali_script.{specs.declared.trace.Entry.Entry, proofs.{Lists.has_map, Members.{Each, has_either}}}
use Rattle.dali_statement.proofs.{Tests.{both, second_of_either, first_of_either, equal, equals}, Own.{Sees, forgets, emptied, reserved_by_it, enrolled_by_it}}
use Rattle.dali_statement.proofs.{Own.{released_by_it, reserved_by_other, enrolled_by_other, released_by_other, may_enrol, may_release}, Steps.told_so}
use Rattle.dali_statement.specs.{Gear.gear_seen, Own.Own, Page.{Gear, Command, Destroyed, Moment, Reserves, Enrols, Releases, Site, all_allowed, after}}
use Rattle.dali_statement.specs.Page.{are_apart, happens}
use Rattle.dali_events.specs.{Laws.KeepsRecords, Page.{plan_seen, IsKeeping}, Plan.{Plan as SitePlan, IsPlan as IsSitePlan}, Used.used_shorts, World.World}
use Rattle.dali_events.{specs.{World.{Controller, controller_at, nobody}, declared.used.Used.Used}, proofs.Page.Sites.reserve_allowed}
use Rattle.dali_script.specs.declared.records.Record.TheVariants as record_of

-- A SITE AS THE PAGE SEES IT, by the view of each controller of its own, and a record that is kept.

-- ---------------------------------------------------------------- one controller

-- a record that was ordered, by what was told
abbrev pub Ordered : List Used → List Assignment → Record → Type 0
Ordered us told (record_of.Reserve a r) = Has (used_shorts us) a → ⊥
Ordered us told (record_of.Enrol a r) = Has told (a, r)
Ordered us told (record_of.Release a r) = (b : ℕ) × Has told (b, r) × (b ≡ a → ⊥)

abbrev pub own_of : Kept → List Entry → List Assignment → Own
own_of kept t told = record { kept = kept; trace = t; told = told }

-- its own view, in which its finding was told, and what it ordered to be kept
pub record By (us : List Used) (s : Site) (c : ℕ) (t : List Entry) (kept : Kept) (o : Option Record) (f : Option Finding) : Type 0 where
  pub told : List Assignment
  pub sees : Sees s c (own_of kept t told)
  pub tables : (a r : ℕ) → Has kept.enrolled (a, r) → s.enrolled c a r ≡ true
  pub found : (x : Finding) → f ≡ Some x → Has told (assigned x)
  pub ordered : (x : Record) → o ≡ Some x → Ordered us told x

-- its transaction: that of the bus, if it owns the bus
abbrev pub SeenBy : List Used → Site → Option ℕ → List Entry → ℕ → Controller → Type 0
SeenBy us s o t c k = By us s c (if owns o c then t else []) k.records k.outstanding k.finding

module _ {us : List Used} {s : Site} {c : ℕ} {t : List Entry} {kept : Kept} {o : Option Record} {f : Option Finding} (one : By us s c t kept o f) where
  pub ends : By us s c [] kept o f
  ends = record { told = one.told; sees = forgets s c (own_of kept t one.told) one.sees; tables = one.tables; found = one.found; ordered = one.ordered }

  pub loses : (frames : List (ℕ × Command)) (reach : List (Option (ℕ × ℕ))) → By us (happens s (Destroyed frames reach)) c [] kept o f
  loses frames reach = record {
    told = one.told;
    sees = emptied s (happens s (Destroyed frames reach)) c (own_of kept [] one.told) refl refl (λ q a v e. e) (forgets s c (own_of kept t one.told) one.sees);
    tables = one.tables;
    found = one.found;
    ordered = one.ordered;
  }

  -- only gear change
  pub stays : (gs : List Gear) → By us (record s { gear = gs }) c t kept o f
  stays gs = let sees = one.sees in record {
    told = one.told;
    sees = record { list = sees.list; to = sees.to; from = sees.from; asked = sees.asked; told = sees.told };
    tables = one.tables;
    found = one.found;
    ordered = one.ordered;
  }

  pub found_told : (x : Finding) → f ≡ Some x → told_so s.told (assigned x).0 (assigned x).1 ≡ true
  found_told x e = one.sees.told (assigned x) (one.found x e)

  -- what it found is gone
  pub restarts : By us s c t kept o None
  restarts = record { told = one.told; sees = one.sees; tables = one.tables; found = λ x e. absurd (cc); ordered = one.ordered }

  -- and what it ordered
  pub unordered : By us s c t kept None f
  unordered = record { told = one.told; sees = one.sees; tables = one.tables; found = one.found; ordered = λ x e. absurd (cc) }

-- ---------------------------------------------------------------- a site

pub record Seen (p : SitePlan) (w : World) (s : Site) : Type 0 where
  pub count : length w.controllers ≡ length p.blocks
  pub gear : s.gear ≡ map gear_seen w.gear
  pub owner : (c : ℕ) → w.bus.owner ≡ Some c → c < length w.controllers
  pub each : Each nobody (SeenBy p.used s w.bus.owner w.trace) w.controllers

-- what follows in a site of the page, if it is moments of this kind
pub record Next (p : SitePlan) (w : World) (s : Site) (Is : List Moment → Type 0) : Type 0 where
  pub moments : List Moment
  pub is : Is moments
  pub allow : all_allowed (plan_seen p) s moments ≡ true
  pub seen : Seen p w (after s moments)

-- a list with one controller changed
pub each_of : (P : ℕ → Controller → Type 0) (ks : List Controller) (c : ℕ) (new : Controller)
    → ((d : ℕ) → d < length ks → (d ≡ c → ⊥) → P d (get_or ks d nobody)) → (c < length ks → P c new) → Each nobody P (set ks c new)
each_of P ks c new others own i h = go (i == c) refl (subst (λ m. i < m) (length-set ks c new) h) where
  go : (b : Bool) → (i == c) ≡ b → i < length ks → P i (get_or (set ks c new) i nobody)
  go true e there =
      let same : c ≡ i = sym (equal i c e) in
      let here : c < length ks = subst (λ m. m < length ks) (sym same) there in
      subst (λ m. P m (get_or (set ks c new) m nobody)) same (subst (λ x. P c x) (sym (get_or-set_same ks c new nobody here)) (own here))
  go false e there =
      let other : i ≡ c → ⊥ = λ same. absurd (let is : true ≡ false = sym (equals i c same) ∙ e in cc) in
      subst (λ x. P i x) (sym (get_or-set_other ks c i new nobody other)) (others i there other)

-- ---------------------------------------------------------------- a record is kept

-- the page after the records of one controller took in what it ordered
pub record Informed (p : SitePlan) (w : World) (s : Site) (c : ℕ) (x : Option Record) (kept : Kept) (o : Option Record) : Type 0 where
  pub moments : List Moment
  pub is : IsKeeping c x moments
  pub allow : all_allowed (plan_seen p) s moments ≡ true
  pub gear : (after s moments).gear ≡ map gear_seen w.gear
  pub own : By p.used (after s moments) c (if owns w.bus.owner c then w.trace else []) kept o (controller_at w c).finding
  pub others : (d : ℕ) → d < length w.controllers → (d ≡ c → ⊥) → SeenBy p.used (after s moments) w.bus.owner w.trace d (controller_at w d)

-- nothing is kept
pub uninformed : (p : SitePlan) (w : World) (s : Site) (c : ℕ) → Seen p w s → c < length w.controllers
    → Informed p w s c None (controller_at w c).records (controller_at w c).outstanding
uninformed p w s c seen there = record {
  moments = [];
  is = refl;
  allow = refl;
  gear = seen.gear;
  own = seen.each c there;
  others = λ d here other. seen.each d here;
}

module _ (p : SitePlan) (plan : IsSitePlan p) (w : World) (s : Site) (c : ℕ) (seen : Seen p w s) (records : KeepsRecords p w)
    (there : c < length w.controllers) (numbers : are_apart (map gear_seen w.gear) ≡ true) where
  apart : are_apart s.gear ≡ true
  apart = ap are_apart seen.gear ∙ numbers

  known : SeenBy p.used s w.bus.owner w.trace c (controller_at w c)
  known = seen.each c there

  abbrev view : Own
  view = own_of (controller_at w c).records (if owns w.bus.owner c then w.trace else []) known.told

  abbrev view_at : (d : ℕ) → d < length w.controllers → Own
  view_at d here = own_of (controller_at w d).records (if owns w.bus.owner d then w.trace else []) (seen.each d here).told

  reserves : (a r : ℕ) → (controller_at w c).outstanding ≡ Some (record_of.Reserve a r)
      → Informed p w s c (Some (record_of.Reserve a r)) (with_record (controller_at w c).records (record_of.Reserve a r)) None
  reserves a r is =
      let fits = records.fits c (record_of.Reserve a r) there is in
      let fresh = records.may_add c (record_of.Reserve a r) there is in record {
        moments = Reserves c a r ∷ [];
        is = refl;
        allow = both (both apart (reserve_allowed p s (controller_at w c) c plan a r (subst (λ n. c < n) seen.count there) (records.block c there)
            (fits.0, fits.1, fresh) (known.ordered (record_of.Reserve a r) is)
            (λ q e. has_map (λ y. y.0) (controller_at w c).records.reserved (a, q) (known.sees.from a q e)))) refl;
        gear = seen.gear;
        own = record {
          told = known.told;
          sees = reserved_by_it (plan_seen p) s c view known.sees a r fresh.0;
          tables = known.tables;
          found = known.found;
          ordered = λ x e. absurd (cc);
        };
        others = λ d here other. let one = seen.each d here in record {
          told = one.told;
          sees = reserved_by_other (plan_seen p) s d (view_at d here) one.sees c a r (λ e. other (sym e));
          tables = one.tables;
          found = one.found;
          ordered = one.ordered;
        };
      }

  enrols : (a r : ℕ) → (controller_at w c).outstanding ≡ Some (record_of.Enrol a r)
      → Informed p w s c (Some (record_of.Enrol a r)) (with_record (controller_at w c).records (record_of.Enrol a r)) None
  enrols a r is = record {
    moments = Enrols c a r ∷ [];
    is = refl;
    allow = both (both apart (may_enrol (plan_seen p) s c view known.sees a r (known.ordered (record_of.Enrol a r) is))) refl;
    gear = seen.gear;
    own = record {
      told = known.told;
      sees = enrolled_by_it (plan_seen p) s c view known.sees a r;
      tables = λ b n h. tables b n (has_either (controller_at w c).records.enrolled ((a, r) ∷ []) (b, n) h);
      found = known.found;
      ordered = λ x e. absurd (cc);
    };
    others = λ d here other. let one = seen.each d here in record {
      told = one.told;
      sees = enrolled_by_other (plan_seen p) s d (view_at d here) one.sees c a r;
      tables = λ b n h. first_of_either (s.enrolled d b n) _ (one.tables b n h);
      found = one.found;
      ordered = one.ordered;
    };
  } where
    tables : (b n : ℕ) → Has {A = Assignment} (controller_at w c).records.enrolled (b, n) ⊎ Has {A = Assignment} ((a, r) ∷ []) (b, n)
        → (s.enrolled c b n || ((c == c) && ((b == a) && (n == r)))) ≡ true
    tables b n (inl old) = first_of_either (s.enrolled c b n) _ (known.tables b n old)
    tables b n (inr (inl same)) = second_of_either (s.enrolled c b n)
        (both (equals c c refl) (both (equals b a (sym (ap (λ y. y.0) same))) (equals n r (sym (ap (λ y. y.1) same)))))
    tables b n (inr (inr h)) = elim h [ ]

  releases : (a r : ℕ) → (controller_at w c).outstanding ≡ Some (record_of.Release a r)
      → Informed p w s c (Some (record_of.Release a r)) (with_record (controller_at w c).records (record_of.Release a r)) None
  releases a r is =
      let found = known.ordered (record_of.Release a r) is in
      let has = records.may_add c (record_of.Release a r) there is in record {
        moments = Releases c a r found.0 ∷ [];
        is = (found.0, refl);
        allow = both (both apart (may_release (plan_seen p) s c view known.sees a r found.0 has found.1 found.2)) refl;
        gear = seen.gear;
        own = record {
          told = known.told;
          sees = released_by_it (plan_seen p) s c view known.sees a r found.0 has;
          tables = known.tables;
          found = known.found;
          ordered = λ x e. absurd (cc);
        };
        others = λ d here other. let one = seen.each d here in record {
          told = one.told;
          sees = released_by_other (plan_seen p) s d (view_at d here) one.sees c a r found.0 (λ e. other (sym e));
          tables = one.tables;
          found = one.found;
          ordered = one.ordered;
        };
      }

  -- whichever it is
  pub informed : (x : Record) → (controller_at w c).outstanding ≡ Some x → Informed p w s c (Some x) (with_record (controller_at w c).records x) None
  informed (record_of.Reserve a r) is = reserves a r is
  informed (record_of.Enrol a r) is = enrols a r is
  informed (record_of.Release a r) is = releases a r is
