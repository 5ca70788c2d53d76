use Rattle.std.proofs.Common.{◌≡◌, ℕ, zero, suc, ◌+◌, Bool, true, false, ◌&&◌, List, [], ◌∷◌, map, refl, if◌then◌else◌}
use Rattle.dali_special.specs.declared.command.Command.{Command}
use Rattle.dali_gear.specs.Gear.{Gear, with_power, without_power, gear_expired, gear_quieted, gear_taken, draws_a_number}
use Rattle.dali_gear.specs.Row.{reaches, takes, next_draw, one_after, left_after, row_after}
use Rattle.dali_gear.specs.declared.row.Reach.{Reach, TheVariants.Everyone, TheVariants.Only}
use Rattle.dali_mending.specs.Rows.{Site, Befall, Power, Expired, Quiet, Foreign, changed, powered, interrupted, befallen, all_befallen, Moment, taken}
use Rattle.dali_mending.specs.Rows.{is_whole, sent, Each}

-- WHAT IS KEPT WHILE A TRANSACTION IS SENT, gear by gear: each fact speaks of a gear as it was before and as it is.

-- ---------------------------------------------------------------- between two frames

-- whatever befalls the gear, the fact stays
pub record Endures (P : Gear → Gear → Type 0) : Type 0 where
  pub on : (g h : Gear) → P g h → P g (with_power h)
  pub off : (g h : Gear) → P g h → P g (without_power h)
  pub expired : (g h : Gear) → P g h → P g (gear_expired h)
  pub quieted : (g h : Gear) → P g h → P g (gear_quieted h)

each_map : (P : Gear → Gear → Type 0) (f : Gear → Gear) → ((g h : Gear) → P g h → P g (f h)) → (gs hs : List Gear)
    → Each P gs hs → Each P gs (map f hs)
each_map P f step [] [] each = tt
each_map P f step [] (h ∷ hs) each = absurd each
each_map P f step (g ∷ gs) [] each = absurd each
each_map P f step (g ∷ gs) (h ∷ hs) each = (step g h each.0, each_map P f step gs hs each.1)

each_changed : (P : Gear → Gear → Type 0) (f : Gear → Gear) → ((g h : Gear) → P g h → P g (f h)) → (gs hs : List Gear) (k : ℕ)
    → Each P gs hs → Each P gs (changed hs k f)
each_changed P f step [] [] k each = tt
each_changed P f step [] (h ∷ hs) k each = absurd each
each_changed P f step (g ∷ gs) [] k each = absurd each
each_changed P f step (g ∷ gs) (h ∷ hs) zero each = (step g h each.0, each.1)
each_changed P f step (g ∷ gs) (h ∷ hs) (suc k) each = (each.0, each_changed P f step gs hs k each.1)

interrupted_endures : (P : Gear → Gear → Type 0) → Endures P → (g h : Gear) → P g h → P g (interrupted h)
interrupted_endures P endures g h holds = go h.powered where
  go : (b : Bool) → P g (if b then gear_quieted h else h)
  go true = endures.quieted g h holds
  go false = holds

powered_endures : (P : Gear → Gear → Type 0) → Endures P → (on : Bool) (g h : Gear) → P g h → P g (powered on h)
powered_endures P endures true g h holds = endures.on g h holds
powered_endures P endures false g h holds = endures.off g h holds

each_befallen : (P : Gear → Gear → Type 0) → Endures P → (b : Befall) (gs hs : List Gear) → Each P gs hs → Each P gs (befallen b hs)
each_befallen P endures (Power k on) gs hs each = each_changed P (powered on) (powered_endures P endures on) gs hs k each
each_befallen P endures (Expired k) gs hs each = each_changed P gear_expired endures.expired gs hs k each
each_befallen P endures Quiet gs hs each = each_map P gear_quieted endures.quieted gs hs each
each_befallen P endures Foreign gs hs each = each_map P interrupted (interrupted_endures P endures) gs hs each

pub all_endure : (P : Gear → Gear → Type 0) → Endures P → (bs : List Befall) (gs hs : List Gear) → Each P gs hs → Each P gs (all_befallen bs hs)
all_endure P endures [] gs hs each = each
all_endure P endures (b ∷ bs) gs hs each = all_endure P endures bs gs (befallen b hs) (each_befallen P endures b gs hs each)

-- ---------------------------------------------------------------- a frame

-- where the first fact holds, the second one holds after the frame: of a gear that takes it, and of one without power
pub record Leads (P Q : Gear → Gear → Type 0) (c : Command) : Type 0 where
  pub takes : (g h : Gear) (draw : ℕ) → h.powered ≡ true → P g h → Q g (gear_taken c draw h)
  pub sleeps : (g h : Gear) → h.powered ≡ false → P g h → Q g h

one_leads : (P Q : Gear → Gear → Type 0) (c : Command) → Leads P Q c → (g h : Gear) (left : List ℕ) (b : Bool) → h.powered ≡ b
    → P g h → Q g (one_after (b && true) c left h)
one_leads P Q c leads g h left true is holds = leads.takes g h (next_draw h left) is holds
one_leads P Q c leads g h left false is holds = leads.sleeps g h is holds

pub each_takes : (P Q : Gear → Gear → Type 0) (c : Command) → Leads P Q c → (k : ℕ) (gs hs : List Gear) (left : List ℕ)
    → Each P gs hs → Each Q gs (row_after Everyone c k hs left)
each_takes P Q c leads k [] [] left each = tt
each_takes P Q c leads k [] (h ∷ hs) left each = absurd each
each_takes P Q c leads k (g ∷ gs) [] left each = absurd each
each_takes P Q c leads k (g ∷ gs) (h ∷ hs) left each = (
  one_leads P Q c leads g h left h.powered refl each.0,
  each_takes P Q c leads (k + 1) gs hs (left_after (takes Everyone k h && draws_a_number c h) left) each.1,
)

-- a frame that is destroyed reaches some of them
one_may : (P Q : Gear → Gear → Type 0) (c : Command) → Leads P Q c → ((g h : Gear) → P g h → Q g h) → (g h : Gear) (left : List ℕ)
    (b reached : Bool) → h.powered ≡ b → P g h → Q g (one_after (b && reached) c left h)
one_may P Q c leads stays g h left true true is holds = leads.takes g h (next_draw h left) is holds
one_may P Q c leads stays g h left true false is holds = stays g h holds
one_may P Q c leads stays g h left false reached is holds = stays g h holds

each_may : (P Q : Gear → Gear → Type 0) (c : Command) → Leads P Q c → ((g h : Gear) → P g h → Q g h) → (reach : Reach) (k : ℕ)
    (gs hs : List Gear) (left : List ℕ) → Each P gs hs → Each Q gs (row_after reach c k hs left)
each_may P Q c leads stays reach k [] [] left each = tt
each_may P Q c leads stays reach k [] (h ∷ hs) left each = absurd each
each_may P Q c leads stays reach k (g ∷ gs) [] left each = absurd each
each_may P Q c leads stays reach k (g ∷ gs) (h ∷ hs) left each = (
  one_may P Q c leads stays g h left h.powered (reaches reach k) refl each.0,
  each_may P Q c leads stays reach (k + 1) gs hs (left_after (takes reach k h && draws_a_number c h) left) each.1,
)

-- ---------------------------------------------------------------- a transaction

pub each_weaker : (P Q : Gear → Gear → Type 0) → ((g h : Gear) → P g h → Q g h) → (gs hs : List Gear) → Each P gs hs → Each Q gs hs
each_weaker P Q weaker [] [] each = tt
each_weaker P Q weaker [] (h ∷ hs) each = absurd each
each_weaker P Q weaker (g ∷ gs) [] each = absurd each
each_weaker P Q weaker (g ∷ gs) (h ∷ hs) each = (weaker g h each.0, each_weaker P Q weaker gs hs each.1)

-- WHEREVER A TRANSACTION ENDS, this fact holds of each gear, if that one holds when it begins
abbrev pub Comes : (P K : Gear → Gear → Type 0) → List Command → Type 0
Comes P K cs = (ms : List Moment) (gs : List Gear) (s : Site) → Each P gs s.gear → Each K gs (sent cs ms s).gear

pub no_more : (P K : Gear → Gear → Type 0) → ((g h : Gear) → P g h → K g h) → Comes P K []
no_more P K weaker ms gs s each = each_weaker P K weaker gs s.gear each

-- one frame, and the others
pub one_more : (P Q K : Gear → Gear → Type 0) (c : Command) (cs : List Command) → Endures P → ((g h : Gear) → P g h → K g h)
    → Leads P Q c → ((g h : Gear) → Q g h → K g h) → Comes Q K cs → Comes P K (c ∷ cs)
one_more P Q K c cs endures now leads later more [] gs s each = each_weaker P K now gs s.gear each
one_more P Q K c cs endures now leads later more (m ∷ ms) gs s each = go m.reach where
  ready : Each P gs (all_befallen m.before s.gear)
  ready = all_endure P endures m.before gs s.gear each

  leads_too : Leads P K c
  leads_too = record {
    takes = λ g h draw is holds. later g (gear_taken c draw h) (leads.takes g h draw is holds);
    sleeps = λ g h is holds. now g h holds;
  }

  go : (reach : Reach)
      → Each K gs (if is_whole reach then sent cs ms (taken reach c (record s { gear = all_befallen m.before s.gear }))
      else taken reach c (record s { gear = all_befallen m.before s.gear })).gear
  go Everyone = more ms gs (taken Everyone c (record s { gear = all_befallen m.before s.gear }))
      (each_takes P Q c leads 0 gs (all_befallen m.before s.gear) s.left ready)
  go (Only set) = each_may P K c leads_too now (Only set) 0 gs (all_befallen m.before s.gear) s.left ready

-- each of its commands keeps the fact
abbrev pub AllLead : (P : Gear → Gear → Type 0) → List Command → Type 0
AllLead P [] = Unit {0}
AllLead P (c ∷ cs) = Leads P P c × AllLead P cs

pub all_lead : (P : Gear → Gear → Type 0) → Endures P → (cs : List Command) → AllLead P cs → Comes P P cs
all_lead P endures [] lead = no_more P P (λ g h holds. holds)
all_lead P endures (c ∷ cs) lead =
    one_more P P P c cs endures (λ g h holds. holds) lead.0 (λ g h holds. holds) (all_lead P endures cs lead.1)
