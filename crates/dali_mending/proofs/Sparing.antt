use Rattle.std.proofs.Common.{◌≡◌, ℕ, Bool, true, false, ◌&&◌, List, [], ◌∷◌, Option, Some, None, refl, sym, ap, ◌∙◌, if◌then◌else◌}
use Rattle.dali_frame.specs.Random.{high_of, middle_of, low_of, MASK24}
use Rattle.dali_special.specs.declared.command.Command.{Command}
use Rattle.dali_special.specs.declared.command.Command.TheVariants.{Terminate, Initialise, Randomise, Program, SearchHigh, SearchMiddle, SearchLow, QueryShort}
use Rattle.dali_special.specs.declared.command.Target.TheVariants.{Addressed}
use Rattle.dali_gear.specs.Gear.{Gear, with_power, without_power, gear_expired, gear_quieted, gear_taken, draws_a_number, is_second, is_active, is_found}
use Rattle.dali_gear.specs.{Gear.concerns, Gear.has_short, Gear.state_after, Gear.short_after, Gear.search_mask, declared.row.Reach.TheVariants.Everyone}
use Rattle.dali_gear.specs.declared.state.InitialisationState.{InitialisationState, TheVariants.Disabled, TheVariants.Enabled}
use Rattle.dali_mending.specs.Rows.{Site, Befall, Moment, Sending, all_befallen, put_at, all_sent, sent, Each, Keeps, takes_part}
use Rattle.dali_mending.specs.Transactions.{commands_of, opening, under, asking, beginning, probing, keeping, closing}
use Rattle.dali_mending.specs.declared.stage.Stage.{Stage}
use Rattle.dali_mending.proofs.Sent.{each_takes, all_endure, Endures, Leads, Comes, AllLead, all_lead, one_more, each_weaker}
use Rattle.dali_mending.specs.declared.stage.Stage.TheVariants as stage

-- ---------------------------------------------------------------- a gear that keeps both addresses

pub same : (g : Gear) → Keeps g g
same g = record { short = refl; random = refl }

pub onward : (g h i : Gear) → Keeps g h → Keeps h i → Keeps g i
onward g h i one more = record { short = more.short ∙ one.short; random = more.random ∙ one.random }

pub with_power_keeps : (h : Gear) → Keeps h (with_power h)
with_power_keeps h = go h.powered where
  go : (b : Bool) → Keeps h (if b then h else record h { powered = true; state = Disabled; search = search_mask; half = None })
  go true = same h
  go false = record { short = refl; random = refl }

-- a fact of what a gear keeps endures
pub keeping_endures : (F : Gear → Type 0) → Endures (λ g h. F g → Keeps g h)
keeping_endures F = record {
  on = λ g h holds f. onward g h (with_power h) (holds f) (with_power_keeps h);
  off = λ g h holds f. onward g h (without_power h) (holds f) (record { short = refl; random = refl });
  expired = λ g h holds f. onward g h (gear_expired h) (holds f) (record { short = refl; random = refl });
  quieted = λ g h holds f. onward g h (gear_quieted h) (holds f) (record { short = refl; random = refl });
}

-- commands at which no gear draws a random address or stores a short one
abbrev pub is_harmless : Command → Bool
is_harmless Randomise = false
is_harmless (Program short) = false
is_harmless _ = true

pub harmless : (c : Command) (draw : ℕ) (h : Gear) → is_harmless c ≡ true → Keeps h (gear_taken c draw h)
harmless Randomise draw h is = absurd (cc)
harmless (Program short) draw h is = absurd (cc)
harmless _ draw h is = record { short = refl; random = refl }

pub harmless_leads : (F : Gear → Type 0) (c : Command) → is_harmless c ≡ true → Leads (λ g h. F g → Keeps g h) (λ g h. F g → Keeps g h) c
harmless_leads F c is = record {
  takes = λ g h draw power holds f. onward g h (gear_taken c draw h) (holds f) (harmless c draw h is);
  sleeps = λ g h power holds. holds;
}

abbrev pub AllHarmless : List Command → Type 0
AllHarmless [] = Unit {0}
AllHarmless (c ∷ cs) = (is_harmless c ≡ true) × AllHarmless cs

all_harmless : (F : Gear → Type 0) (cs : List Command) → AllHarmless cs → AllLead (λ g h. F g → Keeps g h) cs
all_harmless F [] all = tt
all_harmless F (c ∷ cs) all = (harmless_leads F c all.0, all_harmless F cs all.1)

pub harmless_comes : (F : Gear → Type 0) (cs : List Command) → AllHarmless cs → Comes (λ g h. F g → Keeps g h) (λ g h. F g → Keeps g h) cs
harmless_comes F cs all = all_lead (λ g h. F g → Keeps g h) (keeping_endures F) cs (all_harmless F cs all)

-- ---------------------------------------------------------------- gear with other short addresses

abbrev pub IsOther : ℕ → Gear → Type 0
IsOther a g = has_short a g.short ≡ false

record Out (g h : Gear) : Type 0 where
  keeps : Keeps g h
  idle : takes_part h ≡ false

abbrev Outside : ℕ → Gear → Gear → Type 0
Outside a g h = IsOther a g → Out g h

pub power_idle : (h : Gear) → takes_part h ≡ false → takes_part (with_power h) ≡ false
power_idle h idle = go h.powered refl where
  go : (b : Bool) → h.powered ≡ b → takes_part (if b then h else record h { powered = true; state = Disabled; search = search_mask; half = None }) ≡ false
  go true is = idle
  go false is = refl

pub and_false : (b : Bool) → (b && false) ≡ false
and_false true = refl
and_false false = refl

outside_endures : (a : ℕ) → Endures (Outside a)
outside_endures a = record {
  on = λ g h holds other. record {
    keeps = onward g h (with_power h) (holds other).keeps (with_power_keeps h);
    idle = power_idle h (holds other).idle;
  };
  off = λ g h holds other. record {
    keeps = onward g h (without_power h) (holds other).keeps (record { short = refl; random = refl });
    idle = refl;
  };
  expired = λ g h holds other. record {
    keeps = onward g h (gear_expired h) (holds other).keeps (record { short = refl; random = refl });
    idle = and_false h.powered;
  };
  quieted = λ g h holds other. record {
    keeps = onward g h (gear_quieted h) (holds other).keeps (record { short = refl; random = refl });
    idle = (holds other).idle;
  };
}

-- what a gear that has power and takes no part does with a command
inactive : (h : Gear) → h.powered ≡ true → takes_part h ≡ false → is_active h.state ≡ false
inactive h power idle = sym (ap (λ b. b && is_active h.state) power) ∙ idle

concerned_as : (a : ℕ) (short : Option ℕ) → concerns (Addressed a) short ≡ has_short a short
concerned_as a None = refl
concerned_as a (Some b) = refl

enabled_no : (s : InitialisationState) (b c : Bool) → c ≡ false → is_active s ≡ false → is_active (if b && c then Enabled else s) ≡ false
enabled_no s true c unset is = rw unset is
enabled_no s false c unset is = is

-- one step: both addresses, and the state, stay
record Stays (c : Command) (h : Gear) : Type 0 where
  random : draws_a_number c h ≡ false
  short : short_after c h ≡ h.short
  idle : is_active (state_after c h) ≡ false

stays_leads : (a : ℕ) (c : Command) → ((h : Gear) → is_active h.state ≡ false → has_short a h.short ≡ false → Stays c h)
    → Leads (Outside a) (Outside a) c
stays_leads a c stays = record {
  takes = λ g h draw power holds other.
      let was : Out g h = holds other in
      let its : has_short a h.short ≡ false = ap (has_short a) was.keeps.short ∙ other in
      let step : Stays c h = stays h (inactive h power was.idle) its in
      record {
        keeps = onward g h (gear_taken c draw h) was.keeps
            (record { short = step.short; random = ap (λ b. if b then draw else h.random) step.random });
        idle = ap (λ b. h.powered && b) step.idle ∙ and_false h.powered;
      };
  sleeps = λ g h power holds. holds;
}

terminate_leads : (a : ℕ) → Leads (λ g h. IsOther a g → Keeps g h) (Outside a) Terminate
terminate_leads a = record {
  takes = λ g h draw power holds other. record {
    keeps = onward g h (gear_taken Terminate draw h) (holds other) (record { short = refl; random = refl });
    idle = and_false h.powered;
  };
  sleeps = λ g h power holds other. record { keeps = holds other; idle = ap (λ b. b && is_active h.state) power };
}

initialise_stays : (a : ℕ) (h : Gear) → is_active h.state ≡ false → has_short a h.short ≡ false → Stays (Initialise (Addressed a)) h
initialise_stays a h idle other = record {
  random = refl;
  short = refl;
  idle = enabled_no h.state (is_second (Initialise (Addressed a)) h.half) (concerns (Addressed a) h.short) (concerned_as a h.short ∙ other) idle;
}

randomise_stays : (a : ℕ) (h : Gear) → is_active h.state ≡ false → has_short a h.short ≡ false → Stays Randomise h
randomise_stays a h idle other = record {
  random = ap (λ b. is_second Randomise h.half && b) idle ∙ and_false (is_second Randomise h.half);
  short = refl;
  idle = idle;
}

program_stays : (a : ℕ) (h : Gear) → is_active h.state ≡ false → has_short a h.short ≡ false → Stays (Program None) h
program_stays a h idle other = record {
  random = refl;
  short = ap (λ b. if b && is_found h then None else h.short) idle;
  idle = idle;
}

-- the commands that change neither address nor state
abbrev is_still : Command → Bool
is_still (SearchHigh byte) = true
is_still (SearchMiddle byte) = true
is_still (SearchLow byte) = true
is_still QueryShort = true
is_still _ = false

still_stays : (a : ℕ) (c : Command) → is_still c ≡ true → (h : Gear) → is_active h.state ≡ false → has_short a h.short ≡ false → Stays c h
still_stays a (SearchHigh byte) is h idle other = record { random = refl; short = refl; idle = idle }
still_stays a (SearchMiddle byte) is h idle other = record { random = refl; short = refl; idle = idle }
still_stays a (SearchLow byte) is h idle other = record { random = refl; short = refl; idle = idle }
still_stays a QueryShort is h idle other = record { random = refl; short = refl; idle = idle }
still_stays a _ is h idle other = absurd (cc)

still_leads : (a : ℕ) (c : Command) → is_still c ≡ true → Leads (Outside a) (Outside a) c
still_leads a c is = stays_leads a c (still_stays a c is)

-- after TERMINATE that all gear took, only gear with the address take part
opened_keep : (a : ℕ) (more : List Command) → AllLead (Outside a) more
    → Comes (λ g h. IsOther a g → Keeps g h) (λ g h. IsOther a g → Keeps g h) (opening a more)
opened_keep a more lead =
    one_more (λ g h. IsOther a g → Keeps g h) (Outside a) (λ g h. IsOther a g → Keeps g h) Terminate
    (Initialise (Addressed a) ∷ Initialise (Addressed a) ∷ more)
    (keeping_endures (IsOther a)) (λ g h holds. holds) (terminate_leads a) (λ g h out other. (out other).keeps)
    (λ ms gs s each. each_weaker (Outside a) (λ g h. IsOther a g → Keeps g h) (λ g h out other. (out other).keeps) gs
    (sent (Initialise (Addressed a) ∷ Initialise (Addressed a) ∷ more) ms s).gear
    (all_lead (Outside a) (outside_endures a) (Initialise (Addressed a) ∷ Initialise (Addressed a) ∷ more)
    (stays_leads a (Initialise (Addressed a)) (initialise_stays a), (stays_leads a (Initialise (Addressed a)) (initialise_stays a), lead))
    ms gs s each))

others_keep : (a : ℕ) (s : Stage) → Comes (λ g h. IsOther a g → Keeps g h) (λ g h. IsOther a g → Keeps g h) (commands_of a s)
others_keep a (stage.Asking reply times) = harmless_comes (IsOther a) (asking a) (refl, (refl, (refl, tt)))
others_keep a stage.Drawing =
    opened_keep a (Randomise ∷ Randomise ∷ [])
    (stays_leads a Randomise (randomise_stays a), (stays_leads a Randomise (randomise_stays a), tt))
others_keep a stage.Beginning = harmless_comes (IsOther a) (beginning a) (refl, (refl, (refl, tt)))
others_keep a stage.Left = harmless_comes (IsOther a) (probing MASK24) (refl, (refl, (refl, (refl, tt))))
others_keep a (stage.Searching n) = harmless_comes (IsOther a) (probing n) (refl, (refl, (refl, (refl, tt))))
others_keep a (stage.Keeping r times) =
    harmless_comes (IsOther a) (keeping a r) (refl, (refl, (refl, (refl, (refl, (refl, (refl, (refl, tt))))))))
others_keep a (stage.Erasing r) =
    opened_keep a (under r (Program None ∷ QueryShort ∷ [])) (
      still_leads a (SearchHigh (high_of r)) refl,
      (
        still_leads a (SearchMiddle (middle_of r)) refl,
        (
          still_leads a (SearchLow (low_of r)) refl,
          (stays_leads a (Program None) (program_stays a), (still_leads a QueryShort refl, tt)),
        ),
      ),
    )
others_keep a stage.Closing = harmless_comes (IsOther a) closing (refl, tt)
others_keep a (stage.Ending o) = harmless_comes (IsOther a) closing (refl, tt)
others_keep a (stage.Ended o) = harmless_comes (IsOther a) [] tt

-- one transaction after the other
pub all_come : (P : Gear → Gear → Type 0) (a : ℕ) → ((s : Stage) → Comes P P (commands_of a s)) → (xs : List Sending) (gs : List Gear) (s : Site)
    → Each P gs s.gear → Each P gs (all_sent a xs s).gear
all_come P a comes [] gs s each = each
all_come P a comes (x ∷ xs) gs s each = all_come P a comes xs gs (sent (commands_of a x.stage) x.moments s) (comes x.stage x.moments gs s each)

pub each_same : (P : Gear → Gear → Type 0) → ((g : Gear) → P g g) → (gs : List Gear) → Each P gs gs
each_same P is [] = tt
each_same P is (g ∷ gs) = (is g, each_same P is gs)

pub all_others_keep : (a : ℕ) (xs : List Sending) (s : Site) → Each (λ g h. IsOther a g → Keeps g h) s.gear (all_sent a xs s).gear
all_others_keep a xs s =
    all_come (λ g h. IsOther a g → Keeps g h) a (others_keep a) xs s.gear s (each_same (λ g h. IsOther a g → Keeps g h) (λ g other. same g) s.gear)

-- after TERMINATE that all gear took, no other gear takes part
pub others_take_no_part : (a : ℕ) (befalls : List Befall) (ms : List Moment) (s : Site)
    → Each (λ g h. IsOther a g → takes_part h ≡ false) s.gear (sent (beginning a) (record { before = befalls; reach = Everyone } ∷ ms) s).gear
others_take_no_part a befalls ms s =
    each_weaker (Outside a) (λ g h. IsOther a g → takes_part h ≡ false) (λ g h out other. (out other).idle) s.gear
    (sent (Initialise (Addressed a) ∷ Initialise (Addressed a) ∷ []) ms (put_at (record { before = befalls; reach = Everyone }) Terminate s)).gear
    (all_lead (Outside a) (outside_endures a) (Initialise (Addressed a) ∷ Initialise (Addressed a) ∷ [])
    (stays_leads a (Initialise (Addressed a)) (initialise_stays a), (stays_leads a (Initialise (Addressed a)) (initialise_stays a), tt))
    ms s.gear (put_at (record { before = befalls; reach = Everyone }) Terminate s)
    (each_takes (λ g h. IsOther a g → Keeps g h) (Outside a) Terminate (terminate_leads a) 0 s.gear (all_befallen befalls s.gear) s.left
    (all_endure (λ g h. IsOther a g → Keeps g h) (keeping_endures (IsOther a)) befalls s.gear s.gear
    (each_same (λ g h. IsOther a g → Keeps g h) (λ g other. same g) s.gear))))
