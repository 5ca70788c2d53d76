use Rattle.std.proofs.Common.{◌≡◌, ◌≢◌, ℕ, Bool, true, false, ◌&&◌, List, [], ◌∷◌, Option, Some, None, refl, sym, ap, ◌∙◌, inl, inr, arith, if◌then◌else◌, ◌==◌}
use Rattle.std.proofs.Common.{◌⊎◌}
use Rattle.std.proofs.lemmas.Bool.Decides.{nat_tests}
use Rattle.dali_frame.specs.Random.{value_of, high_of, middle_of, low_of, number_of, MASK24}
use Rattle.dali_frame.specs.declared.numbers.SearchAddress.{SearchAddress}
use Rattle.dali_special.specs.declared.command.Command.{Command}
use Rattle.dali_special.specs.declared.command.Command.TheVariants.{Terminate, Initialise, Program, SearchHigh, SearchMiddle, SearchLow, QueryShort}
use Rattle.dali_special.specs.declared.command.Target.TheVariants.{Addressed}
use Rattle.dali_gear.specs.Gear.{Gear, with_power, without_power, gear_expired, gear_quieted, gear_taken, is_active, is_found, search_mask, search_after}
use Rattle.dali_gear.specs.declared.state.InitialisationState.TheVariants.{Disabled}
use Rattle.dali_mending.specs.Course.{IsCourse, IsOfTable, IsFit, Spares}
use Rattle.dali_mending.specs.Rows.{Site, Sending, AllSpare, all_sent, sent, Each, Keeps, IsGivenNone, takes_part}
use Rattle.dali_mending.specs.Transactions.{commands_of, under, asking, beginning, probing, keeping, erasing, closing}
use Rattle.dali_mending.specs.declared.{course.Course.Course, stage.Stage.Stage}
use Rattle.dali_mending.proofs.{Sent.Endures, Sent.Leads, Sent.Comes, Sent.AllLead, Sent.all_lead, Sent.one_more, Sparing.same}
use Rattle.dali_mending.proofs.Sparing.{onward, with_power_keeps, keeping_endures, is_harmless, harmless, harmless_leads, harmless_comes, all_come, each_same}
use Rattle.dali_mending.specs.declared.stage.Stage.TheVariants as stage

-- ---------------------------------------------------------------- gear with the number of a table

abbrev IsWith : ℕ → Gear → Type 0
IsWith r g = g.random ≡ r

-- it keeps both addresses; and if it takes part, its search address has come so far
record Led (F : SearchAddress → Type 0) (g h : Gear) : Type 0 where
  keeps : Keeps g h
  searched : takes_part h ≡ true → F h.search

abbrev Leading : (SearchAddress → Type 0) → ℕ → Gear → Gear → Type 0
Leading F r g h = IsWith r g → Led F g h

no_part : {A : Type 0} (b : Bool) → (b && false) ≡ true → A
no_part true is = absurd (cc)
no_part false is = absurd (cc)

power_searched : (F : SearchAddress → Type 0) (h : Gear) → (takes_part h ≡ true → F h.search) → takes_part (with_power h) ≡ true → F (with_power h).search
power_searched F h searched = go h.powered refl where
  go : (b : Bool) → h.powered ≡ b → takes_part (if b then h else record h { powered = true; state = Disabled; search = search_mask; half = None }) ≡ true
      → F (if b then h else record h { powered = true; state = Disabled; search = search_mask; half = None }).search
  go true is takes = searched takes
  go false is takes = absurd (cc)

led_endures : (F : SearchAddress → Type 0) (r : ℕ) → Endures (Leading F r)
led_endures F r = record {
  on = λ g h holds is. record {
    keeps = onward g h (with_power h) (holds is).keeps (with_power_keeps h);
    searched = power_searched F h (holds is).searched;
  };
  off = λ g h holds is. record {
    keeps = onward g h (without_power h) (holds is).keeps (record { short = refl; random = refl });
    searched = λ takes. absurd (cc);
  };
  expired = λ g h holds is. record {
    keeps = onward g h (gear_expired h) (holds is).keeps (record { short = refl; random = refl });
    searched = no_part h.powered;
  };
  quieted = λ g h holds is. record {
    keeps = onward g h (gear_quieted h) (holds is).keeps (record { short = refl; random = refl });
    searched = (holds is).searched;
  };
}

-- a gear that takes no part, as one without power, has any search address
asleep : (F : SearchAddress → Type 0) (h : Gear) → h.powered ≡ false → takes_part h ≡ true → F h.search
asleep F h power takes = absurd (cc (ap (λ b. b && is_active h.state) power))

-- the commands that set the search address
abbrev Sets : Command → (SearchAddress → Type 0) → (SearchAddress → Type 0) → Type 0
Sets c F G = (h : Gear) → (takes_part h ≡ true → F h.search) → takes_part h ≡ true → G (search_after c h)

sets_leads : (F G : SearchAddress → Type 0) (r : ℕ) (c : Command) → is_harmless c ≡ true
    → ((draw : ℕ) (h : Gear) → takes_part (gear_taken c draw h) ≡ takes_part h) → Sets c F G → Leads (Leading F r) (Leading G r) c
sets_leads F G r c is same_part sets = record {
  takes = λ g h draw power holds with. record {
    keeps = onward g h (gear_taken c draw h) (holds with).keeps (harmless c draw h is);
    searched = λ takes. sets h (holds with).searched (sym (same_part draw h) ∙ takes);
  };
  sleeps = λ g h power holds with. record { keeps = (holds with).keeps; searched = asleep G h power };
}

abbrev Anything : SearchAddress → Type 0
Anything s = Unit {0}

abbrev HasHigh : ℕ → SearchAddress → Type 0
HasHigh n s = s.high ≡ high_of n

abbrev HasMiddle : ℕ → SearchAddress → Type 0
HasMiddle n s = (s.high ≡ high_of n) × (s.middle ≡ middle_of n)

abbrev IsAt : ℕ → SearchAddress → Type 0
IsAt n s = (s.high ≡ high_of n) × (s.middle ≡ middle_of n) × (s.low ≡ low_of n)

active : (h : Gear) → takes_part h ≡ true → is_active h.state ≡ true
active h takes = go h.powered takes where
  go : (b : Bool) → (b && is_active h.state) ≡ true → is_active h.state ≡ true
  go true takes = takes
  go false takes = absurd (cc)

sets_high : (n : ℕ) → Sets (SearchHigh (high_of n)) Anything (HasHigh n)
sets_high n h was takes = rw (active h takes) refl

sets_middle : (n : ℕ) → Sets (SearchMiddle (middle_of n)) (HasHigh n) (HasMiddle n)
sets_middle n h was takes = rw (active h takes) (was takes, refl)

sets_low : (n : ℕ) → Sets (SearchLow (low_of n)) (HasMiddle n) (IsAt n)
sets_low n h was takes = rw (active h takes) ((was takes).0, (was takes).1, refl)

-- the number of three bytes is the number
number_back : (n h m l : ℕ) → h ≡ high_of n → m ≡ middle_of n → l ≡ low_of n → number_of h m l ≡ n
number_back n h m l high middle low = omega arith

unequal : (x y r n : ℕ) → x ≡ r → y ≡ n → r ≢ n → (x == y) ≡ false
unequal x y r n one other differ = grind (arith, nat_tests)

program_keeps : (r n draw : ℕ) (h : Gear) → r ≢ n → h.powered ≡ true → h.random ≡ r → (takes_part h ≡ true → IsAt n h.search)
    → Keeps h (gear_taken (Program None) draw h)
program_keeps r n draw h differ power with at = record { short = go (is_active h.state) refl; random = refl } where
  go : (b : Bool) → is_active h.state ≡ b → (if b && is_found h then None else h.short) ≡ h.short
  go false is = refl
  go true is =
      let takes : takes_part h ≡ true = ap (λ b. b && is_active h.state) power ∙ is in
      let its = at takes in
      let no : is_found h ≡ false = unequal h.random (value_of h.search) r n with
      (number_back n h.search.high h.search.middle h.search.low its.0 its.1 its.2) differ in
      ap (λ b. if b then None else h.short) no

program_leads : (r n : ℕ) → r ≢ n → Leads (Leading (IsAt n) r) (λ g h. IsWith r g → Keeps g h) (Program None)
program_leads r n differ = record {
  takes = λ g h draw power holds with.
      onward g h (gear_taken (Program None) draw h) (holds with).keeps
      (program_keeps r n draw h differ power ((holds with).keeps.random ∙ with) (holds with).searched);
  sleeps = λ g h power holds with. (holds with).keeps;
}

any_searched : (r : ℕ) (c : Command) → is_harmless c ≡ true → Leads (λ g h. IsWith r g → Keeps g h) (Leading Anything r) c
any_searched r c is = record {
  takes = λ g h draw power holds with. record { keeps = onward g h (gear_taken c draw h) (holds with) (harmless c draw h is); searched = λ takes. tt };
  sleeps = λ g h power holds with. record { keeps = holds with; searched = λ takes. tt };
}

erasing_keeps : (a r n : ℕ) → r ≢ n → Comes (λ g h. IsWith r g → Keeps g h) (λ g h. IsWith r g → Keeps g h) (erasing a n)
erasing_keeps a r n differ =
    let K : Gear → Gear → Type 0 = λ g h. IsWith r g → Keeps g h in
    let kept : (g h : Gear) → K g h → K g h = λ g h holds. holds in
    let ends = harmless_comes (IsWith r) (QueryShort ∷ []) (refl, tt) in
    let programmed = one_more (Leading (IsAt n) r) K K (Program None) (QueryShort ∷ []) (led_endures (IsAt n) r) (λ g h holds with. (holds with).keeps)
    (program_leads r n differ) kept ends in
    let low = one_more (Leading (HasMiddle n) r) (Leading (IsAt n) r) K (SearchLow (low_of n)) (Program None ∷ QueryShort ∷ []) (led_endures (HasMiddle n) r)
    (λ g h holds with. (holds with).keeps) (sets_leads (HasMiddle n) (IsAt n) r (SearchLow (low_of n)) refl (λ draw h. refl) (sets_low n))
    (λ g h holds with. (holds with).keeps) programmed in
    let middle = one_more (Leading (HasHigh n) r) (Leading (HasMiddle n) r) K (SearchMiddle (middle_of n))
    (SearchLow (low_of n) ∷ Program None ∷ QueryShort ∷ [])
    (led_endures (HasHigh n) r) (λ g h holds with. (holds with).keeps)
    (sets_leads (HasHigh n) (HasMiddle n) r (SearchMiddle (middle_of n)) refl (λ draw h. refl) (sets_middle n))
    (λ g h holds with. (holds with).keeps) low in
    let high = one_more (Leading Anything r) (Leading (HasHigh n) r) K (SearchHigh (high_of n))
    (SearchMiddle (middle_of n) ∷ SearchLow (low_of n) ∷ Program None ∷ QueryShort ∷ [])
    (led_endures Anything r) (λ g h holds with. (holds with).keeps)
    (sets_leads Anything (HasHigh n) r (SearchHigh (high_of n)) refl (λ draw h. refl) (sets_high n))
    (λ g h holds with. (holds with).keeps) middle in
    let second = one_more K (Leading Anything r) K (Initialise (Addressed a)) (under n (Program None ∷ QueryShort ∷ [])) (keeping_endures (IsWith r)) kept
    (any_searched r (Initialise (Addressed a)) refl) (λ g h holds with. (holds with).keeps) high in
    let first = one_more K K K (Initialise (Addressed a)) (Initialise (Addressed a) ∷ under n (Program None ∷ QueryShort ∷ []))
    (keeping_endures (IsWith r)) kept
    (harmless_leads (IsWith r) (Initialise (Addressed a)) refl) kept second in
    one_more K K K Terminate (Initialise (Addressed a) ∷ Initialise (Addressed a) ∷ under n (Program None ∷ QueryShort ∷ [])) (keeping_endures (IsWith r)) kept
    (harmless_leads (IsWith r) Terminate refl) kept first

tabled_keep : (a r : ℕ) (s : Stage) → Spares r s → Comes (λ g h. IsWith r g → Keeps g h) (λ g h. IsWith r g → Keeps g h) (commands_of a s)
tabled_keep a r (stage.Asking reply times) spares = harmless_comes (IsWith r) (asking a) (refl, (refl, (refl, tt)))
tabled_keep a r stage.Drawing spares = absurd spares
tabled_keep a r stage.Beginning spares = harmless_comes (IsWith r) (beginning a) (refl, (refl, (refl, tt)))
tabled_keep a r stage.Left spares = harmless_comes (IsWith r) (probing MASK24) (refl, (refl, (refl, (refl, tt))))
tabled_keep a r (stage.Searching n) spares = harmless_comes (IsWith r) (probing n) (refl, (refl, (refl, (refl, tt))))
tabled_keep a r (stage.Keeping n times) spares =
    harmless_comes (IsWith r) (keeping a n) (refl, (refl, (refl, (refl, (refl, (refl, (refl, (refl, tt))))))))
tabled_keep a r (stage.Erasing n) spares = erasing_keeps a r n spares
tabled_keep a r stage.Closing spares = harmless_comes (IsWith r) closing (refl, tt)
tabled_keep a r (stage.Ending o) spares = harmless_comes (IsWith r) closing (refl, tt)
tabled_keep a r (stage.Ended o) spares = harmless_comes (IsWith r) [] tt

pub all_tabled_keep : (a r : ℕ) (xs : List Sending) (s : Site) → AllSpare r xs → Each (λ g h. IsWith r g → Keeps g h) s.gear (all_sent a xs s).gear
all_tabled_keep a r xs s spare = go xs s.gear s spare (each_same (λ g h. IsWith r g → Keeps g h) (λ g with. same g) s.gear) where
  go : (xs : List Sending) (gs : List Gear) (s : Site) → AllSpare r xs → Each (λ g h. IsWith r g → Keeps g h) gs s.gear
      → Each (λ g h. IsWith r g → Keeps g h) gs (all_sent a xs s).gear
  go [] gs s spare each = each
  go (x ∷ xs) gs s spare each =
      go xs gs (sent (commands_of a x.stage) x.moments s) spare.1 (tabled_keep a r x.stage spare.0 x.moments gs s each)

-- a mending that has a table spares its gear
pub course_spares : (c : Course) (r : ℕ) → IsCourse c → c.table ≡ Some r → Spares r c.stage
course_spares c r is has = go c.table c.keeper c.stage is.keeper is.fit has where
  go : (table keeper : Option ℕ) (s : Stage) → IsOfTable table keeper → IsFit table keeper s → table ≡ Some r → Spares r s
  go None keeper s of fit has = absurd (cc)
  go (Some k) keeper stage.Drawing of fit has = absurd (cc)
  go (Some k) keeper (stage.Erasing n) of fit has = λ same. fit.2 (cc)
  go (Some k) keeper _ of fit has = tt

-- ---------------------------------------------------------------- no short address is given

none_then : (g h i : Gear) → IsGivenNone g h → IsGivenNone h i → IsGivenNone g i
none_then g h i one (inr none) = inr none
none_then g h i (inl kept) (inl more) = inl (more ∙ kept)
none_then g h i (inr none) (inl more) = inr (more ∙ none)

with_power_gives : (h : Gear) → IsGivenNone h (with_power h)
with_power_gives h = inl (with_power_keeps h).short

none_endures : Endures IsGivenNone
none_endures = record {
  on = λ g h holds. none_then g h (with_power h) holds (with_power_gives h);
  off = λ g h holds. none_then g h (without_power h) holds (inl refl);
  expired = λ g h holds. none_then g h (gear_expired h) holds (inl refl);
  quieted = λ g h holds. none_then g h (gear_quieted h) holds (inl refl);
}

abbrev gives_none : Command → Bool
gives_none (Program (Some a)) = false
gives_none _ = true

erased_or_not : (h : Gear) (b : Bool) → ((if b then None else h.short) ≡ h.short) ⊎ ((if b then None else h.short) ≡ None)
erased_or_not h true = inr refl
erased_or_not h false = inl refl

none_given : (c : Command) (draw : ℕ) (h : Gear) → gives_none c ≡ true → IsGivenNone h (gear_taken c draw h)
none_given (Program None) draw h is = erased_or_not h (is_active h.state && is_found h)
none_given (Program (Some a)) draw h is = absurd (cc)
none_given _ draw h is = inl refl

none_leads : (c : Command) → gives_none c ≡ true → Leads IsGivenNone IsGivenNone c
none_leads c is = record {
  takes = λ g h draw power holds. none_then g h (gear_taken c draw h) holds (none_given c draw h is);
  sleeps = λ g h power holds. holds;
}

abbrev AllGiveNone : List Command → Type 0
AllGiveNone [] = Unit {0}
AllGiveNone (c ∷ cs) = (gives_none c ≡ true) × AllGiveNone cs

all_give_none : (cs : List Command) → AllGiveNone cs → AllLead IsGivenNone cs
all_give_none [] all = tt
all_give_none (c ∷ cs) all = (none_leads c all.0, all_give_none cs all.1)

commands_give_none : (a : ℕ) (s : Stage) → AllGiveNone (commands_of a s)
commands_give_none a (stage.Asking reply times) = (refl, (refl, (refl, tt)))
commands_give_none a stage.Drawing = (refl, (refl, (refl, (refl, (refl, tt)))))
commands_give_none a stage.Beginning = (refl, (refl, (refl, tt)))
commands_give_none a stage.Left = (refl, (refl, (refl, (refl, tt))))
commands_give_none a (stage.Searching n) = (refl, (refl, (refl, (refl, tt))))
commands_give_none a (stage.Keeping r times) = (refl, (refl, (refl, (refl, (refl, (refl, (refl, (refl, tt))))))))
commands_give_none a (stage.Erasing r) = (refl, (refl, (refl, (refl, (refl, (refl, (refl, (refl, tt))))))))
commands_give_none a stage.Closing = (refl, tt)
commands_give_none a (stage.Ending o) = (refl, tt)
commands_give_none a (stage.Ended o) = tt

pub none_is_given : (a : ℕ) (xs : List Sending) (s : Site) → Each IsGivenNone s.gear (all_sent a xs s).gear
none_is_given a xs s =
    all_come IsGivenNone a (λ t. all_lead IsGivenNone none_endures (commands_of a t) (all_give_none (commands_of a t) (commands_give_none a t))) xs s.gear s
    (each_same IsGivenNone (λ g. inl refl) s.gear)
