use Rattle.std.proofs.Common.{◌≡◌, ◌⊎◌, inl, inr, ℕ, Bool, true, false, refl, sym, ap, ap₂, subst, ◌∙◌, List, [], ◌∷◌, ◌++◌, map, Option, Some, None, ◌&&◌}
use Rattle.std.{proofs.Common.{slice_get, ◌==◌, not, if◌then◌else◌}, proofs.lemmas.List.{map-append, append_assoc}, specs.{Prelude.is_some, List.list_all}}
use Rattle.dali_frame.specs.declared.frames.Answer.{Answer}
use Rattle.dali_port.specs.declared.orders.Word.{Word}
use Rattle.dali_port.specs.Orders.{is_later}
use Rattle.dali_port.specs.declared.orders.Word.TheVariants.{Heard as Told, Destroyed as Lost, Lapsed}
use Rattle.dali_bus_laws.specs.{Bus.Edges, Breaks.Alternate}
use Rattle.dali_statement.specs.Page.{Command, Heard, Gear, Moment, Sent, Destroyed, Reserves, Enrols, Releases, Power, Expires, Plan, Site, start, hears}
use Rattle.dali_statement.specs.Page.{are_apart, may_send, allowed, IsPlan, IsHistory, KeepsPromise, after, all_allowed, happens, gear_after}
use Rattle.dali_statement.specs.Page.{heard_by, list_after}
use Rattle.dali_statement.specs.Scripts.{heard_seen}
use Rattle.dali_statement.proofs.{Tests.{both, first_of_both, second_of_both, equal, some_is}, One.may_longer, Whole.every_history_keeps_the_promise}
use Rattle.dali_pin_laws.specs.Frames.{OnBus, Put, shown, command_in, told_more, told_of, lost_of, moment_by, reached, IsOnBus, hears_by, frame_moment}
use Rattle.dali_pin_laws.specs.Runs.{Event, Frame, Else, moment_of, row_by, row_all, IsSo, IsRun, Known, said_before, said_after, put_of, known_by, known_after}
use Rattle.dali_pin_laws.specs.Runs.{may_put, keeps, all_keep, at_first, HoldsAt, KeepsAtPins}
use Rattle.dali_pin_laws.proofs.Frames.{sent_once, frame_row}

-- A RUN AT THE PINS is a history of the page, with the same gear.

happens_gear : (s : Site) (m : Moment) → (happens s m).gear ≡ gear_after m s.gear
happens_gear s (Sent x senders reach) = refl
happens_gear s (Destroyed frames reach) = refl
happens_gear s (Reserves c a r) = refl
happens_gear s (Enrols c a r) = refl
happens_gear s (Releases c a r b) = refl
happens_gear s (Power reach) = refl
happens_gear s (Expires reach) = refl

row_is : (e : Event) (gs : List Gear) → IsSo e gs → row_by e gs ≡ gear_after (moment_of e) gs
row_is (Frame b) gs h = frame_row b gs h
row_is (Else m) gs h = refl

next_row : (e : Event) (s : Site) → IsSo e s.gear → row_by e s.gear ≡ (happens s (moment_of e)).gear
next_row e s h = row_is e s.gear h ∙ sym (happens_gear s (moment_of e))

-- ---------------------------------------------------------------- rules

all_lost : {bus : Edges} (s : Site) (ws : List (Put bus)) → list_all (λ (w : Put bus). may_send s w.who (command_in w)) ws ≡ true
    → list_all (λ (f : ℕ × Command). may_send s f.0 f.1) (map lost_of ws) ≡ true
all_lost s [] all = refl
all_lost s (w ∷ ws) all =
    both (first_of_both (may_send s w.who (command_in w)) _ all) (all_lost s ws (second_of_both (may_send s w.who (command_in w)) _ all))

-- those who were told, if all put one command
all_told : {bus : Edges} (s : Site) (x : Command) (ws : List (Put bus)) → ((w : Put bus) (heard : Answer) → w.word ≡ Told heard → command_in w ≡ x)
    → list_all (λ (w : Put bus). may_send s w.who (command_in w)) ws ≡ true
    → list_all (λ (w : Put bus). hears_by (command_in w) w.word s.gear) ws ≡ true
    → list_all (λ (v : ℕ × Heard). may_send s v.0 x && hears x v.1 s.gear) (told_of ws) ≡ true
all_told s x [] one may heard = refl
all_told {bus} s x (w ∷ ws) one may heard =
    go w.word refl (first_of_both (hears_by (command_in w) w.word s.gear) _ heard)
    (all_told s x ws one (second_of_both (may_send s w.who (command_in w)) _ may) (second_of_both (hears_by (command_in w) w.word s.gear) _ heard))
  where
    go : (word : Word) → w.word ≡ word → hears_by (command_in w) word s.gear ≡ true
        → list_all (λ (v : ℕ × Heard). may_send s v.0 x && hears x v.1 s.gear) (told_of ws) ≡ true
        → list_all (λ (v : ℕ × Heard). may_send s v.0 x && hears x v.1 s.gear) (told_more w.who word (told_of ws)) ≡ true
    go (Told h) is so later =
        both
        (subst (λ y. (may_send s w.who y && hears y (heard_seen h) s.gear) ≡ true) (one w h is)
        (both (first_of_both (may_send s w.who (command_in w)) _ may) so))
        later
    go Lost is so later = later
    go Lapsed is so later = later

is_allowed : (p : Plan) (s : Site) (b : OnBus) → IsOnBus b s.gear → list_all (λ (w : Put b.bus). may_send s w.who (command_in w)) b.puts ≡ true
    → allowed p s (frame_moment b) ≡ true
is_allowed p s b h keep = go b.puts (told_of b.puts) refl h.heard keep where
  go : (ws : List (Put b.bus)) (told : List (ℕ × Heard)) → told_of ws ≡ told
      → list_all (λ (w : Put b.bus). hears_by (command_in w) w.word s.gear) ws ≡ true
      → list_all (λ (w : Put b.bus). may_send s w.who (command_in w)) ws ≡ true
      → allowed p s (moment_by ws told (map reached b.views)) ≡ true
  go ws [] is heard keep = all_lost s ws keep
  go [] (t ∷ told) is heard keep = absurd (let no : [] ≡ t ∷ told = is in cc)
  go (w ∷ ws) (t ∷ told) is heard keep =
      subst (λ ts. list_all (λ (v : ℕ × Heard). may_send s v.0 (command_in w) && hears (command_in w) v.1 s.gear) ts ≡ true) is
      (all_told s (command_in w) (w ∷ ws) (λ v g e. ap shown (sent_once b.bus h.turns v w g e)) keep heard)

-- ---------------------------------------------------------------- lists

-- what a controller knows is the newest part of its list on the page
abbrev Knows : Site → (ℕ → Known) → Type 0
Knows s known = (c : ℕ) → (known c).broken ≡ false → (older : List (Command × Heard)) × (s.said c ≡ (known c).said ++ older)

said_so : {bus : Edges} (s : Site) (k : Known) (w : Put bus) → (k.broken ≡ false → (older : List (Command × Heard)) × (s.said w.who ≡ k.said ++ older))
    → may_put s k w ≡ true → (older : List (Command × Heard)) × (s.said w.who ≡ said_before w k.said ++ older)
said_so s k w knows may = go (is_later w.order) k.broken refl (first_of_both (not (is_later w.order && k.broken)) _ may) where
  go : (l b : Bool) → k.broken ≡ b → not (l && b) ≡ true → (older : List (Command × Heard)) × (s.said w.who ≡ (if l then k.said else []) ++ older)
  go true true _ h = absurd (cc)
  go true false is _ = knows is
  go false b _ _ = (s.said w.who, refl)

may_page : {bus : Edges} (s : Site) (known : ℕ → Known) (ws : List (Put bus)) → Knows s known
    → list_all (λ (w : Put bus). may_put s (known w.who) w) ws ≡ true → list_all (λ (w : Put bus). may_send s w.who (command_in w)) ws ≡ true
may_page s known [] knows all = refl
may_page s known (w ∷ ws) knows all =
    let may = first_of_both (may_put s (known w.who) w) _ all in
    let so = said_so s (known w.who) w (knows w.who) may in
    both
    (may_longer s w.who (said_before w (known w.who).said) so.0 (command_in w) so.1
    (second_of_both (not (is_later w.order && (known w.who).broken)) _ may))
    (may_page s known ws knows (second_of_both (may_put s (known w.who) w) _ all))

put_is : {bus : Edges} (c : ℕ) (ws : List (Put bus)) (w : Put bus) (test : Put bus → Bool) → list_all test ws ≡ true → put_of c ws ≡ Some w
    → (test w ≡ true) × (w.who ≡ c)
put_is c [] w test all is = absurd (let no : None ≡ Some w = is in cc)
put_is {bus} c (v ∷ vs) w test all is = go (v.who == c) refl is (put_is c vs w test (second_of_both (test v) _ all)) where
  go : (b : Bool) → (v.who == c) ≡ b → (if b then Some v else put_of c vs) ≡ Some w → (put_of c vs ≡ Some w → (test w ≡ true) × (w.who ≡ c))
      → (test w ≡ true) × (w.who ≡ c)
  go true e is later = subst (λ (x : Put bus). (test x ≡ true) × (x.who ≡ c)) (some_is is) (first_of_both (test v) _ all, equal v.who c e)
  go false e is later = later is

heard_put : {bus : Edges} (c : ℕ) (ws : List (Put bus)) (w : Put bus) (h : Answer) → put_of c ws ≡ Some w → w.word ≡ Told h
    → heard_by c (told_of ws) ≡ Some (heard_seen h)
heard_put c [] w h is word = absurd (let no : None ≡ Some w = is in cc)
heard_put {bus} c (v ∷ vs) w h is word = go v.word (v.who == c) refl refl is (λ is. heard_put c vs w h is word) where
  same : Some v ≡ Some w → v.word ≡ Told h
  same is = ap (λ (x : Put bus). x.word) (some_is is) ∙ word

  told_is : {g : Answer} → Told g ≡ Told h → g ≡ h
  told_is {g} e = cc

  go : (word : Word) (b : Bool) → v.word ≡ word → (v.who == c) ≡ b → (if b then Some v else put_of c vs) ≡ Some w
      → (put_of c vs ≡ Some w → heard_by c (told_of vs) ≡ Some (heard_seen h)) → heard_by c (told_more v.who word (told_of vs)) ≡ Some (heard_seen h)
  go (Told g) true e at is later =
      ap (λ b. if b then Some (heard_seen g) else heard_by c (told_of vs)) at ∙ ap (λ k. Some (heard_seen k)) (told_is (sym e ∙ same is))
  go (Told g) false e at is later = ap (λ b. if b then Some (heard_seen g) else heard_by c (told_of vs)) at ∙ later is
  go Lost true e at is later = absurd (let no : Lost ≡ Told h = sym e ∙ same is in cc)
  go Lost false e at is later = later is
  go Lapsed true e at is later = absurd (let no : Lapsed ≡ Told h = sym e ∙ same is in cc)
  go Lapsed false e at is later = later is

-- a frame that was sent joins the list of its sender
joins : (s : Site) (b : OnBus) (c : ℕ) (w : Put b.bus) (h : Answer) → Alternate false b.bus → put_of c b.puts ≡ Some w → w.word ≡ Told h
    → (happens s (frame_moment b)).said c ≡ (command_in w, heard_seen h) ∷ s.said c
joins s b c w h turns is word = go b.puts (told_of b.puts) is refl (heard_put c b.puts w h is word) where
  go : (ws : List (Put b.bus)) (told : List (ℕ × Heard)) → put_of c ws ≡ Some w → told_of ws ≡ told → heard_by c (told_of ws) ≡ Some (heard_seen h)
      → (happens s (moment_by ws told (map reached b.views))).said c ≡ (command_in w, heard_seen h) ∷ s.said c
  go ws [] at e heard = absurd (let no : None ≡ Some (heard_seen h) = subst (λ ts. heard_by c ts ≡ Some (heard_seen h)) e heard in cc)
  go [] (t ∷ told) at e heard = absurd (let no : None ≡ Some w = at in cc)
  go (v ∷ vs) (t ∷ told) at e heard =
      ap (λ o. list_after (command_in v) o (s.said c)) (subst (λ ts. heard_by c ts ≡ Some (heard_seen h)) e heard)
      ∙ ap (λ f. (shown f, heard_seen h) ∷ s.said c) (sym (sent_once b.bus turns w v h word))

put_knows : (s : Site) (b : OnBus) (k : Known) (c : ℕ) (w : Put b.bus) → Alternate false b.bus → put_of c b.puts ≡ Some w
    → (older : List (Command × Heard)) × (s.said c ≡ said_before w k.said ++ older)
    → (older : List (Command × Heard)) × ((happens s (frame_moment b)).said c ≡ said_after (command_in w) w.word (said_before w k.said) ++ older)
put_knows s b k c w turns is before = go w.word refl where
  go : (word : Word) → w.word ≡ word
      → (older : List (Command × Heard)) × ((happens s (frame_moment b)).said c ≡ said_after (command_in w) word (said_before w k.said) ++ older)
  go (Told h) e = (before.0, joins s b c w h turns is e ∙ ap (λ said. (command_in w, heard_seen h) ∷ said) before.1)
  go Lost e = ((happens s (frame_moment b)).said c, refl)
  go Lapsed e = ((happens s (frame_moment b)).said c, refl)

frame_knows : (s : Site) (known : ℕ → Known) (b : OnBus) → Knows s known → Alternate false b.bus
    → list_all (λ (w : Put b.bus). may_put s (known w.who) w) b.puts ≡ true → (c : ℕ) → (known_by (put_of c b.puts) (known c)).broken ≡ false
    → (older : List (Command × Heard)) × ((happens s (frame_moment b)).said c ≡ (known_by (put_of c b.puts) (known c)).said ++ older)
frame_knows s known b knows turns all c ok = go (put_of c b.puts) refl ok where
  go : (o : Option (Put b.bus)) → put_of c b.puts ≡ o → (known_by o (known c)).broken ≡ false
      → (older : List (Command × Heard)) × ((happens s (frame_moment b)).said c ≡ (known_by o (known c)).said ++ older)
  go None is ok = absurd (cc)
  go (Some w) is ok =
      let at = put_is c b.puts w (λ (w : Put b.bus). may_put s (known w.who) w) all is in
      put_knows s b (known c) c w turns is
      (subst (λ d. (older : List (Command × Heard)) × (s.said d ≡ said_before w (known d).said ++ older)) at.1
      (said_so s (known w.who) w (knows w.who) at.0))

knows_after : (p : Plan) (s : Site) (known : ℕ → Known) (e : Event) → Knows s known → IsSo e s.gear → keeps p s known e ≡ true
    → Knows (happens s (moment_of e)) (known_after e known)
knows_after p s known (Frame b) knows so keep = λ c ok. frame_knows s known b knows so.turns keep c ok
knows_after p s known (Else (Sent x senders reach)) knows so keep = λ c ok. absurd (let no : true ≡ false = ok in cc)
knows_after p s known (Else (Destroyed frames reach)) knows so keep = λ c ok. absurd (let no : true ≡ false = ok in cc)
knows_after p s known (Else (Reserves c a r)) knows so keep = knows
knows_after p s known (Else (Enrols c a r)) knows so keep = knows
knows_after p s known (Else (Releases c a r b)) knows so keep = knows
knows_after p s known (Else (Power reach)) knows so keep = knows
knows_after p s known (Else (Expires reach)) knows so keep = knows

event_allowed : (p : Plan) (s : Site) (known : ℕ → Known) (e : Event) → Knows s known → IsSo e s.gear → keeps p s known e ≡ true
    → allowed p s (moment_of e) ≡ true
event_allowed p s known (Frame b) knows so keep = is_allowed p s b so (may_page s known b.puts knows keep)
event_allowed p s known (Else m) knows so keep = keep

all_are : (p : Plan) (s : Site) (known : ℕ → Known) (es : List Event) → Knows s known → IsRun s.gear es → all_keep p s known es ≡ true
    → all_allowed p s (map moment_of es) ≡ true
all_are p s known [] knows run keep = refl
all_are p s known (e ∷ es) knows run keep =
    let now = first_of_both (keeps p s known e) _ keep in
    both (both run.0 (event_allowed p s known e knows run.1 now))
    (all_are p (happens s (moment_of e)) (known_after e known) es (knows_after p s known e knows run.1 now)
    (subst (λ gs. IsRun gs es) (next_row e s run.1) run.2) (second_of_both (keeps p s known e) _ keep))

pub is_history : (p : Plan) (es : List Event) → IsPlan p → IsRun p.gear es → all_keep p (start p) at_first es ≡ true → IsHistory p (map moment_of es)
is_history p es plan run keep = (plan, all_are p (start p) at_first es (λ c ok. ([], refl)) run keep)

-- ---------------------------------------------------------------- the gear

run_before : (earlier more : List Event) (gs : List Gear) → IsRun gs (earlier ++ more) → IsRun gs earlier
run_before [] more gs run = tt
run_before (e ∷ earlier) more gs run = (run.0, run.1, run_before earlier more (row_by e gs) run.2)

pub rows_are : (s : Site) (es : List Event) → IsRun s.gear es → row_all s.gear es ≡ (after s (map moment_of es)).gear
rows_are s [] run = refl
rows_are s (e ∷ es) run =
    ap (λ gs. row_all gs es) (next_row e s run.1)
    ∙ rows_are (happens s (moment_of e)) es (subst (λ gs. IsRun gs es) (next_row e s run.1) run.2)

module _ (p : Plan) (es : List Event) (plan : IsPlan p) (run : IsRun p.gear es) (keep : all_keep p (start p) at_first es ≡ true) where
  kept : KeepsPromise p (map moment_of es)
  kept = every_history_keeps_the_promise p (map moment_of es) (is_history p es plan run keep)

  here : (earlier more : List Event) → earlier ++ more ≡ es → row_all p.gear earlier ≡ (after (start p) (map moment_of earlier)).gear
  here earlier more is = rows_are (start p) earlier (run_before earlier more p.gear (subst (λ es. IsRun p.gear es) (sym is) run))

  parts : (earlier more : List Event) → earlier ++ more ≡ es → map moment_of earlier ++ map moment_of more ≡ map moment_of es
  parts earlier more is = sym (map-append moment_of earlier more) ∙ ap (map moment_of) is

  pub keeps_pins : KeepsAtPins p es
  keeps_pins = record {
    one_gear = λ earlier more is g h a r q one two.
        (kept.always (map moment_of earlier) (map moment_of more) (parts earlier more is)).one_gear g h a r q
        (subst (λ gs. HoldsAt gs g a r) (here earlier more is) one) (subst (λ gs. HoldsAt gs h a q) (here earlier more is) two);
    ever_after = λ earlier later rest is g a r one.
        let both_is : (earlier ++ later) ++ rest ≡ es = append_assoc earlier later rest ∙ is in
        subst (λ gs. HoldsAt gs g a r)
        (sym (here (earlier ++ later) rest both_is ∙ ap (λ ms. (after (start p) ms).gear) (map-append moment_of earlier later)))
        (kept.ever_after (map moment_of earlier) (map moment_of later) (map moment_of rest)
        (ap (λ ms. map moment_of earlier ++ ms) (sym (map-append moment_of later rest)) ∙ parts earlier (later ++ rest) is) g a r
        (subst (λ gs. HoldsAt gs g a r) (here earlier (later ++ rest) is) one));
    tables = λ earlier more is c a r enrolled.
        let found = (kept.always (map moment_of earlier) (map moment_of more) (parts earlier more is)).tables c a r enrolled in
        (found.0, subst (λ gs. HoldsAt gs found.0 a r) (sym (here earlier more is)) found.1);
  }

pub keeps_at_pins : (p : Plan) (es : List Event) → IsPlan p → IsRun p.gear es → all_keep p (start p) at_first es ≡ true → KeepsAtPins p es
keeps_at_pins p es plan run keep = keeps_pins p es plan run keep
