use Rattle.std.proofs.Common.{◌≡◌, ℕ, ◌+◌, ◌*◌, ◌/◌, ◌%◌, Bool, true, false, refl, sym, ap, subst, ◌∙◌, arith, List, [], ◌∷◌, ◌++◌, map, Option, Some, None}
use Rattle.std.proofs.Common.{◌==◌, rules, ◌&&◌, if◌then◌else◌, option_map, nat_lt}
use Rattle.dali_frame.specs.{Random.value_of, Short.short_of, declared.{frames.{Answer.Answer, Forward.Forward}, numbers.SearchAddress.SearchAddress}}
use Rattle.dali_special.specs.{Command.{command_of, MASK}, declared.command.Command.Command as Read}
use Rattle.dali_script.specs.{Findings.{search_after, at_power_on, search_from, search_of}, Records.{Assignment, Has}, Scripts.{Step, sends, is_asking}}
use Rattle.dali_script.specs.Scripts.{AreAsking, Script, Call, Hunt, Give, steps, IsHeard, MaySend}
use Rattle.dali_script.specs.{Scripts.{IsFront, Lawful}, declared.{block.Block.Block, trace.Entry.Entry}}
use Rattle.dali_statement.{proofs.{Tests.{both, first_of_both, equal, equals, holds_by, some_is}, One.{may_longer, tells_longer}}, specs.Gear.command_seen}
use Rattle.dali_statement.specs.Page.{Part, High, Middle, Low, byte, Command, Search, QueryShort, code, holds, Heard, Byte, Site, number_sent, is_vacant, tells}
use Rattle.dali_statement.specs.{Page.may_send, Scripts.{heard_seen, entry_seen, said_on, said_of}}
use Rattle.dali_frame.specs.declared.frames.Answer.TheVariants as answer
use Rattle.dali_special.specs.declared.command.Command.TheVariants as read

-- THE SCRIPTS KEEP RULES 1 AND 2, and QUERY SHORT ADDRESS is sent under a whole number.

-- a site of which only this is looked at
abbrev sent_so : (ℕ → Option ℕ) → List (Command × Heard) → Site
sent_so reserved said = record { gear = []; said = λ c. said; told = λ q a v. false; reserved = λ c a. reserved a; enrolled = λ c a r. false }

abbrev may : (ℕ → Option ℕ) → List (Command × Heard) → Read → Bool
may reserved said c = may_send (sent_so reserved said) 0 (command_seen c)

may_at : (s : Site) (c : ℕ) (x : Read) → may_send s c (command_seen x) ≡ may (s.reserved c) (s.said c) x
may_at s c (read.Program None) = refl
may_at s c _ = refl

abbrev asks : Read → Bool
asks read.QueryShort = true
asks _ = false

-- each step may be sent after those before it, however they are heard; and QUERY SHORT ADDRESS only under a whole number
Keeps : (ℕ → Option ℕ) → SearchAddress → List (Command × Heard) → List Step → Type 0
Keeps reserved r said [] = Unit {0}
Keeps reserved r said (st ∷ ss) =
    (may reserved said st.command ≡ true) × (asks st.command ≡ true → number_sent said ≡ Some (value_of r))
    × ((h : Answer) → IsHeard st.wanted h → Keeps reserved (search_after st.command r) ((command_seen st.command, heard_seen h) ∷ said) ss)

never : {A : Type 0} → false ≡ true → A
never {A} e = absurd (cc)

-- ---------------------------------------------------------------- along a trace

along : (reserved : ℕ → Option ℕ) (r : SearchAddress) (said : List (Command × Heard)) (t : List Entry) (f : Forward) (ss : List Step) → IsFront t f ss
    → Keeps reserved r said ss
    → (may reserved (said_on said t) (command_of f) ≡ true) × (asks (command_of f) ≡ true → number_sent (said_on said t) ≡ Some (value_of (search_from r t)))
unfolding Keeps
along reserved r said t f [] front keeps = elim front [ ]
along reserved r said [] f (st ∷ ss) front keeps = (ap (may reserved said) front ∙ keeps.0, λ e. keeps.1 (sym (ap asks front) ∙ e))
along reserved r said (e ∷ t) f (st ∷ ss) front keeps =
    along reserved (search_after (command_of e.frame) r) (entry_seen e ∷ said) t f ss front.2
    (subst (λ x. Keeps reserved (search_after x r) ((command_seen x, heard_seen e.heard) ∷ said) ss) (sym front.0) (keeps.2 e.heard front.1))

-- ---------------------------------------------------------------- the scripts

asking : (reserved : ℕ → Option ℕ) (said : List (Command × Heard)) (c : Read) → is_asking c ≡ true → (may reserved said c ≡ true) × (asks c ≡ false)
asking reserved said read.Compare e = (refl, refl)
asking reserved said (read.SearchHigh v) e = (refl, refl)
asking reserved said (read.SearchMiddle v) e = (refl, refl)
asking reserved said (read.SearchLow v) e = (refl, refl)
asking reserved said _ e = never e

all_asking : (reserved : ℕ → Option ℕ) (r : SearchAddress) (said : List (Command × Heard)) (cs : List Read) → AreAsking cs
    → Keeps reserved r said (map sends cs)
unfolding Keeps
all_asking reserved r said [] are = tt
all_asking reserved r said (c ∷ cs) are =
    let one = asking reserved said c are.0 in
    (one.0, λ e. never (sym one.1 ∙ e), λ h w. all_asking reserved (search_after c r) ((command_seen c, heard_seen h) ∷ said) cs are.1)

may_program : (reserved : ℕ → Option ℕ) (r : SearchAddress) (a : ℕ) (high middle low h : Answer) → h ≡ answer.Byte MASK → reserved a ≡ Some (value_of r)
    → may reserved ((QueryShort, heard_seen h) ∷ (Search Low r.low, heard_seen low) ∷ (Search Middle r.middle, heard_seen middle)
    ∷ (Search High r.high, heard_seen high) ∷ []) (read.Program (Some a)) ≡ true
may_program reserved r a high middle low h vacant is =
    both (ap (λ g. is_vacant ((QueryShort, heard_seen g) ∷ (Search Low r.low, heard_seen low) ∷ (Search Middle r.middle, heard_seen middle)
    ∷ (Search High r.high, heard_seen high) ∷ [])) vacant) (holds_by (value_of r) (reserved a) is)

module _ (b : Block) (records : List Assignment) (reserved : ℕ → Option ℕ) (same : (a r : ℕ) → Has records (a, r) → reserved a ≡ Some r) where
  each_script : (s : Script) → MaySend b records s → Keeps reserved at_power_on [] (steps s)
  unfolding Keeps
  each_script (Call r cs) may = (
    refl,
    never,
    λ h w. (
      refl,
      never,
      λ h w. (
        refl,
        never,
        λ h w. (
          refl,
          never,
          λ h w. (
            refl,
            never,
            λ h w.
                (refl, never, λ h w. all_asking reserved _ _ cs may.0),
          ),
        ),
      ),
    ),
  )
  each_script (Hunt r cs) may = (refl, never, λ h w. (refl, never, λ h w. (refl, never, λ h w. all_asking reserved _ _ cs may.0)))
  each_script (Give r a) may = (
    refl,
    never,
    λ high w. (
      refl,
      never,
      λ middle w. (
        refl,
        never,
        λ low w. (
          refl,
          λ e. refl,
          λ h vacant. (
            may_program reserved r a high middle low h vacant (same a (value_of r) may.reserved_for),
            never,
            λ h w. (
              refl,
              λ e. refl,
              λ h w. (
                refl,
                never,
                λ h w. tt,
              ),
            ),
          ),
        ),
      ),
    ),
  )
  each_script _ may = search rules

-- ---------------------------------------------------------------- the laws

pub rules_kept : (b : Block) (records : List Assignment) (t : List Entry) (f : Forward) (s : Site) (c : ℕ) (older : List (Command × Heard))
    → Lawful b records t f → s.said c ≡ said_of t ++ older → ((a r : ℕ) → Has records (a, r) → s.reserved c a ≡ Some r)
    → may_send s c (command_seen (command_of f)) ≡ true
rules_kept b records t f s c older lawful said same =
    may_longer s c (said_of t) older (command_seen (command_of f)) said (may_at (record s { said = λ d. said_of t }) c (command_of f)
    ∙ (along (s.reserved c) at_power_on [] t f (steps lawful.0) lawful.2 (each_script b records (s.reserved c) same lawful.0 lawful.1)).0)

code_is : (v a : ℕ) → short_of v ≡ Some a → v ≡ 2 * a + 1
code_is v a e = go ((v % 2 == 1) && nat_lt v 128) refl e where
  go : (t : Bool) → ((v % 2 == 1) && nat_lt v 128) ≡ t → (if t then Some (v / 2) else None) ≡ Some a → v ≡ 2 * a + 1
  go true odd e = let one : v % 2 ≡ 1 = equal (v % 2) 1 (first_of_both _ _ odd) in let half : v / 2 ≡ a = some_is e in omega arith
  go false odd e = absurd (cc)

pub query_tells : (b : Block) (records : List Assignment) (t : List Entry) (f : Forward) (s : Site) (c : ℕ) (older : List (Command × Heard)) (v a : ℕ)
    (q : Part) → Lawful b records t f → s.said c ≡ said_of t ++ older → ((d r : ℕ) → Has records (d, r) → s.reserved c d ≡ Some r)
    → command_of f ≡ read.QueryShort → short_of v ≡ Some a → tells QueryShort (Byte v) (s.said c) q a (byte q (value_of (search_of t))) ≡ true
query_tells b records t f s c older v a q lawful said same is short =
    let sent =
    (along (s.reserved c) at_power_on [] t f (steps lawful.0) lawful.2 (each_script b records (s.reserved c) same lawful.0 lawful.1)).1 (ap asks is) in
    ap (λ l. tells QueryShort (Byte v) l q a (byte q (value_of (search_of t)))) said
    ∙ tells_longer QueryShort (Byte v) (said_of t) older q a (byte q (value_of (search_of t))) (both (equals v (code (Some a)) (code_is v a short))
    (ap (λ n. holds (byte q (value_of (search_of t))) (option_map (byte q) n)) sent ∙ equals (byte q (value_of (search_of t))) _ refl))
