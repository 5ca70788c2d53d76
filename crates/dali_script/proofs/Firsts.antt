use Rattle.std.proofs.Common.{◌≡◌, ◌⊎◌, inl, inr, ℕ, Bool, true, false, List, [], ◌∷◌, refl, ap, map}
use Rattle.dali_frame.specs.declared.frames.Forward.{Forward}
use Rattle.dali_special.specs.{Command.command_of, Command.frame_of, declared.command.Command.Command}
use Rattle.dali_special.specs.declared.command.Command.TheVariants.{Terminate, Compare, SearchHigh, SearchMiddle, SearchLow, RandomByte, Arc}
use Rattle.dali_special.{specs.declared.command.Part.TheVariants.High, proofs.Table.read_written}
use Rattle.dali_script.specs.{Records.Assignment, Scripts.Step, Scripts.sends, Scripts.Script}
use Rattle.dali_script.specs.Scripts.{Open, Call, Draw, Probe, Hunt, Look, Give, PassOver, Resolve, AreAsking, Close, ArcPower, steps, MaySend, IsFront, Lawful}
use Rattle.dali_script.specs.{Scripts.IsFirst, Stages.IsHunting, Stages.stage_of, Stages.Follows, declared.block.Block.Block, declared.stage.Stage.Stage}
use Rattle.dali_script.specs.declared.{stage.Stage.TheVariants.Free, stage.Stage.TheVariants.Initialised, stage.Stage.TheVariants.Hunted, trace.Entry.Entry}
use Rattle.dali_script.proofs.Transactions.{asks_hunting, follows_lawful, lawful_follows, stage_none, turn}

-- WHICH FRAMES STAND FIRST.

-- TERMINATE, QUERY RANDOM ADDRESS (H) and arc power stand first alone
is_first : Command → Bool
is_first Terminate = true
is_first (RandomByte a High) = true
is_first (Arc f) = true
is_first _ = false

abbrev NoFirst : List Step → Type 0
NoFirst [] = Unit {0}
NoFirst (step ∷ more) = (is_first step.command ≡ false) × NoFirst more

none_later_first : (t : List Entry) (f : Forward) (ss : List Step) → NoFirst ss → IsFront t f ss → is_first (command_of f) ≡ true → ⊥
none_later_first [] f [] none front first = absurd front
none_later_first (e ∷ t) f [] none front first = absurd front
none_later_first [] f (step ∷ more) none front first = let no = none.0 in let same = ap is_first front in cc
none_later_first (e ∷ t) f (step ∷ more) none front first = none_later_first t f more none.1 front.2 first

abbrev NoLaterFirst : List Step → Type 0
NoLaterFirst [] = Unit {0}
NoLaterFirst (step ∷ more) = NoFirst more

front_first : (t : List Entry) (f : Forward) (ss : List Step) → NoLaterFirst ss → IsFront t f ss → is_first (command_of f) ≡ true → t ≡ []
front_first [] f ss none front first = refl
front_first (e ∷ t) f [] none front first = absurd front
front_first (e ∷ t) f (step ∷ more) none front first = absurd (none_later_first t f more none front.2 first)

none_asking : (cs : List Command) → AreAsking cs → NoFirst (map sends cs)
unfolding is_first
none_asking [] ask = tt
none_asking (SearchHigh high ∷ cs) ask = (refl, none_asking cs ask.1)
none_asking (SearchMiddle middle ∷ cs) ask = (refl, none_asking cs ask.1)
none_asking (SearchLow low ∷ cs) ask = (refl, none_asking cs ask.1)
none_asking (Compare ∷ cs) ask = (refl, none_asking cs ask.1)
none_asking (_ ∷ cs) ask = absurd (let no = ask.0 in cc)

script_first : (b : Block) (xs : List Assignment) (s : Script) → MaySend b xs s → NoLaterFirst (steps s)
unfolding is_first
script_first b xs Open may = (refl, (refl, (refl, (refl, tt))))
script_first b xs (Probe r) may = (refl, (refl, (refl, tt)))
script_first b xs (Call r cs) may = (refl, (refl, (refl, (refl, (refl, none_asking cs may.0)))))
script_first b xs (Draw high middle) may = (refl, (refl, (refl, (refl, (refl, (refl, (refl, tt)))))))
script_first b xs (Hunt r cs) may = (refl, (refl, none_asking cs may.0))
script_first b xs (PassOver r) may = (refl, (refl, (refl, tt)))
script_first b xs (Look r) may = (refl, (refl, (refl, (refl, tt))))
script_first b xs (Give r a) may = (refl, (refl, (refl, (refl, (refl, (refl, tt))))))
script_first b xs (Resolve a) may = (refl, (refl, tt))
script_first b xs Close may = tt
script_first b xs (ArcPower g) may = tt

first_alone : (b : Block) (xs : List Assignment) (t : List Entry) (f : Forward) → Lawful b xs t f → is_first (command_of f) ≡ true → t ≡ []
first_alone b xs t f lawful first = front_first t f (steps lawful.0) (script_first b xs lawful.0 lawful.1) lawful.2 first

pub terminate_first : (b : Block) (xs : List Assignment) (t : List Entry) (f : Forward) → Lawful b xs t f → command_of f ≡ Terminate → t ≡ []
unfolding is_first
terminate_first b xs t f lawful e = first_alone b xs t f lawful (ap is_first e)

pub arc_first : (b : Block) (xs : List Assignment) (t : List Entry) (f g : Forward) → Lawful b xs t f → command_of f ≡ Arc g → t ≡ []
unfolding is_first
arc_first b xs t f g lawful e = first_alone b xs t f lawful (ap is_first e)

pub random_high_first : (b : Block) (xs : List Assignment) (t : List Entry) (f : Forward) (a : ℕ) → Lawful b xs t f → command_of f ≡ RandomByte a High → t ≡ []
unfolding is_first
random_high_first b xs t f a lawful e = first_alone b xs t f lawful (ap is_first e)

-- only the empty trace is free
pub free_is_empty : (t : List Entry) → stage_of t ≡ Free → t ≡ []
free_is_empty t e =
    let b : Block = record { first = 0; last = 0 } in
    let read : command_of (frame_of Terminate) ≡ Terminate = read_written Terminate tt in
    terminate_first b [] t (frame_of Terminate) (lawful_follows b [] t (frame_of Terminate) (rw (e, read) (turn refl refl))) read

-- SEARCHADDRH stands first, in a hunt, or once gear were initialised
at_search_high : (b : Block) (xs : List Assignment) (s : Stage) (c : Command) (high : ℕ) → Follows b xs s c → c ≡ SearchHigh high
    → (s ≡ Free) ⊎ (IsHunting s ⊎ (s ≡ Initialised))
at_search_high b xs Free (SearchHigh n) high on e = inl refl
at_search_high b xs Initialised (SearchHigh n) high on e = inr (inr refl)
at_search_high b xs (Hunted r last left) c high on e = inr (inl (asks_hunting r last left c on.leads_on).0)
at_search_high b xs _ _ high k e = absurd (let none = k.leads_on in cc)

pub search_high_first : (b : Block) (xs : List Assignment) (t : List Entry) (f : Forward) (high : ℕ) → Lawful b xs t f → command_of f ≡ SearchHigh high
    → (t ≡ []) ⊎ (IsHunting (stage_of t) ⊎ (stage_of t ≡ Initialised))
search_high_first b xs t f high lawful e = go (at_search_high b xs (stage_of t) (command_of f) high (follows_lawful b xs t f lawful) e) where
  go : (stage_of t ≡ Free) ⊎ (IsHunting (stage_of t) ⊎ (stage_of t ≡ Initialised)) → (t ≡ []) ⊎ (IsHunting (stage_of t) ⊎ (stage_of t ≡ Initialised))
  go (inl free) = inl (free_is_empty t free)
  go (inr later) = inr later

first_of : (b : Block) (xs : List Assignment) (s : Stage) (c : Command) → Follows b xs s c → s ≡ Free
    → (c ≡ Terminate) ⊎ (((high : ℕ) × (c ≡ SearchHigh high)) ⊎ (((g : Forward) × (c ≡ Arc g)) ⊎ ((a : ℕ) × (c ≡ RandomByte a High))))
first_of b xs Free Terminate on e = inl refl
first_of b xs Free (SearchHigh high) on e = inr (inl (high, refl))
first_of b xs Free (Arc g) on e = inr (inr (inl (g, refl)))
first_of b xs Free (RandomByte a High) on e = inr (inr (inr (a, refl)))
first_of b xs _ _ k e = absurd (let none = k.leads_on in cc)

-- and a transaction begins with no other frame
pub first_frames : (b : Block) (xs : List Assignment) (f : Forward) → Lawful b xs [] f
    → (command_of f ≡ Terminate) ⊎ (((high : ℕ) × (command_of f ≡ SearchHigh high))
    ⊎ (((g : Forward) × (command_of f ≡ Arc g)) ⊎ ((a : ℕ) × (command_of f ≡ RandomByte a High))))
first_frames b xs f lawful = first_of b xs (stage_of []) (command_of f) (follows_lawful b xs [] f lawful) stage_none

pub begins_by : (b : Block) (xs : List Assignment) (f : Forward)
    → (command_of f ≡ Terminate) ⊎ (((high : ℕ) × (command_of f ≡ SearchHigh high))
    ⊎ (((g : Forward) × (command_of f ≡ Arc g)) ⊎ ((a : ℕ) × (command_of f ≡ RandomByte a High)))) → Lawful b xs [] f
begins_by b xs f (inl e) = (Close, tt, e)
begins_by b xs f (inr (inl e)) = (Probe (record { high = e.0; middle = 0; low = 0 }), tt, e.1)
begins_by b xs f (inr (inr (inl e))) = (ArcPower e.0, tt, e.1)
begins_by b xs f (inr (inr (inr e))) = (Resolve e.0, tt, e.1)

pub first_commands : (f : Forward) → IsFirst f
    → (command_of f ≡ Terminate) ⊎ (((high : ℕ) × (command_of f ≡ SearchHigh high))
    ⊎ (((g : Forward) × (command_of f ≡ Arc g)) ⊎ ((a : ℕ) × (command_of f ≡ RandomByte a High))))
first_commands f first = first_frames first.0 first.1 f first.2

pub first_by : (f : Forward)
    → (command_of f ≡ Terminate) ⊎ (((high : ℕ) × (command_of f ≡ SearchHigh high))
    ⊎ (((g : Forward) × (command_of f ≡ Arc g)) ⊎ ((a : ℕ) × (command_of f ≡ RandomByte a High)))) → IsFirst f
first_by f is = (record { first = 0; last = 0 }, [], begins_by (record { first = 0; last = 0 }) [] f is)

-- by any sender
pub first_for_all : (b : Block) (xs : List Assignment) (f : Forward) → IsFirst f → Lawful b xs [] f
first_for_all b xs f first = begins_by b xs f (first_commands f first)
