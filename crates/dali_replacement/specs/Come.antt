use Rattle.std.specs.Prelude.{ℕ, ◌==◌, ◌&&◌, ◌||◌, Bool, true, false, not, if◌then◌else◌}
use Rattle.std.specs.Prelude.{List, Option, Some, None}
use Rattle.std.specs.List.{list_any}
use Rattle.dali_script.specs.Records.{Kept, Assignment, is_pair}
use Rattle.dali_commissioning.specs.declared.census.Reply.{Reply}
use Rattle.dali_commissioning.specs.declared.census.Reply.TheVariants as reply
use Rattle.dali_commissioning.specs.Places.{random_at}
use Rattle.dali_replacement.specs.declared.refusal.ReplaceRefusal.{ReplaceRefusal}
use Rattle.dali_replacement.specs.declared.refusal.ReplaceRefusal.TheVariants as refusals
use Rattle.dali_replacement.specs.declared.come.Come.{Come}
use Rattle.dali_replacement.specs.declared.come.Come.TheVariants.{Nowhere, Reserved, Given}

-- WHAT NEW RECORDS SAY of the short address, by what they have of it: reserved, and enrolled. Who
-- gives reserves it first, for the gear that is enrolled then. The others do not reserve it.
abbrev pub giver_come : Option ℕ → Option ℕ → Option Come
giver_come None None = Some Nowhere
giver_come (Some r) None = Some (Reserved r)
giver_come None (Some s) = None
giver_come (Some r) (Some s) = if r == s then Some (Given r) else None

abbrev pub other_come : Option ℕ → Option ℕ → Option Come
other_come None None = Some Nowhere
other_come None (Some s) = Some (Given s)
other_come (Some r) enrolled = None

-- a reservation is of another address, and none of the old ones; one of some is; one of some is of
-- another address; and a gear has this number
abbrev pub is_foreign : ℕ → Assignment → List Assignment → Bool
is_foreign a p old = not (p.0 == a) && not (list_any (λ q. is_pair p q) old)

abbrev pub has_foreign : ℕ → List Assignment → List Assignment → Bool
has_foreign a new old = list_any (λ p. is_foreign a p old) new

abbrev pub has_other : ℕ → List Assignment → Bool
has_other a new = list_any (λ p. not (p.0 == a)) new

abbrev pub has_random : ℕ → List Assignment → Bool
has_random r old = list_any (λ p. p.1 == r) old

-- THEY ARE OF THIS REPLACEMENT: what the old ones reserve is reserved last, and the gear is new
abbrev pub may_go_on : Come → ℕ → Kept → Kept → Bool
may_go_on Nowhere a new old = not (has_other a new.reserved)
may_go_on (Reserved r) a new old =
    not (has_other a new.reserved) && not (has_random r old.enrolled)
may_go_on (Given r) a new old =
    not (has_foreign a new.reserved old.reserved) && not (has_random r old.enrolled)

abbrev pub going_on : Option Come → ℕ → Kept → Kept → Option Come
going_on None a new old = None
going_on (Some come) a new old = if may_go_on come a new old then Some come else None

-- HOW FAR AN EARLIER CALL HAS COME, by the new records of a name, which gives or does not
abbrev pub come_of : Bool → ℕ → Kept → Kept → Option Come
come_of true a new old =
    going_on (giver_come (random_at new.reserved a) (random_at new.enrolled a)) a new old
come_of false a new old =
    going_on (other_come (random_at new.reserved a) (random_at new.enrolled a)) a new old

-- WHAT MAY BE HEARD of the short address, if an earlier call has come so far: nothing as long as
-- the new gear may not have it, and the new gear once it may
abbrev pub is_silent : Reply → Bool
is_silent reply.Silence = true
is_silent reply.Noise = false
is_silent reply.Unclear = false
is_silent (reply.Random n) = false
is_silent reply.Several = false

abbrev pub is_random : ℕ → Reply → Bool
is_random r reply.Silence = false
is_random r reply.Noise = false
is_random r reply.Unclear = false
is_random r (reply.Random n) = n == r
is_random r reply.Several = false

abbrev pub may_be_heard : Come → Reply → Bool
may_be_heard Nowhere heard = is_silent heard
may_be_heard (Reserved r) heard = is_silent heard || is_random r heard
may_be_heard (Given r) heard = is_random r heard

-- WHY A LUMINAIRE IS NOT REPLACED, if this is heard and may not be: the address answers although
-- nothing was given yet; else by what is heard in place of the new gear
abbrev pub refusal_of : Reply → ReplaceRefusal
refusal_of reply.Silence = refusals.NewSilent
refusal_of reply.Noise = refusals.SeveralAnswer
refusal_of reply.Unclear = refusals.SeveralAnswer
refusal_of (reply.Random n) = refusals.AnotherAnswers
refusal_of reply.Several = refusals.SeveralAnswer

abbrev pub refusal : Come → Reply → ReplaceRefusal
refusal Nowhere heard = refusals.Answered
refusal (Reserved r) heard = refusal_of heard
refusal (Given r) heard = refusal_of heard
