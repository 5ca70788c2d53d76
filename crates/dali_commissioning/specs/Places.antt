use Rattle.std.specs.Prelude.{ℕ, zero, suc, ◌==◌, if◌then◌else◌, Bool, true, false, not}
use Rattle.std.specs.Prelude.{List, [], ◌∷◌, ◌++◌, Option, Some, None, slice_index_or}
use Rattle.std.specs.List.{list_any}
use Rattle.dali_script.specs.declared.block.Block.{Block}
use Rattle.dali_script.specs.Records.{Kept, Assignment}
use Rattle.dali_script.specs.Stages.{in_block}
use Rattle.dali_commissioning.specs.declared.census.Reply.{Reply}
use Rattle.dali_commissioning.specs.declared.census.Reply.TheVariants as reply
use Rattle.dali_commissioning.specs.declared.verdict.Place.{Place}
use Rattle.dali_commissioning.specs.declared.verdict.Place.TheVariants as place
use Rattle.dali_commissioning.specs.Census.{is_silent}

-- the random address that stands first beside a short address
abbrev pub random_at : List Assignment → ℕ → Option ℕ
random_at [] a = None
random_at (p ∷ more) a = if p.0 == a then Some p.1 else random_at more a

-- WHERE A GEAR STANDS that is enrolled with this random address, by what was heard of its short
-- address
abbrev pub enrolled_place : ℕ → Reply → Place
enrolled_place random reply.Silence = place.Missing random
enrolled_place random reply.Noise = place.Unclear random
enrolled_place random reply.Unclear = place.Unclear random
enrolled_place random (reply.Random heard) =
    if heard == random then place.There random else place.Another random heard
enrolled_place random reply.Several = place.Several random

-- who answers that no record names
abbrev pub strange_place : Reply → Place
strange_place reply.Silence = place.Nobody
strange_place reply.Noise = place.Noise
strange_place reply.Unclear = place.Garbled
strange_place (reply.Random heard) = place.Stranger heard
strange_place reply.Several = place.Strangers

-- WHAT STANDS UNDER A SHORT ADDRESS: what is enrolled with it goes before what is reserved, and who
-- answers otherwise is a stranger. What lies in a block of another controller was not asked.
abbrev pub unnamed_place : Option ℕ → Reply → Place
unnamed_place (Some r) heard = if is_silent heard then place.Nobody else place.Unfinished r
unnamed_place None heard = strange_place heard

abbrev pub place_by : Option ℕ → Option ℕ → Reply → Place
place_by (Some r) reserved heard = enrolled_place r heard
place_by None reserved heard = unnamed_place reserved heard

abbrev pub place_of : Kept → List Block → ℕ → Reply → Place
place_of k others a heard =
    if list_any (λ b. in_block b a) others
    then place.NotAsked
    else place_by (random_at k.enrolled a) (random_at k.reserved a) heard

-- by the replies of all short addresses, from 0 on
abbrev pub place_at : Kept → List Block → List Reply → ℕ → Place
place_at k others replies a = place_of k others a (slice_index_or replies a reply.Silence)

unfoldable pub places_below : ℕ → Kept → List Block → List Reply → List Place
places_below zero k others replies = []
places_below (suc n) k others replies =
    places_below n k others replies ++ place_at k others replies n ∷ []

abbrev pub places : Kept → List Block → List Reply → List Place
places k others replies = places_below 64 k others replies

-- ALL IS AS RECORDED: each gear that is enrolled is there, and no other answers.
abbrev pub is_as_recorded : Place → Bool
is_as_recorded place.NotAsked = true
is_as_recorded place.Nobody = true
is_as_recorded (place.There r) = true
is_as_recorded (place.Missing r) = false
is_as_recorded (place.Another r heard) = false
is_as_recorded (place.Several r) = false
is_as_recorded (place.Unclear r) = false
is_as_recorded (place.Unfinished r) = false
is_as_recorded (place.Stranger heard) = false
is_as_recorded place.Strangers = false
is_as_recorded place.Garbled = false
is_as_recorded place.Noise = false

abbrev pub is_any_wrong : List Place → Bool
is_any_wrong all = list_any (λ p. not (is_as_recorded p)) all

abbrev pub are_as_recorded : List Place → Bool
are_as_recorded all = not (is_any_wrong all)
