use Rattle.std.specs.Prelude.{◌≡◌, true, false, Some, List, ◌∷◌, [], ◌++◌}
use Rattle.dali_statement.specs.Page.{Moment, Plan, Program, start, may_send, IsHistory, after}
use Rattle.dali_statement.specs.Page.{Holds}

-- SOME HISTORY keeps all rules, and in its end two gear have addresses that two senders gave them,
-- and stand in their tables.
abbrev pub IsKeptByAll : Type 0
IsKeptByAll =
    (p : Plan) × (ms : List Moment) × IsHistory p ms
    × Holds (after (start p) ms) 0 0 0x123456 × Holds (after (start p) ms) 1 4 0x0ABCDE
    × ((after (start p) ms).enrolled 0 0 0x123456 ≡ true)
    × ((after (start p) ms).enrolled 1 4 0x0ABCDE ≡ true)

-- TWO SENDERS IN STEP: each may send PROGRAM with its address. Once one has sent it, the other may
-- not.
abbrev pub IsKeptInStep : Type 0
IsKeptInStep =
    (p : Plan) × (ms : List Moment) × (m : Moment) × IsHistory p (ms ++ m ∷ [])
    × (may_send (after (start p) ms) 0 (Program (Some 0)) ≡ true)
    × (may_send (after (start p) ms) 1 (Program (Some 4)) ≡ true)
    × (may_send (after (start p) (ms ++ m ∷ [])) 1 (Program (Some 4)) ≡ false)
    × Holds (after (start p) (ms ++ m ∷ [])) 0 0 0x123456
