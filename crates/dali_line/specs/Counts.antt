use Rattle.std.specs.Prelude.{◌≡◌, ℕ, ◌+◌, ◌<◌, List, [], ◌∷◌, length, take, is_none}
use Rattle.std.specs.Prelude.{slice_index_or, if◌then◌else◌}
use Rattle.dali_events.specs.declared.event.Event.{Event}
use Rattle.dali_events.specs.Events.{whose_step}
use Rattle.dali_world.specs.Site.{SiteState, share_of}
use Rattle.dali_line.specs.Shares.{PortShare, port_share, no_share, Tally}

-- THE DRIVER'S SHARE of a log: how many of its events are no controller's steps
abbrev pub others_of : List Event → ℕ
others_of [] = 0
others_of (e ∷ es) = (if is_none (whose_step e) then 1 else 0) + others_of es

-- THE FIVE SHARES of a log
abbrev pub counts_of : List Event → Tally
counts_of log = record {
  first = share_of 0 log;
  second = share_of 1 log;
  third = share_of 2 log;
  fourth = share_of 3 log;
  driver = others_of log;
}

-- the ports of a site: one for each controller, in order, each with its share of the log
abbrev pub share_in : SiteState → ℕ → PortShare
share_in s c = port_share c (share_of c s.log)

abbrev pub shares_of : SiteState → List PortShare
shares_of s =
    take (length s.plan.blocks) (share_in s 0 ∷ share_in s 1 ∷ share_in s 2 ∷ share_in s 3 ∷ [])

-- each port is that of the controller whose number is the port's place
abbrev pub AreInOrder : List PortShare → Type 0
AreInOrder ports =
    (i : ℕ) → i < length ports → (slice_index_or ports i no_share).controller ≡ i
