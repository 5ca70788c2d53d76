use Rattle.std.specs.Prelude.{◌≡◌, ℕ, zero, suc, ◌+◌, ◌≤◌}

-- A PORT, as contracts see it: the controller that it speaks for, and its share. The share is how
-- many events of the line's log are steps of that controller, as far as its holder knows.
pub record PortShare : Type 0 where
  pub controller : ℕ
  pub share : ℕ

abbrev pub port_share : ℕ → ℕ → PortShare
port_share c share = record { controller = c; share = share }

-- one step later
abbrev pub raised_share : PortShare → PortShare
raised_share s = port_share s.controller (s.share + 1)

-- a port after at most so many steps
pub record Follows (old new : PortShare) (steps : ℕ) : Type 0 where
  pub controller : new.controller ≡ old.controller
  pub least : old.share ≤ new.share
  pub most : new.share ≤ old.share + steps

-- a spare port: no controller has this number
abbrev pub no_share : PortShare
no_share = port_share 255 0

-- THE TALLY of a line: how many events of its log are steps of the controllers 0 to 3, and how many
-- are no controller's step.
pub record Tally : Type 0 where
  pub first : ℕ
  pub second : ℕ
  pub third : ℕ
  pub fourth : ℕ
  pub driver : ℕ

-- all of them together
abbrev pub total_of : Tally → ℕ
total_of t = t.first + t.second + t.third + t.fourth + t.driver

-- the count of controller c: there are four at most
abbrev pub count_at : Tally → ℕ → ℕ
count_at t zero = t.first
count_at t (suc zero) = t.second
count_at t (suc (suc zero)) = t.third
count_at t (suc (suc (suc zero))) = t.fourth
count_at t (suc (suc (suc (suc c)))) = 0

-- one step of controller c more
abbrev pub raised : Tally → ℕ → Tally
raised t zero = record {
  first = t.first + 1;
  second = t.second;
  third = t.third;
  fourth = t.fourth;
  driver = t.driver;
}
raised t (suc zero) = record {
  first = t.first;
  second = t.second + 1;
  third = t.third;
  fourth = t.fourth;
  driver = t.driver;
}
raised t (suc (suc zero)) = record {
  first = t.first;
  second = t.second;
  third = t.third + 1;
  fourth = t.fourth;
  driver = t.driver;
}
raised t (suc (suc (suc zero))) = record {
  first = t.first;
  second = t.second;
  third = t.third;
  fourth = t.fourth + 1;
  driver = t.driver;
}
raised t (suc (suc (suc (suc c)))) = t

-- and one event more that is no controller's step
abbrev pub raised_driver : Tally → Tally
raised_driver t = record {
  first = t.first;
  second = t.second;
  third = t.third;
  fourth = t.fourth;
  driver = t.driver + 1;
}
