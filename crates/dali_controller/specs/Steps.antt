use Rattle.std.specs.Prelude.{◌≡◌, Option, Some, None}
use Rattle.dali_script.specs.declared.records.Record.{Record}
use Rattle.dali_script.specs.declared.orders.Input.{Input}
use Rattle.dali_script.specs.declared.orders.Input.TheVariants as input
use Rattle.dali_script.specs.declared.orders.Order.{Order}
use Rattle.dali_script.specs.declared.orders.Order.TheVariants.{Put, Commit, Done, Halt}
use Rattle.dali_script.specs.Records.{Kept, with_record}
use Rattle.dali_controller.specs.declared.state.State.{State}
use Rattle.dali_controller.specs.States.{machine_with}
use Rattle.dali_controller.specs.Whole.{IsWhole}

-- the record that is kept from now on, by the last order and an input
abbrev pub kept_by : Option Order → Input → Option Record
kept_by (Some (Commit x)) input.Committed = Some x
kept_by (Some (Commit x)) input.Start = None
kept_by (Some (Commit x)) input.Survey = None
kept_by (Some (Commit x)) (input.Heard h) = None
kept_by (Some (Commit x)) input.Destroyed = None
kept_by (Some (Commit x)) input.Lapsed = None
kept_by (Some (Commit x)) input.CommitFailed = None
kept_by (Some (Put p f)) i = None
kept_by (Some (Done e)) i = None
kept_by (Some (Halt w)) i = None
kept_by None i = None

abbrev pub with_some : Kept → Option Record → Kept
with_some k (Some x) = with_record k x
with_some k None = k

-- A MACHINE WITH ITS RECORDS ELSEWHERE: k are those before an input, and `new` those with what the
-- input says is kept.
pub record IsBefore (s : State) (k : Kept) (i : Input) (new : Kept) : Type 0 where
  pub whole : IsWhole (machine_with s k)
  pub kept : new ≡ with_some k (kept_by s.last i)
