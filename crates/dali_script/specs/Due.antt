use Rattle.std.specs.Prelude.{Bool, true, false, Option, Some, None}
use Rattle.dali_frame.specs.declared.frames.Forward.{Forward}
use Rattle.dali_script.specs.declared.records.Record.{Record}
use Rattle.dali_script.specs.declared.orders.Input.{Input}
use Rattle.dali_script.specs.declared.orders.Input.TheVariants as input
use Rattle.dali_script.specs.declared.orders.Order.{Order}
use Rattle.dali_script.specs.declared.orders.Order.TheVariants.{Put, Commit, Done, Halt}
use Rattle.dali_script.specs.declared.orders.Due.{Due}
use Rattle.dali_script.specs.declared.orders.Due.TheVariants as due

-- WHAT IS DUE, by the last order.
abbrev pub due_after : Option Order → Due
due_after None = due.Start
due_after (Some (Put p f)) = due.Bus
due_after (Some (Commit x)) = due.Store
due_after (Some (Done e)) = due.Nothing
due_after (Some (Halt w)) = due.Nothing

-- the inputs that are accepted: each one if that is due which it answers
abbrev pub accepts : Due → Input → Bool
accepts due.Nothing i = false
accepts due.Start input.Start = true
accepts due.Start input.Survey = true
accepts due.Bus (input.Heard h) = true
accepts due.Bus input.Destroyed = true
accepts due.Bus input.Lapsed = true
accepts due.Store input.Committed = true
accepts due.Store input.CommitFailed = true
accepts _ input.Start = false
accepts _ input.Survey = false
accepts _ (input.Heard h) = false
accepts _ input.Destroyed = false
accepts _ input.Lapsed = false
accepts _ input.Committed = false
accepts _ input.CommitFailed = false

-- the frame or the record that is outstanding
abbrev pub frame_put : Option Order → Option Forward
frame_put (Some (Put p f)) = Some f
frame_put None = None
frame_put (Some (Commit x)) = None
frame_put (Some (Done e)) = None
frame_put (Some (Halt w)) = None

abbrev pub record_ordered : Option Order → Option Record
record_ordered (Some (Commit x)) = Some x
record_ordered None = None
record_ordered (Some (Put p f)) = None
record_ordered (Some (Done e)) = None
record_ordered (Some (Halt w)) = None
