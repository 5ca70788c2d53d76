use Rattle.dali_port.specs.State.{Sent}

-- WHAT BECOMES OF A FRAME THAT IS BEING SENT: it goes on; its levels differed from those of the
-- bus, or its next level was not driven in time; or its stop condition is over.
pub data Course : Type 0 where
  Goes : Sent → Course
  Destroyed : Course
  Whole : Course
