use Rattle.dali_script.specs.Records.{Kept}
use Rattle.dali_controller.specs.declared.state.State.{State}
use Rattle.dali_controller.specs.Course.{Course}
use Rattle.dali_controller.specs.Legs.{way_on, is_searching, from_on, silences_on}
use Rattle.dali_controller.specs.Legs.{search_on, ascent_on}
use Rattle.dali_controller.specs.Machine.{Machine}

-- THE COURSE that a machine takes in this state
abbrev pub course_of : State → Course
course_of s = record {
  purpose = s.purpose;
  number = s.number;
  search = search_on s.leg;
  ascent = ascent_on s.leg;
  from = from_on s.leg;
  way = way_on s.leg;
  opened = is_searching s.leg;
  tally = s.tally;
}

-- THE MACHINE in this state, with these records: what contracts see of it
abbrev pub machine_with : State → Kept → Machine
machine_with s k = record {
  id = s.id;
  kept = k;
  trace = s.trace;
  finding = s.finding;
  last = s.last;
  tries = s.tries;
  silent = s.silent;
  course = course_of s;
  heard = s.heard;
  asked = silences_on s.leg;
}
