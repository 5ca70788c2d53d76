use Rattle.std.proofs.Common.{◌≡◌, ◌++◌, drop, string_bytes}
use Rattle.dali_story.specs.Teller.{events_text, told_after_all}
use Rattle.dali_story.proofs.teller.Teller.tell_all.Given as goal

abbrev pub invariant-loop-event : goal.invariant-loop-event
invariant-loop-event l = record {
  text : string_bytes l.text ++ events_text (drop l.event-index l.events) l.self ≡ string_bytes l.fn.text ++ events_text l.events l.fn.self;
  after : told_after_all (drop l.event-index l.events) l.self ≡ told_after_all l.events l.fn.self;
}
