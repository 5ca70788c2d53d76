use Rattle.std.proofs.Common.{◌≡◌, ◌++◌, drop, string_bytes}
use Rattle.dali_story.specs.Story.{lines_text, left_after_all}
use Rattle.dali_story.proofs.story.Telling.tell_lines.Given as goal

abbrev pub invariant-loop-line : goal.invariant-loop-line
invariant-loop-line l = record {
  text : string_bytes l.text ++ lines_text (drop l.line-index l.lines) l.self ≡ string_bytes l.fn.text ++ lines_text l.lines l.fn.self;
  after : left_after_all (drop l.line-index l.lines) l.self ≡ left_after_all l.lines l.fn.self;
}
