use Rattle.std.proofs.Common.{◌≡◌, List, [], ap, ◌∙◌, rules}
use Rattle.dali_script.specs.declared.trace.Entry.{Entry}
use Rattle.dali_mending.{specs.Mending.Mending, specs.Mending.finished, proofs.Kept.IsNext, proofs.Kept.made_is, proofs.Kept.made, proofs.Kept.has_room}
use Rattle.dali_mending.proofs.mending.Mending.finish.Goals as goal

pub invariant_of-self : goal.invariant_of-self
invariant_of-self c =
    let next : IsNext c.ascent_after-ascent.result c.spent_if-self-inside.result =
    made_is c.self.inside.short c.left_after-self-inside.result c.deref-2.result.now c.self.inside.course
    c.course_after-course.result c.spent_if-self-inside.result
    c.self.inside.entries.items c.deref.result.now c.deref-3.result.now c.self.inside.ascent c.ascent_after-ascent.result
    c.self.invariant.course c.deref.ensures.0 c.deref-3.ensures.0 c.ascent_after-ascent.ensures c.course_after-course.ensures c.spent_if-self-inside.ensures in
    record {
      course = next.course;
      sought = next.sought;
      few = search rules;
      room = has_room c.self.inside.erased.items c.add-is_new.new.numbers.items c.tells_apart-apart.result c.self.invariant.room c.add-is_new.ensures.numbers;
    }

pub returns : goal.returns
returns c =
    let empty : c.clear.new.self.items ≡ [] = search rules in
    let with : List Entry → Mending = λ t. record {
      short = c.self.inside.short;
      placed = c.self.inside.placed.items;
      course = c.spent_if-self-inside.result;
      ascent = c.ascent_after-ascent.result;
      entries = t;
      lost = 0;
      left = c.left_after-self-inside.result;
      erased = c.add-is_new.new.numbers.items;
    } in
    ap with empty
    ∙ (made (record {
      short = c.self.inside.short;
      placed = c.self.inside.placed.items;
      course = c.self.inside.course;
      ascent = c.self.inside.ascent;
      entries = c.self.inside.entries.items;
      lost = c.self.inside.lost;
      left = c.self.inside.left;
      erased = c.self.inside.erased.items;
    }) c.deref-2.result.now c.course_after-course.result c.spent_if-self-inside.result c.deref.result.now c.deref-3.result.now c.deref-4.result.now
    c.ascent_after-ascent.result c.tells_apart-apart.result c.add-is_new.result c.left_after-self-inside.result c.add-is_new.new.numbers.items
    c.deref-2.ensures.0 c.deref.ensures.0 c.deref-3.ensures.0 c.deref-4.ensures.0 c.ascent_after-ascent.ensures c.course_after-course.ensures
    c.tells_apart-apart.ensures c.add-is_new.ensures.added c.add-is_new.ensures.numbers c.left_after-self-inside.ensures c.spent_if-self-inside.ensures
    ∙ ap finished c.self.view_is)
