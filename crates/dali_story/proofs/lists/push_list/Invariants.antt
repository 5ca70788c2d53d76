use Rattle.std.proofs.Common.{◌≡◌, ◌++◌, string_bytes, drop, true}
use Rattle.dali_story.specs.Lists.{list_from}
use Rattle.dali_story.proofs.lists.push_list.Given as goal

abbrev pub invariant-loop-number : goal.invariant-loop-number
invariant-loop-number l =
    string_bytes l.text ++ list_from l.listed l.is l.first l.number (drop l.number l.was) ≡ string_bytes l.fn.text ++ list_from l.listed l.is true 0 l.was
