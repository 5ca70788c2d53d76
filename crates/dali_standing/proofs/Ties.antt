use Rattle.std.proofs.Common.{◌≡◌, refl, ap, ◌∙◌, ◌++◌, ◌∷◌, [], List, Option, Some, None}
use Rattle.dali_frame.specs.declared.frames.{Answer.Answer, Forward.Forward}
use Rattle.dali_special.specs.Command.{command_of}
use Rattle.dali_script.specs.Findings.{search_of, asked_of, found_by, later, finding_of}
use Rattle.dali_script.{specs.declared.finding.Finding.Finding, specs.declared.trace.Entry.Entry, proofs.Found.finding_more}
use Rattle.dali_events.specs.Happens.{entry}

-- A controller that has the finding of its trace already has, after one more frame, what that frame found.

later_same : (k o p : Option Finding) → later k o ≡ k → later k (later o p) ≡ later k p
later_same k o None has = has
later_same k o (Some x) has = refl

pub heard_finding : (k : Option Finding) (t : List Entry) (f : Forward) (h : Answer) → later k (finding_of t) ≡ k
    → later k (finding_of (t ++ entry f h ∷ [])) ≡ later k (found_by (search_of t) (asked_of t) (command_of f) h)
heard_finding k t f h has = ap (later k) (finding_more t (entry f h)) ∙ later_same k (finding_of t) (found_by (search_of t) (asked_of t) (command_of f) h) has
