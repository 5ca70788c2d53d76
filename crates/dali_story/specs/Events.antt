use Rattle.std.specs.Prelude.{ℕ, ◌-◌, List, [], ◌++◌, Bool, true, false}
use Rattle.std.specs.Prelude.{codes, decimal}
use Rattle.dali_frame.specs.declared.frames.Forward.{Forward}
use Rattle.dali_frame.specs.declared.frames.Answer.{Answer}
use Rattle.dali_frame.specs.declared.frames.Answer.TheVariants.{Silence, Byte, Damaged}
use Rattle.dali_frame.specs.Hex.{byte_text, forward_text, random_text}
use Rattle.dali_special.specs.Command.{command_of}
use Rattle.dali_gear.specs.Gear.{Gear}
use Rattle.dali_script.specs.declared.records.Record.{Record}
use Rattle.dali_script.specs.Records.{address_of, random_of}
use Rattle.dali_script.specs.Names.{record_name, end_name, fault_name}
use Rattle.dali_script.specs.declared.orders.Input.{Input}
use Rattle.dali_script.specs.declared.orders.Input.TheVariants as input
use Rattle.dali_script.specs.declared.orders.Order.{Order}
use Rattle.dali_script.specs.declared.orders.End.{End}
use Rattle.dali_script.specs.declared.orders.Fault.{Fault}
use Rattle.dali_script.specs.declared.orders.Order.TheVariants.{Put, Commit, Done, Halt}
use Rattle.dali_events.specs.declared.event.Event.{Event}
use Rattle.dali_events.specs.declared.event.Event.TheVariants as event
use Rattle.dali_replay.specs.Text.{power_text}
use Rattle.dali_story.specs.declared.lists.Listed.TheVariants.{Answers, Takers, Changes}
use Rattle.dali_story.specs.declared.transactions.Running.{Running}
use Rattle.dali_story.specs.Commands.{command_text}
use Rattle.dali_story.specs.Lists.{list_text}
use Rattle.dali_story.specs.Members.{number_member, text_member, list_member}

-- THE LINE OF AN EVENT, member by member.

abbrev pub kind_of : Event → List ℕ
kind_of (event.Acted c i o) = codes "acted"
kind_of (event.Offered c f) = codes "offered"
kind_of (event.Sent c f h) = codes "sent"
kind_of (event.Destroyed c f set) = codes "destroyed"
kind_of (event.Collided c f d g) = codes "collided"
kind_of event.Lapsed = codes "lapsed"
kind_of event.Quiet = codes "quiet"
kind_of (event.Foreign f) = codes "foreign"
kind_of (event.Power g on) = codes "power"
kind_of (event.Expired g) = codes "expired"
kind_of (event.Down c) = codes "down"
kind_of (event.Up c kept) = codes "up"

-- ---------------------------------------------------------------- members

-- a frame as four digits, and its command
abbrev pub frame_members : List ℕ → List ℕ → Forward → List ℕ
frame_members frame command f =
    text_member frame (forward_text f) ++ text_member command (command_text (command_of f))

unfoldable pub the_frame : Forward → List ℕ
the_frame f = frame_members (codes "frame") (codes "command") f

unfoldable pub other_frame : Forward → List ℕ
other_frame f = frame_members (codes "other_frame") (codes "other_command") f

-- what was heard
abbrev pub answer_text : Answer → List ℕ
answer_text Silence = codes "silence"
answer_text (Byte byte) = byte_text byte
answer_text Damaged = codes "damaged"

-- what a controller was told
abbrev pub told_text : Input → List ℕ
told_text input.Start = codes "start"
told_text input.Survey = codes "survey"
told_text (input.Heard h) = codes "heard " ++ answer_text h
told_text input.Destroyed = codes "destroyed"
told_text input.Lapsed = codes "lapsed"
told_text input.Committed = codes "committed"
told_text input.CommitFailed = codes "commit-failed"

-- what it ordered
unfoldable pub put_members : ℕ → Forward → List ℕ
put_members p f =
    text_member (codes "order") (codes "put")
    ++ (number_member (codes "priority") p ++ the_frame f)

unfoldable pub commit_members : Record → List ℕ
commit_members x =
    text_member (codes "order") (codes "commit")
    ++ (text_member (codes "record") (record_name x)
    ++ (number_member (codes "short") (address_of x)
    ++ text_member (codes "random") (random_text (random_of x))))

unfoldable pub done_members : End → List ℕ
done_members e =
    text_member (codes "order") (codes "done") ++ text_member (codes "end") (end_name e)

unfoldable pub halt_members : Fault → List ℕ
halt_members w =
    text_member (codes "order") (codes "halt") ++ text_member (codes "fault") (fault_name w)

abbrev pub order_members : Order → List ℕ
order_members (Put p f) = put_members p f
order_members (Commit x) = commit_members x
order_members (Done e) = done_members e
order_members (Halt w) = halt_members w

unfoldable pub acted_members : ℕ → Input → Order → List ℕ
acted_members c i o =
    number_member (codes "controller") c
    ++ (text_member (codes "told") (told_text i) ++ order_members o)

-- a frame of a controller, and its place in its transaction
unfoldable pub framed : ℕ → Forward → List ℕ
framed c f = number_member (codes "controller") c ++ the_frame f

unfoldable pub placed : ℕ → Forward → Running → List ℕ
placed c f r =
    framed c f
    ++ (number_member (codes "transaction") (r.begun - 1)
    ++ number_member (codes "place") (r.frames - 1))

unfoldable pub sent_members : ℕ → Forward → Answer → Running → List Gear → List ℕ
sent_members c f h r was =
    placed c f r
    ++ (text_member (codes "heard") (answer_text h)
    ++ list_member (codes "answers") (list_text (Answers f) was was))

unfoldable pub destroyed_members : ℕ → Forward → ℕ → Running → List Gear → List ℕ
destroyed_members c f set r was =
    placed c f r ++ list_member (codes "takers") (list_text (Takers set) was was)

unfoldable pub collided_members : ℕ → Forward → ℕ → Forward → List ℕ
collided_members c f d g =
    framed c f ++ (number_member (codes "other") d ++ other_frame g)

unfoldable pub power_members : ℕ → Bool → List ℕ
power_members g on =
    number_member (codes "gear") g ++ text_member (codes "power") (power_text on)

abbrev pub kept_member : Bool → List ℕ
kept_member true = codes ",\"kept\":true"
kept_member false = codes ",\"kept\":false"

unfoldable pub up_members : ℕ → Bool → List ℕ
up_members c kept = number_member (codes "controller") c ++ kept_member kept

-- WHAT HOLDS OF AN EVENT, by the transaction of its frame, and the gear before it
abbrev pub members : Event → Running → List Gear → List ℕ
members (event.Acted c i o) r was = acted_members c i o
members (event.Offered c f) r was = framed c f
members (event.Sent c f h) r was = sent_members c f h r was
members (event.Destroyed c f set) r was = destroyed_members c f set r was
members (event.Collided c f d g) r was = collided_members c f d g
members event.Lapsed r was = []
members event.Quiet r was = []
members (event.Foreign f) r was = the_frame f
members (event.Power g on) r was = power_members g on
members (event.Expired g) r was = number_member (codes "gear") g
members (event.Down c) r was = number_member (codes "controller") c
members (event.Up c kept) r was = up_members c kept

-- its number, its kind, and the bit times so far
unfoldable pub opening : ℕ → List ℕ → ℕ → List ℕ
opening number kind bits =
    codes "{\"event\":"
    ++ (decimal number ++ (text_member (codes "kind") kind ++ number_member (codes "bits") bits))

-- ---------------------------------------------------------------- trouble

abbrev pub trouble_member : List ℕ → List ℕ
trouble_member name = text_member (codes "trouble") name

-- a frame was sent, and this was heard, and that is what the gear answer together
abbrev pub disturbed : Answer → Answer → List ℕ
disturbed Silence Silence = []
disturbed Silence (Byte byte) = trouble_member (codes "lost")
disturbed Silence Damaged = trouble_member (codes "lost")
disturbed Damaged Silence = trouble_member (codes "noise")
disturbed Damaged (Byte byte) = trouble_member (codes "noise")
disturbed Damaged Damaged = []
disturbed (Byte heard) plain = []

-- WHAT WENT WRONG by an event, if something did
abbrev pub trouble_of : Event → Answer → List ℕ
trouble_of (event.Sent c f h) plain = disturbed h plain
trouble_of (event.Destroyed c f set) plain = trouble_member (codes "destroyed")
trouble_of (event.Collided c f d g) plain = trouble_member (codes "collided")
trouble_of event.Lapsed plain = trouble_member (codes "lapsed")
trouble_of (event.Power g false) plain = trouble_member (codes "power-off")
trouble_of (event.Expired g) plain = trouble_member (codes "expired")
trouble_of (event.Down c) plain = trouble_member (codes "down")
trouble_of (event.Acted c i o) plain = []
trouble_of (event.Offered c f) plain = []
trouble_of event.Quiet plain = []
trouble_of (event.Foreign f) plain = []
trouble_of (event.Power g true) plain = []
trouble_of (event.Up c kept) plain = []

-- ---------------------------------------------------------------- what was changed

abbrev pub changed_member : List Gear → List Gear → List ℕ
changed_member was is = list_member (codes "changed") (list_text Changes was is)

abbrev pub changed_by : Event → List Gear → List Gear → List ℕ
changed_by (event.Sent c f h) was is = changed_member was is
changed_by (event.Destroyed c f set) was is = changed_member was is
changed_by (event.Power g on) was is = changed_member was is
changed_by (event.Expired g) was is = changed_member was is
changed_by (event.Acted c i o) was is = []
changed_by (event.Offered c f) was is = []
changed_by (event.Collided c f d g) was is = []
changed_by event.Lapsed was is = []
changed_by event.Quiet was is = []
changed_by (event.Foreign f) was is = []
changed_by (event.Down c) was is = []
changed_by (event.Up c kept) was is = []
