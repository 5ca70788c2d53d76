use Rattle.std.proofs.Common.{◌≡◌, ℕ, ◌<◌, Bool, true, false, refl, sym, ap, ◌∙◌, arith, Some, None, ◌&&◌, nat_lt, if◌then◌else◌}
use Rattle.std.proofs.lemmas.Bool.Decides.{nat_tests}
use Rattle.dali_frame.specs.{Priority.LATER, declared.{frames.Answer.Answer, numbers.SearchAddress.SearchAddress}}
use Rattle.dali_special.{specs.Command.frame_of, proofs.Table.read_written}
use Rattle.dali_script.specs.declared.{orders.Order.{Order, TheVariants.Put}, stage.Stage.TheVariants.Hunted}
use Rattle.dali_controller.specs.{Course.{Course, closing_of, byte_to_send, bytes_to_send}, Machine.Machine, Moments.{AsksNext, Begins, IsHeard, IsMoment}}
use Rattle.dali_controller.specs.Next.{is_hunting, has_room, hunted_in, compared_in, begins_at, beginning, next_course, course_on, asked_on}
use Rattle.dali_controller.specs.{Orders.machine_ordered_on, Whole.Knows, declared.purpose.Purpose.{Purpose, TheVariants.Hunting}}
use Rattle.dali_controller.proofs.{Beginnings.hunted_begins, Steps.{Goes, goes_hunted, begin_moment, calm_less, later_ordered}}

-- A HUNT ASKS ON, in the transaction that runs.

has_room_is : (p : Purpose) (b : Bool) → (is_hunting p && b) ≡ true → (p ≡ Hunting) × (b ≡ true)
has_room_is Hunting true e = (refl, refl)
has_room_is Hunting false e = absurd (cc)
has_room_is _ b e = absurd (cc)

asks_on : (t : Machine) (c : Course) (r : SearchAddress) (h : Answer) (left : ℕ) → IsHeard t (Hunted r (Some h) left) → t.course.purpose ≡ Hunting
    → c ≡ hunted_in t h → Begins t c → c.purpose ≡ Hunting → bytes_to_send c.number r < left → Knows c.way t.kept c.number c.search c.ascent c.opened c.purpose
    → IsMoment t (Put LATER (frame_of (byte_to_send c.number r))) (machine_ordered_on t c (Put LATER (frame_of (byte_to_send c.number r))))
asks_on t c r h left heard hunting is begins hunts room knows =
    let on : Goes t.kept c.number Hunting (Hunted r (Some h) left) (byte_to_send c.number r) = goes_hunted t.kept c.number r (Some h) left room in
    let going : closing_of t.course.purpose ≡ None = ap closing_of hunting in
    let calm = calm_less t.course.way t.course.purpose t.silent going heard.calm in
    record {
      begins = λ e. absurd (cc);
      course = is ∙ sym (ap (course_on t) heard.stage ∙ ap (λ p. asked_on t p h) hunting);
      next = record {
        order = later_ordered t c (Hunted r (Some h) left) (byte_to_send c.number r) (rw hunts on) heard.stage (λ e. cc) heard.tries calm going
            (λ q e. absurd (cc (sym heard.stage ∙ e))) (λ q b e. cc);
        state = refl;
      };
      whole = record {
        ready = record { tries = begins.tries; calm = begins.calm; knows = knows };
        sends = rw (heard.stage, hunts) (read_written (byte_to_send c.number r) on.spelled, room);
      };
    }

-- A QUESTION OF A HUNT WAS ANSWERED: the next one is asked, or a transaction begins.
pub hunted_moment : (t : Machine) (r : SearchAddress) (h : Answer) (left : ℕ) (o : Order) (new : Machine) → IsHeard t (Hunted r (Some h) left)
    → t.course.purpose ≡ Hunting → AsksNext t (hunted_in t h) r left o new → IsMoment t o new
hunted_moment t r h left o new heard hunting asks =
    rw (asks.state, asks.order) (go (has_room c r left) refl) where
      c : Course
      c = hunted_in t h

      begins : Begins t c
      begins = hunted_begins t r h left heard hunting

      next : next_course t ≡ c
      next = ap (begins_at t) heard.stage ∙ ap (λ p. compared_in t p h) hunting

      less : (n m : ℕ) → nat_lt n m ≡ true → n < m
      less n m e = grind (arith, nat_tests)

      go : (b : Bool) → has_room c r left ≡ b → IsMoment t (if b then Put LATER (frame_of (byte_to_send c.number r)) else beginning c)
          (machine_ordered_on t c (if b then Put LATER (frame_of (byte_to_send c.number r)) else beginning c))
      go true room =
          let x = has_room_is c.purpose (nat_lt (bytes_to_send c.number r) left) room in
          asks_on t c r h left heard hunting refl begins x.0 (less (bytes_to_send c.number r) left x.1) asks.knows
      go false room = begin_moment t c (sym next) begins asks.knows
