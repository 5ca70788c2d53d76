use Rattle.std.proofs.Common.{◌∙◌, sym, Some, None}
use Rattle.dali_script.{specs.Records.HasRandom, proofs.Lists.has_map}
use Rattle.dali_controller.proofs.Courses.{number_is, address_is, none_reserved, unfinished_is}
use Rattle.dali_controller.proofs.unfinished.unfinished_at.Goals as goal

pub returns-in-None-clause-reserved : goal.returns-in-None-clause-reserved
returns-in-None-clause-reserved c = has_map (λ q. q.1) c.args.kept.now.reserved (c.args.address, c.in_ok-random.random) c.in_ok-random.ensures.value

pub returns-in-None-clause-drawn : goal.returns-in-None-clause-drawn
returns-in-None-clause-drawn c =
    let has : HasRandom c.args.kept.now.reserved c.in_ok-random.random =
    has_map (λ q. q.1) c.args.kept.now.reserved (c.args.address, c.in_ok-random.random) c.in_ok-random.ensures.value in
    c.in_ok-random.ensures.kept.reserved_drawn c.in_ok-random.random has

pub returns-in_err-random-clause-unfinished : goal.returns-in_err-random-clause-unfinished
returns-in_err-random-clause-unfinished c =
    let k = c.args.kept.now in
    let none = number_is k.reserved c.args.address None c.in_err-random.ensures.kept.reserved.address_once c.in_err-random.ensures.value in
    c.from_residual.ensures ∙ sym (none_reserved k c.args.address none)

pub returns-in-Some-clause-unfinished : goal.returns-in-Some-clause-unfinished
returns-in-Some-clause-unfinished c =
    let k = c.args.kept.now in
    let is = number_is k.reserved c.args.address (Some c.in_ok-random.random) c.in_ok-random.ensures.kept.reserved.address_once c.in_ok-random.ensures.value in
    let enrolled = address_is k.enrolled c.in_ok-random.random (Some c.in-Some.field-0)
    c.in_ok-random.ensures.kept.enrolled.random_once c.in-Some.ensures.value in
    sym (unfinished_is k c.args.address c.in_ok-random.random (Some c.in-Some.field-0) is enrolled)

pub returns-in-None-clause-unfinished : goal.returns-in-None-clause-unfinished
returns-in-None-clause-unfinished c =
    let k = c.args.kept.now in
    let is = number_is k.reserved c.args.address (Some c.in_ok-random.random) c.in_ok-random.ensures.kept.reserved.address_once c.in_ok-random.ensures.value in
    let enrolled = address_is k.enrolled c.in_ok-random.random None c.in_ok-random.ensures.kept.enrolled.random_once c.in-None.ensures.value in
    sym (unfinished_is k c.args.address c.in_ok-random.random None is enrolled)
