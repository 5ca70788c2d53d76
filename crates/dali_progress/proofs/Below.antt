-- The names of crates below, and of definitions here, that proofs cite, passed on from one place. Declares nothing.
pub use Rattle.std.proofs.Common.{◌≡◌, ℕ, ◌+◌, ◌*◌, ◌%◌, ◌^◌, ◌<◌, ◌≤◌, ◌⊎◌, inl, inr, Bool, true, false, List, [], ◌∷◌, refl, sym, ap, subst, ◌∙◌, arith}
pub use Rattle.std.proofs.Common.{Option, Some, None, w64, ◌==◌, ◌&&◌, ◌||◌, ◌-◌, nat_eq, max, not, is_some, zero, suc, MatchOption, if◌then◌else◌, bit_or}
pub use Rattle.std.proofs.Common.{length, lit<, lit≤, ◌++◌, IfSome, nat_lt, Ok, get_or, get_or-set_same, slice_index_or, length-set, min, ◌/◌, ap₂}
pub use Rattle.std.{proofs.Common.{get_or-set_other, map, append-nil, append_assoc, set, length-append, nat_le}, proofs.Math.Nat.mul-le-mul_left}
pub use Rattle.std.{proofs.lemmas.Bool.Decides.nat_tests, proofs.lemmas.List.length_push, proofs.lemmas.List.Folds.list_any_at}
pub use Rattle.std.{proofs.lemmas.List.Sums.{sum_by-cons, count_by-le-length}, proofs.lemmas.Nat.Bits.{bit_at_or, bit_at-lt, bit_at_set_same}}
pub use Rattle.std.{proofs.lemmas.Nat.Bits.{bit_at_clear_other, bit_at-zero, bit_at_set_other, bit_at_clear_same}, specs.Int.bit_at, specs.List.count_by}
pub use Rattle.std.{specs.List.{AllByRecursion, list_any}, specs.Option.option_map, specs.Prelude.unwrap_or}
pub use Rattle.dali_frame.{specs.Priority.{FIRST, LATER}, specs.Random.{value_of, MASK24, number_of, high_of, middle_of, low_of}, specs.Short.short_of}
pub use Rattle.dali_frame.{specs.declared.frames.Answer.Answer, specs.declared.frames.Answer.TheVariants.{Silence, Byte, Damaged}}
pub use Rattle.dali_frame.{specs.declared.frames.Forward.Forward, specs.declared.numbers.SearchAddress.SearchAddress}
pub use Rattle.dali_special.{proofs.Table.{short_of_code, read_spelled, read_written}, specs.Command.{frame_of, frame, program_data, MASK, IsSpelled}}
pub use Rattle.dali_special.{specs.declared.command.Command.Command, specs.declared.command.Command.TheVariants.{Terminate, Arc, Initialise, Randomise}}
pub use Rattle.dali_special.specs.declared.command.Command.TheVariants.{Compare, SearchHigh, SearchMiddle, SearchLow, Program, RandomByte, Withdraw, QueryShort}
pub use Rattle.dali_special.{specs.declared.command.Part.Part, specs.declared.command.Part.TheVariants.{High, Middle, Low}}
pub use Rattle.dali_special.{specs.declared.command.Target.TheVariants.Unaddressed}
unfoldable pub use Rattle.dali_special.{specs.Command.command_of}
pub use Rattle.dali_gear.{proofs.RowLemmas.needs_none, specs.Gear.{Gear, draws_a_number, fresh, is_active, is_second, is_found, gear_taken, answer_to, answer}}
pub use Rattle.dali_gear.{specs.Gear.{byte_at, is_enabled, short_after, search_after}, specs.Row.{row_after, answers_of, heard_of, drawn_of, takes, left_after}}
pub use Rattle.dali_gear.{specs.Row.{row_left, draws_needed, stored_of, one_after, option_cons, next_draw, drawn_one}, specs.declared.gear_set.GearSet.GearSet}
pub use Rattle.dali_gear.{specs.declared.row.Reach.Reach, specs.declared.row.Reach.TheVariants.Everyone}
pub use Rattle.dali_gear.{specs.declared.state.InitialisationState.InitialisationState, specs.declared.state.InitialisationState.TheVariants.Enabled}
pub use Rattle.dali_gear.specs.declared.state.InitialisationState.TheVariants.{Disabled, Withdrawn}
pub use Rattle.dali_arbiter.{specs.Arbiter.{request_of, Arbiter, idle, total, next, collision, bus_silenced, owns}, specs.declared.request.Request.Request}
pub use Rattle.dali_script.{proofs.Firsts.free_is_empty, proofs.Found.{finding_after, trace_none, trace_more, finding_more}, proofs.Giving.first_of_both}
pub use Rattle.dali_script.{proofs.Giving.second_of_both, proofs.Lists.{has_last, has_map, enrolled_stays, has_before, without_has, block_stays, has_cases}}
pub use Rattle.dali_script.{proofs.Members.{has_left, has_right, same_member, mapped_from}, proofs.Transactions.{stage_more, stage_none, lawful_follows, equal}}
pub use Rattle.dali_script.{proofs.Transactions.{middle_next, low_next}, specs.Due.{due_after, accepts, frame_put, record_ordered}, specs.Findings.finding_of}
pub use Rattle.dali_script.{specs.Findings.{assigned, search_of, asked_of, found_by, later}, specs.Records.{Kept, Assignment, Has, HasAddress, without_records}}
pub use Rattle.dali_script.{specs.Records.{HasRandom, with_record, IsMap, InBlock, IsKept, IsFresh, MayAdd, IsOnce}, specs.Scripts.{Open, Lawful, IsLawful}}
pub use Rattle.dali_script.{specs.Scripts.{Probe, Close, CALLING}, specs.Stages.{next_stage, finding_at, byte_heard, bytes_heard, number_heard, leads, given}}
pub use Rattle.dali_script.{specs.Stages.{queried, verified, IsSearched, named, IsTrace, doubted}, specs.declared.block.Block.Block}
pub use Rattle.dali_script.{specs.declared.finding.Finding.Finding, specs.declared.finding.Finding.TheVariants.{Resolved, Queried}}
pub use Rattle.dali_script.{specs.declared.orders.Due.Due, specs.declared.orders.End.End, specs.declared.orders.End.TheVariants.{AllFound, BlockFull, GaveUp}}
pub use Rattle.dali_script.{specs.declared.orders.Fault.Fault, specs.declared.orders.Input.Input, specs.declared.orders.Order.Order}
pub use Rattle.dali_script.{specs.declared.orders.Order.TheVariants.{Put, Commit, Done, Halt}, specs.declared.records.Record.Record}
pub use Rattle.dali_script.{specs.declared.records.Record.TheVariants.{Reserve, Enrol, Release}, specs.declared.stage.Stage.Stage}
pub use Rattle.dali_script.specs.declared.stage.Stage.TheVariants.{Free, Unnamed, Inconclusive, Spelled, Terminated, Hunted, InitialisedOnce, Initialised}
pub use Rattle.dali_script.specs.declared.stage.Stage.TheVariants.{RandomisedOnce, Opened, HighSent, MiddleSent, NumberSent, Probed}
pub use Rattle.dali_script.{specs.declared.trace.Entry.Entry}
unfoldable pub use Rattle.dali_script.{specs.Stages.stage_of}
pub use Rattle.dali_search.{proofs.Agreement.agrees_more, proofs.Ascents.{yes_is, no_is, asked_drawn, says_found}, proofs.TrueAnswers.somebody_costs}
pub use Rattle.dali_search.{proofs.TrueAnswers.{nobody_costs, first_true, above_true}, specs.Ascending.{Knows, leads_to, ascent_at_first, Ascent, above}}
pub use Rattle.dali_search.{specs.Ascending.{gone_on_from, one_if, IsAscent, is_bounded, ascended, begun_anew, asked_next}, specs.Least.{answered, Search}}
pub use Rattle.dali_search.{specs.Least.{Agrees, Gives, HasAtMost, Says, NumberOf, lowest, highest, step_between}, specs.Narrowing.IsNarrowing}
pub use Rattle.dali_search.specs.Questions.{asking_next, room_left, has_room, frames_to_ask, IsTrueWay, no_question, thirds_to_somebody, thirds_to_nobody}
pub use Rattle.dali_search.specs.declared.step.Step.TheVariants.{Again, Found, Nobody}
unfoldable pub use Rattle.dali_search.{specs.Questions.bytes_apart}
pub use Rattle.dali_controller.{proofs.Courses.{found_number, hunted_keeps, keeps_way, either, keeps_fresh, goes_on_fresh}, proofs.Given.{IsGivenBy, given_by}}
pub use Rattle.dali_controller.{proofs.Given.{IsNoEnrolment, unwarranted}, specs.Course.{Course, first_of, number_at, address_for, is_open, open_among}}
pub use Rattle.dali_controller.specs.Course.{least_open, is_another, is_anothers, sought, byte_to_send, call_turn, turn_of, closing_of, is_asked, asked_among}
pub use Rattle.dali_controller.specs.Course.{next_asked, going_on, going_on_early, ask_or_call, is_yes, closing, searching_first, searching_on, hunted}
pub use Rattle.dali_controller.specs.Course.{asking_again, next_unfinished, probed, after_step, asking, calling_first, hunting, hunting_first, hunting_above}
pub use Rattle.dali_controller.specs.Course.{visiting, calling, opening_at_last, bytes_to_send, drawing, opening_anew, passing_over, missed, searching_anew}
pub use Rattle.dali_controller.{specs.Course.{opening, unfinished_at, unfinished_among, visit_or_opening}, specs.Machine.{Machine, machine_told, machine_heard}}
pub use Rattle.dali_controller.specs.Machine.{machine_committed, heard_after, marked_at, is_withheld, is_withheld_by, machine_surveying, machine_lost, at_first}
pub use Rattle.dali_controller.{specs.Machine.{tries_after, asked_at, asked_after_silence, asked_after, silent_after}, specs.Next.{course_by, next_course}}
pub use Rattle.dali_controller.specs.Next.{beginning, begins_at, goes_on_to, asked_once, course_on, at_rest, asked_on, silenced, silenced_on, missed_again}
pub use Rattle.dali_controller.specs.Next.{is_failed, most_silent, unanswered, hunted_in, hunted_to, has_open, may_draw, asks_again, full, ungiven, undrawn}
pub use Rattle.dali_controller.specs.Next.{giving_up}
pub use Rattle.dali_controller.{specs.Next.{is_blocked, called_to, compared_in, blocked, nobody_left, question, is_hunting, BeginsWith}, specs.Orders.IsGiven}
pub use Rattle.dali_controller.specs.Orders.{IsSought, IsAnswered, IsOrdered, AfterFinding, AfterReserved, AfterMaskBy, AfterMaskOn, AfterMaskSurveyed}
pub use Rattle.dali_controller.specs.Orders.{machine_after, machine_ordered, IsAddressing, IsAllowed, asked_by, MayCommit, AfterEnrolled, IsBegun, IsCaused}
pub use Rattle.dali_controller.{specs.Orders.{IsFollowed, running_close, Contradicts}, specs.Shorts.{has_short, with_short, without_short}}
pub use Rattle.dali_controller.{specs.Tally.{asked_again, served, heard_call, silent_call, passed_over, drew, none_passed, is_some_passed}, specs.Whole.IsWhole}
pub use Rattle.dali_controller.{specs.Whole.{IsSending, Pending, Sends, IsReady, IsUnstarted, IsOpenedOn, AsksOn}, specs.declared.purpose.Purpose.Purpose}
pub use Rattle.dali_controller.specs.declared.purpose.Purpose.TheVariants.{Asking, Opening, Probing, Visiting, Closing, Hunting, Calling, PassingOver}
pub use Rattle.dali_controller.{specs.declared.purpose.Purpose.TheVariants.{Resolving, Drawing}, specs.declared.shorts.Shorts.Shorts}
pub use Rattle.dali_controller.{specs.declared.tally.Passed.Passed, specs.declared.tally.Tally.Tally, specs.declared.way.Way.Way}
pub use Rattle.dali_controller.specs.declared.way.Way.TheVariants.{Fresh, Surveying}
pub use Rattle.dali_events.{proofs.Histories.Tested.{allowed_by, is_allowed}, proofs.Invariant.Agreeing.{used_kept, findings_agree_in}}
pub use Rattle.dali_events.{proofs.Invariant.Drawn.{are_drawn, draws_after}, proofs.Invariant.Gifts.{Change, Given}, proofs.Invariant.Growing.leaves_none}
pub use Rattle.dali_events.{proofs.Invariant.Growing.{after_more, run_more}, proofs.Invariant.Known.found_random, proofs.Invariant.Safe.{Holds, holds_after}}
pub use Rattle.dali_events.{proofs.Invariant.Safe.{sent_changes, keeps_promise, reserved_number}, proofs.Invariant.Sending.lawful_of}
pub use Rattle.dali_events.{proofs.Invariant.Starting.{start_count, stands, IsUsedOrFresh, row_at}, proofs.Invariant.Takes.row_length, proofs.Plans.plan_is}
pub use Rattle.dali_events.{proofs.Search.Halves.gear_are_searched, proofs.Search.Heard.{opened_apart, random_found, one_answers, queried_short, queried_none}}
pub use Rattle.dali_events.{proofs.Search.Heard.{nobody_answers, none_answer, silent_above, heard_below}, proofs.Search.Leaving.{LeavesShort, SameCore}}
pub use Rattle.dali_events.{proofs.Search.Leaving.{SameGear, LeavesCore, SeekMiddle, SeekHigh}, proofs.Search.Opened.{AreOpening, OpenedBy, IsOpening}}
pub use Rattle.dali_events.{proofs.Search.Programming.{after_program, Programs, programs_at, programmed_wants}, proofs.Search.Wanted.{after_at, count_at_most}}
pub use Rattle.dali_events.proofs.Search.Wanted.{is_bare_by, bare_is, same_number, number_same, wanted_powered, wanted_active, both_pass, count_same, at_any}
pub use Rattle.dali_events.{proofs.Search.Wanted.count_less, proofs.Search.Withdrawing.{after_withdraw, Withdraws, withdraws_at, withdrawn_wants}}
pub use Rattle.dali_events.{specs.Allowed.{Allowed, IsDue, IsUp, IsCommit, MayOrder, HasDraws, Hears, IsActed, IsSent, IsDown, IsArc}, specs.Happens.happens}
pub use Rattle.dali_events.specs.Happens.{is_arc, trace_running, entry, controller_informed, controller_acted, outstanding_told, outstanding_after, kept_after}
pub use Rattle.dali_events.specs.Happens.{bus_acted, gives_up, told_sent, goes_on, sent_by, told_of, told_destroyed, told_lapsed, owner_told, gone_down}
pub use Rattle.dali_events.{specs.Happens.{come_up, with_outstanding}, specs.Laws.{IsReservedFor, IsOfUsed, FindingsAgree, HasFound}, specs.Plan.Plan}
pub use Rattle.dali_events.{specs.Plan.{block_at, IsPlan, no_block}, specs.Promise.{KeepsPromiseNow, HoldsShort, KeepsAddresses, KeepsPromise}}
pub use Rattle.dali_events.{specs.Runs.{IsRun, LeavesUsed, AreDrawn, IsDrawer}, specs.Searching.HasShort, specs.Troubles.nobody_at_all, specs.Used.used_gear}
pub use Rattle.dali_events.{specs.Used.used_shorts, specs.Wanted.{Seek, OfPowered, is_bare, IsOpened, NoneNamed, wants, is_wanted, AreApart, NoneNamedBut}}
pub use Rattle.dali_events.{specs.Wanted.{AreNamed, gear_of}, specs.World.{World, Controller, controller_at, start, nobody, gear_at, controllers_changed}}
pub use Rattle.dali_events.{specs.World.controller_begun, specs.declared.event.Event.Event, specs.declared.used.Used.Used}
pub use Rattle.dali_standing.{proofs.InUse.leaves_acted, specs.Seats.{MayAnswer, LeavesWhole, informed_by, IsFound, due_of, ReservesUsed, Waits}}
pub use Rattle.dali_standing.{specs.Standing.{machine_in, machines_at, machines_after}, specs.declared.refusal.Refusal.Refusal}
pub use Rattle.dali_standing.{specs.declared.report.Report.Report}
pub use Rattle.dali_world.{proofs.Logs.{records_now, machines_more}, proofs.Rolls.{changed_at, none_set, some_set, by_place}, specs.Site.{SiteState, world}}
pub use Rattle.dali_world.specs.Site.{site_logged, machine_at, next_request, machines, IsPumpRefused, opened_site, IsBarred, IsActRefused, HasActed, Pumps}
pub use Rattle.dali_world.{specs.Site.WasOrdered}
pub use Rattle.dali_replay.{specs.Installation.{Installation, installation_of, HasNoneBy, IsGoRefused, controller, Goes, HasStepped}, specs.Rounds.has_turn}
pub use Rattle.dali_replay.specs.Rounds.{controllers, has_turn_by, IsTurn, Turns, IsTurnRefused, IsRoundOf, Ran, is_sent, came_of, IsRound}
pub use Rattle.dali_progress.specs.Census.{IsNamed, IsSurveyed, BeginsBySurvey, AreWhole, was_sent, was_lost, frames_asked, frames_lost, IsSteady, AreSteady}
pub use Rattle.dali_progress.{specs.Census.{WasSilent, Spells, WasSpelled, IsClean, HasTakenCensus, FallsSilent}, specs.Ends.{IsTrueEnd, NamesAll, table_at}}
pub use Rattle.dali_progress.{specs.Ends.{EndsWell, IsUnseen, AreTabled, CommitsNothing, SurveyEndsWell, IsSurveyDone}, specs.Misheard.IsHeardBut}
pub use Rattle.dali_progress.{specs.Misheard.{IsOfRoundBut, RoundsBut, EndsWellBut, IsTrueEndBut, AreServedBut, IsNoByte}, specs.Replaced.{IsVacant, HasVacant}}
pub use Rattle.dali_progress.{specs.Replaced.{HasNew, only, IsServed, IsReplacing}, specs.Rounds.{HasEnded, HasNext, GoesOn, IsAlone, Succeeds, IsOfRound}}
pub use Rattle.dali_progress.specs.Rounds.{Rounds, site_after, is_frame, frames, ByStart, BeginsAlone, most_events, Beginning, most_frames, by_survey, BySurvey}
pub use Rattle.dali_progress.{specs.Rounds.{bare, IsSettled, IsSettledAt, IsSettledOn, restarted}, specs.Running.{HasEndedBy, WasRefused, HasBegun, begun}}
pub use Rattle.dali_progress.{specs.Running.{RanAlone, HasNoneUsed, SparesUsed, SparesUsedOf, HasRoom}, specs.Spared.{HavePower, IsOfCall, AreOfCalls}}
pub use Rattle.dali_progress.specs.Spared.{AsksInPeace, AllAskInPeace, IsUsedOf, BeginsBySurveys, asks_first, is_silence, silences_after, IsHeardInTime}
pub use Rattle.dali_progress.{specs.Spared.{HasJustBegun, HearsUsed, HasAsked, StaysBegun}, specs.Surveyed.{Step, IsTaken, IsCourse, stage_told, heard_at}}
pub use Rattle.dali_progress.specs.Surveyed.{heard_by, WasHeard, IsPlain, ArePlain, IsAccounted}
