use Rattle.std.specs.Prelude.{option_map, slice_get, string_bytes}
use Rattle.dali_commissioning.specs.Drivers.{talk_of, has_heard, lines_of}
use Rattle.dali_commission_said.specs.Tables.{only}
use Rattle.dali_commission_stores.specs.Lent.{IsOpened}
use Rattle.dali_commission_asked.proofs.Ruled.{shown, check}
use Rattle.dali_commission_mended.proofs.Ruled.{survey_left, start_left}
use Rattle.dali_commission_replaced.proofs.{Failed.failed, Ruled.{replaced, accepted}}
use Rattle.dali_commission_program.proofs.Ruled.{run}
use Rattle.dali_commission_program.proofs.laws.tasks_keep_the_rules_of_the_page.Goals as goal

pub returns-clause-identify : goal.returns-clause-identify
returns-clause-identify g c a short records others was now x y is =
    shown a (talk_of g.R.Read.remaining g.W.Write.contents x.driver) (talk_of g.R.Read.remaining g.W.Write.contents y.driver) short is.0

pub returns-clause-check : goal.returns-clause-check
returns-clause-check g c records others was now x y checked =
    check g.F.Stores.saw was (g.S.Voice.told c.args._system.now) others (has_heard y.driver) (lines_of y.driver)
    (talk_of g.R.Read.remaining g.W.Write.contents x.driver) (talk_of g.R.Read.remaining g.W.Write.contents y.driver) x.report y.report
    (option_map (λ it. string_bytes it) (slice_get records 0)) checked

pub returns-clause-run : goal.returns-clause-run
returns-clause-run g c setup none records others was now x y lent =
    run g.F.Open.Keep.is_up g.F.Open.Keep.is_sound g.F.Open.Keep.holds g.F.Open.Keep.kept g.F.Open.Keep.block
    (IsOpened g.F.Open.Keep.block g.F.Stores.saw g.F.Stores.opens was (only records) setup.block) g.R.Read.remaining g.W.Write.contents
    (g.S.Voice.told c.args._system.now) others setup x y none lent

pub returns-clause-replace : goal.returns-clause-replace
returns-clause-replace g c wanted short records others was now x y (random, replaces) =
    replaced g.F.Open.Keep.is_up g.F.Open.Keep.is_sound g.F.Open.Keep.holds g.F.Open.Keep.kept g.F.Open.Keep.block g.F.Stores.made g.F.Stores.saw
    g.F.Stores.opens g.R.Read.remaining g.W.Write.contents (g.S.Voice.told c.args._system.now) wanted records random was now x y short replaces

pub returns-clause-accept : goal.returns-clause-accept
returns-clause-accept g c wanted short records others was now x y (random, accepts) =
    accepted g.F.Open.Keep.kept g.F.Open.Keep.block g.F.Stores.made g.F.Stores.saw g.F.Stores.opens g.R.Read.remaining g.W.Write.contents
    (g.S.Voice.told c.args._system.now) wanted records random was now x y short accepts

pub returns-clause-survey_left : goal.returns-clause-survey_left
returns-clause-survey_left g c = survey_left g.F.Open.Keep.is_up g.F.Open.Keep.is_sound g.F.Open.Keep.holds

pub returns-clause-start_left : goal.returns-clause-start_left
returns-clause-start_left g c = start_left g.F.Open.Keep.is_up g.F.Open.Keep.is_sound g.F.Open.Keep.holds

pub returns-clause-replace_failed : goal.returns-clause-replace_failed
returns-clause-replace_failed g c wanted short records others failure was now x y fails =
    failed g.F.Open.Keep.is_up g.F.Open.Keep.is_sound g.F.Open.Keep.holds g.F.Open.Keep.kept g.F.Open.Keep.block g.F.Stores.made g.F.Stores.began
    g.F.Stores.saw g.F.Stores.opens g.R.Read.remaining g.W.Write.contents (g.S.Voice.told c.args._system.now) wanted records failure was now x y short
    fails
