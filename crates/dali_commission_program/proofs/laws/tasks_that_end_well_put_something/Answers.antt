use Rattle.std.specs.Prelude.{option_map, slice_get, string_bytes}
use Rattle.dali_commissioning.specs.Drivers.{talk_of, has_heard, lines_of}
use Rattle.dali_commission_said.specs.Tables.{only}
use Rattle.dali_commission_stores.specs.Lent.{IsOpened}
use Rattle.dali_commission_program.proofs.{Growing.more_is_not_nothing, Nothing.shown_more, Nothing.check_more}
use Rattle.dali_commission_program.proofs.{Refused.refused_puts, Clearing.clear_more, Mended.run_lent_more, Mended.mend_more, Replaced.{replaced, accepted}}
use Rattle.dali_commission_program.proofs.laws.tasks_that_end_well_put_something.Goals as goal

pub returns-clause-identify : goal.returns-clause-identify
returns-clause-identify g c a records others was now x y shown =
    more_is_not_nothing _ _
    (shown_more a (talk_of g.R.Read.remaining g.W.Write.contents x.driver) (talk_of g.R.Read.remaining g.W.Write.contents y.driver) shown.0)

pub returns-clause-check : goal.returns-clause-check
returns-clause-check g c records others was now x y checked =
    more_is_not_nothing _ _
    (check_more g.F.Stores.saw was (g.S.Voice.told c.args._system.now) others (has_heard y.driver) (lines_of y.driver)
    (talk_of g.R.Read.remaining g.W.Write.contents x.driver) (talk_of g.R.Read.remaining g.W.Write.contents y.driver) x.report y.report
    (option_map (λ it. string_bytes it) (slice_get records 0)) checked)

pub returns-clause-clear : goal.returns-clause-clear
returns-clause-clear g c records others was now x y cleared =
    more_is_not_nothing _ _
    (clear_more g.F.Stores.made g.F.Stores.saw (g.S.Voice.told c.args._system.now) records was now
    (talk_of g.R.Read.remaining g.W.Write.contents x.driver) (talk_of g.R.Read.remaining g.W.Write.contents y.driver) (lines_of y.driver) x.report
    y.report cleared)

pub returns-clause-run : goal.returns-clause-run
returns-clause-run g c setup records others was now x y lent =
    more_is_not_nothing _ _
    (run_lent_more g.F.Open.Keep.is_up g.F.Open.Keep.is_sound g.F.Open.Keep.holds g.F.Open.Keep.kept g.R.Read.remaining g.W.Write.contents
    (g.S.Voice.told c.args._system.now) others setup g.F.Open.Keep.block
    (IsOpened g.F.Open.Keep.block g.F.Stores.saw g.F.Stores.opens was (only records) setup.block) x y lent)

pub returns-clause-mend : goal.returns-clause-mend
returns-clause-mend g c wanted records others was now x y mended =
    more_is_not_nothing _ _
    (mend_more g.F.Open.Keep.is_up g.F.Open.Keep.is_sound g.F.Open.Keep.holds g.F.Open.Keep.kept g.F.Open.Keep.block g.F.Stores.saw
    g.F.Stores.opens g.R.Read.remaining g.W.Write.contents (g.S.Voice.told c.args._system.now) others wanted was x y records mended)

pub returns-clause-replace : goal.returns-clause-replace
returns-clause-replace g c wanted records others was now x y (random, replaces) nothing = (
  random,
  replaced g.F.Open.Keep.is_up g.F.Open.Keep.is_sound g.F.Open.Keep.holds g.F.Open.Keep.kept g.F.Open.Keep.block g.F.Stores.made g.F.Stores.saw
      g.F.Stores.opens g.R.Read.remaining g.W.Write.contents (g.S.Voice.told c.args._system.now) wanted records random was now x
      y replaces nothing,
)

pub returns-clause-accept : goal.returns-clause-accept
returns-clause-accept g c wanted records others was now x y (random, accepts) =
    more_is_not_nothing _ _
    (accepted g.F.Open.Keep.kept g.F.Open.Keep.block g.F.Stores.made g.F.Stores.saw g.F.Stores.opens g.R.Read.remaining g.W.Write.contents
    (g.S.Voice.told c.args._system.now) wanted records random was now x y accepts)

pub returns-clause-refused : goal.returns-clause-refused
returns-clause-refused g c = refused_puts
