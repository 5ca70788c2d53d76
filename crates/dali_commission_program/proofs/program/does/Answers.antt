use Rattle.std.proofs.Common.{◌∙◌, ap}
use Rattle.std.specs.Prelude.{option_map, slice_get, string_bytes}
use Rattle.dali_commission_said.specs.Tables.{only}
use Rattle.dali_commission_program.proofs.Done.{run_done, check_done, replace_done, accept_done}
use Rattle.dali_commission_program.proofs.program.does.Goals as goal

pub returns-in-Run : goal.returns-in-Run
returns-in-Run g c =
    run_done g.F.Open.Keep.is_up g.F.Open.Keep.is_sound g.F.Open.Keep.holds g.F.Open.Keep.kept g.F.Open.Keep.block g.F.Stores.made g.F.Stores.began
    g.F.Stores.saw
    g.F.Stores.opens g.R.Read.remaining g.W.Write.contents (g.S.Voice.told c.args.system.now) (g.S.Writes.wrote c.args.system.now)
    c.args.asked.now.records.items _ c.as_slice-others.result.now c.args.asked.now.others.items c.args.stores.now c.lend.new.stores
    c.args.session.now c.lend.new.beside c.lend.result
    c.args.asked.now.task c.in-Run.setup c.in-Run.is
    (c.only.ensures ∙ ap only c.deref-in-Run.ensures.value) c.as_slice-others.ensures.value c.lend.ensures.lent

pub returns-in-Check : goal.returns-in-Check
returns-in-Check g c =
    check_done g.F.Open.Keep.is_up g.F.Open.Keep.is_sound g.F.Open.Keep.holds g.F.Open.Keep.kept g.F.Open.Keep.block g.F.Stores.made g.F.Stores.began
    g.F.Stores.saw
    g.F.Stores.opens g.R.Read.remaining g.W.Write.contents (g.S.Voice.told c.args.system.now) (g.S.Writes.wrote c.args.system.now)
    c.args.asked.now.records.items _ c.as_slice-others.result.now c.args.asked.now.others.items c.args.stores.now c.args.stores.now
    c.args.session.now c.checks.new.session c.checks.result
    c.args.asked.now.task c.in-Check.is
    (c.first-name.ensures ∙ ap (λ rs. option_map (λ it. string_bytes it) (slice_get rs 0)) c.deref.ensures.value) c.as_slice-others.ensures.value
    c.checks.ensures

pub returns-in-Replace : goal.returns-in-Replace
returns-in-Replace g c =
    replace_done g.F.Open.Keep.is_up g.F.Open.Keep.is_sound g.F.Open.Keep.holds g.F.Open.Keep.kept g.F.Open.Keep.block g.F.Stores.made g.F.Stores.began
    g.F.Stores.saw g.F.Stores.opens g.R.Read.remaining g.W.Write.contents (g.S.Voice.told c.args.system.now) (g.S.Writes.wrote c.args.system.now)
    _ c.args.asked.now.records.items c.args.asked.now.others.items c.args.stores.now c.replaces.new.stores c.args.session.now c.replaces.new.session
    c.replaces.result c.args.asked.now.task c.in-Replace.wanted c.in-Replace.is c.deref-in-Replace.ensures.value c.replaces.ensures.replaced
    c.replaces.ensures.failed

pub returns-in-Accept : goal.returns-in-Accept
returns-in-Accept g c =
    accept_done g.F.Open.Keep.is_up g.F.Open.Keep.is_sound g.F.Open.Keep.holds g.F.Open.Keep.kept g.F.Open.Keep.block g.F.Stores.made g.F.Stores.began
    g.F.Stores.saw g.F.Stores.opens g.R.Read.remaining g.W.Write.contents (g.S.Voice.told c.args.system.now) (g.S.Writes.wrote c.args.system.now)
    _ c.args.asked.now.records.items c.args.asked.now.others.items c.args.stores.now c.accepts.new.stores c.args.session.now c.accepts.new.session
    c.accepts.result c.args.asked.now.task c.in-Accept.wanted c.in-Accept.is c.deref-in-Accept.ensures.value c.accepts.ensures.accepted
    c.accepts.ensures.failed
