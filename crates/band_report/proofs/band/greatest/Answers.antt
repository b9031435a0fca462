use Rattle.std.proofs.Common.{List, length}
use Rattle.scenario_data.specs.Content.{scenario_content}
use Rattle.band_report.specs.Street.{Member, members}
use Rattle.band_report.proofs.Reports.{Ready, ready, fit-ready, report-ready}
use Rattle.band_report.proofs.band.greatest.Goals as goal

pub arcs-requires-clause-some : goal.arcs-requires-clause-some
arcs-requires-clause-some c =
    let ms : List Member = members (scenario_content c.args.s.now).cabinets c.args.section in
    (ready c.args.pattern (length c.args.travel.now.items) c.args.inbound ms c.in-Ok.signals.items c.index.result.now c.in-Ok.ensures c.requires.fits c.index.ensures).some

pub band_of-requires : goal.band_of-requires
band_of-requires c =
    let ms : List Member = members (scenario_content c.args.s.now).cabinets c.args.section in
    let r : Ready c.args.pattern c.args.inbound ms c.index.result.now =
    ready c.args.pattern (length c.args.travel.now.items) c.args.inbound ms c.in-Ok.signals.items c.index.result.now c.in-Ok.ensures c.requires.fits c.index.ensures in
    record {
      fit = fit-ready c.args.pattern (length c.args.travel.now.items) c.args.inbound c.args.travel.now.items ms c.index.result.now c.in-Ok-arcs.arcs.items c.requires.fits r
          (c.in-Ok-arcs.ensures c.args.pattern ms c.in-Ok.ensures r.cycles);
    }

pub returns-in-Ok-arcs : goal.returns-in-Ok-arcs
returns-in-Ok-arcs c =
    let ms : List Member = members (scenario_content c.args.s.now).cabinets c.args.section in
    let r : Ready c.args.pattern c.args.inbound ms c.index.result.now =
    ready c.args.pattern (length c.args.travel.now.items) c.args.inbound ms c.in-Ok.signals.items c.index.result.now c.in-Ok.ensures c.requires.fits c.index.ensures in
    report-ready c.args.pattern (length c.args.travel.now.items) c.args.inbound c.args.travel.now.items ms c.index.result.now c.in-Ok-arcs.arcs.items c.band_of.result c.requires.fits r
    (c.in-Ok-arcs.ensures c.args.pattern ms c.in-Ok.ensures r.cycles) c.band_of.ensures
