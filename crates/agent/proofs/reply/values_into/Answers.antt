use Rattle.std.proofs.Common.{◌≡◌, ◌+◌, List, ◌∷◌, Bool, drop, sym, ap, subst, ◌∙◌, arith}
use Rattle.std.proofs.lemmas.List.{drop_more}
use Rattle.snmp_msg.specs.declared.message.Bind.{Bind}
use Rattle.agent.specs.Bindings.{before, each_gives}
use Rattle.agent.specs.Seen.{seen}
use Rattle.agent.specs.Replies.{given}
use Rattle.agent.specs.Written.{Leads}
use Rattle.agent.proofs.Written.{leads-more}
use Rattle.agent.proofs.reply.values_into.Goals as goal

pub loop-bind-preserved : goal.loop-bind-preserved
loop-bind-preserved c =
    let i = c.loop-bind.bind-index in
    let binds = c.args.binds.now in
    let bind = c.bind-item.result in
    let give = given c.args.reach (seen c.args.cabinet.now) in
    let others = each_gives give (i + 1 + 1) (drop (i + 1) binds) in
    let all = each_gives give 1 binds in
    let next : drop i binds ≡ bind ∷ drop (i + 1) binds = drop_more binds i bind c.loop-bind-test.true ∙ ap (λ (b : Bind). b ∷ drop (i + 1) binds) (sym c.bind-item.is) in
    let leads : Leads c.loop-bind.fits c.loop-bind.list.items (before (give bind) (i + 1) others) all =
    subst (λ (bs : List Bind). Leads c.loop-bind.fits c.loop-bind.list.items (each_gives give (i + 1) bs) all) next c.loop-bind.invariant.leads in
    let more = leads-more c.loop-bind.fits c.in-Ok.found c.loop-bind.list.items c.put_given.new.list.items (give bind) (i + 1) others all c.in-Ok.ensures.puts leads in
    record {
      count = omega (arith, c.loop-bind.invariant.count);
      leads = subst (λ (fits : Bool). Leads fits c.put_given.new.list.items others all) (sym c.both-fits.ensures) more;
    }
