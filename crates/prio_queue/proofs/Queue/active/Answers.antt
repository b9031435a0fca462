use Rattle.std.proofs.Common.{sym, ◌∙◌, ap, Option, arith}
use Rattle.sig_tables.specs.Priority.{Place, number_of}
use Rattle.prio_queue.specs.Places.{some_number}
use Rattle.prio_queue.proofs.Leading.{active-is, all-departed, number-some}
use Rattle.prio_queue.proofs.Queue.active.Goals as goal

pub returns-then-self-from : goal.returns-then-self-from
returns-then-self-from c = record {
  active = λ past t n s h. sym (ap some_number (all-departed c.args.self.now past t n c.args.tick s (omega (arith, c.if-self-from.true, c.from.ensures))));
}

pub returns-in-Some : goal.returns-in-Some
returns-in-Some c = record {
  active = λ past t n s h.
      number-some _ c.in-Some.place.numbered
      ∙ ap (λ (p : Option Place). some_number (number_of p)) (c.in-Some.ensures past t n s h)
      ∙ ap some_number (sym (active-is t n c.args.tick past.asked));
}

pub returns-in-None : goal.returns-in-None
returns-in-None c = record {
  active = λ past t n s h.
      ap (λ (p : Option Place). some_number (number_of p)) (c.in-None.ensures past t n s h)
      ∙ ap some_number (sym (active-is t n c.args.tick past.asked));
}
