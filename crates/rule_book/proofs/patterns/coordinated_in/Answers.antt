use Rattle.std.proofs.Common.{◌≡◌, ◌∙◌, ◌∷◌, [], ◌==◌, ◌&&◌, Bool, true, false, refl, arith}
use Rattle.sig_tables.specs.Tables.{ring_of, is_enabled}
use Rattle.sig_tables.specs.Slots.{split_entry, is_coordinated}
use Rattle.sig_tables.specs.Layout.{Has, set_of}
use Rattle.sig_tables.proofs.Laid.{each-ring}
use Rattle.rule_book.proofs.patterns.coordinated_in.Goals as goal

both : (e r k : Bool) → ((e && r) && (e && k)) ≡ (r && (e && k))
both true true k = refl
both true false k = refl
both false true k = refl
both false false k = refl

pub returns : goal.returns
returns c = each-ring
    (λ r. Has (set_of (c.meet.result ∷ c.meet-2.result ∷ []) r) (λ p. ring_of c.args.tables.now p == r && is_coordinated c.args.tables.now c.args.pattern p))
    (λ p on. c.meet.ensures.has p ∙ rw (c.requires.reads.rings 1 (omega arith) (omega arith) p on, c.coordinated-set.ensures p on)
    (both (is_enabled c.args.tables.now p) (ring_of c.args.tables.now p == 1) ((split_entry c.args.tables.now c.args.pattern p).coordinated == 1)))
    (λ p on. c.meet-2.ensures.has p ∙ rw (c.requires.reads.rings 2 (omega arith) (omega arith) p on, c.coordinated-set.ensures p on)
    (both (is_enabled c.args.tables.now p) (ring_of c.args.tables.now p == 2) ((split_entry c.args.tables.now c.args.pattern p).coordinated == 1)))
