use Rattle.std.proofs.Common.{◌≡◌, ◌+◌, ◌∙◌, ℕ, refl, arith, sym, ap, Bool, [], ◌∷◌, if◌then◌else◌}
use Rattle.std.specs.Coded.{le_prop}
use Rattle.std.proofs.Math.Logic.{∥∥₁_elim}
use Rattle.sig_types.specs.declared.frame.Frame.{Frame}
use Rattle.sig_tables.specs.Decide.{last_frame_of}
use Rattle.tick_context.specs.Strides.{ticks_more}
use Rattle.cabinet_history.specs.Coming.{history_of}
use Rattle.cab_book.proofs.Striding.{stride-written, stride-stands}
use Rattle.cab_book.proofs.cabinet.Cabinet.stride.Goals as goal

pub stride_told-ticks-requires : goal.stride_told-ticks-requires
stride_told-ticks-requires c = record {
  some = c.requires.some;
  few = ∥∥₁_elim c.requires.stood le_prop (λ stood. omega (arith, stood.1.keeps.counted, c.requires.few));
}

pub returns-then-told-clause-gives : goal.returns-then-told-clause-gives
returns-then-told-clause-gives c = λ cabinet_history is.
    let h = history_of cabinet_history in
    let m : ℕ = c.stride_told-ticks.result.0 in
    let e = c.stride_told-ticks.ensures in
    let next : c.frame.result ≡ last_frame_of (ticks_more m h) = c.frame.ensures.frame (ticks_more m h) (e.stands h is.keeps.control) in
    ap (λ (b : Bool). if b then (c.args.self.now.ticks + m, c.frame.result) ∷ [] else []) (sym c.if-told.true)
    ∙ stride-written m c.args.self.now.ticks c.stride_told-ticks.result.1 c.frame.result cabinet_history e.some (e.least h is.keeps.control).plain
    (e.told h is.keeps.control) next is.keeps.sound.ticks

pub returns-then-told-clause-stands : goal.returns-then-told-clause-stands
returns-then-told-clause-stands c = λ cabinet_history is.
    let e = c.stride_told-ticks.ensures in
    stride-stands c.args.self.now c.stride_told-ticks.new.self c.stride_told-ticks.result.0 cabinet_history e.some is (e.stands (history_of cabinet_history) is.keeps.control) e.counted

pub returns-else-told-clause-gives : goal.returns-else-told-clause-gives
returns-else-told-clause-gives c = λ cabinet_history is.
    let h = history_of cabinet_history in
    let m : ℕ = c.stride_told-ticks.result.0 in
    let e = c.stride_told-ticks.ensures in
    let next : Frame = last_frame_of (ticks_more m h) in
    ap (λ (b : Bool). if b then (c.args.self.now.ticks + m, next) ∷ [] else []) (sym c.if-told.false)
    ∙ stride-written m c.args.self.now.ticks c.stride_told-ticks.result.1 next cabinet_history e.some (e.least h is.keeps.control).plain
    (e.told h is.keeps.control) refl is.keeps.sound.ticks

pub returns-else-told-clause-stands : goal.returns-else-told-clause-stands
returns-else-told-clause-stands c = λ cabinet_history is.
    let e = c.stride_told-ticks.ensures in
    stride-stands c.args.self.now c.stride_told-ticks.new.self c.stride_told-ticks.result.0 cabinet_history e.some is (e.stands (history_of cabinet_history) is.keeps.control) e.counted

pub returns-then-told-clause-least : goal.returns-then-told-clause-least
returns-then-told-clause-least c = λ cabinet_history is. c.stride_told-ticks.ensures.least (history_of cabinet_history) is.keeps.control

pub returns-else-told-clause-least : goal.returns-else-told-clause-least
returns-else-told-clause-least c = λ cabinet_history is. c.stride_told-ticks.ensures.least (history_of cabinet_history) is.keeps.control
