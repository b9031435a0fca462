use Rattle.std.proofs.Common.{◌≡◌, ◌≢◌, ◌<◌, ◌-◌, ◌∙◌, inl, inr, ℕ, List, length, ap, arith}
use Rattle.std.proofs.lemmas.List.{get_or-set_same, get_or-set_other}
use Rattle.std.proofs.lemmas.Bool.Decides.{eqb_tells}
use Rattle.sig_tables.specs.declared.tables.SplitEntry.{SplitEntry}
use Rattle.sig_tables.specs.declared.tables.Tables.{Tables}
use Rattle.sig_tables.specs.declared.tables.PhaseTimes.{PhaseTimes}
use Rattle.sig_tables.specs.Sums.{sum_of, before}
use Rattle.sig_tables.specs.Slots.{slot_start, split_time, pattern_order}
use Rattle.sig_tables.specs.Laying.{time_of}
use Rattle.sig_tables.proofs.Below.{is-above}
use Rattle.sig_tables.proofs.Filled.{filled-more}
use Rattle.sig_tables.proofs.slots.starts.Goals as goal

-- where the slot of phase p starts, by its row
abbrev slot_by_row : Tables → ℕ → ℕ → PhaseTimes → ℕ
slot_by_row t n p row = sum_of (split_time t n) (before p (pattern_order t n row.ring))

pub loop-phase-preserved : goal.loop-phase-preserved
loop-phase-preserved c =
    let k : ℕ = c.loop-phase.phase in
    let start : c.start_in.result ≡ slot_start c.args.tables.now c.args.pattern k =
    c.start_in.ensures.start
    ∙ ap (λ (xs : List SplitEntry). sum_of (time_of xs) (before k c.pattern_order-order.result.now)) c.entries-entries.ensures.entries
    ∙ ap (λ (xs : List ℕ). sum_of (split_time c.args.tables.now c.args.pattern) (before k xs)) c.pattern_order-order.ensures.order
    ∙ ap (λ (r : PhaseTimes). slot_by_row c.args.tables.now c.args.pattern k r) c.phase.ensures.row in
    record {
      each = filled-more 0 (slot_start c.args.tables.now c.args.pattern) _ k _ c.loop-phase.invariant.each (omega arith) (omega arith) start;
      most = λ p is low. elim (eqb_tells p k) [
        | inl (t, same) ↦
            let within : k - 1 < length c.loop-phase.starts = omega (arith, c.loop-phase.invariant.each.sixteen) in
            rw (same, get_or-set_same c.loop-phase.starts (k - 1) c.start_in.result 0 within) c.start_in.ensures.most
        | inr (t, other) ↦
            let a : 0 < p = is-above p is in
            let apart : p - 1 ≢ k - 1 = omega arith in
            rw (get_or-set_other c.loop-phase.starts (k - 1) (p - 1) c.start_in.result 0 apart) (c.loop-phase.invariant.most p is (omega arith))
      ];
    }
