-- A detector calls as it does until the round that must be examined, where no pulse comes.
use Rattle.std.proofs.Common.{◌≡◌, ◌≢◌, ℕ, ◌+◌, ◌-◌, ◌<◌, ◌≤◌, ◌==◌, ◌||◌, ◌&&◌, Bool, true, false, if◌then◌else◌, nat_lt, nat_le, List, refl, sym, ap, ap₂, ◌∙◌, arith}
use Rattle.detector_bank.specs.declared.bank.Detector.{Detector}
use Rattle.detector_bank.specs.declared.bank.Pulse.{Pulse}
use Rattle.detector_bank.specs.declared.watch.Watch.{Watch}
use Rattle.detector_bank.specs.Bank.{quiet, latest_edges, has_no_activity, is_locked_on, is_erratic, lately_past, calls}
use Rattle.detector_bank.specs.Watching.{present_at, lately_at, Watches}
use Rattle.detector_bank.proofs.Reaching.{none-present, reached-still, passed-still, until-still, not-passed}

-- the round that must be examined is no later than each of these, where it is yet to come
pub record Quiet (w : Watch) (d : Detector) (round i : ℕ) : Type 0 where
  pub up : round ≤ i
  pub silent : round < w.last_pulse + d.no_activity → i < w.last_pulse + d.no_activity
  pub extended : (w.on ≡ true → nat_lt d.delay (present_at w round) ≡ true → ⊥) → round < w.last_past_delay + (d.extend + 1) → i < w.last_past_delay + (d.extend + 1)
  pub few : nat_lt 0 d.erratic ≡ true → w.most ≤ d.erratic
  pub left : w.on ≡ false → w.last_on ≢ round
  pub locked : w.on ≡ true → round < w.last_inactive + d.max_presence → i < w.last_inactive + d.max_presence
  pub delayed : w.on ≡ true → round < w.last_inactive + (d.delay + 1) → i < w.last_inactive + (d.delay + 1)

pub same-calls : (w : Watch) (d : Detector) (ps : List Pulse) (round i : ℕ) → Watches w d ps round → Watches w d ps i → Quiet w d round i → calls d ps i ≡ calls d ps round
same-calls w d ps round i now later q = ap₂ (λ (a b : Bool). a || b) (ap₂ (λ (a b : Bool). a || b) activity (ap₂ (λ (a b : Bool). a || b) (locked w.on refl) erratic)) lately
  where
    silence : (j : ℕ) → Watches w d ps j → quiet d ps j ≡ j - w.last_pulse
    silence j h = let is = h.last_pulse in from w.last_pulse (quiet d ps j) j is
      where
        from : (a b c : ℕ) → a + b ≡ c → b ≡ c - a
        from a b c e = omega (arith, e)

    activity : has_no_activity d ps i ≡ has_no_activity d ps round
    activity =
        ap (λ n. nat_lt 0 d.no_activity && nat_le d.no_activity n) (silence i later)
        ∙ ap (λ b. nat_lt 0 d.no_activity && b) (reached-still d.no_activity w.last_pulse round i q.up q.silent)
        ∙ sym (ap (λ n. nat_lt 0 d.no_activity && nat_le d.no_activity n) (silence round now))

    -- where it is on and where it is off
    on-present : (j : ℕ) → w.on ≡ true → present_at w j ≡ j - w.last_inactive
    on-present j on = ap (λ b. if b || (w.last_on == j) then j - w.last_inactive else 0) on

    off-present : w.on ≡ false → present_at w i ≡ present_at w round
    off-present off =
        let low = now.last_on in
        let ne = q.left off in
        let up = q.up in
        none-present w.on w.last_on w.last_inactive i off (λ e. ne (omega (arith, e, low, up))) ∙ sym (none-present w.on w.last_on w.last_inactive round off ne)

    locked : (b : Bool) → w.on ≡ b → is_locked_on d ps i ≡ is_locked_on d ps round
    locked true on =
        ap (λ n. nat_lt 0 d.max_presence && nat_le d.max_presence n) (later.present ∙ on-present i on)
        ∙ ap (λ b. nat_lt 0 d.max_presence && b) (reached-still d.max_presence w.last_inactive round i q.up (q.locked on))
        ∙ sym (ap (λ n. nat_lt 0 d.max_presence && nat_le d.max_presence n) (now.present ∙ on-present round on))
    locked false off = ap (λ n. nat_lt 0 d.max_presence && nat_le d.max_presence n) (later.present ∙ off-present off ∙ sym now.present)

    erratic : is_erratic d ps i ≡ is_erratic d ps round
    erratic =
        not-passed d.erratic (latest_edges d ps 60 i) w.most later.most q.few ∙ sym (not-passed d.erratic (latest_edges d ps 60 round) w.most now.most q.few)

    past : (b : Bool) → w.on ≡ b → nat_lt d.delay (present_at w i) ≡ nat_lt d.delay (present_at w round)
    past true on =
        ap (λ n. nat_lt d.delay n) (on-present i on) ∙ passed-still d.delay w.last_inactive round i q.up (q.delayed on) ∙ sym (ap (λ n. nat_lt d.delay n) (on-present round on))
    past false off = ap (λ n. nat_lt d.delay n) (off-present off)

    not-both : {b : Bool} → b ≡ true → b ≡ false → ⊥
    not-both e f = absurd (cc)

    -- it was past its delay before the round
    earlier : (w.on ≡ true → nat_lt d.delay (present_at w round) ≡ true → ⊥) → lately_at w d.delay d.extend i ≡ lately_at w d.delay d.extend round
    earlier none = ap₂ (λ (a b : Bool). a || (nat_lt 0 w.last_past_delay && b)) (past w.on refl) (until-still d.extend w.last_past_delay round i q.up (q.extended none))

    late : (a : Bool) → w.on ≡ a → (b : Bool) → nat_lt d.delay (present_at w round) ≡ b → lately_at w d.delay d.extend i ≡ lately_at w d.delay d.extend round
    late true on true is =
        ap (λ b. b || (nat_lt 0 w.last_past_delay && nat_le i (w.last_past_delay + d.extend))) (past true on ∙ is) ∙ sym (ap (λ b. b || (nat_lt 0 w.last_past_delay && nat_le round (w.last_past_delay + d.extend))) is)
    late true on false is = earlier (λ o p. not-both p is)
    late false off b is = earlier (λ o p. not-both o off)

    lately : lately_past d ps d.extend i ≡ lately_past d ps d.extend round
    lately = later.lately d.extend ∙ late w.on refl (nat_lt d.delay (present_at w round)) refl ∙ sym (now.lately d.extend)
