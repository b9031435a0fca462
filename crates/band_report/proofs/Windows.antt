-- A window is a set of times: that many after the offset less the shift, round the cycle.
use Rattle.std.proofs.Common.{◌≡◌, ◌∙◌, ℕ, ◌+◌, ◌-◌, ◌*◌, ◌/◌, ◌%◌, ◌<◌, true, nat_lt, sym, ap, arith}
use Rattle.std.proofs.lemmas.Bool.{ltb-true, lt-ltb}
use Rattle.std.proofs.Math.Nat.{mod-add-mod, add-mod-mod, mod-eq_of_lt, add-mul-mod_self_left, div-add-mod}
use Rattle.sig_tables.specs.declared.tables.Tables.{Tables}
use Rattle.sig_tables.specs.Slots.{coordinated_phase, force_point, cycle_time}
use Rattle.sig_tables.specs.Clock.{offset_time, shift_time, target_at}
use Rattle.band_report.specs.Bands.{in_window, InWindow}
use Rattle.band_report.proofs.Driving.{force-within}

-- an offset and what is added for it are whole cycles
offset-round : (cycle offset x : ℕ) → 0 < cycle → (offset + (x + (cycle - offset % cycle))) % cycle ≡ x % cycle
offset-round cycle offset x some =
    let parts : cycle * (offset / cycle) + offset % cycle ≡ offset = div-add-mod offset cycle in
    let whole : offset + (x + (cycle - offset % cycle)) ≡ x + (cycle * (offset / cycle) + cycle) = omega arith in
    let times : cycle * (offset / cycle) + cycle ≡ cycle * (offset / cycle + 1) = omega arith in
    ap (λ (y : ℕ). y % cycle) (whole ∙ ap (λ (y : ℕ). x + y) times) ∙ add-mul-mod_self_left x cycle (offset / cycle + 1)

pub window-is : (t : Tables) (n r time : ℕ) → 0 < cycle_time t n → in_window t n r time ≡ true → InWindow t n r time
window-is t n r time some h = record {
  counter = target_at t n time;
  below = ltb-true (target_at t n time) (force_point t n (coordinated_phase t n r)) h;
  there = sym (add-mod-mod (offset_time t n) (time + shift_time t n + (cycle_time t n - offset_time t n % cycle_time t n)) (cycle_time t n)
      ∙ offset-round (cycle_time t n) (offset_time t n) (time + shift_time t n) some);
}

-- where the counter is to be then
counted : (cycle offset counter x : ℕ) → 0 < cycle → counter < cycle → x % cycle ≡ (offset + counter) % cycle → (x + (cycle - offset % cycle)) % cycle ≡ counter
counted cycle offset counter x some few e =
    let order : offset + counter + (cycle - offset % cycle) ≡ offset + (counter + (cycle - offset % cycle)) = omega arith in
    sym (mod-add-mod x cycle (cycle - offset % cycle)) ∙ ap (λ (y : ℕ). (y + (cycle - offset % cycle)) % cycle) e ∙ mod-add-mod (offset + counter) cycle (cycle - offset % cycle)
    ∙ ap (λ (y : ℕ). y % cycle) order ∙ offset-round cycle offset counter some ∙ mod-eq_of_lt few

pub is-window : (t : Tables) (n r time : ℕ) → 0 < cycle_time t n → InWindow t n r time → in_window t n r time ≡ true
is-window t n r time some w =
    let within : force_point t n (coordinated_phase t n r) < cycle_time t n = force-within t n (coordinated_phase t n r) some in
    let few : w.counter < cycle_time t n = omega (arith, w.below) in
    let at : target_at t n time ≡ w.counter = counted (cycle_time t n) (offset_time t n) w.counter (time + shift_time t n) some few w.there in
    ap (λ (x : ℕ). nat_lt x (force_point t n (coordinated_phase t n r))) at ∙ lt-ltb w.counter (force_point t n (coordinated_phase t n r)) w.below
