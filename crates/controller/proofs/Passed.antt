-- What registers keep still holds after skipped ticks, one by one and at once.
use Rattle.std.proofs.Common.{◌≡◌, ◌<◌, ◌+◌, ◌==◌, ◌&&◌, ℕ, zero, suc, Bool, true, false}
use Rattle.std.proofs.Common.{List, ◌∷◌, length, refl, sym, ◌∙◌, ap, arith, subst}
use Rattle.std.proofs.lemmas.Bool.{false≢true, and_parts}
use Rattle.std.proofs.lemmas.Bool.Decides.{Decides-eqb}
use Rattle.sig_types.specs.declared.frame.Mode.{Mode}
use Rattle.sig_types.specs.declared.frame.Mode.TheVariants.{Start, Free, Seek, Coord, Ending, Flash, Entry, Track, Dwell, Exit}
use Rattle.sig_types.specs.Phases.{is_in}
use Rattle.sig_types.specs.Colour.{is_start, same_mode}
use Rattle.sig_tables.specs.Slots.{cycle_time}
use Rattle.sig_tables.specs.Past.{Past, Moment}
use Rattle.sig_tables.specs.Looking.{last_on}
use Rattle.sig_tables.specs.Calls.{is_green}
use Rattle.sig_tables.specs.Choosing.{is_in_step}
use Rattle.sig_tables.specs.Counting.{last_counter}
use Rattle.sig_tables.specs.Decide.{with_moment, next_moment, colours_of}
use Rattle.sig_tables.specs.Modes.{bound}
use Rattle.sig_tables.specs.Seen.{frame_seen, moves_seen, quiet_with}
use Rattle.coord_count.specs.declared.Count.{Count}
use Rattle.coord_count.specs.CountStands.{CountStands}
use Rattle.coord_count.proofs.Passed.{count-on}
use Rattle.phase_clock.proofs.Passed.{clocks-on}
use Rattle.ped_clock.proofs.Passed.{signals-on}
use Rattle.preempt_stages.specs.Dwelling.{is_dwell, NamesPhases}
use Rattle.preempt_stages.proofs.Inputs.{seen-is}
use Rattle.preempt_stages.proofs.OnPhases.{names-phases}
use Rattle.preempt_run.proofs.Passed.{preempts-on}
use Rattle.tick_context.specs.Modes.{is_coord}
use Rattle.tick_context.specs.Context.{CountsOn}
use Rattle.tick_context.specs.Lasting.{Lasts, Looks, opposed_with}
use Rattle.tick_context.proofs.Again.{free-apart}
use Rattle.tick_context.proofs.Counted.{counters-head}
use Rattle.tick_context.proofs.TicksGoOn.{Goes, tick-goes, goes-alike}
use Rattle.tick_context.proofs.InStep.{step-in, counter-next}
use Rattle.tick_context.proofs.OneLess.{seen-again, looks-on, lasts-less}
use Rattle.tick_context.proofs.Rings.{each-ring, last-again, latest-again}
use Rattle.tick_context.proofs.Seen.{opposed-green}
use Rattle.tick_context.proofs.Pickups.{kept-on, start-zero, start-next}
use Rattle.tick_context.proofs.Passed.{after}
use Rattle.phase_clock.specs.declared.Clocks.{Clocks}
use Rattle.ped_clock.specs.declared.PedClocks.{PedClocks}
use Rattle.preempt_run.specs.declared.Preempts.{Preempts}
use Rattle.phase_clock.specs.Passed.{passed as clocks_passed}
use Rattle.ped_clock.specs.Passed.{passed as signals_passed}
use Rattle.preempt_run.specs.Passed.{passed as preempts_passed}
use Rattle.coord_count.specs.Passed.{passed as count_passed}
use Rattle.tick_context.specs.declared.seeing.TickInputs.{TickInputs}
use Rattle.controller.specs.declared.Registers.{Registers}
use Rattle.controller.specs.Registers.{RegistersStand}
use Rattle.phase_clock.specs.Passed.{IsSteady}
use Rattle.preempt_run.specs.Passed.{IsClear}

-- no register moves at ticks that see this, beside those that count
pub record IsSteadyAt (c : Registers) (s : TickInputs) : Type 0 where
  pub steady : IsSteady c.clocks s.active s.opposed
  pub clear : IsClear c.preempts

-- the count after N ticks more, if it counts
abbrev pub counted : Bool → ℕ → Count → Count
counted true k count = count_passed k count
counted false k count = count

-- the registers after N such ticks
abbrev pub passed : Bool → ℕ → Registers → Registers
passed coord k c = record c {
  clocks = clocks_passed k c.clocks;
  signals = signals_passed k c.signals;
  preempts = preempts_passed k c.preempts;
  count = counted coord k c.count;
}

abbrev built : Registers → ℕ → ℕ → ℕ → Count → Registers
built c a b d count = record c {
  clocks = record c.clocks { steps = a };
  signals = record c.signals { steps = b };
  preempts = record c.preempts { steps = d };
  count = count;
}

built-same : (c : Registers) (a b d e i n : ℕ) (x y : Count) → a ≡ b → d ≡ e → i ≡ n → x ≡ y → built c a d i x ≡ built c b e n y
built-same c a b d e i n x y q r s t = rw (q, r, s, t) refl

counted-twice : (b : Bool) (k j : ℕ) (count : Count) → counted b j (counted b k count) ≡ counted b (k + j) count
counted-twice true k j count =
    let sum : count.counter + k + j ≡ count.counter + (k + j) = omega arith in ap (λ (n : ℕ). record count { counter = n; changed = true }) sum
counted-twice false k j count = refl

-- passing over ticks in two parts comes to passing over all of them
pub passed-more : (b : Bool) (k j : ℕ) (c : Registers) → passed b j (passed b k c) ≡ passed b (k + j) c
passed-more b k j c =
    built-same c
    (c.clocks.steps + k + j) (c.clocks.steps + (k + j)) (c.signals.steps + k + j) (c.signals.steps + (k + j))
    (c.preempts.steps + k + j) (c.preempts.steps + (k + j)) _ _
    (omega arith) (omega arith) (omega arith) (counted-twice b k j c.count)

-- the counter that is kept is that of the last frame
count-is : (n : ℕ) (c : Registers) (past : Past) → RegistersStand c past → is_in_step (frame_seen past) past.version n ≡ true
    → c.count.counter ≡ (frame_seen past).counter
count-is n c past k step =
    let (before, head) = counters-head n past.version past.moments step in
    (k.counts n step).stands.counter ∙ ap last_counter head

-- the counters since the pickup have its counter
counts-coord : (n j : ℕ) (c : Registers) (past : Past) → RegistersStand c past → Lasts (Coord n) (suc j) past → Goes (Coord n) past
    → CountsOn (counted true 1 c.count) (with_moment past (next_moment past)) n
counts-coord n j c past k l g =
    let m : Moment = next_moment past in
    let a = goes-alike (Coord n) j past l in
    let step = step-in (frame_seen past) past.version n l.was l.version in
    let now = step-in m.frame past.version n (a.mode ∙ l.was) (a.version ∙ l.version) in
    let (before, head) = counters-head n past.version past.moments step in
    let stands : CountStands c.count ((frame_seen past).counter ∷ before) = subst (λ (xs : List ℕ). CountStands c.count xs) head (k.counts n step).stands in
    let same : c.count.counter ≡ (frame_seen past).counter = count-is n c past k step in
    let cycle : (frame_seen past).counter + suc j < cycle_time past.tables n = l.goes.cycle in
    record {
      stands = kept-on (counted true 1 c.count) past m n (frame_seen past).counter ((frame_seen past).counter + 1) before now
          (sym (counter-next n j past l.fresh l.goes l.was g.now)) head (count-on c.count (frame_seen past).counter before stands);
      within = omega (arith, same, cycle);
    }

counts-on : (mode : Mode) (j : ℕ) (c : Registers) (past : Past) → RegistersStand c past → Lasts mode (suc j) past → Goes mode past
    → (n : ℕ) → is_in_step (next_moment past).frame past.version n ≡ true
    → CountsOn (counted (is_coord mode) 1 c.count) (with_moment past (next_moment past)) n
counts-on Free j c past k l g n st =
    let free : (next_moment past).frame.mode ≡ Free = (goes-alike Free j past l).mode ∙ l.was in
    absurd (false≢true (sym (free-apart (next_moment past).frame past.version n free) ∙ st))
counts-on (Coord i) j c past k l g n st =
    let m : Moment = next_moment past in
    let is : m.frame.mode ≡ Coord i = (goes-alike (Coord i) j past l).mode ∙ l.was in
    let mine : (i == n) ≡ true =
    ap (λ (x : Mode). same_mode x (Coord n)) (sym is) ∙ (and_parts (same_mode m.frame.mode (Coord n)) (m.frame.version == past.version) st).0 in
    subst (λ (x : ℕ). CountsOn (counted true 1 c.count) (with_moment past m) x) ((Decides-eqb i n).0 mine) (counts-coord i j c past k l g)
counts-on Start j c past k l g n st = absurd l.goes
counts-on (Seek i) j c past k l g n st = absurd l.goes
counts-on Ending j c past k l g n st = absurd l.goes
counts-on Flash j c past k l g n st = absurd l.goes
counts-on (Entry i) j c past k l g n st = absurd l.goes
counts-on (Track i) j c past k l g n st = absurd l.goes
counts-on (Dwell i) j c past k l g n st = absurd l.goes
counts-on (Exit i) j c past k l g n st = absurd l.goes

-- one tick
keeps-on : (mode : Mode) (j : ℕ) (c : Registers) (s : TickInputs) (past : Past) → RegistersStand c past → Lasts mode (suc j) past
    → Looks (bound mode) s past → IsSteadyAt c s → RegistersStand (passed (is_coord mode) 1 c) (with_moment past (next_moment past))
keeps-on mode j c s past k l looks ready =
    let m : Moment = next_moment past in
    let g = tick-goes mode j past l in
    let a = goes-alike mode j past l in
    let names : NamesPhases m.frame = names-phases m.frame past.tables (colours_of past (moves_seen past)) refl in
    let going : is_start (frame_seen past).mode ≡ false = ap is_start l.was ∙ g.started in
    let still : false ≡ is_start m.frame.mode = sym (ap is_start (a.mode ∙ l.was) ∙ g.started) in
    record {
      clocks = clocks-on c.clocks s.active s.opposed past.moments m k.clocks ready.steady a.veh
          (λ p h. ap (λ (x : Mode). is_in (quiet_with (bound x) past) p) g.now ∙ looks.quiet p h)
          (λ p h.
          opposed-green past p h
          ∙ ap (λ (b : Bool). is_green (frame_seen past) p && b)
          (ap (λ (x : Mode). is_in (opposed_with (bound x) past) p) g.now ∙ sym (looks.opposed p h)));
      signals = signals-on c.signals past.moments m k.signals a.ped;
      preempts = preempts-on c.preempts past m k.preempts ready.clear (record {
        saw = sym (seen-is past);
        none = λ i above within. ap (λ (xs : List ℕ). is_in xs i) l.beside;
        mode = a.mode;
        beside = ap is_dwell (a.mode ∙ l.was) ∙ g.beside;
        wide = ap length a.veh ∙ l.wide;
        names = names;
      });
      last = each-ring c.last 0 (λ q. last_on q (m ∷ past.moments))
          (k.last 1 (omega arith) (omega arith) ∙ last-again m past.moments 1 a.on a.mode going)
          (k.last 2 (omega arith) (omega arith) ∙ last-again m past.moments 2 a.on a.mode going);
      latest = k.latest ∙ latest-again m past.moments a.on a.mode going;
      start = k.start ∙ start-zero past.moments going ∙ start-next m past.moments c.start_run false still k.start;
      counts = counts-on mode j c past k l g;
    }

ready-on : (b : Bool) (c : Registers) (s : TickInputs) → IsSteadyAt c s → IsSteadyAt (passed b 1 c) s
ready-on b c s ready = record {
  steady = record { quiet = ready.steady.quiet; pressed = ready.steady.pressed };
  clear = record { inputs = ready.clear.inputs; green = ready.clear.green; off = ready.clear.off };
}

-- and what is kept follows all of them
pub keeps-after : (n : ℕ) (mode : Mode) (c : Registers) (s : TickInputs) (past : Past) → 0 < n → RegistersStand c past → Lasts mode n past
    → Looks (bound mode) s past → IsSteadyAt c s → RegistersStand (passed (is_coord mode) n c) (after n past)
keeps-after zero mode c s past some k l looks ready = absurd (omega (arith, some))
keeps-after (suc zero) mode c s past some k l looks ready = keeps-on mode zero c s past k l looks ready
keeps-after (suc (suc j)) mode c s past some k l looks ready =
    let more : 0 < suc j = omega arith in
    let whole : 1 + suc j ≡ suc (suc j) = omega arith in
    let next : Past = with_moment past (next_moment past) in
    let a = goes-alike mode (suc j) past l in
    subst (λ (x : Registers). RegistersStand x (after (suc j) next)) (passed-more (is_coord mode) 1 (suc j) c ∙ ap (λ (n : ℕ). passed (is_coord mode) n c) whole)
    (keeps-after (suc j) mode (passed (is_coord mode) 1 c) s next more (keeps-on mode (suc j) c s past k l looks ready) (lasts-less mode (suc j) past l)
    (looks-on (bound mode) s past a (seen-again (bound mode) past l.fresh a) looks) (ready-on (is_coord mode) c s ready))

-- the parts after them are the registers after them
pub passed-of : (b : Bool) (n : ℕ) (c : Registers) (w : Clocks) (x : PedClocks) (y : Preempts) (z : Count) → w ≡ clocks_passed n c.clocks → x ≡ signals_passed n c.signals
    → y ≡ preempts_passed n c.preempts → z ≡ counted b n c.count → record c { clocks = w; signals = x; preempts = y; count = z } ≡ passed b n c
passed-of b n c w x y z p q r s = rw (p, q, r, s) refl
