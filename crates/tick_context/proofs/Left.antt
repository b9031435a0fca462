-- For how many ticks more a phase continues, from what is kept of it.
use Rattle.std.proofs.Common.{◌≡◌, ◌≤◌, ◌+◌, ◌-◌, ◌&&◌, ◌||◌, ℕ, Bool, true, false, List, get_or, Option, refl, sym, ◌∙◌, ap, arith}
use Rattle.std.proofs.lemmas.Bool.{false≢true}
use Rattle.std.proofs.Math.Bool.{and-false}
use Rattle.sig_types.specs.declared.frame.Colour.{Colour}
use Rattle.sig_types.specs.declared.frame.Colour.TheVariants.{Green, Yellow, Clear, Red}
use Rattle.sig_types.specs.declared.frame.Ped.{Ped}
use Rattle.sig_types.specs.declared.frame.Ped.TheVariants.{Walk, Flash, Dont}
use Rattle.sig_types.specs.Phases.{is_phase}
use Rattle.sig_types.specs.Colour.{same_colour, same_signal, colour_of, signal_of}
use Rattle.sig_tables.specs.declared.tables.Tables.{Tables}
use Rattle.sig_tables.specs.Tables.{is_enabled, yellow_time, red_clear_time}
use Rattle.sig_tables.specs.Slots.{force_point}
use Rattle.sig_tables.specs.Past.{Past, Moment}
use Rattle.sig_tables.specs.Looking.{run, latched}
use Rattle.sig_tables.specs.Calls.{is_green}
use Rattle.sig_tables.specs.Seen.{frame_seen}
use Rattle.call_store.specs.Signals.{SignalLasts}
use Rattle.tick_context.specs.declared.active_pattern.ActivePattern.{ActivePattern}
use Rattle.sig_tables.specs.declared.plan.Plan.{Plan}
use Rattle.tick_context.specs.Binds.{ActivePatternIs}
use Rattle.tick_context.specs.Shows.{is_clearing, is_signalling}
use Rattle.tick_context.specs.Lasting.{ColourLasts, PhaseLasts}
use Rattle.tick_context.proofs.Filling.{made-at}

-- what does not clear has no end
pub steady-lasts : (k p : ℕ) (now : Tables) (past : List Moment) (c : Colour) → (same_colour c Yellow || same_colour c Clear) ≡ false
    → ColourLasts k p now past c
steady-lasts k p now past Green e = tt
steady-lasts k p now past Red e = tt
steady-lasts k p now past Yellow e = absurd (false≢true (sym e))
steady-lasts k p now past Clear e = absurd (false≢true (sym e))

pub yellow-lasts : (k p : ℕ) (now : Tables) (past : List Moment) (c : Colour) (count time : ℕ) → c ≡ Yellow → count ≡ run p c past
    → time ≡ yellow_time (latched p Yellow now past) p → count + k ≤ time → ColourLasts k p now past c
yellow-lasts k p now past Yellow count time e is long h = omega (arith, is, long, h)
yellow-lasts k p now past Green count time e is long h = tt
yellow-lasts k p now past Red count time e is long h = tt
yellow-lasts k p now past Clear count time e is long h = absurd (cc e)

pub clear-lasts : (k p : ℕ) (now : Tables) (past : List Moment) (c : Colour) (count time : ℕ) → c ≡ Clear → count ≡ run p c past
    → time ≡ red_clear_time (latched p Clear now past) p → count + k ≤ time → ColourLasts k p now past c
clear-lasts k p now past Clear count time e is long h = omega (arith, is, long, h)
clear-lasts k p now past Green count time e is long h = tt
clear-lasts k p now past Red count time e is long h = tt
clear-lasts k p now past Yellow count time e is long h = absurd (cc e)

dont-lasts : (k p : ℕ) (now : Tables) (past : List Moment) (s : Ped) → (same_signal s Walk || same_signal s Flash) ≡ false
    → SignalLasts k p now past s
dont-lasts k p now past Dont e = tt
dont-lasts k p now past Walk e = absurd (false≢true (sym e))
dont-lasts k p now past Flash e = absurd (false≢true (sym e))

-- a phase that is Red with steady Dont continues for ever
pub dark-lasts : (o : Option ℕ) (k : ℕ) (past : Past) (p : ℕ) → is_green (frame_seen past) p ≡ false → is_clearing (frame_seen past).veh p ≡ false
    → is_signalling (frame_seen past) p ≡ false → PhaseLasts o k past p
dark-lasts o k past p green clearing signals =
    let none : (is_enabled past.tables p && is_green (frame_seen past) p) ≡ false =
    ap (λ (b : Bool). is_enabled past.tables p && b) green ∙ and-false (is_enabled past.tables p) in
    record {
      colour = steady-lasts k p past.tables past.moments (colour_of (frame_seen past) p) clearing;
      signal = dont-lasts k p past.tables past.moments (signal_of (frame_seen past) p) signals;
      unforced = λ h. absurd (false≢true (sym none ∙ h));
    }

-- of two sets none of which has it
pub neither-of : (x a b : Bool) → x ≡ (a || b) → x ≡ false → (a ≡ false) × (b ≡ false)
neither-of x true b e n = absurd (false≢true (sym n ∙ e))
neither-of x false true e n = absurd (false≢true (sym n ∙ e))
neither-of x false false e n = (refl, refl)

-- the force point that is kept
pub force-kept : (b : ActivePattern) (t : Tables) (n p : ℕ) → ActivePatternIs b t n → is_phase p ≡ true → get_or b.plan.force (p - 1) 0 ≡ force_point t n p
force-kept b t n p is h = ap (λ (x : Plan). get_or x.force (p - 1) 0) is.plan ∙ made-at 0 (force_point t n) p h
