-- The frame that a tick gives, from its parts.
use Rattle.std.proofs.Common.{◌≡◌, ℕ, List, [], ◌∷◌, map, refl}
use Rattle.sig_types.specs.declared.frame.Colour.{Colour}
use Rattle.sig_types.specs.declared.frame.Ped.{Ped}
use Rattle.sig_types.specs.declared.frame.Mode.{Mode}
use Rattle.sig_types.specs.declared.frame.Frame.{Frame}
use Rattle.sig_types.specs.Phases.{all_phases}
use Rattle.sig_tables.specs.Past.{Past}
use Rattle.sig_tables.specs.TickState.{tick_state_of}
use Rattle.sig_tables.specs.Ticking.{on_of, signal_after, frame_of}
use Rattle.sig_tables.specs.Seen.{tick_inputs_seen}
use Rattle.tick_context.specs.Walks.{crossing_seen}

abbrev made : List Colour → List Ped → ℕ → ℕ → Mode → ℕ → ℕ → ℕ → Frame
made veh ped one two mode counter target version =
    record { veh = veh; ped = ped; on = one ∷ two ∷ []; mode = mode; counter = counter; target = target; version = version }

same-parts : (veh : List Colour) (ped ped' : List Ped) (one one' two two' : ℕ) (mode : Mode) (counter counter' target target' version version' : ℕ)
    → ped ≡ ped' → one ≡ one' → two ≡ two' → counter ≡ counter' → target ≡ target' → version ≡ version'
    → made veh ped one two mode counter target version ≡ made veh ped' one' two' mode counter' target' version'
same-parts veh ped ped' one one' two two' mode counter counter' target target' version version' a b c d e f = rw (a, b, c, d, e, f) refl

pub frame-parts : (past : Past) (mode : Mode) (veh : List Colour) (ped : List Ped) (one two counter target version : ℕ)
    → ped ≡ map (signal_after (tick_state_of past) past (crossing_seen past mode) veh mode) all_phases
    → one ≡ on_of past.tables veh 1 → two ≡ on_of past.tables veh 2 → counter ≡ (tick_state_of past).counter → target ≡ (tick_state_of past).target
    → version ≡ past.version
    → made veh ped one two mode counter target version ≡ frame_of (tick_state_of past) past (tick_inputs_seen past) veh mode
frame-parts past mode veh ped one two counter target version a b c d e f =
    same-parts veh ped _ one _ two _ mode counter _ target _ version _ a b c d e f
