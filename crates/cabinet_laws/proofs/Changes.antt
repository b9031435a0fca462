-- A frame without a line shows what the one before it showed.
use Rattle.std.proofs.Common.{◌≡◌, ◌∙◌, ◌==◌, ◌&&◌, ◌||◌, not, sym, ap, Bool, true, false, List, [], ◌∷◌, refl}
use Rattle.std.proofs.lemmas.Bool.{and_parts, false≢true}
use Rattle.std.proofs.lemmas.Bool.Decides.{Decides-eqb}
use Rattle.sig_types.specs.declared.frame.Colour.{Colour}
use Rattle.sig_types.specs.declared.frame.Ped.{Ped}
use Rattle.sig_types.specs.declared.frame.Mode.{Mode}
use Rattle.sig_types.specs.declared.frame.Mode.TheVariants.{Start, Free, Seek, Coord, Ending, Flash, Entry, Track, Dwell, Exit}
use Rattle.sig_types.specs.Colour.{same_colour, same_signal, same_colours, same_signals, shows_same}
use Rattle.sig_tables.specs.Modes.{same_mode}
use Rattle.sig_tables.specs.Walking.{is_local_zero}
use Rattle.safety_laws.specs.Written.{shown_by, TellsChanges}
use Rattle.tick_laws.proofs.Choices.{same-is, same-is-signal}
use Rattle.cabinet_history.specs.Frames.{has_line}

colours-same : (a b : List Colour) → same_colours a b ≡ true → a ≡ b
colours-same [] [] h = refl
colours-same (a ∷ others) (b ∷ more) h =
    let parts : (same_colour a b ≡ true) × (same_colours others more ≡ true) = and_parts (same_colour a b) (same_colours others more) h in
    ap (λ (x : Colour). x ∷ others) (same-is a b parts.0) ∙ ap (λ (x : List Colour). b ∷ x) (colours-same others more parts.1)
colours-same _ _ h = absurd (false≢true h)

signals-same : (a b : List Ped) → same_signals a b ≡ true → a ≡ b
signals-same [] [] h = refl
signals-same (a ∷ others) (b ∷ more) h =
    let parts : (same_signal a b ≡ true) × (same_signals others more ≡ true) = and_parts (same_signal a b) (same_signals others more) h in
    ap (λ (x : Ped). x ∷ others) (same-is-signal a b parts.0) ∙ ap (λ (x : List Ped). b ∷ x) (signals-same others more parts.1)
signals-same _ _ h = absurd (false≢true h)

modes-same : (a b : Mode) → same_mode a b ≡ true → a ≡ b
modes-same Start Start h = refl
modes-same Free Free h = refl
modes-same (Seek m) (Seek n) h = ap Seek ((Decides-eqb m n).0 h)
modes-same (Coord m) (Coord n) h = ap Coord ((Decides-eqb m n).0 h)
modes-same Ending Ending h = refl
modes-same Flash Flash h = refl
modes-same (Entry i) (Entry j) h = ap Entry ((Decides-eqb i j).0 h)
modes-same (Track i) (Track j) h = ap Track ((Decides-eqb i j).0 h)
modes-same (Dwell i) (Dwell j) h = ap Dwell ((Decides-eqb i j).0 h)
modes-same (Exit i) (Exit j) h = ap Exit ((Decides-eqb i j).0 h)
modes-same _ _ h = absurd (false≢true h)

neither : (a b : Bool) → (not a || b) ≡ false → a ≡ true
neither true b h = refl
neither false b h = absurd (false≢true (sym h))

pub tells : TellsChanges has_line
tells last next h =
    let same : shows_same last next ≡ true = neither (shows_same last next) (is_local_zero next.mode next.counter last) h in
    let versions : (same_colours last.veh next.veh && same_signals last.ped next.ped && same_mode last.mode next.mode ≡ true)
    × ((last.version == next.version) ≡ true)
    = and_parts (same_colours last.veh next.veh && same_signals last.ped next.ped && same_mode last.mode next.mode) (last.version == next.version) same in
    let modes : (same_colours last.veh next.veh && same_signals last.ped next.ped ≡ true) × (same_mode last.mode next.mode ≡ true)
    = and_parts (same_colours last.veh next.veh && same_signals last.ped next.ped) (same_mode last.mode next.mode) versions.0 in
    let signals : (same_colours last.veh next.veh ≡ true) × (same_signals last.ped next.ped ≡ true)
    = and_parts (same_colours last.veh next.veh) (same_signals last.ped next.ped) modes.0 in
    let a : last.veh ≡ next.veh = colours-same last.veh next.veh signals.0 in
    let b : last.ped ≡ next.ped = signals-same last.ped next.ped signals.1 in
    let m : last.mode ≡ next.mode = modes-same last.mode next.mode modes.1 in
    let v : last.version ≡ next.version = (Decides-eqb _ _).0 versions.1 in
    put (sym a) (sym b) (sym m) (sym v)
  where
    put : next.veh ≡ last.veh → next.ped ≡ last.ped → next.mode ≡ last.mode → next.version ≡ last.version → shown_by next ≡ shown_by last
    put a b m v = cc
