-- Without downloads each frame line has version 0.
use Rattle.std.proofs.Common.{◌≡◌, ◌≤◌, ◌+◌, ℕ, Bool, true, false, if◌then◌else◌, List, [], ◌∷◌, ◌++◌, length, Ok, sym, ◌∙◌, ap, subst, arith}
use Rattle.sig_types.specs.declared.frame.Frame.{Frame}
use Rattle.sig_tables.specs.Past.{Moment}
use Rattle.sig_tables.specs.Decide.{frames_in}
use Rattle.trace_text.specs.declared.lines.Line.{Line}
use Rattle.trace_text.specs.declared.lines.Line.TheVariants.{F, L}
use Rattle.safety_laws.specs.Safe.{Indications, told}
use Rattle.safety_laws.specs.Written.{shown_by, written}
use Rattle.safety_laws.specs.Whole.{downloads, Whole}
use Rattle.safety_laws.proofs.Lines.{told-append, downloads-append, told-frame, one-download}
use Rattle.safety_laws.proofs.Versions.{Within}

-- each of these is of version 0
abbrev pub AllFirst : List (ℕ × Indications) → Type 0
AllFirst [] = Unit {0}
AllFirst (line ∷ lines) = (line.1.version ≡ 0) × AllFirst lines

all-append : (lines more : List (ℕ × Indications)) → AllFirst lines → AllFirst more → AllFirst (lines ++ more)
all-append [] more h k = k
all-append (line ∷ lines) more h k = (h.0, all-append lines more h.1 k)

all-second : (lines more : List (ℕ × Indications)) → AllFirst (lines ++ more) → AllFirst more
all-second [] more h = h
all-second (line ∷ lines) more h = all-second lines more h.1

pub all-written : (has_line : Frame → Frame → Bool) (moments : List Moment) → Within 0 moments → AllFirst (written has_line (frames_in moments))
all-written has_line [] w = tt
all-written has_line (m ∷ []) w = let l : m.frame.version ≤ 0 = w.0 in (omega arith, tt)
all-written has_line (m ∷ n ∷ past) w =
    all-append (written has_line (frames_in (n ∷ past))) _ (all-written has_line (n ∷ past) w.1) (one (has_line n.frame m.frame))
  where
    one : (b : Bool) → AllFirst (if b then (length (frames_in (n ∷ past)), shown_by m.frame) ∷ [] else [])
    one true = let l : m.frame.version ≤ 0 = w.0 in (omega arith, tt)
    one false = tt

pub is-whole : (cab : ℕ) (lines : List Line) → AllFirst (told cab lines) → downloads cab lines ≡ 0 → Whole cab lines
is-whole cab lines first none = record {
  frames = λ before after tick veh ped mode counter target version e.
      let parts : told cab lines ≡ told cab before ++ told cab (F cab tick veh ped mode counter target version ∷ after)
      = ap (λ (x : List Line). told cab x) e ∙ told-append cab before (F cab tick veh ped mode counter target version ∷ after) in
      let all : AllFirst ((tick, record { colours = veh; signals = ped; mode = mode; version = version }) ∷ told cab after)
      = subst AllFirst (told-frame cab tick veh ped mode counter target version after)
      (all-second (told cab before) (told cab (F cab tick veh ped mode counter target version ∷ after)) (subst AllFirst parts first)) in
      let sum : downloads cab lines ≡ downloads cab before + downloads cab (F cab tick veh ped mode counter target version ∷ after)
      = ap (λ (x : List Line). downloads cab x) e ∙ downloads-append cab before (F cab tick veh ped mode counter target version ∷ after) in
      zero-sum version (downloads cab before) _ all.0 (sym sum ∙ none);
  loads = λ before after id version e.
      let sum : downloads cab lines ≡ downloads cab before + downloads cab (L cab id (Ok version) ∷ after)
      = ap (λ (x : List Line). downloads cab x) e ∙ downloads-append cab before (L cab id (Ok version) ∷ after) in
      absurd (some-sum (downloads cab before) _ (downloads cab after) (one-download cab id version after) (sym sum ∙ none));
}
  where
    zero-sum : (v a b : ℕ) → v ≡ 0 → a + b ≡ 0 → v ≡ a
    zero-sum v a b e s = omega (arith, e, s)

    some-sum : (a b c : ℕ) → b ≡ c + 1 → a + b ≡ 0 → ⊥
    some-sum a b c e s = absurd (omega (arith, e, s))
