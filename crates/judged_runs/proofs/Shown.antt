-- As far as the tables of a cabinet are known, the versions that it shows have the tables that the lines tell.
use Rattle.std.proofs.Common.{◌≡◌, ◌∙◌, ◌+◌, ◌-◌, ◌==◌, if◌then◌else◌, nat_le, ℕ, Bool, true, false, List, [], ◌∷◌, ◌++◌, length, drop, map, Option, Some, None, Ok, Err, is_some, refl, sym, ap, subst, arith, reverse, unwrap_or, append_assoc, append-nil, length-append, length-drop, drop-drop}
use Rattle.std.specs.List.{AllByRecursion}
use Rattle.std.proofs.lemmas.Bool.{false≢true}
use Rattle.std.proofs.lemmas.Bool.Decides.{Decides-eqb}
use Rattle.std.proofs.lemmas.List.{reverse-append, length-reverse, length-map, drop-map}
use Rattle.std.proofs.Math.Seq.{drop-append_seam}
use Rattle.sig_tables.specs.declared.tables.Tables.{Tables}
use Rattle.sig_tables.specs.declared.cells.Cell.{Cell}
use Rattle.sig_tables.specs.Cells.{Content}
use Rattle.trace_text.specs.declared.lines.Line.{Line}
use Rattle.trace_text.specs.declared.lines.Line.TheVariants.{S, F, R, M, J, L, A, Z}
use Rattle.safety_laws.specs.Safe.{Indications, told}
use Rattle.safety_laws.specs.Whole.{Whole, downloads}
use Rattle.cabinet_history.specs.Downloads.{with_downloads}
use Rattle.judge_laws.specs.Breaches.{Falls}
use Rattle.judge_laws.specs.TablesTold.{loaded, tables_told, version_told}
use Rattle.judge_laws.proofs.Runs.{back_at}
use Rattle.judge_laws.proofs.Parts.{AllFine, all-parts, parts-all, parts-safe, safe-parts}
use Rattle.judge_laws.proofs.OnlyShown.{only-shown}
use Rattle.judged_runs.specs.Loads.{IsLoadIfAny}
use Rattle.judged_runs.proofs.Ids.{ids_told, ids-append, ids-reverse}
use Rattle.judged_runs.proofs.Versions.{made_by, count-told, told-made, version-made, known-made, all-drop}

-- ---- a fact of the version of each line

abbrev pub Each : (ℕ → Type 0) → List (ℕ × Indications) → Type 0
Each P [] = Unit {0}
Each P (x ∷ xs) = P x.1.version × Each P xs

-- holds of what is shown at each tick
shown-each : (P : ℕ → Type 0) (back : List (ℕ × Indications)) → P 0 → Each P back → (tick : ℕ) → P (back_at back tick).version
shown-each P [] none all tick = none
shown-each P (x ∷ older) none all tick = pick (nat_le x.0 tick) (shown-each P older none all.1 tick)
  where
    pick : (b : Bool) → P (back_at older tick).version → P (if b then x.1 else back_at older tick).version
    pick true h = all.0
    pick false h = h

-- lines that are fine by some tables are fine by others that agree at each version that is shown
pub fine-too : (tables other : ℕ → Tables) (back : List (ℕ × Indications)) → Falls back → tables 0 ≡ other 0 → Each (λ v. tables v ≡ other v) back
    → AllFine tables back → AllFine other back
fine-too tables other back falls none each fine =
    parts-all other back falls
    (safe-parts other back
    (only-shown tables other (back_at back) (shown-each (λ v. tables v ≡ other v) back none each)
    (parts-safe tables back (all-parts tables back falls fine))))

-- ---- whole versions, with the newest line first

abbrev pub WholeBack : ℕ → List Line → Type 0
WholeBack cab [] = Unit {0}
WholeBack cab (F c tick veh ped mode counter target version ∷ back) = (c ≡ cab → version ≡ downloads cab back) × WholeBack cab back
WholeBack cab (L c id (Ok version) ∷ back) = (c ≡ cab → version ≡ downloads cab back + 1) × WholeBack cab back
WholeBack cab (_ ∷ back) = WholeBack cab back

downloads-reverse : (cab : ℕ) (back : List Line) → downloads cab (reverse back) ≡ downloads cab back
downloads-reverse cab back =
    count-told cab (reverse back) ∙ ap length (ids-reverse cab back) ∙ length-reverse (ids_told cab back) ∙ sym (count-told cab back)

one-newer : (line : Line) (back newer : List Line) → reverse back ++ line ∷ newer ≡ reverse (line ∷ back) ++ newer
one-newer line back newer = sym (append_assoc (reverse back) (line ∷ []) newer) ∙ ap (λ (x : List Line). x ++ newer) (sym (reverse-append (line ∷ []) back))

pub whole-back : (cab : ℕ) (lines : List Line) → Whole cab lines → (back newer : List Line) → reverse back ++ newer ≡ lines → WholeBack cab back
whole-back cab lines whole [] newer e = tt
whole-back cab lines whole (F c tick veh ped mode counter target version ∷ back) newer e =
    let line : Line = F c tick veh ped mode counter target version in
    let f : reverse back ++ line ∷ newer ≡ lines = one-newer line back newer ∙ e in (
      (λ same. whole.frames (reverse back) newer tick veh ped mode counter target version
          (sym f ∙ ap (λ (n : ℕ). reverse back ++ F n tick veh ped mode counter target version ∷ newer) same)
          ∙ downloads-reverse cab back),
      whole-back cab lines whole back (line ∷ newer) f,
    )
whole-back cab lines whole (L c id (Ok version) ∷ back) newer e =
    let f : reverse back ++ L c id (Ok version) ∷ newer ≡ lines = one-newer (L c id (Ok version)) back newer ∙ e in (
      (λ same. whole.loads (reverse back) newer id version
          (sym f ∙ ap (λ (n : ℕ). reverse back ++ L n id (Ok version) ∷ newer) same)
          ∙ ap (λ (n : ℕ). n + 1) (downloads-reverse cab back)),
      whole-back cab lines whole back (L c id (Ok version) ∷ newer) f,
    )
whole-back cab lines whole (L c id (Err broken) ∷ back) newer e = whole-back cab lines whole back (L c id (Err broken) ∷ newer) (one-newer (L c id (Err broken)) back newer ∙ e)
whole-back cab lines whole (S json ∷ back) newer e = whole-back cab lines whole back (S json ∷ newer) (one-newer (S json) back newer ∙ e)
whole-back cab lines whole (R round ∷ back) newer e = whole-back cab lines whole back (R round ∷ newer) (one-newer (R round) back newer ∙ e)
whole-back cab lines whole (M note ∷ back) newer e = whole-back cab lines whole back (M note ∷ newer) (one-newer (M note) back newer ∙ e)
whole-back cab lines whole (J c runs ∷ back) newer e = whole-back cab lines whole back (J c runs ∷ newer) (one-newer (J c runs) back newer ∙ e)
whole-back cab lines whole (A c pass reply ∷ back) newer e = whole-back cab lines whole back (A c pass reply ∷ newer) (one-newer (A c pass reply) back newer ∙ e)
whole-back cab lines whole (Z rounds ∷ back) newer e = whole-back cab lines whole back (Z rounds ∷ newer) (one-newer (Z rounds) back newer ∙ e)

-- ---- the tables of each version that is shown

some-of : (t : Option Tables) → is_some t ≡ true → (u : Tables) × (t ≡ Some u)
some-of (Some u) e = (u, refl)
some-of None e = absurd (false≢true e)

known-before : (own : Option (List (Cell × Content))) (t : Option Tables) → is_some (loaded own t) ≡ true → is_some t ≡ true
known-before None t e = absurd (false≢true e)
known-before (Some own) None e = absurd (false≢true e)
known-before (Some own) (Some t) e = refl

module _ (load : ℕ → Option (List (Cell × Content))) (opening : Tables) (cab : ℕ) where
  abbrev Known : List Line → Type 0
  Known back = is_some (tables_told load opening cab back) ≡ true

  -- what a cabinet has put in force: its numbers are in the lines, and it makes the tables of each version
  pub record Made (whole : List Line) (tables : ℕ → Tables) : Type 0 where
    pub ds : List (ℕ × List (Cell × Content))
    pub own : AllByRecursion (λ d. IsLoadIfAny (load d.0) d.1) ds
    pub ids : ids_told cab whole ≡ map (λ d. d.0) ds
    pub made : (version later : ℕ) → version + later ≡ length ds → tables version ≡ with_downloads opening (drop later (map (λ d. d.1) ds))

  -- the same up to a line before the newest ones
  pub made-before : (tables : ℕ → Tables) (newer back : List Line) → Made (newer ++ back) tables → Made back tables
  made-before tables newer back m =
      let n : ℕ = length (ids_told cab newer) in
      let all : ids_told cab (newer ++ back) ≡ ids_told cab newer ++ ids_told cab back = ids-append cab newer back in
      let count : length m.ds ≡ n + length (ids_told cab back)
      = sym (length-map m.ds (λ d. d.0)) ∙ ap length (sym m.ids ∙ all) ∙ length-append (ids_told cab newer) (ids_told cab back) in
      let left : length (drop n m.ds) ≡ length m.ds - n = length-drop n m.ds in
      record {
        ds = drop n m.ds;
        own = all-drop (λ d. IsLoadIfAny (load d.0) d.1) n m.ds m.own;
        ids = sym (drop-append_seam (ids_told cab newer) (ids_told cab back)) ∙ ap (drop n) (sym all ∙ m.ids) ∙ drop-map (λ d. d.0) n m.ds;
        made = λ version later sum.
            m.made version (n + later) (omega (arith, sum, left, count))
            ∙ ap (with_downloads opening) (sym (drop-drop later n (map (λ d. d.1) m.ds)) ∙ ap (drop later) (drop-map (λ d. d.1) n m.ds));
      }

  -- the tables of a version are those that the lines tell
  abbrev pub Agree : List Line → (ℕ → Tables) → ℕ → Type 0
  Agree whole tables version = tables version ≡ unwrap_or (version_told load opening cab whole version) opening

  pub agrees : (whole : List Line) (tables : ℕ → Tables) → Made whole tables → (back newer : List Line) → newer ++ back ≡ whole → Known back
      → Agree whole tables (downloads cab back)
  agrees whole tables m back newer e known =
      let later : ℕ = length (ids_told cab newer) in
      let version : ℕ = downloads cab back in
      let all : ids_told cab whole ≡ ids_told cab newer ++ ids_told cab back = ap (ids_told cab) (sym e) ∙ ids-append cab newer back in
      let left : drop later (ids_told cab whole) ≡ ids_told cab back
      = ap (drop later) all ∙ drop-append_seam (ids_told cab newer) (ids_told cab back) in
      let count : version ≡ length (ids_told cab back) = count-told cab back in
      let whole_count : length (ids_told cab whole) ≡ later + length (ids_told cab back) = ap length all ∙ length-append (ids_told cab newer) (ids_told cab back) in
      let sum : version + later ≡ length (ids_told cab whole) = omega (arith, count, whole_count) in
      let ds_count : length (ids_told cab whole) ≡ length m.ds = ap length m.ids ∙ length-map m.ds (λ d. d.0) in
      let here : (u : Tables) × (tables_told load opening cab back ≡ Some u) = some-of (tables_told load opening cab back) known in
      let by_ids : made_by load opening (ids_told cab back) ≡ Some here.0 = sym (told-made load opening cab back) ∙ here.1 in
      let told_so : version_told load opening cab whole version ≡ Some here.0
      = version-made load opening cab whole version later sum ∙ ap (made_by load opening) left ∙ by_ids in
      let fewer : ids_told cab back ≡ map (λ d. d.0) (drop later m.ds) = sym left ∙ ap (drop later) m.ids ∙ drop-map (λ d. d.0) later m.ds in
      let is : here.0 ≡ with_downloads opening (map (λ d. d.1) (drop later m.ds))
      = known-made load opening cab (drop later m.ds) here.0 (all-drop (λ d. IsLoadIfAny (load d.0) d.1) later m.ds m.own) (ap (made_by load opening) (sym fewer) ∙ by_ids) in
      m.made version later (sum ∙ ds_count)
      ∙ ap (with_downloads opening) (drop-map (λ d. d.1) later m.ds)
      ∙ sym is
      ∙ ap (λ (x : Option Tables). unwrap_or x opening) (sym told_so)

  module _ (whole : List Line) (tables : ℕ → Tables) (m : Made whole tables) where
    one-more : (line : Line) (back newer : List Line) → newer ++ line ∷ back ≡ whole → (newer ++ line ∷ []) ++ back ≡ whole
    one-more line back newer e = append_assoc newer (line ∷ []) back ∙ e

    pub each-agrees : (back newer : List Line) → newer ++ back ≡ whole → WholeBack cab back → Known back → Each (Agree whole tables) (told cab back)
    each-agrees [] newer e kept known = tt
    each-agrees (F c tick veh ped mode counter target version ∷ back) newer e kept known =
        let line : Line = F c tick veh ped mode counter target version in
        split (c == cab) refl (each-agrees back (newer ++ line ∷ []) (one-more line back newer e) kept.1 known)
        (agrees whole tables m back (newer ++ line ∷ []) (one-more line back newer e) known)
      where
        shown : ℕ × Indications
        shown = (tick, record { colours = veh; signals = ped; mode = mode; version = version })

        split : (b : Bool) → (c == cab) ≡ b → Each (Agree whole tables) (told cab back) → Agree whole tables (downloads cab back)
            → Each (Agree whole tables) (if b then shown ∷ told cab back else told cab back)
        split true same older now = (subst (Agree whole tables) (sym (kept.0 ((Decides-eqb c cab).0 same))) now, older)
        split false same older now = older
    each-agrees (L c id (Ok version) ∷ back) newer e kept known =
        each-agrees back (newer ++ L c id (Ok version) ∷ []) (one-more (L c id (Ok version)) back newer e) kept.1 (split (c == cab) known)
      where
        split : (b : Bool) → is_some (if b then loaded (load id) (tables_told load opening cab back) else tables_told load opening cab back) ≡ true → Known back
        split true e = known-before (load id) (tables_told load opening cab back) e
        split false e = e
    each-agrees (L c id (Err broken) ∷ back) newer e kept known = each-agrees back (newer ++ L c id (Err broken) ∷ []) (one-more (L c id (Err broken)) back newer e) kept known
    each-agrees (S json ∷ back) newer e kept known = each-agrees back (newer ++ S json ∷ []) (one-more (S json) back newer e) kept known
    each-agrees (R round ∷ back) newer e kept known = each-agrees back (newer ++ R round ∷ []) (one-more (R round) back newer e) kept known
    each-agrees (M note ∷ back) newer e kept known = each-agrees back (newer ++ M note ∷ []) (one-more (M note) back newer e) kept known
    each-agrees (J c runs ∷ back) newer e kept known = each-agrees back (newer ++ J c runs ∷ []) (one-more (J c runs) back newer e) kept known
    each-agrees (A c pass reply ∷ back) newer e kept known = each-agrees back (newer ++ A c pass reply ∷ []) (one-more (A c pass reply) back newer e) kept known
    each-agrees (Z rounds ∷ back) newer e kept known = each-agrees back (newer ++ Z rounds ∷ []) (one-more (Z rounds) back newer e) kept known

  -- the lines of a cabinet that are fine by the tables of its history are so by the tables that they tell
  pub told-fine : (back : List Line) (tables : ℕ → Tables) → Made back tables → WholeBack cab back → Known back → Falls (told cab back)
      → AllFine tables (told cab back) → AllFine (λ version. unwrap_or (version_told load opening cab back version) opening) (told cab back)
  told-fine back tables m kept known falls fine =
      fine-too tables (λ version. unwrap_or (version_told load opening cab back version) opening) (told cab back) falls
      (agrees back tables m [] back (append-nil back) refl)
      (each-agrees back tables m back [] refl kept known) fine
