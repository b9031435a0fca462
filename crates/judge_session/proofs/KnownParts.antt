-- Of a cabinet whose tables become unknown, the lines before that are judged, and no others.
use Rattle.std.proofs.Common.{◌≡◌, ◌≤◌, ◌∙◌, ◌==◌, nat_le, ℕ, Bool, true, false, if◌then◌else◌, List, [], ◌∷◌, ◌++◌, Option, Ok, Err, unwrap_or, reverse, refl, sym, ap, subst}
use Rattle.std.proofs.lemmas.Bool.{eqb-true, eq-eqb, false≢true}
use Rattle.std.proofs.lemmas.List.{reverse-append}
use Rattle.sig_tables.specs.declared.tables.Tables.{Tables}
use Rattle.trace_text.specs.declared.lines.Line.{Line}
use Rattle.trace_text.specs.declared.lines.Line.TheVariants.{S, R, M, J, A, F, L, Z}
use Rattle.safety_laws.specs.Safe.{Indications, Intersection, Safe, dark, told, shown_at, intersection_of}
use Rattle.safety_laws.specs.Whole.{downloads}
use Rattle.scenario_data.specs.Content.{ScenarioContent}
use Rattle.judge_laws.specs.Breaches.{exact, frame_breaches}
use Rattle.judge_laws.proofs.Runs.{back_at}
use Rattle.judge_laws.proofs.Tests.{funext, append-none, none-append}
use Rattle.judge_laws.proofs.Parts.{Fine, AllFine, all-parts, parts-all, parts-safe, safe-parts, street}
use Rattle.judge_laws.proofs.Findings.{none-fine, fine-none}
use Rattle.judge_laws.proofs.Judged.{told-reverse}
use Rattle.judge_session.specs.Told.{load_told, opening_at, is_known, tables_before}
use Rattle.judge_session.specs.Log.{Follow}
use Rattle.judge_session.specs.Report.{line_found, log_found}
use Rattle.judge_session.specs.Streets.{known_part, SafeSoFar}
use Rattle.judge_session.proofs.KnownTables.{AtMost, frame_same, stays, falls, known_before}
use Rattle.judge_session.proofs.Watching.{shown}

-- a street by the lines of a cabinet, the newest first, is that by its lines in their order
shown-more : (tick : ℕ) (before : Indications) (xs : List (ℕ × Indications)) (x : ℕ × Indications)
    → shown_at tick before (xs ++ x ∷ []) ≡ (if nat_le x.0 tick then x.1 else shown_at tick before xs)
shown-more tick before [] x = refl
shown-more tick before (y ∷ ys) x = shown-more tick (if nat_le y.0 tick then y.1 else before) ys x

shown-back : (tick : ℕ) (back : List (ℕ × Indications)) → shown_at tick dark (reverse back) ≡ back_at back tick
shown-back tick [] = refl
shown-back tick (x ∷ back) =
    ap (shown_at tick dark) (reverse-append (x ∷ []) back) ∙ shown-more tick dark (reverse back) x
    ∙ ap (λ (y : Indications). if nat_le x.0 tick then x.1 else y) (shown-back tick back)

same-street : (cab : ℕ) (tables : ℕ → Tables) (back : List Line) → street tables (told cab back) ≡ intersection_of cab tables (reverse back)
same-street cab tables back = ap (λ (f : ℕ → Indications). make f) (funext (back_at (told cab back)) (λ tick. shown_at tick dark (told cab (reverse back)))
    (λ tick. sym (shown-back tick (told cab back)) ∙ ap (shown_at tick dark) (sym (told-reverse cab back))))
  where
    make : (ℕ → Indications) → Intersection
    make f = record { tables = tables; shown = f }

-- tables that agree on the versions that are shown find the same lines fine
fine-same : (tables other : ℕ → Tables) (n : ℕ) → ((version : ℕ) → version ≤ n → tables version ≡ other version) → (older : List (ℕ × Indications)) → AtMost n older
    → AllFine tables older → AllFine other older
fine-same tables other n alike [] all fine = tt
fine-same tables other n alike (line ∷ older) (here, all) (fine, now) = (
  fine-same tables other n alike older all fine,
  none-fine other 0 older line (sym (frame_same exact 0 tables other n alike older all line here) ∙ fine-none tables 0 older line now),
)

module _ (s : ScenarioContent) where
  -- a load changes the tables of no version that is shown
  load-alike : (cab c id made : ℕ) (before : List Line) (version : ℕ) → version ≤ downloads cab before
      → tables_before s (L c id (Ok made) ∷ before) cab version ≡ tables_before s before cab version
  load-alike cab c id made before version few =
      ap (λ (o : Option Tables). unwrap_or o (opening_at s cab)) (stays (load_told s cab) (opening_at s cab) cab (L c id (Ok made)) before version few)

  -- lines that show no breach are fine at a cabinet whose tables are known
  known-fine : (cab : ℕ) (before : List Line) → Follow s before → log_found s exact before ≡ [] → is_known s cab before ≡ true
      → AllFine (tables_before s before cab) (told cab before)
  known-fine cab [] follow none known = tt
  known-fine cab (F c tick veh ped mode counter target version ∷ before) (first, follow) none known =
      let both = append-none (log_found s exact before) _ none in
      split (c == cab) refl both.1 (known-fine cab before follow both.0 known)
    where
      split : (b : Bool) → (c == cab) ≡ b → line_found s exact before (F c tick veh ped mode counter target version) ≡ [] → AllFine (tables_before s before cab) (told cab before)
          → AllFine (tables_before s before cab) (if b then shown tick veh ped mode version ∷ told cab before else told cab before)
      split true e found fine =
          let own : line_found s exact before (F cab tick veh ped mode counter target version) ≡ []
          = subst (λ (n : ℕ). line_found s exact before (F n tick veh ped mode counter target version) ≡ []) (eqb-true c cab e) found in
          let all : line_found s exact before (F cab tick veh ped mode counter target version)
          ≡ frame_breaches exact cab (tables_before s before cab) (told cab before) (shown tick veh ped mode version) = rw known refl in
          (fine, none-fine (tables_before s before cab) cab (told cab before) (shown tick veh ped mode version) (sym all ∙ own))
      split false e found fine = fine
  known-fine cab (L c id (Ok made) ∷ before) (first, follow) none known =
      fine-same (tables_before s before cab) (tables_before s (L c id (Ok made) ∷ before) cab) (downloads cab before)
      (λ version few. sym (load-alike cab c id made before version few)) (told cab before) (falls s cab before follow).1
      (known-fine cab before follow (append-none (log_found s exact before) [] none).0 (known_before s cab (L c id (Ok made)) before known))
  known-fine cab (L c id (Err broken) ∷ before) (first, follow) none known = known-fine cab before follow (append-none (log_found s exact before) [] none).0 known
  known-fine cab (S json ∷ before) (first, follow) none known = known-fine cab before follow (append-none (log_found s exact before) [] none).0 known
  known-fine cab (R round ∷ before) (first, follow) none known = known-fine cab before follow (append-none (log_found s exact before) [] none).0 known
  known-fine cab (M note ∷ before) (first, follow) none known = known-fine cab before follow (append-none (log_found s exact before) [] none).0 known
  known-fine cab (J c runs ∷ before) (first, follow) none known = known-fine cab before follow (append-none (log_found s exact before) [] none).0 known
  known-fine cab (A c pass reply ∷ before) (first, follow) none known = known-fine cab before follow (append-none (log_found s exact before) [] none).0 known
  known-fine cab (Z rounds ∷ before) (first, follow) none known = known-fine cab before follow (append-none (log_found s exact before) [] none).0 known

  abbrev PartFine : ℕ → List Line → Type 0
  PartFine cab before = AllFine (tables_before s (known_part s cab before) cab) (told cab (known_part s cab before))

  none-parts : (cab : ℕ) (before : List Line) → Follow s before → log_found s exact before ≡ [] → PartFine cab before
  none-parts cab [] follow none = tt
  none-parts cab (line ∷ before) follow none =
      split (is_known s cab (line ∷ before)) refl (none-parts cab before follow.1 (append-none (log_found s exact before) _ none).0)
    where
      split : (b : Bool) → is_known s cab (line ∷ before) ≡ b → PartFine cab before
          → AllFine (tables_before s (if b then line ∷ before else known_part s cab before) cab) (told cab (if b then line ∷ before else known_part s cab before))
      split true e fine = known-fine cab (line ∷ before) follow none e
      split false e fine = fine

  -- without the newest line
  fine-less : (cab : ℕ) (line : Line) (before : List Line) → Follow s before → AllFine (tables_before s (line ∷ before) cab) (told cab (line ∷ before))
      → AllFine (tables_before s before cab) (told cab before)
  fine-less cab (F c tick veh ped mode counter target version) before follow fine = less (c == cab) fine
    where
      less : (b : Bool) → AllFine (tables_before s before cab) (if b then shown tick veh ped mode version ∷ told cab before else told cab before)
          → AllFine (tables_before s before cab) (told cab before)
      less true h = h.0
      less false h = h
  fine-less cab (L c id (Ok made)) before follow fine =
      fine-same (tables_before s (L c id (Ok made) ∷ before) cab) (tables_before s before cab) (downloads cab before) (load-alike cab c id made before)
      (told cab before) (falls s cab before follow).1 fine
  fine-less cab (L c id (Err broken)) before follow fine = fine
  fine-less cab (S json) before follow fine = fine
  fine-less cab (R round) before follow fine = fine
  fine-less cab (M note) before follow fine = fine
  fine-less cab (J c runs) before follow fine = fine
  fine-less cab (A c pass reply) before follow fine = fine
  fine-less cab (Z rounds) before follow fine = fine

  -- of a cabinet whose tables are known, all lines are judged
  all-known : (cab : ℕ) (before : List Line) → is_known s cab before ≡ true → known_part s cab before ≡ before
  all-known cab [] known = refl
  all-known cab (line ∷ before) known = rw known refl

  part-less : (cab : ℕ) (line : Line) (before : List Line) → Follow s before → PartFine cab (line ∷ before) → PartFine cab before
  part-less cab line before follow fine = split (is_known s cab (line ∷ before)) refl fine
    where
      split : (b : Bool) → is_known s cab (line ∷ before) ≡ b
          → AllFine (tables_before s (if b then line ∷ before else known_part s cab before) cab) (told cab (if b then line ∷ before else known_part s cab before))
          → PartFine cab before
      split true e h =
          subst (λ (lines : List Line). AllFine (tables_before s lines cab) (told cab lines)) (sym (all-known cab before (known_before s cab line before e)))
          (fine-less cab line before follow h)
      split false e h = h

  -- a line shows no breach if the lines of its cabinet are fine
  line-none : (line : Line) (before : List Line) → ((cab : ℕ) → PartFine cab (line ∷ before)) → line_found s exact before line ≡ []
  line-none (F c tick veh ped mode counter target version) before fine = split (is_known s c before) refl
    where
      now : (b : Bool) → b ≡ true → AllFine (tables_before s before c) (if b then shown tick veh ped mode version ∷ told c before else told c before)
          → Fine (tables_before s before c) (told c before) (shown tick veh ped mode version)
      now true e h = h.1
      now false e h = absurd (false≢true e)

      split : (b : Bool) → is_known s c before ≡ b
          → (if b then frame_breaches exact c (tables_before s before c) (told c before) (shown tick veh ped mode version) else []) ≡ []
      split true e = fine-none (tables_before s before c) c (told c before) (shown tick veh ped mode version)
          (now (c == c) (eq-eqb c c refl)
          (subst (λ (lines : List Line). AllFine (tables_before s lines c) (told c lines))
          (all-known c (F c tick veh ped mode counter target version ∷ before) e) (fine c)))
      split false e = refl
  line-none (L c id (Ok made)) before fine = refl
  line-none (L c id (Err broken)) before fine = refl
  line-none (S json) before fine = refl
  line-none (R round) before fine = refl
  line-none (M note) before fine = refl
  line-none (J c runs) before fine = refl
  line-none (A c pass reply) before fine = refl
  line-none (Z rounds) before fine = refl

  parts-none : (before : List Line) → Follow s before → ((cab : ℕ) → PartFine cab before) → log_found s exact before ≡ []
  parts-none [] follow fine = refl
  parts-none (line ∷ before) (first, follow) fine =
      none-append (log_found s exact before) _ (parts-none before follow (λ cab. part-less cab line before follow (fine cab))) (line-none line before fine)

  part-follows : (cab : ℕ) (before : List Line) → Follow s before → Follow s (known_part s cab before)
  part-follows cab [] follow = tt
  part-follows cab (line ∷ before) follow = split (is_known s cab (line ∷ before)) (part-follows cab before follow.1)
    where
      split : (b : Bool) → Follow s (known_part s cab before) → Follow s (if b then line ∷ before else known_part s cab before)
      split true part = follow
      split false part = part

  pub so-far-of-none : (before : List Line) → Follow s before → log_found s exact before ≡ [] → SafeSoFar s before
  so-far-of-none before follow none cab =
      let part = known_part s cab before in
      let tables = tables_before s part cab in
      subst Safe (same-street cab tables part)
      (parts-safe tables (told cab part) (all-parts tables (told cab part) (falls s cab part (part-follows cab before follow)).0 (none-parts cab before follow none)))

  pub none-of-so-far : (before : List Line) → Follow s before → SafeSoFar s before → log_found s exact before ≡ []
  none-of-so-far before follow safe = parts-none before follow (λ cab.
      let part = known_part s cab before in
      let tables = tables_before s part cab in
      parts-all tables (told cab part) (falls s cab part (part-follows cab before follow)).0
      (safe-parts tables (told cab part) (subst Safe (sym (same-street cab tables part)) (safe cab))))
