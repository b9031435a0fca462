-- A run that is reported round by round, and the whole run of which a front was reported where it stops short.
use Rattle.std.proofs.Common.{◌≡◌, ◌+◌, ◌∙◌, ◌<◌, ◌⊎◌, inl, inr, ℕ, suc, List, [], ◌∷◌, ◌++◌, length, Result, Ok, Err, refl, sym, ap, subst, arith, append-nil}
use Rattle.sig_types.specs.declared.notes.MasterNote.{MasterNote}
use Rattle.trace_text.specs.declared.lines.Line.{Line}
use Rattle.trace_tell.specs.Telling.{TellsLines, TellsWithin, TellerLaws}
use Rattle.scenario_data.specs.Content.{ScenarioContent}
use Rattle.run_definition.specs.CabinetState.{CabinetState, opened_cabinet_states}
use Rattle.run_definition.specs.Orders.{serial_rounds}
use Rattle.run_definition.specs.Lines.{opening_lines, round_lines, rounds_lines, front_lines}
use Rattle.run_definition.proofs.More.{fronts-more}
use Rattle.round_run.specs.Joined.{journals_in}
use Rattle.round_run.specs.declared.rounds.ClosedLoop.{ClosedLoop}
use Rattle.round_run.specs.ClosedLoop.{Between}
use Rattle.whole_run.specs.Orders.{come_to, InSomeOrder}
use Rattle.whole_run.specs.Rounds.{HasRunOn}
use Rattle.whole_run.proofs.Orders.{AreSoFar, so-none, so-more, come-more, finished, finished-brought, all-brought, all-closed, closed-then}

-- before any round: what each cabinet shows
opened : (s : ScenarioContent) → front_lines s [] ≡ opening_lines 1 (come_to s [])
opened s = append-nil (opening_lines 1 (opened_cabinet_states s s.cabinets))

-- one round more
next-lines : (s : ScenarioContent) (done : ℕ) (js : List (List (List ℕ))) (j : List (List ℕ)) → length js ≡ done
    → front_lines s (js ++ j ∷ []) ≡ front_lines s js ++ round_lines s (done + 1) (come_to s js) j
next-lines s done js j all =
    fronts-more s js (j ∷ [])
    ∙ ap (λ (lines : List Line). front_lines s js ++ lines) (append-nil (round_lines s (length js + 1) (come_to s js) j))
    ∙ ap (λ (n : ℕ). front_lines s js ++ round_lines s (n + 1) (come_to s js) j) all

module _ {T F : Type 0} {told : T → T → List Line → Type 0} {stopped : T → T → F → List Line → Type 0} {out_of_memory : F} (laws : TellerLaws told stopped out_of_memory)
    (workers : ℕ) (s : ScenarioContent) where
  -- that many rounds were run, and their lines were reported, after those of what the cabinets show at first
  pub record Goes (done : ℕ) (c : ClosedLoop) (old now : T) : Type 0 where
    pub journals : List (List (List ℕ))
    pub so : AreSoFar workers s done journals
    pub between : Between s done (come_to s journals) c
    pub handed : told old now (front_lines s journals)

  -- the rounds of a run in some order were reported, or telling them stopped short
  abbrev pub TellsFront : Result (Unit {0}) F → T → T → Type 0
  TellsFront result old new = InSomeOrder workers s (λ journals. TellsLines told stopped result old new (front_lines s journals))
      (λ closed left. TellsWithin told stopped result old new left (front_lines s closed))

  -- before any round
  pub goes-first : (c : ClosedLoop) (old new : T) → Between s 0 (come_to s []) c → told old new (opening_lines 1 (come_to s [])) → Goes 0 c old new
  goes-first c old new between first = record {
    journals = [];
    so = so-none workers s;
    between = between;
    handed = subst (λ (lines : List Line). told old new lines) (sym (opened s)) first;
  }

  next-so : (done : ℕ) (notes : List MasterNote) (c ran : ClosedLoop) (old new : T) (so : Goes done c old new)
      → HasRunOn workers s done (come_to s so.journals) notes ran → AreSoFar workers s (done + 1) (so.journals ++ journals_in ran.books.items ∷ [])
  next-so done notes c ran old new so run = so-more workers s done so.journals (journals_in ran.books.items) so.so run.merged.merges run.serial

  -- one round more
  pub goes-on : (done : ℕ) (notes : List MasterNote) (c ran : ClosedLoop) (old mid new : T) (so : Goes done c old mid)
      → HasRunOn workers s done (come_to s so.journals) notes ran → told mid new (round_lines s (done + 1) (come_to s so.journals) (journals_in ran.books.items))
      → Goes (done + 1) ran old new
  goes-on done notes c ran old mid new so run more = record {
    journals = so.journals ++ journals_in ran.books.items ∷ [];
    so = next-so done notes c ran old mid so run;
    between = subst (λ (ts : List CabinetState). Between s (done + 1) ts ran) (sym (come-more s so.journals (journals_in ran.books.items))) run.between;
    handed = subst (λ (lines : List Line). told old new lines) (sym (next-lines s done so.journals (journals_in ran.books.items) so.so.all))
        (laws.more old mid new _ _ so.handed more);
  }

  -- all rounds
  pub goes-whole : (done : ℕ) (c : ClosedLoop) (old new : T) → Goes done c old new → done ≡ s.rounds → TellsFront (Ok tt) old new
  goes-whole done c old new so whole = record {
    journals = so.journals;
    brought = all-brought workers s done so.journals so.so whole;
    closed = so.journals;
    goes_on = all-closed workers s done so.journals so.so whole;
    holds = so.handed;
    of_closed = refl;
  }

  -- it stopped short within these rounds: serial ones may follow
  stops-within : (fail : F) (done n : ℕ) (js : List (List (List ℕ))) (old new : T) → AreSoFar workers s done js → done + n ≡ s.rounds
      → stopped old new fail (front_lines s js) → TellsFront (Err fail) old new
  stops-within fail done n js old new so whole stops = record {
    journals = finished s js n;
    brought = finished-brought workers s done n js so whole;
    closed = js;
    goes_on = closed-then workers s done n js so whole;
    of_closed = λ some. inr stops;
    holds = subst (λ (lines : List Line). stopped old new fail lines) (sym (fronts-more s js (serial_rounds s (come_to s js) n))) (laws.front old new fail _ _ stops);
  }

  -- before any round
  pub stops-first : (fail : F) (old new : T) → stopped old new fail (opening_lines 1 (come_to s [])) → TellsFront (Err fail) old new
  stops-first fail old new stops = stops-within fail 0 s.rounds [] old new (so-none workers s) (omega arith)
      (subst (λ (lines : List Line). stopped old new fail lines) (sym (opened s)) stops)

  -- in the lines of a round
  pub stops-later : (fail : F) (done n : ℕ) (notes : List MasterNote) (c ran : ClosedLoop) (old mid new : T) (so : Goes done c old mid)
      → HasRunOn workers s done (come_to s so.journals) notes ran → done + 1 + n ≡ s.rounds
      → stopped mid new fail (round_lines s (done + 1) (come_to s so.journals) (journals_in ran.books.items))
      → TellsFront (Err fail) old new
  stops-later fail done n notes c ran old mid new so run whole stops =
      stops-within fail (done + 1) n (so.journals ++ journals_in ran.books.items ∷ []) old new (next-so done notes c ran old mid so run) whole
      (subst (λ (lines : List Line). stopped old new fail lines) (sym (next-lines s done so.journals (journals_in ran.books.items) so.so.all))
      (laws.later old mid new fail _ _ so.handed stops))

  -- memory was refused between rounds
  pub stops-between : (fail : F) (done n : ℕ) (c : ClosedLoop) (old now : T) → fail ≡ out_of_memory → Goes done c old now → done + suc n ≡ s.rounds
      → TellsFront (Err fail) old now
  stops-between fail done n c old now is so whole = record {
    journals = finished s so.journals (suc n);
    brought = finished-brought workers s done (suc n) so.journals so.so whole;
    closed = so.journals;
    goes_on = closed-then workers s done (suc n) so.journals so.so whole;
    of_closed = λ some. inl so.handed;
    holds = subst (λ (lines : List Line). stopped old now fail lines) (sym (fronts-more s so.journals (serial_rounds s (come_to s so.journals) (suc n))))
        (laws.later old now now fail _ _ so.handed (subst (λ (f : F). stopped now now f (rounds_lines s (length so.journals + 1) (come_to s so.journals) (serial_rounds s (come_to s so.journals) (suc n)))) (sym is)
        (laws.short now _ _)));
  }
