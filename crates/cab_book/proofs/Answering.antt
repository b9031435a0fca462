-- What a cabinet shows is what its history gives, so its answer is the one that the cabinet history gives.
use Rattle.std.proofs.Common.{◌≡◌, ◌≤◌, ◌<◌, ℕ, zero, suc, ◌+◌, ◌/◌, ◌%◌, ◌==◌, ◌∙◌, Bool, true, inl, inr, if◌then◌else◌, nat_le, List, sym, ap, subst, arith, Option, Some}
use Rattle.std.specs.Int.{bit_at}
use Rattle.std.proofs.lemmas.Bool.{and_from, le-leb}
use Rattle.std.proofs.lemmas.Bool.Decides.{eqb_tells}
use Rattle.std.proofs.lemmas.Nat.Bits.{bit_at_lowest, bit_at-suc}
use Rattle.arrayvec.specs.ArrayVec.{ArrayVec}
use Rattle.sig_types.specs.declared.frame.Frame.{Frame}
use Rattle.sig_types.specs.declared.phase_set.PhaseSet.{PhaseSet}
use Rattle.sig_types.specs.declared.notes.StageAnswer.{StageAnswer}
use Rattle.sig_types.specs.PhaseSet.{has}
use Rattle.sig_types.specs.Phases.{is_phase, is_in}
use Rattle.sig_tables.specs.declared.tables.Tables.{Tables}
use Rattle.sig_tables.specs.declared.shown.Shown.{Shown}
use Rattle.sig_tables.specs.Layout.{Has}
use Rattle.sig_tables.specs.Past.{Past}
use Rattle.sig_tables.specs.Showing.{ShownAfter, command_shown, clock_shown, states_shown}
use Rattle.sig_tables.specs.Seen.{frame_seen, vehicle_seen, pedestrian_seen}
use Rattle.stage_txn.specs.Answers.{answered, kept, stage_state, state_code, last_answer}
use Rattle.snmp_msg.specs.Shortest.{shortest}
use Rattle.agent.specs.declared.ask.Ask.{Ask}
use Rattle.agent.specs.Groups.{bits}
use Rattle.agent.specs.Seen.{Seen, IsWithin}
use Rattle.agent.specs.Replies.{reply}
use Rattle.cabinet_history.specs.Coming.{Coming, past_of, in_force, outcome}
use Rattle.cabinet_history.specs.CabinetAnswers.{set_of, shown_at, seen_in, replied, in_frame}
use Rattle.cab_book.specs.CabinetStands.{IsSound}
use Rattle.cabinet_history.proofs.Installing.{few-within}

-- a number after it was halved that often
abbrev halved : ℕ → ℕ → ℕ
halved zero n = n
halved (suc k) n = halved k (n / 2)

low_bit : (n : ℕ) → (if bit_at n 0 == 1 then 1 else 0) ≡ n % 2
low_bit n = rw bit_at_lowest (elim (eqb_tells (n % 2) 1) [ inl (t, e) ↦ rw t (sym e) | inr (t, ne) ↦ rw t (omega (arith, ne)) ])

-- a number is made up of its bits
spelled : (k n first : ℕ) (test : ℕ → Bool) → halved k n ≡ 0 → ((i : ℕ) → i < k → test (first + i) ≡ (bit_at n i == 1)) → bits test k first ≡ n
spelled zero n first test low each = sym low
spelled (suc k) n first test low each =
    let here : (if test first then 1 else 0) ≡ n % 2 =
    ap (λ (b : Bool). if b then 1 else 0) (subst (λ (p : ℕ). test p ≡ (bit_at n 0 == 1)) (omega arith) (each 0 (omega arith))) ∙ low_bit n in
    let rest : bits test k (first + 1) ≡ n / 2 = spelled k (n / 2) (first + 1) test low
    (λ i less. subst (λ (p : ℕ). test p ≡ (bit_at (n / 2) i == 1)) (omega arith)
    (each (suc i) (omega (arith, less)) ∙ ap (λ (b : ℕ). b == 1) (bit_at-suc n i))) in
    omega (arith, here, rest)

set-is : (s : PhaseSet) (phases : List ℕ) → s.0 < 65536 → Has s (is_in phases) → s ≡ set_of phases
set-is s phases small each =
    let low : halved 16 s.0 ≡ 0 = omega (arith, small) in
    ap (λ (n : ℕ). record { 0 = n }) (sym (spelled 16 s.0 1 (is_in phases) low (λ i less.
    let phase : is_phase (1 + i) ≡ true = and_from (nat_le 1 (1 + i)) (nat_le (1 + i) 16) (le-leb 1 (1 + i) (omega arith)) (le-leb (1 + i) 16 (omega (arith, less))) in
    sym (each (1 + i) phase) ∙ ap (λ (place : ℕ). bit_at s.0 place == 1) (omega arith))))

abbrev shown_of : Frame → ℕ → ℕ → PhaseSet → PhaseSet → List ℕ → ℕ → Shown
shown_of frame command clock vehicle pedestrian requests version =
    record { frame = frame; command = command; clock = clock; veh_calls = vehicle; ped_calls = pedestrian; requests = requests; version = version }

pub shown-is : (s : Shown) (past : Past) → s.veh_calls.0 < 65536 → s.ped_calls.0 < 65536 → ShownAfter s past → s ≡ shown_at past
shown-is s past v p is =
    ap (λ (x : Frame). shown_of x s.command s.clock s.veh_calls s.ped_calls s.requests s.version) is.frame
    ∙ ap (λ (x : ℕ). shown_of (frame_seen past) x s.clock s.veh_calls s.ped_calls s.requests s.version) is.command
    ∙ ap (λ (x : ℕ). shown_of (frame_seen past) (command_shown past) x s.veh_calls s.ped_calls s.requests s.version) is.clock
    ∙ ap (λ (x : PhaseSet). shown_of (frame_seen past) (command_shown past) (clock_shown past) x s.ped_calls s.requests s.version)
    (set-is s.veh_calls (vehicle_seen past) v is.vehicle)
    ∙ ap (λ (x : PhaseSet). shown_of (frame_seen past) (command_shown past) (clock_shown past) (set_of (vehicle_seen past)) x s.requests s.version)
    (set-is s.ped_calls (pedestrian_seen past) p is.pedestrian)
    ∙ ap (λ (x : List ℕ). shown_of (frame_seen past) (command_shown past) (clock_shown past) (set_of (vehicle_seen past)) (set_of (pedestrian_seen past)) x s.version)
    is.requests
    ∙ ap (λ (x : ℕ). shown_of (frame_seen past) (command_shown past) (clock_shown past) (set_of (vehicle_seen past)) (set_of (pedestrian_seen past))
    (states_shown past) x) is.version

abbrev pub seen_of : Tables → Shown → ℕ → Option StageAnswer → Seen
seen_of t s state last = record { tables = t; shown = s; state = state; last = last }

pub seen-is : (has : Coming) (t : Tables) (s : Shown) (state : ℕ) (last : Option StageAnswer) → t ≡ in_force has → s ≡ shown_at (past_of has)
    → state ≡ state_code (stage_state (answered has.calls)) → last ≡ last_answer (answered has.calls) → seen_of t s state last ≡ seen_in has
seen-is has t s state last a b d e =
    ap (λ (x : Tables). seen_of x s state last) a
    ∙ ap (λ (x : Shown). seen_of (in_force has) x state last) b
    ∙ ap (λ (x : ℕ). seen_of (in_force has) (shown_at (past_of has)) x last) d
    ∙ ap (λ (x : Option StageAnswer). seen_of (in_force has) (shown_at (past_of has)) (state_code (stage_state (answered has.calls))) x) e

pub text-is : (has : Coming) (ask : Ask) (seen : Seen) (o : Option StageAnswer) (text : ArrayVec ℕ) → seen ≡ seen_in has → o ≡ outcome has ask.wish
    → text.items ≡ shortest (reply seen ask.message ask.wish o) → Some text ≡ in_frame (replied has (Some ask))
text-is has ask seen o text a b e =
    ap (λ (octets : List ℕ). Some (record { items = octets }))
    (e ∙ ap (λ (x : Seen). shortest (reply x ask.message ask.wish o)) a
    ∙ ap (λ (x : Option StageAnswer). shortest (reply (seen_in has) ask.message ask.wish x)) b)

-- what is shown can be known
pub shown-within : (n : ℕ) (has : Coming) (s : Shown) → IsSound n has → ShownAfter s (past_of has) → IsWithin s
shown-within n has s is shown = record {
  clock = omega (arith, shown.clock, is.shows.clock);
  version = omega (arith, shown.version, few-within (past_of has).version (kept (answered has.calls)) (stage_state (answered has.calls)) is.few, is.ids);
  counter = subst (λ (f : Frame). f.counter ≤ 2147483647) (sym shown.frame) is.shows.counter;
  target = subst (λ (f : Frame). f.target ≤ 2147483647) (sym shown.frame) is.shows.target;
}
