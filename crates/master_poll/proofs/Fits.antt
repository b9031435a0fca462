-- Each command fits into 1,472 octets.
use Rattle.std.proofs.Common.{◌≡◌, ℕ, ◌<◌, ◌≤◌, List, [], ◌∷◌, map, length, sym, subst, arith}
use Rattle.std.specs.Prelude.{ℤ}
use Rattle.ber_code.specs.Names.{name_text}
use Rattle.snmp_msg.specs.declared.message.Bind.{Bind}
use Rattle.snmp_msg.specs.declared.message.Pdu.TheVariants.{Get, Set}
use Rattle.oid_map.specs.Names.{arcs_of}
use Rattle.oid_map.specs.declared.names.Name.{Name}
use Rattle.oid_map.specs.declared.names.Name.TheVariants.{Group, PatternStatus, PatternControl, Txn, Clock, Counter, Target, ModeCode}
use Rattle.requests.specs.Requests.{asked_for, get_text, number_at, set_text}
use Rattle.requests.proofs.Fits.{AreFew, asc_few, asked_few, number_few, own_few, request_few}
use Rattle.master_poll.specs.Sends.{polled}

setting_few : (community : List ℕ) (id : ℤ) (name : Name) (n : ℕ) (binds : List Bind) → length community ≤ 32 → length (name_text (arcs_of name)) ≤ 22
    → binds ≡ number_at name n ∷ [] → length (set_text community id binds) ≤ 1472
setting_few community id name n binds short few is =
    subst (λ bs. length (set_text community id bs) ≤ 1472) (sym is) (request_few Set community id (number_at name n ∷ []) short (number_few name n few, tt) (omega arith))

pub pattern_fits : (community : List ℕ) (id : ℤ) (n : ℕ) (binds : List Bind) → length community ≤ 32 → binds ≡ number_at PatternControl n ∷ []
    → length (set_text community id binds) ≤ 1472
pattern_fits community id n binds short is =
    setting_few community id PatternControl n binds short (asc_few (4 ∷ 14 ∷ 0 ∷ []) (omega arith, (omega arith, (omega arith, tt))) (omega arith)) is

pub clock_fits : (community : List ℕ) (id : ℤ) (n : ℕ) (binds : List Bind) → length community ≤ 32 → binds ≡ number_at Clock n ∷ []
    → length (set_text community id binds) ≤ 1472
clock_fits community id n binds short is =
    setting_few community id Clock n binds short (own_few (2 ∷ 1 ∷ 0 ∷ []) (omega arith, (omega arith, (omega arith, tt))) (omega arith)) is

group_few : (k : ℕ) → k < 128 → length (name_text (arcs_of (Group 4 k))) ≤ 22
group_few k low = asc_few (1 ∷ 4 ∷ 1 ∷ 4 ∷ k ∷ []) (omega arith, (omega arith, (omega arith, (omega arith, (low, tt))))) (omega arith)

polled_few : AreFew (map asked_for polled)
polled_few = (
  asked_few PatternStatus (asc_few (4 ∷ 10 ∷ 0 ∷ []) (omega arith, (omega arith, (omega arith, tt))) (omega arith)),
  (
    asked_few Counter (own_few (2 ∷ 2 ∷ 0 ∷ []) (omega arith, (omega arith, (omega arith, tt))) (omega arith)),
    (
      asked_few Target (own_few (2 ∷ 3 ∷ 0 ∷ []) (omega arith, (omega arith, (omega arith, tt))) (omega arith)),
      (
        asked_few ModeCode (own_few (2 ∷ 4 ∷ 0 ∷ []) (omega arith, (omega arith, (omega arith, tt))) (omega arith)),
        (
          asked_few (Txn 10) (own_few (1 ∷ 10 ∷ 0 ∷ []) (omega arith, (omega arith, (omega arith, tt))) (omega arith)),
          (
            asked_few (Group 4 1) (group_few 1 (omega arith)),
            (
              asked_few (Group 4 2) (group_few 2 (omega arith)),
              (
                asked_few PatternControl (asc_few (4 ∷ 14 ∷ 0 ∷ []) (omega arith, (omega arith, (omega arith, tt))) (omega arith)),
                tt,
              ),
            ),
          ),
        ),
      ),
    ),
  ),
)

pub poll_fits : (community : List ℕ) (id : ℤ) (binds : List Bind) → length community ≤ 32 → binds ≡ map asked_for polled
    → length (get_text community id binds) ≤ 1472
poll_fits community id binds short is =
    subst (λ bs. length (get_text community id bs) ≤ 1472) (sym is) (request_few Get community id (map asked_for polled) short polled_few (omega arith))
