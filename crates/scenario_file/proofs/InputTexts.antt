-- The compact text of an input, piece by piece.
use Rattle.std.proofs.Common.{◌≡◌, ℕ, Bool, true, false, List, ◌++◌, codes, decimal, sym, ap, ◌∙◌, append_assoc}
use Rattle.json.specs.Print.{escape_byte}
use Rattle.serde_json.specs.Data.{number, boolean, unsigned, object, Members, no_members, member}
use Rattle.serde_json.specs.Written.{compact_text, members_text}
use Rattle.sig_types.specs.declared.frame.Field.{Field}
use Rattle.sig_types.specs.declared.frame.Field.TheVariants.{Veh, Ped, Preempt}
use Rattle.scenario_data.specs.declared.scenario.Input.{Input}
use Rattle.scenario_file.specs.Plain.{before_round, behind_round, input_members}

one-piece : (old new piece more : List ℕ) → new ≡ old ++ piece → new ++ more ≡ old ++ (piece ++ more)
one-piece old new piece more e = ap (λ s. s ++ more) e ∙ append_assoc old piece more

two-pieces : (old new piece digits more : List ℕ) → new ≡ (old ++ piece) ++ digits → new ++ more ≡ old ++ (piece ++ (digits ++ more))
two-pieces old new piece digits more e = ap (λ s. s ++ more) e ∙ append_assoc (old ++ piece) digits more ∙ append_assoc old piece (digits ++ more)

pub flag-true : (old new : List ℕ) (flag : Bool) → flag ≡ true → new ≡ old ++ codes ",\"on\":true" → (ms : Members) → new ++ members_text true ms ≡ old ++ members_text true (member (codes "on") (boolean flag) ms)
unfolding escape_byte
flag-true old new true is e ms = one-piece old new (codes ",\"on\":true") (members_text true ms) e
flag-true old new false is e ms = absurd (cc)

pub flag-false : (old new : List ℕ) (flag : Bool) → flag ≡ false → new ≡ old ++ codes ",\"on\":false" → (ms : Members) → new ++ members_text true ms ≡ old ++ members_text true (member (codes "on") (boolean flag) ms)
unfolding escape_byte
flag-false old new true is e ms = absurd (cc)
flag-false old new false is e ms = one-piece old new (codes ",\"on\":false") (members_text true ms) e

-- the text from old to new is that of one member more, whatever follows
abbrev pub Leads : List ℕ → List ℕ → (Members → Members) → Type 0
Leads old new front = (ms : Members) → new ++ members_text true ms ≡ old ++ members_text true (front ms)

ped-text : (old new : List ℕ) (n : ℕ) → new ≡ (old ++ codes ",\"ped\":") ++ decimal n → Leads old new (member (codes "ped") (number (unsigned n)))
unfolding escape_byte
ped-text old new n e ms = two-pieces old new (codes ",\"ped\":") (decimal n) (members_text true ms) e

preempt-text : (old new : List ℕ) (n : ℕ) → new ≡ (old ++ codes ",\"preempt\":") ++ decimal n → Leads old new (member (codes "preempt") (number (unsigned n)))
unfolding escape_byte
preempt-text old new n e ms = two-pieces old new (codes ",\"preempt\":") (decimal n) (members_text true ms) e

-- ---- what is before the round

pub before-veh : (field : Field) (phase : ℕ) (on : Bool) (old new : List ℕ) → field ≡ Veh phase on → Leads old new (member (codes "on") (boolean on)) → Leads old new (before_round field)
before-veh field phase on old new is flag ms = flag ms ∙ ap (λ (f : Field). old ++ members_text true (before_round f ms)) (sym is)

pub before-ped : (field : Field) (phase n : ℕ) (old new : List ℕ) → field ≡ Ped phase → n ≡ phase → new ≡ (old ++ codes ",\"ped\":") ++ decimal n → Leads old new (before_round field)
before-ped field phase n old new is same e ms =
    ped-text old new n e ms ∙ ap (λ k. old ++ members_text true (member (codes "ped") (number (unsigned k)) ms)) same ∙ ap (λ (f : Field). old ++ members_text true (before_round f ms)) (sym is)

pub before-preempt : (field : Field) (m n : ℕ) (on : Bool) (old middle new : List ℕ) → field ≡ Preempt m on → n ≡ m → Leads old middle (member (codes "on") (boolean on))
    → new ≡ (middle ++ codes ",\"preempt\":") ++ decimal n → Leads old new (before_round field)
before-preempt field m n on old middle new is same flag e ms =
    preempt-text middle new n e ms ∙ flag (member (codes "preempt") (number (unsigned n)) ms)
    ∙ ap (λ k. old ++ members_text true (member (codes "on") (boolean on) (member (codes "preempt") (number (unsigned k)) ms))) same
    ∙ ap (λ (f : Field). old ++ members_text true (before_round f ms)) (sym is)

-- ---- what follows the round

veh-text : (old new whole : List ℕ) (n : ℕ) → new ≡ (old ++ codes ",\"veh\":") ++ decimal n → whole ≡ new ++ codes "}" → whole ≡ old ++ members_text true (member (codes "veh") (number (unsigned n)) no_members)
unfolding escape_byte
veh-text old new whole n e f = f ∙ two-pieces old new (codes ",\"veh\":") (decimal n) (codes "}") e

pub behind-veh : (field : Field) (phase n : ℕ) (on : Bool) (old new whole : List ℕ) → field ≡ Veh phase on → n ≡ phase → new ≡ (old ++ codes ",\"veh\":") ++ decimal n → whole ≡ new ++ codes "}"
    → whole ≡ old ++ members_text true (behind_round field)
behind-veh field phase n on old new whole is same e f =
    veh-text old new whole n e f ∙ ap (λ k. old ++ members_text true (member (codes "veh") (number (unsigned k)) no_members)) same ∙ ap (λ (f : Field). old ++ members_text true (behind_round f)) (sym is)

pub behind-ped : (field : Field) (phase : ℕ) (old whole : List ℕ) → field ≡ Ped phase → whole ≡ old ++ codes "}" → whole ≡ old ++ members_text true (behind_round field)
behind-ped field phase old whole is e = e ∙ ap (λ (f : Field). old ++ members_text true (behind_round f)) (sym is)

pub behind-preempt : (field : Field) (n : ℕ) (on : Bool) (old whole : List ℕ) → field ≡ Preempt n on → whole ≡ old ++ codes "}" → whole ≡ old ++ members_text true (behind_round field)
behind-preempt field n on old whole is e = e ∙ ap (λ (f : Field). old ++ members_text true (behind_round f)) (sym is)

-- ---- the whole text

round-text : (old new : List ℕ) (n : ℕ) (ms : Members) → new ≡ (old ++ codes ",\"round\":") ++ decimal n → new ++ members_text true ms ≡ old ++ members_text true (member (codes "round") (number (unsigned n)) ms)
unfolding escape_byte
round-text old new n ms e = two-pieces old new (codes ",\"round\":") (decimal n) (members_text true ms) e

cabinet-text : (old new : List ℕ) (n : ℕ) (ms : Members) → new ≡ (old ++ codes "{\"cabinet\":") ++ decimal n → new ++ members_text true ms ≡ old ++ compact_text (object (member (codes "cabinet") (number (unsigned n)) ms))
unfolding escape_byte
cabinet-text old new n ms e = two-pieces old new (codes "{\"cabinet\":") (decimal n) (members_text true ms) e

pub input-text : (i : Input) (old first before round whole : List ℕ) → first ≡ (old ++ codes "{\"cabinet\":") ++ decimal i.cabinet
    → ((ms : Members) → before ++ members_text true ms ≡ first ++ members_text true (before_round i.field ms)) → round ≡ (before ++ codes ",\"round\":") ++ decimal i.round
    → whole ≡ round ++ members_text true (behind_round i.field) → whole ≡ old ++ compact_text (object (input_members i))
input-text i old first before round whole cabinet front middle back =
    let rest = member (codes "round") (number (unsigned i.round)) (behind_round i.field) in
    back ∙ round-text before round i.round (behind_round i.field) middle ∙ front rest ∙ cabinet-text old first i.cabinet (before_round i.field rest) cabinet
