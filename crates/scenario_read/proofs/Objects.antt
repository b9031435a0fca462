-- An object whose names are known has the faults of its fields; and the first fault of one field after others without
-- any.
use Rattle.std.proofs.Common.{◌≡◌, ℕ, List, [], ◌∷◌, ◌++◌, refl, sym, ap, ◌∙◌, subst, append_assoc}
use Rattle.serde_json.specs.Data.{Data, null, boolean, number, string, array, object}
use Rattle.scenario_data.specs.declared.refusal.ReadFail.{ReadFail}
use Rattle.scenario_data.specs.Causes.{Cause}
use Rattle.scenario_read.specs.Paths.{Step}
use Rattle.scenario_read.specs.Fields.{Field, Shape, names, known_fields, field_faults, fields_faults, alternative_faults, object_of}
use Rattle.scenario_read.specs.Table.{version, setup_fields, event_fields, scenario_shape}
use Rattle.scenario_read.specs.Content.{version_number, round_count, cabinet_count}
use Rattle.scenario_read.specs.Faults.{named_faults}
use Rattle.scenario_read.specs.Readers.{Refuses, names_faults}
use Rattle.scenario_read.proofs.Refusing.{refuses_more}

pub known-object : (shape : Shape) (path : List Step) (d : Data) → names_faults (names (known_fields shape d)) path d ≡ []
    → object_of shape path d ≡ fields_faults path d shape.fields ++ alternative_faults path d shape.alternatives
known-object shape path null e = absurd (cc)
known-object shape path (boolean b) e = absurd (cc)
known-object shape path (number n) e = absurd (cc)
known-object shape path (string s) e = absurd (cc)
known-object shape path (array ds) e = absurd (cc)
known-object shape path (object ms) e = ap (λ causes. causes ++ (fields_faults path (object ms) shape.fields ++ alternative_faults path (object ms) shape.alternatives)) e

pub both-fields : (path : List Step) (d : Data) (xs ys : List Field) → fields_faults path d (xs ++ ys) ≡ fields_faults path d xs ++ fields_faults path d ys
both-fields path d [] ys = refl
both-fields path d (f ∷ xs) ys = ap (λ causes. field_faults path d f ++ causes) (both-fields path d xs ys) ∙ sym (append_assoc (field_faults path d f) (fields_faults path d xs) (fields_faults path d ys))

-- the faults of a scenario whose names are known: of its version, of what represents the whole run, of its rounds
pub three-parts : (d : Data) → names_faults (names (known_fields (scenario_shape (version_number d) (round_count d) (cabinet_count d)) d)) [] d ≡ []
    → named_faults d ≡ (field_faults [] d version ++ (fields_faults [] d (setup_fields (version_number d)) ++ fields_faults [] d (event_fields (round_count d) (cabinet_count d)))) ++ []
three-parts d e =
    known-object (scenario_shape (version_number d) (round_count d) (cabinet_count d)) [] d e
    ∙ ap (λ causes. (field_faults [] d version ++ causes) ++ []) (both-fields [] d (setup_fields (version_number d)) (event_fields (round_count d) (cabinet_count d)))

pub after-one : (fail : ReadFail) (a b c : List Cause) → a ≡ [] → Refuses fail b → Refuses fail ((a ++ (b ++ c)) ++ [])
after-one fail a b c p h = rw p (refuses_more fail _ _ (refuses_more fail b c h))

pub after-two : (fail : ReadFail) (a b c : List Cause) → a ≡ [] → b ≡ [] → Refuses fail c → Refuses fail ((a ++ (b ++ c)) ++ [])
after-two fail a b c p q h = rw (p, q) (refuses_more fail c [] h)

pub none-of-three : (a b c : List Cause) → a ≡ [] → b ≡ [] → c ≡ [] → (a ++ (b ++ c)) ++ [] ≡ []
none-of-three a b c p q r = rw (p, q, r) refl

pub at-same : (P : ℕ → ℕ → Type 0) (a b c d : ℕ) → a ≡ c → b ≡ d → P a b → P c d
at-same P a b c d e f h = subst (λ n. P n d) e (subst (λ n. P a n) f h)
