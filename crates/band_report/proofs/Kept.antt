-- What is kept of an object that asks of bands has its first fault; where it has none, that is the object.
use Rattle.std.proofs.Common.{◌≡◌, ℕ, List, [], length, refl, sym, ap, ◌∙◌, subst}
use Rattle.serde_json.specs.Data.{Data, null, boolean, number, string, array, object}
use Rattle.scenario_data.specs.declared.refusal.ReadFail.{ReadFail}
use Rattle.scenario_data.specs.declared.refusal.ReadFail.TheVariants.{Refused, NoMemory}
use Rattle.scenario_data.specs.declared.refusal.Refusal.{Refusal}
use Rattle.scenario_data.specs.declared.refusal.Refusal.TheVariants.{Syntax, Field, Limit, Broken}
use Rattle.scenario_data.specs.Causes.{Cause, Names}
use Rattle.scenario_read.specs.Answers.{Reads, OnRefusal}
use Rattle.scenario_read.specs.Content.{number_at}
use Rattle.scenario_read.specs.Faults.{faults, first_cause}
use Rattle.scenario_read.specs.Fields.{object_of}
use Rattle.scenario_read.specs.Kinds.{whole}
use Rattle.scenario_read.specs.Readers.{Refuses}
use Rattle.scenario_read.specs.Sorted.{Sorted}
use Rattle.scenario_read.proofs.NoFaults.{none-left}
use Rattle.scenario_read.proofs.Rising.{read-sorted}
use Rattle.scenario_cut.specs.declared.form.Form.TheVariants.{Street, Whole, Times, Bare}
use Rattle.scenario_cut.specs.Cutting.{cut}
use Rattle.scenario_cut.specs.Texts.{IsNoText}
use Rattle.scenario_cut.proofs.Same.{Same, same-map, map-none, same-more, kept-right}
use Rattle.scenario_cut.proofs.Members.{IsObject, object-same}
use Rattle.scenario_cut.proofs.Items.{KeepsItem, each-kept}
use Rattle.scenario_cut.proofs.Kept.{whole-same}
use Rattle.scenario_cut.proofs.Scenario.{first-kept}
use Rattle.scenario_cut.proofs.Entire.{Entire, whole-entire, each-entire, object-entire, faultless-entire}
use Rattle.scenario_checked.specs.Inside.{inner_cause, inner_scenario}
use Rattle.band_report.specs.Street.{misfit_of}
use Rattle.band_report.specs.Asked.{list_of_any, section, pattern, cabinets_asked, travel_asked, asked_shape, misfit_causes, band_faults}
use Rattle.band_report.specs.BandAnswer.{IsFirstBandFault}

-- ---- the scenario and the travel times

scenario-same : KeepsItem Whole inner_scenario
scenario-same path d = same-map inner_cause (faults (cut Whole d)) (faults d) (first-kept d)

scenario-entire : Entire Whole inner_scenario
scenario-entire path d sorted e = faultless-entire d sorted (map-none inner_cause (faults d) e)

travel-same : KeepsItem Times (list_of_any (whole 0 864000))
travel-same path null = refl
travel-same path (boolean b) = refl
travel-same path (number n) = refl
travel-same path (string s) = refl
travel-same path (array ds) = each-kept Bare (whole 0 864000) (whole-same 0 864000) (λ n d. refl) path 0 0 ds
travel-same path (object ms) = refl

travel-entire : Entire Times (list_of_any (whole 0 864000))
travel-entire path null sorted e = refl
travel-entire path (boolean b) sorted e = refl
travel-entire path (number n) sorted e = refl
travel-entire path (string s) sorted e = refl
travel-entire path (array ds) sorted e = ap array (each-entire Bare (whole 0 864000) (whole-entire 0 864000) (λ path n d e. refl) path 0 0 ds sorted e)
travel-entire path (object ms) sorted e = absurd (cc)

-- ---- the object

is-street : IsObject Street
is-street = record { opens = refl; closed = refl }

abbrev names : Data → List Cause
names d = object_of asked_shape [] d

abbrev against : Data → List Cause
against d = misfit_causes (misfit_of (cabinets_asked d) (number_at section d) (number_at pattern d) (length (travel_asked d)))

names-same : (d : Data) → Same (names (cut Street d)) (names d)
names-same d = object-same Street is-street asked_shape refl [] d (scenario-same, (whole-same 1 8, (whole-same 1 48, (travel-same, tt)))) tt

names-entire : (d : Data) → Sorted d → names d ≡ [] → cut Street d ≡ d
names-entire d sorted e = object-entire Street is-street asked_shape refl (scenario-entire, (whole-entire 1 8, (whole-entire 1 48, (travel-entire, tt)))) tt [] d sorted e

street-same : (d : Data) → Sorted d → Same (band_faults (cut Street d)) (band_faults d)
street-same d sorted = same-more names against (cut Street d) d (names-same d) (names-entire d sorted)

-- ---- its text

named : (bytes : List ℕ) (d : Data) (reads : Reads bytes d) (refusal : Refusal) → Names refusal (first_cause (band_faults d)) → IsFirstBandFault bytes refusal
named bytes d reads Syntax h = absurd h
named bytes d reads (Field path) h = (d, reads, h)
named bytes d reads (Limit path) h = (d, reads, h)
named bytes d reads (Broken cabinet rule row) h = (d, reads, h)

-- the first fault of a value is that of its text
pub refused-first : (bytes : List ℕ) (d : Data) (fail : ReadFail) → Reads bytes d → Refuses fail (band_faults d) → OnRefusal fail (IsFirstBandFault bytes)
refused-first bytes d (Refused refusal) reads h = named bytes d reads refusal h
refused-first bytes d NoMemory reads h = tt

module _ (bytes : List ℕ) (d v : Data) (reads : Reads bytes d) (is : v ≡ cut Street d) where
  sorted : Sorted d
  sorted = read-sorted bytes d reads.1

  same : Same (band_faults v) (band_faults d)
  same = ap (λ w. first_cause (band_faults w)) is ∙ street-same d sorted

  -- what is kept of the object of a text, where it has no faults, is the object
  pub street-right : band_faults v ≡ [] → v ≡ d
  street-right none = kept-right band_faults v d same (λ clean. is ∙ names-entire d sorted (none-left (names d) (against d) clean).0) none

  -- its first fault is that of the text
  pub street-refused : (fail : ReadFail) → Refuses fail (band_faults v) → OnRefusal fail (IsFirstBandFault bytes)
  street-refused (Refused refusal) h = named bytes d reads refusal (subst (λ o. Names refusal o) same h)
  street-refused NoMemory h = tt

-- bytes that are not JSON have that as their first fault
pub no-street : (bytes : List ℕ) (fail : ReadFail) → OnRefusal fail (IsNoText bytes) → OnRefusal fail (IsFirstBandFault bytes)
no-street bytes (Refused refusal) none = subst (IsFirstBandFault bytes) (sym none.0) none.1
no-street bytes NoMemory none = tt
