-- The answer to a request for bands: two lines, or its first fault.
use Rattle.std.specs.Prelude.{ℕ, ◌≡◌, List, [], ◌++◌, codes, decimal, false, true, Bool, Option, Some, None}
use Rattle.serde_json.specs.Data.{Data}
use Rattle.scenario_data.specs.declared.refusal.Refusal.{Refusal}
use Rattle.scenario_data.specs.declared.refusal.Refusal.TheVariants.{Syntax, Field, Limit, Broken}
use Rattle.scenario_data.specs.Causes.{Names}
use Rattle.scenario_data.specs.Content.{scenario_content}
use Rattle.scenario_read.specs.Content.{number_at}
use Rattle.scenario_read.specs.Faults.{first_cause}
use Rattle.scenario_read.specs.Answers.{Reads}
use Rattle.band_report.specs.declared.band.Band.{Band}
use Rattle.band_report.specs.Street.{passages, ring_driven, cycle_of}
use Rattle.band_report.specs.Bands.{IsReport}
use Rattle.band_report.specs.declared.asked.Asked.{Asked}
use Rattle.band_report.specs.Asked.{section, pattern, cabinets_asked, travel_asked, band_faults}

-- the text of a band: its start, its width, and the numbers of the cabinets that limit it before and after; `none` if
-- there is no band
abbrev pub band_text : Option Band → List ℕ
band_text None = codes "none"
band_text (Some b) =
    decimal b.start ++ (codes " " ++ (decimal b.width ++ (codes " " ++ (decimal b.before ++ (codes " " ++ decimal b.after)))))

-- the two lines of an answer
abbrev pub two_lines : Option Band → Option Band → List ℕ
two_lines outbound inbound = codes "outbound " ++ (band_text outbound ++ (codes "\ninbound " ++ (band_text inbound ++ codes "\n")))

-- the report on one direction of the street of a request
abbrev pub IsTold : Data → Bool → Option Band → Type 0
IsTold d inbound report =
    IsReport (number_at pattern d) (ring_driven inbound) (passages (cabinets_asked d) (number_at section d) (travel_asked d) inbound)
    (cycle_of (cabinets_asked d) (number_at section d) (number_at pattern d)) report

-- the text gives the widest band in each direction of the street of a request
pub record TellsOf (d : Data) (text : List ℕ) : Type 0 where
  pub outbound : Option Band
  pub inbound : Option Band
  pub is_outbound : IsTold d false outbound
  pub is_inbound : IsTold d true inbound
  pub lines : text ≡ two_lines outbound inbound

-- the bytes are a request for bands, without a fault
abbrev pub AsksOfBands : List ℕ → Type 0
AsksOfBands bytes = (d : Data) × Reads bytes d × (band_faults d ≡ [])

-- the bytes are a request for bands, without a fault, and the text gives its widest bands
abbrev pub TellsBands : List ℕ → List ℕ → Type 0
TellsBands bytes text = (d : Data) × Reads bytes d × (band_faults d ≡ []) × TellsOf d text

-- the refusal names the first fault of the bytes. Syntax means that they aren't a JSON text; every other refusal
-- names the first fault of their value
abbrev pub IsFirstBandFault : List ℕ → Refusal → Type 0
IsFirstBandFault bytes Syntax = (d : Data) → Reads bytes d → ⊥
IsFirstBandFault bytes (Field path) = (d : Data) × Reads bytes d × Names (Field path) (first_cause (band_faults d))
IsFirstBandFault bytes (Limit path) = (d : Data) × Reads bytes d × Names (Limit path) (first_cause (band_faults d))
IsFirstBandFault bytes (Broken cabinet rule row) = (d : Data) × Reads bytes d × Names (Broken cabinet rule row) (first_cause (band_faults d))

-- what was read is what the object describes
pub record Says (a : Asked) (d : Data) : Type 0 where
  pub cabinets : (scenario_content a.scenario).cabinets ≡ cabinets_asked d
  pub section : a.section ≡ number_at section d
  pub pattern : a.pattern ≡ number_at pattern d
  pub travel : a.travel.items ≡ travel_asked d
