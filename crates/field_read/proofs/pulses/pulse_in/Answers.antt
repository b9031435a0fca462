use Rattle.std.proofs.Common.{◌≡◌, [], ◌∷◌, refl}
use Rattle.serde_json.specs.View.{view}
use Rattle.scenario_read.specs.Fields.{fields_faults, object_of}
use Rattle.scenario_read.specs.Table.{round, cabinet_number, on}
use Rattle.field_read.specs.declared.place.Place.TheVariants.{Pulse}
use Rattle.field_read.specs.Table.{detector, pulse_shape}
use Rattle.field_read.specs.Content.{pulse_of}
use Rattle.field_read.specs.Places.{steps_of}
use Rattle.field_read.proofs.Behind.{clean-next, refused-at, answered}
use Rattle.field_read.proofs.pulses.pulse_in.Goals as goal

pub returns-in_err-cabinet : goal.returns-in_err-cabinet
returns-in_err-cabinet c =
    let r = c.args.rounds in
    let n = c.args.cabinets in
    let path = steps_of (Pulse c.args.place) in
    let d = view c.args.object.now in
    let fail = c.in_err-cabinet.field-0.0 in
    let clean : fields_faults path d (round r ∷ []) ≡ [] = clean-next path d (round r) [] c.in_ok-round.ensures.read.0 refl in
    answered c.from_residual-in_err-cabinet.result fail (object_of (pulse_shape r n) path d) (λ x. x ≡ pulse_of r n d) c.from_residual-in_err-cabinet.ensures.1
    (refused-at fail (pulse_shape r n) path d (round r ∷ []) (detector ∷ on ∷ []) (cabinet_number n) refl c.in_ok-known_names.ensures.0 clean c.in_err-cabinet.ensures.read)

pub returns-in_err-detector : goal.returns-in_err-detector
returns-in_err-detector c =
    let r = c.args.rounds in
    let n = c.args.cabinets in
    let path = steps_of (Pulse c.args.place) in
    let d = view c.args.object.now in
    let fail = c.in_err-detector.field-0.0 in
    let second : fields_faults path d (cabinet_number n ∷ []) ≡ [] = clean-next path d (cabinet_number n) [] c.in_ok-cabinet.ensures.read.0 refl in
    let clean : fields_faults path d (round r ∷ cabinet_number n ∷ []) ≡ [] =
    clean-next path d (round r) (cabinet_number n ∷ []) c.in_ok-round.ensures.read.0 second in
    answered c.from_residual-in_err-detector.result fail (object_of (pulse_shape r n) path d) (λ x. x ≡ pulse_of r n d) c.from_residual-in_err-detector.ensures.1
    (refused-at fail (pulse_shape r n) path d (round r ∷ cabinet_number n ∷ []) (on ∷ []) detector refl c.in_ok-known_names.ensures.0 clean c.in_err-detector.ensures.read)
