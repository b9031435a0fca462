use Rattle.std.proofs.Common.{◌≡◌, [], ◌∷◌, refl}
use Rattle.serde_json.specs.View.{view}
use Rattle.scenario_read.specs.Fields.{fields_faults, object_of}
use Rattle.scenario_read.specs.Table.{cabinet_number, phase}
use Rattle.field_read.specs.declared.place.Place.TheVariants.{Detector}
use Rattle.field_read.specs.Table.{detector, delay, extend, no_activity, max_presence, erratic, detector_shape}
use Rattle.field_read.specs.Content.{detector_of}
use Rattle.field_read.specs.Places.{steps_of}
use Rattle.field_read.proofs.Behind.{clean-next, refused-at, answered}
use Rattle.field_read.proofs.bank.detector_in.Goals as goal

pub returns-in_err-detector : goal.returns-in_err-detector
returns-in_err-detector c =
    let n = c.args.cabinets in
    let path = steps_of (Detector c.args.place) in
    let d = view c.args.object.now in
    let fail = c.in_err-detector.field-0.0 in
    let clean : fields_faults path d (cabinet_number n ∷ []) ≡ [] = clean-next path d (cabinet_number n) [] c.in_ok-cabinet.ensures.read.0 refl in
    answered c.from_residual-in_err-detector.result fail (object_of (detector_shape n) path d) (λ x. x ≡ detector_of n d) c.from_residual-in_err-detector.ensures.1
    (refused-at fail (detector_shape n) path d (cabinet_number n ∷ []) (phase ∷ delay ∷ extend ∷ no_activity ∷ max_presence ∷ erratic ∷ []) detector refl
    c.in_ok-known_names.ensures.0 clean c.in_err-detector.ensures.read)

pub returns-in_err-delay : goal.returns-in_err-delay
returns-in_err-delay c =
    let n = c.args.cabinets in
    let path = steps_of (Detector c.args.place) in
    let d = view c.args.object.now in
    let fail = c.in_err-delay.field-0.0 in
    let third : fields_faults path d (phase ∷ []) ≡ [] = clean-next path d phase [] c.in_ok-phase.ensures.read.0 refl in
    let second : fields_faults path d (detector ∷ phase ∷ []) ≡ [] = clean-next path d detector (phase ∷ []) c.in_ok-detector.ensures.read.0 third in
    let clean : fields_faults path d (cabinet_number n ∷ detector ∷ phase ∷ []) ≡ [] =
    clean-next path d (cabinet_number n) (detector ∷ phase ∷ []) c.in_ok-cabinet.ensures.read.0 second in
    answered c.from_residual-in_err-delay.result fail (object_of (detector_shape n) path d) (λ x. x ≡ detector_of n d) c.from_residual-in_err-delay.ensures.1
    (refused-at fail (detector_shape n) path d (cabinet_number n ∷ detector ∷ phase ∷ []) (extend ∷ no_activity ∷ max_presence ∷ erratic ∷ []) delay refl
    c.in_ok-known_names.ensures.0 clean c.in_err-delay.ensures.read)

pub returns-in_err-no_activity : goal.returns-in_err-no_activity
returns-in_err-no_activity c =
    let n = c.args.cabinets in
    let path = steps_of (Detector c.args.place) in
    let d = view c.args.object.now in
    let fail = c.in_err-no_activity.field-0.0 in
    let fifth : fields_faults path d (extend ∷ []) ≡ [] = clean-next path d extend [] c.in_ok-extend.ensures.read.0 refl in
    let fourth : fields_faults path d (delay ∷ extend ∷ []) ≡ [] = clean-next path d delay (extend ∷ []) c.in_ok-delay.ensures.read.0 fifth in
    let third : fields_faults path d (phase ∷ delay ∷ extend ∷ []) ≡ [] = clean-next path d phase (delay ∷ extend ∷ []) c.in_ok-phase.ensures.read.0 fourth in
    let second : fields_faults path d (detector ∷ phase ∷ delay ∷ extend ∷ []) ≡ [] =
    clean-next path d detector (phase ∷ delay ∷ extend ∷ []) c.in_ok-detector.ensures.read.0 third in
    let clean : fields_faults path d (cabinet_number n ∷ detector ∷ phase ∷ delay ∷ extend ∷ []) ≡ [] =
    clean-next path d (cabinet_number n) (detector ∷ phase ∷ delay ∷ extend ∷ []) c.in_ok-cabinet.ensures.read.0 second in
    answered c.from_residual-in_err-no_activity.result fail (object_of (detector_shape n) path d) (λ x. x ≡ detector_of n d) c.from_residual-in_err-no_activity.ensures.1
    (refused-at fail (detector_shape n) path d (cabinet_number n ∷ detector ∷ phase ∷ delay ∷ extend ∷ []) (max_presence ∷ erratic ∷ []) no_activity refl
    c.in_ok-known_names.ensures.0 clean c.in_err-no_activity.ensures.read)
