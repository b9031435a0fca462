use Rattle.std.proofs.Common.{option_map, Ok, Err}
use Rattle.serde_json.specs.Data.{Data}
use Rattle.serde_json.specs.View.{view}
use Rattle.field_read.specs.Content.{field_content}
use Rattle.field_file.specs.Written.{result_of}
use Rattle.field_file.specs.Texts.{IsTextOf}
use Rattle.field_file.proofs.Sizes.{names-clean, text-same, traffic-refused, traffic-fits, whole-text, text-told}
use Rattle.field_file.proofs.told.told_of.Goals as goal

pub traffic_of-requires : goal.traffic_of-requires
traffic_of-requires c = record { read = (view c.args.value, c.requires.read) }

pub returns-in-Err : goal.returns-in-Err
returns-in-Err c = traffic-refused c.in-Err.fail (field_content c.args.field) (view c.args.value) c.requires.read c.in-Err.ensures

pub returns-in-Ok-sized : goal.returns-in-Ok-sized
returns-in-Ok-sized c =
    let d : Data = view c.args.value in
    let f = field_content c.args.field in
    let read = c.requires.read in
    let traffic = c.in-Ok.ensures.1 in
    let text = c.in-Ok-traffic_text.text.items in
    let fits = traffic-fits f d read c.in-Ok.ensures.0 in
    let is : IsTextOf text (result_of d) =
    text-same f d text read.said c.in-Ok.traffic.calls.items traffic.calls (option_map (λ v. v.items) c.in-Ok.traffic.schedule) traffic.schedule c.in-Ok-traffic_text.ensures (names-clean d read.clean) in
    text-told d text (Ok c.in-Ok-sized.text) c.requires.nests fits is (whole-text d text c.requires.sorted fits is) c.in-Ok-sized.ensures

pub returns : goal.returns
returns c =
    let d : Data = view c.args.value in
    let f = field_content c.args.field in
    let read = c.requires.read in
    let traffic = c.in-Ok.ensures.1 in
    let text = c.in-Ok-traffic_text.text.items in
    let fits = traffic-fits f d read c.in-Ok.ensures.0 in
    let is : IsTextOf text (result_of d) =
    text-same f d text read.said c.in-Ok.traffic.calls.items traffic.calls (option_map (λ v. v.items) c.in-Ok.traffic.schedule) traffic.schedule c.in-Ok-traffic_text.ensures (names-clean d read.clean) in
    text-told d text (Err c.in-Err-sized.fail) c.requires.nests fits is (whole-text d text c.requires.sorted fits is) c.in-Err-sized.ensures
