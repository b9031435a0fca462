use Rattle.std.proofs.Common.{option_map, Ok, Err}
use Rattle.field_read.specs.Content.{field_content}
use Rattle.field_file.proofs.Sizes.{traffic-refused}
use Rattle.field_file.proofs.Lines.{parts-told}
use Rattle.field_file.proofs.told.told_in_parts.Goals as goal

pub traffic_of-requires : goal.traffic_of-requires
traffic_of-requires c = record { read = c.requires.read }

pub returns-in-Err : goal.returns-in-Err
returns-in-Err c = λ bytes d reads read writes. traffic-refused c.in-Err.fail (field_content c.args.field) d read c.in-Err.ensures

pub returns-in-Ok-sized : goal.returns-in-Ok-sized
returns-in-Ok-sized c = λ bytes d reads read writes.
    parts-told bytes d (field_content c.args.field) c.in-Ok.traffic c.in-Ok-text_in_parts.text.items (Ok c.in-Ok-sized.text) reads read c.in-Ok.ensures.0 c.in-Ok.ensures.1
    (c.in-Ok-text_in_parts.ensures _ writes) c.in-Ok-sized.ensures

pub returns : goal.returns
returns c = λ bytes d reads read writes.
    parts-told bytes d (field_content c.args.field) c.in-Ok.traffic c.in-Ok-text_in_parts.text.items (Err c.in-Err-sized.fail) reads read c.in-Ok.ensures.0 c.in-Ok.ensures.1
    (c.in-Ok-text_in_parts.ensures _ writes) c.in-Err-sized.ensures
