use Rattle.std.proofs.Common.{rules, ◌≡◌, length, map, sym, ap, ◌∙◌, subst}
use Rattle.std.proofs.lemmas.List.{length-map}
use Rattle.serde_json.specs.Data.{array}
use Rattle.serde_json.specs.Events.{items_len}
use Rattle.scenario_data.specs.Content.{cabinet_content}
use Rattle.scenario_read.specs.Content.{cabinet_of}
use Rattle.scenario_read.proofs.Walks.{each_of-len}
use Rattle.scenario_file.specs.declared.found.Found.{Found}
use Rattle.scenario_file.specs.declared.found.Found.TheVariants.{Cabinets}
use Rattle.scenario_file.specs.Growing.{blanks}
use Rattle.scenario_file.specs.Listing.{Holds, ToldCabinets, name_of}
use Rattle.scenario_file.specs.Framing.{stand_in}
use Rattle.scenario_file.proofs.found.stand_in.Goals as goal

pub returns-in-Some : goal.returns-in-Some
returns-in-Some c = λ ds holds.
    let items = c.in-Cabinets.cabinets.items in
    let is : c.args.found.now ≡ Cabinets c.in-Cabinets.cabinets = c.in-Cabinets.is in
    let told : ToldCabinets (map cabinet_content items) ds = subst (λ (f : Found). Holds f ds) is holds in
    let counted : c.len.result ≡ length items = search rules in
    let count : c.len.result ≡ items_len ds = counted ∙ sym (length-map items cabinet_content) ∙ ap length told.said ∙ each_of-len (cabinet_of 2) ds in
    c.in-Some.ensures ∙ ap (λ n. array (blanks n)) count ∙ ap (λ (f : Found). stand_in (name_of f) ds) (sym is)
