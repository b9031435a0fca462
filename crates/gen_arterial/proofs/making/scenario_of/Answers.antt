use Rattle.std.proofs.Common.{◌≡◌, List, map, refl, ap, ◌∙◌}
use Rattle.scenario_data.specs.declared.scenario.FrameItem.{FrameItem}
use Rattle.scenario_data.specs.Content.{ScenarioContent, frame_content}
use Rattle.gen_arterial.specs.declared.drawing.Setup.{Setup}
use Rattle.gen_arterial.specs.Drawing.{setup_made, setup_cabinet, setup_load}
use Rattle.gen_arterial.proofs.Lists.{below-map}
use Rattle.gen_arterial.proofs.making.scenario_of.Goals as goal

content-same : (s g : ScenarioContent) → s.version ≡ g.version → s.rounds ≡ g.rounds → s.ticks ≡ g.ticks → s.community ≡ g.community → s.cabinets ≡ g.cabinets → s.master ≡ g.master
    → s.inputs ≡ g.inputs → s.loads ≡ g.loads → s.priority ≡ g.priority → s.frames ≡ g.frames → s.faults ≡ g.faults → s.compact ≡ g.compact → s ≡ g
content-same s g a b c d e f h i j k l m =
    let p : record {
      version = s.version;
      rounds = s.rounds;
      ticks = s.ticks;
      community = s.community;
      cabinets = s.cabinets;
      master = s.master;
      inputs = s.inputs;
      loads = s.loads;
      priority = s.priority;
      frames = s.frames;
      faults = s.faults;
      compact = s.compact;
    } ≡ g = rw (a, b, c, d, e, f, h, i, j, k, l, m) refl in
    p

pub returns-clause-content : goal.returns-clause-content
returns-clause-content c = λ seed cabinets drawn text. content-same _ _ refl refl refl c.usual_community.ensures
    (c.in-Ok.ensures ∙ ap (λ (ss : List Setup). map setup_cabinet ss) (c.as_slice.ensures.value ∙ drawn.setups) ∙ below-map (setup_made seed c.args.rounds) setup_cabinet cabinets)
    c.in-Ok-master_of.ensures drawn.happens.inputs
    (c.in-Ok-loads_of.ensures ∙ ap (λ (ss : List Setup). map setup_load ss) (c.as_slice-2.ensures.value ∙ drawn.setups) ∙ below-map (setup_made seed c.args.rounds) setup_load cabinets)
    c.new.ensures.items (ap (λ (fs : List FrameItem). map frame_content fs) c.new-2.ensures.items) drawn.happens.faults text
