use Rattle.std.proofs.Common.{◌≡◌, ◌∷◌, ap, ◌∙◌}
use Rattle.json.specs.Token.{Token}
use Rattle.json.specs.Reads.{token_of}
use Rattle.scenario_file.proofs.Right.{read-here}
use Rattle.scenario_file.proofs.source.scenario_at.Goals as goal

pub source_of-requires : goal.source_of-requires
source_of-requires c =
    let found = c.in_ok-whole.ensures in
    let first : c.args.reader.now ≡ Token.begin_object ∷ c.next.new.self = c.in-Some-BeginObject.ensures.value ∙ ap (λ k. token_of k ∷ c.next.new.self) c.in-Some-BeginObject.field-0-is in
    record { read = (_, (read-here c.args.reader.now c.next.new.self c.members_of.new.reader c.in_ok-whole.whole found.ok.0 first found.ok.1 found.ok.2 found.sorted).1) }

pub returns-in-Some-clause-ok : goal.returns-in-Some-clause-ok
returns-in-Some-clause-ok c =
    let found = c.in_ok-whole.ensures in
    let first : c.args.reader.now ≡ Token.begin_object ∷ c.next.new.self = c.in-Some-BeginObject.ensures.value ∙ ap (λ k. token_of k ∷ c.next.new.self) c.in-Some-BeginObject.field-0-is in
    let read = read-here c.args.reader.now c.next.new.self c.members_of.new.reader c.in_ok-whole.whole found.ok.0 first found.ok.1 found.ok.2 found.sorted in
    let source = c.in-Some.ensures.source _ read.1 in
    (_, read.0, source.faultless, source.said, source.writes)

pub returns-in-Some-clause-reads_back : goal.returns-in-Some-clause-reads_back
returns-in-Some-clause-reads_back c =
    let found = c.in_ok-whole.ensures in
    let first : c.args.reader.now ≡ Token.begin_object ∷ c.next.new.self = c.in-Some-BeginObject.ensures.value ∙ ap (λ k. token_of k ∷ c.next.new.self) c.in-Some-BeginObject.field-0-is in
    let read = read-here c.args.reader.now c.next.new.self c.members_of.new.reader c.in_ok-whole.whole found.ok.0 first found.ok.1 found.ok.2 found.sorted in
    let source = c.in-Some.ensures.source _ read.1 in
    (_, source.back, source.faultless, source.said)
