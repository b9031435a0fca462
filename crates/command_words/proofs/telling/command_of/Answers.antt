use Rattle.std.proofs.Common.{◌≡◌, ◌↔◌, List, Some, None, map, string_bytes, subst}
use Rattle.command_words.specs.declared.command.Command.{Command}
use Rattle.command_words.specs.declared.command.Command.TheVariants.{Run, Generate, Survey, Overlaps, Judge}
use Rattle.command_words.specs.Words.{AskFor, IsRun, IsGenerate, IsSurvey, IsOverlaps, IsJudge}
use Rattle.command_words.proofs.OneCommand.{its_command, no_command, not_found, not_lone}
use Rattle.command_words.proofs.telling.command_of.Goals as goal

pub returns-in-Some : goal.returns-in-Some
returns-in-Some c =
    its_command _ (Run c.in-Some.workers)
    (subst (λ (ws : List _). AskFor (map string_bytes ws) (Run c.in-Some.workers)) c.as_slice-words.ensures.value ((c.run_workers.ensures c.in-Some.workers).0 c.in-Some.is))

pub returns-in-Some-seeding_of : goal.returns-in-Some-seeding_of
returns-in-Some-seeding_of c =
    let from = c.in-Some-seeding_of.from in
    its_command _ (Generate from)
    (subst (λ (ws : List _). AskFor (map string_bytes ws) (Generate from)) c.as_slice-words.ensures.value ((c.seeding_of.ensures from).0 c.in-Some-seeding_of.is))

pub returns-in-Some-seeding_of-2 : goal.returns-in-Some-seeding_of-2
returns-in-Some-seeding_of-2 c =
    let from = c.in-Some-seeding_of-2.from in
    its_command _ (Survey from)
    (subst (λ (ws : List _). AskFor (map string_bytes ws) (Survey from)) c.as_slice-words.ensures.value ((c.seeding_of-2.ensures from).0 c.in-Some-seeding_of-2.is))

pub returns-in-Some-overlap_of : goal.returns-in-Some-overlap_of
returns-in-Some-overlap_of c =
    let overlap = c.in-Some-overlap_of.overlap in
    its_command _ (Overlaps overlap)
    (subst (λ (ws : List _). AskFor (map string_bytes ws) (Overlaps overlap)) c.as_slice-words.ensures.value ((c.overlap_of.ensures overlap).0 c.in-Some-overlap_of.is))

pub returns-in-Some-terms_of : goal.returns-in-Some-terms_of
returns-in-Some-terms_of c =
    let terms = c.in-Some-terms_of.terms in
    its_command _ (Judge terms)
    (subst (λ (ws : List _). AskFor (map string_bytes ws) (Judge terms)) c.as_slice-words.ensures.value ((c.terms_of.ensures terms).0 c.in-Some-terms_of.is))

pub returns-else-is_lone-6 : goal.returns-else-is_lone-6
returns-else-is_lone-6 c =
    let texts = map string_bytes c.as_slice-words.result.now in
    subst (λ (ws : List _). (d : Command) → (None ≡ Some d) ↔ AskFor (map string_bytes ws) d) c.as_slice-words.ensures.value
    (no_command texts (not_found (IsRun texts) _ c.in_default.is c.run_workers.ensures) (not_lone texts _ _ c.is_lone.ensures c.if-is_lone.false)
    (not_found (IsGenerate texts) _ c.in_default-seeding_of.is c.seeding_of.ensures) (not_found (IsSurvey texts) _ c.in_default-seeding_of-2.is c.seeding_of-2.ensures)
    (not_lone texts _ _ c.is_lone-else-is_lone.ensures c.if-is_lone-2.false) (not_lone texts _ _ c.is_lone-else-is_lone-2.ensures c.if-is_lone-3.false)
    (not_found (IsOverlaps texts) _ c.in_default-overlap_of.is c.overlap_of.ensures) (not_lone texts _ _ c.is_lone-else-is_lone-3.ensures c.if-is_lone-4.false)
    (not_found (IsJudge texts) _ c.in_default-terms_of.is c.terms_of.ensures) (not_lone texts _ _ c.is_lone-else-is_lone-4.ensures c.if-is_lone-5.false)
    (not_lone texts _ _ c.is_lone-else-is_lone-5.ensures c.if-is_lone-6.false))
