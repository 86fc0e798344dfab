use Rattle.std.proofs.Common.{◌≡◌, ◌∷◌, map, subst}
use Rattle.std.proofs.lemmas.List.{take_all}
use Rattle.std.proofs.lemmas.List.Elements.{Contains-get_or}
use Rattle.graphql_report_formats.specs.NamedTexts.{named_text}
use Rattle.graphql_answers.specs.Files.{IsRefusalOfFiles, built_in_text, is_of_file, lacks_memory, texts_from}
use Rattle.graphql_answers.proofs.AnswerLemmas.{handed_on}
use Rattle.graphql_answers.proofs.FileLemmas.{one_more}
use Rattle.graphql_answers.proofs.files.named_texts.Goals as goal

pub loop-place-preserved : goal.loop-place-preserved
loop-place-preserved c =
    one_more c.args.files.now c.loop-place.place _ built_in_text c.loop-place.texts.items c.push-in-loop-place.new.self.items c.in_ok-text.text
    c.loop-place-test.true c.loop-place.invariant c.in_ok-text.ensures.text c.in_ok-push-2.ensures.items

pub returns-clause-texts : goal.returns-clause-texts
returns-clause-texts c =
    subst (λ l. map named_text c.loop-place.texts.items ≡ built_in_text ∷ texts_from 0 l) (take_all c.loop-place.place c.args.files.now c.loop-place-test.false) c.loop-place.invariant

pub returns-in_err-text-clause-refused : goal.returns-in_err-text-clause-refused
returns-in_err-text-clause-refused c =
    handed_on c.from_residual-in_err-text.result _ (IsRefusalOfFiles c.args.files.now) c.from_residual-in_err-text.ensures.1
    (is_of_file _ (Contains-get_or c.args.files.now c.loop-place.place _ c.loop-place-test.true) c.in_err-text.ensures.refused)

pub returns-in_err-push-clause-refused : goal.returns-in_err-push-clause-refused
returns-in_err-push-clause-refused c = handed_on c.from_residual.result _ (IsRefusalOfFiles c.args.files.now) c.from_residual.ensures.1 lacks_memory

pub returns-in_err-push-2-clause-refused : goal.returns-in_err-push-2-clause-refused
returns-in_err-push-2-clause-refused c = handed_on c.from_residual-in_err-push-2.result _ (IsRefusalOfFiles c.args.files.now) c.from_residual-in_err-push-2.ensures.1 lacks_memory
