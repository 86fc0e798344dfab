use Rattle.std.proofs.Common.{◌≡◌, Some, refl, sym, ap, ◌∙◌}
use Rattle.std.specs.Prelude.{codes}
use Rattle.graphql_documents.specs.Directives.{argument_value}
use Rattle.graphql_documents.specs.declared.documents.directives.Directive.{Directive}
use Rattle.graphql_operations.specs.DeferLabels.{label_of}
use Rattle.graphql_operations.proofs.DeferLabelLemmas.{passed_other, passed_unlabelled, reported_variable}
use Rattle.graphql_operations.proofs.defer.labels.check_label.Goals as goal

pub returns-in_default : goal.returns-in_default
returns-in_default c = λ document passed after visited later first are_all are_visited so_far.
    passed_unlabelled so_far c.args.application.now
    (ap (λ (d : Directive). argument_value (codes "label") d) (sym c.deref.ensures) ∙ sym c.in_default.ensures)

pub returns-in-Variable : goal.returns-in-Variable
returns-in-Variable c = λ document passed after visited later first are_all are_visited so_far.
    let labelled : label_of c.args.application.now ≡ Some c.in-Some.label.now =
    ap (λ (d : Directive). argument_value (codes "label") d) (sym c.deref.ensures) ∙ sym c.in-Some.ensures in
    reported_variable so_far c.args.application.now c.in-Some.label.now labelled c.push.result c.in-Variable.field-0
    (sym c.deref-2.ensures ∙ c.in-Variable.is) after are_all _ c.push.ensures.ok c.push.ensures.err

pub returns-in-String : goal.returns-in-String
returns-in-String c = λ document passed after visited later first are_all are_visited so_far.
    let labelled : label_of c.args.application.now ≡ Some c.in-Some.label.now =
    ap (λ (d : Directive). argument_value (codes "label") d) (sym c.deref.ensures) ∙ sym c.in-Some.ensures in
    c.check_text.ensures c.args.application.now c.in-Some.label.now labelled (sym c.deref-2.ensures ∙ c.in-String.is) refl document passed after visited later first are_all are_visited so_far

pub returns-in_default-deref : goal.returns-in_default-deref
returns-in_default-deref c = λ document passed after visited later first are_all are_visited so_far.
    let labelled : label_of c.args.application.now ≡ Some c.in-Some.label.now =
    ap (λ (d : Directive). argument_value (codes "label") d) (sym c.deref.ensures) ∙ sym c.in-Some.ensures in
    passed_other so_far c.args.application.now c.in-Some.label.now labelled
    (λ name is. c.in_default-deref.not-Variable name (c.deref-2.ensures ∙ is)) (λ s is. c.in_default-deref.not-String s (c.deref-2.ensures ∙ is))
