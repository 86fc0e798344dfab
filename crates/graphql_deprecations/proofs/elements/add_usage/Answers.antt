use Rattle.std.proofs.Common.{◌∙◌, [], ◌∷◌, ap}
use Rattle.graphql_documents.specs.declared.documents.directives.Directive.{Directive}
use Rattle.graphql_deprecations.specs.Deprecations.{Usage, reason_of}
use Rattle.graphql_deprecations.proofs.AddLemmas.{adds_one, adds_words}
use Rattle.graphql_deprecations.proofs.elements.add_usage.Goals as goal

pub returns : goal.returns
returns c =
    adds_words
    (λ a e.
    e ∙ ap (λ (d : Directive). let u : Usage = record { element = c.args.element; place = c.args.place; reason = reason_of d } in u ∷ []) c.in_ok-deprecation.ensures.cases.same_value)
    (adds_one _ c.in_ok-push.ensures.items)
