-- What the search from the arguments of the definition says of it.
use Rattle.std.proofs.Common.{◌≡◌, map, ap, ◌∙◌, subst}
use Rattle.std.proofs.lemmas.Result.{MatchResult-weaker}
use Rattle.graphql_specification.specs.DirectiveCycles.{directive_part, references_of}
use Rattle.graphql_documents.specs.declared.documents.definitions.DirectiveDefinition.{DirectiveDefinition}
use Rattle.graphql_cycles.proofs.DirectiveSearchRootLemmas.{begins_at_root, closes_from_root, stops_from_root}
use Rattle.graphql_cycles.specs.DirectiveSearches.{IsBeginning}
use Rattle.graphql_cycles.specs.References.{reference_of}
use Rattle.graphql_cycles.proofs.directives.search_from.Goals as goal

pub search_references-requires : goal.search_references-requires
search_references-requires c =
    let begins = subst (λ (d : DirectiveDefinition). IsBeginning d.name c.in-Ok-from_root.progress) c.deref.ensures c.in-Ok-from_root.ensures in
    begins_at_root _ _ begins.directives begins.directive_limit begins.types

pub returns : goal.returns
returns c =
    let schema = c.args.schema.now in
    let d = c.args.definition.now in
    let old = c.in-Ok-from_root.progress in
    let references = map reference_of c.deref-2.result.now in
    let begins = subst (λ (d : DirectiveDefinition). IsBeginning d.name old) c.deref.ensures c.in-Ok-from_root.ensures in
    let same : references ≡ references_of (directive_part d) = ap (map reference_of) c.deref-2.ensures.value ∙ c.in-Ok.ensures in
    MatchResult-weaker c.search_references.result c.search_references.ensures.searches
    (λ x closes. closes_from_root schema d references old c.search_references.new.progress same begins closes)
    (stops_from_root schema d references old same begins)
