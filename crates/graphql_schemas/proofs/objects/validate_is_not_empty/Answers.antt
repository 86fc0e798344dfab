use Rattle.std.proofs.Common.{◌≡◌, false, true, List, [], map, refl, subst, ap, ◌∙◌, rules}
use Rattle.std.specs.Prelude.{◌≢◌}
use Rattle.graphql_documents.specs.Extensions.{extension_locations}
use Rattle.graphql_specification.specs.Types.{has_no_fields}
use Rattle.graphql_documents.specs.declared.documents.components.ExtensionId.{ExtensionId}
use Rattle.graphql_documents.specs.declared.documents.schemas.ExtendedType.TheVariants as types
use Rattle.graphql_documents.specs.declared.documents.schemas.ObjectType.{ObjectType}
use Rattle.graphql_diagnostics.proofs.ReportLemmas.{checks-push, holds}
use Rattle.graphql_schemas.proofs.TypeLemmas.{is_bare, is_filled}
use Rattle.graphql_schemas.proofs.objects.validate_is_not_empty.Goals as goal

pub returns-then-not-is_empty : goal.returns-then-not-is_empty
returns-then-not-is_empty c = λ schema.
    let filled : c.is_empty.result ≡ false = search rules in
    holds _ _ _ (subst (λ (t : ObjectType). t.fields.entries ≢ []) c.deref.ensures (is_filled c.deref.result.now.fields.entries c.is_empty.result c.is_empty.ensures filled))

pub returns : goal.returns
returns c = λ schema.
    let d = c.args.object.now in
    let empty : c.is_empty.result ≡ true = search rules in
    let bare : d.value.value.fields.entries ≡ [] =
    subst (λ (t : ObjectType). t.fields.entries ≡ []) c.deref.ensures (is_bare c.deref.result.now.fields.entries c.is_empty.result c.is_empty.ensures empty) in
    let places : c.in_ok-extensions_locations.extensions_locations.items ≡ extension_locations (types.Object d) =
    c.in_ok-extensions_locations.ensures ∙ ap (λ (l : List ExtensionId). map (λ x. x.location) l) (c.deref-3.ensures.value ∙ c.in_ok-extensions.ensures) in
    let named : c.in_ok-type_name.type_name ≡ d.value.value.name = search rules in
    checks-push _ _ _ _ _ _ c.push.ensures.ok c.push.ensures.err (λ full. full bare)
    (has_no_fields {d = types.Object d} refl bare (named, refl, places, refl))
