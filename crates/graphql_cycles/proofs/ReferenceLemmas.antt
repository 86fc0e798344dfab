-- References that are gathered part by part.
use Rattle.std.proofs.Common.{◌≡◌, List, [], ◌∷◌, ◌++◌, flat_map, map, sym, ap, ◌∙◌}
use Rattle.std.proofs.lemmas.Grind.{flat_map-append}
use Rattle.std.proofs.lemmas.List.{append_assoc, flat_map_more, map-append}
use Rattle.graphql_nodes.specs.Names.{NameText}
use Rattle.graphql_specification.specs.DirectiveCycles.{SchemaReference, by_directive, by_type, input_references}
use Rattle.graphql_documents.specs.TypeReferences.{inner_named_type}
use Rattle.graphql_documents.specs.declared.documents.components.Component.{Component}
use Rattle.graphql_documents.specs.declared.documents.definitions.EnumValueDefinition.{EnumValueDefinition}
use Rattle.graphql_documents.specs.declared.documents.definitions.InputValueDefinition.{InputValueDefinition}
use Rattle.graphql_documents.specs.declared.documents.directives.Directive.{Directive}
use Rattle.graphql_nodes.specs.declared.nodes.Node.{Node}

-- the references of a value of an enum
abbrev pub value_references : NameText × Component EnumValueDefinition → List SchemaReference
value_references entry = map by_directive entry.1.node.value.value.directives.items

-- one value more, of which the directives are at hand
pub values_more : (old now next : List SchemaReference) (done : List (NameText × Component EnumValueDefinition)) (x : NameText × Component EnumValueDefinition)
    (held : EnumValueDefinition) (directives : List (Node Directive)) → held ≡ x.1.node.value.value → directives ≡ held.directives.items →
    now ≡ old ++ flat_map value_references done → next ≡ now ++ map by_directive directives → next ≡ old ++ flat_map value_references (done ++ x ∷ [])
values_more old now next done x held directives is are before after =
    after ∙ ap (λ l. l ++ map by_directive directives) before ∙
    ap (λ l. (old ++ flat_map value_references done) ++ map by_directive l) (are ∙ ap (λ (d : EnumValueDefinition). d.directives.items) is) ∙
    flat_map_more value_references old done x

-- one field more
pub fields_more : (old now next : List SchemaReference) (done : List (NameText × Component InputValueDefinition)) (x : NameText × Component InputValueDefinition) →
    now ≡ old ++ input_references (map (λ entry. entry.1.node) done) → next ≡ now ++ input_references (x.1.node ∷ []) →
    next ≡ old ++ input_references (map (λ entry. entry.1.node) (done ++ x ∷ []))
fields_more old now next done x before after =
    let node = λ (entry : NameText × Component InputValueDefinition). entry.1.node in
    let f = λ (d : Node InputValueDefinition). map by_directive d.value.value.directives.items ++ by_type (inner_named_type d.value.value.ty.value.value) ∷ [] in
    after ∙ ap (λ l. l ++ flat_map f (x.1.node ∷ [])) before ∙ append_assoc old (flat_map f (map node done)) (flat_map f (x.1.node ∷ [])) ∙
    ap (λ l. old ++ l) (sym (ap (flat_map f) (map-append node done (x ∷ [])) ∙ flat_map-append f (map node done) (x.1.node ∷ [])))
