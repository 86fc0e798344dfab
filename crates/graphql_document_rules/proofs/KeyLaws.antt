-- Which sets have one response key.
use Rattle.std.proofs.Common.{◌≡◌, Contains, refl, subst, sym}
use Rattle.graphql_documents.specs.Selections.{Fragments, response_key, selections_of}
use Rattle.graphql_documents.specs.declared.documents.executables.Field.{Field}
use Rattle.graphql_documents.specs.declared.documents.executables.Selection.TheVariants as kind
use Rattle.graphql_documents.specs.declared.documents.executables.Selection.{Selection}
use Rattle.graphql_documents.specs.declared.documents.executables.SelectionSet.{SelectionSet}
use Rattle.graphql_documents.specs.declared.documents.schemas.Schema.{Schema}
use Rattle.graphql_documents.proofs.SelectionLemmas.{not_inline, not_spread, same_field}
use Rattle.graphql_nodes.specs.Names.{DifferentNames, NameText, SameName}
use Rattle.graphql_nodes.specs.declared.nodes.Node.{Node}
use Rattle.graphql_nodes.proofs.NameLemmas.{not_both, same_name_back, same_name_itself, same_name_then}
use Rattle.graphql_specification.specs.CollectFields.{CollectedFrom, applies_itself, collected_here, collected_in_inline_fragment, collected_in_spread}
use Rattle.graphql_specification.specs.MergedSets.{key_of}
use Rattle.graphql_specification.specs.Merging.{FieldSelection}
use Rattle.graphql_document_rules.specs.SingleRootField.{HasOneResponseKey}

-- each selection of the set is a field of this key
abbrev AreOfKey : NameText → SelectionSet → Type 0
AreOfKey key set = (s : Selection) → Contains (selections_of set) s → (f : Node Field) × (s ≡ kind.Field f) × SameName (response_key f.value.value) key

of_key : {schema : Schema} {fragments : Fragments} {object : NameText} {set : SelectionSet} {x : FieldSelection} (key : NameText) → AreOfKey key set →
    CollectedFrom schema fragments object set x → SameName (key_of x) key
of_key key are (collected_here {x = x} applies stands is) =
    let h = are (kind.Field x.field) stands in
    subst (λ (f : Node Field). SameName (response_key f.value.value) key) (sym (same_field h.0 x.field h.1)) h.2
of_key key are (collected_in_inline_fragment {i = i} applies stands condition more) = let h = are (kind.InlineFragment i) stands in absurd (not_inline h.0 i h.1)
of_key key are (collected_in_spread {p = p} applies stands found more) = let h = are (kind.FragmentSpread p) stands in absurd (not_spread h.0 p h.1)

pub one_key_alone : (schema : Schema) (fragments : Fragments) (set : SelectionSet) (key : NameText) → AreOfKey key set → HasOneResponseKey schema fragments set
one_key_alone schema fragments set key are x y from_x from_y =
    same_name_then (key_of x) key (key_of y) (of_key key are from_x) (same_name_back (key_of y) key (of_key key are from_y))

collected_itself : (schema : Schema) (fragments : Fragments) (set : SelectionSet) (f : Node Field) → Contains (selections_of set) (kind.Field f) →
    CollectedFrom schema fragments set.ty set (record { parent = set.ty; field = f })
collected_itself schema fragments set f stands = collected_here (applies_itself (same_name_itself set.ty)) stands refl

pub two_keys : (schema : Schema) (fragments : Fragments) (set : SelectionSet) (a b : Node Field) → Contains (selections_of set) (kind.Field a) → Contains (selections_of set) (kind.Field b) →
    DifferentNames (response_key a.value.value) (response_key b.value.value) → ¬ HasOneResponseKey schema fragments set
two_keys schema fragments set a b in_a in_b differ one =
    not_both (response_key a.value.value) (response_key b.value.value)
    (one (record { parent = set.ty; field = a }) (record { parent = set.ty; field = b }) (collected_itself schema fragments set a in_a) (collected_itself schema fragments set b in_b)) differ
