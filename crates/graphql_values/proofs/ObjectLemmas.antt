-- The entries of an object value and the fields of its input object.
use Rattle.std.proofs.Common.{◌≡◌, ℕ, ◌+◌, ◌<◌, ◌≤◌, List, ◌∷◌, length, get_or, take, drop, refl, sym, ◌∙◌, subst, All}
use Rattle.std.proofs.lemmas.List.{take_all}
use Rattle.std.proofs.lemmas.List.Elements.{All-head}
use Rattle.graphql_diagnostics.specs.Reports.{Reports}
use Rattle.graphql_diagnostics.proofs.ReportLemmas.{holds}
use Rattle.graphql_documents.proofs.ListLemmas.{All-append_right}
use Rattle.graphql_specification.specs.Values.{IsInputField, HasUnknownEntry}
use Rattle.graphql_nodes.specs.Names.{NameText}
use Rattle.graphql_documents.specs.Schemas.{IsInputObject}
use Rattle.graphql_documents.specs.TypeReferences.{inner_named_type}
use Rattle.graphql_nodes.specs.declared.nodes.Node.{Node}
use Rattle.graphql_documents.specs.declared.documents.schemas.InputObjectType.{InputObjectType}
use Rattle.graphql_documents.specs.declared.documents.schemas.Schema.{Schema}
use Rattle.graphql_documents.specs.declared.documents.type_references.Type.{«Type»}
use Rattle.graphql_documents.specs.declared.documents.values.Value.{Value}
use Rattle.graphql_values.specs.ValueSteps.{HasEntries}
use Rattle.graphql_variables.proofs.SplitLemmas.{split_at}

-- the first unknown entry
module _ (o : Node InputObjectType) (given : List (NameText × Node Value)) (i : ℕ) (entry : NameText × Node Value)
    (within : i < length given) (item : entry ≡ get_or given i entry) (unknown : ¬ IsInputField o.value.value entry.0) where
  pub not_all_known : ¬ All (λ e. IsInputField o.value.value e.0) given
  not_all_known all = unknown (All-head (λ e. IsInputField o.value.value e.0) entry (drop (i + 1) given)
      (All-append_right (λ e. IsInputField o.value.value e.0) (take i given) (entry ∷ drop (i + 1) given)
      (subst (All (λ e. IsInputField o.value.value e.0)) (split_at given i entry within item) all)))

  pub unknown_entry : (schema : Schema) (ty : «Type») (value : Node Value) → IsInputObject schema (inner_named_type ty) o →
      HasEntries value.value.value given → All (λ e. IsInputField o.value.value e.0) (take i given) →
      (name definition_name : NameText) → name ≡ entry.0 → definition_name ≡ o.value.value.name →
      HasUnknownEntry schema ty value name definition_name o.location entry.1.location
  unknown_entry schema ty value is has known name definition_name name_is definition_name_is =
      subst (λ n. HasUnknownEntry schema ty value n definition_name o.location entry.1.location) (sym name_is) (record {
        definition = o;
        entries = has.entries;
        before = take i given;
        entry = entry.1;
        after = drop (i + 1) given;
        defined = is;
        is_object = has.is_object;
        split = sym has.given_is ∙ split_at given i entry within item;
        known_before = known;
        unknown = unknown;
        definition_name_is = definition_name_is;
        definition_location_is = refl;
        at_is = refl;
      })

-- all were passed over, and nothing was reported
pub none_reported : {Entry X : Type 0} (P : X → Type 0) (Q : Entry → Type 0) (xs : List X) (i : ℕ) (old new : List Entry) →
    new ≡ old → length xs ≤ i → All P (take i xs) → Reports (All P xs) Q old new
none_reported P Q xs i old new same past all =
    subst (Reports (All P xs) Q old) (sym same) (holds Q (All P xs) old (subst (All P) (take_all i xs past) all))
