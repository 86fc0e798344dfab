-- The object values of each selection that an operation reaches give each input field once, if those of the document do. Specification: 5.6.3 Input
-- Object Field Uniqueness.
use Rattle.std.proofs.Common.{◌≡◌, inl, inr, Some}
use Rattle.std.specs.Prelude.{Contains}
use Rattle.indexmap.specs.IndexMap.{values}
use Rattle.graphql_nodes.specs.Names.{NameText, same_name}
use Rattle.graphql_nodes.specs.declared.nodes.Node.{Node}
use Rattle.graphql_documents.proofs.ListLemmas.{stands_mapped}
use Rattle.graphql_documents.specs.Executables.{operations_of}
use Rattle.graphql_documents.specs.Selections.{Includes, Reachable, Written, fragments_of, includes_inline_fragment, includes_itself, includes_spread, reachable_below, reachable_inside, selections_of, set_in_field, set_in_inline_fragment, set_itself}
use Rattle.graphql_documents.specs.declared.documents.executables.ExecutableDocument.{ExecutableDocument}
use Rattle.graphql_documents.specs.declared.documents.executables.Field.{Field}
use Rattle.graphql_documents.specs.declared.documents.executables.Fragment.{Fragment}
use Rattle.graphql_documents.specs.declared.documents.executables.InlineFragment.{InlineFragment}
use Rattle.graphql_documents.specs.declared.documents.executables.Operation.{Operation}
use Rattle.graphql_documents.specs.declared.documents.executables.Selection.{Selection}
use Rattle.graphql_documents.specs.declared.documents.executables.Selection.TheVariants as kind
use Rattle.graphql_documents.specs.declared.documents.executables.SelectionSet.{SelectionSet}
use Rattle.graphql_input_rules.specs.InputFields.{FieldsAreUnique, InputFieldsAreUnique}
use Rattle.graphql_input_rules.specs.ValuesWritten.{InDirectives, WritesItself}
use Rattle.graphql_kept_rules.proofs.FoundLemmas.{entry_in}

abbrev pub IsDistinctSet : SelectionSet → Type 0
IsDistinctSet set = (s : Selection) → Written set s → FieldsAreUnique (WritesItself s)

below_field : (set : SelectionSet) (f : Node Field) → Contains (selections_of set) (kind.Field f) → IsDistinctSet set → IsDistinctSet f.value.value.selection_set
below_field set f c h s w = h s (w.0, set_in_field c w.1, w.2)

below_inline : (set : SelectionSet) (i : Node InlineFragment) → Contains (selections_of set) (kind.InlineFragment i) → IsDistinctSet set → IsDistinctSet i.value.value.selection_set
below_inline set i c h s w = h s (w.0, set_in_inline_fragment c w.1, w.2)

module _ (d : ExecutableDocument) (unique : InputFieldsAreUnique d) where
  pub operation_distinct : (o : Node Operation) → Contains (operations_of d) o → IsDistinctSet o.value.value.selection_set
  operation_distinct o c s w entries writes = unique entries (inl (c.0, o, c.1, c.2, inr (inr (s, w, writes))))

  pub operation_directives_distinct : (o : Node Operation) → Contains (operations_of d) o → FieldsAreUnique (InDirectives o.value.value.directives.items)
  operation_directives_distinct o c entries writes = unique entries (inl (c.0, o, c.1, c.2, inr (inl writes)))

  defined : (name : NameText) (f : Node Fragment) → fragments_of d name ≡ Some f → Contains (values d.fragments) f
  defined name f is =
      let here = entry_in (same_name name) d.fragments.entries f is in
      stands_mapped (λ (e : NameText × Node Fragment). e.1) d.fragments.entries (here.0, f) here.1

  fragment_distinct : (name : NameText) (f : Node Fragment) → fragments_of d name ≡ Some f → IsDistinctSet f.value.value.selection_set
  fragment_distinct name f is s w entries writes =
      let c = defined name f is in
      unique entries (inr (c.0, f, c.1, c.2, inr (s, w, writes)))

  pub fragment_directives_distinct : (name : NameText) (f : Node Fragment) → fragments_of d name ≡ Some f → FieldsAreUnique (InDirectives f.value.value.directives.items)
  fragment_directives_distinct name f is entries writes =
      let c = defined name f is in
      unique entries (inr (c.0, f, c.1, c.2, inl writes))

  included_distinct : {set inner : SelectionSet} → Includes (fragments_of d) set inner → IsDistinctSet set → IsDistinctSet inner
  included_distinct includes_itself h = h
  included_distinct (includes_inline_fragment {set = set} {i = i} c inner) h = included_distinct inner (below_inline set i c h)
  included_distinct (includes_spread {p = p} {d = f} c is inner) h = included_distinct inner (fragment_distinct p.value.value.fragment_name f is)

  pub reached_distinct : {set : SelectionSet} {s : Selection} → Reachable (fragments_of d) set s → IsDistinctSet set → FieldsAreUnique (WritesItself s)
  reached_distinct (reachable_inside {s = s} inside) h = included_distinct inside.1 h s (inside.0, set_itself, inside.2)
  reached_distinct (reachable_below {f = f} inside below) h = reached_distinct below (below_field inside.0 f inside.2 (included_distinct inside.1 h))
