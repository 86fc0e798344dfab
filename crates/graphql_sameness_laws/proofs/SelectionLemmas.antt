-- Selections, sets, fragments and operations that are the same: their forms and parts, and that sameness goes both ways.
use Rattle.std.proofs.Common.{◌≡◌, List, Option, None, Some, refl, sym, ap, subst}
use Rattle.std.specs.Prelude.{Contains}
use Rattle.std.specs.List.{AllZip}
use Rattle.graphql_nodes.specs.Names.{NameText}
use Rattle.graphql_nodes.specs.Nodes.{SameNode}
use Rattle.graphql_nodes.specs.declared.nodes.Node.{Node}
use Rattle.indexmap.specs.IndexMap.{values}
use Rattle.graphql_documents.specs.Contents.{SameIfAny}
use Rattle.graphql_documents.specs.Executables.{operations_of, sets_of}
use Rattle.graphql_documents.specs.Selections.{Fragments, arguments_of, directives_of, fragments_of, selections_of}
use Rattle.graphql_documents.specs.TypeReferences.{as_written}
use Rattle.graphql_documents.specs.declared.documents.definitions.FieldDefinition.{FieldDefinition}
use Rattle.graphql_documents.specs.declared.documents.directives.Argument.{Argument}
use Rattle.graphql_documents.specs.declared.documents.directives.Directive.{Directive}
use Rattle.graphql_documents.specs.declared.documents.executables.ExecutableDocument.{ExecutableDocument}
use Rattle.graphql_documents.specs.declared.documents.executables.Field.{Field}
use Rattle.graphql_documents.specs.declared.documents.executables.Fragment.{Fragment}
use Rattle.graphql_documents.specs.declared.documents.executables.FragmentSpread.{FragmentSpread}
use Rattle.graphql_documents.specs.declared.documents.executables.InlineFragment.{InlineFragment}
use Rattle.graphql_documents.specs.declared.documents.executables.Operation.{Operation}
use Rattle.graphql_documents.specs.declared.documents.executables.Selection.{Selection, out-Selection}
use Rattle.graphql_documents.specs.declared.documents.executables.Selection.TheOpen as Open
use Rattle.graphql_documents.specs.declared.documents.executables.Selection.TheVariants as kind
use Rattle.graphql_documents.specs.declared.documents.executables.SelectionSet.{SelectionSet}
use Rattle.graphql_documents.specs.declared.documents.schemas.Schema.{Schema}
use Rattle.graphql_document_building.specs.SameDocuments.{SameDefinition, SameDocument, SameFieldHead, SameFragment, SameInlineFragmentHead, SameOperation, SameSelection, SameSelections, SameSpread, SameUnderName, next_selection, no_selections, same_field, same_inline_fragment, same_spread}
use Rattle.graphql_document_building.specs.SameLeaves.{SameArgument, SameArguments, SameDirective, SameDirectives, SameField, SameInputValue, SameInputValues, SameVariable}
use Rattle.graphql_sameness_laws.proofs.LeafLemmas.{argument_back, directive_back, directive_itself, field_back, input_value_itself, variable_back}
use Rattle.graphql_sameness_laws.proofs.ZipLemmas.{zip_back, zip_contains, zip_itself, zip_joined, zip_lookup, zip_mapped, zip_weaker}

-- ==== the definitions of a schema are the same as definitions without one

shared_definition : (a b : Node FieldDefinition) → SameNode a b → SameField a b
shared_definition a b p = record {
  name = ap (λ (v : FieldDefinition). v.name) (sym p.same_value);
  arguments = subst (λ (v : FieldDefinition). SameInputValues a.value.value.arguments.items v.arguments.items) (sym p.same_value)
      (zip_itself SameInputValue input_value_itself a.value.value.arguments.items);
  ty = ap (λ (v : FieldDefinition). as_written v.ty) (sym p.same_value);
  directives = subst (λ (v : FieldDefinition). SameDirectives a.value.value.directives.items v.directives.items) (sym p.same_value)
      (zip_itself SameDirective directive_itself a.value.value.directives.items);
  location = sym p.same_location;
}

one_definition : (schema : Option Schema) (a b : Node FieldDefinition) → SameDefinition schema a b → SameField a b
one_definition None a b p = p
one_definition (Some schema) a b p = shared_definition a b p

module _ (schema : Option Schema) where
  mutual
    loose_selection : {s t : Selection} → SameSelection schema s t → SameSelection None s t
    loose_selection (same_field f g head set at) = same_field f g (record {
      definition = one_definition schema _ _ head.definition;
      alias = head.alias;
      name = head.name;
      arguments = head.arguments;
      directives = head.directives;
      set_type = head.set_type;
    }) (loose_selections set) at
    loose_selection (same_spread p q same) = same_spread p q same
    loose_selection (same_inline_fragment i j head set at) = same_inline_fragment i j head (loose_selections set) at

    loose_selections : {xs ys : List Selection} → SameSelections schema xs ys → SameSelections None xs ys
    loose_selections no_selections = no_selections
    loose_selections (next_selection first rest) = next_selection (loose_selection first) (loose_selections rest)

  loose_operation : (a b : Node Operation) → SameOperation schema a b → SameOperation None a b
  loose_operation a b p = record {
    operation_type = p.operation_type;
    name = p.name;
    variables = p.variables;
    directives = p.directives;
    set_type = p.set_type;
    selections = loose_selections p.selections;
    location = p.location;
  }

  loose_fragment : (a b : Node Fragment) → SameFragment schema a b → SameFragment None a b
  loose_fragment a b p = record {
    name = p.name;
    directives = p.directives;
    set_type = p.set_type;
    selections = loose_selections p.selections;
    location = p.location;
  }

pub loose_document : (schema : Option Schema) (a b : ExecutableDocument) → SameDocument schema a b → SameDocument None a b
loose_document schema a b p = record {
  anonymous = zip_weaker (SameOperation schema) (SameOperation None) (loose_operation schema) _ _ p.anonymous;
  named = zip_weaker (SameUnderName (SameOperation schema)) (SameUnderName (SameOperation None)) (λ x y q. (q.0, loose_operation schema x.1 y.1 q.1)) _ _ p.named;
  fragments = zip_weaker (SameUnderName (SameFragment schema)) (SameUnderName (SameFragment None)) (λ x y q. (q.0, loose_fragment schema x.1 y.1 q.1)) _ _ p.fragments;
}

-- ==== both ways

arguments_back : (xs ys : List (Node Argument)) → SameArguments xs ys → SameArguments ys xs
arguments_back = zip_back SameArgument SameArgument argument_back

directives_back : (xs ys : List (Node Directive)) → SameDirectives xs ys → SameDirectives ys xs
directives_back = zip_back SameDirective SameDirective directive_back

pub spread_back : (p q : Node FragmentSpread) → SameSpread p q → SameSpread q p
spread_back p q same = record { name = sym same.name; directives = directives_back _ _ same.directives; location = sym same.location }

field_head_back : (f g : Field) → SameFieldHead None f g → SameFieldHead None g f
field_head_back f g head = record {
  definition = field_back _ _ head.definition;
  alias = sym head.alias;
  name = sym head.name;
  arguments = arguments_back _ _ head.arguments;
  directives = directives_back _ _ head.directives;
  set_type = sym head.set_type;
}

inline_fragment_head_back : (i j : InlineFragment) → SameInlineFragmentHead i j → SameInlineFragmentHead j i
inline_fragment_head_back i j head = record {
  type_condition = sym head.type_condition;
  directives = directives_back _ _ head.directives;
  set_type = sym head.set_type;
}

mutual
  pub selection_back : {s t : Selection} → SameSelection None s t → SameSelection None t s
  selection_back (same_field f g head set at) = same_field g f (field_head_back _ _ head) (selections_back set) (sym at)
  selection_back (same_spread p q same) = same_spread q p (spread_back p q same)
  selection_back (same_inline_fragment i j head set at) = same_inline_fragment j i (inline_fragment_head_back _ _ head) (selections_back set) (sym at)

  pub selections_back : {xs ys : List Selection} → SameSelections None xs ys → SameSelections None ys xs
  selections_back no_selections = no_selections
  selections_back (next_selection first rest) = next_selection (selection_back first) (selections_back rest)

pub operation_back : (a b : Node Operation) → SameOperation None a b → SameOperation None b a
operation_back a b p = record {
  operation_type = sym p.operation_type;
  name = sym p.name;
  variables = zip_back SameVariable SameVariable variable_back _ _ p.variables;
  directives = directives_back _ _ p.directives;
  set_type = sym p.set_type;
  selections = selections_back p.selections;
  location = sym p.location;
}

pub fragment_back : (a b : Node Fragment) → SameFragment None a b → SameFragment None b a
fragment_back a b p = record {
  name = sym p.name;
  directives = directives_back _ _ p.directives;
  set_type = sym p.set_type;
  selections = selections_back p.selections;
  location = sym p.location;
}

pub document_back : (a b : ExecutableDocument) → SameDocument None a b → SameDocument None b a
document_back a b p = record {
  anonymous = zip_back (SameOperation None) (SameOperation None) operation_back _ _ p.anonymous;
  named = zip_back (SameUnderName (SameOperation None)) (SameUnderName (SameOperation None)) (λ x y q. (sym q.0, operation_back x.1 y.1 q.1)) _ _ p.named;
  fragments = zip_back (SameUnderName (SameFragment None)) (SameUnderName (SameFragment None)) (λ x y q. (sym q.0, fragment_back x.1 y.1 q.1)) _ _ p.fragments;
}

-- ==== parts

pub record SameSet (a b : SelectionSet) : Type 0 where
  pub ty : a.ty ≡ b.ty
  pub selections : SameSelections None (selections_of a) (selections_of b)

pub set_back : {a b : SelectionSet} → SameSet a b → SameSet b a
set_back p = record { ty = sym p.ty; selections = selections_back p.selections }

pub record SameFieldNode (f g : Node Field) : Type 0 where
  pub head : SameFieldHead None f.value.value g.value.value
  pub set : SameSet f.value.value.selection_set g.value.value.selection_set
  pub location : f.location ≡ g.location

pub record SameInlineFragment (i j : Node InlineFragment) : Type 0 where
  pub head : SameInlineFragmentHead i.value.value j.value.value
  pub set : SameSet i.value.value.selection_set j.value.value.selection_set
  pub location : i.location ≡ j.location

pub field_node_back : (f g : Node Field) → SameFieldNode f g → SameFieldNode g f
field_node_back f g p = record { head = field_head_back _ _ p.head; set = set_back p.set; location = sym p.location }

pub inline_fragment_back : (i j : Node InlineFragment) → SameInlineFragment i j → SameInlineFragment j i
inline_fragment_back i j p = record { head = inline_fragment_head_back _ _ p.head; set = set_back p.set; location = sym p.location }

pub as_field : (f g : Node Field) → SameFieldNode f g → SameSelection None (kind.Field f) (kind.Field g)
as_field f g p = same_field f g p.head p.set.selections p.location

abbrev SameForm : Selection → Selection → Type 0
SameForm s t = elim (out-Selection s) [
  | Open.Field f ↦ (g : Node Field) × SameFieldNode f g × (t ≡ kind.Field g)
  | Open.FragmentSpread p ↦ (q : Node FragmentSpread) × SameSpread p q × (t ≡ kind.FragmentSpread q)
  | Open.InlineFragment i ↦ (j : Node InlineFragment) × SameInlineFragment i j × (t ≡ kind.InlineFragment j)
]

form_of : (s t : Selection) → SameSelection None s t → SameForm s t
form_of s t (same_field f g head set at) =
    rw (kind.outs-Field f, SameForm) (g, record { head = head; set = record { ty = head.set_type; selections = set }; location = at }, refl)
form_of s t (same_spread p q same) = rw (kind.outs-FragmentSpread p, SameForm) (q, same, refl)
form_of s t (same_inline_fragment i j head set at) =
    rw (kind.outs-InlineFragment i, SameForm) (j, record { head = head; set = record { ty = head.set_type; selections = set }; location = at }, refl)

pub selections_zip : {xs ys : List Selection} → SameSelections None xs ys → AllZip (SameSelection None) xs ys
selections_zip no_selections = tt
selections_zip (next_selection first rest) = (first, selections_zip rest)

module _ (xs ys : List Selection) (same : SameSelections None xs ys) where
  pub selection_too : (s : Selection) → Contains xs s → (t : Selection) × Contains ys t × SameSelection None s t
  selection_too s c = zip_contains (SameSelection None) xs ys s (selections_zip same) c

  pub field_too : (f : Node Field) → Contains xs (kind.Field f) → (g : Node Field) × Contains ys (kind.Field g) × SameFieldNode f g
  field_too f c =
      let found = selection_too (kind.Field f) c in
      let form = rw (kind.outs-Field f, SameForm) at (form_of (kind.Field f) found.0 found.2) in
      (form.0, subst (Contains ys) form.2 found.1, form.1)

  pub spread_too : (p : Node FragmentSpread) → Contains xs (kind.FragmentSpread p) → (q : Node FragmentSpread) × Contains ys (kind.FragmentSpread q) × SameSpread p q
  spread_too p c =
      let found = selection_too (kind.FragmentSpread p) c in
      let form = rw (kind.outs-FragmentSpread p, SameForm) at (form_of (kind.FragmentSpread p) found.0 found.2) in
      (form.0, subst (Contains ys) form.2 found.1, form.1)

  pub inline_fragment_too : (i : Node InlineFragment) → Contains xs (kind.InlineFragment i) →
      (j : Node InlineFragment) × Contains ys (kind.InlineFragment j) × SameInlineFragment i j
  inline_fragment_too i c =
      let found = selection_too (kind.InlineFragment i) c in
      let form = rw (kind.outs-InlineFragment i, SameForm) at (form_of (kind.InlineFragment i) found.0 found.2) in
      (form.0, subst (Contains ys) form.2 found.1, form.1)

pub as_spread : (p : Node FragmentSpread) (t : Selection) → SameSelection None (kind.FragmentSpread p) t →
    (q : Node FragmentSpread) × SameSpread p q × (t ≡ kind.FragmentSpread q)
as_spread p t same = rw (kind.outs-FragmentSpread p, SameForm) at (form_of (kind.FragmentSpread p) t same)

pub same_field_node : (f : Node Field) (t : Selection) → SameSelection None (kind.Field f) t → (g : Node Field) × SameFieldNode f g × (t ≡ kind.Field g)
same_field_node f t same = rw (kind.outs-Field f, SameForm) at (form_of (kind.Field f) t same)

pub as_inline_fragment : (i : Node InlineFragment) (t : Selection) → SameSelection None (kind.InlineFragment i) t →
    (j : Node InlineFragment) × SameInlineFragment i j × (t ≡ kind.InlineFragment j)
as_inline_fragment i t same = rw (kind.outs-InlineFragment i, SameForm) at (form_of (kind.InlineFragment i) t same)

pub own_directives : {s t : Selection} → SameSelection None s t → SameDirectives (directives_of s) (directives_of t)
own_directives (same_field f g head set at) = rw (kind.outs-Field f, kind.outs-Field g, directives_of) head.directives
own_directives (same_spread p q same) = rw (kind.outs-FragmentSpread p, kind.outs-FragmentSpread q, directives_of) same.directives
own_directives (same_inline_fragment i j head set at) = rw (kind.outs-InlineFragment i, kind.outs-InlineFragment j, directives_of) head.directives

pub own_arguments : {s t : Selection} → SameSelection None s t → SameArguments (arguments_of s) (arguments_of t)
own_arguments (same_field f g head set at) = rw (kind.outs-Field f, kind.outs-Field g, arguments_of) head.arguments
own_arguments (same_spread p q same) = rw (kind.outs-FragmentSpread p, kind.outs-FragmentSpread q, arguments_of) tt
own_arguments (same_inline_fragment i j head set at) = rw (kind.outs-InlineFragment i, kind.outs-InlineFragment j, arguments_of) tt

-- ==== documents

abbrev pub SameFragments : Fragments → Fragments → Type 0
SameFragments before after = (name : NameText) → SameIfAny (SameFragment None) (before name) (after name)

pub fragment_set : (a b : Node Fragment) → SameFragment None a b → SameSet a.value.value.selection_set b.value.value.selection_set
fragment_set a b p = record { ty = p.set_type; selections = p.selections }

pub operation_set : (a b : Node Operation) → SameOperation None a b → SameSet a.value.value.selection_set b.value.value.selection_set
operation_set a b p = record { ty = p.set_type; selections = p.selections }

module _ (d e : ExecutableDocument) (same : SameDocument None d e) where
  pub fragments_alike : SameFragments (fragments_of d) (fragments_of e)
  fragments_alike name = zip_lookup (SameFragment None) _ d.fragments.entries e.fragments.entries same.fragments

  pub operations_alike : AllZip (SameOperation None) (operations_of d) (operations_of e)
  operations_alike = zip_joined (SameOperation None) _ _ _ _ same.anonymous
      (zip_mapped (SameUnderName (SameOperation None)) (SameOperation None) (λ x. x.1) (λ x y q. q.1) d.operations.named.entries e.operations.named.entries same.named)

  pub fragment_definitions_alike : AllZip (SameFragment None) (values d.fragments) (values e.fragments)
  fragment_definitions_alike =
      zip_mapped (SameUnderName (SameFragment None)) (SameFragment None) (λ x. x.1) (λ x y q. q.1) d.fragments.entries e.fragments.entries same.fragments

  pub sets_alike : AllZip SameSet (sets_of d) (sets_of e)
  sets_alike = zip_joined SameSet _ _ _ _
      (zip_mapped (SameOperation None) SameSet (λ o. o.value.value.selection_set) operation_set _ _ operations_alike)
      (zip_mapped (SameFragment None) SameSet (λ f. f.value.value.selection_set) fragment_set _ _ fragment_definitions_alike)
