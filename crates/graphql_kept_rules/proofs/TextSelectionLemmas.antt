-- Selections, sets, fragments and operations that are the same: their forms and parts, and that sameness goes both ways.
use Rattle.std.proofs.Common.{◌≡◌, List, refl, sym, subst}
use Rattle.std.specs.Prelude.{Contains}
use Rattle.std.specs.List.{AllZip}
use Rattle.graphql_nodes.specs.Names.{NameText}
use Rattle.graphql_nodes.specs.declared.nodes.Node.{Node}
use Rattle.indexmap.specs.IndexMap.{values}
use Rattle.graphql_documents.specs.Contents.{SameIfAny}
use Rattle.graphql_documents.specs.Executables.{operations_of, sets_of}
use Rattle.graphql_documents.specs.Selections.{Fragments, arguments_of, directives_of, fragments_of, selections_of}
use Rattle.graphql_documents.specs.declared.documents.directives.Argument.{Argument}
use Rattle.graphql_documents.specs.declared.documents.directives.Directive.{Directive}
use Rattle.graphql_documents.specs.declared.documents.executables.ExecutableDocument.{ExecutableDocument}
use Rattle.graphql_documents.specs.declared.documents.executables.Field.{Field}
use Rattle.graphql_documents.specs.declared.documents.executables.Fragment.{Fragment}
use Rattle.graphql_documents.specs.declared.documents.executables.FragmentSpread.{FragmentSpread}
use Rattle.graphql_documents.specs.declared.documents.executables.InlineFragment.{InlineFragment}
use Rattle.graphql_documents.specs.declared.documents.executables.Operation.{Operation}
use Rattle.graphql_documents.specs.declared.documents.executables.Selection.{Selection, out-Selection}
use Rattle.graphql_documents.specs.declared.documents.executables.Selection.TheOpen as Open
use Rattle.graphql_documents.specs.declared.documents.executables.Selection.TheVariants as kind
use Rattle.graphql_documents.specs.declared.documents.executables.SelectionSet.{SelectionSet}
use Rattle.graphql_document_building.specs.SameDocuments.{SameSpread, SameUnderName}
use Rattle.graphql_kept_rules.specs.SameTexts.{SameFieldText, SameFragmentText, SameInlineFragmentText, SameOperationText, SameSelectionText, SameSelectionTexts, SameText, next_selection, no_selections, same_field, same_inline_fragment, same_spread}
use Rattle.graphql_document_building.specs.SameLeaves.{SameArgument, SameArguments, SameDirective, SameDirectives, SameVariable}
use Rattle.graphql_sameness_laws.proofs.LeafLemmas.{argument_back, directive_back, variable_back}
use Rattle.graphql_sameness_laws.proofs.ZipLemmas.{zip_back, zip_contains, zip_joined, zip_lookup, zip_mapped}

-- ==== both ways

arguments_back : (xs ys : List (Node Argument)) → SameArguments xs ys → SameArguments ys xs
arguments_back = zip_back SameArgument SameArgument argument_back

directives_back : (xs ys : List (Node Directive)) → SameDirectives xs ys → SameDirectives ys xs
directives_back = zip_back SameDirective SameDirective directive_back

pub spread_back : (p q : Node FragmentSpread) → SameSpread p q → SameSpread q p
spread_back p q same = record { name = sym same.name; directives = directives_back _ _ same.directives; location = sym same.location }

field_head_back : (f g : Field) → SameFieldText f g → SameFieldText g f
field_head_back f g head = record {
  alias = sym head.alias;
  name = sym head.name;
  arguments = arguments_back _ _ head.arguments;
  directives = directives_back _ _ head.directives;
}

inline_fragment_head_back : (i j : InlineFragment) → SameInlineFragmentText i j → SameInlineFragmentText j i
inline_fragment_head_back i j head = record {
  type_condition = sym head.type_condition;
  directives = directives_back _ _ head.directives;
}

mutual
  pub selection_back : {s t : Selection} → SameSelectionText s t → SameSelectionText t s
  selection_back (same_field f g head set at) = same_field g f (field_head_back _ _ head) (selections_back set) (sym at)
  selection_back (same_spread p q same) = same_spread q p (spread_back p q same)
  selection_back (same_inline_fragment i j head set at) = same_inline_fragment j i (inline_fragment_head_back _ _ head) (selections_back set) (sym at)

  pub selections_back : {xs ys : List Selection} → SameSelectionTexts xs ys → SameSelectionTexts ys xs
  selections_back no_selections = no_selections
  selections_back (next_selection first rest) = next_selection (selection_back first) (selections_back rest)

pub operation_back : (a b : Node Operation) → SameOperationText a b → SameOperationText b a
operation_back a b p = record {
  operation_type = sym p.operation_type;
  name = sym p.name;
  variables = zip_back SameVariable SameVariable variable_back _ _ p.variables;
  directives = directives_back _ _ p.directives;
  selections = selections_back p.selections;
  location = sym p.location;
}

pub fragment_back : (a b : Node Fragment) → SameFragmentText a b → SameFragmentText b a
fragment_back a b p = record {
  name = sym p.name;
  directives = directives_back _ _ p.directives;
  set_type = sym p.set_type;
  selections = selections_back p.selections;
  location = sym p.location;
}

pub document_back : (a b : ExecutableDocument) → SameText a b → SameText b a
document_back a b p = record {
  anonymous = zip_back SameOperationText SameOperationText operation_back _ _ p.anonymous;
  named = zip_back (SameUnderName SameOperationText) (SameUnderName SameOperationText) (λ x y q. (sym q.0, operation_back x.1 y.1 q.1)) _ _ p.named;
  fragments = zip_back (SameUnderName SameFragmentText) (SameUnderName SameFragmentText) (λ x y q. (sym q.0, fragment_back x.1 y.1 q.1)) _ _ p.fragments;
}

-- ==== parts

pub record SameSet (a b : SelectionSet) : Type 0 where
  pub selections : SameSelectionTexts (selections_of a) (selections_of b)

pub set_back : {a b : SelectionSet} → SameSet a b → SameSet b a
set_back p = record { selections = selections_back p.selections }

pub record SameFieldNode (f g : Node Field) : Type 0 where
  pub head : SameFieldText f.value.value g.value.value
  pub set : SameSet f.value.value.selection_set g.value.value.selection_set
  pub location : f.location ≡ g.location

pub record SameInlineFragment (i j : Node InlineFragment) : Type 0 where
  pub head : SameInlineFragmentText i.value.value j.value.value
  pub set : SameSet i.value.value.selection_set j.value.value.selection_set
  pub location : i.location ≡ j.location

pub field_node_back : (f g : Node Field) → SameFieldNode f g → SameFieldNode g f
field_node_back f g p = record { head = field_head_back _ _ p.head; set = set_back p.set; location = sym p.location }

pub inline_fragment_back : (i j : Node InlineFragment) → SameInlineFragment i j → SameInlineFragment j i
inline_fragment_back i j p = record { head = inline_fragment_head_back _ _ p.head; set = set_back p.set; location = sym p.location }

pub as_field : (f g : Node Field) → SameFieldNode f g → SameSelectionText (kind.Field f) (kind.Field g)
as_field f g p = same_field f g p.head p.set.selections p.location

abbrev SameForm : Selection → Selection → Type 0
SameForm s t = elim (out-Selection s) [
  | Open.Field f ↦ (g : Node Field) × SameFieldNode f g × (t ≡ kind.Field g)
  | Open.FragmentSpread p ↦ (q : Node FragmentSpread) × SameSpread p q × (t ≡ kind.FragmentSpread q)
  | Open.InlineFragment i ↦ (j : Node InlineFragment) × SameInlineFragment i j × (t ≡ kind.InlineFragment j)
]

form_of : (s t : Selection) → SameSelectionText s t → SameForm s t
form_of s t (same_field f g head set at) =
    rw (kind.outs-Field f, SameForm) (g, record { head = head; set = record { selections = set }; location = at }, refl)
form_of s t (same_spread p q same) = rw (kind.outs-FragmentSpread p, SameForm) (q, same, refl)
form_of s t (same_inline_fragment i j head set at) =
    rw (kind.outs-InlineFragment i, SameForm) (j, record { head = head; set = record { selections = set }; location = at }, refl)

pub selections_zip : {xs ys : List Selection} → SameSelectionTexts xs ys → AllZip SameSelectionText xs ys
selections_zip no_selections = tt
selections_zip (next_selection first rest) = (first, selections_zip rest)

module _ (xs ys : List Selection) (same : SameSelectionTexts xs ys) where
  pub selection_too : (s : Selection) → Contains xs s → (t : Selection) × Contains ys t × SameSelectionText s t
  selection_too s c = zip_contains SameSelectionText xs ys s (selections_zip same) c

  pub field_too : (f : Node Field) → Contains xs (kind.Field f) → (g : Node Field) × Contains ys (kind.Field g) × SameFieldNode f g
  field_too f c =
      let found = selection_too (kind.Field f) c in
      let form = rw (kind.outs-Field f, SameForm) at (form_of (kind.Field f) found.0 found.2) in
      (form.0, subst (Contains ys) form.2 found.1, form.1)

  pub spread_too : (p : Node FragmentSpread) → Contains xs (kind.FragmentSpread p) → (q : Node FragmentSpread) × Contains ys (kind.FragmentSpread q) × SameSpread p q
  spread_too p c =
      let found = selection_too (kind.FragmentSpread p) c in
      let form = rw (kind.outs-FragmentSpread p, SameForm) at (form_of (kind.FragmentSpread p) found.0 found.2) in
      (form.0, subst (Contains ys) form.2 found.1, form.1)

  pub inline_fragment_too : (i : Node InlineFragment) → Contains xs (kind.InlineFragment i) →
      (j : Node InlineFragment) × Contains ys (kind.InlineFragment j) × SameInlineFragment i j
  inline_fragment_too i c =
      let found = selection_too (kind.InlineFragment i) c in
      let form = rw (kind.outs-InlineFragment i, SameForm) at (form_of (kind.InlineFragment i) found.0 found.2) in
      (form.0, subst (Contains ys) form.2 found.1, form.1)

pub as_spread : (p : Node FragmentSpread) (t : Selection) → SameSelectionText (kind.FragmentSpread p) t →
    (q : Node FragmentSpread) × SameSpread p q × (t ≡ kind.FragmentSpread q)
as_spread p t same = rw (kind.outs-FragmentSpread p, SameForm) at (form_of (kind.FragmentSpread p) t same)

pub same_field_node : (f : Node Field) (t : Selection) → SameSelectionText (kind.Field f) t → (g : Node Field) × SameFieldNode f g × (t ≡ kind.Field g)
same_field_node f t same = rw (kind.outs-Field f, SameForm) at (form_of (kind.Field f) t same)

pub as_inline_fragment : (i : Node InlineFragment) (t : Selection) → SameSelectionText (kind.InlineFragment i) t →
    (j : Node InlineFragment) × SameInlineFragment i j × (t ≡ kind.InlineFragment j)
as_inline_fragment i t same = rw (kind.outs-InlineFragment i, SameForm) at (form_of (kind.InlineFragment i) t same)

pub own_directives : {s t : Selection} → SameSelectionText s t → SameDirectives (directives_of s) (directives_of t)
own_directives (same_field f g head set at) = rw (kind.outs-Field f, kind.outs-Field g, directives_of) head.directives
own_directives (same_spread p q same) = rw (kind.outs-FragmentSpread p, kind.outs-FragmentSpread q, directives_of) same.directives
own_directives (same_inline_fragment i j head set at) = rw (kind.outs-InlineFragment i, kind.outs-InlineFragment j, directives_of) head.directives

pub own_arguments : {s t : Selection} → SameSelectionText s t → SameArguments (arguments_of s) (arguments_of t)
own_arguments (same_field f g head set at) = rw (kind.outs-Field f, kind.outs-Field g, arguments_of) head.arguments
own_arguments (same_spread p q same) = rw (kind.outs-FragmentSpread p, kind.outs-FragmentSpread q, arguments_of) tt
own_arguments (same_inline_fragment i j head set at) = rw (kind.outs-InlineFragment i, kind.outs-InlineFragment j, arguments_of) tt

-- ==== documents

abbrev pub SameFragments : Fragments → Fragments → Type 0
SameFragments before after = (name : NameText) → SameIfAny SameFragmentText (before name) (after name)

pub fragment_set : (a b : Node Fragment) → SameFragmentText a b → SameSet a.value.value.selection_set b.value.value.selection_set
fragment_set a b p = record { selections = p.selections }

pub operation_set : (a b : Node Operation) → SameOperationText a b → SameSet a.value.value.selection_set b.value.value.selection_set
operation_set a b p = record { selections = p.selections }

module _ (d e : ExecutableDocument) (same : SameText d e) where
  pub fragments_alike : SameFragments (fragments_of d) (fragments_of e)
  fragments_alike name = zip_lookup SameFragmentText _ d.fragments.entries e.fragments.entries same.fragments

  pub operations_alike : AllZip SameOperationText (operations_of d) (operations_of e)
  operations_alike = zip_joined SameOperationText _ _ _ _ same.anonymous
      (zip_mapped (SameUnderName SameOperationText) SameOperationText (λ x. x.1) (λ x y q. q.1) d.operations.named.entries e.operations.named.entries same.named)

  pub fragment_definitions_alike : AllZip SameFragmentText (values d.fragments) (values e.fragments)
  fragment_definitions_alike =
      zip_mapped (SameUnderName SameFragmentText) SameFragmentText (λ x. x.1) (λ x y q. q.1) d.fragments.entries e.fragments.entries same.fragments

  pub sets_alike : AllZip SameSet (sets_of d) (sets_of e)
  sets_alike = zip_joined SameSet _ _ _ _
      (zip_mapped SameOperationText SameSet (λ o. o.value.value.selection_set) operation_set _ _ operations_alike)
      (zip_mapped SameFragmentText SameSet (λ f. f.value.value.selection_set) fragment_set _ _ fragment_definitions_alike)
