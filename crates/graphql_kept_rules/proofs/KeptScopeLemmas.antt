-- All usages of variables in a document are allowed against a schema that keeps what an older one had, if they were. Specification: 5.8.5 All Variable
-- Usages Are Allowed.
use Rattle.std.proofs.Common.{◌≡◌, ◌∙◌, ◌&&◌, inl, inr, not, List, [], Option, Some, refl, sym, ap, subst, subst₂}
use Rattle.std.specs.Prelude.{Contains, is_some}
use Rattle.std.specs.Result.{result_ok}
use Rattle.std.proofs.lemmas.List.Elements.{All-contains}
use Rattle.graphql_nodes.specs.Names.{NameText}
use Rattle.graphql_nodes.specs.declared.directive_locations.DirectiveLocation.{DirectiveLocation}
use Rattle.graphql_nodes.specs.declared.directive_locations.DirectiveLocation.TheVariants as allowed_at
use Rattle.graphql_nodes.specs.declared.nodes.Node.{Node}
use Rattle.graphql_documents.proofs.ListLemmas.{none_stands}
use Rattle.graphql_documents.specs.Definitions.{variable_named}
use Rattle.graphql_documents.specs.Directives.{directive_definition}
use Rattle.graphql_documents.specs.Executables.{operations_of}
use Rattle.graphql_documents.specs.Selections.{Fragments, arguments_of, directives_of, fragments_of, selections_of, standing_at}
use Rattle.graphql_documents.specs.TypeReferences.{is_non_null, nullable}
use Rattle.graphql_documents.specs.declared.documents.definitions.DirectiveDefinition.{DirectiveDefinition}
use Rattle.graphql_documents.specs.declared.documents.definitions.FieldDefinition.{FieldDefinition}
use Rattle.graphql_documents.specs.declared.documents.definitions.InputValueDefinition.{InputValueDefinition}
use Rattle.graphql_documents.specs.declared.documents.definitions.VariableDefinition.{VariableDefinition}
use Rattle.graphql_documents.specs.declared.documents.directives.Argument.{Argument}
use Rattle.graphql_documents.specs.declared.documents.directives.Directive.{Directive}
use Rattle.graphql_documents.specs.declared.documents.executables.ExecutableDocument.{ExecutableDocument}
use Rattle.graphql_documents.specs.declared.documents.executables.Field.{Field}
use Rattle.graphql_documents.specs.declared.documents.executables.Fragment.{Fragment}
use Rattle.graphql_documents.specs.declared.documents.executables.FragmentSpread.{FragmentSpread}
use Rattle.graphql_documents.specs.declared.documents.executables.InlineFragment.{InlineFragment}
use Rattle.graphql_documents.specs.declared.documents.executables.Operation.{Operation}
use Rattle.graphql_documents.specs.declared.documents.executables.Selection.{Selection}
use Rattle.graphql_documents.specs.declared.documents.executables.Selection.TheVariants as kind
use Rattle.graphql_documents.specs.declared.documents.executables.SelectionSet.{SelectionSet}
use Rattle.graphql_documents.specs.declared.documents.schemas.Schema.{Schema}
use Rattle.graphql_documents.specs.declared.documents.values.Value.TheVariants as literal
use Rattle.graphql_trees.specs.declared.executable.Selection as selection_tree
use Rattle.graphql_document_building.specs.SameLeaves.{SameDirective, SameDirectives, SameVariable}
use Rattle.graphql_document_building.specs.Selections as says
use Rattle.graphql_document_building.specs.Selections.{SelectionSays}
use Rattle.graphql_input_rules.specs.InputFields.{FieldsAreUnique, InputFieldsAreUnique}
use Rattle.graphql_input_rules.specs.ValuesWritten.{InArguments, InDirectives, WritesItself}
use Rattle.graphql_specification.specs.Directives.{ApplicationHolds, ApplicationsHold}
use Rattle.graphql_specification.specs.Operations.{OperationHolds, operation_location}
use Rattle.graphql_schema_changes.specs.Keeps.{AnyInput, IsExecutable}
use Rattle.graphql_sameness_laws.proofs.ArgumentLemmas.{match_too, non_null_default_too}
use Rattle.graphql_sameness_laws.proofs.LeafLemmas.{directive_back, variable_back, variable_itself}
use Rattle.graphql_sameness_laws.proofs.NamedLemmas.{variable_alike}
use Rattle.graphql_sameness_laws.proofs.TypeLemmas.{both_assignable, one_null}
use Rattle.graphql_sameness_laws.proofs.ZipLemmas.{other_side, zip_back, zip_contains, zip_itself}
use Rattle.graphql_usage_rules.specs.Usages as scope
use Rattle.graphql_usage_rules.specs.Usages.{Location, Usage, UsedAtSelection, UsedInArguments, UsedInDirectives, UsedInScope, argument_definitions_of}
use Rattle.graphql_usage_rules.specs.VariableMisuses.{IsAllowedAt, OperationUsagesAreAllowed}
use Rattle.graphql_kept_rules.proofs.FoundLemmas.{one_some}
use Rattle.graphql_kept_rules.proofs.KeptDirectiveLemmas.{old_application, still_applied}
use Rattle.graphql_kept_rules.proofs.KeptOperationLemmas.{executable, operation_spot}
use Rattle.graphql_kept_rules.proofs.KeptUsageLemmas.{KeptUsage, used_in_arguments_before}
use Rattle.graphql_kept_rules.proofs.LocationLemmas.{allowed_still}
use Rattle.graphql_kept_rules.proofs.PairedDocumentLemmas.{PairedFragments, PairedOperation}
use Rattle.graphql_kept_rules.proofs.PairedLemmas.{defined, inline_pair, paired, spread_pair}
use Rattle.graphql_kept_rules.proofs.SaidTextLemmas.{head_alike, inline_fragment_alike}
use Rattle.graphql_kept_rules.proofs.SchemasKeptLemmas.{SchemasKept}
use Rattle.graphql_kept_rules.proofs.SpotLemmas.{Spot, reachable_spot, spot_field, spot_spread}
use Rattle.graphql_kept_rules.proofs.WrittenDistinctLemmas.{fragment_directives_distinct, operation_directives_distinct, operation_distinct, reached_distinct}
use Rattle.graphql_kept_rules.specs.SameTexts.{SameText}

-- ==== the parts of a selection

arguments_of_field : (f : Node Field) → arguments_of (kind.Field f) ≡ f.value.value.arguments.items
arguments_of_field f = rw (kind.outs-Field f, arguments_of) refl

directives_of_field : (f : Node Field) → directives_of (kind.Field f) ≡ f.value.value.directives.items
directives_of_field f = rw (kind.outs-Field f, directives_of) refl

definitions_of_field : (f : Node Field) → argument_definitions_of (kind.Field f) ≡ f.value.value.definition.value.value.arguments.items
definitions_of_field f = rw (kind.outs-Field f, argument_definitions_of) refl

arguments_of_spread : (p : Node FragmentSpread) → arguments_of (kind.FragmentSpread p) ≡ []
arguments_of_spread p = rw (kind.outs-FragmentSpread p, arguments_of) refl

directives_of_spread : (p : Node FragmentSpread) → directives_of (kind.FragmentSpread p) ≡ p.value.value.directives.items
directives_of_spread p = rw (kind.outs-FragmentSpread p, directives_of) refl

arguments_of_inline : (i : Node InlineFragment) → arguments_of (kind.InlineFragment i) ≡ []
arguments_of_inline i = rw (kind.outs-InlineFragment i, arguments_of) refl

directives_of_inline : (i : Node InlineFragment) → directives_of (kind.InlineFragment i) ≡ i.value.value.directives.items
directives_of_inline i = rw (kind.outs-InlineFragment i, directives_of) refl

no_arguments_used : (schema : Schema) (ds : List (Node InputValueDefinition)) (xs : List (Node Argument)) (usage : Usage) → xs ≡ [] → ¬ UsedInArguments schema ds xs usage
no_arguments_used schema ds xs usage e (i, y, within, at, rest) = none_stands y (subst (λ ys. Contains ys y) e (i, within, at))

-- ==== what a usage was before

abbrev Before : (Usage → Type 0) → Usage → Type 0
Before IsUsed usage = (other : Usage) × IsUsed other × KeptUsage other usage

module _ (old new : Schema) (k : SchemasKept old new) (variables : List (Node VariableDefinition)) where
  module _ (location : DirectiveLocation) (is_executable : IsExecutable old location) where
    used_in_directives_before : (xs ys : List (Node Directive)) → SameDirectives xs ys → (usage : Usage) → ApplicationsHold (Some old) variables location xs →
        FieldsAreUnique (InDirectives xs) → UsedInDirectives new ys usage → Before (UsedInDirectives old xs) usage
    used_in_directives_before xs ys same usage h distinct (i, y, within, at, (e, named, used)) =
        let x = zip_contains SameDirective ys xs y (zip_back SameDirective SameDirective directive_back xs ys same) (i, within, at) in
        let hold = All-contains (λ d. ApplicationHolds (Some old) variables location d.value.value) xs x.0 h.each x.1 in
        let alike = zip_itself SameVariable variable_itself variables in
        let a = old_application old new (AnyInput old) k.keeps.inputs (λ name d field input is c. k.inputs.input_fields name d field is c) k.unique k.keeps.directives k.inputs.directive_arguments variables variables alike location is_executable x.0 hold in
        let s = still_applied old new (AnyInput old) k.keeps.inputs (λ name d field input is c. k.inputs.input_fields name d field is c) k.unique k.keeps.directives k.inputs.directive_arguments variables variables alike location is_executable
        x.0 a.d a.was a.allowed in
        let one : s.e ≡ e = one_some (directive_definition new x.0.value.value.name) s.e e s.is (subst (λ n. directive_definition new n ≡ Some e) x.2.name named) in
        let found = used_in_arguments_before old new k variables a.d.value.value.arguments.items s.e.value.value.arguments.items s.kept.arguments
        (λ z c. k.inputs.directive_arguments x.0.value.value.name a.d z a.was c)
        x.0.value.value.arguments.items y.value.value.arguments.items (directive_back y x.0 x.2).arguments usage a.arguments.names.defined a.arguments.values
        (λ entries written. distinct entries (x.1.0, x.0, x.1.1, x.1.2, written))
        (subst (λ (z : Node DirectiveDefinition). UsedInArguments new z.value.value.arguments.items y.value.value.arguments.items usage) (sym one) used) in
        (found.0, (x.1.0, x.0, x.1.1, x.1.2, (a.d, a.was, found.1)), found.2)

  module _ (before after : Fragments) (fragments : PairedFragments old new k.keeps before after) where
    abbrev Here : SelectionSet → SelectionSet → Type 0
    Here a b = Spot old new k.keeps k.outputs before after fragments variables a b

    -- a selection of the first set uses the like of what one of the second does
    abbrev UsedAmong : SelectionSet → Usage → Type 0
    UsedAmong a usage = (s : Selection) × Contains (selections_of a) s × Before (UsedAtSelection old s) usage

    module _ (a b : SelectionSet) (spot : Here a b) (distinct : (s : Selection) → Contains (selections_of a) s → FieldsAreUnique (WritesItself s)) (usage : Usage) where
      at_field : (g : Node Field) → Contains (selections_of b) (kind.Field g) → UsedAtSelection new (kind.Field g) usage → UsedAmong a usage
      at_field g c used =
          let here = spot_field old new k.keeps k.outputs before after fragments variables a b spot g c in
          let f = here.f in
          let is = defined old new k.keeps.fields a b spot.pair f g here.pair in
          let text = head_alike old new a.ty b.ty here.pair.x f.value.value g.value.value here.pair.before here.pair.after in
          let holds = spot.holds.fields f (Some a.ty) (standing_at here.stands) in
          let agrees = holds.form.agrees is.d (ap result_ok is.was) in (
            kind.Field f,
            here.stands,
            elim used [
              | inl arguments ↦
                  let found = used_in_arguments_before old new k variables is.d.node.value.value.arguments.items is.e.node.value.value.arguments.items is.kept.arguments
                  (λ x c. k.inputs.field_arguments a.ty f.value.value.name is.d x is.was c)
                  f.value.value.arguments.items g.value.value.arguments.items text.arguments usage agrees.arguments.defined (holds.values old is.d refl (ap result_ok is.was))
                  (λ entries written. distinct (kind.Field f) here.stands entries
                  (inl (subst (λ xs. InArguments xs (literal.Object entries)) (sym (arguments_of_field f)) written)))
                  (subst₂ (λ ds xs. UsedInArguments new ds xs usage)
                  (definitions_of_field g ∙ ap (λ (d : FieldDefinition). d.arguments.items) is.is_built) (arguments_of_field g) arguments) in (
                    found.0,
                    inl (subst₂ (λ ds xs. UsedInArguments old ds xs found.0)
                        (sym (definitions_of_field f ∙ ap (λ (d : FieldDefinition). d.arguments.items) is.was_built)) (sym (arguments_of_field f)) found.1),
                    found.2,
                  )
              | inr directives ↦
                  let found = used_in_directives_before allowed_at.Field tt f.value.value.directives.items g.value.value.directives.items text.directives usage holds.directives
                  (λ entries written. distinct (kind.Field f) here.stands entries
                  (inr (subst (λ xs. InDirectives xs (literal.Object entries)) (sym (directives_of_field f)) written)))
                  (subst (λ xs. UsedInDirectives new xs usage) (directives_of_field g) directives) in
                  (found.0, inr (subst (λ xs. UsedInDirectives old xs found.0) (sym (directives_of_field f)) found.1), found.2)
            ],
          )

      at_spread : (q : Node FragmentSpread) → Contains (selections_of b) (kind.FragmentSpread q) → UsedAtSelection new (kind.FragmentSpread q) usage → UsedAmong a usage
      at_spread q c used =
          let here = spread_pair old new k.keeps.fields a b spot.pair q c in
          let p = here.0 in
          let holds = spot.holds.spreads p (Some a.ty) (standing_at here.1) in (
            kind.FragmentSpread p,
            here.1,
            elim used [
              | inl arguments ↦ absurd (no_arguments_used new (argument_definitions_of (kind.FragmentSpread q)) (arguments_of (kind.FragmentSpread q)) usage (arguments_of_spread q) arguments)
              | inr directives ↦
                  let found = used_in_directives_before allowed_at.FragmentSpread tt p.value.value.directives.items q.value.value.directives.items here.2.directives usage holds.directives
                  (λ entries written. distinct (kind.FragmentSpread p) here.1 entries
                  (inr (subst (λ xs. InDirectives xs (literal.Object entries)) (sym (directives_of_spread p)) written)))
                  (subst (λ xs. UsedInDirectives new xs usage) (directives_of_spread q) directives) in
                  (found.0, inr (subst (λ xs. UsedInDirectives old xs found.0) (sym (directives_of_spread p)) found.1), found.2)
            ],
          )

      at_inline : (j : Node InlineFragment) → Contains (selections_of b) (kind.InlineFragment j) → UsedAtSelection new (kind.InlineFragment j) usage → UsedAmong a usage
      at_inline j c used =
          let here = inline_pair old new k.keeps.fields a b spot.pair j c in
          let i = here.0 in
          let text = inline_fragment_alike a.ty b.ty here.2.x i.value.value j.value.value here.2.before here.2.after in
          let holds = spot.holds.inline_fragments i (Some a.ty) (standing_at here.1) in (
            kind.InlineFragment i,
            here.1,
            elim used [
              | inl arguments ↦ absurd (no_arguments_used new (argument_definitions_of (kind.InlineFragment j)) (arguments_of (kind.InlineFragment j)) usage (arguments_of_inline j) arguments)
              | inr directives ↦
                  let found = used_in_directives_before allowed_at.InlineFragment tt i.value.value.directives.items j.value.value.directives.items text.directives usage holds.directives
                  (λ entries written. distinct (kind.InlineFragment i) here.1 entries
                  (inr (subst (λ xs. InDirectives xs (literal.Object entries)) (sym (directives_of_inline i)) written)))
                  (subst (λ xs. UsedInDirectives new xs usage) (directives_of_inline j) directives) in
                  (found.0, inr (subst (λ xs. UsedInDirectives old xs found.0) (sym (directives_of_inline i)) found.1), found.2)
            ],
          )

      by_kind : (t : Selection) (x : selection_tree.Selection) → SelectionSays (Some new) b.ty x t → Contains (selections_of b) t → UsedAtSelection new t usage → UsedAmong a usage
      by_kind t x (says.field_says y g head set place) c used = at_field g c used
      by_kind t x (says.fragment_spread_says y q spread) c used = at_spread q c used
      by_kind t x (says.inline_fragment_says y j head set place) c used = at_inline j c used

      used_among : (t : Selection) → Contains (selections_of b) t → UsedAtSelection new t usage → UsedAmong a usage
      used_among t c used =
          let here = paired old new k.keeps.fields a b spot.pair t c in
          by_kind t here.2.0 here.2.2 c used

-- ==== the scope of an operation

allowed_by : (v w : Node VariableDefinition) (m : Location) → SameVariable v w → IsAllowedAt v.value.value m → IsAllowedAt w.value.value m
allowed_by v w m same =
    let s = v.value.value.ty.value.value in
    let t = w.value.value.ty.value.value in
    match_too (is_non_null m.ty && not (is_non_null s)) (is_non_null m.ty && not (is_non_null t)) _ _ _ _
    (ap (λ y. is_non_null m.ty && not y) (one_null s t same.ty.written))
    (λ h. (
      elim h.0 [ inl own ↦ inl (non_null_default_too v w same own) | inr given ↦ inr given ],
      sym (both_assignable s (nullable m.ty) t (nullable m.ty) same.ty.written refl) ∙ h.1,
    ))
    (λ h. sym (both_assignable s m.ty t m.ty same.ty.written refl) ∙ h)

module _ (old new : Schema) (k : SchemasKept old new) (d e : ExecutableDocument) (text : SameText d e)
    (fragments : PairedFragments old new k.keeps (fragments_of d) (fragments_of e)) (unique : InputFieldsAreUnique d) where
  used_in_scope_before : (o p : Node Operation) → Contains (operations_of d) o → PairedOperation old new k.keeps o p → OperationHolds (Some old) d o.value.value → (usage : Usage) →
      UsedInScope new (fragments_of e) p.value.value usage → Before (UsedInScope old (fragments_of d) o.value.value) usage
  used_in_scope_before o p c pair h usage (scope.in_operation used) =
      let found = used_in_directives_before old new k o.value.value.variables.items (operation_location o.value.value.operation_type)
      (executable old o.value.value.operation_type (ap (λ (x : Option NameText). is_some x) pair.was_root))
      o.value.value.directives.items p.value.value.directives.items pair.text.directives usage h.directives (operation_directives_distinct d unique o c) used in
      (found.0, scope.in_operation found.1, found.2)
  used_in_scope_before o p c pair h usage (scope.at_selection t reached used) =
      let spot = operation_spot old new k d e text fragments o p pair h in
      let here = reachable_spot old new k.keeps k.outputs (fragments_of d) (fragments_of e) fragments o.value.value.variables.items reached o.value.value.selection_set spot in
      let found = used_among old new k o.value.value.variables.items (fragments_of d) (fragments_of e) fragments here.within here.inner here.spot
      (λ s c'. reached_distinct d unique (here.reached s c') (operation_distinct d unique o c)) usage t here.stands used in
      (found.2.0, scope.at_selection found.0 (here.reached found.0 found.1) found.2.1, found.2.2)
  used_in_scope_before o p c pair h usage (scope.in_fragment_definition q f reached defined used) =
      let spot = operation_spot old new k d e text fragments o p pair h in
      let here = reachable_spot old new k.keeps k.outputs (fragments_of d) (fragments_of e) fragments o.value.value.variables.items reached o.value.value.selection_set spot in
      let spread = spot_spread old new k.keeps k.outputs (fragments_of d) (fragments_of e) fragments o.value.value.variables.items here.within here.inner here.spot q f here.stands defined in
      let holds = here.spot.holds.spreads spread.p (Some here.within.ty) (standing_at spread.stands) in
      let one : holds.definition ≡ spread.d = one_some (fragments_of d spread.p.value.value.fragment_name) holds.definition spread.d holds.defined spread.is in
      let found = used_in_directives_before old new k o.value.value.variables.items allowed_at.FragmentDefinition tt
      spread.d.value.value.directives.items f.value.value.directives.items spread.pair.text.directives usage
      (subst (λ (x : Node Fragment). ApplicationsHold (Some old) o.value.value.variables.items allowed_at.FragmentDefinition x.value.value.directives.items) one (holds.holds refl).directives)
      (fragment_directives_distinct d unique spread.p.value.value.fragment_name spread.d spread.is) used in
      (found.0, scope.in_fragment_definition spread.p spread.d (here.reached (kind.FragmentSpread spread.p) spread.stands) spread.is found.1, found.2)

  pub operation_usages_still : (o p : Node Operation) → Contains (operations_of d) o → PairedOperation old new k.keeps o p → OperationHolds (Some old) d o.value.value →
      OperationUsagesAreAllowed old d o.value.value → OperationUsagesAreAllowed new e p.value.value
  operation_usages_still o p c pair h allowed usage used w named =
      let was = used_in_scope_before o p c pair h usage used in
      let vs = o.value.value.variables.items in
      let ws = p.value.value.variables.items in
      let v = other_side SameVariable (variable_named usage.name ws) (variable_named usage.name vs) w
      (variable_alike usage.name ws vs (zip_back SameVariable SameVariable variable_back vs ws pair.text.variables)) named in
      let before = allowed was.0 was.1 v.0 (subst (λ n. variable_named n vs ≡ Some v.0) (sym was.2.name) v.1) in
      allowed_by v.0 w usage.location (variable_back w v.0 v.2) (allowed_still v.0.value.value was.0.location usage.location was.2.location before)
