-- Where selections of two documents of one tree are: on types of one name, composite in the first schema, where the first document holds.
-- Specification: 5.3 Fields, 5.5 Fragments.
use Rattle.std.proofs.Common.{◌≡◌, ◌∙◌, List, [], Option, None, Some, refl, sym, ap, subst}
use Rattle.std.specs.Prelude.{◌≢◌, Contains, unwrap_or}
use Rattle.std.specs.Result.{result_ok}
use Rattle.graphql_nodes.specs.Names.{NameText}
use Rattle.graphql_nodes.specs.declared.nodes.Node.{Node}
use Rattle.graphql_documents.proofs.ListLemmas.{none_stands}
use Rattle.graphql_documents.specs.Schemas.{type_field}
use Rattle.graphql_documents.specs.Selections.{Fragments, Includes, IsSubselectionParent, Reachable, ReachableOn, definition_at, includes_inline_fragment, includes_itself, includes_spread, parent_known, parent_unknown, reachable_below, reachable_in_field, reachable_in_inline_fragment, reachable_in_spread, reachable_inside, selections_of, standing_at, type_under, without}
use Rattle.graphql_documents.specs.declared.documents.components.Component.{Component}
use Rattle.graphql_documents.specs.declared.documents.definitions.FieldDefinition.{FieldDefinition}
use Rattle.graphql_documents.specs.declared.documents.definitions.VariableDefinition.{VariableDefinition}
use Rattle.graphql_documents.specs.declared.documents.executables.Field.{Field}
use Rattle.graphql_documents.specs.declared.documents.executables.Fragment.{Fragment}
use Rattle.graphql_documents.specs.declared.documents.executables.FragmentSpread.{FragmentSpread}
use Rattle.graphql_documents.specs.declared.documents.executables.InlineFragment.{InlineFragment}
use Rattle.graphql_documents.specs.declared.documents.executables.Selection.{Selection}
use Rattle.graphql_documents.specs.declared.documents.executables.Selection.TheVariants as kind
use Rattle.graphql_documents.specs.declared.documents.executables.SelectionSet.{SelectionSet}
use Rattle.graphql_documents.specs.declared.documents.schemas.Schema.{Schema}
use Rattle.graphql_specification.specs.Fragments.{NamesComposite}
use Rattle.graphql_specification.specs.Selections.{ReachableSelectionsHold}
use Rattle.graphql_document_building.specs.Documents.{HasOutputFields}
use Rattle.graphql_document_building.specs.SameDocuments.{SameSpread}
use Rattle.graphql_document_building.specs.Trees.{type_below}
use Rattle.graphql_schema_changes.specs.Keeps.{KeepsLoneFieldsValid}
use Rattle.graphql_kept_rules.proofs.FoundLemmas.{one_some}
use Rattle.graphql_kept_rules.proofs.KeptBuildingLemmas.{composite_output}
use Rattle.graphql_kept_rules.proofs.PairedLemmas.{Paired, PairedField, PairedInline, below_field, defined, field_pair, in_inline, inline_pair, no_leaf, spread_pair}
use Rattle.graphql_kept_rules.proofs.PairedDocumentLemmas.{PairedFragment, PairedFragments}
use Rattle.graphql_kept_rules.proofs.TurnedLemmas.{turned_side}

-- ==== what is selected from is not empty

some_in : {X : Type 0} (xs : List X) (x : X) → Contains xs x → xs ≢ []
some_in xs x c e = none_stands x (subst (λ ys. Contains ys x) e c)

pub some_on : {schema : Option Schema} {fragments : Fragments} {parent at : Option NameText} {xs : List Selection} {s : Selection} →
    ReachableOn schema fragments parent xs s at → xs ≢ []
some_on (standing_at {selections = xs} {s = s} c) = some_in xs s c
some_on (reachable_in_field {selections = xs} f c is inner) = some_in xs (kind.Field f) c
some_on (reachable_in_inline_fragment {selections = xs} i c inner) = some_in xs (kind.InlineFragment i) c
some_on (reachable_in_spread {selections = xs} {p = p} d c is inner) = some_in xs (kind.FragmentSpread p) c

pub some_included : {fragments : Fragments} {set inner : SelectionSet} (s : Selection) → Includes fragments set inner → Contains (selections_of inner) s → selections_of set ≢ []
some_included s (includes_itself {set = set}) c = some_in (selections_of set) s c
some_included s (includes_inline_fragment {set = set} {i = i} stands inner) c = some_in (selections_of set) (kind.InlineFragment i) stands
some_included s (includes_spread {set = set} {p = p} stands is inner) c = some_in (selections_of set) (kind.FragmentSpread p) stands

some_reached : {fragments : Fragments} {set : SelectionSet} {s : Selection} → Reachable fragments set s → selections_of set ≢ []
some_reached (reachable_inside {s = s} inside) = some_included s inside.1 inside.2
some_reached (reachable_below {f = f} inside below) = some_included (kind.Field f) inside.1 inside.2

type_under_is : (schema : Schema) (p : NameText) (o : Option NameText) → type_under (Some schema) (Some p) o ≡ Some (unwrap_or o p)
type_under_is schema p None = refl
type_under_is schema p (Some condition) = refl

module _ (old new : Schema) (keeps : KeepsLoneFieldsValid old new) (outputs : HasOutputFields old)
    (before after : Fragments) (fragments : PairedFragments old new keeps before after) (variables : List (Node VariableDefinition)) where
  pub record Spot (a b : SelectionSet) : Type 0 where
    pub pair : Paired old new keeps.fields a b
    pub composite : NamesComposite old a.ty
    pub holds : ReachableSelectionsHold (Some old) [] before variables (Some a.ty) (selections_of a)

  module _ (a b : SelectionSet) (spot : Spot a b) where
    pub record SpotField (g : Node Field) : Type 0 where
      pub f : Node Field
      pub stands : Contains (selections_of a) (kind.Field f)
      pub pair : PairedField old new keeps.fields a b spot.pair f g
      pub below : selections_of g.value.value.selection_set ≢ [] → Spot f.value.value.selection_set g.value.value.selection_set

    parent_is : (f g : Node Field) (pair : PairedField old new keeps.fields a b spot.pair f g) →
        IsSubselectionParent (Some old) (Some a.ty) f.value.value.name (Some f.value.value.selection_set.ty)
    parent_is f g pair =
        let is = defined old new keeps.fields a b spot.pair f g pair in
        subst (λ n. IsSubselectionParent (Some old) (Some a.ty) f.value.value.name (Some n)) (sym is.was_set) (parent_known (ap result_ok is.was))

    pub spot_field : (g : Node Field) → Contains (selections_of b) (kind.Field g) → SpotField g
    spot_field g c =
        let here = field_pair old new keeps.fields a b spot.pair g c in
        let is = defined old new keeps.fields a b spot.pair here.0 g here.2 in
        record {
          f = here.0;
          stands = here.1;
          pair = here.2;
          below = λ some. record {
            pair = below_field old new keeps.fields a b spot.pair here.0 g here.2 is some;
            composite = subst (NamesComposite old) (sym is.was_set)
                (composite_output old (type_below is.d) (outputs a.ty here.0.value.value.name is.d is.was)
                (no_leaf old new keeps.fields a b spot.pair here.0 g here.2 is some));
            holds = record {
              fields = λ h at reached. spot.holds.fields h at (reachable_in_field here.0 here.1 (parent_is here.0 g here.2) reached);
              inline_fragments = λ h at reached. spot.holds.inline_fragments h at (reachable_in_field here.0 here.1 (parent_is here.0 g here.2) reached);
              spreads = λ h at reached. spot.holds.spreads h at (reachable_in_field here.0 here.1 (parent_is here.0 g here.2) reached);
            };
          };
        }

    pub record SpotInline (j : Node InlineFragment) : Type 0 where
      pub i : Node InlineFragment
      pub stands : Contains (selections_of a) (kind.InlineFragment i)
      pub pair : PairedInline old new keeps.fields a b spot.pair i j
      pub within : Spot i.value.value.selection_set j.value.value.selection_set

    condition_composite : (i : Node InlineFragment) → Contains (selections_of a) (kind.InlineFragment i) → (o : Option NameText) → i.value.value.type_condition ≡ o →
        NamesComposite old (unwrap_or o a.ty)
    condition_composite i c None is = spot.composite
    condition_composite i c (Some condition) is = (spot.holds.inline_fragments i (Some a.ty) (standing_at c)).target condition is old refl

    pub spot_inline : (j : Node InlineFragment) → Contains (selections_of b) (kind.InlineFragment j) → SpotInline j
    spot_inline j c =
        let here = inline_pair old new keeps.fields a b spot.pair j c in
        let i = here.0 in
        let condition = here.2.x.type_condition in
        let ty : i.value.value.selection_set.ty ≡ unwrap_or condition a.ty = here.2.before.set_type in
        let under : type_under (Some old) (Some a.ty) i.value.value.type_condition ≡ Some i.value.value.selection_set.ty =
        ap (type_under (Some old) (Some a.ty)) here.2.before.type_condition ∙ type_under_is old a.ty condition ∙ ap Some (sym ty) in
        record {
          i = i;
          stands = here.1;
          pair = here.2;
          within = record {
            pair = in_inline old new keeps.fields a b spot.pair i j here.2;
            composite = subst (NamesComposite old) (sym ty) (condition_composite i here.1 condition here.2.before.type_condition);
            holds = record {
              fields = λ h at reached. spot.holds.fields h at (reachable_in_inline_fragment i here.1
                  (subst (λ o. ReachableOn (Some old) (without [] before) o (selections_of i.value.value.selection_set) (kind.Field h) at) (sym under) reached));
              inline_fragments = λ h at reached. spot.holds.inline_fragments h at (reachable_in_inline_fragment i here.1
                  (subst (λ o. ReachableOn (Some old) (without [] before) o (selections_of i.value.value.selection_set) (kind.InlineFragment h) at) (sym under) reached));
              spreads = λ h at reached. spot.holds.spreads h at (reachable_in_inline_fragment i here.1
                  (subst (λ o. ReachableOn (Some old) (without [] before) o (selections_of i.value.value.selection_set) (kind.FragmentSpread h) at) (sym under) reached));
            };
          };
        }

    pub record SpotSpread (q : Node FragmentSpread) (e : Node Fragment) : Type 0 where
      pub p : Node FragmentSpread
      pub d : Node Fragment
      pub stands : Contains (selections_of a) (kind.FragmentSpread p)
      pub same : SameSpread p q
      pub is : before p.value.value.fragment_name ≡ Some d
      pub pair : PairedFragment old new keeps d e
      pub within : Spot d.value.value.selection_set e.value.value.selection_set

    pub spot_spread : (q : Node FragmentSpread) (e : Node Fragment) → Contains (selections_of b) (kind.FragmentSpread q) → after q.value.value.fragment_name ≡ Some e → SpotSpread q e
    spot_spread q e c found =
        let here = spread_pair old new keeps.fields a b spot.pair q c in
        let p = here.0 in
        let d = turned_side (PairedFragment old new keeps) (before q.value.value.fragment_name) (after q.value.value.fragment_name) e (fragments q.value.value.fragment_name) found in
        let is : before p.value.value.fragment_name ≡ Some d.0 = subst (λ n. before n ≡ Some d.0) (sym here.2.name) d.1 in
        let spread = spot.holds.spreads p (Some a.ty) (standing_at here.1) in
        let one : spread.definition ≡ d.0 = one_some (before p.value.value.fragment_name) spread.definition d.0 spread.defined is in
        record {
          p = p;
          d = d.0;
          stands = here.1;
          same = here.2;
          is = is;
          pair = d.2;
          within = record {
            pair = d.2.sets;
            composite = subst (λ (x : Node Fragment). NamesComposite old x.value.value.selection_set.ty) one ((spread.holds refl).target old refl);
            holds = record {
              fields = λ h at reached. spot.holds.fields h at (reachable_in_spread d.0 here.1 is reached);
              inline_fragments = λ h at reached. spot.holds.inline_fragments h at (reachable_in_spread d.0 here.1 is reached);
              spreads = λ h at reached. spot.holds.spreads h at (reachable_in_spread d.0 here.1 is reached);
            };
          };
        }

  -- ==== what is reached on a type

  pub record SpotOf (t : Selection) (at : Option NameText) : Type 0 where
    pub a : SelectionSet
    pub b : SelectionSet
    pub spot : Spot a b
    pub stands : Contains (selections_of b) t
    pub here : at ≡ Some b.ty

  pub reached_spot : {parent at : Option NameText} {ys : List Selection} {t : Selection} → ReachableOn (Some new) (without [] after) parent ys t at →
      (a b : SelectionSet) → Spot a b → parent ≡ Some b.ty → ys ≡ selections_of b → SpotOf t at
  reached_spot (standing_at {s = t} c) a b spot is all = record { a = a; b = b; spot = spot; stands = subst (λ ys. Contains ys t) all c; here = is }
  reached_spot (reachable_in_field g c parent inner) a b spot is all =
      let here = spot_field a b spot g (subst (λ ys. Contains ys (kind.Field g)) all c) in
      reached_spot inner here.f.value.value.selection_set g.value.value.selection_set (here.below (some_on inner)) (parent_after a b spot here.f g here.pair parent is) refl
    where
      parent_after : (a b : SelectionSet) (spot : Spot a b) (f g : Node Field) → PairedField old new keeps.fields a b spot.pair f g → {parent below : Option NameText} →
          IsSubselectionParent (Some new) parent g.value.value.name below → parent ≡ Some b.ty → below ≡ Some g.value.value.selection_set.ty
      parent_after a b spot f g pair parent_unknown is = absurd (let no : ⊥ = cc in no)
      parent_after a b spot f g pair (parent_known {d = e} found) is =
          let def = defined old new keeps.fields a b spot.pair f g pair in
          let there : definition_at (Some new) (Some b.ty) g.value.value.name ≡ Some e = subst (λ o. definition_at (Some new) o g.value.value.name ≡ Some e) is found in
          let one : def.e ≡ e = one_some (result_ok (type_field new b.ty g.value.value.name)) def.e e (ap result_ok def.is) there in
          ap (λ (c : Component FieldDefinition). Some (type_below c)) (sym one) ∙ ap Some (sym def.is_set)
  reached_spot (reachable_in_inline_fragment {parent = parent} j c inner) a b spot is all =
      let here = spot_inline a b spot j (subst (λ ys. Contains ys (kind.InlineFragment j)) all c) in
      reached_spot inner here.i.value.value.selection_set j.value.value.selection_set here.within
      (ap (λ o. type_under (Some new) o j.value.value.type_condition) is ∙ ap (type_under (Some new) (Some b.ty)) here.pair.after.type_condition ∙
      type_under_is new b.ty here.pair.x.type_condition ∙ ap Some (sym here.pair.after.set_type)) refl
  reached_spot (reachable_in_spread {parent = parent} {p = q} e c found inner) a b spot is all =
      let here = spot_spread a b spot q e (subst (λ ys. Contains ys (kind.FragmentSpread q)) all c) found in
      reached_spot inner here.d.value.value.selection_set e.value.value.selection_set here.within
      (ap (λ o. type_under (Some new) o (Some e.value.value.selection_set.ty)) is) refl

  -- ==== what is inside a set, and below it

  pub record SpotWithin (a inner : SelectionSet) : Type 0 where
    pub within : SelectionSet
    pub includes : Includes before a within
    pub spot : Spot within inner

  pub included_spot : {b inner : SelectionSet} → Includes after b inner → (a : SelectionSet) → Spot a b → SpotWithin a inner
  included_spot (includes_itself {set = b}) a spot = record { within = a; includes = includes_itself; spot = spot }
  included_spot (includes_inline_fragment {set = b} {i = j} c inner) a spot =
      let here = spot_inline a b spot j c in
      let deep = included_spot inner here.i.value.value.selection_set here.within in
      record { within = deep.within; includes = includes_inline_fragment here.stands deep.includes; spot = deep.spot }
  included_spot (includes_spread {set = b} {p = q} {d = e} c found inner) a spot =
      let here = spot_spread a b spot q e c found in
      let deep = included_spot inner here.d.value.value.selection_set here.within in
      record { within = deep.within; includes = includes_spread here.stands here.is deep.includes; spot = deep.spot }

  pub record SpotReached (a : SelectionSet) (t : Selection) : Type 0 where
    pub within : SelectionSet
    pub inner : SelectionSet
    pub spot : Spot within inner
    pub stands : Contains (selections_of inner) t
    pub reached : (s : Selection) → Contains (selections_of within) s → Reachable before a s

  pub reachable_spot : {b : SelectionSet} {t : Selection} → Reachable after b t → (a : SelectionSet) → Spot a b → SpotReached a t
  reachable_spot (reachable_inside {set = b} {s = t} inside) a spot =
      let here = included_spot inside.1 a spot in
      record { within = here.within; inner = inside.0; spot = here.spot; stands = inside.2; reached = λ s c. reachable_inside (here.within, here.includes, c) }
  reachable_spot (reachable_below {set = b} {s = t} {f = g} inside below) a spot =
      let here = included_spot inside.1 a spot in
      let field = spot_field here.within inside.0 here.spot g inside.2 in
      let deep = reachable_spot below field.f.value.value.selection_set (field.below (some_reached below)) in
      record {
        within = deep.within;
        inner = deep.inner;
        spot = deep.spot;
        stands = deep.stands;
        reached = λ s c. reachable_below (here.within, here.includes, field.stands) (deep.reached s c);
      }
