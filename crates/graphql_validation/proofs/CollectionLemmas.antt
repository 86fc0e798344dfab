-- The steps of a walk that collects fields.
use Rattle.std.proofs.Common.{◌≡◌, ◌∷◌, ◌++◌, ◌∙◌, [], List, None, Option, Some, ap, refl, subst, sym, ◌⊎◌}
use Rattle.std.proofs.lemmas.List.{append-nil, append_assoc}
use Rattle.std.proofs.lemmas.Option.{same_Some}
use Rattle.std.specs.Prelude.{◌↔◌, IfSome, IsFalse, IsTrue, Vec}
use Rattle.graphql_specification.specs.CollectFields.{AppliesTo, CollectsFrom, applies_interface, applies_itself, applies_union, collect_next, collected_all, collects_field, collects_inline_fragment, collects_none, collects_past_inline_fragment, collects_past_set, collects_past_spread, collects_set, collects_spread}
use Rattle.graphql_specification.specs.Merging.{FieldSelection}
use Rattle.graphql_nodes.specs.Names.{NameText, SameName, stands_on}
use Rattle.graphql_documents.specs.Schemas.{IsListed, IsSubtype, IsSubtypeOf, interfaces_of, type_definition}
use Rattle.graphql_documents.specs.Selections.{Fragments, fragments_of, selections_of}
use Rattle.graphql_documents.specs.declared.documents.executables.Field.{Field}
use Rattle.graphql_documents.specs.declared.documents.executables.Fragment.{Fragment}
use Rattle.graphql_documents.specs.declared.documents.executables.FragmentSpread.{FragmentSpread}
use Rattle.graphql_documents.specs.declared.documents.executables.InlineFragment.{InlineFragment}
use Rattle.graphql_documents.specs.declared.documents.executables.Selection.TheVariants as kind
use Rattle.graphql_documents.specs.declared.documents.executables.Selection.{Selection}
use Rattle.graphql_documents.specs.declared.documents.executables.SelectionSet.{SelectionSet}
use Rattle.graphql_nodes.specs.declared.nodes.Node.{Node}
use Rattle.graphql_documents.specs.declared.documents.schemas.ExtendedType.TheVariants as types
use Rattle.graphql_documents.specs.declared.documents.schemas.ExtendedType.{ExtendedType}
use Rattle.graphql_documents.specs.declared.documents.schemas.ObjectType.{ObjectType}
use Rattle.graphql_documents.specs.declared.documents.schemas.Schema.{Schema}
use Rattle.graphql_field_conflicts.specs.FieldSelections.{listed}
use Rattle.graphql_field_conflicts.specs.declared.field_selections.FieldSelection as Code
use Rattle.std.specs.declared.alloc.Global.{Global}
use Rattle.graphql_validation.specs.CollectionSteps.{CollectsMore, WalksAmong, WalksIn, WalksOver, visited_of, walks_none, walks_next}
use Rattle.graphql_validation.specs.declared.collect.CollectedFields.{CollectedFields}
use Rattle.graphql_validation.specs.declared.collect.FieldCollection.{FieldCollection}
use Rattle.graphql_validation.proofs.CollectingLemmas.{among_then}

module _ (schema : Schema) (object ty : NameText) (d : Node ObjectType) (is_object : type_definition schema object ≡ Some (types.Object d)) where
  same_object : (e : Node ObjectType) → type_definition schema object ≡ Some (types.Object e) → types.Object d ≡ types.Object e
  same_object e is = same_Some (types.Object d) (types.Object e) (sym is_object ∙ is)

  subtype_applies : (o : Option ExtendedType) → type_definition schema ty ≡ o → IsSubtypeOf schema ty o object → AppliesTo schema object ty
  subtype_applies None is sub = absurd sub
  subtype_applies (Some (types.Union u)) is sub = applies_union is_object is sub
  subtype_applies (Some (types.Interface i)) is sub =
      applies_interface is_object is
      (subst (λ e. IsListed ty (interfaces_of e)) (sym (same_Some (types.Object d) sub.definition (sym is_object ∙ sub.defined))) sub.lists)
  subtype_applies (Some (types.Object e)) is sub = absurd sub
  subtype_applies (Some (types.Scalar e)) is sub = absurd sub
  subtype_applies (Some (types.Enum e)) is sub = absurd sub
  subtype_applies (Some (types.InputObject e)) is sub = absurd sub

  applying_is_subtype : ¬ SameName ty object → AppliesTo schema object ty → IsSubtype schema ty object
  applying_is_subtype other (applies_itself same) = absurd (other same)
  applying_is_subtype other (applies_interface {d = e} {i = i} o is lists) =
      subst (λ q. IsSubtypeOf schema ty q object) (sym is) (record { definition = types.Object e; defined = o; lists = lists })
  applying_is_subtype other (applies_union {u = u} o is lists) = subst (λ q. IsSubtypeOf schema ty q object) (sym is) lists

  -- of an object, a type of another name applies where the object is a subtype of it
  pub applies_as_subtype : ¬ SameName ty object → IsSubtype schema ty object ↔ AppliesTo schema object ty
  applies_as_subtype other = (subtype_applies (type_definition schema ty) refl, applying_is_subtype other)

-- of a name that is no object's, no other type applies
pub only_itself_applies : (schema : Schema) (object ty : NameText) → ¬ SameName ty object → ((d : Node ObjectType) → ¬ (type_definition schema object ≡ Some (types.Object d))) →
    ¬ AppliesTo schema object ty
only_itself_applies schema object ty other none (applies_itself same) = other same
only_itself_applies schema object ty other none (applies_interface {d = d} o is lists) = none d o
only_itself_applies schema object ty other none (applies_union {d = d} o is lists) = none d o

module _ (of : FieldCollection) where
  abbrev S : Schema
  S = of.schema.now

  abbrev F : Fragments
  F = fragments_of of.document.now

  abbrev Applies : NameText → Type 0
  Applies = AppliesTo S of.object_type.now

  pub nothing_more : {found : CollectedFields} (parent : NameText) → CollectsMore found found (WalksAmong of parent [])
  nothing_more {found} parent = record { fields = []; walks = collects_none; appended = sym (append-nil (listed found.fields.items)) }

  pub more_then : {old mid new : CollectedFields} (parent : NameText) (xs ys : List Selection) → CollectsMore old mid (WalksAmong of parent xs) → CollectsMore mid new (WalksAmong of parent ys) →
      CollectsMore old new (WalksAmong of parent (xs ++ ys))
  more_then {old} {mid} {new} parent xs ys a b = record {
    fields = a.fields ++ b.fields;
    walks = among_then S F of.object_type.now a.walks b.walks;
    appended = b.appended ∙ ap (λ l. l ++ b.fields) a.appended ∙ append_assoc (listed old.fields.items) a.fields b.fields;
  }

  -- a set that applies, and one that does not
  pub set_collected : {old new : CollectedFields} (set : SelectionSet) → Applies set.ty → CollectsMore old new (WalksAmong of set.ty (selections_of set)) →
      CollectsMore old new (WalksIn of set)
  set_collected set applies c = record { fields = c.fields; walks = collects_set applies c.walks; appended = c.appended }

  pub set_passed : {found : CollectedFields} (set : SelectionSet) → ¬ Applies set.ty → CollectsMore found found (WalksIn of set)
  set_passed {found} set no' = record { fields = []; walks = collects_past_set no'; appended = sym (append-nil (listed found.fields.items)) }

  -- each kind of selection
  pub field_collected : {old new : CollectedFields} (parent : NameText) (f : Node Field) (s : Selection) → s ≡ kind.Field f → visited_of new ≡ visited_of old →
      listed new.fields.items ≡ listed old.fields.items ++ record { parent = parent; field = f } ∷ [] → CollectsMore old new (WalksAmong of parent (s ∷ []))
  field_collected {old} {new} parent f s is visited pushed = record {
    fields = record { parent = parent; field = f } ∷ [];
    walks = subst (λ q. WalksAmong of parent (q ∷ []) (visited_of old) (record { parent = parent; field = f } ∷ []) (visited_of new)) (sym is)
        (subst (WalksAmong of parent (kind.Field f ∷ []) (visited_of old) (record { parent = parent; field = f } ∷ [])) (sym visited) (collects_field f collects_none));
    appended = pushed;
  }

  inside_one : {old new : CollectedFields} (set : SelectionSet) (c : CollectsMore old new (WalksIn of set)) → listed new.fields.items ≡ listed old.fields.items ++ (c.fields ++ [])
  inside_one {old} set c = c.appended ∙ ap (λ l. listed old.fields.items ++ l) (sym (append-nil c.fields))

  pub inline_collected : {old new : CollectedFields} (parent : NameText) (i : Node InlineFragment) (s : Selection) → s ≡ kind.InlineFragment i →
      IfSome i.value.value.type_condition Applies → CollectsMore old new (WalksIn of i.value.value.selection_set) → CollectsMore old new (WalksAmong of parent (s ∷ []))
  inline_collected {old} {new} parent i s is condition c = record {
    fields = c.fields ++ [];
    walks = subst (λ q. WalksAmong of parent (q ∷ []) (visited_of old) (c.fields ++ []) (visited_of new)) (sym is) (collects_inline_fragment i condition c.walks collects_none);
    appended = inside_one i.value.value.selection_set c;
  }

  pub inline_passed : {found : CollectedFields} (parent : NameText) (i : Node InlineFragment) (s : Selection) → s ≡ kind.InlineFragment i →
      ¬ IfSome i.value.value.type_condition Applies → CollectsMore found found (WalksAmong of parent (s ∷ []))
  inline_passed {found} parent i s is no' = by_condition i.value.value.type_condition refl where
    by_condition : (o : Option NameText) → i.value.value.type_condition ≡ o → CollectsMore found found (WalksAmong of parent (s ∷ []))
    by_condition None e = absurd (no' (subst (λ q. IfSome q Applies) (sym e) tt))
    by_condition (Some condition) e = record {
      fields = [];
      walks = subst (λ q. WalksAmong of parent (q ∷ []) (visited_of found) [] (visited_of found)) (sym is)
          (collects_past_inline_fragment i e (λ a. no' (subst (λ q. IfSome q Applies) (sym e) a)) collects_none);
      appended = sym (append-nil (listed found.fields.items));
    }

  pub spread_passed : {old new : CollectedFields} (parent : NameText) (p : Node FragmentSpread) →
      IsTrue (stands_on (visited_of old) p.value.value.fragment_name) ⊎ (F p.value.value.fragment_name ≡ None) → visited_of new ≡ visited_of old → new.fields ≡ old.fields →
      CollectsMore old new (WalksAmong of parent (kind.FragmentSpread p ∷ []))
  spread_passed {old} parent p past same kept = record {
    fields = [];
    walks = subst (WalksAmong of parent (kind.FragmentSpread p ∷ []) (visited_of old) []) (sym same) (collects_past_spread p past collects_none);
    appended = ap (λ (f : Vec Code.FieldSelection Global). listed f.items) kept ∙ sym (append-nil (listed old.fields.items));
  }

  pub spread_collected : {old mid new : CollectedFields} (parent : NameText) (p : Node FragmentSpread) (d : Node Fragment) →
      IsFalse (stands_on (visited_of old) p.value.value.fragment_name) → F p.value.value.fragment_name ≡ Some d →
      visited_of mid ≡ visited_of old ++ p.value.value.fragment_name ∷ [] → listed mid.fields.items ≡ listed old.fields.items →
      CollectsMore mid new (WalksIn of d.value.value.selection_set) → CollectsMore old new (WalksAmong of parent (kind.FragmentSpread p ∷ []))
  spread_collected {old} {mid} {new} parent p d unvisited found marked same c = record {
    fields = c.fields ++ [];
    walks = collects_spread p d unvisited found
        (subst (λ names. WalksIn of d.value.value.selection_set names c.fields (visited_of new)) marked c.walks) collects_none;
    appended = inside_one d.value.value.selection_set c ∙ ap (λ l. l ++ (c.fields ++ [])) same;
  }

  -- several sets, one after another
  pub over_then : {seen mid visited : List NameText} {sets : List SelectionSet} (set : SelectionSet) {fs gs : List FieldSelection} →
      WalksOver of sets seen fs mid → WalksIn of set mid gs visited → WalksOver of (sets ++ set ∷ []) seen (fs ++ gs) visited
  over_then {seen} {visited = visited} set {gs = gs} walks_none inside =
      subst (λ l. WalksOver of (set ∷ []) seen l visited) (append-nil gs) (walks_next inside walks_none)
  over_then {seen} {visited = visited} set {gs = gs} (walks_next {set = first} {sets = sets} {within = within} {fields = fields} inside rest) last =
      subst (λ l. WalksOver of (first ∷ (sets ++ set ∷ [])) seen l visited) (sym (append_assoc within fields gs)) (walks_next inside (over_then set rest last))

  pub over_more : {old mid new : CollectedFields} (sets : List SelectionSet) (set : SelectionSet) → CollectsMore old mid (WalksOver of sets) → CollectsMore mid new (WalksIn of set) →
      CollectsMore old new (WalksOver of (sets ++ set ∷ []))
  over_more {old} sets set a b = record {
    fields = a.fields ++ b.fields;
    walks = over_then set a.walks b.walks;
    appended = b.appended ∙ ap (λ l. l ++ b.fields) a.appended ∙ append_assoc (listed old.fields.items) a.fields b.fields;
  }

  pub over_none : {found : CollectedFields} → CollectsMore found found (WalksOver of [])
  over_none {found} = record { fields = []; walks = walks_none; appended = sym (append-nil (listed found.fields.items)) }

  pub collected_over : {seen visited : List NameText} {sets : List SelectionSet} {fields : List FieldSelection} → WalksOver of sets seen fields visited →
      CollectsFrom S F of.object_type.now seen sets fields
  collected_over walks_none = collected_all
  collected_over (walks_next inside rest) = collect_next inside (collected_over rest)
