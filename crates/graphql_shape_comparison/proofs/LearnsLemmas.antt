-- What a table of shapes knows, field by field.
use Rattle.std.proofs.Common.{◌≡◌, ◌∙◌, ◌++◌, ◌∷◌, ◌⊎◌, [], inl, inr, Bool, true, false, cond, List, Some, None, ap, refl, sym, subst, All}
use Rattle.std.specs.Prelude.{IfSome, IsNone, IsSome, IsSomeAnd, IsTrue, Option}
use Rattle.std.proofs.lemmas.List.{append-nil}
use Rattle.std.proofs.lemmas.List.Elements.{All-append, All-cons, All-nil, All-weaker}
use Rattle.graphql_nodes.specs.Names.{NameText}
use Rattle.graphql_documents.specs.Schemas.{fields_of, is_composite}
use Rattle.graphql_documents.specs.declared.documents.components.Component.{Component}
use Rattle.graphql_documents.specs.declared.documents.definitions.FieldDefinition.{FieldDefinition}
use Rattle.graphql_documents.specs.declared.documents.schemas.ExtendedType.{ExtendedType}
use Rattle.graphql_documents.specs.declared.documents.schemas.Schema.{Schema}
use Rattle.graphql_documents.specs.declared.documents.type_references.Type.{«Type»}
use Rattle.graphql_change_kinds.specs.Changes.{PartsFrom}
use Rattle.graphql_change_kinds.specs.Forms.{Form, form_in}
use Rattle.graphql_shape_comparison.specs.Shapes.{AreMeetings, HasOtherForm, IsMeeting, Knows, KnowsEntry, KnowsField, KnowsNoOther, KnowsType, Learns, ShapeTable, form_of, meeting_at}
use Rattle.graphql_shape_comparison.specs.declared.meetings.FieldPlace.{FieldPlace}
use Rattle.graphql_shape_comparison.specs.declared.meetings.Meeting.{Meeting}
use Rattle.graphql_shape_comparison.specs.declared.shapes.Shape.{Shape}
use Rattle.graphql_shape_comparison.proofs.ShapeLemmas.{equal_by_form, equal_forms, equal_shapes, meeting_alike}

abbrev pub Good : Form → Meeting → Type 0
Good form meeting = (form_of meeting.shape ≡ form) ⊎ IsSome meeting.other

-- ==== one field

module _ (m n : ShapeTable) (key : Shape) (w : Meeting) (updates : (q : Shape) → meeting_at n q ≡ cond (equal_shapes key q) (Some w) (meeting_at m q)) where
  put : (q : Shape) → equal_shapes key q ≡ true → meeting_at n q ≡ Some w
  put q same = updates q ∙ ap (λ b. cond b (Some w) (meeting_at m q)) same

  left : (q : Shape) → equal_shapes key q ≡ false → meeting_at n q ≡ meeting_at m q
  left q other = updates q ∙ ap (λ b. cond b (Some w) (meeting_at m q)) other

  stays_good : ((form : Form) → IsSomeAnd (meeting_at m key) (Good form) → Good form w) → (form : Form) (q : Shape) → IsSomeAnd (meeting_at m q) (Good form) → IsSomeAnd (meeting_at n q) (Good form)
  stays_good kept form q good = by (equal_shapes key q) refl where
    by : (b : Bool) → equal_shapes key q ≡ b → IsSomeAnd (meeting_at n q) (Good form)
    by true same =
        subst (λ (o : Option Meeting). IsSomeAnd o (Good form)) (sym (put q same))
        (kept form (subst (λ (o : Option Meeting). IsSomeAnd o (Good form)) (sym (meeting_alike m key q (equal_forms key q same))) good))
    by false other = subst (λ (o : Option Meeting). IsSomeAnd o (Good form)) (sym (left q other)) good

  still_meetings : (old new : Schema) → IsMeeting old new (form_of key) w → AreMeetings old new m → AreMeetings old new n
  still_meetings old new meets all q = by (equal_shapes key q) refl where
    by : (b : Bool) → equal_shapes key q ≡ b → IfSome (meeting_at n q) (IsMeeting old new (form_of q))
    by true same =
        subst (λ (o : Option Meeting). IfSome o (IsMeeting old new (form_of q))) (sym (put q same))
        (subst (λ form. IsMeeting old new form w) (equal_forms key q same) meets)
    by false other = subst (λ (o : Option Meeting). IfSome o (IsMeeting old new (form_of q))) (sym (left q other)) (all q)

  pub learned_at : (form : Form) → ((form : Form) → IsSomeAnd (meeting_at m key) (Good form) → Good form w) → Good form w →
      (old new : Schema) → (AreMeetings old new m → IsMeeting old new (form_of key) w) →
      Learns old new m n (λ table. Knows table (form_of key) form)
  learned_at form kept good old new meets = record {
    more = λ old new knows. record { key = knows.key; form = knows.form; met = λ q e. stays_good kept new q (knows.met q e) };
    known = record {
      key = key;
      form = refl;
      met = λ q e. subst (λ (o : Option Meeting). IsSomeAnd o (Good form)) (sym (put q (equal_by_form key q (sym e)))) good;
    };
    each = λ all. still_meetings old new (meets all) all;
  }

-- ==== several

abbrev pub KnowsMore : ShapeTable → ShapeTable → Type 0
KnowsMore a b = (old new : Form) → Knows a old new → Knows b old new

pub learned_here : {old new : Schema} {a : ShapeTable} {P : ShapeTable → Type 0} → P a → Learns old new a a P
learned_here p = record { more = λ old new knows. knows; known = p; each = λ all. all }

pub learned_words : {old new : Schema} {a b : ShapeTable} {P Q : ShapeTable → Type 0} → (P b → Q b) → Learns old new a b P → Learns old new a b Q
learned_words w l = record { more = l.more; known = w l.known; each = l.each }

-- one more of those that were gone through
pub learned_behind : {old new : Schema} {a b c : ShapeTable} {X : Type 0} (P : ShapeTable → X → Type 0) → (KnowsMore b c → (x : X) → P b x → P c x) → (done : List X) (x : X) →
    Learns old new a b (λ table. All (P table) done) → Learns old new b c (λ table. P table x) → Learns old new a c (λ table. All (P table) (done ++ x ∷ []))
learned_behind {old} {new} {a} {b} {c} P grows done x f g = record {
  more = λ old new knows. g.more old new (f.more old new knows);
  each = λ all. g.each (f.each all);
  known = All-append (P c) done (x ∷ []) (All-weaker (P b) (P c) (grows g.more) done f.known) (All-cons (P c) x [] g.known (All-nil (P c)));
}

pub learned_whole : {old new : Schema} {a b : ShapeTable} {X : Type 0} (P : ShapeTable → X → Type 0) (all done left : List X) → all ≡ done ++ left → left ≡ [] →
    Learns old new a b (λ table. All (P table) done) → Learns old new a b (λ table. All (P table) all)
learned_whole {old} {new} {a} {b} P all done left whole none f =
    learned_words (λ kept. subst (All (P b)) (sym (whole ∙ ap (λ l. done ++ l) none ∙ append-nil done)) kept) f

-- ==== types

module _ (old new : Schema) where
  pub entry_more : {a b : ShapeTable} → KnowsMore a b → (ty name : NameText) (field : Component FieldDefinition) → KnowsEntry a old new ty name field → KnowsEntry b old new ty name field
  entry_more more ty name field knows after there = more _ _ (knows after there)

  field_more : {a b : ShapeTable} → KnowsMore a b → (ty name : NameText) → KnowsField a old new ty name → KnowsField b old new ty name
  field_more more ty name knows before is = entry_more more ty name before (knows before is)

  own_more : {a b : ShapeTable} → KnowsMore a b → (ty : NameText) (d : ExtendedType) →
      All (λ (entry : NameText × Component FieldDefinition). KnowsEntry a old new ty entry.0 entry.1) (fields_of d) →
      All (λ (entry : NameText × Component FieldDefinition). KnowsEntry b old new ty entry.0 entry.1) (fields_of d)
  own_more {a} {b} more ty d all =
      All-weaker (λ (entry : NameText × Component FieldDefinition). KnowsEntry a old new ty entry.0 entry.1)
      (λ (entry : NameText × Component FieldDefinition). KnowsEntry b old new ty entry.0 entry.1) (λ entry knows. entry_more more ty entry.0 entry.1 knows) (fields_of d) all

  pub type_more : {a b : ShapeTable} → KnowsMore a b → (ty : NameText) (d : ExtendedType) → (IsTrue (is_composite d) → KnowsType a old new ty d) →
      IsTrue (is_composite d) → KnowsType b old new ty d
  type_more more ty d knows composite = let known = knows composite in record {
    own = own_more more ty d known.own;
    typename = field_more more ty _ known.typename;
    schema_field = field_more more ty _ known.schema_field;
    type_by_name = field_more more ty _ known.type_by_name;
  }

  pub type_learned : {a b c d e : ShapeTable} (ty : NameText) (definition : ExtendedType) →
      Learns old new a b (λ table. All (λ (entry : NameText × Component FieldDefinition). KnowsEntry table old new ty entry.0 entry.1) (fields_of definition)) →
      Learns old new b c (λ table. KnowsField table old new ty old.meta_fields.typename.node.value.value.name) →
      Learns old new c d (λ table. KnowsField table old new ty old.meta_fields.schema.node.value.value.name) →
      Learns old new d e (λ table. KnowsField table old new ty old.meta_fields.type_by_name.node.value.value.name) →
      Learns old new a e (λ table. IsTrue (is_composite definition) → KnowsType table old new ty definition)
  type_learned ty definition own typename schema_field by_name =
      record {
        more = λ o n k. by_name.more o n (schema_field.more o n (typename.more o n (own.more o n k)));
        each = λ all. by_name.each (schema_field.each (typename.each (own.each all)));
        known = λ composite. record {
          own = own_more (λ o n k. by_name.more o n (schema_field.more o n (typename.more o n k))) ty definition own.known;
          typename = field_more (λ o n k. by_name.more o n (schema_field.more o n k)) ty _ typename.known;
          schema_field = field_more by_name.more ty _ schema_field.known;
          type_by_name = by_name.known;
        };
      }

-- ==== what a look-up says

pub good_stays : (v w : Meeting) (o : Option Meeting) → Some v ≡ o → w.shape ≡ v.shape → (IsSome v.other → IsSome w.other) → (form : Form) → IsSomeAnd o (Good form) → Good form w
good_stays v w o at same others form good = by (subst (λ (o : Option Meeting). IsSomeAnd o (Good form)) (sym at) good) where
  by : Good form v → Good form w
  by (inl is) = inl (ap form_of same ∙ is)
  by (inr other) = inr (others other)

pub none_met : (table : ShapeTable) (shape : Shape) (before after : Form) → form_of shape ≡ before → meeting_at table shape ≡ None → KnowsNoOther table before after
none_met table shape before after is at key e =
    subst (λ (o : Option Meeting). IfSome o (λ meeting. (form_of meeting.shape ≡ after) × IsNone meeting.other)) (sym (meeting_alike table key shape (e ∙ sym is) ∙ at)) tt

pub one_met : (table : ShapeTable) (shape : Shape) (before after : Form) (meeting : Meeting) → form_of shape ≡ before → meeting_at table shape ≡ Some meeting →
    (form_of meeting.shape ≡ after) × IsNone meeting.other → KnowsNoOther table before after
one_met table shape before after meeting is at alone key e =
    subst (λ (o : Option Meeting). IfSome o (λ meeting. (form_of meeting.shape ≡ after) × IsNone meeting.other)) (sym (meeting_alike table key shape (e ∙ sym is) ∙ at)) alone

-- a field whose old type has the form of this one, and whose new type has not
pub parts_from : (old new : Schema) (from to : «Type») (before after : Form) (place : FieldPlace) → before ≡ form_in old from → after ≡ form_in new to →
    HasOtherForm old new before after place → PartsFrom old new from to (record { ty = place.ty.now; attribute = place.field.now })
parts_from old new from to before after place was is has =
    (has.0.0, has.2.0, has.0.1, has.2.1, has.0.2 ∙ was, λ same. has.3 (sym has.2.2 ∙ same ∙ sym is))
