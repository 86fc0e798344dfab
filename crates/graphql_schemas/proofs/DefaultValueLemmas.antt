-- How the checks of default values compose.
use Rattle.std.proofs.Common.{◌≡◌, List, [], ◌∷◌, ◌++◌, refl, sym, ap, subst, ◌∙◌, All, Contains, false, true≢false}
use Rattle.std.specs.Prelude.{Result, None, Some, flat_map, map}
use Rattle.std.proofs.lemmas.Grind.{flat_map-append}
use Rattle.std.proofs.lemmas.List.{append-nil}
use Rattle.std.proofs.lemmas.List.Elements.{All-append, All-cons, All-head, All-nil, Contains-append_left, Contains-append_right}
use Rattle.std.proofs.lemmas.Option.{none-some, same_Some}
use Rattle.graphql_specification.specs.DefaultValues.{DefaultValueHolds, DefaultValuesHold, DefaultValuesReport, inputs_of}
use Rattle.graphql_diagnostics.specs.Diagnostics.{IsDiagnostic}
use Rattle.graphql_specification.specs.Values.{Accepts, ValueReport}
use Rattle.graphql_diagnostics.specs.Reports.{KeepsReports, Reports}
use Rattle.graphql_documents.specs.Schemas.{NamesKind, is_input_type, type_definition}
use Rattle.graphql_documents.specs.TypeReferences.{inner_named_type, reference_of}
use Rattle.graphql_diagnostics.specs.declared.lists.DiagnosticEntry.{DiagnosticEntry}
use Rattle.graphql_documents.specs.declared.documents.definitions.InputValueDefinition.{InputValueDefinition}
use Rattle.graphql_nodes.specs.declared.nodes.Node.{Node}
use Rattle.graphql_documents.specs.declared.documents.schemas.ExtendedType.{ExtendedType}
use Rattle.graphql_documents.specs.declared.documents.schemas.Schema.{Schema}
use Rattle.graphql_documents.specs.declared.documents.values.Value.{Value}
use Rattle.graphql_diagnostics.proofs.DiagnosticLemmas.{diagnostic_wider}
use Rattle.graphql_documents.proofs.ListLemmas.{All-append_left, All-append_right, stands_first, stands_flat, stands_next}
use Rattle.graphql_diagnostics.proofs.ReportLemmas.{ChecksList, both, checks_after, checks_words, in_words, kept_by, kept_then, kept_wider, wider}
use Rattle.graphql_schemas.specs.DefaultValueReports.{DefaultValueReport, InputDefaultsReport}

module _ (schema : Schema) where
  -- the default values of these hold
  abbrev pub Hold : List (Node InputValueDefinition) → Type 0
  Hold inputs = All (λ d. DefaultValueHolds schema d.value.value) inputs

  -- the entry names what is wrong with one of them
  abbrev pub Break : List (Node InputValueDefinition) → DiagnosticEntry → Type 0
  Break inputs = IsDiagnostic (InputDefaultsReport schema inputs)

  pub break_among : (some all : List (Node InputValueDefinition)) → ((d : Node InputValueDefinition) → Contains some d → Contains all d) →
      (e : DiagnosticEntry) → Break some e → Break all e
  break_among some all among e said =
      diagnostic_wider (InputDefaultsReport schema some) (InputDefaultsReport schema all) (λ r at broken. (broken.0, among broken.0 broken.1, broken.2)) e said

  pub one_breaks : (all : List (Node InputValueDefinition)) (d : Node InputValueDefinition) → Contains all d →
      (e : DiagnosticEntry) → IsDiagnostic (DefaultValueReport schema d.value.value) e → Break all e
  one_breaks all d in' e said = diagnostic_wider (DefaultValueReport schema d.value.value) (InputDefaultsReport schema all) (λ r at broken. (d, in', broken)) e said

  -- a walk over what has such inputs, one after another
  module _ {X : Type 0} (inputs : X → List (Node InputValueDefinition)) (all done left rest : List X) (x : X) (old mid new : List DiagnosticEntry)
      (split : all ≡ done ++ left) (next : left ≡ x ∷ rest) (before : Reports (Hold (flat_map inputs done)) (Break (flat_map inputs all)) old mid) where
    among : (d : Node InputValueDefinition) → Contains (inputs x) d → Contains (flat_map inputs all) d
    among d in' = stands_flat inputs all x d (stands_next all done left rest x split next) in'

    pub defaults_more : Reports (Hold (inputs x)) (Break (inputs x)) mid new → Reports (Hold (flat_map inputs (done ++ x ∷ []))) (Break (flat_map inputs all)) old new
    defaults_more checked =
        let P = λ (d : Node InputValueDefinition). DefaultValueHolds schema d.value.value in
        let more : flat_map inputs (done ++ x ∷ []) ≡ flat_map inputs done ++ inputs x =
        flat_map-append inputs done (x ∷ []) ∙ ap (λ l. flat_map inputs done ++ l) (append-nil (inputs x)) in
        in_words (
          λ p. subst (All P) (sym more) (All-append P (flat_map inputs done) (inputs x) p.0 p.1),
          λ h. let h' : All P (flat_map inputs done ++ inputs x) = subst (All P) more h in
              (All-append_left P (flat_map inputs done) (inputs x) h', All-append_right P (flat_map inputs done) (inputs x) h'),
        )
        (both before (wider (break_among (inputs x) (flat_map inputs all) among) checked))

    pub defaults_refused : KeepsReports (Break (inputs x)) mid new → KeepsReports (Break (flat_map inputs all)) old new
    defaults_refused kept = kept_then (kept_by before) (kept_wider (break_among (inputs x) (flat_map inputs all) among) kept)

  pub defaults_all : {X : Type 0} (inputs : X → List (Node InputValueDefinition)) (all done left : List X) (old new : List DiagnosticEntry) → all ≡ done ++ left → left ≡ [] →
      Reports (Hold (flat_map inputs done)) (Break (flat_map inputs all)) old new → Reports (Hold (flat_map inputs all)) (Break (flat_map inputs all)) old new
  defaults_all inputs all done left old new split none r =
      subst (λ l. Reports (Hold (flat_map inputs l)) (Break (flat_map inputs all)) old new) (sym (split ∙ ap (λ l. done ++ l) none ∙ append-nil done)) r

  -- each of these is an input itself
  pub mapped : {X : Type 0} (input : X → Node InputValueDefinition) (xs : List X) → flat_map (λ x. input x ∷ []) xs ≡ map input xs
  mapped input [] = refl
  mapped input (x ∷ xs) = ap (λ l. input x ∷ l) (mapped input xs)

  -- what has no default value of a defined input type
  pub no_type : (d : InputValueDefinition) → type_definition schema (inner_named_type d.ty.value.value) ≡ None → DefaultValueHolds schema d
  no_type d none kind value is = absurd (none-some kind.0 (sym none ∙ kind.1))

  pub no_input_type : (d : InputValueDefinition) (t : ExtendedType) → type_definition schema (inner_named_type d.ty.value.value) ≡ Some t → is_input_type t ≡ false →
      DefaultValueHolds schema d
  no_input_type d t is_t other kind value is = absurd (true≢false (sym kind.2 ∙ ap is_input_type (same_Some kind.0 t (sym kind.1 ∙ is_t)) ∙ other))

  -- the same inputs
  pub same_inputs : {T E : Type 0} (result : Result T E) (xs ys : List (Node InputValueDefinition)) (old new : List DiagnosticEntry) → xs ≡ ys →
      ChecksList result (Hold xs) (Break xs) old new → ChecksList result (Hold ys) (Break ys) old new
  same_inputs result xs ys old new same c = subst (λ l. ChecksList result (Hold l) (Break l) old new) same c

  pub same_reports : (xs ys : List (Node InputValueDefinition)) (old new : List DiagnosticEntry) → xs ≡ ys → Reports (Hold xs) (Break xs) old new → Reports (Hold ys) (Break ys) old new
  same_reports xs ys old new same r = subst (λ l. Reports (Hold l) (Break l) old new) same r

  pub same_kept : (xs ys : List (Node InputValueDefinition)) (old new : List DiagnosticEntry) → xs ≡ ys → KeepsReports (Break xs) old new → KeepsReports (Break ys) old new
  same_kept xs ys old new same k = subst (λ l. KeepsReports (Break l) old new) same k

  -- one input alone
  pub one_reports : (d : Node InputValueDefinition) (old new : List DiagnosticEntry) →
      Reports (DefaultValueHolds schema d.value.value) (IsDiagnostic (DefaultValueReport schema d.value.value)) old new → Reports (Hold (d ∷ [])) (Break (d ∷ [])) old new
  one_reports d old new r =
      let P = λ (d : Node InputValueDefinition). DefaultValueHolds schema d.value.value in
      in_words (λ h. All-cons P d [] h (All-nil P), λ all. All-head P d [] all) (wider (one_breaks (d ∷ []) d (stands_first d [])) r)

  pub one_kept : (d : Node InputValueDefinition) (old new : List DiagnosticEntry) →
      KeepsReports (IsDiagnostic (DefaultValueReport schema d.value.value)) old new → KeepsReports (Break (d ∷ [])) old new
  one_kept d old new k = kept_wider (one_breaks (d ∷ []) d (stands_first d [])) k

  -- a default value that is checked
  pub default_checked : {T E : Type 0} (result : Result T E) (d : InputValueDefinition) (value : Node Value) (old new : List DiagnosticEntry) →
      NamesKind schema is_input_type (inner_named_type d.ty.value.value) → d.default_value ≡ Some value →
      ChecksList result (Accepts schema [] d.ty.value.value value.value.value) (IsDiagnostic (ValueReport schema [] (reference_of d.ty) value)) old new →
      ChecksList result (DefaultValueHolds schema d) (IsDiagnostic (DefaultValueReport schema d)) old new
  default_checked result d value old new kind is checked =
      checks_words result (Accepts schema [] d.ty.value.value value.value.value) (DefaultValueHolds schema d)
      (IsDiagnostic (ValueReport schema [] (reference_of d.ty) value)) (IsDiagnostic (DefaultValueReport schema d)) old new (
        λ accepts kind' other is'. subst (λ (v : Node Value). Accepts schema [] d.ty.value.value v.value.value) (same_Some value other (sym is ∙ is')) accepts,
        λ h. h kind value is,
      )
      (diagnostic_wider (ValueReport schema [] (reference_of d.ty) value) (DefaultValueReport schema d)
      (λ r at broken. record { value = value; kind_is = kind; is_default = is; broken = broken }))
      checked

  wrong : (inputs : List (Node InputValueDefinition)) → ((d : Node InputValueDefinition) → Contains inputs d → Contains (inputs_of schema) d) →
      (e : DiagnosticEntry) → Break inputs e → IsDiagnostic (DefaultValuesReport schema) e
  wrong inputs among e said =
      diagnostic_wider (InputDefaultsReport schema inputs) (DefaultValuesReport schema)
      (λ r at b. record { d = b.0; value = b.2.value; stands = among b.0 b.1; kind_is = b.2.kind_is; is_default = b.2.is_default; broken = b.2.broken }) e said

  -- the default values of some inputs, and then of the others
  pub defaults_then : {T E : Type 0} (result : Result T E) (xs ys : List (Node InputValueDefinition)) (old mid new : List DiagnosticEntry) → inputs_of schema ≡ xs ++ ys →
      Reports (Hold xs) (Break xs) old mid → ChecksList result (Hold ys) (Break ys) mid new →
      ChecksList result (DefaultValuesHold schema) (IsDiagnostic (DefaultValuesReport schema)) old new
  defaults_then result xs ys old mid new is a b =
      let P = λ (d : Node InputValueDefinition). DefaultValueHolds schema d.value.value in
      let Q = IsDiagnostic (DefaultValuesReport schema) in
      let first = wider (wrong xs (λ d in'. subst (λ l. Contains l d) (sym is) (Contains-append_left xs ys d in'))) a in
      let second =
      checks_words result (Hold ys) (Hold ys) (Break ys) Q mid new (λ h. h, λ h. h)
      (wrong ys (λ d in'. subst (λ l. Contains l d) (sym is) (Contains-append_right xs ys d in'))) b in
      checks_words result (Hold xs × Hold ys) (DefaultValuesHold schema) Q Q old new (
        λ p. subst (All P) (sym is) (All-append P xs ys p.0 p.1),
        λ h. let h' : All P (xs ++ ys) = subst (All P) is h in (All-append_left P xs ys h', All-append_right P xs ys h'),
      )
      (λ e q. q) (checks_after result (Hold xs) (Hold ys) Q old mid new first second)

  pub defaults_first_refused : (xs ys : List (Node InputValueDefinition)) (old new : List DiagnosticEntry) → inputs_of schema ≡ xs ++ ys →
      KeepsReports (Break xs) old new → KeepsReports (IsDiagnostic (DefaultValuesReport schema)) old new
  defaults_first_refused xs ys old new is kept =
      kept_wider (wrong xs (λ d in'. subst (λ l. Contains l d) (sym is) (Contains-append_left xs ys d in'))) kept
