use Rattle.std.proofs.Common.{◌≡◌, false, refl, sym, ap, ◌∙◌, subst, rules, true≢false}
use Rattle.std.specs.Prelude.{IsSome, is_some}
use Rattle.graphql_specification.specs.Implementations.{of_missing_field, field_under}
use Rattle.graphql_documents.specs.declared.documents.definitions.FieldDefinition.{FieldDefinition}
use Rattle.graphql_diagnostics.proofs.ReportLemmas.{checks-push, holds}
use Rattle.graphql_implementations.proofs.ImplementationLemmas.{found_under, is_missing}
use Rattle.graphql_implementations.proofs.fields.check_is_provided.Goals as goal

pub returns-then-contains_key : goal.returns-then-contains_key
returns-then-contains_key c =
    let fields = c.args.implementer.now.fields.now.entries in
    let asked : is_some (field_under c.deref.result.now.name fields) ≡ c.contains_key.result =
    ap is_some (sym (found_under fields c.deref.result.now.name)) ∙ sym c.contains_key.ensures in
    holds _ _ _ (subst (λ (d : FieldDefinition). IsSome (field_under d.name fields)) c.deref.ensures (asked ∙ c.if-contains_key.true))

pub returns : goal.returns
returns c =
    let fields = c.args.implementer.now.fields.now.entries in
    let asked : is_some (field_under c.deref.result.now.name fields) ≡ c.contains_key.result =
    ap is_some (sym (found_under fields c.deref.result.now.name)) ∙ sym c.contains_key.ensures in
    let none : is_some (field_under c.args.wanted.now.node.value.value.name fields) ≡ false =
    subst (λ (d : FieldDefinition). is_some (field_under d.name fields) ≡ false) c.deref.ensures (asked ∙ c.if-contains_key.false) in
    checks-push _ _ _ _ _ _ c.push.ensures.ok c.push.ensures.err (λ has. true≢false (sym has ∙ none))
    (of_missing_field (record {
      listed = c.args.listed.now;
      of_interface = c.requires.1.interface;
      entry = (c.requires.0, c.args.wanted.now);
      is_listed = c.requires.1.is_listed;
      stands = c.requires.1.stands;
      missing = is_missing (field_under c.args.wanted.now.node.value.value.name fields) none;
      name_is = c.in_ok-name.ensures.cases;
      interface_is = c.in_ok-interface.ensures.cases;
      field_is = search rules;
      implements_location_is = c.location.ensures;
      field_location_is = refl;
      at_is = refl;
    }))
