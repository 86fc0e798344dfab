use Rattle.std.proofs.Common.{◌∙◌, refl, subst, sym, rules, true≢false}
use Rattle.std.specs.Prelude.{IsTrue}
use Rattle.graphql_diagnostics.proofs.ReportLemmas.{holds, checks-push}
use Rattle.graphql_documents.specs.declared.documents.definitions.InputValueDefinition.{InputValueDefinition}
use Rattle.graphql_documents.specs.Schemas.{is_required}
use Rattle.graphql_specification.specs.Values.{IsFieldProvided, within_itself}
use Rattle.graphql_values.proofs.value.objects.check_required_field.Goals as goal

pub returns-then-is_satisfied : goal.returns-then-is_satisfied
returns-then-is_satisfied c = λ schema variables ty is.
    let given : IsFieldProvided c.args.entries.now (c.args.name.now, c.args.field.now) = search rules in
    holds _ _ _ given

pub returns : goal.returns
returns c = λ schema variables ty is.
    let missing : ¬ IsFieldProvided c.args.entries.now (c.args.name.now, c.args.field.now) =
    λ provided. true≢false (sym (c.is_satisfied.ensures.1
    (λ required. provided (subst (λ (d : InputValueDefinition). IsTrue (is_required d)) c.deref.ensures required))) ∙
    c.if-is_satisfied.false) in
    checks-push _ _ _ _ _ _ c.push.ensures.ok c.push.ensures.err missing
    (record {
      inner_ty = ty;
      inner = c.args.value.now;
      lies = within_itself;
      broken = record {
        definition = c.args.input_object.now;
        field = (c.args.name.now, c.args.field.now);
        entries = c.requires.object.entries;
        defined = is;
        is_object = c.requires.object.is_object;
        is_field = c.requires.stands;
        missing = subst (λ l. ¬ IsFieldProvided l (c.args.name.now, c.args.field.now)) c.requires.object.given_is missing;
        name_is = search rules;
        coordinate_is = search rules;
        expected_is = record { same_value = search rules; same_location = search rules };
        definition_location_is = refl;
        at_is = refl;
      };
    })
