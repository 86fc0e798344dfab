use Rattle.std.proofs.Common.{◌≡◌, Some, None, IsTrue, refl, subst, rules}
use Rattle.graphql_diagnostics.proofs.ReportLemmas.{holds, checks-push}
use Rattle.graphql_specification.specs.Values.{Accepts, within_itself}
use Rattle.graphql_nodes.specs.Names.{SameName}
use Rattle.graphql_documents.specs.Schemas.{is_input_type}
use Rattle.graphql_documents.specs.TypeReferences.{inner_named_type}
use Rattle.graphql_documents.specs.Definitions.{variable_named}
use Rattle.graphql_values.proofs.AcceptsLemmas.{variable_refused}
use Rattle.graphql_values.proofs.LeafLemmas.{variable_accepted, variable_cannot}
use Rattle.graphql_values.specs.ValueSteps.{written_at}
use Rattle.graphql_values.proofs.value.leaves.check_variable.Goals as goal

pub returns-in_default : goal.returns-in_default
returns-in_default c = λ schema is.
    let missing : variable_named c.args.name.now c.args.variables.now ≡ None = search rules in
    checks-push _ _ _ _ _ _ c.push.ensures.ok c.push.ensures.err
    (λ h. variable_refused schema c.args.variables.now c.args.expected.now.ty.now c.args.expected.now.definition.now is c.args.name.now missing
    (subst (Accepts schema c.args.variables.now c.args.expected.now.ty.now) c.requires h))
    (record {
      inner_ty = written_at c.args.expected.now.ty.now c.args.expected.now.location;
      inner = c.args.value.now;
      lies = within_itself;
      broken = record {
        definition = c.args.expected.now.definition.now;
        defined = is;
        is_variable = search rules;
        undefined = search rules;
        at_is = refl;
      };
    })

pub returns-then-can_stand : goal.returns-then-can_stand
returns-then-can_stand c = λ schema is.
    let w = c.in-Some.variable.now in
    let named : variable_named c.args.name.now c.args.variables.now ≡ Some w = search rules in
    let input : IsTrue (is_input_type c.args.expected.now.definition.now) = search rules in
    let same : SameName (inner_named_type w.value.value.ty.value.value) (inner_named_type c.args.expected.now.ty.now) = search rules in
    holds _ _ _ (variable_accepted schema c.args.variables.now c.args.expected.now.ty.now c.args.expected.now.definition.now _ is c.args.name.now w c.requires named input same)

pub returns : goal.returns
returns c = λ schema is.
    let w = c.in-Some.variable.now in
    let named : variable_named c.args.name.now c.args.variables.now ≡ Some w = search rules in
    let other : ¬ (IsTrue (is_input_type c.args.expected.now.definition.now) × SameName (inner_named_type w.value.value.ty.value.value) (inner_named_type c.args.expected.now.ty.now)) =
    search rules in
    c.unsupported_type.ensures schema c.args.variables.now c.args.expected.now.ty.now c.args.expected.now.definition.now is
    (variable_cannot schema c.args.variables.now c.args.expected.now.ty.now c.args.expected.now.definition.now _ is c.args.name.now w c.requires named other)
