use Rattle.std.proofs.Common.{◌≡◌, None, Some, sym, ◌∙◌}
use Rattle.graphql_specification.specs.Implementations.{field_under}
use Rattle.graphql_diagnostics.proofs.ReportLemmas.{checks_words, holds}
use Rattle.graphql_implementations.specs.ImplementationSteps.{OwnFieldHolds}
use Rattle.graphql_implementations.proofs.ImplementationLemmas.{found_under, of_no_own, of_own}
use Rattle.graphql_implementations.proofs.listed_fields.check_own_field.Goals as goal

pub check_implementing_field-requires : goal.check_implementing_field-requires
check_implementing_field-requires c = record {
  interface = c.requires.interface;
  is_listed = c.requires.is_listed;
  stands = c.requires.stands;
  implemented = sym (found_under c.args.implementer.now.fields.now.entries c.args.name.now) ∙ sym c.in-Some.ensures.value;
}

pub returns-in-Some : goal.returns-in-Some
returns-in-Some c =
    let fields = c.args.implementer.now.fields.now.entries in
    let found : field_under c.args.name.now fields ≡ Some c.in-Some.own.now = sym (found_under fields c.args.name.now) ∙ sym c.in-Some.ensures.value in
    checks_words c.check_implementing_field.result _ _ _ _ _ _ (of_own fields (c.args.name.now, c.args.wanted.now) c.in-Some.own.now (OwnFieldHolds c.args.implementer.now.schema.now c.args.rule) found)
    (λ e said. said) c.check_implementing_field.ensures

pub returns-in-None : goal.returns-in-None
returns-in-None c =
    let fields = c.args.implementer.now.fields.now.entries in
    let none : field_under c.args.name.now fields ≡ None = sym (found_under fields c.args.name.now) ∙ sym c.in-None.ensures.value in
    holds _ _ _ (of_no_own fields (c.args.name.now, c.args.wanted.now) (OwnFieldHolds c.args.implementer.now.schema.now c.args.rule) none)
