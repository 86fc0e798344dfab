use Rattle.std.proofs.Common.{◌≡◌, false, refl, rules, sym, ◌∙◌}
use Rattle.graphql_specification.specs.BuiltInScalars.{names_built_in_scalar}
use Rattle.graphql_field_definitions.proofs.BuiltInScalarLemmas.{records_no_scalar, records_one}
use Rattle.graphql_field_definitions.proofs.built_in_scalars.BuiltInScalars.record_type_ref.Goals as goal

pub returns-in-Int-clause-records : goal.returns-in-Int-clause-records
returns-in-Int-clause-records c =
    records_one _ _ c.args.name.now _ (sym c.as_str.ensures.text ∙ c.in-Int.is) refl refl (λ other apart. rw apart refl)

pub returns-in-Float-clause-records : goal.returns-in-Float-clause-records
returns-in-Float-clause-records c =
    records_one _ _ c.args.name.now _ (sym c.as_str.ensures.text ∙ c.in-Float.is) refl refl (λ other apart. rw apart refl)

pub returns-in-String-clause-records : goal.returns-in-String-clause-records
returns-in-String-clause-records c =
    records_one _ _ c.args.name.now _ (sym c.as_str.ensures.text ∙ c.in-String.is) refl refl (λ other apart. rw apart refl)

pub returns-in-Boolean-clause-records : goal.returns-in-Boolean-clause-records
returns-in-Boolean-clause-records c =
    records_one _ _ c.args.name.now _ (sym c.as_str.ensures.text ∙ c.in-Boolean.is) refl refl (λ other apart. rw apart refl)

pub returns-in-ID-clause-records : goal.returns-in-ID-clause-records
returns-in-ID-clause-records c =
    records_one _ _ c.args.name.now _ (sym c.as_str.ensures.text ∙ c.in-ID.is) refl refl (λ other apart. rw apart refl)

pub returns-in_default-clause-records : goal.returns-in_default-clause-records
returns-in_default-clause-records c =
    let none : names_built_in_scalar c.args.name.now.text ≡ false = search rules in
    records_no_scalar c.args.self.now c.args.name.now none
