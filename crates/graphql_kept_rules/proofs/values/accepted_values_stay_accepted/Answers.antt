use Rattle.graphql_sameness_laws.proofs.LeafLemmas.{variable_itself}
use Rattle.graphql_sameness_laws.proofs.ValueLemmas.{value_itself}
use Rattle.graphql_sameness_laws.proofs.ZipLemmas.{zip_itself}
use Rattle.graphql_document_building.specs.SameLeaves.{SameVariable}
use Rattle.graphql_schema_changes.specs.Keeps.{AnyInput}
use Rattle.graphql_kept_rules.proofs.KeptValueLemmas.{accepts_still}
use Rattle.graphql_kept_rules.proofs.values.accepted_values_stay_accepted.Goals as goal

pub returns : goal.returns
returns c old new types unique inputs variables ty other value fits input accepted =
    accepts_still old new (AnyInput old) inputs (λ name d field is_input is c. types name d field is c) unique variables variables
    (zip_itself SameVariable variable_itself variables) accepted other value.value.value fits (value_itself value).contents input
