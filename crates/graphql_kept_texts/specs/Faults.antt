-- What is at fault in texts. Specification: 2.2 Document
use Rattle.std.specs.Prelude.{◌≡◌, []}
use Rattle.graphql_kept_texts.specs.declared.faults.Faults.{Faults}

-- nothing is at fault
pub record HasNothing (faults : Faults) : Type 0 where
  pub places : faults.places.keys ≡ []
  pub variables : faults.variables.keys ≡ []
  pub fragments : faults.fragments.keys ≡ []
