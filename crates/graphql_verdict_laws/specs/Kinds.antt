-- Kinds of verdicts.
use Rattle.std.specs.Prelude.{Bool, false, true}
use Rattle.graphql_frontend.specs.declared.verdicts.Verdict.{Verdict}
use Rattle.graphql_frontend.specs.declared.verdicts.Verdict.TheVariants.{DocumentRejected, LacksIntrospection, SchemaRejected, Valid}

-- every rule holds
abbrev pub is_valid : Verdict → Bool
is_valid Valid = true
is_valid (SchemaRejected reports) = false
is_valid LacksIntrospection = false
is_valid (DocumentRejected reports) = false

-- the schema is not accepted, so that the document is not looked at
abbrev pub refuses_schema : Verdict → Bool
refuses_schema Valid = false
refuses_schema (SchemaRejected reports) = true
refuses_schema LacksIntrospection = true
refuses_schema (DocumentRejected reports) = false
