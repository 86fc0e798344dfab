use Rattle.std.proofs.Common.{All, subst}
use Rattle.graphql_nodes.specs.Names.{NameText}
use Rattle.graphql_documents.specs.declared.documents.components.Component.{Component}
use Rattle.graphql_documents.specs.declared.documents.definitions.FieldDefinition.{FieldDefinition}
use Rattle.graphql_schema_comparison.specs.Comparisons.{KeepsFieldNamed}
use Rattle.graphql_change_kinds.proofs.FindsLemmas.{found_words}
use Rattle.graphql_schema_comparison.proofs.fields.compare_own_fields.Goals as goal

pub returns-in_ok-compare_listed_fields-in-Some : goal.returns-in_ok-compare_listed_fields-in-Some
returns-in_ok-compare_listed_fields-in-Some c =
    found_words (λ merging all. subst (All (λ (entry : NameText × Component FieldDefinition).
    KeepsFieldNamed c.args.meetings.now.by_shape c.args.pair.old.now c.args.pair.new.now merging c.args.ty.now entry.0 entry.1)) c.in-Some.ensures all)
    c.in_ok-compare_listed_fields-in-Some.ensures
