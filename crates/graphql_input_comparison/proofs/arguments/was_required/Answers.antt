use Rattle.std.proofs.Common.{◌≡◌, None, Some, false, find, inl, inr, rules, true}
use Rattle.std.specs.Prelude.{IsFalse, IsNone, IsTrue}
use Rattle.graphql_nodes.proofs.NameLemmas.{same_name_itself}
use Rattle.graphql_nodes.specs.Names.{SameName}
use Rattle.graphql_nodes.specs.declared.nodes.Node.{Node}
use Rattle.graphql_documents.specs.Definitions.{definition_named}
use Rattle.graphql_documents.specs.Schemas.{is_required}
use Rattle.graphql_documents.specs.declared.documents.definitions.InputValueDefinition.{InputValueDefinition}
use Rattle.graphql_change_kinds.proofs.FindsLemmas.{found_any}
use Rattle.graphql_change_kinds.proofs.TruthLemmas.{none_found}
use Rattle.graphql_input_comparison.proofs.RequiredLemmas.{has_name, required_before, required_here}
use Rattle.graphql_input_comparison.proofs.arguments.was_required.Goals as goal

pub returns-then-is_required-clause-was : goal.returns-then-is_required-clause-was
returns-then-is_required-clause-was c = λ yes all required.
    let a = c.in-Some.old.now in
    let name = c.args.argument.now.value.value.name in
    let found : find (has_name name) c.args.old.now ≡ Some a = search rules in
    let is : IsTrue (is_required a.value.value) = search rules in
    required_here name c.args.old.now a found is

pub returns-in-Some-find-clause-was : goal.returns-in-Some-find-clause-was
returns-in-Some-find-clause-was c = λ yes all required.
    let a = c.in-Some.old.now in
    let b = c.in-Some-find.new.now in
    let name = c.args.argument.now.value.value.name in
    let found : find (has_name name) c.args.old.now ≡ Some a = search rules in
    let there : find (has_name name) c.args.new.now ≡ Some b = search rules in
    let is : IsTrue (is_required b.value.value) = search rules in
    required_before name c.args.old.now c.args.new.now a b found there is all

pub returns-in_default-clause-was_not : goal.returns-in_default-clause-was_not
returns-in_default-clause-was_not c = λ no.
    let none : IsNone (definition_named c.args.argument.now.value.value.name c.args.old.now) = search rules in
    inl none

pub returns-in-Some-find-clause-was_not : goal.returns-in-Some-find-clause-was_not
returns-in-Some-find-clause-was_not c = λ no.
    let b = c.in-Some-find.new.now in
    let name = c.args.argument.now.value.value.name in
    let there : find (has_name name) c.args.new.now ≡ Some b = search rules in
    let needed : is_required c.args.argument.now.value.value ≡ true = search rules in
    let optional : is_required b.value.value ≡ false = search rules in
    inr (needed, found_any (has_name name) (λ (a : Node InputValueDefinition). SameName a.value.value.name name × IsFalse (is_required a.value.value)) c.args.new.now b there (λ same. (same, optional)))

pub returns-in-None-clause-was_not : goal.returns-in-None-clause-was_not
returns-in-None-clause-was_not c = λ no.
    let name = c.args.argument.now.value.value.name in
    let none : find (has_name name) c.args.new.now ≡ None = search rules in
    absurd (none_found (has_name name) c.args.new.now none c.args.argument.now c.requires (same_name_itself name))
