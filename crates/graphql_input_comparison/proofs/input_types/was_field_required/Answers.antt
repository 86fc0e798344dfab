use Rattle.std.proofs.Common.{◌≡◌, None, Some, false, inl, inr, rules, sym, true}
use Rattle.std.specs.Prelude.{IsFalse, IsNone, IsTrue}
use Rattle.indexmap.specs.IndexMap.{get}
use Rattle.graphql_nodes.specs.Names.{SameName, same_name}
use Rattle.graphql_nodes.proofs.NameLemmas.{same_name_back, same_name_itself}
use Rattle.graphql_input_comparison.specs.Inputs.{InputField}
use Rattle.graphql_change_kinds.proofs.FindsLemmas.{looked_up_any}
use Rattle.graphql_change_kinds.proofs.TruthLemmas.{no_entry}
use Rattle.graphql_documents.specs.Schemas.{is_required}
use Rattle.graphql_input_comparison.proofs.RequiredLemmas.{field_required_before, field_required_here}
use Rattle.graphql_input_comparison.proofs.input_types.was_field_required.Goals as goal

pub returns-then-is_required-clause-was : goal.returns-then-is_required-clause-was
returns-then-is_required-clause-was c = λ yes all required.
    let a = c.in-Some.old.now in
    let found : get same_name c.args.old.now.fields c.args.name.now ≡ Some a = sym c.in-Some.ensures.value in
    let is : IsTrue (is_required a.node.value.value) = search rules in
    field_required_here c.args.old.now c.args.new.now c.args.name.now a found is

pub returns-in-Some-get-clause-was : goal.returns-in-Some-get-clause-was
returns-in-Some-get-clause-was c = λ yes all required.
    let a = c.in-Some.old.now in
    let b = c.in-Some-get.new.now in
    let found : get same_name c.args.old.now.fields c.args.name.now ≡ Some a = sym c.in-Some.ensures.value in
    let there : get same_name c.args.new.now.fields c.args.name.now ≡ Some b = sym c.in-Some-get.ensures.value in
    let is : IsTrue (is_required b.node.value.value) = search rules in
    field_required_before c.args.old.now c.args.new.now c.args.name.now a b found there is all

pub returns-in_default-clause-was_not : goal.returns-in_default-clause-was_not
returns-in_default-clause-was_not c = λ no.
    let none : IsNone (get same_name c.args.old.now.fields c.args.name.now) = search rules in
    inl none

pub returns-in-Some-get-clause-was_not : goal.returns-in-Some-get-clause-was_not
returns-in-Some-get-clause-was_not c = λ no.
    let b = c.in-Some-get.new.now in
    let name = c.args.name.now in
    let there : get same_name c.args.new.now.fields name ≡ Some b = sym c.in-Some-get.ensures.value in
    let needed : is_required c.args.field.now.node.value.value ≡ true = search rules in
    let optional : is_required b.node.value.value ≡ false = search rules in
    inr (
      needed,
      looked_up_any (same_name name) (λ (a : InputField). SameName a.0 name × IsFalse (is_required a.1.node.value.value)) c.args.new.now.fields.entries b there
          (λ key same. (same_name_back name key same, optional)),
    )

pub returns-in-None-clause-was_not : goal.returns-in-None-clause-was_not
returns-in-None-clause-was_not c = λ no.
    let name = c.args.name.now in
    let none : get same_name c.args.new.now.fields name ≡ None = search rules in
    absurd (no_entry (same_name name) c.args.new.now.fields.entries none (name, c.args.field.now) c.requires (same_name_itself name))
