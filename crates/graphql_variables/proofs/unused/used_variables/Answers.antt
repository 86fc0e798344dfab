use Rattle.std.proofs.Common.{[], subst}
use Rattle.std.proofs.lemmas.List.{take_all}
use Rattle.graphql_documents.specs.Selections.{fragments_of}
use Rattle.graphql_documents.specs.VariableUses.{StandsInDirectives}
use Rattle.graphql_variables.specs.Uses.{NamesAlso, known_names}
use Rattle.graphql_variables.proofs.DefinitionUseLemmas.{no_definitions}
use Rattle.graphql_variables.proofs.NameSetLemmas.{has_used_by}
use Rattle.graphql_variables.proofs.OperationUseLemmas.{UsedBy, used_all, used_first, used_more}
use Rattle.graphql_variables.proofs.unused.used_variables.Goals as goal

pub loop-selection-init : goal.loop-selection-init
loop-selection-init c = (
  used_first (fragments_of c.args.document.now) c.args.operation.now c.args.selections.now _ _ c.new-names.ensures.items
      (subst (λ l. NamesAlso (λ n. StandsInDirectives n l) c.new-names.result.items c.add_in_directives.new.names.items) c.deref.ensures.value c.in_ok-add_in_directives.ensures),
  no_definitions c.args.document.now c.with_hasher-entered.result.keys c.add_in_directives.new.names.items c.with_hasher-entered.ensures.empty,
)

pub add_in_selection-requires : goal.add_in_selection-requires
add_in_selection-requires c = c.loop-selection.invariant.1

pub loop-selection-preserved : goal.loop-selection-preserved
loop-selection-preserved c = (
  used_more (fragments_of c.args.document.now) c.args.operation.now c.args.selections.now c.loop-selection.selection-index c.selection-item.result _ _
      c.loop-selection-test.true c.selection-item.is c.loop-selection.invariant.0 c.in_ok-add_in_selection.ensures.also,
  c.in_ok-add_in_selection.ensures.definitions,
)

pub returns : goal.returns
returns c = λ reach.
    let fragments = fragments_of c.args.document.now in
    let o = c.args.operation.now in
    let xs = c.args.selections.now in
    let all : NamesAlso (UsedBy fragments o xs xs) [] c.loop-selection.names.items =
    subst (λ l. NamesAlso (UsedBy fragments o xs l) [] c.loop-selection.names.items) (take_all c.loop-selection.selection-index xs c.loop-selection-test.false) c.loop-selection.invariant.0 in
    has_used_by c.of.result known_names _ _ (used_all fragments o xs reach c.loop-selection.names.items all) c.of.ensures
