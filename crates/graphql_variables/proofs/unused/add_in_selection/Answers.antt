use Rattle.std.proofs.Common.{List, ap, ◌∙◌, subst}
use Rattle.graphql_documents.specs.VariableUses.{StandsInArguments, StandsInDirectives}
use Rattle.graphql_documents.specs.declared.documents.directives.Argument.{Argument}
use Rattle.graphql_documents.specs.declared.documents.directives.Directive.{Directive}
use Rattle.graphql_documents.specs.declared.documents.executables.Field.{Field}
use Rattle.graphql_documents.specs.declared.documents.executables.FragmentSpread.{FragmentSpread}
use Rattle.graphql_documents.specs.declared.documents.executables.InlineFragment.{InlineFragment}
use Rattle.graphql_nodes.specs.declared.nodes.Node.{Node}
use Rattle.graphql_diagnostics.proofs.ReportLemmas.{on_ok}
use Rattle.graphql_documents.specs.Selections.{fragments_of}
use Rattle.graphql_variables.specs.Uses.{NamesAlso, UsedInDefinition}
use Rattle.graphql_variables.proofs.DefinitionUseLemmas.{definitions_stay}
use Rattle.graphql_variables.proofs.OperationUseLemmas.{used_at_field, used_at_inline, used_at_spread}
use Rattle.graphql_variables.proofs.UseLemmas.{also_in_words, also_then}
use Rattle.graphql_variables.proofs.unused.add_in_selection.Goals as goal

pub returns-in_ok-add_in_directives-in-Field-clause-also : goal.returns-in_ok-add_in_directives-in-Field-clause-also
returns-in_ok-add_in_directives-in-Field-clause-also c =
    let old = c.args.names.now.items in
    let mid = c.add_in_directives.new.names.items in
    let new = c.add_in_arguments.new.names.items in
    let directives = subst (λ (l : List (Node Directive)). NamesAlso (λ n. StandsInDirectives n l) old mid)
    (c.deref-in-Field.ensures.value ∙ ap (λ (f : Field). f.directives.items) c.deref.ensures) c.in_ok-add_in_directives-in-Field.ensures in
    let same = c.deref-in-Field-3.ensures.value ∙ ap (λ (f : Field). f.arguments.items) c.deref-in-Field-2.ensures in
    on_ok c.add_in_arguments.result _ _
    (λ arguments. also_in_words _ _ old new (used_at_field c.in-Field.field c.in-Field.is)
    (also_then _ _ old mid new directives (subst (λ (l : List (Node Argument)). NamesAlso (λ n. StandsInArguments n l) mid new) same arguments)))
    c.add_in_arguments.ensures

pub returns-in_ok-add_in_directives-in-Field-clause-definitions : goal.returns-in_ok-add_in_directives-in-Field-clause-definitions
returns-in_ok-add_in_directives-in-Field-clause-definitions c =
    let entered = c.args.entered.now.keys in
    let mid = c.add_in_directives.new.names.items in
    on_ok c.add_in_arguments.result _ _
    (λ arguments. definitions_stay c.args.document.now _ entered mid c.add_in_arguments.new.names.items
    (definitions_stay c.args.document.now _ entered c.args.names.now.items mid c.requires c.in_ok-add_in_directives-in-Field.ensures) arguments)
    c.add_in_arguments.ensures

pub add_in_definition-requires : goal.add_in_definition-requires
add_in_definition-requires c =
    definitions_stay c.args.document.now _ c.args.entered.now.keys c.args.names.now.items c.add_in_directives-in-FragmentSpread.new.names.items c.requires
    c.in_ok-add_in_directives-in-FragmentSpread.ensures

pub returns-in_ok-add_in_directives-in-FragmentSpread-clause-also : goal.returns-in_ok-add_in_directives-in-FragmentSpread-clause-also
returns-in_ok-add_in_directives-in-FragmentSpread-clause-also c =
    let old = c.args.names.now.items in
    let mid = c.add_in_directives-in-FragmentSpread.new.names.items in
    let new = c.add_in_definition.new.names.items in
    let fragments = fragments_of c.args.document.now in
    let own = subst (λ (l : List (Node Directive)). NamesAlso (λ n. StandsInDirectives n l) old mid)
    (c.deref-in-FragmentSpread-2.ensures.value ∙ ap (λ (p : FragmentSpread). p.directives.items) c.deref-in-FragmentSpread.ensures)
    c.in_ok-add_in_directives-in-FragmentSpread.ensures in
    let same = ap (λ (p : FragmentSpread). p.fragment_name) c.deref-in-FragmentSpread-3.ensures in
    on_ok c.add_in_definition.result _ _
    (λ there. also_in_words _ _ old new (used_at_spread c.in-FragmentSpread.spread c.in-FragmentSpread.is)
    (also_then _ _ old mid new own (subst (λ fragment. NamesAlso (UsedInDefinition fragments fragment) mid new) same there)))
    c.add_in_definition.ensures.also

pub returns-in-InlineFragment-clause-also : goal.returns-in-InlineFragment-clause-also
returns-in-InlineFragment-clause-also c =
    let old = c.args.names.now.items in
    let new = c.add_in_directives-in-InlineFragment.new.names.items in
    let same = c.deref-in-InlineFragment-2.ensures.value ∙ ap (λ (i : InlineFragment). i.directives.items) c.deref-in-InlineFragment.ensures in
    on_ok c.add_in_directives-in-InlineFragment.result _ _
    (λ own. also_in_words _ _ old new (used_at_inline c.in-InlineFragment.fragment c.in-InlineFragment.is)
    (subst (λ (l : List (Node Directive)). NamesAlso (λ n. StandsInDirectives n l) old new) same own))
    c.add_in_directives-in-InlineFragment.ensures

pub returns-in-InlineFragment-clause-definitions : goal.returns-in-InlineFragment-clause-definitions
returns-in-InlineFragment-clause-definitions c =
    on_ok c.add_in_directives-in-InlineFragment.result _ _
    (λ own. definitions_stay c.args.document.now _ c.args.entered.now.keys c.args.names.now.items c.add_in_directives-in-InlineFragment.new.names.items c.requires own)
    c.add_in_directives-in-InlineFragment.ensures
