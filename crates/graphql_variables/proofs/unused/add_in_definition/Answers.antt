use Rattle.std.proofs.Common.{◌∙◌, List, ap, subst, sym}
use Rattle.graphql_documents.specs.Selections.{fragments_of}
use Rattle.graphql_documents.specs.VariableUses.{StandsInDirectives}
use Rattle.graphql_documents.specs.declared.documents.directives.Directive.{Directive}
use Rattle.graphql_documents.specs.declared.documents.executables.Fragment.{Fragment}
use Rattle.graphql_nodes.specs.declared.nodes.Node.{Node}
use Rattle.graphql_diagnostics.proofs.ReportLemmas.{on_ok}
use Rattle.graphql_variables.specs.Uses.{NamesAlso, NamesDefinitions, UsedInDefinition}
use Rattle.graphql_variables.proofs.DefinitionUseLemmas.{known_before, named_before, one_more_definition, undefined_uses_none, used_where_defined}
use Rattle.graphql_variables.proofs.UseLemmas.{also_in_words}
use Rattle.graphql_variables.proofs.unused.add_in_definition.Goals as goal

-- the variables of a fragment that was entered before are named
known : (c : goal.Then-not-branch) → NamesAlso (UsedInDefinition (fragments_of c.args.document.now) c.args.name.now) c.args.names.now.items c.args.names.now.items
known c =
    named_before c.args.document.now c.args.entered.now.keys c.args.names.now.items c.args.name c.requires
    (known_before _ _ c.in_ok-insert.ensures.added c.if-not-branch.true)

pub returns-then-not-branch-clause-also : goal.returns-then-not-branch-clause-also
returns-then-not-branch-clause-also c = known c

pub returns-then-not-branch-clause-definitions : goal.returns-then-not-branch-clause-definitions
returns-then-not-branch-clause-definitions c =
    let names = c.args.names.now.items in
    subst (λ keys. NamesDefinitions (fragments_of c.args.document.now) keys names) (sym c.in_ok-insert.ensures.keys)
    (one_more_definition c.args.document.now c.args.entered.now.keys names names c.args.name c.requires (known c))

pub returns-in-Some-clause-also : goal.returns-in-Some-clause-also
returns-in-Some-clause-also c =
    let old = c.args.names.now.items in
    let new = c.add_in_directives.new.names.items in
    let same = c.deref-in-Some.ensures.value ∙ ap (λ (d : Fragment). d.directives.items) c.deref.ensures in
    on_ok c.add_in_directives.result _ _
    (λ used. also_in_words _ _ old new (used_where_defined c.args.document.now c.args.name.now c.in-Some.fragment.now (sym c.in-Some.ensures.value))
    (subst (λ (l : List (Node Directive)). NamesAlso (λ n. StandsInDirectives n l) old new) same used))
    c.add_in_directives.ensures

pub returns-in-Some-clause-definitions : goal.returns-in-Some-clause-definitions
returns-in-Some-clause-definitions c =
    let old = c.args.names.now.items in
    let new = c.add_in_directives.new.names.items in
    on_ok c.add_in_directives.result _ _
    (λ also. subst (λ keys. NamesDefinitions (fragments_of c.args.document.now) keys new) (sym c.in_ok-insert.ensures.keys)
    (one_more_definition c.args.document.now c.args.entered.now.keys old new c.args.name c.requires also))
    (returns-in-Some-clause-also c)

pub returns-in-None-clause-also : goal.returns-in-None-clause-also
returns-in-None-clause-also c = undefined_uses_none c.args.document.now c.args.name.now c.args.names.now.items (sym c.in-None.ensures.value)

pub returns-in-None-clause-definitions : goal.returns-in-None-clause-definitions
returns-in-None-clause-definitions c =
    let names = c.args.names.now.items in
    subst (λ keys. NamesDefinitions (fragments_of c.args.document.now) keys names) (sym c.in_ok-insert.ensures.keys)
    (one_more_definition c.args.document.now c.args.entered.now.keys names names c.args.name c.requires
    (undefined_uses_none c.args.document.now c.args.name.now names (sym c.in-None.ensures.value)))
