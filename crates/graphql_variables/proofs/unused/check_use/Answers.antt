use Rattle.std.proofs.Common.{[], ◌∙◌, ap, subst, sym}
use Rattle.std.specs.Borrow.{Bor}
use Rattle.std.proofs.lemmas.List.{append-nil}
use Rattle.graphql_nodes.specs.Names.{NameText}
use Rattle.graphql_nodes.specs.Spans.{recompose}
use Rattle.graphql_documents.specs.VariableUses.{UsesVariable}
use Rattle.graphql_documents.specs.declared.documents.definitions.VariableDefinition.{VariableDefinition}
use Rattle.graphql_specification.specs.Variables.{no_name, unused_name}
use Rattle.graphql_diagnostics.proofs.ReportLemmas.{appends_on_ok}
use Rattle.graphql_variables.specs.Uses.{known_names}
use Rattle.graphql_variables.proofs.NameSetLemmas.{has_name, has_no_name}
use Rattle.graphql_variables.proofs.UnusedLemmas.{unused_report, used_report}
use Rattle.graphql_variables.proofs.unused.check_use.Goals as goal

pub returns-then-contains : goal.returns-then-contains
returns-then-contains c = λ fragments o name used last.
    let key : Bor NameText = record { ref_ptr = c.deref.result.ref_ptr; now = c.deref.result.now.name } in
    let known = has_name (known_names c.args.used.now) key (sym (c.if-contains.ensures)) in
    let uses = subst (λ (v : VariableDefinition). UsesVariable fragments o v.name) c.deref.ensures ((used key.now).0 known) in
    record { added = []; appended = sym (append-nil _); are = used_report last uses }

pub returns : goal.returns
returns c = λ fragments o name used last.
    let key : Bor NameText = record { ref_ptr = c.deref.result.ref_ptr; now = c.deref.result.now.name } in
    let unknown = has_no_name (known_names c.args.used.now) key (sym (c.if-contains.ensures)) in
    let unused = subst (λ (v : VariableDefinition). ¬ UsesVariable fragments o v.name) c.deref.ensures (λ u. unknown ((used key.now).1 u)) in
    let named = ap (λ (v : VariableDefinition). v.name) c.deref.ensures in
    let place = c.recompose-place.ensures ∙ ap (recompose c.args.variable.now.location) (c.location.ensures ∙ ap (λ (n : NameText). n.location) named) in
    appends_on_ok _ _ _ _ c.push.ensures.ok c.push.ensures.err
    (unused_name (unused_report last unused (c.in_ok-name.ensures.cases ∙ named) place) no_name)
