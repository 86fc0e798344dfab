-- The conflict names the first argument on which the fields disagree.
use Rattle.std.proofs.Common.{◌≡◌, Some, ap, sym, ◌∙◌, subst}
use Rattle.graphql_specification.specs.Merging.{DisagreeFirstOn}
use Rattle.graphql_documents.specs.Directives.{argument_named}
use Rattle.graphql_documents.specs.declared.documents.directives.Argument.{Argument}
use Rattle.graphql_nodes.specs.Names.{NameText}
use Rattle.graphql_nodes.specs.declared.nodes.Node.{Node}
use Rattle.graphql_field_conflicts.specs.Comparisons.{Conflicts}
use Rattle.graphql_field_conflicts.proofs.DisagreementLemmas.{disagree_alone, disagree_both, disagree_second}
use Rattle.graphql_field_conflicts.proofs.conflict_reports.report_conflict.Goals as goal

pub returns-in-FirstAlone : goal.returns-in-FirstAlone
returns-in-FirstAlone c = λ schema.
    let a = c.args.first.field.now.value.value in
    let b = c.args.field.field.now.value.value in
    let h = subst (Conflicts a b) c.in-FirstAlone.is c.requires in
    let named : c.deref.result.now.name ≡ h.1.argument.value.value.name =
    ap (λ (x : Argument). x.name) c.deref.ensures ∙ ap (λ (x : Node Argument). x.value.value.name) h.1.conflicts.0 in
    c.report_argument.ensures schema h.0
    (subst (λ (name : NameText). DisagreeFirstOn name a b) (sym named) (disagree_alone a b h.1.argument h.1.reachable h.1.conflicts.1))
    (ap (λ (name : NameText). argument_named name a.arguments.items) named ∙ h.1.reachable.first ∙ ap Some (sym h.1.conflicts.0))
    (ap (λ (name : NameText). argument_named name b.arguments.items) named ∙ h.1.conflicts.1)

pub returns-in-SecondAlone : goal.returns-in-SecondAlone
returns-in-SecondAlone c = λ schema.
    let a = c.args.first.field.now.value.value in
    let b = c.args.field.field.now.value.value in
    let y = c.in-SecondAlone.conflicting.now in
    let h = subst (Conflicts a b) c.in-SecondAlone.is c.requires in
    let named : c.deref-in-SecondAlone.result.now.name ≡ y.value.value.name = ap (λ (x : Argument). x.name) c.deref-in-SecondAlone.ensures in
    c.report_argument-in-SecondAlone.ensures schema h.0
    (subst (λ (name : NameText). DisagreeFirstOn name a b) (sym named) (disagree_second a b y h.1 h.2 h.3))
    (ap (λ (name : NameText). argument_named name a.arguments.items) named ∙ h.3)
    (ap (λ (name : NameText). argument_named name b.arguments.items) named ∙ h.2.first)

pub returns-in-Both : goal.returns-in-Both
returns-in-Both c = λ schema.
    let a = c.args.first.field.now.value.value in
    let b = c.args.field.field.now.value.value in
    let h = subst (Conflicts a b) c.in-Both.is c.requires in
    let named : c.deref-in-Both.result.now.name ≡ h.1.argument.value.value.name =
    ap (λ (x : Argument). x.name) c.deref-in-Both.ensures ∙ ap (λ (x : Node Argument). x.value.value.name) h.1.conflicts.0 in
    c.report_argument-in-Both.ensures schema h.0
    (subst (λ (name : NameText). DisagreeFirstOn name a b) (sym named)
    (disagree_both a b h.1.argument h.1.reachable c.in-Both.conflicting.now h.1.conflicts.1 h.1.conflicts.2))
    (ap (λ (name : NameText). argument_named name a.arguments.items) named ∙ h.1.reachable.first ∙ ap Some (sym h.1.conflicts.0))
    (ap (λ (name : NameText). argument_named name b.arguments.items) named ∙ h.1.conflicts.1)
