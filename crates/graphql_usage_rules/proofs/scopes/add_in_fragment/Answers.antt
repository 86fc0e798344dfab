use Rattle.std.proofs.Common.{◌≡◌, ◌∙◌, None, Some, ap, rules, subst, sym}
use Rattle.std.specs.Prelude.{◌⊎◌, OnOk}
use Rattle.std.proofs.lemmas.Option.{same_Some}
use Rattle.graphql_nodes.specs.declared.nodes.Node.{Node}
use Rattle.graphql_documents.specs.Selections.{fragments_of}
use Rattle.graphql_documents.specs.declared.documents.executables.Fragment.{Fragment}
use Rattle.graphql_usage_rules.specs.Scopes.{Adds, InFragmentNamed, SetHasVariable, values_at}
use Rattle.graphql_usage_rules.specs.UndefinedVariables.{VariableInDirectives}
use Rattle.graphql_usage_rules.proofs.AddLemmas.{adds_none, then_on_ok}
use Rattle.graphql_usage_rules.proofs.scopes.add_in_fragment.Goals as goal

pub returns-in_ok-add_in_directives-in-Some : goal.returns-in_ok-add_in_directives-in-Some
returns-in_ok-add_in_directives-in-Some c =
    let document = c.args.document.now in
    let name = c.args.name.now in
    let d = c.in-Some.fragment.now in
    let r = c.add_in_selection_set.result in
    let old = values_at c.args.variables.now.items in
    let mid = values_at c.add_in_directives.new.variables.items in
    let new = values_at c.add_in_selection_set.new.variables.items in
    let is : fragments_of document name ≡ Some d = search rules in
    let Directives = VariableInDirectives d.value.value.directives.items in
    let Below = SetHasVariable d.value.value.selection_set in
    then_on_ok r Directives Below (InFragmentNamed (fragments_of document) name) old mid new
    (λ v. (
      λ has. (d, is, has),
      λ (x, found, has). subst (λ (y : Node Fragment). VariableInDirectives y.value.value.directives.items v ⊎ SetHasVariable y.value.value.selection_set v) (same_Some x d (sym found ∙ is)) has,
    ))
    (subst (λ l. Adds (VariableInDirectives l) old mid) (c.deref-in-Some.ensures.value ∙ ap (λ (f : Fragment). f.directives.items) c.deref.ensures)
    c.in_ok-add_in_directives-in-Some.ensures)
    (subst (λ (f : Fragment). OnOk r (Adds (SetHasVariable f.selection_set) mid new)) c.deref-in-Some-2.ensures c.add_in_selection_set.ensures)

pub returns-in-None : goal.returns-in-None
returns-in-None c =
    let none : fragments_of c.args.document.now c.args.name.now ≡ None = search rules in
    adds_none (InFragmentNamed (fragments_of c.args.document.now) c.args.name.now) (values_at c.args.variables.now.items)
    (λ v (x, found, has). absurd (let no : ⊥ = cc in no))
