use Rattle.std.proofs.Common.{[], ◌≡◌, ◌∙◌, ◌+◌, All, map, take, refl, sym, ap, subst}
use Rattle.std.proofs.lemmas.List.{take_all}
use Rattle.std.proofs.lemmas.List.Elements.{All-nil}
use Rattle.graphql_nodes.specs.Names.{different_names}
use Rattle.graphql_documents.specs.declared.documents.definitions.VariableDefinition.{VariableDefinition}
use Rattle.graphql_variables.proofs.NameSetLemmas.{entry_names}
use Rattle.graphql_variables.proofs.UnusedLemmas.{IsLast, last_more, names_more}
use Rattle.graphql_variables.proofs.unused.last_definitions.Goals as goal

pub loop-variable-init : goal.loop-variable-init
loop-variable-init c =
    let none : c.with_hasher-last.result.entries ≡ [] = c.with_hasher-last.ensures.empty in
    record {
      names = ap entry_names none;
      definitions = subst (All (IsLast [])) (sym none) (All-nil (IsLast []));
      distinct = c.with_hasher-last.ensures.unique;
    }

pub loop-variable-preserved : goal.loop-variable-preserved
loop-variable-preserved c =
    let xs = c.args.variables.now in
    let i = c.loop-variable.variable-index in
    let x = c.variable-item.result in
    let last = c.loop-variable.last.entries in
    let named = ap (λ (v : VariableDefinition). v.name) c.deref.ensures in
    record {
      names = ap entry_names c.in_ok-insert.ensures.entries ∙
          names_more xs i x c.loop-variable-test.true c.variable-item.is last _ _ named c.loop-variable.invariant.names;
      definitions = subst (All (IsLast (take (i + 1) xs))) (sym c.in_ok-insert.ensures.entries)
          (last_more xs i x c.loop-variable-test.true c.variable-item.is last _ _ named refl c.loop-variable.invariant.distinct c.loop-variable.invariant.definitions);
      distinct = c.in_ok-insert.ensures.unique;
    }

pub returns-clause-names : goal.returns-clause-names
returns-clause-names c =
    c.loop-variable.invariant.names ∙ ap (λ l. different_names (map (λ v. v.value.value.name) l)) (take_all c.loop-variable.variable-index c.args.variables.now c.loop-variable-test.false)

pub returns-clause-definitions : goal.returns-clause-definitions
returns-clause-definitions c =
    subst (λ l. All (IsLast l) c.loop-variable.last.entries)
    (take_all c.loop-variable.variable-index c.args.variables.now c.loop-variable-test.false) c.loop-variable.invariant.definitions
