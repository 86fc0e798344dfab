use Rattle.std.proofs.Common.{subst, sym, take_all}
use Rattle.graphql_diagnostics.specs.Diagnostics.{entries}
use Rattle.graphql_document_checking.specs.Trees.{fragments_in}
use Rattle.graphql_variables.specs.Uses.{names_of}
use Rattle.graphql_project_checking.specs.Silence.{ReportsUnused}
use Rattle.graphql_project_checking.specs.Truth.{IsUnnamedEntry}
use Rattle.graphql_project_checking.proofs.BuildingLemmas.{no_fragment, one_fragment}
use Rattle.graphql_project_checking.proofs.TruthLemmas.{adds_nothing, adds_then, stands_at}
use Rattle.graphql_project_checking.proofs.UseLemmas.{unused_more, unused_none}
use Rattle.graphql_project_checking.proofs.UseTruthLemmas.{unnamed_of_one}
use Rattle.graphql_project_checking.proofs.uses.report_unused.Goals as goal

pub loop-definition-init : goal.loop-definition-init
loop-definition-init c =
    let used = names_of c.args.used.now.keys in
    let old = entries c.args.rules.now in
    (unused_none used old, adds_nothing (IsUnnamedEntry used (fragments_in c.args.definitions.now)) old)

pub loop-definition-preserved : goal.loop-definition-preserved
loop-definition-preserved c =
    let used = names_of c.args.used.now.keys in
    let ds = c.args.definitions.now in
    let i = c.loop-definition.definition-index in
    let d = c.definition-item.result in
    let old = entries c.args.rules.now in
    let mid = entries c.loop-definition.rules in
    let new = entries c.check_use.new.rules in
    let f = c.in-Fragment.fragment in (
      unused_more used ds i d old mid new c.loop-definition-test.true c.definition-item.is
          c.loop-definition.invariant.0 (subst (λ l. ReportsUnused used l mid new) (sym (one_fragment d f c.in-Fragment.is)) c.in_ok-check_use.ensures.silence),
      adds_then (IsUnnamedEntry used (fragments_in ds)) old mid new c.loop-definition.invariant.1
          (unnamed_of_one used ds d f mid new (stands_at ds i d c.loop-definition-test.true c.definition-item.is) c.in-Fragment.is c.in_ok-check_use.ensures.truth),
    )

pub loop-definition-preserved-in_default : goal.loop-definition-preserved-in_default
loop-definition-preserved-in_default c =
    let used = names_of c.args.used.now.keys in
    let d = c.definition-item.result in
    let mid = entries c.loop-definition.rules in (
      unused_more used c.args.definitions.now c.loop-definition.definition-index d (entries c.args.rules.now) mid mid c.loop-definition-test.true c.definition-item.is
          c.loop-definition.invariant.0 (subst (λ l. ReportsUnused used l mid mid) (sym (no_fragment d c.in_default.not-Fragment)) (unused_none used mid)),
      c.loop-definition.invariant.1,
    )

pub returns-in_err-check_use-clause-truth : goal.returns-in_err-check_use-clause-truth
returns-in_err-check_use-clause-truth c =
    let used = names_of c.args.used.now.keys in
    let ds = c.args.definitions.now in
    let i = c.loop-definition.definition-index in
    let d = c.definition-item.result in
    let old = entries c.args.rules.now in
    let mid = entries c.loop-definition.rules in
    let new = entries c.check_use.new.rules in
    adds_then (IsUnnamedEntry used (fragments_in ds)) old mid new c.loop-definition.invariant.1
    (unnamed_of_one used ds d c.in-Fragment.fragment mid new (stands_at ds i d c.loop-definition-test.true c.definition-item.is) c.in-Fragment.is c.in_err-check_use.ensures.truth)

pub returns : goal.returns
returns c = record {
  silence = subst (λ l. ReportsUnused (names_of c.args.used.now.keys) (fragments_in l) (entries c.args.rules.now) (entries c.loop-definition.rules))
      (take_all c.loop-definition.definition-index c.args.definitions.now c.loop-definition-test.false) c.loop-definition.invariant.0;
  truth = c.loop-definition.invariant.1;
}
