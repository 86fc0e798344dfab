use Rattle.std.proofs.Common.{[], subst, take_all}
use Rattle.std.proofs.lemmas.List.Elements.{All-nil}
use Rattle.graphql_projects.specs.OperationTrees.{fragments_among}
use Rattle.graphql_variables.specs.Uses.{names_of}
use Rattle.graphql_project_checking.specs.Silence.{QuietOnlyIf}
use Rattle.graphql_project_checking.specs.Truth.{AreOfRules, IsUnnamedEntry}
use Rattle.graphql_project_checking.proofs.SilenceLemmas.{stays_quiet}
use Rattle.graphql_project_checking.proofs.TruthLemmas.{adds_nothing, adds_then, stands_at}
use Rattle.graphql_project_checking.proofs.UseLemmas.{IsUsed, UsedUnlessOff, used_more}
use Rattle.graphql_project_checking.proofs.UseTruthLemmas.{unnamed_of_file}
use Rattle.graphql_project_checking.proofs.uses.check_uses.Goals as goal

pub loop-document-init : goal.loop-document-init
loop-document-init c =
    let used = names_of c.args.used.now.keys in
    let old = c.args.found.now.items in
    (stays_quiet old (UsedUnlessOff used []) (λ off on. All-nil (IsUsed used)), adds_nothing (AreOfRules (IsUnnamedEntry used (fragments_among c.args.documents.now))) old)

pub loop-document-preserved : goal.loop-document-preserved
loop-document-preserved c =
    let used = names_of c.args.used.now.keys in
    let documents = c.args.documents.now in
    let i = c.loop-document.document-index in
    let x = c.document-item.result in
    let old = c.args.found.now.items in
    let mid = c.loop-document.found.items in
    let new = c.check_uses_in.new.found.items in (
      used_more used documents i x old mid new c.loop-document-test.true c.document-item.is c.loop-document.invariant.0 c.in_ok-check_uses_in.ensures.silence,
      adds_then (AreOfRules (IsUnnamedEntry used (fragments_among documents))) old mid new c.loop-document.invariant.1
          (unnamed_of_file used documents x mid new (stands_at documents i x c.loop-document-test.true c.document-item.is) c.in_ok-check_uses_in.ensures.truth),
    )

pub returns : goal.returns
returns c = record {
  silence = subst (λ l. QuietOnlyIf c.args.found.now.items c.loop-document.found.items (UsedUnlessOff (names_of c.args.used.now.keys) (fragments_among l)))
      (take_all c.loop-document.document-index c.args.documents.now c.loop-document-test.false) c.loop-document.invariant.0;
  truth = c.loop-document.invariant.1;
}
