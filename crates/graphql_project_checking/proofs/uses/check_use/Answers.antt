use Rattle.std.proofs.Common.{◌∷◌, [], Bor, sym}
use Rattle.graphql_diagnostics.specs.Diagnostics.{entries}
use Rattle.graphql_documents.proofs.ListLemmas.{stands_first}
use Rattle.graphql_nodes.specs.Names.{NameText}
use Rattle.graphql_variables.proofs.NameSetLemmas.{has_name, has_no_name}
use Rattle.graphql_variables.specs.Uses.{names_of}
use Rattle.graphql_project_checking.specs.Silence.{ReportsUnused}
use Rattle.graphql_project_checking.specs.Truth.{IsUnnamedEntry}
use Rattle.graphql_project_checking.proofs.SilenceLemmas.{on_ok}
use Rattle.graphql_project_checking.proofs.TruthLemmas.{adds_nothing, pushed}
use Rattle.graphql_project_checking.proofs.UseLemmas.{unused_known, unused_reported}
use Rattle.graphql_project_checking.proofs.UseTruthLemmas.{entry_is}
use Rattle.graphql_project_checking.proofs.uses.check_use.Goals as goal

pub returns-then-contains : goal.returns-then-contains
returns-then-contains c =
    let f = c.args.fragment.now in
    let used = names_of c.args.used.now.keys in
    let key : Bor NameText = record { ref_ptr = c.args.fragment.ref_ptr; now = f.name } in
    record {
      silence = unused_known used (f.name, f) (entries c.args.rules.now) (has_name c.args.used.now.keys key (sym (c.if-contains.ensures)));
      truth = adds_nothing (IsUnnamedEntry used ((f.name, f) ∷ [])) (entries c.args.rules.now);
    }

pub returns-in_err-name-clause-truth : goal.returns-in_err-name-clause-truth
returns-in_err-name-clause-truth c =
    let f = c.args.fragment.now in
    adds_nothing (IsUnnamedEntry (names_of c.args.used.now.keys) ((f.name, f) ∷ [])) (entries c.args.rules.now)

pub returns : goal.returns
returns c =
    let f = c.args.fragment.now in
    let used = names_of c.args.used.now.keys in
    let old = entries c.args.rules.now in
    let new = entries c.push.new.self in
    let key : Bor NameText = record { ref_ptr = c.args.fragment.ref_ptr; now = f.name } in
    let unnamed = has_no_name c.args.used.now.keys key (sym (c.if-contains.ensures)) in
    record {
      silence = on_ok _ (ReportsUnused used ((f.name, f) ∷ []) old new) (unused_reported used ((f.name, f) ∷ []) old new _) c.push.result c.push.ensures.ok;
      truth = pushed c.push.result (IsUnnamedEntry used ((f.name, f) ∷ [])) old new _ c.push.ensures.ok c.push.ensures.err
          ((f.name, f), stands_first (f.name, f) [], unnamed, entry_is f c.in_ok-name.name c.in_ok-name.ensures);
    }
