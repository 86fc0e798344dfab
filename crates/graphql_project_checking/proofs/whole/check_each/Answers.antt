use Rattle.std.proofs.Common.{◌≡◌, ◌∙◌, ◌∷◌, ◌++◌, [], ap, rules, subst, sym}
use Rattle.std.specs.Prelude.{All, flat_map}
use Rattle.std.proofs.lemmas.List.{append-nil, nil_from_length}
use Rattle.std.proofs.lemmas.List.Elements.{All-nil}
use Rattle.graphql_documents.proofs.ListLemmas.{done_next, stands_next}
use Rattle.graphql_documents.specs.Executables.{operations_of}
use Rattle.graphql_variables.specs.Uses.{names_of}
use Rattle.graphql_project_checking.specs.Silence.{FilePasses, NotesUses, QuietOnlyIf}
use Rattle.graphql_project_checking.specs.Truth.{AreOfFile, AreOfOneFile, NotesAll}
use Rattle.graphql_project_checking.proofs.ReachingLemmas.{files_more, note_file, note_nothing}
use Rattle.graphql_project_checking.proofs.SilenceLemmas.{stays_quiet}
use Rattle.graphql_project_checking.proofs.TruthLemmas.{adds_nothing, adds_so, adds_then}
use Rattle.graphql_project_checking.proofs.UseTruthLemmas.{all_of_file, all_of_nothing}
use Rattle.graphql_project_checking.proofs.whole.check_each.Goals as goal

pub loop-file-init : goal.loop-file-init
loop-file-init c =
    let s = c.args.context.schema.now in
    let pool = c.args.context.pool.now in (
      [],
      search rules,
      stays_quiet c.args.found.now.lists.items (λ off. All (FilePasses off s pool) []) (λ off. All-nil (FilePasses off s pool)),
      note_nothing pool (names_of c.args.used.now.keys),
      adds_nothing (AreOfOneFile c.args.context.bounds s pool c.args.files.items) c.args.found.now.lists.items,
      all_of_nothing pool (names_of c.args.used.now.keys),
    )

pub loop-file-preserved : goal.loop-file-preserved
loop-file-preserved c =
    let s = c.args.context.schema.now in
    let b = c.args.context.bounds in
    let pool = c.args.context.pool.now in
    let files = c.args.files.items in
    let old = c.args.found.now.lists.items in
    let mid = c.loop-file.found.lists.items in
    let new = c.check_file.new.found.lists.items in
    let before = c.loop-file.invariant in
    let rest = c.loop-file.file-iterator.rest.items in
    let x = c.in-Some.file in (
      before.0 ++ x ∷ [],
      done_next _ before.0 rest c.next.new.self.rest.items x before.1 c.in-Some.ensures.steps.0,
      files_more pool s before.0 x old mid new before.2 c.in_ok-check_file.ensures.passes,
      note_file pool before.0 x (names_of c.args.used.now.keys) (names_of c.loop-file.used.keys) (names_of c.check_file.new.used.keys) before.3 c.in_ok-check_file.ensures.used,
      adds_then (AreOfOneFile b s pool files) old mid new before.4
          (adds_so (AreOfFile b s pool x) (AreOfOneFile b s pool files) mid new
          (λ r are. (x, stands_next files before.0 rest c.next.new.self.rest.items x before.1 c.in-Some.ensures.steps.0, are)) c.in_ok-check_file.ensures.truth),
      all_of_file pool before.0 x (names_of c.args.used.now.keys) (names_of c.loop-file.used.keys) (names_of c.check_file.new.used.keys) before.5 c.in_ok-check_file.ensures.noted,
    )

pub returns : goal.returns
returns c =
    let s = c.args.context.schema.now in
    let pool = c.args.context.pool.now in
    let before = c.loop-file.invariant in
    let rest = c.loop-file.file-iterator.rest in
    let none : rest.items ≡ [] = nil_from_length rest.items (sym rest.ok.0 ∙ c.in-None.ensures.steps.0) in
    let done = before.1 ∙ ap (λ l. before.0 ++ l) none ∙ append-nil before.0 in
    record {
      passes = subst (λ l. QuietOnlyIf c.args.found.now.lists.items c.loop-file.found.lists.items (λ off. All (FilePasses off s pool) l)) (sym done) before.2;
      truth = before.4;
      used = subst (λ l. NotesUses pool (flat_map operations_of l) (names_of c.args.used.now.keys) (names_of c.loop-file.used.keys)) (sym done) before.3;
      noted = subst (λ l. NotesAll pool (flat_map operations_of l) (names_of c.args.used.now.keys) (names_of c.loop-file.used.keys)) (sym done) before.5;
    }
