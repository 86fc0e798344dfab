use Rattle.std.proofs.Common.{◌≡◌, ◌∷◌, [], List, map, rules, subst}
use Rattle.graphql_contents.specs.declared.documents.NumberedSet.{NumberedSet}
use Rattle.graphql_specification.specs.MergedSets.{Expansion}
use Rattle.graphql_contents.specs.Documents.{document_in}
use Rattle.graphql_documents.specs.Selections.{fragments_of}
use Rattle.graphql_diagnostics.proofs.ReportLemmas.{on_ok}
use Rattle.graphql_merging.specs.NumberedFields.{listed}
use Rattle.graphql_merging.specs.Groups.{pass_of}
use Rattle.graphql_merging.specs.Passes.{Examines, ExaminesSet}
use Rattle.graphql_merging.specs.Stages.{stage_of}
use Rattle.graphql_merging.proofs.NumberedExaminedLemmas.{in_one_table}
use Rattle.graphql_merging.proofs.PassLemmas.{set_examined, set_known}
use Rattle.graphql_merging.proofs.PassStepLemmas.{known_with}
use Rattle.graphql_laws.proofs.FieldContentsLaws.{same_fields_itself}
use Rattle.graphql_merging.proofs.passes.MergingPass.examine_set.Goals as goal

pub returns-then-knows-clause-examines : goal.returns-then-knows-clause-examines
returns-then-knows-clause-examines g c =
    let self = c.args.self.now in
    let stage = stage_of c.args.examined.now c.args.depth.now c.args.diagnostics.now in
    let fields = listed c.in_ok-list.list.fields.items in
    let known = known_with stage.lists fields (c.knows.ensures.0 c.if-knows.true) in
    let one : c.in_ok-vec.field-0.items ≡ c.args.set ∷ [] = search rules in
    let expansion = subst (λ (sets : List NumberedSet). Expansion (fragments_of (document_in self.numbered.now)) (map (λ set. set.set.now) sets) fields) one c.in_ok-list.ensures.fields in
    set_known self.schema.now (fragments_of (document_in self.numbered.now)) (pass_of self.pass) c.args.set.set.now fields known.0 stage c.args.examined.now.small expansion known.1 known.2

pub returns-clause-examines : goal.returns-clause-examines
returns-clause-examines g c =
    let self = c.args.self.now in
    let S = self.schema.now in
    let F = fragments_of (document_in self.numbered.now) in
    let pass = pass_of self.pass in
    let old = stage_of c.args.examined.now c.args.depth.now c.args.diagnostics.now in
    let new = stage_of c.examine.new.examined c.examine.new.depth c.examine.new.diagnostics in
    let fields = listed c.in_ok-list.list.fields.items in
    let one : c.in_ok-vec.field-0.items ≡ c.args.set ∷ [] = search rules in
    let expansion = subst (λ (sets : List NumberedSet). Expansion F (map (λ set. set.set.now) sets) fields) one c.in_ok-list.ensures.fields in
    on_ok c.examine.result (Examines S F pass fields old new) (ExaminesSet S F pass c.args.set.set.now old new)
    (set_examined S F pass same_fields_itself c.args.set.set.now fields old new expansion) c.examine.ensures.examines

pub returns-clause-truth : goal.returns-clause-truth
returns-clause-truth g c operations merged =
    let fields = listed c.in_ok-list.list.fields.items in
    let one : c.in_ok-vec.field-0.items ≡ c.args.set ∷ [] = search rules in
    let expansion = subst (λ (sets : List NumberedSet). Expansion (fragments_of (document_in c.args.self.now.numbered.now)) (map (λ set. set.set.now) sets) fields) one c.in_ok-list.ensures.fields in
    c.examine.ensures.truth operations (merged fields expansion)

pub knows-requires : goal.knows-requires
knows-requires g c = in_one_table c.args.self.now.numbered.now c.args.examined.now c.in_ok-list.list.fields.items c.requires.known c.in_ok-list.ensures.numbers
