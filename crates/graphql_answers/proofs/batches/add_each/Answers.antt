use Rattle.std.proofs.Common.{◌≡◌, ◌+◌, ◌++◌, Bool, List, refl, rules, sym, subst}
use Rattle.json.specs.Token.{Token}
use Rattle.graphql_answers.specs.Answers.{Checks}
use Rattle.graphql_answers.specs.Batches.{AppendsChecked, IsRefusalOfDocuments, document_at, is_no_text, lacks_memory}
use Rattle.graphql_answers.proofs.AnswerLemmas.{handed_on, nothing-first, with, without}
use Rattle.graphql_answers.proofs.batches.add_each.Goals.{then-branch, else-branch}
use Rattle.graphql_answers.proofs.batches.add_each.Goals as goal

pub loop-k-init : goal.loop-k-init
loop-k-init c = record { before = refl; checks = nothing-first c.args.schema.now c.args.documents.bytes.now c.args.documents.ends.now c.args.json.now }

pub returns-in_err-text-clause-refused : goal.returns-in_err-text-clause-refused
returns-in_err-text-clause-refused c =
    handed_on c.from_residual.result _ (IsRefusalOfDocuments c.args.documents.bytes.now c.args.documents.ends.now) c.from_residual.ensures.1
    (is_no_text c.loop-k.k c.loop-k-test.true c.in_err-text.ensures)

pub returns-in_err-add_one-clause-refused : goal.returns-in_err-add_one-clause-refused
returns-in_err-add_one-clause-refused c =
    let Q = IsRefusalOfDocuments c.args.documents.bytes.now c.args.documents.ends.now in
    handed_on c.from_residual-in_err-add_one.result _ Q c.from_residual-in_err-add_one.ensures.1
    (subst Q (sym c.in_err-add_one.ensures.refused) lacks_memory)

pub loop-k-preserved : goal.loop-k-preserved
loop-k-preserved c =
    let schema = c.args.schema.now in
    let bytes = c.args.documents.bytes.now in
    let ends = c.args.documents.ends.now in
    let old = c.args.json.now in
    let mid = c.loop-k.json in
    let new = c.add_one.new.json in
    let Adds = λ (found : Bool). (object : List Token) × Checks schema (document_at bytes ends c.loop-k.k) found object × (new.tokens ≡ mid.tokens ++ object) in
    let added = subst (λ d. (object : List Token) × Checks schema d c.in_ok-add_one.field-0 object × (new.tokens ≡ mid.tokens ++ object))
    c.in_ok-text.ensures c.in_ok-add_one.ensures.checks in
    record {
      before = search rules;
      checks = elim c.if-branch.branch [
        | then-branch w ↦ subst (λ b. AppendsChecked schema bytes ends (c.loop-k.k + 1) b old new) (sym w.is_reported-is)
            (with schema bytes ends c.loop-k.k c.loop-k.is_reported old mid new c.loop-k.invariant.checks (subst Adds w.if-branch.true added))
        | else-branch w ↦ subst (λ b. AppendsChecked schema bytes ends (c.loop-k.k + 1) b old new) (sym w.is_reported-is)
            (without schema bytes ends c.loop-k.k c.loop-k.is_reported old mid new c.loop-k.invariant.checks (subst Adds w.if-branch.false added))
      ];
    }
