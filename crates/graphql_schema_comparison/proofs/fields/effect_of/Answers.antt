use Rattle.std.proofs.Common.{◌≡◌, false, rules, true}
use Rattle.graphql_documents.specs.TypeReferences.{is_assignable}
use Rattle.graphql_change_kinds.specs.Changes.{PartsFrom, meets_other, narrower, other_responses, other_selections}
use Rattle.graphql_change_kinds.specs.Kinds.{KeepsSelections}
use Rattle.graphql_schema_comparison.proofs.fields.effect_of.Goals as goal

pub returns-then-not-keeps_selections-clause-means : goal.returns-then-not-keeps_selections-clause-means
returns-then-not-keeps_selections-clause-means c = other_selections (λ keeps. let given = c.keeps_selections.ensures.1 keeps in let no : ⊥ = cc in no)

pub returns-in-Some-clause-means : goal.returns-in-Some-clause-means
returns-in-Some-clause-means c =
    let keeps : KeepsSelections c.args.pair.old.now c.args.pair.new.now c.args.from.now c.args.to.now = search rules in
    let parts : PartsFrom c.args.pair.old.now c.args.pair.new.now c.args.from.now c.args.to.now c.in-Some.other = search rules in
    meets_other keeps parts

pub returns-in-None-clause-means : goal.returns-in-None-clause-means
returns-in-None-clause-means c =
    let keeps : KeepsSelections c.args.pair.old.now c.args.pair.new.now c.args.from.now c.args.to.now = search rules in
    let can : is_assignable c.args.to.now c.args.from.now ≡ true = search rules in
    narrower keeps can

pub returns-in-None-2-clause-means : goal.returns-in-None-2-clause-means
returns-in-None-2-clause-means c =
    let keeps : KeepsSelections c.args.pair.old.now c.args.pair.new.now c.args.from.now c.args.to.now = search rules in
    let cannot : is_assignable c.args.to.now c.args.from.now ≡ false = search rules in
    other_responses keeps cannot
