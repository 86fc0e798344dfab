use Rattle.graphql_project_checking.proofs.PartTruthLemmas.{leaves_one, takes_all, takes_nothing, takes_one}
use Rattle.graphql_project_checking.proofs.parts.built_from_end.Goals as goal

pub loop-definition-init : goal.loop-definition-init
loop-definition-init c = takes_nothing c.args.schema.now c.args.definitions _ c.new-kept.ensures

pub loop-definition-preserved-in-Continue-branch-2 : goal.loop-definition-preserved-in-Continue-branch-2
loop-definition-preserved-in-Continue-branch-2 c =
    takes_one c.args.schema.now c.args.definitions c.loop-definition.definitions c.pop.new.self c.loop-definition.kept c.push.new.self c.in-Some.definition c.in-Some.ensures
    (c.in_ok-builds.ensures.0 c.if-branch.true) c.in_ok-push.ensures.ok c.loop-definition.invariant

pub loop-definition-preserved : goal.loop-definition-preserved
loop-definition-preserved c =
    leaves_one c.args.schema.now c.args.definitions c.loop-definition.definitions c.pop.new.self c.loop-definition.kept c.in-Some.definition c.in-Some.ensures
    (λ builds.
    let yes = c.in_ok-builds.ensures.1 builds in
    let other = c.if-branch.false in
    let no : ⊥ = cc in
    no) c.loop-definition.invariant

pub returns : goal.returns
returns c = takes_all c.args.schema.now c.args.definitions c.loop-definition.definitions c.loop-definition.kept c.in_default.ensures.0 c.loop-definition.invariant
