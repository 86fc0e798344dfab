use Rattle.std.proofs.Common.{[], ◌∷◌, ◌++◌, subst, sym}
use Rattle.std.specs.List.{AllZip}
use Rattle.std.proofs.lemmas.Slice.Zip.{all_zipped_more}
use Rattle.std.specs.Option.{option_copied}
use Rattle.graphql_findings.specs.Findings.{IsFindingOf}
use Rattle.graphql_findings.proofs.findings.with_notes.Goals as goal

pub loop-one-preserved : goal.loop-one-preserved
loop-one-preserved c =
    subst (AllZip (IsFindingOf (option_copied c.args.schema) c.args.sources.now c.args.bounds) (c.loop-one.yielded ++ c.in-Some.one ∷ [])) (sym c.in_ok-push.ensures.items)
    (all_zipped_more (IsFindingOf (option_copied c.args.schema) c.args.sources.now c.args.bounds) c.loop-one.yielded c.loop-one.findings.items c.in-Some.one c.in_ok-finding_of.field-0 c.loop-one.invariant c.in_ok-finding_of.ensures)
