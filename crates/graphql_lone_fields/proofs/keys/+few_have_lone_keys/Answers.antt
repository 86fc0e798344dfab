use Rattle.std.proofs.Common.{ap, subst, sym}
use Rattle.std.specs.Prelude.{AllPairs}
use Rattle.std.proofs.lemmas.List.Kept.{AllPairs-cons}
use Rattle.graphql_field_conflicts.specs.FieldSelections.{listed, selection_of}
use Rattle.graphql_lone_fields.specs.LoneFields.{NeedNoMerging}
use Rattle.graphql_lone_fields.proofs.keys.+few_have_lone_keys.Goals as goal

pub returns-then-has_lone_key-clause-lone : goal.returns-then-has_lone_key-clause-lone
returns-then-has_lone_key-clause-lone g t c = λ yes.
    subst (AllPairs NeedNoMerging) (sym (ap listed c.in-Some.ensures.cases.0))
    (AllPairs-cons NeedNoMerging (selection_of c.in-Some.first.now) (listed c.in-Some.rest.now)
    (c.has_lone_key.ensures c.if-has_lone_key.true) (c.few_have_lone_keys.ensures.lone yes))
