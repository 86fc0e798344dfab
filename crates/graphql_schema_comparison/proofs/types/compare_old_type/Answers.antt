use Rattle.graphql_change_kinds.specs.Changes.{type_removed}
use Rattle.graphql_documents.specs.Schemas.{type_definition}
use Rattle.std.specs.Prelude.{IsNone, IsSome}
use Rattle.std.proofs.Common.{sym, rules}
use Rattle.graphql_change_kinds.proofs.FindsLemmas.{found_both, found_words}
use Rattle.graphql_schema_comparison.proofs.types.compare_old_type.Goals as goal

pub returns : goal.returns
returns c =
    found_words (λ merging h. record { after = c.in-Some.new.now; is_defined = sym c.in-Some.ensures.value; kind = h.0; contents = h.1 })
    (found_both c.in_ok-compare_kinds.ensures c.in_ok-compare_contents.ensures)

pub push-requires : goal.push-requires
push-requires c =
    let was : IsSome (type_definition c.args.pair.old.now c.in_ok-ty.ty.ty) = search rules in
    let none : IsNone (type_definition c.args.pair.new.now c.in_ok-ty.ty.ty) = search rules in
    type_removed was none
