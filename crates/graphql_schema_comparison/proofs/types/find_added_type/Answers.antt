use Rattle.graphql_change_kinds.proofs.FindsLemmas.{adds_found}
use Rattle.std.proofs.Common.{rules}
use Rattle.std.specs.Prelude.{IsNone, IsSome}
use Rattle.graphql_documents.specs.Schemas.{type_definition}
use Rattle.graphql_change_kinds.specs.Changes.{type_added}
use Rattle.graphql_schema_comparison.proofs.types.find_added_type.Goals as goal

pub push-requires : goal.push-requires
push-requires c =
    let none : IsNone (type_definition c.args.pair.old.now c.in_ok-ty.ty.ty) = search rules in
    let is : IsSome (type_definition c.args.pair.new.now c.in_ok-ty.ty.ty) = search rules in
    type_added none is

pub returns : goal.returns
returns c = adds_found c.in_ok-push.ensures
