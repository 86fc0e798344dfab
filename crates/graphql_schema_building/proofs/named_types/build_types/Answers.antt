use Rattle.std.proofs.Common.{◌≡◌, ◌++◌, ◌∷◌, ◌∙◌, ◌+◌, [], ap, drop, map, sym, subst, take}
use Rattle.std.proofs.lemmas.List.{append_assoc, map-append}
use Rattle.std.proofs.lemmas.List.Elements.{All-contains}
use Rattle.graphql_nodes.specs.Names.{AreDistinct}
use Rattle.graphql_variables.proofs.SplitLemmas.{split_at}
use Rattle.graphql_schema_checking.specs.Definitions.{name_of}
use Rattle.graphql_repetitions.specs.References.{nows}
use Rattle.graphql_repetitions.proofs.ReferenceLemmas.{nows_all, nows_more}
use Rattle.graphql_repetitions.proofs.ReferenceLemmas.{stands_now}
use Rattle.graphql_schema_building.specs.Parts.{parts_with}
use Rattle.graphql_schema_building.specs.SchemaSays.{TypesStand}
use Rattle.graphql_schema_building.specs.Steps.{FindsParts}
use Rattle.graphql_schema_building.specs.TypeParts.{originated}
use Rattle.graphql_schema_building.specs.TypesSay.{PartsAreDistinct}
use Rattle.graphql_schema_building.proofs.DistinctLemmas.{distinct_front}
use Rattle.graphql_schema_building.proofs.named_types.build_types.Goals as goal

pub add_type-requires : goal.add_type-requires
add_type-requires c =
    let xs = c.args.types.now in
    let i = c.loop-definition.definition-index in
    let x = c.definition-item.result in
    let extensions = originated c.args.extensions.now in (
      extensions,
      c.in_ok-found.ensures,
      All-contains (λ d. PartsAreDistinct (parts_with extensions d)) (nows xs) x.now c.requires.parts (stands_now xs i x c.loop-definition-test.true c.definition-item.is),
    )

pub loop-definition-preserved : goal.loop-definition-preserved
loop-definition-preserved c = λ definitions e.
    let xs = c.args.types.now in
    let i = c.loop-definition.definition-index in
    let x = c.definition-item.result in
    let before = nows (take i xs) in
    let behind = nows (drop (i + 1) xs) in
    let split : nows xs ≡ (before ++ x.now ∷ []) ++ behind =
    ap nows (split_at xs i x c.loop-definition-test.true c.definition-item.is) ∙ map-append (λ r. r.now) (take i xs) (x ∷ drop (i + 1) xs) ∙
    sym (append_assoc before (x.now ∷ []) behind) in
    let distinct : AreDistinct (map name_of (before ++ x.now ∷ [])) =
    distinct_front name_of (before ++ x.now ∷ []) behind (subst (λ l. AreDistinct (map name_of l)) split c.requires.names) in
    subst (λ l. TypesStand definitions l c.add_type.new.built.entries) (sym (nows_more xs i x c.loop-definition-test.true c.definition-item.is))
    (c.in_ok-add_type.ensures definitions before (subst (FindsParts c.in_ok-found.found) e c.in_ok-found.ensures) distinct
    (c.loop-definition.invariant definitions e))

pub returns : goal.returns
returns c = λ definitions e.
    subst (λ l. TypesStand definitions l c.loop-definition.built.entries) (nows_all c.args.types.now c.loop-definition.definition-index c.loop-definition-test.false)
    (c.loop-definition.invariant definitions e)
