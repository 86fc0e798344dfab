use Rattle.std.proofs.Common.{◌+◌, ◌++◌, ◌∷◌, ◌∙◌, [], sym, ap, take, arith}
use Rattle.std.specs.Prelude.{filter_map}
use Rattle.std.proofs.lemmas.List.{append-nil, append_assoc, take_all}
use Rattle.graphql_schema_building.specs.Numbered.{schema_originated}
use Rattle.graphql_schema_building.specs.Parts.{as_schema_extension, as_type_extension, numbered_from}
use Rattle.graphql_schema_building.specs.TypeParts.{originated}
use Rattle.graphql_schema_building.proofs.NumberedLemmas.{kept_more}
use Rattle.graphql_schema_building.proofs.numbered.NumberedExtensions.add_all.Goals as goal

pub loop-definition-init : goal.loop-definition-init
loop-definition-init c = record {
  passed = omega arith;
  types = sym (append-nil (originated c.args.self.now.types.items));
  schemas = sym (append-nil (schema_originated c.args.self.now.schemas.items));
}

pub loop-definition-preserved : goal.loop-definition-preserved
loop-definition-preserved c =
    let xs = c.args.definitions.now in
    let i = c.loop-definition.definition-index in
    let x = c.definition-item.result in
    let n = c.args.self.now.passed in
    let inv = c.loop-definition.invariant in
    record {
      passed = omega (arith, c.in_ok-self.ensures, c.in_ok-add.ensures.passed, inv.passed);
      types =
          c.in_ok-add.ensures.types ∙
          ap (λ k. originated c.loop-definition.self.types.items ++ filter_map as_type_extension ((k, x) ∷ [])) inv.passed ∙
          ap (λ l. l ++ filter_map as_type_extension ((n + i, x) ∷ [])) inv.types ∙
          append_assoc (originated c.args.self.now.types.items) (filter_map as_type_extension (numbered_from n (take i xs))) (filter_map as_type_extension ((n + i, x) ∷ [])) ∙
          ap (λ l. originated c.args.self.now.types.items ++ l) (sym (kept_more as_type_extension n xs i x c.loop-definition-test.true c.definition-item.is));
      schemas =
          c.in_ok-add.ensures.schemas ∙
          ap (λ k. schema_originated c.loop-definition.self.schemas.items ++ filter_map as_schema_extension ((k, x) ∷ [])) inv.passed ∙
          ap (λ l. l ++ filter_map as_schema_extension ((n + i, x) ∷ [])) inv.schemas ∙
          append_assoc (schema_originated c.args.self.now.schemas.items) (filter_map as_schema_extension (numbered_from n (take i xs))) (filter_map as_schema_extension ((n + i, x) ∷ [])) ∙
          ap (λ l. schema_originated c.args.self.now.schemas.items ++ l) (sym (kept_more as_schema_extension n xs i x c.loop-definition-test.true c.definition-item.is));
    }

pub returns : goal.returns
returns c =
    let xs = c.args.definitions.now in
    let i = c.loop-definition.definition-index in
    let n = c.args.self.now.passed in
    let inv = c.loop-definition.invariant in
    let all = take_all i xs c.loop-definition-test.false in
    record {
      passed = omega (arith, inv.passed);
      types = inv.types ∙ ap (λ l. originated c.args.self.now.types.items ++ filter_map as_type_extension (numbered_from n l)) all;
      schemas = inv.schemas ∙ ap (λ l. schema_originated c.args.self.now.schemas.items ++ filter_map as_schema_extension (numbered_from n l)) all;
    }
