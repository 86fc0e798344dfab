use Rattle.std.proofs.Common.{◌∷◌, [], ap, ◌∙◌}
use Rattle.graphql_documents.specs.Extensions.{extensions_among}
use Rattle.graphql_documents.specs.declared.documents.components.ComponentName.{ComponentName}
use Rattle.graphql_schemas.proofs.ExtensionLemmas.{among_more}
use Rattle.graphql_schemas.proofs.extensions.add_names.Goals as goal

pub loop-name-preserved : goal.loop-name-preserved
loop-name-preserved c =
    record {
      added = c.in_ok-add_extension.ensures.extensions ∙
          ap (λ known. extensions_among known (c.name-item.result.origin ∷ [])) c.loop-name.invariant.added ∙
          among_more (λ (x : ComponentName). x.origin) c.args.found.now.extensions.items c.args.names.now c.loop-name.name-index
          c.name-item.result c.loop-name-test.true c.name-item.is;
      numbers = c.in_ok-add_extension.ensures.numbers;
    }
