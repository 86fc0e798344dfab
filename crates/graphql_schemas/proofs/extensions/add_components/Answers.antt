use Rattle.std.proofs.Common.{◌∷◌, [], ap, ◌∙◌}
use Rattle.graphql_documents.specs.Extensions.{extensions_among}
use Rattle.graphql_documents.specs.declared.documents.components.Component.{Component}
use Rattle.graphql_schemas.proofs.ExtensionLemmas.{among_more}
use Rattle.graphql_schemas.proofs.extensions.add_components.Goals as goal

pub loop-component-preserved : goal.loop-component-preserved
loop-component-preserved g c =
    record {
      added = c.in_ok-add_extension.ensures.extensions ∙
          ap (λ known. extensions_among known (c.component-item.result.origin ∷ [])) c.loop-component.invariant.added ∙
          among_more (λ (x : Component g.row.T.Denot). x.origin) c.args.found.now.extensions.items c.args.components.now c.loop-component.component-index
          c.component-item.result c.loop-component-test.true c.component-item.is;
      numbers = c.in_ok-add_extension.ensures.numbers;
    }
