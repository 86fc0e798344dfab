use Rattle.std.proofs.Common.{◌∷◌, ◌++◌, [], ap, map, sym, ◌∙◌}
use Rattle.std.proofs.lemmas.List.{append-nil}
use Rattle.graphql_documents.specs.Extensions.{extensions_among}
use Rattle.graphql_nodes.specs.Names.{NameText}
use Rattle.graphql_documents.specs.declared.documents.components.Component.{Component}
use Rattle.graphql_documents.proofs.ListLemmas.{done_next}
use Rattle.graphql_schemas.proofs.ExtensionLemmas.{among_done}
use Rattle.graphql_schemas.proofs.extensions.add_entries.Goals as goal

pub loop-component-preserved : goal.loop-component-preserved
loop-component-preserved g c =
    let x : NameText × Component g.row.T.Denot = (c.in-Some.field-0-0.now, c.in-Some.component.now) in
    let done = c.loop-component.invariant.done in
    record {
      can_next = tt;
      is_finite = tt;
      done = done ++ x ∷ [];
      all = done_next _ done c.loop-component.component-iterator c.next.new.self x c.loop-component.invariant.all c.in-Some.ensures.steps;
      added = c.in_ok-add_extension.ensures.extensions ∙
          ap (λ known. extensions_among known (c.in-Some.component.now.origin ∷ [])) c.loop-component.invariant.added ∙
          among_done (λ (e : NameText × Component g.row.T.Denot). e.1.origin) c.args.found.now.extensions.items done x;
      numbers = c.in_ok-add_extension.ensures.numbers;
    }

pub returns-clause-extensions : goal.returns-clause-extensions
returns-clause-extensions g c =
    c.loop-component.invariant.added ∙
    ap (λ entries. extensions_among c.args.found.now.extensions.items (map (λ (e : NameText × Component g.row.T.Denot). e.1.origin) entries))
    (sym (c.loop-component.invariant.all ∙ ap (λ l. c.loop-component.invariant.done ++ l) c.in-None.ensures.steps.0 ∙ append-nil c.loop-component.invariant.done))
