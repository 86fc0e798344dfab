use Rattle.std.proofs.Common.{◌∷◌, ◌++◌, [], Bor, map, sym, ap, ◌∙◌}
use Rattle.std.proofs.lemmas.List.{append-nil, map-append}
use Rattle.graphql_nodes.specs.Names.{NameText}
use Rattle.graphql_documents.specs.declared.documents.components.Component.{Component}
use Rattle.graphql_documents.specs.declared.documents.definitions.InputValueDefinition.{InputValueDefinition}
use Rattle.graphql_nodes.specs.declared.nodes.Node.{Node}
use Rattle.graphql_documents.proofs.ListLemmas.{done_next}
use Rattle.graphql_schemas.proofs.input_objects.field_nodes.Goals as goal

pub loop-field-preserved : goal.loop-field-preserved
loop-field-preserved c =
    let x : NameText × Component InputValueDefinition = (c.in-Some.field-0-0.now, c.in-Some.field.now) in
    let done = c.loop-field.invariant.done in
    record {
      can_next = tt;
      is_finite = tt;
      done = done ++ x ∷ [];
      all = done_next _ done c.loop-field.field-iterator c.next.new.self x c.loop-field.invariant.all c.in-Some.ensures.steps;
      made = ap (map (λ (d : Bor (Node InputValueDefinition)). d.now)) c.in_ok-push.ensures.items ∙
          map-append (λ (d : Bor (Node InputValueDefinition)). d.now) c.loop-field.nodes.items _ ∙
          ap (λ l. l ++ x.1.node ∷ []) c.loop-field.invariant.made ∙
          sym (map-append (λ (entry : NameText × Component InputValueDefinition). entry.1.node) done (x ∷ []));
    }

pub returns : goal.returns
returns c =
    let done = c.loop-field.invariant.done in
    c.loop-field.invariant.made ∙
    ap (map (λ (entry : NameText × Component InputValueDefinition). entry.1.node))
    (sym (c.loop-field.invariant.all ∙ ap (λ l. done ++ l) c.in-None.ensures.steps.0 ∙ append-nil done))
