use Rattle.std.proofs.Common.{◌≡◌, Bor, List, map, sym, ap, ◌∙◌}
use Rattle.std.proofs.lemmas.List.{map-append}
use Rattle.std.specs.Prelude.{Vec, codes}
use Rattle.std.specs.Str.{bytes_eq}
use Rattle.std.specs.declared.alloc.Global.{Global}
use Rattle.graphql_documents.specs.declared.documents.directives.Directive.{Directive}
use Rattle.graphql_nodes.specs.declared.nodes.Node.{Node}
use Rattle.graphql_operations.proofs.WrittenDeferLemmas.{defers_added, defers_kept}
use Rattle.graphql_operations.proofs.defer.written.add_defers.Goals.{else-eq, then-eq+in_ok-push}
use Rattle.graphql_operations.proofs.defer.written.add_defers.Goals as goal

pub loop-directive-preserved : goal.loop-directive-preserved
loop-directive-preserved c =
    let nodes = λ (l : List (Bor (Node Directive))). map (λ d. d.now) l in
    let x = c.directive-item.result in
    let named : bytes_eq x.value.value.name.text (codes "defer") ≡ c.eq.result =
    ap (λ (d : Directive). bytes_eq d.name.text (codes "defer")) (sym c.deref.ensures) ∙ ap (λ l. bytes_eq l (codes "defer")) (sym c.as_str.ensures.text) ∙ sym c.eq.ensures in
    elim c.if-eq.branch [
      | then-eq+in_ok-push w ↦
          defers_added c.args.directives.now c.loop-directive.directive-index x c.loop-directive-test.true c.directive-item.is
          (nodes c.args.visited.now.items) (nodes c.loop-directive.visited.items) (nodes c.if-eq.visited.items) (named ∙ w.if-eq.true) c.loop-directive.invariant
          (ap (λ (v : Vec (Bor (Node Directive)) Global). nodes v.items) w.visited-is ∙ ap nodes w.in_ok-push.ensures.items ∙ map-append (λ (d : Bor (Node Directive)). d.now) _ _)
      | else-eq w ↦
          defers_kept c.args.directives.now c.loop-directive.directive-index x c.loop-directive-test.true c.directive-item.is
          (nodes c.args.visited.now.items) (nodes c.loop-directive.visited.items) (nodes c.if-eq.visited.items) (named ∙ w.if-eq.false) c.loop-directive.invariant
          (ap (λ (v : Vec (Bor (Node Directive)) Global). nodes v.items) w.visited-is)
    ]
