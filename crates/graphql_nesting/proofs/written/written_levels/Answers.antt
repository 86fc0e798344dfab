use Rattle.std.proofs.Common.{◌≡◌, ◌+◌, ◌++◌, ◌∷◌, Some, [], ap, map, subst, sym, ◌∙◌, ℕ}
use Rattle.std.specs.Prelude.{filter_map}
use Rattle.std.proofs.lemmas.List.{map-append, nil_from_length}
use Rattle.graphql_nodes.specs.declared.nodes.Node.{Node}
use Rattle.graphql_documents.specs.Selections.{fragments_of, selections_of}
use Rattle.graphql_documents.specs.declared.documents.executables.ExecutableDocument.{ExecutableDocument}
use Rattle.graphql_documents.specs.declared.documents.executables.Fragment.{Fragment}
use Rattle.graphql_documents.specs.declared.documents.executables.SelectionSet.{SelectionSet}
use Rattle.graphql_nesting.specs.Written.{fragment_spread, left_of, spread_fragments, spreads_of}
use Rattle.graphql_nesting.specs.declared.written.SetBelow.{SetBelow}
use Rattle.graphql_nesting.proofs.WalkLemmas.{Walks, walks_begin, walks_end, walks_on}
use Rattle.graphql_nesting.proofs.WeightLemmas.{lighter}
use Rattle.graphql_nesting.proofs.written.written_levels.Goals as goal

abbrev view : SetBelow → SelectionSet × ℕ
view x = (x.set.now, x.above)

pub loop-below-init : goal.loop-below-init
loop-below-init c =
    let e = c.in_ok-walk.ensures in
    let walk = c.in_ok-walk.walk in
    record {
      document = e.document;
      walks = subst (λ f. Walks c.args.document.now c.args.set.now (left_of walk) f walk.written.levels) (sym (ap (spread_fragments walk.document.now) e.spreads))
          (walks_begin c.args.document.now c.args.set.now (left_of walk) walk.written.levels e.left e.levels);
    }

pub loop-below-smaller : goal.loop-below-smaller
loop-below-smaller c =
    let before = c.loop-below.walk in
    let x = c.in-Some.below in
    lighter (map view c.pop.new.self.items) (left_of before) (left_of c.add_set.new.self) x.set.now x.above (x.above + 1)
    (ap (map view) c.in-Some.ensures.items ∙ map-append view c.pop.new.self.items (x ∷ [])) c.in_ok-add_set.ensures.left

pub loop-below-preserved : goal.loop-below-preserved
loop-below-preserved c =
    let i = c.loop-below.invariant in
    let e = c.in_ok-add_set.ensures in
    let before = c.loop-below.walk in
    let after = c.add_set.new.self in
    let x = c.in-Some.below in
    record {
      document = ap (λ (r : _). r.now) e.document ∙ i.document;
      walks = walks_on c.args.document.now c.args.set.now (map view c.pop.new.self.items) (left_of before) (left_of after) (spreads_of before) (spreads_of after)
          x.set.now x.above before.written.levels after.written.levels
          (ap (map view) c.in-Some.ensures.items ∙ map-append view c.pop.new.self.items (x ∷ [])) e.left
          (subst (λ (d : ExecutableDocument). spreads_of after ≡ spreads_of before ++ map (λ (f : Node Fragment). (Some f, x.above + 1)) (filter_map (fragment_spread (fragments_of d)) (selections_of x.set.now)))
          i.document e.spreads)
          e.levels i.walks;
    }

pub returns : goal.returns
returns c =
    let i = c.loop-below.invariant in
    let walk = c.loop-below.walk in
    let none : walk.left.items ≡ [] = nil_from_length walk.left.items (sym walk.left.ok.0 ∙ c.in_default.ensures.cases.0) in
    walks_end c.args.document.now c.args.set.now walk.written (left_of walk) (ap (map view) none)
    (subst (λ (d : ExecutableDocument). Walks c.args.document.now c.args.set.now (left_of walk) (spread_fragments d walk.written.spreads.items) walk.written.levels) i.document i.walks)
