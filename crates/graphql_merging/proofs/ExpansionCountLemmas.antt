-- How much an expansion lists and puts into its queue, beside how many selections it goes past.
use Rattle.std.proofs.Common.{Option, ◌+◌, ◌*◌, ◌≤◌, List, Some, None, length, length-append, ap, arith}
use Rattle.std.specs.Prelude.{filter_map}
use Rattle.std.specs.List.{cons_option}
use Rattle.std.proofs.lemmas.List.{length-map}
use Rattle.graphql_contents.specs.declared.documents.NumberedSet.{NumberedSet}
use Rattle.graphql_specification.specs.MergedSets.{FragmentSets, as_field, followed_by, into_inline_fragment, into_spread, no_more, past_field, past_spread}
use Rattle.graphql_specification.specs.Merging as merging
use Rattle.graphql_nodes.specs.Names.{NameText}
use Rattle.graphql_nodes.specs.declared.nodes.Node.{Node}
use Rattle.graphql_documents.specs.Selections.{Fragments}
use Rattle.graphql_documents.specs.declared.documents.executables.Field.{Field}
use Rattle.graphql_documents.specs.declared.documents.executables.Fragment.{Fragment}
use Rattle.graphql_documents.specs.declared.documents.executables.InlineFragment.{InlineFragment}
use Rattle.graphql_documents.specs.declared.documents.executables.Selection.TheOpen as Open
use Rattle.graphql_documents.specs.declared.documents.executables.Selection.TheVariants as kind
use Rattle.graphql_documents.specs.declared.documents.executables.Selection.{Selection}
use Rattle.graphql_documents.specs.declared.documents.executables.SelectionSet.{SelectionSet}
use Rattle.graphql_merging.specs.ExpansionSteps.{Expanding, Expands}
use Rattle.graphql_merging.specs.NumberedExpansions.{expanding}
use Rattle.graphql_merging.specs.NumberedFields.{selection_of}
use Rattle.graphql_merging.specs.declared.numbered_expansion.NumberedExpansion.{NumberedExpansion}

abbrev opened_field : NameText → Open.Selection-F Selection Field InlineFragment SelectionSet → Option merging.FieldSelection
opened_field parent o = elim o [
  | Open.Field f ↦ Some (record { parent = parent; field = f })
  | Open.FragmentSpread p ↦ None
  | Open.InlineFragment i ↦ None
]

one_more : {X : Type 0} (o : Option X) (xs : List X) → length (cons_option o xs) ≤ 1 + length xs
one_more None xs = omega arith
one_more (Some x) xs = omega arith

one_set : (o : Option (Node Fragment)) (sets : List SelectionSet) → length (followed_by o sets) ≤ 1 + length sets
one_set None sets = omega arith
one_set (Some d) sets = omega arith

-- each selection is a field, or leads to one set at most
pub found_at_most : {fragments : Fragments} {seen visited : List NameText} {xs : List Selection} {sets : List SelectionSet} (parent : NameText) →
    FragmentSets fragments seen xs sets visited → length (filter_map (as_field parent) xs) + length sets ≤ length xs
found_at_most parent no_more = omega arith
found_at_most parent (past_field f rest found) =
    omega (arith, found_at_most parent found, one_more (as_field parent (kind.Field f)) (filter_map (as_field parent) rest))
found_at_most parent (into_inline_fragment i rest found) =
    omega (arith, found_at_most parent found, ap (λ o. length (cons_option (opened_field parent o) (filter_map (as_field parent) rest))) (kind.outs-InlineFragment i))
found_at_most parent (past_spread p rest known found) =
    omega (arith, found_at_most parent found, ap (λ o. length (cons_option (opened_field parent o) (filter_map (as_field parent) rest))) (kind.outs-FragmentSpread p))
found_at_most {fragments = fragments} parent (into_spread {sets = sets} p rest fresh found) =
    omega (
      arith,
      found_at_most parent found,
      one_set (fragments p.value.value.fragment_name) sets,
      ap (λ o. length (cons_option (opened_field parent o) (filter_map (as_field parent) rest))) (kind.outs-FragmentSpread p),
    )

grown : (a b : Expanding) (parent : NameText) (xs : List Selection) → Expands a b parent xs →
    25 * length b.fields + length b.queue ≤ 25 * length a.fields + length a.queue + 25 * length xs
grown a b parent xs e =
    omega (arith, ap length e.fields, ap length e.queue, length-append a.fields (filter_map (as_field parent) xs), length-append a.queue e.sets, found_at_most parent e.found)

-- the same of the vector of fields and the queue of the code
pub grows : (a b : NumberedExpansion) (parent : NameText) (xs : List Selection) → Expands (expanding a) (expanding b) parent xs →
    25 * length b.fields.items + length b.queue.items ≤ 25 * length a.fields.items + length a.queue.items + 25 * length xs
grows a b parent xs e =
    omega (
      arith,
      grown (expanding a) (expanding b) parent xs e,
      length-map a.fields.items selection_of,
      length-map b.fields.items selection_of,
      length-map a.queue.items (λ (set : NumberedSet). set.set.now),
      length-map b.queue.items (λ (set : NumberedSet). set.set.now),
    )
