use Rattle.std.proofs.Common.{◌≡◌, ◌<◌, Some, ap, length, refl, subst, sym, ◌∙◌}
use Rattle.std.specs.Prelude.{slice_get}
use Rattle.std.specs.Option.{option_map}
use Rattle.std.proofs.lemmas.Option.{slice_get-map, slice_get_read, slice_get_within}
use Rattle.indexmap.specs.IndexMap.{values}
use Rattle.graphql_documents.specs.Selections.{selections_of}
use Rattle.graphql_documents.specs.declared.documents.executables.Fragment.{Fragment}
use Rattle.graphql_nodes.specs.declared.nodes.Node.{Node}
use Rattle.graphql_contents.specs.Contents.{AreNumbered}
use Rattle.graphql_contents.specs.Documents.{contents_in, document_in}
use Rattle.graphql_contents.specs.Fragments.{sets_among}
use Rattle.graphql_contents.proofs.FragmentLemmas.{numbered_at_place}
use Rattle.graphql_contents.proofs.documents.NumberedDocument.fragment_set.Goals as goal

pub returns-clause-numbers : goal.returns-clause-numbers
returns-clause-numbers c =
    let d = c.args.self.now in
    let fragments = (document_in d).fragments in
    let k = c.in_ok-number.number in
    let set_in = λ (f : Node Fragment). f.value.value.selection_set in
    let set = set_in c.in_ok-number.fragment.now in
    let at_set : slice_get (sets_among fragments) k ≡ Some set =
    slice_get-map set_in (values fragments) k ∙ ap (option_map set_in) (slice_get-map (λ e. e.1) fragments.entries k ∙ ap (option_map (λ e. e.1)) c.in_ok-number.ensures.entry) in
    let within : k < length d.fragments.items = subst (λ n. k < n) (sym c.requires) (slice_get_within (sets_among fragments) k set at_set) in
    let at_numbers = slice_get_read d.fragments.items (length d.fragments.items) k c.index.result.now refl within c.index.ensures in
    subst (λ ns. AreNumbered (contents_in d) (selections_of c.deref.result.now.selection_set) ns) (sym c.deref-2.ensures.value)
    (subst (λ (f : Fragment). AreNumbered (contents_in d) (selections_of f.selection_set) c.index.result.now.items) (sym c.deref.ensures)
    (numbered_at_place (contents_in d) (sets_among fragments) d.fragments.items d.numbered c.requires k set c.index.result.now at_set at_numbers))
