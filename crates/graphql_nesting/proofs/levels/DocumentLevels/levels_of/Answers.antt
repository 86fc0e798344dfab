use Rattle.std.proofs.Common.{◌≡◌, ℕ, IfSome, None, Option, Some, sym, subst, true≢false, ◌∙◌}
use Rattle.std.proofs.Math.Logic.{∥∥₁_map}
use Rattle.std.specs.Prelude.{IsNone, slice_get}
use Rattle.indexmap.specs.IndexMap.{values}
use Rattle.graphql_nodes.specs.Names.{NameText}
use Rattle.graphql_nodes.specs.declared.nodes.Node.{Node}
use Rattle.graphql_documents.specs.Selections.{fragments_of}
use Rattle.graphql_documents.specs.declared.documents.executables.ExecutableDocument.{ExecutableDocument}
use Rattle.graphql_documents.specs.declared.documents.executables.Fragment.{Fragment}
use Rattle.graphql_nesting.specs.Nesting.{HasLevels, IsEndless}
use Rattle.graphql_nesting.specs.Search.{AreSettled}
use Rattle.graphql_nesting.specs.Spreads.{known_at}
use Rattle.graphql_nesting.specs.declared.fragments.FragmentNestings.{FragmentNestings}
use Rattle.graphql_nesting.proofs.CheckLemmas.{endless_at, known_levels_at}
use Rattle.graphql_nesting.proofs.levels.DocumentLevels.levels_of.Goals as goal

-- the levels at the number of a name are those of its fragment
levels_by_name : (document : ExecutableDocument) (held : Option FragmentNestings) (found : FragmentNestings) (name : NameText) (number : ℕ) (answer : Option ℕ) →
    ∥ IfSome held (AreSettled document) ∥₁ → held ≡ Some found → slice_get (values document.fragments) number ≡ fragments_of document name →
    answer ≡ known_at found.known.items number →
    IfSome answer (λ levels. (d : Node Fragment) → fragments_of document name ≡ Some d → ∥ HasLevels (fragments_of document) d.value.value.selection_set levels ∥₁)
levels_by_name document held found name number None settled is at known = tt
levels_by_name document held found name number (Some levels) settled is at known = λ d named.
    ∥∥₁_map settled (λ s. known_levels_at document found (subst (λ o. IfSome o (AreSettled document)) is s) number levels d (sym known) (at ∙ named))

-- a name whose number has no levels is that of an endless fragment
endless_by_name : (document : ExecutableDocument) (held : Option FragmentNestings) (found : FragmentNestings) (name : NameText) (number : ℕ) (answer : Option ℕ) →
    ∥ IfSome held (AreSettled document) ∥₁ → held ≡ Some found → slice_get (values document.fragments) number ≡ fragments_of document name →
    answer ≡ known_at found.known.items number → IsNone answer →
    (d : Node Fragment) → fragments_of document name ≡ Some d → ∥ IsEndless (fragments_of document) d.value.value.selection_set ∥₁
endless_by_name document held found name number (Some levels) settled is at known none = absurd (true≢false none)
endless_by_name document held found name number None settled is at known none = λ d named.
    ∥∥₁_map settled (λ s. endless_at document found (subst (λ o. IfSome o (AreSettled document)) is s) number d (sym known) (at ∙ named))

pub returns-clause-levels : goal.returns-clause-levels
returns-clause-levels c =
    levels_by_name c.args.self.now.document.now c.args.self.now.found c.in_ok-found.found.now c.args.name.now c.in_ok-number.number c.levels_at.result
    c.args.self.now.settled (sym c.in_ok-found.ensures.value) c.in_ok-number.ensures.value c.levels_at.ensures

pub returns-clause-endless : goal.returns-clause-endless
returns-clause-endless c none sought =
    endless_by_name c.args.self.now.document.now c.args.self.now.found c.in_ok-found.found.now c.args.name.now c.in_ok-number.number c.levels_at.result
    c.args.self.now.settled (sym c.in_ok-found.ensures.value) c.in_ok-number.ensures.value c.levels_at.ensures none
