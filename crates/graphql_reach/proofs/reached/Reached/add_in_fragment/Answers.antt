use Rattle.std.proofs.Common.{◌≡◌, Some, None, ◌∙◌, rules, subst, sym}
use Rattle.std.specs.Prelude.{OnOk}
use Rattle.std.proofs.lemmas.Option.{same_Some}
use Rattle.graphql_nodes.specs.declared.nodes.Node.{Node}
use Rattle.graphql_documents.specs.Selections.{fragments_of}
use Rattle.graphql_documents.specs.declared.documents.executables.Fragment.{Fragment}
use Rattle.graphql_reach.specs.Written.{SetHas}
use Rattle.graphql_reach.specs.Reached.{AddsSpreads, SpreadsInFragment, SpreadsName}
use Rattle.graphql_reach.proofs.SpreadLemmas.{adds_none, adds_words_ok}
use Rattle.graphql_reach.proofs.reached.Reached.add_in_fragment.Goals as goal

pub returns-in-Some : goal.returns-in-Some
returns-in-Some c =
    let d = c.args.document.now in
    let r = c.add_in_set.result in
    let f = c.in-Some.fragment.now in
    let old = c.args.self.now in
    let new = c.add_in_set.new.self in
    let is : fragments_of d c.args.name.now ≡ Some f = search rules in
    adds_words_ok d r (SetHas SpreadsName f.value.value.selection_set) (SpreadsInFragment (fragments_of d) c.args.name.now) old new
    (λ spread. (
      λ has. (f, is, has),
      λ (g, found, has). subst (λ (x : Node Fragment). SetHas SpreadsName x.value.value.selection_set spread) (same_Some g f (sym found ∙ is)) has,
    ))
    (subst (λ (x : Fragment). OnOk r (AddsSpreads d (SetHas SpreadsName x.selection_set) old new)) c.deref.ensures c.add_in_set.ensures)

pub returns-in-None : goal.returns-in-None
returns-in-None c =
    let none : fragments_of c.args.document.now c.args.name.now ≡ None = search rules in
    adds_none c.args.document.now (SpreadsInFragment (fragments_of c.args.document.now) c.args.name.now) c.args.self.now
    (λ name (g, found, has) _. absurd (let no : ⊥ = cc in no))
