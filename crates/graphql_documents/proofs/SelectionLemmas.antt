-- Kinds of selections, included sets, and the fragment that a name finds.
use Rattle.std.proofs.Common.{List, ℕ, ◌≡◌, sym, ◌∙◌, ap}
use Rattle.std.specs.Str.{bytes_eq}
use Rattle.indexmap.specs.IndexMap.{get_by}
use Rattle.graphql_nodes.specs.Names.{NameText, SameName}
use Rattle.graphql_documents.specs.Selections.{Fragments, fragments_of, Includes, includes_itself, includes_inline_fragment, includes_spread}
use Rattle.graphql_nodes.specs.declared.nodes.Node.{Node}
use Rattle.graphql_documents.specs.declared.documents.executables.Selection.{out-Selection}
use Rattle.graphql_documents.specs.declared.documents.executables.Selection.TheOpen as Open
use Rattle.graphql_documents.specs.declared.documents.executables.Selection.TheVariants as kind
use Rattle.graphql_documents.specs.declared.documents.executables.SelectionSet.{SelectionSet}
use Rattle.graphql_documents.specs.declared.documents.executables.Field.{Field}
use Rattle.graphql_documents.specs.declared.documents.executables.InlineFragment.{InlineFragment}
use Rattle.graphql_documents.specs.declared.documents.executables.FragmentSpread.{FragmentSpread}
use Rattle.graphql_documents.specs.declared.documents.executables.ExecutableDocument.{ExecutableDocument}
use Rattle.graphql_nodes.proofs.NameLemmas.{same_text}

-- a field is no fragment, and a selection is one field
pub not_inline : (f : Node Field) (i : Node InlineFragment) → ¬ (kind.InlineFragment i ≡ kind.Field f)
not_inline f i e =
    let opens : Open.InlineFragment i ≡ Open.Field f = sym (kind.outs-InlineFragment i) ∙ ap out-Selection e ∙ kind.outs-Field f in
    let h : ⊥ = cc in h

pub not_spread : (f : Node Field) (p : Node FragmentSpread) → ¬ (kind.FragmentSpread p ≡ kind.Field f)
not_spread f p e =
    let opens : Open.FragmentSpread p ≡ Open.Field f = sym (kind.outs-FragmentSpread p) ∙ ap out-Selection e ∙ kind.outs-Field f in
    let h : ⊥ = cc in h

pub same_field : (f g : Node Field) → kind.Field g ≡ kind.Field f → g ≡ f
same_field f g e =
    let opens : Open.Field g ≡ Open.Field f = sym (kind.outs-Field g) ∙ ap out-Selection e ∙ kind.outs-Field f in
    cc

pub same_inline : (i j : Node InlineFragment) → kind.InlineFragment i ≡ kind.InlineFragment j → i ≡ j
same_inline i j e =
    let opens : Open.InlineFragment i ≡ Open.InlineFragment j = sym (kind.outs-InlineFragment i) ∙ ap out-Selection e ∙ kind.outs-InlineFragment j in
    cc

pub spread_not_inline : (i : Node InlineFragment) (p : Node FragmentSpread) → ¬ (kind.FragmentSpread p ≡ kind.InlineFragment i)
spread_not_inline i p e =
    let opens : Open.FragmentSpread p ≡ Open.InlineFragment i = sym (kind.outs-FragmentSpread p) ∙ ap out-Selection e ∙ kind.outs-InlineFragment i in
    let h : ⊥ = cc in h

pub same_spread : (p q : Node FragmentSpread) → kind.FragmentSpread p ≡ kind.FragmentSpread q → p ≡ q
same_spread p q e =
    let opens : Open.FragmentSpread p ≡ Open.FragmentSpread q = sym (kind.outs-FragmentSpread p) ∙ ap out-Selection e ∙ kind.outs-FragmentSpread q in
    cc

-- a set includes what an included set includes
pub includes_then : (fragments : Fragments) {a b c : SelectionSet} → Includes fragments a b → Includes fragments b c → Includes fragments a c
includes_then fragments includes_itself rest = rest
includes_then fragments (includes_inline_fragment stands more) rest = includes_inline_fragment stands (includes_then fragments more rest)
includes_then fragments (includes_spread stands is more) rest = includes_spread stands is (includes_then fragments more rest)

-- names of one text find one fragment
pub one_fragment_found : (document : ExecutableDocument) (a b : NameText) → SameName a b → fragments_of document a ≡ fragments_of document b
one_fragment_found document a b same =
    ap (λ (text : List ℕ). get_by (λ (key : NameText). bytes_eq text key.text) document.fragments) (same_text a b same)
