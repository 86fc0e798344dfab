-- Two selections have the same contents exactly where the same is written in both and the selections in their sets have.
use Rattle.std.proofs.Common.{◌≡◌, Bool, true, false, List, [], ◌↔◌, refl, sym, ap, ◌∙◌, subst}
use Rattle.std.specs.Prelude.{IsTrue, Vec}
use Rattle.std.specs.Borrow.{Bor}
use Rattle.std.specs.Cmp.{IsEquivalence}
use Rattle.std.specs.Option.{option_eq}
use Rattle.std.specs.declared.alloc.Global.{Global}
use denote.Enum.Compared.{Each, by}
use denote.Hole.Carrier.{Values}
use denote.Hole.Compared.{compared_is}
use lib.Pointwise.{pointwise}
use Rattle.graphql_nodes.specs.Names.{same_name}
use Rattle.graphql_nodes.specs.declared.nodes.Node.{Node}
use Rattle.graphql_documents.specs.Selections.{selections_of}
use Rattle.graphql_documents.specs.contracts.documents.definitions.FieldDefinitionPartialEq.TheImpl as definition_impl
use Rattle.graphql_documents.specs.contracts.documents.directives.ArgumentPartialEq.TheImpl as argument_impl
use Rattle.graphql_documents.specs.contracts.documents.directives.DirectivePartialEq.TheImpl as directive_impl
use Rattle.graphql_documents.specs.contracts.documents.executables.FieldPartialEq.TheImpl as field_impl
use Rattle.graphql_documents.specs.contracts.documents.executables.FieldPartialEq.TheImpl.Laws as field_laws
use Rattle.graphql_documents.specs.contracts.documents.executables.FragmentSpreadPartialEq.TheImpl as spread_impl
use Rattle.graphql_documents.specs.contracts.documents.executables.Selection as selection_type
use Rattle.graphql_documents.specs.contracts.documents.executables.SelectionEq.TheImpl.Laws as selection_eq_laws
use Rattle.graphql_documents.specs.declared.documents.definitions.FieldDefinition.{FieldDefinition}
use Rattle.graphql_documents.specs.declared.documents.directives.Argument.{Argument}
use Rattle.graphql_documents.specs.declared.documents.directives.Directive.{Directive}
use Rattle.graphql_documents.specs.declared.documents.executables.Field.{Field}
use Rattle.graphql_documents.specs.declared.documents.executables.FragmentSpread.{FragmentSpread}
use Rattle.graphql_documents.specs.declared.documents.executables.InlineFragment.{InlineFragment}
use Rattle.graphql_documents.specs.declared.documents.executables.Selection.{Selection, out-Selection}
use Rattle.graphql_documents.specs.declared.documents.executables.Selection.TheBlock as block
use Rattle.graphql_documents.specs.declared.documents.executables.Selection.TheOpen as Open
use Rattle.graphql_documents.specs.declared.documents.executables.Selection.TheVariants as kind
use Rattle.graphql_documents.specs.declared.documents.executables.SelectionSet.{SelectionSet}
use Rattle.graphql_documents.proofs.ValueContentLemmas.{and, both}
use Rattle.graphql_contents.specs.Contents.{nested_selections, same_contents}
use Rattle.graphql_contents.specs.Written.{IsWrittenIn, IsWrittenInField, IsWrittenInInline, IsWrittenInOpened}
use Rattle.graphql_contents.specs.contracts.written.WrittenPartialEq.TheImpl as written_impl
use Rattle.graphql_contents.specs.contracts.written.WrittenFieldPartialEq.TheImpl as written_field_impl
use Rattle.graphql_contents.specs.contracts.written.WrittenInlineFragmentPartialEq.TheImpl as written_inline_impl
use Rattle.graphql_contents.specs.declared.written.Written.{Written}
use Rattle.graphql_contents.specs.declared.written.Written.TheVariants as written
use Rattle.graphql_contents.specs.declared.written.WrittenField.{WrittenField}
use Rattle.graphql_contents.specs.declared.written.WrittenInlineFragment.{WrittenInlineFragment}

abbrev members : block.the_members → Type 0
members = Values block.the_members block.the_sigs block.the_carrier

-- the equality of each kind of part, which goes by the parts of that
abbrev equal : (j : block.the_members) → members j → members j → Bool
equal = field_laws.family

equal_by_parts : (j : block.the_members) (x y : members j) → equal j x y ≡ field_impl.the_step equal j x y
equal_by_parts = compared_is block.the_members members block.the_depth Bool true field_impl.the_step field_laws.local

by_parts : (j : block.the_members) (x y : members j) → IsTrue (equal j x y) → IsTrue (field_impl.the_step equal j x y)
by_parts j x y h = subst IsTrue (equal_by_parts j x y) h

from_parts : (j : block.the_members) (x y : members j) → IsTrue (field_impl.the_step equal j x y) → IsTrue (equal j x y)
from_parts j x y h = subst IsTrue (sym (equal_by_parts j x y)) h

abbrev equal_fields : Field → Field → Bool
equal_fields = equal block.member-Field

abbrev equal_inline : InlineFragment → InlineFragment → Bool
equal_inline = equal block.member-InlineFragment

abbrev equal_sets : SelectionSet → SelectionSet → Bool
equal_sets = equal block.member-SelectionSet

abbrev equal_selections : Selection → Selection → Bool
equal_selections = equal block.member-Selection

abbrev equal_arguments : Vec (Node Argument) Global → Vec (Node Argument) Global → Bool
equal_arguments a b = pointwise (λ x y. argument_impl.ghosts.eq x.value.value y.value.value) a.items b.items

abbrev equal_directives : Vec (Node Directive) Global → Vec (Node Directive) Global → Bool
equal_directives a b = pointwise (λ x y. directive_impl.ghosts.eq x.value.value y.value.value) a.items b.items

abbrev equal_definitions : Node FieldDefinition → Node FieldDefinition → Bool
equal_definitions a b = definition_impl.ghosts.eq a.value.value b.value.value

-- a test of two values holds of two others that are the same
moved : {X : Type 0} (test : X → X → Bool) {a b c d : X} → a ≡ c → b ≡ d → IsTrue (test a b) → IsTrue (test c d)
moved test {b = b} {c = c} e f h = subst (λ y. IsTrue (test c y)) f (subst (λ x. IsTrue (test x b)) e h)

abbrev NestedSame : SelectionSet → SelectionSet → Type 0
NestedSame s t = IsTrue (pointwise equal_selections (selections_of s) (selections_of t))

-- two fields, by what is written in them
fields_are : (f g : Field) (v w : WrittenField) → IsWrittenInField f v → IsWrittenInField g w →
    IsTrue (equal_fields f g) ↔ (IsTrue (written_field_impl.ghosts.eq v w) × NestedSame f.selection_set g.selection_set)
fields_are f g v w is too = (there, back) where
  there : IsTrue (equal_fields f g) → IsTrue (written_field_impl.ghosts.eq v w) × NestedSame f.selection_set g.selection_set
  there h =
      let definition = both _ _ (by_parts block.member-Field f g h) in
      let alias = both _ _ definition.1 in
      let name = both _ _ alias.1 in
      let arguments = both _ _ name.1 in
      let directives = both _ _ arguments.1 in
      let set = both _ _ (by_parts block.member-SelectionSet f.selection_set g.selection_set directives.1) in (
        and _ _ (moved (option_eq same_name) (sym is.alias) (sym too.alias) alias.0)
            (and _ _ (moved same_name (sym is.name) (sym too.name) name.0)
            (and _ _ (moved equal_arguments (sym is.arguments) (sym too.arguments) arguments.0)
            (and _ _ (moved equal_directives (sym is.directives) (sym too.directives) directives.0)
            (and _ _ (moved same_name (sym is.ty) (sym too.ty) set.0)
            (moved equal_definitions (sym is.definition) (sym too.definition) definition.0))))),
        set.1,
      )

  back : IsTrue (written_field_impl.ghosts.eq v w) × NestedSame f.selection_set g.selection_set → IsTrue (equal_fields f g)
  back h =
      let alias = both _ _ h.0 in
      let name = both _ _ alias.1 in
      let arguments = both _ _ name.1 in
      let directives = both _ _ arguments.1 in
      let ty = both _ _ directives.1 in
      from_parts block.member-Field f g
      (and _ _ (moved equal_definitions is.definition too.definition ty.1)
      (and _ _ (moved (option_eq same_name) is.alias too.alias alias.0)
      (and _ _ (moved same_name is.name too.name name.0)
      (and _ _ (moved equal_arguments is.arguments too.arguments arguments.0)
      (and _ _ (moved equal_directives is.directives too.directives directives.0)
      (from_parts block.member-SelectionSet f.selection_set g.selection_set (and _ _ (moved same_name is.ty too.ty ty.0) h.1)))))))

-- two inline fragments
inlines_are : (i j : InlineFragment) (v w : WrittenInlineFragment) → IsWrittenInInline i v → IsWrittenInInline j w →
    IsTrue (equal_inline i j) ↔ (IsTrue (written_inline_impl.ghosts.eq v w) × NestedSame i.selection_set j.selection_set)
inlines_are i j v w is too = (there, back) where
  there : IsTrue (equal_inline i j) → IsTrue (written_inline_impl.ghosts.eq v w) × NestedSame i.selection_set j.selection_set
  there h =
      let condition = both _ _ (by_parts block.member-InlineFragment i j h) in
      let directives = both _ _ condition.1 in
      let set = both _ _ (by_parts block.member-SelectionSet i.selection_set j.selection_set directives.1) in (
        and _ _ (moved (option_eq same_name) (sym is.type_condition) (sym too.type_condition) condition.0)
            (and _ _ (moved equal_directives (sym is.directives) (sym too.directives) directives.0)
            (moved same_name (sym is.ty) (sym too.ty) set.0)),
        set.1,
      )

  back : IsTrue (written_inline_impl.ghosts.eq v w) × NestedSame i.selection_set j.selection_set → IsTrue (equal_inline i j)
  back h =
      let condition = both _ _ h.0 in
      let directives = both _ _ condition.1 in
      from_parts block.member-InlineFragment i j
      (and _ _ (moved (option_eq same_name) is.type_condition too.type_condition condition.0)
      (and _ _ (moved equal_directives is.directives too.directives directives.0)
      (from_parts block.member-SelectionSet i.selection_set j.selection_set (and _ _ (moved same_name is.ty too.ty directives.1) h.1))))

-- two selections as they open
abbrev Opened : Type 0
Opened = Open.Selection-F Selection Field InlineFragment SelectionSet

abbrev each_kind : Each Bool selection_type.the_parts
each_kind = (
  λ a b. equal_fields a.0.value.value b.0.value.value,
  (λ a b. spread_impl.ghosts.eq a.0.value.value b.0.value.value, (λ a b. equal_inline a.0.value.value b.0.value.value, tt)),
)

abbrev equal_opened : Opened → Opened → Bool
equal_opened x y = by false false selection_type.the_parts each_kind (block.split-Selection members x) (block.split-Selection members y)

abbrev nested_in : Opened → List Selection
nested_in o = elim o [
  | Open.Field f ↦ selections_of f.value.value.selection_set
  | Open.FragmentSpread p ↦ []
  | Open.InlineFragment i ↦ selections_of i.value.value.selection_set
]

abbrev Compared : Opened → Opened → Written → Written → Type 0
Compared x y v w = IsTrue (equal_opened x y) ↔ (IsTrue (written_impl.ghosts.eq v w) × IsTrue (pointwise equal_selections (nested_in x) (nested_in y)))

-- a selection as it opens, with what is written in it
data WrittenKind : Opened → Written → Type 0 where
  of_field : (f : Node Field) (v : WrittenField) → IsWrittenInField f.value.value v → WrittenKind (Open.Field f) (written.Field v)
  of_spread : (p : Node FragmentSpread) (v : Bor (Node FragmentSpread)) → v.now ≡ p → WrittenKind (Open.FragmentSpread p) (written.FragmentSpread v)
  of_inline : (i : Node InlineFragment) (v : WrittenInlineFragment) → IsWrittenInInline i.value.value v → WrittenKind (Open.InlineFragment i) (written.InlineFragment v)

kind_of : (x : Opened) (v : Written) → IsWrittenInOpened x v → WrittenKind x v
kind_of (Open.Field f) (written.Field v) is = of_field f v is
kind_of (Open.Field f) (written.FragmentSpread v) is = elim is [ ]
kind_of (Open.Field f) (written.InlineFragment v) is = elim is [ ]
kind_of (Open.FragmentSpread p) (written.Field v) is = elim is [ ]
kind_of (Open.FragmentSpread p) (written.FragmentSpread v) is = of_spread p v is
kind_of (Open.FragmentSpread p) (written.InlineFragment v) is = elim is [ ]
kind_of (Open.InlineFragment i) (written.Field v) is = elim is [ ]
kind_of (Open.InlineFragment i) (written.FragmentSpread v) is = elim is [ ]
kind_of (Open.InlineFragment i) (written.InlineFragment v) is = of_inline i v is

abbrev equal_spreads : Node FragmentSpread → Node FragmentSpread → Bool
equal_spreads a b = spread_impl.ghosts.eq a.value.value b.value.value

opened_are : {x y : Opened} {v w : Written} → WrittenKind x v → WrittenKind y w → Compared x y v w
opened_are (of_field f v is) (of_field g w too) = fields_are f.value.value g.value.value v w is too
opened_are (of_spread p v is) (of_spread q w too) = (λ h. (moved equal_spreads (sym is) (sym too) h, refl), λ h. moved equal_spreads is too h.0)
opened_are (of_inline i v is) (of_inline j w too) = inlines_are i.value.value j.value.value v w is too
opened_are (of_field f v is) (of_spread q w too) = (λ h. absurd (let no : ⊥ = cc in no), λ h. absurd (let e = h.0 in let no : ⊥ = cc in no))
opened_are (of_field f v is) (of_inline j w too) = (λ h. absurd (let no : ⊥ = cc in no), λ h. absurd (let e = h.0 in let no : ⊥ = cc in no))
opened_are (of_spread p v is) (of_field g w too) = (λ h. absurd (let no : ⊥ = cc in no), λ h. absurd (let e = h.0 in let no : ⊥ = cc in no))
opened_are (of_spread p v is) (of_inline j w too) = (λ h. absurd (let no : ⊥ = cc in no), λ h. absurd (let e = h.0 in let no : ⊥ = cc in no))
opened_are (of_inline i v is) (of_field g w too) = (λ h. absurd (let no : ⊥ = cc in no), λ h. absurd (let e = h.0 in let no : ⊥ = cc in no))
opened_are (of_inline i v is) (of_spread q w too) = (λ h. absurd (let no : ⊥ = cc in no), λ h. absurd (let e = h.0 in let no : ⊥ = cc in no))

-- two selections, by what is written in them and by those in their sets
pub selections_are : (s t : Selection) (v w : Written) → IsWrittenIn s v → IsWrittenIn t w →
    IsTrue (same_contents s t) ↔ (IsTrue (written_impl.ghosts.eq v w) × IsTrue (pointwise same_contents (nested_selections s) (nested_selections t)))
selections_are s t v w is too =
    let opened = opened_are (kind_of (out-Selection s) v is) (kind_of (out-Selection t) w too) in
    (λ h. opened.0 (by_parts block.member-Selection s t h), λ h. from_parts block.member-Selection s t (opened.1 h))

-- what is in their sets
nested_sets : (s t : SelectionSet) → IsTrue (equal_sets s t) → NestedSame s t
nested_sets s t h = (both _ _ (by_parts block.member-SelectionSet s t h)).1

field_sets : (f g : Field) → IsTrue (equal_fields f g) → IsTrue (equal_sets f.selection_set g.selection_set)
field_sets f g h =
    let definition = both (equal_definitions f.definition g.definition) _ (by_parts block.member-Field f g h) in
    let alias = both (option_eq same_name f.alias g.alias) _ definition.1 in
    let name = both (same_name f.name g.name) _ alias.1 in
    let arguments = both (equal_arguments f.arguments g.arguments) _ name.1 in
    (both (equal_directives f.directives g.directives) _ arguments.1).1

inline_sets : (i j : InlineFragment) → IsTrue (equal_inline i j) → IsTrue (equal_sets i.selection_set j.selection_set)
inline_sets i j h =
    let condition = both (option_eq same_name i.type_condition j.type_condition) _ (by_parts block.member-InlineFragment i j h) in
    (both (equal_directives i.directives j.directives) _ condition.1).1

opened_nested : (x y : Opened) → IsTrue (equal_opened x y) → IsTrue (pointwise equal_selections (nested_in x) (nested_in y))
opened_nested (Open.Field f) (Open.Field g) h = nested_sets f.value.value.selection_set g.value.value.selection_set (field_sets f.value.value g.value.value h)
opened_nested (Open.FragmentSpread p) (Open.FragmentSpread q) h = refl
opened_nested (Open.InlineFragment i) (Open.InlineFragment j) h =
    nested_sets i.value.value.selection_set j.value.value.selection_set (inline_sets i.value.value j.value.value h)
opened_nested _ _ h = absurd (let no : ⊥ = cc in no)

pub same_nested : (s t : Selection) → IsTrue (same_contents s t) → IsTrue (pointwise same_contents (nested_selections s) (nested_selections t))
same_nested s t h = opened_nested (out-Selection s) (out-Selection t) (by_parts block.member-Selection s t h)

-- having the same contents is an equivalence
is_equivalence : IsEquivalence same_contents
is_equivalence = selection_eq_laws.laws-law

pub same_itself : (s : Selection) → IsTrue (same_contents s s)
same_itself s = is_equivalence.refl s

pub same_back : (s t : Selection) → IsTrue (same_contents s t) → IsTrue (same_contents t s)
same_back s t h = is_equivalence.symm t s ∙ h

pub same_then : (s t u : Selection) → IsTrue (same_contents s t) → IsTrue (same_contents t u) → IsTrue (same_contents s u)
same_then s t u st tu = is_equivalence.congr s t u st ∙ tu

-- two selections that are fields
pub same_fields_are : (a b : Node Field) → IsTrue (same_contents (kind.Field a) (kind.Field b)) ↔ IsTrue (field_impl.ghosts.eq a.value.value b.value.value)
same_fields_are a b =
    let opened : equal_opened (out-Selection (kind.Field a)) (out-Selection (kind.Field b)) ≡ equal_opened (Open.Field a) (Open.Field b) =
    λ i. equal_opened (kind.outs-Field a i) (kind.outs-Field b i) in
    (λ h. subst IsTrue opened (by_parts block.member-Selection (kind.Field a) (kind.Field b) h), λ h. from_parts block.member-Selection (kind.Field a) (kind.Field b) (subst IsTrue (sym opened) h))

-- the selections in the sets of fields and of inline fragments
pub nested_in_field : (f : Node Field) → nested_selections (kind.Field f) ≡ selections_of f.value.value.selection_set
nested_in_field f = ap nested_in (kind.outs-Field f)

pub nested_in_inline : (i : Node InlineFragment) → nested_selections (kind.InlineFragment i) ≡ selections_of i.value.value.selection_set
nested_in_inline i = ap nested_in (kind.outs-InlineFragment i)
