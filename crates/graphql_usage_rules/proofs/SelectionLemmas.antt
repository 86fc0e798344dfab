-- The usages of selections of each kind.
use Rattle.std.proofs.Common.{◌≡◌, ◌↔◌, [], refl, sym, subst}
use Rattle.std.specs.Prelude.{◌⊎◌}
use mathlib.Core.Logic.{inl, inr}
use Rattle.graphql_nodes.specs.declared.nodes.Node.{Node}
use Rattle.graphql_documents.specs.Selections.{arguments_of, directives_of}
use Rattle.graphql_documents.specs.declared.documents.executables.Field.{Field}
use Rattle.graphql_documents.specs.declared.documents.executables.FragmentSpread.{FragmentSpread}
use Rattle.graphql_documents.specs.declared.documents.executables.InlineFragment.{InlineFragment}
use Rattle.graphql_documents.specs.declared.documents.executables.Selection.TheVariants as kind
use Rattle.graphql_documents.specs.declared.documents.schemas.Schema.{Schema}
use Rattle.graphql_variables.proofs.UseLemmas.{none_in_none}
use Rattle.graphql_usage_rules.specs.Parts.{FieldUses, InlineFragmentUses, SelectionUses, SetUses}
use Rattle.graphql_reach.proofs.SelectionLemmas.{in_field, in_inline, in_spread}
use Rattle.graphql_usage_rules.specs.Usages.{Usage, UsedAtSelection, UsedInArguments, UsedInDirectives, argument_definitions_of}

module _ (schema : Schema) where
  -- the usages of each kind
  pub field_words : (f : Node Field) (u : Usage) → FieldUses schema f.value.value u ↔ SelectionUses schema (kind.Field f) u
  field_words f u = (λ w. (in_field (UsedAtSelection schema) f u).0 (forth w), λ w. back ((in_field (UsedAtSelection schema) f u).1 w)) where
    own : UsedAtSelection schema (kind.Field f) u ≡
        (UsedInArguments schema f.value.value.definition.value.value.arguments.items f.value.value.arguments.items u ⊎ UsedInDirectives schema f.value.value.directives.items u)
    own = rw (kind.outs-Field f, arguments_of, argument_definitions_of, directives_of) refl

    forth : FieldUses schema f.value.value u → UsedAtSelection schema (kind.Field f) u ⊎ SetUses schema f.value.value.selection_set u
    forth (inl w) = inl (subst (λ T. T) (sym own) (inl w))
    forth (inr (inl w)) = inl (subst (λ T. T) (sym own) (inr w))
    forth (inr (inr w)) = inr w

    apart : UsedInArguments schema f.value.value.definition.value.value.arguments.items f.value.value.arguments.items u ⊎ UsedInDirectives schema f.value.value.directives.items u →
        FieldUses schema f.value.value u
    apart (inl w) = inl w
    apart (inr w) = inr (inl w)

    back : UsedAtSelection schema (kind.Field f) u ⊎ SetUses schema f.value.value.selection_set u → FieldUses schema f.value.value u
    back (inl w) = apart (subst (λ T. T) own w)
    back (inr w) = inr (inr w)

  pub spread_words : (p : Node FragmentSpread) (u : Usage) → UsedInDirectives schema p.value.value.directives.items u ↔ SelectionUses schema (kind.FragmentSpread p) u
  spread_words p u = (λ w. (in_spread (UsedAtSelection schema) p u).0 (subst (λ T. T) (sym own) (inr w)), λ w. back (subst (λ T. T) own ((in_spread (UsedAtSelection schema) p u).1 w))) where
    own : UsedAtSelection schema (kind.FragmentSpread p) u ≡ (UsedInArguments schema [] [] u ⊎ UsedInDirectives schema p.value.value.directives.items u)
    own = rw (kind.outs-FragmentSpread p, arguments_of, argument_definitions_of, directives_of) refl

    back : UsedInArguments schema [] [] u ⊎ UsedInDirectives schema p.value.value.directives.items u → UsedInDirectives schema p.value.value.directives.items u
    back (inl w) = absurd (none_in_none _ w)
    back (inr w) = w

  pub inline_words : (i : Node InlineFragment) (u : Usage) → InlineFragmentUses schema i.value.value u ↔ SelectionUses schema (kind.InlineFragment i) u
  inline_words i u = (λ w. (in_inline (UsedAtSelection schema) i u).0 (forth w), λ w. back ((in_inline (UsedAtSelection schema) i u).1 w)) where
    own : UsedAtSelection schema (kind.InlineFragment i) u ≡ (UsedInArguments schema [] [] u ⊎ UsedInDirectives schema i.value.value.directives.items u)
    own = rw (kind.outs-InlineFragment i, arguments_of, argument_definitions_of, directives_of) refl

    forth : InlineFragmentUses schema i.value.value u → UsedAtSelection schema (kind.InlineFragment i) u ⊎ SetUses schema i.value.value.selection_set u
    forth (inl w) = inl (subst (λ T. T) (sym own) (inr w))
    forth (inr w) = inr w

    apart : UsedInArguments schema [] [] u ⊎ UsedInDirectives schema i.value.value.directives.items u → UsedInDirectives schema i.value.value.directives.items u
    apart (inl w) = absurd (none_in_none _ w)
    apart (inr w) = w

    back : UsedAtSelection schema (kind.InlineFragment i) u ⊎ SetUses schema i.value.value.selection_set u → InlineFragmentUses schema i.value.value u
    back (inl w) = inl (apart (subst (λ T. T) own w))
    back (inr w) = inr w
