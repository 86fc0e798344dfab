-- That what a change of an interface or a member says is so. Specification: 3.6 Objects, 3.8 Unions.
use Rattle.std.proofs.Common.{◌≡◌, ◌∙◌, List, Some, sym, subst, Contains}
use Rattle.std.proofs.lemmas.Option.{same_Some}
use Rattle.graphql_nodes.specs.Names.{NameText, SameName}
use Rattle.graphql_nodes.proofs.NameLemmas.{same_name_itself}
use Rattle.graphql_documents.specs.Schemas.{Implements, IsListed, interfaces_of, type_definition}
use Rattle.graphql_documents.specs.declared.documents.components.ComponentName.{ComponentName}
use Rattle.graphql_documents.specs.declared.documents.schemas.ExtendedType.{ExtendedType}
use Rattle.graphql_documents.specs.declared.documents.schemas.Schema.{Schema}
use Rattle.graphql_change_kinds.specs.Changes.{HasMember}
use Rattle.graphql_change_kinds.specs.Kinds.{members_of}
use Rattle.graphql_change_kinds.proofs.TruthLemmas.{any_of}

-- what is in a list is listed under its name
pub listed_itself : (names : List ComponentName) (x : ComponentName) → Contains names x → IsListed x.name names
listed_itself names x at = any_of (λ (c : ComponentName). SameName c.name x.name) names x at (same_name_itself x.name)

module _ (schema : Schema) (ty : NameText) (d : ExtendedType) (is : type_definition schema ty ≡ Some d) where
  pub implements_listed : (x : ComponentName) → Contains (interfaces_of d) x → Implements schema ty x.name
  implements_listed x at = record { definition = d; defined = is; lists = listed_itself (interfaces_of d) x at }

  pub implements_none : (interface : NameText) → ¬ IsListed interface (interfaces_of d) → ¬ Implements schema ty interface
  implements_none interface none implements =
      none (subst (λ (t : ExtendedType). IsListed interface (interfaces_of t)) (same_Some implements.definition d (sym implements.defined ∙ is)) implements.lists)

  pub has_member : (x : ComponentName) → Contains (members_of d) x → HasMember schema ty x.name
  has_member x at = (d, is, listed_itself (members_of d) x at)
