-- What a type lists, and the order of interfaces.
use Rattle.std.proofs.Common.{◌≡◌, List, [], Some, refl, sym, subst, ◌∙◌, Contains, arith}
use Rattle.std.proofs.lemmas.List.Elements.{All-contains}
use Rattle.graphql_documents.specs.Built.{StandsUnderOwnNames, TypeStandsUnderItsName}
use Rattle.graphql_nodes.specs.Names.{NameText, SameName}
use Rattle.graphql_documents.specs.Schemas.{Implements, IsInterface, IsListed, NamesKind, interfaces_of, is_interface_type, own_name}
use Rattle.graphql_specification.specs.Types.{TypeHolds}
use Rattle.graphql_specification.specs.Schemas.{SchemaHolds}
use Rattle.graphql_specification.specs.Implementations.{ListedInterfacesAreDefined, ListsTransitiveInterfaces}
use Rattle.graphql_documents.specs.declared.documents.components.ComponentName.{ComponentName}
use Rattle.graphql_nodes.specs.declared.nodes.Node.{Node}
use Rattle.graphql_documents.specs.declared.documents.schemas.InterfaceType.{InterfaceType}
use Rattle.graphql_documents.specs.declared.documents.schemas.Schema.{Schema}
use Rattle.graphql_documents.specs.declared.documents.schemas.ExtendedType.{ExtendedType}
use Rattle.graphql_documents.specs.declared.documents.schemas.ExtendedType.TheVariants.{Object, Interface}
use Rattle.graphql_nodes.proofs.NameLemmas.{same_name_back, same_name_then}
use Rattle.graphql_documents.proofs.ListLemmas.{none_stands}
use Rattle.graphql_schema_laws.proofs.TypeLemmas.{type_stands, same_type_found, type_holds}

-- what a type that holds lists is defined, with all that this lists
record ListsWell (schema : Schema) (names : List ComponentName) : Type 0 where
  defined : ListedInterfacesAreDefined schema names
  transitive : ListsTransitiveInterfaces schema names

none_listed : (name : NameText) → ¬ IsListed name []
none_listed name listed = none_stands listed.1 (listed.0, listed.2, listed.3)

lists_none : (schema : Schema) → ListsWell schema []
lists_none schema = record {
  defined = λ k d within. absurd (omega (arith, within));
  transitive = λ listed interface is. absurd (none_stands listed is.is_listed);
}

lists_well : (schema : Schema) (d : ExtendedType) → TypeHolds schema d → ListsWell schema (interfaces_of d)
lists_well schema (Object d) holds = record { defined = holds.implementations.defined; transitive = holds.implementations.transitive }
lists_well schema (Interface d) holds = record { defined = holds.implementations.defined; transitive = holds.implementations.transitive }
lists_well schema _ holds = lists_none schema

-- the listed name, and the interface of this name
record IsListedWell (schema : Schema) (names : List ComponentName) (name : NameText) : Type 0 where
  listed : ComponentName
  interface : Node InterfaceType
  stands : Contains names listed
  same : SameName listed.name name
  is : IsInterface schema listed.name interface

listed_well : (schema : Schema) (names : List ComponentName) (name : NameText) → ListsWell schema names → IsListed name names → IsListedWell schema names name
listed_well schema names name well (k, listed, within, at, same) =
    let stands : Contains names listed = (k, within, at) in
    let defined = All-contains (λ (listed : ComponentName). (interface : Node InterfaceType) × IsInterface schema listed.name interface) names listed well.defined stands in
    record { listed = listed; interface = defined.0; stands = stands; same = same; is = defined.1 }

-- by the name, too
is_interface : (schema : Schema) (names : List ComponentName) (name : NameText) (l : IsListedWell schema names name) → IsInterface schema name l.interface
is_interface schema names name l = same_type_found schema name l.listed.name (same_name_back l.listed.name name l.same) ∙ l.is

goes_on : (schema : Schema) (names : List ComponentName) (name further : NameText) → ListsWell schema names → IsListed name names →
    Implements schema name further → IsListed further names
goes_on schema names name further well is_listed implements =
    let l = listed_well schema names name well is_listed in
    let same : implements.definition ≡ Interface l.interface = let e : Some implements.definition ≡ Some (Interface l.interface) = sym implements.defined ∙ is_interface schema names name l in cc in
    let (k, below, within, at, is_further) = subst (λ d. IsListed further (interfaces_of d)) same implements.lists in
    let all = well.transitive l.listed l.interface (record { is_listed = l.stands; is_interface = l.is }) in
    let (i, own, within', at', is_below) = All-contains (λ (further : ComponentName). IsListed further.name names) l.interface.value.value.implements_interfaces.keys below all (k, within, at) in
    (i, own, within', at', same_name_then own.name below.name further is_below is_further)

pub type_lists_on : (schema : Schema) (key interface further : NameText) (d : ExtendedType) → SchemaHolds schema → Contains schema.types.entries (key, d) →
    IsListed interface (interfaces_of d) → Implements schema interface further → IsListed further (interfaces_of d)
type_lists_on schema key interface further d holds stands =
    goes_on schema (interfaces_of d) interface further (lists_well schema d (type_holds schema key d stands holds))

pub listed_is_interface : (schema : Schema) (key interface : NameText) (d : ExtendedType) → SchemaHolds schema → Contains schema.types.entries (key, d) →
    IsListed interface (interfaces_of d) → NamesKind schema is_interface_type interface
listed_is_interface schema key interface d holds stands is_listed =
    let l = listed_well schema (interfaces_of d) interface (lists_well schema d (type_holds schema key d stands holds)) is_listed in
    (Interface l.interface, is_interface schema (interfaces_of d) interface l, refl)

pub implements_on : (schema : Schema) (name interface further : NameText) → SchemaHolds schema → Implements schema name interface →
    Implements schema interface further → Implements schema name further
implements_on schema name interface further holds first then =
    let stands = type_stands schema name first.definition first.defined in
    record {
      definition = first.definition;
      defined = first.defined;
      lists = type_lists_on schema stands.0 interface further first.definition holds stands.1 first.lists then;
    }

-- an interface that holds does not list its own name
not_itself : (schema : Schema) (d : ExtendedType) → TypeHolds schema d → (i : Node InterfaceType) → d ≡ Interface i → ¬ IsListed (own_name d) (interfaces_of d)
not_itself schema (Interface d) holds i is = holds.not_itself
not_itself schema _ holds i is = absurd (let no : ⊥ = cc in no)

pub not_implements_itself : (schema : Schema) (name : NameText) → SchemaHolds schema → StandsUnderOwnNames schema → ¬ Implements schema name name
not_implements_itself schema name holds own implements =
    let d = implements.definition in
    let (key, stands, same) = type_stands schema name d implements.defined in
    let holds' = type_holds schema key d stands holds in
    let l = listed_well schema (interfaces_of d) name (lists_well schema d holds') implements.lists in
    let is : d ≡ Interface l.interface = let e : Some d ≡ Some (Interface l.interface) = sym implements.defined ∙ is_interface schema (interfaces_of d) name l in cc in
    let names = All-contains (λ entry. TypeStandsUnderItsName entry.0 entry.1) schema.types.entries (key, d) own.types stands in
    let named : SameName name (own_name d) = same_name_then name key (own_name d) same names.itself in
    not_itself schema d holds' l.interface is
    (implements.lists.0, implements.lists.1, implements.lists.2, implements.lists.3, same_name_then implements.lists.1.name name (own_name d) implements.lists.4 named)

pub not_both_ways : (schema : Schema) (a b : NameText) → SchemaHolds schema → StandsUnderOwnNames schema → Implements schema a b → ¬ Implements schema b a
not_both_ways schema a b holds own forth back = not_implements_itself schema a holds own (implements_on schema a b a holds forth back)
