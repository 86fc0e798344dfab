use Rattle.std.proofs.Common.{◌↔◌, subst, sym}
use Rattle.std.specs.Prelude.{IsTrue}
use Rattle.graphql_nodes.specs.Names.{NameText, stands_on}
use Rattle.graphql_documents.specs.Schemas.{IsImplementedBy, IsListed, IsPossibleType}
use Rattle.graphql_documents.specs.declared.documents.schemas.ExtendedType.{ExtendedType}
use Rattle.graphql_documents.specs.declared.documents.schemas.InterfaceType.{InterfaceType}
use Rattle.graphql_documents.specs.declared.documents.schemas.UnionType.{UnionType}
use Rattle.graphql_operations.specs.PossibleTypes.{object_names}
use Rattle.graphql_operations.specs.declared.possible_types.ObjectNames.TheVariants.{Members}
use Rattle.graphql_operations.proofs.PossibleTypeLemmas.{listed_stands}
use Rattle.graphql_operations.proofs.possible_types.PossibleTypes.objects_of.Goals as goal

pub returns-in-Interface : goal.returns-in-Interface
returns-in-Interface c =
    let schema = c.args.self.now.schema.now in
    let names = object_names c.implementers_of.result in
    let of_type = λ (d : ExtendedType). (name : NameText) → IsPossibleType schema d name ↔ IsTrue (stands_on names name) in
    let of_interface = λ (i : InterfaceType). (name : NameText) → IsImplementedBy schema i.name name ↔ IsTrue (stands_on names name) in
    subst of_type (sym c.in-Interface.is) (subst of_interface c.deref-in-Interface.ensures c.implementers_of.ensures)

pub returns-in-Union : goal.returns-in-Union
returns-in-Union c =
    let schema = c.args.self.now.schema.now in
    let names = object_names (Members (record { ref_ptr = c.deref-in-Union.result.ref_ptr; now = c.deref-in-Union.result.now.members })) in
    let of_type = λ (d : ExtendedType). (name : NameText) → IsPossibleType schema d name ↔ IsTrue (stands_on names name) in
    let of_union = λ (u : UnionType). (name : NameText) → IsListed name u.members.keys ↔ IsTrue (stands_on names name) in
    subst of_type (sym c.in-Union.is) (subst of_union c.deref-in-Union.ensures (listed_stands c.deref-in-Union.result.now.members.keys))
