-- Extensions that are found by the names of their types.
use Rattle.std.proofs.Common.{◌≡◌, ◌∙◌, ◌∷◌, [], Bool, true, false, cond, List, Option, Some, None, find, ap, refl, sym}
use Rattle.std.specs.Option.{option_map}
use Rattle.graphql_nodes.specs.Names.{NameText, same_name}
use Rattle.graphql_trees.specs.declared.type_system.TypeDefinition.{TypeDefinition}
use Rattle.graphql_schema_checking.specs.Definitions.{name_of, span_of, type_named}
use Rattle.graphql_dialects.specs.Adoption.{is_adopted_among, is_sole_part, parts_defined, same_span}
use Rattle.graphql_dialects.specs.declared.adoption.TypePart.{TypePart}

-- what a part of a name defines is the first definition of the name
pub part_named : (parts : List TypePart) (name : NameText) →
    type_named (parts_defined parts) name ≡ option_map (λ part. part.definition.now) (find (λ (part : TypePart). same_name (name_of part.definition.now) name) parts)
part_named [] name = refl
part_named (x ∷ xs) name = by (same_name (name_of x.definition.now) name) (part_named xs name) where
  by : (b : Bool) → type_named (parts_defined xs) name ≡ option_map (λ part. part.definition.now) (find (λ (part : TypePart). same_name (name_of part.definition.now) name) xs) →
      cond b (Some x.definition.now) (type_named (parts_defined xs) name) ≡
      option_map (λ part. part.definition.now) (cond b (Some x) (find (λ (part : TypePart). same_name (name_of part.definition.now) name) xs))
  by true behind = refl
  by false behind = behind

-- an extension is adopted as its place says, if no definition and this first extension are found by its name
pub sole_part : (defined extended : List TypePart) (e : TypeDefinition) (name : NameText) (first : TypePart) (r : Bool) → name ≡ name_of e →
    find (λ (part : TypePart). same_name (name_of part.definition.now) name) defined ≡ None →
    find (λ (part : TypePart). same_name (name_of part.definition.now) name) extended ≡ Some first →
    r ≡ same_span (span_of first.definition.now) (span_of e) → r ≡ is_adopted_among (parts_defined defined) (parts_defined extended) e
sole_part defined extended e name first r n none some is =
    let no_definition : type_named (parts_defined defined) (name_of e) ≡ None =
    ap (type_named (parts_defined defined)) (sym n) ∙ part_named defined name ∙ ap (option_map (λ (part : TypePart). part.definition.now)) none in
    let first_extension : type_named (parts_defined extended) (name_of e) ≡ Some first.definition.now =
    ap (type_named (parts_defined extended)) (sym n) ∙ part_named extended name ∙ ap (option_map (λ (part : TypePart). part.definition.now)) some in
    is ∙ sym (ap (λ o. is_sole_part o (type_named (parts_defined extended) (name_of e)) e) no_definition ∙ ap (λ o. is_sole_part None o e) first_extension)

-- nothing is adopted if a definition is found, or no extension
module _ (defined extended : List TypePart) (e : TypeDefinition) (name : NameText) (same : name ≡ name_of e) where
  pub has_definition : (first : TypePart) → find (λ (part : TypePart). same_name (name_of part.definition.now) name) defined ≡ Some first →
      false ≡ is_adopted_among (parts_defined defined) (parts_defined extended) e
  has_definition first some =
      sym (ap (λ o. is_sole_part o (type_named (parts_defined extended) (name_of e)) e)
      (ap (type_named (parts_defined defined)) (sym same) ∙ part_named defined name ∙ ap (option_map (λ (part : TypePart). part.definition.now)) some))

  no_extension : (o : Option TypeDefinition) → is_sole_part o None e ≡ false
  no_extension None = refl
  no_extension (Some d) = refl

  pub has_no_extension : find (λ (part : TypePart). same_name (name_of part.definition.now) name) extended ≡ None →
      false ≡ is_adopted_among (parts_defined defined) (parts_defined extended) e
  has_no_extension none =
      let definition = type_named (parts_defined defined) (name_of e) in
      sym (ap (λ o. is_sole_part definition o e)
      (ap (type_named (parts_defined extended)) (sym same) ∙ part_named extended name ∙ ap (option_map (λ (part : TypePart). part.definition.now)) none)
      ∙ no_extension definition)
