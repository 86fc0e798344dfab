use Rattle.std.proofs.Common.{◌≡◌, ◌∙◌, false, refl, rules, sym, true, true≢false}
use Rattle.graphql_building_laws.specs.MetaFieldTypes.{HasTypesOfMetaFields}
use Rattle.graphql_frontend.proofs.ReportLemmas.{silent, silent_within}
use Rattle.graphql_frontend.proofs.schemas.reading_of.Goals as goal

pub returns-then-not-is_empty : goal.returns-then-not-is_empty
returns-then-not-is_empty c = λ bounds given retains are.
    let filled : c.is_empty.result ≡ false = search rules in
    (λ nothing. true≢false (sym (c.is_empty.ensures.1 nothing) ∙ filled), c.args.schema, retains, are)

pub returns-then-has_types_of_meta_fields : goal.returns-then-has_types_of_meta_fields
returns-then-has_types_of_meta_fields c = λ bounds given retains are.
    let empty : c.is_empty.result ≡ true = search rules in
    let nothing = c.is_empty.ensures.0 empty in
    let both = silent_within _ _ _ _ _ are.rules refl nothing.0 in
    let types : HasTypesOfMetaFields c.args.schema = c.has_types_of_meta_fields.ensures.0 c.if-has_types_of_meta_fields.true in
    record {
      holds = both.0;
      input_fields = silent _ _ _ _ are.input_fields refl nothing.1;
      retains = retains;
      defaults = both.1;
      meta_fields = types;
    }

pub returns-else-has_types_of_meta_fields : goal.returns-else-has_types_of_meta_fields
returns-else-has_types_of_meta_fields c = λ bounds given retains are.
    let lacks : ¬ HasTypesOfMetaFields c.args.schema =
    λ types. true≢false (sym (c.has_types_of_meta_fields.ensures.1 types) ∙ c.if-has_types_of_meta_fields.false) in
    (c.args.schema, retains, lacks)
