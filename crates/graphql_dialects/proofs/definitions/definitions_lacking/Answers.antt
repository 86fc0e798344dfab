use Rattle.std.proofs.Common.{◌≡◌, ◌∙◌, ◌++◌, ap, map}
use Rattle.graphql_trees.specs.declared.type_system.DirectiveDefinition.{DirectiveDefinition}
use Rattle.graphql_repetitions.specs.References.{nows}
use Rattle.graphql_dialects.specs.Lacking.{directive_names, type_names}
use Rattle.graphql_dialects.specs.Rows.{definitions_of}
use Rattle.graphql_dialects.proofs.definitions.definitions_lacking.Goals as goal

pub returns : goal.returns
returns c = λ definitions sorted.
    let types = c.args.types.now in
    let directives = c.args.directives.now in
    let of_types : nows c.deref.result.now ≡ type_names definitions = ap nows c.deref.ensures.value ∙ c.in_ok-names.ensures definitions sorted in
    let of_directives : nows c.deref-3.result.now ≡ directive_names definitions =
    ap nows c.deref-3.ensures.value ∙ c.in_ok-names-2.ensures
    ∙ ap (map (λ (d : DirectiveDefinition). d.name)) (ap nows c.deref-2.ensures.value ∙ sorted.directives_are) in
    record {
      type_rows = types;
      directive_rows = directives;
      text_is =
          c.in_ok-push_str.ensures.bytes
          ∙ ap (λ t. t ++ c.as_str.result.now) (c.in_ok-text.ensures ∙ ap (λ names. definitions_of names types) of_types)
          ∙ ap (λ t. definitions_of (type_names definitions) types ++ t)
          (c.as_str.ensures.value ∙ c.in_ok-more.ensures ∙ ap (λ names. definitions_of names directives) of_directives);
    }
