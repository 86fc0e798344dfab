use Rattle.std.proofs.Common.{◌≡◌, ◌∙◌, Ok, Some, refl, rules}
use Rattle.std.specs.String.{string_bytes}
use Rattle.graphql_frontend.specs.declared.texts.SourceText.{SourceText}
use Rattle.graphql_blanks.specs.Blanks.{part_text}
use Rattle.graphql_kept_projects.proofs.SchemaLemmas.{error_in_part}
use Rattle.graphql_kept_projects.proofs.schema_parts.error_in.Goals as goal

pub returns-in-Some-found : goal.returns-in-Some-found
returns-in-Some-found c =
    let found : c.syntax_error_of.result ≡ Ok (Some c.in-Some-found.error) = search rules in
    let bytes : string_bytes c.in-Some.text ≡ part_text c.args.source.text.now c.args.part.start c.args.part.end = search rules in
    let of_part : SourceText = record { file_id = c.args.source.file_id; text = c.as_str.result } in
    error_in_part c.args.bounds c.args.source of_part c.args.part.start c.args.part.end _ refl (c.as_str.ensures.value ∙ bytes)
    (record {
      file_is = refl;
      is_no_document = c.syntax_error_of.ensures.refused c.in-Some-found.error found;
      error_is = c.syntax_error_of.ensures.why c.in-Some-found.error found;
    })
