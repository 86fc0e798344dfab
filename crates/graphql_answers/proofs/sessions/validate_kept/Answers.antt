use Rattle.std.proofs.Common.{◌≡◌, ◌∙◌, None, ap, sym}
use Rattle.graphql_schema_handles.specs.Held.{boxed}
use Rattle.graphql_schema_handles.specs.declared.handle.SchemaHandle.{SchemaHandle}
use Rattle.graphql_answers.specs.Sessions.{schema_in}
use Rattle.graphql_answers.proofs.SessionLemmas.{refused_without}
use Rattle.graphql_answers.proofs.sessions.validate_kept.Goals as goal

pub returns-in-None-clause-refused : goal.returns-in-None-clause-refused
returns-in-None-clause-refused c =
    let nothing : c.args.handle.now.kept ≡ None = ap (λ (h : SchemaHandle). h.kept) (sym c.replace.ensures.value) ∙ sym c.open.ensures ∙ ap boxed c.in-None.is in
    refused_without (schema_in c.args.handle.now.kept) c.args.document.now (ap schema_in nothing)
