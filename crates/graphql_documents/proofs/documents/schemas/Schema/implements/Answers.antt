use Rattle.std.proofs.Common.{sym, subst, ◌∙◌}
use Rattle.std.proofs.lemmas.Option.{same_Some}
use Rattle.graphql_documents.specs.Schemas.{IsListed, interfaces_of}
use Rattle.graphql_documents.proofs.documents.schemas.Schema.implements.Goals as goal

pub returns-in-Some : goal.returns-in-Some
returns-in-Some c =
    let defined = sym c.in-Some.ensures.value in (
      λ asked. record { definition = c.in-Some.definition.now; defined = defined; lists = c.lists_interface.ensures.0 asked },
      λ i. c.lists_interface.ensures.1
          (subst (λ d. IsListed c.args.interface.now (interfaces_of d)) (same_Some i.definition c.in-Some.definition.now (sym i.defined ∙ defined)) i.lists),
    )
