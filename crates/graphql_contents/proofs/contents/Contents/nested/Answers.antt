use Rattle.std.proofs.Common.{subst, sym}
use Rattle.graphql_contents.specs.Contents.{AreNumbered, nested_selections}
use Rattle.graphql_contents.specs.Tables.{contents_of}
use Rattle.graphql_contents.proofs.TableLemmas.{nested_found}
use Rattle.graphql_contents.proofs.contents.Contents.nested.Goals as goal

pub returns-in-Some : goal.returns-in-Some
returns-in-Some c s has =
    let contents = contents_of c.args.self.now in
    subst (AreNumbered contents (nested_selections s)) (sym c.deref.ensures.value)
    (nested_found contents c.args.self.now.table s c.args.number c.in-Some.content.now has (sym c.in-Some.ensures.key))
