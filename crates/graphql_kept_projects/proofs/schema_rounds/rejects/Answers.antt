use Rattle.std.proofs.Common.{subst, sym}
use Rattle.graphql_frontend.specs.Schemas.{ReadsSchema}
use Rattle.graphql_kept_projects.specs.Schemas.{AreTextsLeft}
use Rattle.graphql_kept_projects.proofs.SchemaLemmas.{texts_left}
use Rattle.graphql_kept_projects.proofs.schema_rounds.rejects.Goals as goal

pub returns-in-Rejected : goal.returns-in-Rejected
returns-in-Rejected c = λ whole left.
    let sources = texts_left whole c.args.left.now.texts.items c.in_ok-sources.sources.items left c.in_ok-sources.ensures in
    record {
      left = c.deref.result.now;
      are_left = subst (AreTextsLeft whole) (sym c.deref.ensures.value) sources;
      reads = subst (ReadsSchema c.args.bounds c.deref.result.now) c.in-Rejected.is c.in_ok-reading.ensures.reads;
    }
