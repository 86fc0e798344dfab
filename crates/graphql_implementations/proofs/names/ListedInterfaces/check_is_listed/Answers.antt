use Rattle.std.proofs.Common.{refl, sym, ◌∙◌, true≢false}
use Rattle.graphql_specification.specs.Implementations.{of_transitive_interface}
use Rattle.graphql_documents.specs.Schemas.{IsListed}
use Rattle.graphql_diagnostics.proofs.ReportLemmas.{checks-push, holds}
use Rattle.graphql_documents.proofs.SubtypeLemmas.{listed_asked}
use Rattle.graphql_implementations.proofs.names.ListedInterfaces.check_is_listed.Goals as goal

pub returns-then-contains : goal.returns-then-contains
returns-then-contains c =
    holds _ _ _ ((listed_asked c.args.self.now.names.now.keys c.args.further.now.name).0 (sym c.contains.ensures ∙ c.if-contains.true))

pub returns : goal.returns
returns c =
    let lacks : ¬ IsListed c.args.further.now.name c.args.self.now.names.now.keys =
    λ listed. true≢false (sym ((listed_asked c.args.self.now.names.now.keys c.args.further.now.name).1 listed) ∙ sym c.contains.ensures ∙ c.if-contains.false) in
    checks-push _ _ _ _ _ _ c.push.ensures.ok c.push.ensures.err lacks
    (of_transitive_interface (record {
      listed = c.args.listed.now;
      via_interface = c.requires.0;
      further = c.args.further.now;
      is_listed = c.requires.1;
      lists_further = c.requires.2;
      lacks = lacks;
      interface_is = c.in_ok-interface.ensures.cases;
      via_is = c.in_ok-via_interface.ensures.cases;
      missing_is = c.in_ok-missing_interface.ensures.cases;
      transitive_location_is = c.location.ensures;
      at_is = refl;
    }))
