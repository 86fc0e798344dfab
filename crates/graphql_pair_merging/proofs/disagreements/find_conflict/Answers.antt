use Rattle.std.proofs.Common.{◌≡◌, rules, subst}
use Rattle.graphql_documents.specs.declared.documents.executables.Field.{Field}
use Rattle.graphql_nodes.specs.Names.{SameName}
use Rattle.graphql_pair_merging.proofs.ArgumentNumberLemmas.{same_of_one_number}
use Rattle.graphql_pair_merging.proofs.disagreements.find_conflict.Goals as goal

pub returns-then-eq : goal.returns-then-eq
returns-then-eq c numbers =
    let first = c.args.first in
    let second = c.args.second in
    let one : first.arguments ≡ second.arguments = search rules in
    let same : SameName c.deref.result.now.name c.deref-then-first-second.result.now.name = search rules in
    record {
      name = subst (λ (f : Field). SameName f.name second.field.field.now.value.value.name) c.deref.ensures
          (subst (λ (f : Field). SameName c.deref.result.now.name f.name) c.deref-then-first-second.ensures same);
      arguments = same_of_one_number first second numbers one;
    }
