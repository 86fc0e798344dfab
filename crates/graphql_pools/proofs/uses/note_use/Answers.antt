use Rattle.std.proofs.Common.{ap, sym}
use Rattle.graphql_documents.specs.declared.documents.executables.Fragment.{Fragment}
use Rattle.graphql_variables.specs.Uses.{names_of}
use Rattle.graphql_pools.proofs.UseLemmas.{notes_none, notes_one}
use Rattle.graphql_pools.proofs.uses.note_use.Goals as goal

pub returns-in_ok-insert-in-Some : goal.returns-in_ok-insert-in-Some
returns-in_ok-insert-in-Some c =
    notes_one c.args.pool.now c.args.name.now c.in-Some.fragment.now c.args.used.now.keys c.insert.new.self.keys _ (sym c.in-Some.ensures.value)
    (ap (λ (f : Fragment). f.name) c.deref.ensures) c.in_ok-insert-in-Some.ensures.keys

pub returns-in-None : goal.returns-in-None
returns-in-None c = notes_none c.args.pool.now c.args.name.now (names_of c.args.used.now.keys) (sym c.in-None.ensures.value)
