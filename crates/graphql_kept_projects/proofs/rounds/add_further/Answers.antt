use Rattle.graphql_kept_projects.specs.Left.{AreFurther, AreTrueOfFragments, AreTrueOfOne, of_fragments, of_one}
use Rattle.graphql_kept_projects.proofs.LeftLemmas.{on_ok, zip_all}
use Rattle.graphql_project_checking.proofs.TruthLemmas.{adds_so, adds_then}
use Rattle.graphql_kept_projects.proofs.rounds.add_further.Goals as goal

pub returns-then-is_empty : goal.returns-then-is_empty
returns-then-is_empty c =
    let b = c.args.bounds in
    let s = c.args.schema.now in
    let read = c.args.read.now in
    on_ok c.add_unreached.result _ _
    (adds_so (AreTrueOfFragments b s read) (AreFurther b s read) c.args.found.now.lists.items c.add_unreached.new.found.lists.items (λ r true. of_fragments true))
    (c.add_unreached.ensures read (zip_all read))

pub returns : goal.returns
returns c =
    let b = c.args.bounds in
    let s = c.args.schema.now in
    let read = c.args.read.now in
    let old = c.args.found.now.lists.items in
    let mid = c.add_all_certain.new.found.lists.items in
    let new = c.add_rounds.new.found.lists.items in
    let Further = AreFurther b s read in
    on_ok c.add_rounds.result _ _
    (adds_then Further old mid new (adds_so (AreTrueOfOne b read) Further old mid (λ r one. of_one one) c.in_ok-add_all_certain.ensures)) c.add_rounds.ensures
