use Rattle.std.proofs.Common.{◌≡◌, ◌++◌, ◌∷◌, [], List, length, sym, ap, subst, ◌∙◌}
use Rattle.graphql_name_tables.proofs.PlaceLemmas.{nothing_found, places_push}
use Rattle.std.specs.Prelude.{find}
use Rattle.graphql_nodes.specs.Names.{same_name}
use Rattle.graphql_name_tables.specs.Places.{AddsPlace, HasPlaces}
use Rattle.graphql_name_tables.proofs.by_name.ByName.grow.Goals as goal
use Rattle.graphql_name_tables.proofs.by_name.ByName.grow.Goals.{in-Some+in_ok-add_if_new-in-Some, in-None, in-None-2+in_ok-first_places-in-None-2}

pub invariant_of-self-2 : goal.invariant_of-self-2
invariant_of-self-2 g c places is =
    let name_of = g.T.Named.name_of in
    let known = c.self.inside.elements.now in
    let x = c.args.last.now in
    let grown : known ++ x ∷ [] ≡ c.args.elements.now = ap (λ (l : List g.row.T.Denot). l ++ x ∷ []) c.self.view_is ∙ sym c.requires in
    elim c.match-take.branch [
      | in-Some+in_ok-add_if_new-in-Some w ↦
          let old = w.in-Some.places in
          let new = w.add_if_new.new.places in
          let has : HasPlaces name_of old known = c.self.invariant old (sym c.take.ensures.value ∙ w.in-Some.is) in
          let adds : AddsPlace old new (name_of x) (length known) =
          subst (λ name. AddsPlace old new name (length known)) w.name-in-Some.ensures w.in_ok-add_if_new-in-Some.ensures in
          let same : new ≡ places = cc in
          subst (λ table. HasPlaces name_of table c.args.elements.now) same
          (subst (HasPlaces name_of new) grown (places_push name_of known x adds has))
      | in-None w ↦ absurd (let no : ⊥ = cc in no)
      | in-None-2+in_ok-first_places-in-None-2 w ↦
          let same : w.in_ok-first_places-in-None-2.field-0 ≡ places = cc in
          subst (λ table. HasPlaces name_of table c.args.elements.now) same w.in_ok-first_places-in-None-2.ensures
    ]

pub returns-clause-first : goal.returns-clause-first
returns-clause-first g c =
    let name_of = g.T.Named.name_of in
    nothing_found c.find.result (find (λ x. same_name (name_of x) (name_of c.args.last.now)) c.args.self.now) c.is_none-is_first.result
    (c.find.ensures ∙ ap (λ name. find (λ x. same_name (name_of x) name) c.args.self.now) c.name.ensures) c.is_none-is_first.ensures
