use Rattle.std.proofs.Common.{◌≡◌, [], ◌∷◌, ◌++◌, Some, ap, subst, sym, ◌∙◌}
use Rattle.std.specs.Prelude.{slice_get}
use Rattle.graphql_schemas.proofs.TypeMapLemmas.{fit_out, taken_out}
use Rattle.graphql_schemas.specs.TypeMapChanges.{FitBack, restored}
use Rattle.graphql_schemas.specs.declared.type_map.RemovedType.{RemovedType}
use Rattle.graphql_schemas.proofs.type_map.take_out.Goals as goal

pub returns-clause-back : goal.returns-clause-back
returns-clause-back c =
    let r : RemovedType = record { index = c.args.index; name = c.unwrap-name.result.0; definition = c.unwrap-name.result.1 } in
    let old = c.args.removed.now.items in
    let types = c.args.types.now.entries in
    let pushed : c.push.new.self.items ≡ old ++ r ∷ [] = rw c.unwrap.ensures at c.push.ensures.items in
    let at : slice_get types r.index ≡ Some (r.name, r.definition) = sym c.shift_remove_index.ensures.entry ∙ c.unwrap-name.ensures in
    ap (λ rs. restored rs c.shift_remove_index.new.self.entries) pushed ∙ ap (restored (old ++ r ∷ [])) c.shift_remove_index.ensures.entries ∙ taken_out old r types at

pub returns-clause-fit : goal.returns-clause-fit
returns-clause-fit c fit =
    let r : RemovedType = record { index = c.args.index; name = c.unwrap-name.result.0; definition = c.unwrap-name.result.1 } in
    let old = c.args.removed.now.items in
    let types = c.args.types.now.entries in
    let pushed : c.push.new.self.items ≡ old ++ r ∷ [] = rw c.unwrap.ensures at c.push.ensures.items in
    let at : slice_get types r.index ≡ Some (r.name, r.definition) = sym c.shift_remove_index.ensures.entry ∙ c.unwrap-name.ensures in
    subst (λ rs. FitBack rs c.shift_remove_index.new.self.entries) (sym pushed)
    (subst (FitBack (old ++ r ∷ [])) (sym c.shift_remove_index.ensures.entries) (fit_out old r types at fit))
